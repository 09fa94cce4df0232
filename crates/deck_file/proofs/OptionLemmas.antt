-- A value that may be missing, seen through a function.
use Rattle.std.proofs.Common.{◌≡◌, true, false, refl, sym, ap, ◌∙◌, Option, Some, None, option_map, is_some, IsSome}

pub is_some-map : {X Y : Type 0} (f : X → Y) (o : Option X) → is_some (option_map f o) ≡ is_some o
is_some-map f None = refl
is_some-map f (Some x) = refl

pub seen_Some : {X Y : Type 0} (f : X → Y) (o : Option X) (seen : Option Y) → option_map f o ≡ seen → true ≡ is_some o → IsSome seen
seen_Some f o seen is some = sym (ap is_some is) ∙ is_some-map f o ∙ sym some

pub seen_None : {X Y : Type 0} (f : X → Y) (o : Option X) (seen : Option Y) → option_map f o ≡ seen → false ≡ is_some o → seen ≡ None
seen_None f None seen is none = sym is
seen_None f (Some x) seen is none = cc
