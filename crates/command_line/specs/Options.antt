-- A function of several values, each of which may be missing.
use Rattle.std.specs.Prelude.{Option, Some, None, option_map}

abbrev pub with_two : {A B C : Type 0} → (A → B → C) → Option A → Option B → Option C
with_two f None b = None
with_two f (Some a) b = option_map (f a) b

abbrev pub with_three : {A B C D : Type 0} → (A → B → C → D) → Option A → Option B → Option C → Option D
with_three f None b c = None
with_three f (Some a) b c = with_two (f a) b c
