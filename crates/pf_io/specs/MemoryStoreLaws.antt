-- The sink of a store in memory is one of its files.
use Rattle.std.specs.Prelude.{ℕ, zero, suc, ◌≡◌, Bool, true, false, cond, List, [], ◌∷◌, Option, Some, None, option_map, option_and_then, is_some, IfSome, IsSome, slice_get, find, refl}
use Rattle.std.specs.Str.{bytes_eq}
use Rattle.std.proofs.Common.{subst, sym}
use Rattle.std.proofs.lemmas.Slice.Eq.{bytes_eq-Decides}
use Rattle.std.proofs.lemmas.Option.{IfSome_then}
use Rattle.pf_io.specs.MemoryStore.{NamedBytes, MemoryStore, contents_of, sink_of}

-- whether there is a sink is told by its name
pub names_sink : (s : MemoryStore) → is_some (option_map (λ (f : NamedBytes). f.name) (sink_of s)) ≡ is_some (sink_of s)
names_sink s = is_some-map (sink_of s) where
  is_some-map : (sink : Option NamedBytes) → is_some (option_map (λ (f : NamedBytes). f.name) sink) ≡ is_some sink
  is_some-map None = refl
  is_some-map (Some f) = refl

-- under the name of a file that is there are contents
contents_there : (files : List NamedBytes) (i : ℕ) → IfSome (slice_get files i) (λ f. IsSome (contents_of files f.name))
contents_there [] i = tt
contents_there (g ∷ files) zero =
    subst
    (λ (first : Bool). IsSome (option_map (λ (f : NamedBytes). f.bytes)
    (cond first (Some g) (find (λ x. bytes_eq g.name x.name) files))))
    (sym ((bytes_eq-Decides g.name g.name).1 refl))
    refl
contents_there (g ∷ files) (suc i) =
    IfSome_then (slice_get files i) (contents_there files i)
    (λ (f : NamedBytes) there. or_first (bytes_eq f.name g.name) (find (λ x. bytes_eq f.name x.name) files) there)
  where
    or_first : (first : Bool) (other : Option NamedBytes) → IsSome (option_map (λ (f : NamedBytes). f.bytes) other)
        → IsSome (option_map (λ (f : NamedBytes). f.bytes) (cond first (Some g) other))
    or_first true other there = refl
    or_first false other there = there

pub has_sink_among : (s : MemoryStore)
    → IfSome (option_map (λ (f : NamedBytes). f.name) (sink_of s)) (λ name. IsSome (contents_of s.files name))
has_sink_among s = by_place s.sink where
  named : (sink : Option NamedBytes) → IfSome sink (λ f. IsSome (contents_of s.files f.name))
      → IfSome (option_map (λ (f : NamedBytes). f.name) sink) (λ name. IsSome (contents_of s.files name))
  named None there = tt
  named (Some f) there = there

  by_place : (place : Option ℕ)
      → IfSome (option_map (λ (f : NamedBytes). f.name) (option_and_then (slice_get s.files) place))
      (λ name. IsSome (contents_of s.files name))
  by_place None = tt
  by_place (Some i) = named (slice_get s.files i) (contents_there s.files i)
