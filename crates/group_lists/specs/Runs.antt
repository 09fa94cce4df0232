-- Entries in the making: what runs of a source's items lead to, before they are put in order.
use Rattle.std.specs.Prelude.{◌≡◌, List, Contains}
use Rattle.pf_geom.specs.Bounds.{Bounds}
use Rattle.pf_model.specs.declared.entry.Entry.{Entry}
use Rattle.pf_model.specs.Particle.{Particle}
use Rattle.pf_model.specs.Criterion.{Criterion}
use Rattle.pf_model.specs.Interaction.{entry_of}

-- the entries that the particles lead to, in any order, and maybe more than once
pub record HasEntriesOf (t : Criterion) (box : Bounds) (js : List Particle) (es : List Entry) : Type 0 where
  pub complete : (j : Particle) → Contains js j → Contains es (entry_of t box js j)
  pub sound : (e : Entry) → Contains es e → (j : Particle) × Contains js j × (e ≡ entry_of t box js j)
