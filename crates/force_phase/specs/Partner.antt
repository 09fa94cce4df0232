-- The entries of a list as a kernel sees them.
use Rattle.std.specs.Prelude.{ℕ, Bool, true, not, List, Option, Some, None, map, filter, nat_eq}
use Rattle.pf_geom.specs.declared.edge.Edge.{Edge}
use Rattle.pf_model.specs.declared.entry.Entry.{Entry}
use Rattle.pf_model.specs.declared.entry.Entry.TheVariants.{Cell, One}
use Rattle.pf_model.specs.Particle.{Particle}
use Rattle.pf_model.specs.Interaction.{entry_source}
use Rattle.kern_tree.specs.declared.kernel.Kernel.{Kernel}
use Rattle.kern_meaning.specs.declared.value.Value.{Value}
use Rattle.kern_meaning.specs.Pair.{OrPairStop, pair_of}
use Rattle.run_model.specs.Force.{received, exerted}
use Rattle.force_phase.specs.declared.partner.Partner.{Partner}

-- the id of an entry that is a particle
abbrev pub entry_id : Entry → Option ℕ
entry_id (Cell c m) = None
entry_id (One p) = Some p.id

-- an entry with its item
abbrev pub partner_of : Entry → Partner
partner_of e = record { id = entry_id e; item = entry_source e }

-- not the particle of this id
abbrev pub is_another : ℕ → Option ℕ → Bool
is_another id None = true
is_another id (Some own) = not (nat_eq own id)

-- what the partner gives the particle by the kernel, or the first fault
abbrev pub pair_by : Edge → Kernel → Particle → Partner → OrPairStop (List (Option Value))
pair_by edge kernel i p = pair_of kernel (received edge i) (exerted edge i.at p.item)

-- the pairs of a particle with partners, in their order, itself left out
abbrev pub pairs_by : Edge → Kernel → Particle → List Partner → List (OrPairStop (List (Option Value)))
pairs_by edge kernel i partners = map (pair_by edge kernel i) (filter (λ p. is_another i.id p.id) partners)
