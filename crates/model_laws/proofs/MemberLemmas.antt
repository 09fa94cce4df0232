-- The particles in a cell.
use Rattle.std.proofs.Common.{◌≡◌, true, List, sym, ap}
use Rattle.std.specs.List.{Contains}
use Rattle.std.proofs.lemmas.Bool.{eqb-true, eq-eqb, and_parts, and_from}
use Rattle.pf_geom.specs.Octant.{Octant, cell_at, IsIn}
use Rattle.pf_model.specs.Particle.{Particle}
use Rattle.pf_model.specs.Interaction.{is_cell}
use Rattle.pf_model.specs.Group.{particles_in}
use Rattle.order_laws.proofs.ElementLemmas.{kept_from_filter, kept_in_filter}
use Rattle.pf_model.proofs.EntryLemmas.{same_cell}

-- the cells that the test takes for one are one
pub same_from_is_cell : (c d : Octant) → is_cell c d ≡ true → c ≡ d
same_from_is_cell c d e = same_cell c d (eqb-true c.level d.level (and_parts _ _ e).0) (eqb-true c.key d.key (and_parts _ _ e).1)

pub is_cell-from_same : (c d : Octant) → c ≡ d → is_cell c d ≡ true
is_cell-from_same c d e = and_from _ _ (eq-eqb c.level d.level (ap (λ (o : Octant). o.level) e)) (eq-eqb c.key d.key (ap (λ (o : Octant). o.key) e))

-- the particles in a cell
pub in_cell : (c : Octant) (js : List Particle) (j : Particle) → Contains (particles_in c js) j → Contains js j × IsIn j.at c
in_cell c js j h =
    let both = kept_from_filter (λ (i : Particle). is_cell c (cell_at i.at c.level)) j js h in
    (both.0, sym (same_from_is_cell c (cell_at j.at c.level) both.1))

pub cell_has : (c : Octant) (js : List Particle) (j : Particle) → Contains js j → IsIn j.at c → Contains (particles_in c js) j
cell_has c js j h e = kept_in_filter (λ (i : Particle). is_cell c (cell_at i.at c.level)) j js h (is_cell-from_same c (cell_at j.at c.level) (sym e))
