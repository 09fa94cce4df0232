-- What is kept of the entries of a list that is sent.
use Rattle.std.proofs.Common.{◌≡◌, ℕ, ◌+◌, ◌<◌, List, [], ◌∷◌, ◌++◌, length, get_or, take, refl, sym, ◌∙◌, ap}
use Rattle.std.proofs.lemmas.List.{take_more}
use Rattle.pf_geom.specs.Bounds.{Bounds}
use Rattle.pf_geom.specs.Octant.{Octant}
use Rattle.pf_model.specs.declared.entry.Entry.{Entry}
use Rattle.pf_model.specs.declared.entry.Entry.TheVariants.{Cell, One}
use Rattle.pf_model.specs.Particle.{Particle}
use Rattle.pf_model.specs.Criterion.{Criterion}
use Rattle.tree_lists.specs.Members.{AreSpansOf}
use Rattle.essential_tree.specs.declared.sent.Sent.{Sent}
use Rattle.essential_tree.specs.Sending.{cells_among, IsSentOf}

-- the cells among entries, one entry after another
cells_push : (es : List Entry) (e : Entry) → cells_among (es ++ e ∷ []) ≡ cells_among es ++ cells_among (e ∷ [])
cells_push [] e = refl
cells_push (Cell c m ∷ es) e = ap (λ (cs : List Octant). c ∷ cs) (cells_push es e)
cells_push (One p ∷ es) e = cells_push es e

pub cells_more : (es : List Entry) (i : ℕ) (e : Entry) (cs : List Octant) → i < length es → e ≡ get_or es i e → cs ≡ cells_among (take i es) → cs ++ cells_among (e ∷ []) ≡ cells_among (take (i + 1) es)
cells_more es i e cs within at is =
    ap (λ (ds : List Octant). ds ++ cells_among (e ∷ [])) is ∙ sym (cells_push (take i es) e)
    ∙ ap (λ (f : Entry). cells_among (take i es ++ f ∷ [])) at ∙ ap cells_among (sym (take_more es i e within))

-- the cells and the spans of the members together
pub sent_from_spans : (t : Criterion) (box : Bounds) (js : List Particle) (es : List Entry) (s : Sent) → s.cells.items ≡ cells_among es → AreSpansOf t box js es s.spans.items → IsSentOf t box js es s
sent_from_spans t box js es s cells spans = record { cells = cells; inside = spans.inside; members = spans.members }
