-- What a rank sends again of an essential tree: its items as they are now.
use Rattle.std.specs.Prelude.{◌≡◌, ℕ, ◌⊎◌, List, [], map}
use Rattle.pf_geom.specs.Bounds.{Bounds}
use Rattle.pf_model.specs.declared.entry.Entry.{Entry}
use Rattle.pf_model.specs.Particle.{Particle}
use Rattle.pf_model.specs.Criterion.{Criterion}
use Rattle.pf_model.specs.Interaction.{list_of, members_of}
use Rattle.pf_model.specs.Reuse.{present_entry}
use Rattle.essential_tree.specs.declared.sent.Sent.{Sent}
use Rattle.essential_tree.specs.Sending.{IsSentOf}

-- the present values of an essential tree's items as clauses see them
pub record Renewal : Type 0 where
  pub src : ℕ
  pub dst : ℕ
  pub values : List Entry

-- what is kept of an essential tree that was sent: its items are the list of a box over the particles js of the
-- sender, or it is empty
pub record IsKeptOf (t : Criterion) (box : Bounds) (js : List Particle) (items : List Entry) (s : Sent) : Type 0 where
  pub sent : IsSentOf t box js items s
  pub whole : (items ≡ list_of t box js) ⊎ (items ≡ [])

-- items over the particles js of a build as they are now
abbrev pub present_items : Criterion → Bounds → List Particle → List Particle → List Entry → List Entry
present_items t box js now items = map (λ f. present_entry now (members_of t box js f) f) items
