use Rattle.std.proofs.Common.{ℕ, ◌<◌, List, length, sym, subst}
use Rattle.std.specs.List.{All}
use Rattle.step_core.specs.Core.{StandingCore, numbered_groups}
use Rattle.step_core.proofs.CoreLemmas.{kept_finished}
use Rattle.step_core.proofs.the_core.Core.finished.Goals as goal

pub returns-clause-groups : goal.returns-clause-groups
returns-clause-groups c =
    let P : List ℕ → Type 0 = All (λ group. group < length (numbered_groups c.args.self.now.settings)) in
    let Q : StandingCore → Type 0 = λ v. All (λ group. group < length (numbered_groups v.settings)) c.self.inside.progress.finished in
    subst P (sym c.finished.ensures) (subst Q c.self.view_is (kept_finished c.self.inside.scene c.self.inside.progress c.self.inside.lists.items c.self.invariant))
