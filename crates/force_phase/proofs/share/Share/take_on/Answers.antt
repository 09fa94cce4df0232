use Rattle.std.proofs.Common.{◌≡◌, Bool, false, Result, Ok, Err, is_err, [], ◌∷◌, ◌++◌, sym, ap, subst, ◌∙◌, flat_map}
use Rattle.std.specs.Prelude.{OnOk}
use Rattle.force_phase.specs.Finished.{IsFoundIn}
use Rattle.force_phase.specs.Working.{groups_at}
use Rattle.force_phase.proofs.FoundLemmas.{group_exists}
use Rattle.force_phase.proofs.GroupNumbers.{groups_more}
use Rattle.force_phase.proofs.share.Share.take_on.Goals as goal

unless_refused : {X E : Type 0} (P : Type 0) (r : Result X E) (refused : Bool) → refused ≡ is_err r → refused ≡ false → OnOk r P → P
unless_refused P (Ok x) refused is not p = p
unless_refused P (Err e) refused is not p = absurd (cc)

pub returns-then-not-self-clause-finished : goal.returns-then-not-self-clause-finished
returns-then-not-self-clause-finished g c = λ edge was.
    let groups = flat_map g.H.HasLists.has c.args.lists.now in
    let old = c.args.self.now in
    let new = c.finish.new.self in
    let its = group_exists groups c.args.number c.requires.number in
    let before = groups_at groups old.claims.items in
    record {
      work = c.finish.ensures.work;
      edge_is = c.finish.ensures.edge ∙ was.edge_is;
      found = λ ok.
          let claims = unless_refused _ c.finish.result c.is_err-self.result c.is_err-self.ensures.value ok c.finish.ensures.claims in
          let found = unless_refused _ c.finish.result c.is_err-self.result c.is_err-self.ensures.value ok c.finish.ensures.found in
          let now = found its.0 before its.1 (subst (λ e. IsFoundIn e c.args.t.now before old.found) (sym was.edge_is) (was.found c.if-not-self.true)) in
          subst (λ l. IsFoundIn edge c.args.t.now l new.found)
          (sym (ap (groups_at groups) claims ∙ groups_more groups old.claims.items c.args.number its.0 its.1))
          (subst (λ e. IsFoundIn e c.args.t.now (before ++ its.0 ∷ []) new.found) was.edge_is now);
    }
