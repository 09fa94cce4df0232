use Rattle.std.proofs.Common.{sym, subst, ◌∙◌, arith}
use Rattle.std.specs.List.{All}
use Rattle.pf_model.specs.declared.entry.Entry.{Entry}
use Rattle.pf_model.specs.Interaction.{members_of}
use Rattle.pf_model.specs.Reuse.{present_entry, kept_list}
use Rattle.plain_run.specs.Lists.{HasMembers}
use Rattle.plain_run.proofs.StepLemmas.{pushed_next, pushed_end}
use Rattle.plain_run.proofs.KeptLemmas.{kept_have_members}
use Rattle.plain_run.proofs.kept.kept_list.Goals as goal

pub loop-entry-preserved : goal.loop-entry-preserved
loop-entry-preserved c =
    pushed_next (λ (e : Entry). present_entry c.args.now.now (members_of c.args.theta c.args.around c.args.built.now e) e) c.deref-entry-items.result.now c.loop-entry.entry-index c.entry-item.result _ _ _ c.loop-entry-test.true c.entry-item.is
    c.loop-entry.invariant c.in_ok-present_entry.ensures c.in_ok-push.ensures.items

pub returns-clause-value : goal.returns-clause-value
unfolding kept_list
returns-clause-value c =
    pushed_end (λ (e : Entry). present_entry c.args.now.now (members_of c.args.theta c.args.around c.args.built.now e) e) c.deref-entry-items.result.now _ c.loop-entry.entry-index _ (omega arith)
    c.loop-entry.invariant (c.deref-entry-items.ensures.value ∙ c.in_ok-entries.ensures)

pub returns-clause-some : goal.returns-clause-some
unfolding kept_list
returns-clause-some c =
    subst (All HasMembers)
    (sym (pushed_end (λ (e : Entry). present_entry c.args.now.now (members_of c.args.theta c.args.around c.args.built.now e) e) c.deref-entry-items.result.now _ c.loop-entry.entry-index _ (omega arith)
    c.loop-entry.invariant (c.deref-entry-items.ensures.value ∙ c.in_ok-entries.ensures)))
    (kept_have_members c.lists_hold_their_entries.ensures c.args.theta c.args.around c.args.built.now c.args.now.now c.requires.built.distinct c.requires.same)
