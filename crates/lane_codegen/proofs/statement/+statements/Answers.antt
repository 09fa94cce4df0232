use Rattle.std.proofs.Common.{arith, refl}
use Rattle.kern_types.proofs.Acts.{block_smaller, other_smaller}
use Rattle.lane_codegen.proofs.StatementLemmas.{both_written, gift_is, none_written, on_ok}
use Rattle.lane_codegen.proofs.statement.+statements.Goals as goal

pub act_code-returns-in_default : goal.act_code-returns-in_default
act_code-returns-in_default t c =
    none_written c.args.decls.now c.args.act.now c.in-If.condition c.in-If.body c.in-If.others _ _ c.in-If.is refl refl c.args.under c.args.table.now.items c.args.writer.now c.deref-in-If.result.now c.deref-in-If.ensures.value _ _ c.in_ok-place-in-If.ensures.0 c.in_ok-place-in-If.ensures.1
    c.in_default.field-0 c.in_default.field-1 c.in_default.field-2 c.in_default.is

pub act_code-block_code-requires : goal.act_code-block_code-requires
act_code-block_code-requires t c =
    (omega (arith, c.decreases, block_smaller c.in-If.condition c.in-If.body c.in-If.others c.as_slice.result.now c.args.act.now c.in-If.is c.as_slice.ensures), tt)

pub act_code-block_code-requires-in-If : goal.act_code-block_code-requires-in-If
act_code-block_code-requires-in-If t c =
    (omega (arith, c.decreases, other_smaller c.in-If.condition c.in-If.body c.in-If.others c.as_slice-in-If.result.now c.args.act.now c.in-If.is c.as_slice-in-If.ensures), tt)

pub act_code-returns-in-Give : goal.act_code-returns-in-Give
act_code-returns-in-Give t c =
    on_ok c.give_code.result
    (gift_is c.args.decls.now c.args.act.now c.in-Give.field-0 c.in-Give.value c.args.under c.args.table.now.items c.deref.result.now c.args.writer.now c.give_code.new.writer c.in-Give.is c.deref.ensures.value)
    c.give_code.ensures

pub act_code-returns-in_ok-block_code-in-If : goal.act_code-returns-in_ok-block_code-in-If
act_code-returns-in_ok-block_code-in-If t c =
    on_ok c.block_code-in-If.result
    (both_written c.args.decls.now c.args.act.now c.in-If.condition c.in-If.body c.in-If.others c.as_slice.result.now c.as_slice-in-If.result.now c.in-If.is c.as_slice.ensures c.as_slice-in-If.ensures c.args.under c.args.table.now.items c.args.writer.now c.deref-in-If.result.now c.deref-in-If.ensures.value _ _ c.in_ok-place-in-If.ensures.0 c.in_ok-place-in-If.ensures.1
    c.in-Condition.mask c.in_ok-rest-in-If.rest c.mask.new.self _ _ c.in-Condition.is c.in_ok-rest-in-If.ensures.register c.in_ok-rest-in-If.ensures.code c.in_ok-block_code-in-If.ensures)
    c.block_code-in-If.ensures
