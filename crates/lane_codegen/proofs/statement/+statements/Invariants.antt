use Rattle.std.proofs.Common.{◌≡◌, drop}
use Rattle.lane_codegen.specs.Statements.{block_code}
use Rattle.lane_codegen.proofs.statement.+statements.Given as goal

abbrev pub invariant-block_code-loop-stmt : goal.invariant-block_code-loop-stmt
invariant-block_code-loop-stmt l =
    block_code l.decls l.block l.under (record { table = l.fn.table.items; code = l.fn.writer })
    ≡ block_code l.decls (drop l.stmt-index l.block) l.under (record { table = l.table.items; code = l.writer })
