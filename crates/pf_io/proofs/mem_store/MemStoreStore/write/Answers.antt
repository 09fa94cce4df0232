use Rattle.std.proofs.Common.{◌≡◌, ◌++◌, take}
use Rattle.pf_io.specs.contracts.mem_store.MemStore.{the_view}
use Rattle.pf_io.proofs.mem_store.MemStoreStore.write.Goals as goal
use Rattle.pf_io.proofs.FilesByName.{IsFirst, file, first_is, first_written, is_first, told_written}

-- the sink's file, and what is written to it
first : (c : goal.Else-is_err) → IsFirst c.self.inside.files.items c.in-Some.i c.index_mut.result.now
first c = first_is _ _ _ c.index_mut.ensures.value (rw c.in-Some.is at c.self.invariant.1)

appended : (c : goal.Else-is_err)
    → c.append.new.self ≡ file c.index_mut.result.now.name (c.index_mut.result.now.bytes ++ take c.min-n.result c.args.piece.now)
appended c = rw c.if-is_err.ensures.negation at c.append.ensures

pub invariant_of-self-then-not-fails : goal.invariant_of-self-then-not-fails
invariant_of-self-then-not-fails c =
    (c.self.invariant.0, rw (c.in-Some.is, appended c) (is_first _ _ _ (first_written _ _ _ _ (first c))))

pub returns-else-is_err-clause-written : goal.returns-else-is_err-clause-written
returns-else-is_err-clause-written c =
    rw (← c.self.view_is, appended c) (told_written (the_view c.self.inside) _ _ _ c.in-Some.is (first c))
