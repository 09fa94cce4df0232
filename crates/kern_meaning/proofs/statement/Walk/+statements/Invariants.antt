use Rattle.std.proofs.Common.{◌≡◌, ◌+◌, drop}
use Rattle.kern_meaning.specs.Links.{links_of_block}
use Rattle.kern_meaning.specs.Names.{known_at_start}
use Rattle.kern_meaning.specs.Pair.{block_meaning}
use Rattle.kern_meaning.specs.Walks.{HavePlaces, assigned_in, pair_state}
use Rattle.kern_meaning.proofs.statement.Walk.+statements.Given as goal

abbrev pub invariant-block-loop-stmt : goal.invariant-block-loop-stmt
invariant-block-loop-stmt l = record {
  ran :
      (block_meaning l.self.decls.now l.self.coincident l.block).run l.fn.first l.fn.before (pair_state (known_at_start l.self.decls.now l.self.i.now l.self.j.now) l.self.names.now l.fn.values l.fn.slots)
      ≡ (block_meaning l.self.decls.now l.self.coincident (drop l.stmt-index l.block)).run l.number l.slot (pair_state (known_at_start l.self.decls.now l.self.i.now l.self.j.now) l.self.names.now l.values l.slots);
  numbers : l.number + (block_meaning l.self.decls.now l.self.coincident (drop l.stmt-index l.block)).count ≡ l.fn.first + (block_meaning l.self.decls.now l.self.coincident l.block).count;
  counts : l.slot + (block_meaning l.self.decls.now l.self.coincident (drop l.stmt-index l.block)).slots ≡ l.fn.before + (block_meaning l.self.decls.now l.self.coincident l.block).slots;
  links : l.rest ≡ links_of_block l.self.names.now l.self.decls.now (drop l.stmt-index l.block);
  places : HavePlaces l.self.names.now l.values (assigned_in (drop l.stmt-index l.block));
}
