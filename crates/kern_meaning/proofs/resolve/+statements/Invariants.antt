use Rattle.std.proofs.Common.{◌≡◌, ◌++◌, drop}
use Rattle.kern_meaning.specs.Links.{links_of_block}
use Rattle.kern_meaning.proofs.resolve.+statements.Given as goal

abbrev pub invariant-block_links-loop-stmt : goal.invariant-block_links-loop-stmt
invariant-block_links-loop-stmt l = l.links.items ++ links_of_block l.names l.decls (drop l.stmt-index l.block) ≡ links_of_block l.names l.decls l.block
