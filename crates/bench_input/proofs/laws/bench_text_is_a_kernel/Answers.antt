use Rattle.bench_input.proofs.Reading.{kernel_stands}
use Rattle.bench_input.proofs.Tree.{bench_kernel}
use Rattle.bench_input.proofs.laws.bench_text_is_a_kernel.Goals as goal

pub returns : goal.returns
returns c = (bench_kernel, kernel_stands c.stopped_pieces.ensures c.trees_by_form.ensures.nodes)
