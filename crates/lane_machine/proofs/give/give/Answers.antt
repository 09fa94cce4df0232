use Rattle.std.proofs.Common.{◌<◌, ℕ, length, sym, ◌∙◌, arith, Some, None}
use Rattle.std.proofs.lemmas.Bool.{ne_eqb}
use Rattle.lane_code.specs.Outcome.{given_by}
use Rattle.kern_tree.specs.declared.kernel.Combine.TheVariants.{Sum}
use Rattle.lane_machine.specs.Block.{lane_in}
use Rattle.lane_machine.specs.Gathered.{gift_of}
use Rattle.lane_machine.specs.Total.{nothing}
use Rattle.lane_machine.proofs.BlockLemmas.{item_is}
use Rattle.lane_machine.proofs.GiftLemmas.{adds_nothing, adds_one, gift, no_target}
use Rattle.lane_machine.proofs.give.give.Goals as goal

pub returns-then-force-totals : goal.returns-then-force-totals
returns-then-force-totals c =
    let slots = c.args.slots.now in
    let x = c.args.instr.now in
    let given = λ (l : ℕ). given_by x (lane_in c.args.registers.now l) in
    let own = λ (l : ℕ). gift_of x.under c.in-Give.register (lane_in c.args.registers.now l) in
    let within : c.in-Some.force < length c.args.totals.now = omega arith in
    adds_one slots given c.args.count c.args.totals.now c.in-Some.force c.in-Give.axis c.index-totals-force.result c.added.result own within
    (item_is c.args.totals.now c.in-Some.force c.index-totals-force.result (nothing Sum) within c.index-totals-force.is)
    c.added.ensures.value
    (λ f a l. gift slots f a x (lane_in c.args.registers.now l) c.in-Give.slot c.in-Give.register c.in-Give.axis (Some c.in-Some.force) c.in-Give.is (sym c.in-Some.ensures))
    64 c.requires.count c.added.ensures.few

pub returns-else-force-totals : goal.returns-else-force-totals
returns-else-force-totals c =
    let slots = c.args.slots.now in
    let x = c.args.instr.now in
    let given = λ (l : ℕ). given_by x (lane_in c.args.registers.now l) in
    adds_nothing slots given c.args.count 64 c.args.totals.now (λ f a l h.
    gift slots f a x (lane_in c.args.registers.now l) c.in-Give.slot c.in-Give.register c.in-Give.axis (Some c.in-Some.force) c.in-Give.is (sym c.in-Some.ensures)
    ∙ no_target f c.in-Give.axis a (Some c.in-Some.force) _ (ne_eqb c.in-Some.force f (λ same. omega (arith, same, h))))

pub returns-in-None : goal.returns-in-None
returns-in-None c =
    let slots = c.args.slots.now in
    let x = c.args.instr.now in
    let given = λ (l : ℕ). given_by x (lane_in c.args.registers.now l) in
    adds_nothing slots given c.args.count 64 c.args.totals.now (λ f a l h.
    gift slots f a x (lane_in c.args.registers.now l) c.in-Give.slot c.in-Give.register c.in-Give.axis None c.in-Give.is (sym c.in-None.ensures))
