-- The line that says how a command ended.
use Rattle.std.specs.Prelude.{ℕ, List, [], ◌++◌, codes, decimal}
use Rattle.pf_geom.specs.declared.axis.Axis.{Axis}
use Rattle.pf_geom.specs.declared.axis.Axis.TheVariants.{X, Y, Z}
use Rattle.kern_token.specs.FaultText.{kernel_fault_text}
use Rattle.kern_types.specs.FaultText.{type_fault_text}
use Rattle.kern_meaning.specs.declared.fault.PairKind.{PairKind}
use Rattle.kern_meaning.specs.declared.fault.PairKind.TheVariants as kinds
use Rattle.deck_file.specs.FaultText.{deck_fault_text}
use Rattle.particle_file.specs.FaultText as particles
use Rattle.run_model.specs.declared.fault.What.{What}
use Rattle.run_model.specs.declared.fault.What.TheVariants as what
use Rattle.command_frame.specs.declared.status.Status.TheVariants.{Done, Usage, Refused, Numeric, Lists}
use Rattle.command_frame.specs.declared.status.Status.TheVariants.{StoreFault, Memory}
use Rattle.command_frame.specs.declared.status.StoreCall.{StoreCall}
use Rattle.command_frame.specs.declared.status.StoreCall.TheVariants.{Open, Read, Create, Write, Say}
use Rattle.top_call.specs.declared.status.Refusal.{Refusal}
use Rattle.top_call.specs.declared.status.Refusal.TheVariants as refusals
use Rattle.top_call.specs.Run.{Ending}

abbrev pub refusal_line : Refusal → List ℕ
refusal_line refusals.DeckTooLarge = codes "fdps: deck: TooLarge\n"
refusal_line (refusals.Deck fault) = codes "fdps: deck: " ++ deck_fault_text fault ++ codes "\n"
refusal_line refusals.KernelTooLarge = codes "fdps: kernel: TooLarge\n"
refusal_line (refusals.Kernel fault) = codes "fdps: kernel: " ++ kernel_fault_text fault ++ codes "\n"
refusal_line (refusals.Types fault) = codes "fdps: types: " ++ type_fault_text fault ++ codes "\n"
refusal_line refusals.ParticlesTooLarge = codes "fdps: particles: TooLarge\n"
refusal_line (refusals.Particles fault) = codes "fdps: particles: " ++ particles.particle_fault_text fault ++ codes "\n"

abbrev pub kind_name : PairKind → List ℕ
kind_name kinds.Overflow = codes "Overflow"
kind_name kinds.ZeroDivisor = codes "ZeroDivisor"
kind_name kinds.Coincident = codes "Coincident"
kind_name kinds.NegativeRoot = codes "NegativeRoot"

abbrev pub axis_name : Axis → List ℕ
axis_name X = codes "x"
axis_name Y = codes "y"
axis_name Z = codes "z"

abbrev pub what_line : What → List ℕ
what_line (what.Pair kind statement) = kind_name kind ++ codes " in statement " ++ decimal statement ++ codes "\n"
what_line (what.Sum force) = codes "Overflow of force " ++ decimal force ++ codes "\n"
what_line (what.Fast axis) = codes "Overflow on " ++ axis_name axis ++ codes "\n"
what_line (what.Escaped axis) = codes "Escaped on " ++ axis_name axis ++ codes "\n"

abbrev pub numeric_line : ℕ → ℕ → What → List ℕ
numeric_line step id fault =
    (codes "fdps: step " ++ decimal step ++ codes " id " ++ decimal id ++ codes ": ") ++ what_line fault

abbrev pub lists_line : ℕ → ℕ → List ℕ
lists_line step count = (codes "fdps: step " ++ decimal step ++ codes ": Lists ") ++ (decimal count ++ codes "\n")

abbrev pub store_line : StoreCall → List ℕ
store_line Open = codes "fdps: store: open failed\n"
store_line Read = codes "fdps: store: read failed\n"
store_line Create = codes "fdps: store: create failed\n"
store_line Write = codes "fdps: store: write failed\n"
store_line Say = codes "fdps: store: say failed\n"

-- nothing where the command was done
abbrev pub line_of : Ending → List ℕ
line_of Done = []
line_of Usage = codes "fdps: usage: fdps run DECK [--workers W] or fdps bench N SEED [--workers W]\n"
line_of (Refused refusal) = refusal_line refusal
line_of (Numeric step fault) = numeric_line step fault.id fault.what
line_of (Lists step count) = lists_line step count
line_of (StoreFault call) = store_line call
line_of Memory = codes "fdps: out of memory\n"
