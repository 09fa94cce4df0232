-- A pair of a typed kernel has exactly one answer.
use Rattle.std.proofs.Common.{◌≡◌, ℕ, List, Bool, Option, Some, None, Ok, Err, refl, sym, ap, ◌∙◌, replicate}
use Rattle.pf_model.specs.Particle.{Particle}
use Rattle.pf_model.specs.Totals.{Source}
use Rattle.kern_tree.specs.declared.kernel.Decl.{Decl}
use Rattle.kern_tree.specs.declared.kernel.Kernel.{Kernel}
use Rattle.kern_tree.specs.Limits.{ParsedKernelsKeepLimits}
use Rattle.kern_types.specs.declared.scope.Variable.{Variable}
use Rattle.kern_types.specs.Scopes.{Scope}
use Rattle.kern_types.specs.Declarations.{all_decls_check}
use Rattle.kern_types.specs.Names.{declaration}
use Rattle.kern_types.specs.Statements.{stmts_after}
use Rattle.kern_types.specs.TypingLaws.{DeclarationsFit, ScopesOnlyGrow, GrowthIsAnOrder, NamesKeepTheirType, ExpressionScalesFit, AssignedScalesFit, AssignmentsFit, ContributionsFit}
use Rattle.kern_types.specs.WellTyped as typed
use Rattle.kern_meaning.specs.declared.stop.PairStop.TheVariants as pair_stops
use Rattle.kern_meaning.specs.declared.value.Value.{Value}
use Rattle.kern_meaning.specs.Names.{known_at_start, value_if_declared}
use Rattle.kern_meaning.specs.Pair.{OrPairStop, PairState, as_answer, is_same_place, block_meaning, pair_of}
use Rattle.kern_meaning.specs.Stops.{◌>>=◌}
use Rattle.kern_meaning.specs.Typing.{PairAnswer, HasOnePair, Typing}
use Rattle.kern_types.proofs.Checks.{passed_then}
use Rattle.kern_meaning.proofs.DeclTyping.{DeclFits, declared_fit}
use Rattle.kern_meaning.proofs.StmtTyping.{AllAssigned, Agrees, Goes, block_typed}

same_answer : (a b : PairAnswer) → as_answer a ≡ as_answer b → a ≡ b
same_answer (Ok x) (Ok y) e = cc
same_answer (Ok x) (Err g) e = absurd (let no : ⊥ = cc in no)
same_answer (Err f) (Ok y) e = absurd (let no : ⊥ = cc in no)
same_answer (Err f) (Err g) e = cc

-- an answer that isn't "no result"
abbrev HasAnswer : OrPairStop (List (Option Value)) → Type 0
HasAnswer (Ok given) = Unit {0}
HasAnswer (Err (pair_stops.Fault fault)) = Unit {0}
HasAnswer (Err pair_stops.NoResult) = ⊥

answered : (kernel : Kernel) (i : Particle) (j : Source) (answer : OrPairStop (List (Option Value))) → pair_of kernel i j ≡ answer → HasAnswer answer → HasOnePair kernel i j
answered kernel i j (Ok given) e h = record { answer = Ok given; is = e; only = λ other f. same_answer other (Ok given) (sym f ∙ e) }
answered kernel i j (Err (pair_stops.Fault fault)) e h = record { answer = Err fault; is = e; only = λ other f. same_answer other (Err fault) (sym f ∙ e) }
answered kernel i j (Err pair_stops.NoResult) e h = absurd h

ended : (decls : List Decl) (i : Particle) (j : Source) (coincident : Bool) (fit : (name : List ℕ) (decl : Decl) → declaration decls name ≡ Some decl → DeclFits i j decl) (all : List Variable) (assignments : AllAssigned decls all) (scope : Scope)
    (answer : OrPairStop PairState) → Goes decls i j coincident fit all assignments scope answer → HasAnswer (answer >>= (λ end. Ok end.given))
ended decls i j coincident fit all assignments scope (Ok state) h = tt
ended decls i j coincident fit all assignments scope (Err (pair_stops.Fault fault)) h = tt
ended decls i j coincident fit all assignments scope (Err pair_stops.NoResult) h = h

pub typing : ParsedKernelsKeepLimits → DeclarationsFit → ScopesOnlyGrow → GrowthIsAnOrder → NamesKeepTheirType → ExpressionScalesFit → AssignedScalesFit → AssignmentsFit → ContributionsFit → Typing
typing limits declarations only_grow growth keep_type scales assigned_scales assignments_fit contributions kernel i j parsed (end, e) =
    let after = passed_then (all_decls_check kernel.decls) (stmts_after kernel.decls kernel.body typed.at_start) end e in
    let fit = declared_fit i j declarations kernel (end, e) in
    let assignments : AllAssigned kernel.decls end.earlier = record { one_type = keep_type kernel end parsed e; fitting = assigned_scales kernel end parsed e; expressions = scales kernel parsed } in
    let coincident : Bool = is_same_place i.at j.at in
    let step = block_typed kernel.decls i j coincident fit end.earlier assignments only_grow growth assignments_fit contributions (limits kernel parsed).body typed.at_start end after (growth.none end.earlier) in
    let start : PairState = record { known = known_at_start kernel.decls i j; given = replicate (block_meaning kernel.decls coincident kernel.body).slots None } in
    let agrees : Agrees kernel.decls i j coincident fit end.earlier assignments typed.at_start start.known = record {
      declared = λ name decl is. ap (value_if_declared i j) is;
      assigned = λ name among. absurd (let bad : ⊥ = cc in bad);
    } in
    answered kernel i j (pair_of kernel i j) refl (ended kernel.decls i j coincident fit end.earlier assignments end ((block_meaning kernel.decls coincident kernel.body).run 1 0 start) (step 1 0 start agrees))
