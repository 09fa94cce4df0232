-- Tokens can go on to a kernel where the table runs through them, and what spells a kernel is run through.
use Rattle.std.proofs.Common.{◌≡◌, ℕ, zero, suc, ◌≤◌, List, [], ◌∷◌, ◌++◌, length, slice_get, Bool, true, false, flat_map, Some, None, refl, sym, ap, ap₂, ◌∙◌, subst, append_assoc, append-nil, arith}
use Rattle.kern_token.specs.declared.token.Token.{Token}
use Rattle.kern_token.specs.declared.token.TokenKind.{TokenKind}
use Rattle.kern_token.specs.declared.token.TokenKind.TheVariants as kinds
use Rattle.kern_token.specs.declared.token.Word.TheVariants as words
use Rattle.kern_tree.specs.declared.kernel.Kernel.{Kernel}
use Rattle.kern_tree.specs.FirstFault.{CanGoOn}
use Rattle.kern_tree.specs.Grammar.{stmt, SpellsKernel}
use Rattle.kern_tree.specs.Nodes.{stmt_nodes, kernel_nodes}
use Rattle.kern_tree.specs.Rules.{many}
use Rattle.kern_tree.specs.Unrolled.{TreesByForm}
use Rattle.kern_parse.specs.Required.{Part, Move, move, moves, are_optional}
use Rattle.kern_parse.proofs.Fillings.{AllAt, fillings, fillings_at, all_filled}
use Rattle.kern_parse.proofs.ExpressionTokens.{mark}
use Rattle.kern_parse.proofs.PartCompletions.{stack_completed}
use Rattle.kern_parse.proofs.PartRules.{decl_nodes, parts_rule}
use Rattle.kern_parse.proofs.ReadyStacks.{Begins, Ready}
use Rattle.kern_parse.proofs.Runs.{Runs, RunsTo, runs_to, stack_ends}
use Rattle.kern_parse.proofs.Steps.{moves_passed}

-- ---- runs

pub runs_append : (parts : List Part) (tokens others : List Token) (those last : List Part) (first more : List ℕ) → Runs parts tokens those first → Runs those others last more → Runs parts (tokens ++ others) last (first ++ more)
runs_append parts [] others those last first more h k = subst (λ places. Runs parts others last (places ++ more)) (sym h.1) (subst (λ ps. Runs ps others last more) h.0 k)
runs_append parts (token ∷ tokens) others those last first more h k =
    (h.0, h.1 ++ more, h.2, runs_append (h.0).then tokens others those last h.1 more h.3 k, ap (λ places. places ++ more) h.4 ∙ append_assoc (mark (h.0).is_node token.place) h.1 more)

-- the run of the first of the tokens, and that of the others
pub record Split (parts : List Part) (tokens others : List Token) (last : List Part) (places : List ℕ) : Type 0 where
  pub those : List Part
  pub first : List ℕ
  pub more : List ℕ
  pub runs : Runs parts tokens those first
  pub later : Runs those others last more
  pub places_are : places ≡ first ++ more

pub runs_split : (parts : List Part) (tokens others : List Token) (last : List Part) (places : List ℕ) → Runs parts (tokens ++ others) last places → Split parts tokens others last places
runs_split parts [] others last places h = record { those = parts; first = []; more = places; runs = (refl, refl); later = h; places_are = refl }
runs_split parts (token ∷ tokens) others last places h =
    let s = runs_split (h.0).then tokens others last h.1 h.3 in
    record {
      those = s.those;
      first = mark (h.0).is_node token.place ++ s.first;
      more = s.more;
      runs = (h.0, s.first, h.2, s.runs, refl);
      later = s.later;
      places_are = h.4 ∙ ap (λ ps. mark (h.0).is_node token.place ++ ps) s.places_are ∙ sym (append_assoc (mark (h.0).is_node token.place) s.first s.more);
    }

same_some : (x y : Move) → Some x ≡ Some y → x ≡ y
same_some x y e = cc

pub one_run : (parts : List Part) (tokens : List Token) (those others : List Part) (first second : List ℕ) → Runs parts tokens those first → Runs parts tokens others second → (those ≡ others) × (first ≡ second)
one_run parts [] those others first second h k = (h.0 ∙ sym k.0, h.1 ∙ sym k.1)
one_run parts (token ∷ tokens) those others first second h k =
    let e : h.0 ≡ k.0 = same_some h.0 k.0 (sym h.2 ∙ k.2) in
    let r = one_run (k.0).then tokens those others h.1 k.1 (subst (λ (m : Move). Runs m.then tokens those h.1) e h.3) k.3 in
    (r.0, h.4 ∙ ap₂ (λ (m : Move) ps. mark m.is_node token.place ++ ps) e r.1 ∙ sym k.4)

abbrev pub AllEqual : ℕ → List ℕ → Type 0
AllEqual place [] = Unit {0}
AllEqual place (p ∷ places) = (p ≡ place) × AllEqual place places

marks_at : (is_node : Bool) (place p : ℕ) (more : List ℕ) → p ≡ place → AllEqual place more → AllEqual place (mark is_node p ++ more)
marks_at true place p more e h = (e, h)
marks_at false place p more e h = h

-- tokens that all stand at one place have their nodes there
pub runs_at : (place : ℕ) (parts : List Part) (tokens : List Token) (those : List Part) (places : List ℕ) → AllAt place tokens → Runs parts tokens those places → AllEqual place places
runs_at place parts [] those places all h = subst (λ ps. AllEqual place ps) (sym h.1) tt
runs_at place parts (token ∷ tokens) those places all h =
    subst (λ ps. AllEqual place ps) (sym h.4) (marks_at (h.0).is_node place token.place h.1 all.0 (runs_at place (h.0).then tokens those h.1 all.1 h.3))

-- ---- what spells a kernel is run through

abbrev pub start_parts : List Part
start_parts = Part.Decls ∷ Part.Stmts ∷ []

no_declaration : (kind : TokenKind) → Begins Part.Decls kind → move Part.Stmts kind ≡ None
no_declaration (kinds.Word words.If) h = absurd (let never : None ≡ Some h.0 = h.1 in cc)
no_declaration (kinds.Name name) h = absurd (let never : None ≡ Some h.0 = h.1 in cc)
no_declaration _ h = refl

start_ready : Ready start_parts
unfolding moves
start_ready = (λ kind h. moves_passed Part.Stmts [] kind (no_declaration kind h) refl, (λ kind h. refl, tt))

kernel_read : (tokens : List Token) (spelled : Kernel) → SpellsKernel tokens spelled → parts_rule start_parts tokens (kernel_nodes spelled) []
kernel_read tokens spelled h =
    let k = h.3 in (
      flat_map decl_nodes h.0,
      h.1,
      flat_map stmt_nodes k.0,
      (h.0, h.2, refl),
      (flat_map stmt_nodes k.0, [], [], (k.0, subst (λ ts. many stmt h.1 k.0 ts) k.3.1 k.2, refl), (refl, refl), sym (append-nil (flat_map stmt_nodes k.0))),
      ap (λ (whole : Kernel). kernel_nodes whole) k.3.0,
    )

pub kernel_runs : TreesByForm → (tokens later : List Token) (spelled : Kernel) → SpellsKernel (tokens ++ later) spelled → RunsTo start_parts tokens later (kernel_nodes spelled)
kernel_runs tree tokens later spelled h = runs_to tree start_parts tokens later (kernel_nodes spelled) start_ready (kernel_read (tokens ++ later) spelled h)

-- ---- what is run through can go on to a kernel

pub runs_back : TreesByForm → (parts : List Part) (tokens : List Token) (those : List Part) (places : List ℕ) → Runs parts tokens those places → (later : List Token) (all : List ℕ) → parts_rule those later all [] → (whole : List ℕ) × parts_rule parts (tokens ++ later) whole []
runs_back tree parts [] those places h later all k = (all, subst (λ ps. parts_rule ps later all []) h.0 k)
runs_back tree parts (token ∷ tokens) those places h later all k =
    let b = runs_back tree (h.0).then tokens those h.1 h.3 later all k in
    stack_completed tree parts token h.0 h.2 (tokens ++ later) b.0 [] b.1

pub kernel_of : (tokens : List Token) (all : List ℕ) → parts_rule start_parts tokens all [] → (spelled : Kernel) × SpellsKernel tokens spelled
kernel_of tokens all h =
    let k = h.4 in
    (record { decls = (h.3).0; body = (k.3).0 }, ((h.3).0, h.1, (h.3).1, ((k.3).0, k.1, (k.3).1, (refl, k.4.1))))

-- the tokens go on to a kernel by tokens that all stand at the place
pub record GoesOnAt (place : ℕ) (tokens : List Token) : Type 0 where
  pub later : List Token
  pub all_at : AllAt place later
  pub spelled : Kernel
  pub spells : SpellsKernel (tokens ++ later) spelled

pub goes_on_at : TreesByForm → (place : ℕ) (tokens : List Token) (those : List Part) (places : List ℕ) → Runs start_parts tokens those places → GoesOnAt place tokens
goes_on_at tree place tokens those places h =
    let f = all_filled place those in
    let b = runs_back tree start_parts tokens those places h (fillings place those) f.0 f.1 in
    let k = kernel_of (tokens ++ fillings place those) b.0 b.1 in
    record { later = fillings place those; all_at = fillings_at place those; spelled = k.0; spells = k.1 }

pub can_go_on : TreesByForm → (tokens : List Token) (those : List Part) (places : List ℕ) → Runs start_parts tokens those places → CanGoOn tokens
can_go_on tree tokens those places h = let g = goes_on_at tree 0 tokens those places h in (g.later, g.spelled, g.spells)

-- tokens that can go on are run through
pub runs_of : TreesByForm → (tokens : List Token) → CanGoOn tokens → (those : List Part) × (places : List ℕ) × Runs start_parts tokens those places
runs_of tree tokens h = let r = kernel_runs tree tokens h.0 h.1 h.2 in (r.those, r.first, r.runs)

-- ---- the whole kernel

pub whole_runs : TreesByForm → (tokens : List Token) (spelled : Kernel) → SpellsKernel tokens spelled → (those : List Part) × Runs start_parts tokens those (kernel_nodes spelled) × (are_optional those ≡ true)
whole_runs tree tokens spelled h =
    let r = kernel_runs tree tokens [] spelled (subst (λ ts. SpellsKernel ts spelled) (sym (append-nil tokens)) h) in
    let e = stack_ends tree r.those r.more r.reads in
    (r.those, subst (λ ps. Runs start_parts tokens r.those ps) (sym (r.places_are ∙ ap (λ ps. r.first ++ ps) e.1 ∙ append-nil r.first)) r.runs, e.0)

-- ---- the 513th node

get_later : (front more : List ℕ) (i place p : ℕ) → AllEqual place more → length front ≤ i → slice_get (front ++ more) i ≡ Some p → p ≡ place
get_later [] [] i place p all h e = absurd (let never : None ≡ Some p = e in cc)
get_later [] (q ∷ more) zero place p all h e = (let f : q ≡ p = cc in sym f) ∙ all.0
get_later [] (q ∷ more) (suc i) place p all h e = get_later [] more i place p all.1 (omega arith) e
get_later (q ∷ front) more zero place p all h e = absurd (omega arith)
get_later (q ∷ front) more (suc i) place p all h e = get_later front more i place p all (omega arith) e

pub get_at : (front more : List ℕ) (i place : ℕ) → length front ≡ i → slice_get (front ++ place ∷ more) i ≡ Some place
get_at [] more zero place e = refl
get_at [] more (suc i) place e = absurd (omega arith)
get_at (q ∷ front) more zero place e = absurd (omega arith)
get_at (q ∷ front) more (suc i) place e = get_at front more i place (omega arith)

-- where few nodes were read, the 513th of a kernel that goes on can stand at another place than this
pub no_node_here : TreesByForm → (tokens : List Token) (those : List Part) (marks : List ℕ) (i place : ℕ) → Runs start_parts tokens those marks → length marks ≤ i
    → ((later : List Token) (spelled : Kernel) → SpellsKernel (tokens ++ later) spelled → slice_get (kernel_nodes spelled) i ≡ Some place) → ⊥
no_node_here tree tokens those marks i place runs few node =
    let g = goes_on_at tree (suc place) tokens those marks runs in
    let w = whole_runs tree (tokens ++ g.later) g.spelled g.spells in
    let s = runs_split start_parts tokens g.later w.0 (kernel_nodes g.spelled) w.1 in
    let o = one_run start_parts tokens those s.those marks s.first runs s.runs in
    let e : slice_get (s.first ++ s.more) i ≡ Some place = ap (λ ps. slice_get ps i) (sym s.places_are) ∙ node g.later g.spelled g.spells in
    let l : length s.first ≤ i = subst (λ (ps : List ℕ). length ps ≤ i) o.1 few in
    let p : place ≡ suc place = get_later s.first s.more i (suc place) place (runs_at (suc place) s.those g.later w.0 s.more g.all_at s.later) l e in
    omega arith
