-- Where a reading by the table stops: at a token that can't come next, at the end, or nowhere.
use Rattle.std.proofs.Common.{◌≡◌, ℕ, List, [], ◌∷◌, ◌++◌, Bool, true, false, ◌&&◌, cond, Option, Some, None, inl, inr, refl, sym, ap, ◌∙◌, subst, append-nil}
use Rattle.kern_token.specs.declared.fault.KernFault.TheVariants as faults
use Rattle.kern_token.specs.declared.token.Token.{Token}
use Rattle.kern_tree.specs.declared.kernel.Kernel.{Kernel}
use Rattle.kern_tree.specs.FirstFault.{end_of_tokens, StopsAt, RunOut, HasFault}
use Rattle.kern_tree.specs.Grammar.{SpellsKernel}
use Rattle.kern_tree.specs.Unrolled.{TreesByForm}
use Rattle.kern_parse.specs.ReadingStops.{stop_here, stop_from, reading_stop, UnexpectedIsTheStop}
use Rattle.kern_parse.specs.Required.{Part, Move, is_optional, moves, are_optional}
use Rattle.kern_parse.proofs.Fillings.{filling, fillings, all_filled}
use Rattle.kern_parse.proofs.ExpressionTokens.{mark}
use Rattle.kern_parse.proofs.GoingOn.{start_parts, runs_append, runs_split, one_run, runs_back, kernel_of, can_go_on, runs_of, whole_runs}
use Rattle.kern_parse.proofs.PartRules.{parts_rule}
use Rattle.kern_parse.proofs.Runs.{Runs}

-- ---- nothing more is required

filling_optional : (place : ℕ) (part : Part) → is_optional part ≡ true → filling place part ≡ []
filling_optional place Part.Decls e = refl
filling_optional place Part.Stmts e = refl
filling_optional place Part.ElseBlock e = refl
filling_optional place (Part.More level) e = refl
filling_optional place Part.MoreRel e = refl
filling_optional place Part.MorePost e = refl
filling_optional place Part.ScaleIfAny e = refl
filling_optional place _ e = absurd (let never : false ≡ true = e in cc)

both_true : (a b : Bool) → (a && b) ≡ true → (a ≡ true) × (b ≡ true)
both_true true b e = (refl, e)
both_true false b e = absurd (let never : false ≡ true = e in cc)

fillings_optional : (place : ℕ) (parts : List Part) → are_optional parts ≡ true → fillings place parts ≡ []
unfolding are_optional
fillings_optional place [] e = refl
fillings_optional place (part ∷ parts) e =
    let h = both_true (is_optional part) (are_optional parts) e in
    ap (λ ts. ts ++ fillings place parts) (filling_optional place part h.0) ∙ fillings_optional place parts h.1

-- the tokens are a kernel's
pub kernel_here : TreesByForm → (tokens : List Token) (those : List Part) (marks : List ℕ) → Runs start_parts tokens those marks → are_optional those ≡ true → (spelled : Kernel) × SpellsKernel tokens spelled
kernel_here tree tokens those marks runs optional =
    let f = all_filled 0 those in
    let b = runs_back tree start_parts tokens those marks runs [] f.0 (subst (λ ts. parts_rule those ts f.0 []) (fillings_optional 0 those optional) f.1) in
    let k = kernel_of (tokens ++ []) b.0 b.1 in
    (k.0, subst (λ ts. SpellsKernel ts k.0) (append-nil tokens) k.1)

-- ---- more is required

pub run_out : TreesByForm → (tokens : List Token) (those : List Part) (marks : List ℕ) → Runs start_parts tokens those marks → are_optional those ≡ false → RunOut tokens
run_out tree tokens those marks runs required = record {
  so_far = can_go_on tree tokens those marks runs;
  not_whole = λ spelled h.
      let w = whole_runs tree tokens spelled h in
      let o = one_run start_parts tokens those w.0 marks _ runs w.1 in
      let never : false ≡ true = sym required ∙ ap (λ ps. are_optional ps) o.0 ∙ w.2 in
      absurd (cc);
}

pub stops_at : TreesByForm → (tokens before : List Token) (token : Token) (after : List Token) (those : List Part) (marks : List ℕ) → tokens ≡ before ++ token ∷ after → Runs start_parts before those marks
    → moves those token.kind ≡ None → StopsAt tokens token
stops_at tree tokens before token after those marks stands runs none = record {
  before = before;
  after = after;
  stands = stands;
  so_far = can_go_on tree before those marks runs;
  no_further = λ c.
      let r = runs_of tree (before ++ token ∷ []) c in
      let s = runs_split start_parts before (token ∷ []) r.0 r.1 r.2 in
      let o = one_run start_parts before those s.those marks s.first runs s.runs in
      let k = s.later in
      let never : None ≡ Some k.0 = sym none ∙ ap (λ ps. moves ps token.kind) o.0 ∙ k.2 in
      absurd (cc);
}

-- ---- the stop, along a run

stop_along : (end : ℕ) (parts : List Part) (tokens : List Token) (those : List Part) (marks : List ℕ) (rest : List Token) → Runs parts tokens those marks → stop_from end parts (tokens ++ rest) ≡ stop_from end those rest
unfolding stop_from
stop_along end parts [] those marks rest h = ap (λ ps. stop_from end ps rest) (sym h.0)
stop_along end parts (token ∷ tokens) those marks rest h =
    ap (λ m. stop_here token.place m (λ thens. stop_from end thens (tokens ++ rest))) h.2 ∙ stop_along end (h.0).then tokens those h.1 rest h.3

stop_end : (end : ℕ) (parts : List Part) → are_optional parts ≡ false → stop_from end parts [] ≡ Some end
unfolding stop_from
stop_end end parts required = ap (λ b. cond b None (Some end)) required

stop_token : (end : ℕ) (parts : List Part) (token : Token) (rest : List Token) → moves parts token.kind ≡ None → stop_from end parts (token ∷ rest) ≡ Some token.place
unfolding stop_from
stop_token end parts token rest none = ap (λ m. stop_here token.place m (λ thens. stop_from end thens rest)) none

-- a fault is where the reading stops
module _ (tree : TreesByForm) (tokens : List Token) where
  at_token : (token : Token) → StopsAt tokens token → reading_stop tokens ≡ Some token.place
  at_token token s = let r = runs_of tree s.before s.so_far in go r.0 r.1 r.2 (moves r.0 token.kind) refl
    where
      go : (those : List Part) (marks : List ℕ) → Runs start_parts s.before those marks → (m : Option Move) → moves those token.kind ≡ m → reading_stop tokens ≡ Some token.place
      go those marks runs None e =
          ap (λ ts. stop_from (end_of_tokens tokens) start_parts ts) s.stands
          ∙ stop_along (end_of_tokens tokens) start_parts s.before those marks (token ∷ s.after) runs
          ∙ stop_token (end_of_tokens tokens) those token s.after e
      go those marks runs (Some found) e = absurd (s.no_further (can_go_on tree (s.before ++ token ∷ []) found.then (marks ++ (mark found.is_node token.place ++ []))
          (runs_append start_parts s.before (token ∷ []) those found.then marks (mark found.is_node token.place ++ []) runs (found, [], e, (refl, refl), refl))))

  at_end : RunOut tokens → reading_stop tokens ≡ Some (end_of_tokens tokens)
  at_end w = let r = runs_of tree tokens w.so_far in go r.0 r.1 r.2 (are_optional r.0) refl
    where
      go : (those : List Part) (marks : List ℕ) → Runs start_parts tokens those marks → (b : Bool) → are_optional those ≡ b → reading_stop tokens ≡ Some (end_of_tokens tokens)
      go those marks runs true e = let k = kernel_here tree tokens those marks runs e in absurd (w.not_whole k.0 k.1)
      go those marks runs false e =
          ap (λ ts. stop_from (end_of_tokens tokens) start_parts ts) (sym (append-nil tokens))
          ∙ stop_along (end_of_tokens tokens) start_parts tokens those marks [] runs ∙ stop_end (end_of_tokens tokens) those e

  fault_stops : (place : ℕ) → HasFault tokens (faults.Unexpected place) → reading_stop tokens ≡ Some place
  fault_stops place (inl h) = at_token h.0 h.2 ∙ ap (λ p. Some p) (sym h.1)
  fault_stops place (inr h) = at_end h.1 ∙ ap (λ p. Some p) (sym h.0)

-- ---- where the reading stops there is a fault

data Stopped (end : ℕ) (parts : List Part) (tokens : List Token) (place : ℕ) : Type 0 where
  ended : (those : List Part) (marks : List ℕ) → Runs parts tokens those marks → are_optional those ≡ false → place ≡ end → Stopped end parts tokens place
  refused : (before : List Token) (token : Token) (after : List Token) (those : List Part) (marks : List ℕ) → tokens ≡ before ++ token ∷ after → Runs parts before those marks
      → moves those token.kind ≡ None → place ≡ token.place → Stopped end parts tokens place

same_place : (p q : ℕ) → Some p ≡ Some q → q ≡ p
same_place p q e = cc

stopped_later : (end : ℕ) (parts : List Part) (token : Token) (rest : List Token) (place : ℕ) (found : Move) → moves parts token.kind ≡ Some found → Stopped end found.then rest place → Stopped end parts (token ∷ rest) place
stopped_later end parts token rest place found moved (ended those marks runs required is) = ended those (mark found.is_node token.place ++ marks) (found, marks, moved, runs, refl) required is
stopped_later end parts token rest place found moved (refused before other after those marks stands runs none is) =
    refused (token ∷ before) other after those (mark found.is_node token.place ++ marks) (ap (λ ts. token ∷ ts) stands) (found, marks, moved, runs, refl) none is

stopped : (end : ℕ) (parts : List Part) (tokens : List Token) (place : ℕ) → stop_from end parts tokens ≡ Some place → Stopped end parts tokens place
unfolding stop_from
stopped end parts [] place e = go (are_optional parts) refl e
  where
    go : (b : Bool) → are_optional parts ≡ b → cond b None (Some end) ≡ Some place → Stopped end parts [] place
    go true is k = absurd (let never : None ≡ Some place = k in cc)
    go false is k = ended parts [] (refl, refl) is (same_place end place k)
stopped end parts (token ∷ rest) place e = go (moves parts token.kind) refl (λ thens h. stopped end thens rest place h) e
  where
    go : (m : Option Move) → moves parts token.kind ≡ m → ((thens : List Part) → stop_from end thens rest ≡ Some place → Stopped end thens rest place)
        → stop_here token.place m (λ thens. stop_from end thens rest) ≡ Some place → Stopped end parts (token ∷ rest) place
    go None is later k = refused [] token rest parts [] refl (refl, refl) is (same_place token.place place k)
    go (Some found) is later k = stopped_later end parts token rest place found is (later found.then k)

stop_is_fault : TreesByForm → (tokens : List Token) (place : ℕ) → Stopped (end_of_tokens tokens) start_parts tokens place → HasFault tokens (faults.Unexpected place)
stop_is_fault tree tokens place (ended those marks runs required is) = inr (is, run_out tree tokens those marks runs required)
stop_is_fault tree tokens place (refused before token after those marks stands runs none is) = inl (token, is, stops_at tree tokens before token after those marks stands runs none)

pub unexpected_is_the_stop : TreesByForm → UnexpectedIsTheStop
unexpected_is_the_stop tree tokens place = (fault_stops tree tokens place, λ e. stop_is_fault tree tokens place (stopped (end_of_tokens tokens) start_parts tokens place e))
