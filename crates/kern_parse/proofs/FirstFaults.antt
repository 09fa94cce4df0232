-- The first fault that the table of moves finds is the first fault of the tokens, and tokens without one are a kernel's.
use Rattle.std.proofs.Common.{◌≡◌, ◌⊎◌, ℕ, ◌+◌, ◌<◌, ◌≤◌, List, [], ◌∷◌, ◌++◌, length, take, slice_get, true, false, Option, Some, None, Result, Ok, Err, inl, inr, refl, sym, ap, ap₂, ◌∙◌, subst, append_assoc, append-nil, length-append, arith}
use Rattle.std.specs.List.{AllByRecursion}
use Rattle.kern_token.specs.declared.fault.KernFault.{KernFault}
use Rattle.kern_token.specs.declared.fault.KernFault.TheVariants as faults
use Rattle.kern_token.specs.declared.token.Symbol.TheVariants as symbols
use Rattle.kern_token.specs.declared.token.Token.{Token}
use Rattle.kern_token.specs.declared.token.TokenKind.{TokenKind}
use Rattle.kern_token.specs.declared.token.TokenKind.TheVariants as kinds
use Rattle.kern_token.specs.Reading.{AreInOrder, Spells, StandsIn, TokensAreInOrder, TokensStandInText}
use Rattle.kern_tree.specs.declared.kernel.Kernel.{Kernel}
use Rattle.kern_tree.specs.FirstFault.{CanGoOn, brackets_after, open_brackets, end_of_tokens, StopsAt, IsTooDeep, IsTooManyNodes, HasFault, place_of, rank, IsNoLater, HasFirstFault, IsKernelOf, Parses}
use Rattle.kern_tree.specs.Grammar.{SpellsKernel}
use Rattle.kern_tree.specs.Nodes.{kernel_nodes}
use Rattle.kern_tree.specs.Unrolled.{TreesByForm}
use Rattle.kern_parse.specs.inner.Leading.{reads_on, fault_of}
use Rattle.kern_parse.specs.inner.Reading.{Reading}
use Rattle.kern_parse.specs.ReadingStops.{SomeAnswer}
use Rattle.kern_parse.specs.Required.{Part, Move, moves, are_optional}
use Rattle.kern_parse.proofs.ExpressionTokens.{mark}
use Rattle.kern_parse.proofs.GoingOn.{start_parts, Split, runs_append, runs_split, one_run, kernel_runs, can_go_on, whole_runs, get_at, no_node_here}
use Rattle.kern_parse.proofs.Outcomes.{depth_after, Passed, Outcome, passes, runs_out, refuses, too_deep, too_many, outcome}
use Rattle.kern_parse.proofs.Runs.{Runs}
use Rattle.kern_parse.proofs.Stopping.{kernel_here, run_out, stops_at}
use Rattle.kern_parse.proofs.Standing.{AreLong, Seen, earlier, here, later, seen, stands_later, stands_before_end}

-- where the reading of the tokens begins
abbrev pub start : List Token → Reading
start tokens = record { rest = tokens; end = end_of_tokens tokens; nodes = 0; depth = 0 }

-- ---- brackets

take_front : (tokens others : List Token) → take (length tokens) (tokens ++ others) ≡ tokens
take_front [] [] = refl
take_front [] (other ∷ others) = refl
take_front (token ∷ tokens) others = ap (λ ts. token ∷ ts) (take_front tokens others)

depth_append : (depth : ℕ) (tokens others : List Token) → depth_after depth (tokens ++ others) ≡ depth_after (depth_after depth tokens) others
depth_append depth [] others = refl
depth_append depth (token ∷ tokens) others = depth_append (brackets_after depth token.kind) tokens others

one_bracket : (depth : ℕ) (kind : TokenKind) → brackets_after depth kind ≤ depth + 1
one_bracket depth (kinds.Symbol symbols.OpenRound) = omega arith
one_bracket depth (kinds.Symbol symbols.OpenCurly) = omega arith
one_bracket depth (kinds.Symbol symbols.CloseRound) = omega arith
one_bracket depth (kinds.Symbol symbols.CloseCurly) = omega arith
one_bracket depth _ = omega arith

-- ---- tokens that were run through within the limits have no fault

abbrev Done : List Token → List Part → List ℕ → Type 0
Done tokens those marks = Passed start_parts 0 0 tokens those marks

done_few_marks : (tokens : List Token) (those : List Part) (marks : List ℕ) → Done tokens those marks → length marks ≤ 512
done_few_marks tokens those marks p = let k : 0 + length marks ≤ 512 = p.few in omega arith

up_to : (before : List Token) (token : Token) (after : List Token) → before ++ token ∷ after ≡ (before ++ token ∷ []) ++ after
up_to before token after = sym (append_assoc before (token ∷ []) after)

done_shallow : (tokens : List Token) (those : List Part) (marks : List ℕ) (front others : List Token) → Done tokens those marks → tokens ≡ front ++ others → open_brackets front ≤ 32
done_shallow tokens those marks front others p e =
    let f : take (length front) tokens ≡ front = ap (λ ts. take (length front) ts) e ∙ take_front front others in
    subst (λ ts. open_brackets ts ≤ 32) f (p.shallow (length front))

module _ (tree : TreesByForm) (tokens : List Token) (those : List Part) (marks : List ℕ) (p : Done tokens those marks) (before : List Token) (token : Token) (after : List Token) (stands : tokens ≡ before ++ token ∷ after) where
  done_split : Split start_parts (before ++ token ∷ []) after those marks
  done_split = runs_split start_parts (before ++ token ∷ []) after those marks (subst (λ ts. Runs start_parts ts those marks) (stands ∙ up_to before token after) p.runs)

  done_goes_on : CanGoOn (before ++ token ∷ [])
  done_goes_on = let s = done_split in can_go_on tree (before ++ token ∷ []) s.those s.first s.runs

  done_not_deep : open_brackets (before ++ token ∷ []) ≡ 33 → ⊥
  done_not_deep deep = let l : open_brackets (before ++ token ∷ []) ≤ 32 = done_shallow tokens those marks (before ++ token ∷ []) after p (stands ∙ up_to before token after) in omega arith

  done_few : (place : ℕ) → ((later : List Token) (spelled : Kernel) → SpellsKernel (before ++ token ∷ later) spelled → slice_get (kernel_nodes spelled) 512 ≡ Some place) → ⊥
  done_few place node =
      let s = done_split in
      let l : length s.first ≤ 512 = (let k : length marks ≤ 512 = done_few_marks tokens those marks p in let e : length marks ≡ length s.first + length s.more = ap (λ (ps : List ℕ). length ps) s.places_are ∙ length-append s.first s.more in omega arith) in
      no_node_here tree (before ++ token ∷ []) s.those s.first 512 place s.runs l (λ later spelled h. node later spelled (subst (λ ts. SpellsKernel ts spelled) (sym (up_to before token later)) h))

-- ---- tokens without a fault

pub whole : TreesByForm → (tokens : List Token) (spelled : Kernel) → SpellsKernel tokens spelled → fault_of (Part.Decls ∷ Part.Stmts ∷ []) (start tokens) ≡ None → IsKernelOf tokens spelled
whole tree tokens spelled h none = go (reads_on (end_of_tokens tokens) start_parts 0 0 tokens) (outcome (end_of_tokens tokens) start_parts 0 0 tokens (omega arith) (omega arith)) none
  where
    go : (result : Option KernFault) → Outcome (end_of_tokens tokens) start_parts 0 0 tokens result → result ≡ None → IsKernelOf tokens spelled
    go result (passes those marks p optional e) is =
        let w = whole_runs tree tokens spelled h in
        let o = one_run start_parts tokens those w.0 marks (kernel_nodes spelled) p.runs w.1 in
        record { spelled = h; shallow = p.shallow; few = subst (λ (ns : List ℕ). length ns ≤ 512) o.1 (done_few_marks tokens those marks p) }
    go result (runs_out those marks p required e) is = absurd (cc)
    go result (refuses before token after those marks stands p refused e) is = absurd (cc)
    go result (too_deep before token after those marks found stands p moved deep e) is = absurd (cc)
    go result (too_many before token after those marks found stands p moved undeep is_node many e) is = absurd (cc)

-- ---- the fault at the end

module _ (tree : TreesByForm) (tokens : List Token) where
  module _ (those : List Part) (marks : List ℕ) (p : Done tokens those marks) (required : are_optional those ≡ false) where
    first_at_end : (other : KernFault) → HasFault tokens other → IsNoLater (faults.Unexpected (end_of_tokens tokens)) other
    first_at_end (faults.Unexpected place) (inl h) = let s : StopsAt tokens h.0 = h.2 in absurd (s.no_further (done_goes_on tree tokens those marks p s.before h.0 s.after s.stands))
    first_at_end (faults.Unexpected place) (inr h) = inr (sym h.0, omega arith)
    first_at_end (faults.TooDeep place) h = let s : IsTooDeep tokens h.0 = h.2 in absurd (done_not_deep tree tokens those marks p s.before h.0 s.after s.stands s.deep)
    first_at_end (faults.TooManyNodes place) h = let s : IsTooManyNodes tokens h.0 = h.2 in absurd (done_few tree tokens those marks p s.before h.0 s.after s.stands (h.0).place s.node)
    first_at_end (faults.BadByte place) h = absurd h
    first_at_end (faults.NumberTooLarge place) h = absurd h
    first_at_end faults.Memory h = absurd h

  -- ---- a (fault tree) at a token

  module _ (before : List Token) (token : Token) (after : List Token) (those : List Part) (marks : List ℕ) (stands : tokens ≡ before ++ token ∷ after) (p : Done before those marks) where
    depth_with : open_brackets (before ++ token ∷ []) ≡ brackets_after (depth_after 0 before) token.kind
    depth_with = depth_append 0 before (token ∷ [])

    too_deep_at : 32 < brackets_after (depth_after 0 before) token.kind → IsTooDeep tokens token
    too_deep_at deep = record {
      before = before;
      after = after;
      stands = stands;
      shallow = p.shallow;
      deep =
          let k : open_brackets before ≤ 32 = done_shallow before those marks before [] p (sym (append-nil before)) in
          let l : brackets_after (depth_after 0 before) token.kind ≤ depth_after 0 before + 1 = one_bracket (depth_after 0 before) token.kind in
          depth_with ∙ (let m : brackets_after (depth_after 0 before) token.kind ≡ 33 = omega arith in m);
    }

    runs_with : (found : Move) → moves those token.kind ≡ Some found → Runs start_parts (before ++ token ∷ []) found.then (marks ++ (mark found.is_node token.place ++ []))
    runs_with found moved = runs_append start_parts before (token ∷ []) those found.then marks (mark found.is_node token.place ++ []) p.runs (found, [], moved, (refl, refl), refl)

    goes_on_with : (found : Move) → moves those token.kind ≡ Some found → CanGoOn (before ++ token ∷ [])
    goes_on_with found moved = can_go_on tree (before ++ token ∷ []) found.then (marks ++ (mark found.is_node token.place ++ [])) (runs_with found moved)

    node_at : (found : Move) → moves those token.kind ≡ Some found → found.is_node ≡ true → 511 < length marks → IsTooManyNodes tokens token
    node_at found moved is_node many = record {
      before = before;
      after = after;
      stands = stands;
      so_far = goes_on_with found moved;
      node = λ later spelled h.
          let r = kernel_runs tree (before ++ token ∷ []) later spelled (subst (λ ts. SpellsKernel ts spelled) (up_to before token later) h) in
          let o = one_run start_parts (before ++ token ∷ []) found.then r.those (marks ++ (mark found.is_node token.place ++ [])) r.first (runs_with found moved) r.runs in
          let front : r.first ≡ marks ++ token.place ∷ [] = sym o.1 ∙ ap (λ b. marks ++ (mark b token.place ++ [])) is_node in
          let nodes : kernel_nodes spelled ≡ marks ++ token.place ∷ r.more = r.places_are ∙ ap (λ ps. ps ++ r.more) front ∙ append_assoc marks (token.place ∷ []) r.more in
          let few : length marks ≤ 512 = done_few_marks before those marks p in
          ap (λ ns. slice_get ns 512) nodes ∙ get_at marks r.more 512 token.place (omega arith);
    }

    module _ (in_order : AreInOrder 0 tokens) (long : AreLong tokens) where
      before_end : token.place < end_of_tokens tokens
      before_end = stands_before_end tokens before token after in_order long stands

      -- where another token stands
      module _ (before' : List Token) (token' : Token) (after' : List Token) (stands' : tokens ≡ before' ++ token' ∷ after') where
        seen_here : Seen before token after before' token' after'
        seen_here = seen before token after before' token' after' (sym stands ∙ stands')

        place_later : (middle : List Token) → after ≡ middle ++ token' ∷ after' → token.place < token'.place
        place_later middle e = stands_later tokens before token after middle token' after' in_order long stands e

      module _ (found : KernFault) (place_is : place_of found ≡ token.place) where
        first_of_stops : (other : KernFault) (token' : Token) → place_of other ≡ token'.place → rank other ≡ 2 → (rank found ≤ 2) ⊎ CanGoOn (before ++ token ∷ []) → StopsAt tokens token' → IsNoLater found other
        first_of_stops other token' other_is ranked known s = go (seen_here s.before token' s.after s.stands) known
          where
            go : Seen before token after s.before token' s.after → (rank found ≤ 2) ⊎ CanGoOn (before ++ token ∷ []) → IsNoLater found other
            go (earlier middle e) k = absurd (s.no_further (done_goes_on tree before those marks p s.before token' middle e))
            go (here e f g) (inl k) = inr (place_is ∙ ap (λ (t : Token). t.place) f ∙ sym other_is, omega arith)
            go (here e f g) (inr k) = absurd (s.no_further (subst (λ ts. CanGoOn ts) (ap₂ (λ (b : List Token) (t : Token). b ++ t ∷ []) e f) k))
            go (later middle e) k = let l : token.place < token'.place = place_later s.before token' s.after s.stands middle e in inl (omega arith)

        first_of_deep : (other : KernFault) (token' : Token) → place_of other ≡ token'.place → rank other ≡ 3 → (rank found ≤ 3) ⊎ (brackets_after (depth_after 0 before) token.kind ≤ 32) → IsTooDeep tokens token' → IsNoLater found other
        first_of_deep other token' other_is ranked known s = go (seen_here s.before token' s.after s.stands) known
          where
            go : Seen before token after s.before token' s.after → (rank found ≤ 3) ⊎ (brackets_after (depth_after 0 before) token.kind ≤ 32) → IsNoLater found other
            go (earlier middle e) k = absurd (done_not_deep tree before those marks p s.before token' middle e s.deep)
            go (here e f g) (inl k) = inr (place_is ∙ ap (λ (t : Token). t.place) f ∙ sym other_is, omega arith)
            go (here e f g) (inr k) =
                let l : brackets_after (depth_after 0 before) token.kind ≡ 33 = sym depth_with ∙ ap₂ (λ (b : List Token) (t : Token). open_brackets (b ++ t ∷ [])) e f ∙ s.deep in
                absurd (omega arith)
            go (later middle e) k = let l : token.place < token'.place = place_later s.before token' s.after s.stands middle e in inl (omega arith)

        first_of_nodes : (other : KernFault) (token' : Token) → place_of other ≡ token'.place → rank other ≡ 4 → rank found ≤ 4 → IsTooManyNodes tokens token' → IsNoLater found other
        first_of_nodes other token' other_is ranked known s = go (seen_here s.before token' s.after s.stands)
          where
            go : Seen before token after s.before token' s.after → IsNoLater found other
            go (earlier middle e) = absurd (done_few tree before those marks p s.before token' middle e token'.place s.node)
            go (here e f g) = inr (place_is ∙ ap (λ (t : Token). t.place) f ∙ sym other_is, omega arith)
            go (later middle e) = let l : token.place < token'.place = place_later s.before token' s.after s.stands middle e in inl (omega arith)

        first_at : (rank found ≤ 2) ⊎ CanGoOn (before ++ token ∷ []) → (rank found ≤ 3) ⊎ (brackets_after (depth_after 0 before) token.kind ≤ 32) → rank found ≤ 4 → (other : KernFault) → HasFault tokens other → IsNoLater found other
        first_at stop deep few (faults.Unexpected place) (inl h) = first_of_stops (faults.Unexpected place) h.0 h.1 refl stop h.2
        first_at stop deep few (faults.Unexpected place) (inr h) = let l : token.place < end_of_tokens tokens = before_end in let m : place ≡ end_of_tokens tokens = h.0 in inl (omega arith)
        first_at stop deep few (faults.TooDeep place) h = first_of_deep (faults.TooDeep place) h.0 h.1 refl deep h.2
        first_at stop deep few (faults.TooManyNodes place) h = first_of_nodes (faults.TooManyNodes place) h.0 h.1 refl few h.2
        first_at stop deep few (faults.BadByte place) h = absurd h
        first_at stop deep few (faults.NumberTooLarge place) h = absurd h
        first_at stop deep few faults.Memory h = absurd h

-- ---- the first fault

same_fault : (a b : KernFault) → Some a ≡ Some b → a ≡ b
same_fault a b e = cc

module _ (tree : TreesByForm) (tokens : List Token) (in_order : AreInOrder 0 tokens) (long : AreLong tokens) where
  first_fault : (result : Option KernFault) (found : KernFault) → Outcome (end_of_tokens tokens) start_parts 0 0 tokens result → result ≡ Some found → HasFirstFault tokens found
  first_fault result found (passes those marks p optional e) is = absurd (let never : None ≡ Some found = sym e ∙ is in cc)
  first_fault result found (runs_out those marks p required e) is = subst (λ f. HasFirstFault tokens f) (same_fault (faults.Unexpected (end_of_tokens tokens)) found (sym e ∙ is))
      (record { is_fault = inr (refl, run_out tree tokens those marks p.runs required); first = first_at_end tree tokens those marks p required })
  first_fault result found (refuses before token after those marks stands p none e) is = subst (λ f. HasFirstFault tokens f) (same_fault (faults.Unexpected token.place) found (sym e ∙ is))
      (record {
        is_fault = inl (token, refl, stops_at tree tokens before token after those marks stands p.runs none);
        first = first_at tree tokens before token after those marks stands p in_order long (faults.Unexpected token.place) refl (inl (omega arith)) (inl (omega arith)) (omega arith);
      })
  first_fault result found (too_deep before token after those marks move stands p moved deep e) is = subst (λ f. HasFirstFault tokens f) (same_fault (faults.TooDeep token.place) found (sym e ∙ is))
      (record {
        is_fault = (token, refl, too_deep_at tree tokens before token after those marks stands p deep);
        first = first_at tree tokens before token after those marks stands p in_order long (faults.TooDeep token.place) refl (inr (goes_on_with tree tokens before token after those marks stands p move moved)) (inl (omega arith)) (omega arith);
      })
  first_fault result found (too_many before token after those marks move stands p moved undeep is_node many e) is = subst (λ f. HasFirstFault tokens f) (same_fault (faults.TooManyNodes token.place) found (sym e ∙ is))
      (record {
        is_fault = (token, refl, node_at tree tokens before token after those marks stands p move moved is_node (let k : 511 < 0 + length marks = many in omega arith));
        first = first_at tree tokens before token after those marks stands p in_order long (faults.TooManyNodes token.place) refl (inr (goes_on_with tree tokens before token after those marks stands p move moved)) (inr undeep) (omega arith);
      })

pub fault : TreesByForm → (tokens : List Token) (found : KernFault) → AreInOrder 0 tokens → AllByRecursion (λ token. token.place < token.end) tokens
    → fault_of (Part.Decls ∷ Part.Stmts ∷ []) (start tokens) ≡ Some found → HasFirstFault tokens found
fault tree tokens found in_order long is = first_fault tree tokens in_order long (reads_on (end_of_tokens tokens) start_parts 0 0 tokens) found (outcome (end_of_tokens tokens) start_parts 0 0 tokens (omega arith) (omega arith)) is

long_of : (text : List ℕ) (tokens : List Token) → AllByRecursion (StandsIn text) tokens → AllByRecursion (λ token. token.place < token.end) tokens
long_of text [] h = tt
long_of text (token ∷ tokens) h = (h.0.nonempty, long_of text tokens h.1)

-- the same of the tokens of a text
pub fault_in_text : TreesByForm → TokensStandInText → TokensAreInOrder → (text : List ℕ) (tokens : List Token) (found : KernFault) → Spells text tokens → fault_of (Part.Decls ∷ Part.Stmts ∷ []) (start tokens) ≡ Some found → HasFirstFault tokens found
fault_in_text tree stand in_order text tokens found h = fault tree tokens found (in_order text tokens h) (long_of text tokens (stand text tokens h))

-- every text's tokens have an answer
pub some_answer : TreesByForm → TokensStandInText → TokensAreInOrder → SomeAnswer
some_answer tree stand in_order text tokens h = go (reads_on (end_of_tokens tokens) start_parts 0 0 tokens) (outcome (end_of_tokens tokens) start_parts 0 0 tokens (omega arith) (omega arith)) refl
  where
    go : (result : Option KernFault) → Outcome (end_of_tokens tokens) start_parts 0 0 tokens result → reads_on (end_of_tokens tokens) start_parts 0 0 tokens ≡ result → (answer : Result Kernel KernFault) × Parses tokens answer
    go (Some found) o is = (Err found, fault_in_text tree stand in_order text tokens found h is)
    go None (passes those marks p optional e) is = let k = kernel_here tree tokens those marks p.runs optional in (Ok k.0, whole tree tokens k.0 k.1 is)
    go None (runs_out those marks p required e) is = absurd (cc)
    go None (refuses before token after those marks stands p refused e) is = absurd (cc)
    go None (too_deep before token after those marks found stands p moved deep e) is = absurd (cc)
    go None (too_many before token after those marks found stands p moved undeep is_node many e) is = absurd (cc)
