-- How a reading by the table ends, told by runs.
use Rattle.std.proofs.Common.{◌≡◌, ℕ, zero, suc, ◌+◌, ◌<◌, ◌≤◌, List, [], ◌∷◌, ◌++◌, length, take, fold, Bool, true, false, cond, nat_le, nat_lt, Option, Some, None, refl, sym, ap, subst, arith}
use Rattle.std.proofs.lemmas.Bool.Decides.{nat_tests}
use Rattle.kern_token.specs.declared.fault.KernFault.{KernFault}
use Rattle.kern_token.specs.declared.fault.KernFault.TheVariants as faults
use Rattle.kern_token.specs.declared.token.Token.{Token}
use Rattle.kern_tree.specs.FirstFault.{brackets_after}
use Rattle.kern_parse.specs.inner.Leading.{nodes_after, at_counted_node, step, reads_on}
use Rattle.kern_parse.specs.Required.{Part, Move, moves, are_optional}
use Rattle.kern_parse.proofs.ExpressionTokens.{mark}
use Rattle.kern_parse.proofs.Runs.{Runs}

-- how many brackets are open after the tokens, where so many were open before them
abbrev pub depth_after : ℕ → List Token → ℕ
depth_after depth tokens = fold (λ open_before token. brackets_after open_before token.kind) depth tokens

-- the tokens are run through within the limits, where so many nodes were read and so many brackets are open
pub record Passed (parts : List Part) (nodes depth : ℕ) (tokens : List Token) (those : List Part) (marks : List ℕ) : Type 0 where
  pub runs : Runs parts tokens those marks
  pub shallow : (n : ℕ) → depth_after depth (take n tokens) ≤ 32
  pub few : nodes + length marks ≤ 512

pub data Outcome (end : ℕ) (parts : List Part) (nodes depth : ℕ) (tokens : List Token) (result : Option KernFault) : Type 0 where
  passes : (those : List Part) (marks : List ℕ) → Passed parts nodes depth tokens those marks → are_optional those ≡ true → result ≡ None → Outcome end parts nodes depth tokens result
  runs_out : (those : List Part) (marks : List ℕ) → Passed parts nodes depth tokens those marks → are_optional those ≡ false → result ≡ Some (faults.Unexpected end) → Outcome end parts nodes depth tokens result
  refuses : (before : List Token) (token : Token) (after : List Token) (those : List Part) (marks : List ℕ) → tokens ≡ before ++ token ∷ after → Passed parts nodes depth before those marks
      → moves those token.kind ≡ None → result ≡ Some (faults.Unexpected token.place) → Outcome end parts nodes depth tokens result
  too_deep : (before : List Token) (token : Token) (after : List Token) (those : List Part) (marks : List ℕ) (found : Move) → tokens ≡ before ++ token ∷ after → Passed parts nodes depth before those marks
      → moves those token.kind ≡ Some found → 32 < brackets_after (depth_after depth before) token.kind → result ≡ Some (faults.TooDeep token.place) → Outcome end parts nodes depth tokens result
  too_many : (before : List Token) (token : Token) (after : List Token) (those : List Part) (marks : List ℕ) (found : Move) → tokens ≡ before ++ token ∷ after → Passed parts nodes depth before those marks
      → moves those token.kind ≡ Some found → brackets_after (depth_after depth before) token.kind ≤ 32 → found.is_node ≡ true → 511 < nodes + length marks → result ≡ Some (faults.TooManyNodes token.place) → Outcome end parts nodes depth tokens result

deep_of : (n : ℕ) → nat_lt 32 n ≡ true → 32 < n
deep_of n h = grind (arith, nat_tests)

shallow_of : (n : ℕ) → nat_lt 32 n ≡ false → n ≤ 32
shallow_of n h = grind (arith, nat_tests)

full_of : (n : ℕ) → nat_le 512 n ≡ true → 511 < n
full_of n h = grind (arith, nat_tests)

few_of : (n : ℕ) → nat_le 512 n ≡ false → n ≤ 511
few_of n h = grind (arith, nat_tests)

nodes_of_mark : (is_node : Bool) (place nodes : ℕ) (marks : List ℕ) → nodes_after is_node nodes + length marks ≡ nodes + length (mark is_node place ++ marks)
nodes_of_mark true place nodes marks = omega arith
nodes_of_mark false place nodes marks = refl

module _ (end : ℕ) (parts : List Part) (nodes depth : ℕ) (token : Token) (rest : List Token) (found : Move) (moved : moves parts token.kind ≡ Some found) (shallow : depth ≤ 32) where
  abbrev Later : Option KernFault → Type 0
  Later result = Outcome end found.then (nodes_after found.is_node nodes) (brackets_after depth token.kind) rest result

  passed_one_more : (before : List Token) (those : List Part) (marks : List ℕ) → Passed found.then (nodes_after found.is_node nodes) (brackets_after depth token.kind) before those marks
      → Passed parts nodes depth (token ∷ before) those (mark found.is_node token.place ++ marks)
  passed_one_more before those marks p = record {
    runs = (found, marks, moved, p.runs, refl);
    shallow = shallow_at;
    few = let e : nodes_after found.is_node nodes + length marks ≡ nodes + length (mark found.is_node token.place ++ marks) = nodes_of_mark found.is_node token.place nodes marks in let k : nodes_after found.is_node nodes + length marks ≤ 512 = p.few in omega arith;
  }
    where
      shallow_at : (n : ℕ) → depth_after depth (take n (token ∷ before)) ≤ 32
      shallow_at zero = shallow
      shallow_at (suc n) = p.shallow n

  one_more : (result : Option KernFault) → Later result → Outcome end parts nodes depth (token ∷ rest) result
  one_more result (passes those marks p optional e) = passes those _ (passed_one_more rest those marks p) optional e
  one_more result (runs_out those marks p required e) = runs_out those _ (passed_one_more rest those marks p) required e
  one_more result (refuses before at after those marks stands p none e) = refuses (token ∷ before) at after those _ (ap (λ ts. token ∷ ts) stands) (passed_one_more before those marks p) none e
  one_more result (too_deep before at after those marks f stands p some deep e) = too_deep (token ∷ before) at after those _ f (ap (λ ts. token ∷ ts) stands) (passed_one_more before those marks p) some deep e
  one_more result (too_many before at after those marks f stands p some undeep is_node many e) =
      too_many (token ∷ before) at after those _ f (ap (λ ts. token ∷ ts) stands) (passed_one_more before those marks p) some undeep is_node
      (let k : nodes_after found.is_node nodes + length marks ≡ nodes + length (mark found.is_node token.place ++ marks) = nodes_of_mark found.is_node token.place nodes marks in omega arith) e

pub nothing_passed : (parts : List Part) (nodes depth : ℕ) → nodes ≤ 512 → depth ≤ 32 → Passed parts nodes depth [] parts []
nothing_passed parts nodes depth few shallow = record { runs = (refl, refl); shallow = λ n. shallow_at n; few = omega arith }
  where
    shallow_at : (n : ℕ) → depth_after depth (take n []) ≤ 32
    shallow_at zero = shallow
    shallow_at (suc n) = shallow

module _ (end : ℕ) (parts : List Part) (nodes depth : ℕ) (token : Token) (rest : List Token) (found : Move) (moved : moves parts token.kind ≡ Some found) (few : nodes ≤ 512) (shallow : depth ≤ 32) (result : Option KernFault) where
  counted_outcome : (is_node full : Bool) → found.is_node ≡ is_node → nat_le 512 nodes ≡ full → brackets_after depth token.kind ≤ 32
      → (nodes_after found.is_node nodes ≤ 512 → Outcome end found.then (nodes_after found.is_node nodes) (brackets_after depth token.kind) rest result)
      → Outcome end parts nodes depth (token ∷ rest) (at_counted_node is_node full token.place result)
  counted_outcome true true is_node full_is undeep later = too_many [] token rest parts [] found refl (nothing_passed parts nodes depth few shallow) moved undeep is_node (let k : 511 < nodes = full_of nodes full_is in omega arith) refl
  counted_outcome true false is_node full_is undeep later =
      one_more end parts nodes depth token rest found moved shallow result (later (subst (λ b. nodes_after b nodes ≤ 512) (sym is_node) (let k : nodes ≤ 511 = few_of nodes full_is in omega arith)))
  counted_outcome false full is_node full_is undeep later =
      one_more end parts nodes depth token rest found moved shallow result (later (subst (λ b. nodes_after b nodes ≤ 512) (sym is_node) few))

pub outcome : (end : ℕ) (parts : List Part) (nodes depth : ℕ) (tokens : List Token) → nodes ≤ 512 → depth ≤ 32 → Outcome end parts nodes depth tokens (reads_on end parts nodes depth tokens)
unfolding reads_on
outcome end parts nodes depth [] few shallow = go (are_optional parts) refl
  where
    go : (b : Bool) → are_optional parts ≡ b → Outcome end parts nodes depth [] (cond b None (Some (faults.Unexpected end)))
    go true e = passes parts [] (nothing_passed parts nodes depth few shallow) e refl
    go false e = runs_out parts [] (nothing_passed parts nodes depth few shallow) e refl
outcome end parts nodes depth (token ∷ rest) few shallow =
    go (nat_lt 32 (brackets_after depth token.kind)) (nat_le 512 nodes) (moves parts token.kind) refl refl refl (λ found n d. outcome end found.then (nodes_after found.is_node nodes) (brackets_after depth token.kind) rest n d)
  where
    go : (deep full : Bool) (moved : Option Move) → nat_lt 32 (brackets_after depth token.kind) ≡ deep → nat_le 512 nodes ≡ full → moves parts token.kind ≡ moved
        → ((found : Move) → nodes_after found.is_node nodes ≤ 512 → brackets_after depth token.kind ≤ 32 → Outcome end found.then (nodes_after found.is_node nodes) (brackets_after depth token.kind) rest (reads_on end found.then (nodes_after found.is_node nodes) (brackets_after depth token.kind) rest))
        → Outcome end parts nodes depth (token ∷ rest) (step token.place deep full moved (λ found. reads_on end found.then (nodes_after found.is_node nodes) (brackets_after depth token.kind) rest))
    go deep full None deep_is full_is is later = refuses [] token rest parts [] refl (nothing_passed parts nodes depth few shallow) is refl
    go true full (Some found) deep_is full_is is later = too_deep [] token rest parts [] found refl (nothing_passed parts nodes depth few shallow) is (deep_of _ deep_is) refl
    go false full (Some found) deep_is full_is is later =
        let undeep : brackets_after depth token.kind ≤ 32 = shallow_of (brackets_after depth token.kind) deep_is in
        counted_outcome end parts nodes depth token rest found is few shallow _ found.is_node full refl full_is undeep (λ n. later found n undeep)
