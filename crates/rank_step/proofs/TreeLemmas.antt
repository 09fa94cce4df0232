-- What ranks have by number, and the other ranks.
use Rattle.std.proofs.Common.{◌≡◌, ℕ, zero, suc, ◌+◌, ◌<◌, ◌≤◌, false, not, List, [], ◌∷◌, ◌++◌, length, nat_eq, inl, inr, sym, ◌∙◌, ap, subst, arith}
use Rattle.std.specs.List.{Contains, filter, range_with_len}
use Rattle.std.proofs.lemmas.Bool.{cases_lt, cases_eq, ne_eqb, cond_both}
use Rattle.std.proofs.lemmas.List.{length_push, get_or_push}
use Rattle.std.proofs.Math.ListN.{get_or-append}
use Rattle.let_inbox.specs.Sources.{others}
use Rattle.tree_phase.specs.Trees.{EachByRank}

-- ---- by number

pub each_of_none : {X : Type 0} (R : ℕ → X → Type 0) (xs : List X) → length xs ≡ 0 → EachByRank R xs
each_of_none R xs none k d within = absurd (omega arith)

pub each_pushed : {X : Type 0} (R : ℕ → X → Type 0) (xs more : List X) (x : X) (n : ℕ) → more ≡ xs ++ x ∷ [] → length xs ≡ n → EachByRank R xs → R n x → EachByRank R more
each_pushed {X} R xs more x n pushed long each here =
    let P : List X → Type 0 = EachByRank R in
    subst P (sym pushed) (λ k d within. let more_long = length_push xs x in elim (cases_lt k (length xs)) [
      | inl less ↦ subst (R k) (sym (get_or-append xs (x ∷ []) d k less)) (each k d less)
      | inr past ↦
          let at : n ≡ k = omega arith in
          subst (R k) (sym (get_or_push xs x d k (long ∙ at))) (let Q : ℕ → Type 0 = λ m. R m x in subst Q at here)
    ])

pub long_pushed : {X : Type 0} (xs more : List X) (x : X) (n : ℕ) → more ≡ xs ++ x ∷ [] → length xs ≡ n → length more ≡ n + 1
long_pushed xs more x n pushed long = let more_long = length_push xs x in let same = ap length pushed in omega arith

-- ---- the other ranks

contains_past : (start rank count other : ℕ) → Contains (filter (λ src. not (nat_eq src rank)) (range_with_len (start + 1) count)) other → Contains (filter (λ src. not (nat_eq src rank)) (range_with_len start (suc count))) other
contains_past start rank count other later =
    let rest : List ℕ = filter (λ src. not (nat_eq src rank)) (range_with_len (start + 1) count) in
    cond_both (not (nat_eq start rank)) (start ∷ rest) rest (λ (l : List ℕ). Contains l other) (λ yes. (suc later.0, (let within = later.1 in omega arith), later.2)) (λ no. later)

-- each rank is the one, or one of the others
all_below : (count rank other start : ℕ) → start ≤ other → other < start + count → (other ≡ rank → ⊥) → Contains (filter (λ src. not (nat_eq src rank)) (range_with_len start count)) other
all_below zero rank other start least less differs = absurd (omega arith)
all_below (suc count) rank other start least less differs =
    elim (cases_eq start other) [
      | inl same ↦
          let kept : nat_eq start rank ≡ false = ne_eqb start rank (λ e. differs (sym same ∙ e)) in
          rw kept (0, omega arith, same)
      | inr past ↦
          let later = all_below count rank other (start + 1) (omega arith) (omega arith) differs in
          contains_past start rank count other later
    ]

pub all_others : (count rank other : ℕ) → other < count → Contains (rank ∷ others rank count) other
all_others count rank other less =
    elim (cases_eq other rank) [
      | inl same ↦ (0, omega arith, sym same)
      | inr differs ↦
          let later = all_below count rank other 0 (omega arith) (omega arith) differs in
          (suc later.0, (let within = later.1 in omega arith), later.2)
    ]
