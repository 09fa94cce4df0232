-- What every state keeps that a legal list of events leaves.
use Rattle.std.proofs.Common.{◌≡◌, ℕ, ◌+◌, ◌*◌, ◌<◌, ◌≤◌, Bool, true, false, cond, ◌&&◌, ◌||◌, List, [], ◌∷◌, ◌++◌, length, get_or, set, take, drop, replicate, Option, Some, None, inl, inr, refl, sym, ◌∙◌, ap, subst, arith}
use Rattle.std.specs.Prelude.{nat_eq, nat_lt, is_some, is_none, option_to_list, slice_get}
use Rattle.std.specs.List.{list_any, list_all, count_by, sum_by, range_with_len}
use Rattle.std.proofs.lemmas.Bool.{cases_eq, cases_lt, cases_order, and_parts, or_left, ltb-true, lt-ltb, le-ltb, eq-eqb, ne_eqb, not-true, cond-true, cond-false, or_parts, false≢true}
use Rattle.std.proofs.lemmas.List.{append_assoc, length-set, length-append, length-replicate, length-take-le, length-drop, length_push, get_or-replicate, get_or-set_same, get_or-set_other, get_or_past, take-append-drop}
use Rattle.std.proofs.lemmas.List.Folds.{list_any-append, sum_by-replicate}
use Rattle.std.proofs.lemmas.List.Sums.{sum_by-cons, sum_by_push, sum_by-set, count_by-le-length, AllPass-from_list_all, list_all-from_AllPass}
use Rattle.std.proofs.lemmas.Option.{slice_get_past}
use Rattle.pf_model.specs.Groups.{RankGroup}
use Rattle.step_core.specs.declared.event.Event.{Event}
use Rattle.step_core.specs.declared.event.Event.TheVariants.{Put, Take, Claim, Finish}
use Rattle.step_core.specs.Core.{Settings, CoreState, start, ranks_of, numbered_groups, inbox_of, arrivals_of, held_by, is_put, has_every_arrival, is_ready, is_legal, after, are_legal, after_all}

-- what a test adds to a count
pub counts : (b : Bool) → b ≡ true → cond {A = ℕ} b 1 0 ≡ 1
counts b e = cond-true b 1 0 e

pub counts_not : (b : Bool) → b ≡ false → cond {A = ℕ} b 1 0 ≡ 0
counts_not b e = cond-false b 1 0 e

-- the sources put for a rank: those that it took, and then those in its inbox
abbrev pub sources_in : List (List ℕ) → List (List ℕ) → ℕ → List ℕ
sources_in arrivals inboxes rank = get_or arrivals rank [] ++ get_or inboxes rank []

-- whether a source was put for a destination
abbrev pub put_in : List (ℕ × ℕ) → ℕ → ℕ → Bool
put_in put src dst = list_any (λ pair. nat_eq pair.0 src && nat_eq pair.1 dst) put

-- each source that was put is in the inbox or among the arrivals, once, and is another rank
pub record IsPassed (n : ℕ) (put : List (ℕ × ℕ)) (inboxes arrivals : List (List ℕ)) : Type 0 where
  pub inboxes_long : length inboxes ≡ n
  pub arrivals_long : length arrivals ≡ n
  pub lies : (src dst : ℕ) → dst < n → put_in put src dst ≡ list_any (nat_eq src) (sources_in arrivals inboxes dst)
  pub once : (src dst : ℕ) → count_by (nat_eq src) (dst ∷ sources_in arrivals inboxes dst) ≤ 1
  pub ranks : (dst : ℕ) → count_by (λ src. nat_lt src n) (sources_in arrivals inboxes dst) ≡ length (sources_in arrivals inboxes dst)

-- whether what a worker holds is this group
abbrev pub holds : ℕ → Option ℕ → Bool
holds k None = false
holds k (Some group) = nat_eq k group

-- each claimed group is finished or held, once
pub record IsShared (workers claims : ℕ) (held : List (Option ℕ)) (finished : List ℕ) : Type 0 where
  pub long : length held ≡ workers
  pub once : (k : ℕ) → count_by (nat_eq k) finished + count_by (holds k) held ≡ cond (nat_lt k claims) 1 0
  pub done : length finished + count_by is_some held ≡ claims

-- so many events left this state
pub record IsReached (s : Settings) (state : CoreState) (count : ℕ) : Type 0 where
  pub passed : IsPassed (ranks_of s) state.put state.inboxes state.arrivals
  pub shared : IsShared s.workers state.claims state.held state.finished
  pub claimed : state.claims ≤ length (numbered_groups s)
  pub ready : (k : ℕ) → k < state.claims → is_ready s state (slice_get (numbered_groups s) k) ≡ true
  pub counted : count ≡ sum_by length state.inboxes + 2 * sum_by length state.arrivals + state.claims + length state.finished

-- ---- the start

abbrev empties : ℕ → List (List ℕ)
empties n = replicate n []

none_there : (n rank : ℕ) → get_or (empties n) rank [] ≡ []
none_there n rank =
    elim (cases_lt rank n) [
      | inl within ↦ get_or-replicate n rank [] [] within
      | inr past ↦ get_or_past (empties n) rank [] (let long : length (empties n) ≡ n = length-replicate n [] in omega arith)
    ]

no_sources : (n rank : ℕ) → sources_in (empties n) (empties n) rank ≡ []
no_sources n rank = λ i. none_there n rank i ++ none_there n rank i

passed_at_start : (n : ℕ) → IsPassed n [] (empties n) (empties n)
passed_at_start n = record {
  inboxes_long = length-replicate n [];
  arrivals_long = length-replicate n [];
  lies = λ src dst within. sym (ap (list_any (nat_eq src)) (no_sources n dst));
  once = λ src dst.
      let P : List ℕ → Type 0 = λ l. count_by (nat_eq src) (dst ∷ l) ≤ 1 in
      subst P (sym (no_sources n dst)) (count_by-le-length (nat_eq src) (dst ∷ []));
  ranks = λ dst.
      let P : List ℕ → Type 0 = λ l. count_by (λ src. nat_lt src n) l ≡ length l in
      subst P (sym (no_sources n dst)) refl;
}

shared_at_start : (workers : ℕ) → IsShared workers 0 (replicate workers None) []
shared_at_start workers = record {
  long = length-replicate workers None;
  once = λ k.
      let none = sum_by-replicate (λ o. cond (holds k o) 1 0) workers None in
      let not_below = counts_not (nat_lt k 0) (le-ltb k 0 (omega arith)) in
      omega arith;
  done = (let none = sum_by-replicate (λ (o : Option ℕ). cond (is_some o) 1 0) workers None in omega arith);
}

pub start_reached : (s : Settings) → IsReached s (start s) 0
start_reached s = record {
  passed = passed_at_start (ranks_of s);
  shared = shared_at_start s.workers;
  claimed = omega arith;
  ready = λ k less. absurd (omega arith);
  counted = (let none = sum_by-replicate (length {A = ℕ}) (ranks_of s) [] in omega arith);
}

-- ---- an essential tree is put

pub same_either_way : (a b : ℕ) → nat_eq a b ≡ nat_eq b a
same_either_way a b =
    elim (cases_eq a b) [
      | inl e ↦ eq-eqb a b e ∙ sym (eq-eqb b a (sym e))
      | inr ne ↦ ne_eqb a b ne ∙ sym (ne_eqb b a (λ e. ne (sym e)))
    ]

not_there : (x : ℕ) (xs : List ℕ) → list_any (nat_eq x) xs ≡ false → count_by (nat_eq x) xs ≡ 0
not_there x [] h = refl
not_there x (y ∷ ys) h =
    let parts = or_parts (nat_eq x y) (list_any (nat_eq x) ys) h in
    let more = sum_by-cons (λ z. cond (nat_eq x z) 1 0) y ys in
    let here = counts_not (nat_eq x y) parts.0 in
    let rest = not_there x ys parts.1 in
    omega arith

or_none : (b : Bool) → (b || false) ≡ b
or_none true = refl
or_none false = refl

module _ (n : ℕ) (put : List (ℕ × ℕ)) (inboxes arrivals : List (List ℕ)) (src dst : ℕ) (h : IsPassed n put inboxes arrivals) (src_below : src < n) (dst_below : dst < n) (apart : nat_eq src dst ≡ false) (new : put_in put src dst ≡ false) where
  abbrev inboxes' : List (List ℕ)
  inboxes' = set inboxes dst (get_or inboxes dst [] ++ src ∷ [])

  at_dst : sources_in arrivals inboxes' dst ≡ sources_in arrivals inboxes dst ++ src ∷ []
  at_dst =
      let within : dst < length inboxes = (let long = h.inboxes_long in omega arith) in
      ap (λ l. get_or arrivals dst [] ++ l) (get_or-set_same inboxes dst (get_or inboxes dst [] ++ src ∷ []) [] within)
      ∙ sym (append_assoc (get_or arrivals dst []) (get_or inboxes dst []) (src ∷ []))

  elsewhere : (d : ℕ) → (d ≡ dst → ⊥) → sources_in arrivals inboxes' d ≡ sources_in arrivals inboxes d
  elsewhere d ne = ap (λ l. get_or arrivals d [] ++ l) (get_or-set_other inboxes dst d (get_or inboxes dst [] ++ src ∷ []) [] ne)

  put_lies : (x d : ℕ) → d < n → put_in (put ++ (src, dst) ∷ []) x d ≡ list_any (nat_eq x) (sources_in arrivals inboxes' d)
  put_lies x d below =
      let p : ℕ × ℕ → Bool = λ pair. nat_eq pair.0 x && nat_eq pair.1 d in
      let split : put_in (put ++ (src, dst) ∷ []) x d ≡ (put_in put x d || (p (src, dst) || false)) = list_any-append p put ((src, dst) ∷ []) in
      elim (cases_eq d dst) [
        | inl e ↦
            let here : nat_eq dst d ≡ true = eq-eqb dst d (sym e) in
            let last : p (src, dst) ≡ nat_eq x src = ap (λ b. nat_eq src x && b) here ∙ and_true (nat_eq src x) ∙ same_either_way src x in
            let now : list_any (nat_eq x) (sources_in arrivals inboxes' d) ≡ (list_any (nat_eq x) (sources_in arrivals inboxes d) || (nat_eq x src || false)) =
            ap (λ k. list_any (nat_eq x) (sources_in arrivals inboxes' k)) e ∙ ap (list_any (nat_eq x)) at_dst ∙ list_any-append (nat_eq x) (sources_in arrivals inboxes dst) (src ∷ [])
            ∙ ap (λ k. list_any (nat_eq x) (sources_in arrivals inboxes k) || (nat_eq x src || false)) (sym e) in
            split ∙ ap (λ b. put_in put x d || (b || false)) last ∙ ap (λ b. b || (nat_eq x src || false)) (h.lies x d below) ∙ sym now
        | inr ne ↦
            let not_here : nat_eq dst d ≡ false = ne_eqb dst d (λ e. ne (sym e)) in
            let none : (p (src, dst) || false) ≡ false = ap (λ b. (nat_eq src x && b) || false) not_here ∙ and_false (nat_eq src x) in
            split ∙ ap (λ b. put_in put x d || b) none ∙ or_none (put_in put x d) ∙ h.lies x d below ∙ sym (ap (list_any (nat_eq x)) (elsewhere d ne))
      ]
    where
      and_true : (b : Bool) → (b && true) ≡ b
      and_true true = refl
      and_true false = refl

      and_false : (b : Bool) → ((b && false) || false) ≡ false
      and_false true = refl
      and_false false = refl

  put_once : (x d : ℕ) → count_by (nat_eq x) (d ∷ sources_in arrivals inboxes' d) ≤ 1
  put_once x d =
      elim (cases_eq d dst) [
        | inl e ↦
            let P : ℕ → Type 0 = λ k. count_by (nat_eq x) (k ∷ sources_in arrivals inboxes' k) ≤ 1 in
            subst P (sym e)
            (let f : ℕ → ℕ = λ z. cond (nat_eq x z) 1 0 in
            let old = h.once x dst in
            let first = sum_by-cons f dst (sources_in arrivals inboxes dst) in
            let first' = sum_by-cons f dst (sources_in arrivals inboxes' dst) in
            let more = ap (sum_by f) at_dst ∙ sum_by_push f (sources_in arrivals inboxes dst) src in
            elim (cases_eq x src) [
              | inl same ↦
                  let one = counts (nat_eq x src) (eq-eqb x src same) in
                  let none : sum_by f (sources_in arrivals inboxes dst) ≡ 0 =
                  ap (λ k. count_by (nat_eq k) (sources_in arrivals inboxes dst)) same ∙ not_there src (sources_in arrivals inboxes dst) (sym (h.lies src dst dst_below) ∙ new) in
                  let itself = ap (λ k. cond (nat_eq k dst) 1 0) same ∙ counts_not (nat_eq src dst) apart in
                  omega arith
              | inr other ↦ (let none = counts_not (nat_eq x src) (ne_eqb x src other) in omega arith)
            ])
        | inr ne ↦
            let P : List ℕ → Type 0 = λ l. count_by (nat_eq x) (d ∷ l) ≤ 1 in
            subst P (sym (elsewhere d ne)) (h.once x d)
      ]

  put_ranks : (d : ℕ) → count_by (λ z. nat_lt z n) (sources_in arrivals inboxes' d) ≡ length (sources_in arrivals inboxes' d)
  put_ranks d =
      elim (cases_eq d dst) [
        | inl e ↦
            let P : ℕ → Type 0 = λ k. count_by (λ z. nat_lt z n) (sources_in arrivals inboxes' k) ≡ length (sources_in arrivals inboxes' k) in
            subst P (sym e)
            (let f : ℕ → ℕ = λ z. cond (nat_lt z n) 1 0 in
            let old = h.ranks dst in
            let more = ap (sum_by f) at_dst ∙ sum_by_push f (sources_in arrivals inboxes dst) src in
            let one = counts (nat_lt src n) (lt-ltb src n src_below) in
            let longer = ap length at_dst ∙ length_push (sources_in arrivals inboxes dst) src in
            omega arith)
        | inr ne ↦
            let P : List ℕ → Type 0 = λ l. count_by (λ z. nat_lt z n) l ≡ length l in
            subst P (sym (elsewhere d ne)) (h.ranks d)
      ]

  pub passed_after_put : IsPassed n (put ++ (src, dst) ∷ []) inboxes' arrivals
  passed_after_put = record {
    inboxes_long = length-set inboxes dst (get_or inboxes dst [] ++ src ∷ []) ∙ h.inboxes_long;
    arrivals_long = h.arrivals_long;
    lies = put_lies;
    once = put_once;
    ranks = put_ranks;
  }

  pub length_after_put : sum_by length inboxes' ≡ sum_by length inboxes + 1
  length_after_put =
      let inbox = get_or inboxes dst [] in
      let within : dst < length inboxes = (let long = h.inboxes_long in omega arith) in
      let swapped = sum_by-set (length {A = ℕ}) inboxes dst (inbox ++ src ∷ []) [] within in
      let longer = length_push inbox src in
      omega arith

-- ---- a rank takes the front of its inbox

module _ (n : ℕ) (put : List (ℕ × ℕ)) (inboxes arrivals : List (List ℕ)) (rank : ℕ) (h : IsPassed n put inboxes arrivals) (some : 0 < length (get_or inboxes rank [])) where
  abbrev rest : List (List ℕ)
  rest = set inboxes rank (drop 1 (get_or inboxes rank []))

  abbrev arrived : List (List ℕ)
  arrived = set arrivals rank (get_or arrivals rank [] ++ take 1 (get_or inboxes rank []))

  rank_below : rank < n
  rank_below =
      elim (cases_lt rank n) [
        | inl within ↦ within
        | inr past ↦
            let none = ap (length {A = ℕ}) (get_or_past inboxes rank [] (let long = h.inboxes_long in omega arith)) in
            absurd (omega arith)
      ]

  sources_stay : (d : ℕ) → sources_in arrived rest d ≡ sources_in arrivals inboxes d
  sources_stay d =
      let inbox = get_or inboxes rank [] in
      let taken = get_or arrivals rank [] in
      let below = rank_below in
      let in_inboxes : rank < length inboxes = (let long = h.inboxes_long in omega arith) in
      let in_arrivals : rank < length arrivals = (let long = h.arrivals_long in omega arith) in
      elim (cases_eq d rank) [
        | inl e ↦
            let P : ℕ → Type 0 = λ k. sources_in arrived rest k ≡ sources_in arrivals inboxes k in
            subst P (sym e)
            ((λ i. get_or-set_same arrivals rank (taken ++ take 1 inbox) [] in_arrivals i ++ get_or-set_same inboxes rank (drop 1 inbox) [] in_inboxes i)
            ∙ append_assoc taken (take 1 inbox) (drop 1 inbox) ∙ ap (λ l. taken ++ l) (take-append-drop 1 inbox))
        | inr ne ↦ (λ i. get_or-set_other arrivals rank d (taken ++ take 1 inbox) [] ne i ++ get_or-set_other inboxes rank d (drop 1 inbox) [] ne i)
      ]

  pub passed_after_take : IsPassed n put rest arrived
  passed_after_take = record {
    inboxes_long = length-set inboxes rank (drop 1 (get_or inboxes rank [])) ∙ h.inboxes_long;
    arrivals_long = length-set arrivals rank (get_or arrivals rank [] ++ take 1 (get_or inboxes rank [])) ∙ h.arrivals_long;
    lies = λ src dst below. h.lies src dst below ∙ sym (ap (list_any (nat_eq src)) (sources_stay dst));
    once = λ src dst.
        let P : List ℕ → Type 0 = λ l. count_by (nat_eq src) (dst ∷ l) ≤ 1 in
        subst P (sym (sources_stay dst)) (h.once src dst);
    ranks = λ dst.
        let P : List ℕ → Type 0 = λ l. count_by (λ src. nat_lt src n) l ≡ length l in
        subst P (sym (sources_stay dst)) (h.ranks dst);
  }

  pub length_after_take : sum_by length rest + 2 * sum_by length arrived ≡ sum_by length inboxes + 2 * sum_by length arrivals + 1
  length_after_take =
      let inbox = get_or inboxes rank [] in
      let taken = get_or arrivals rank [] in
      let below = rank_below in
      let in_inboxes : rank < length inboxes = (let long = h.inboxes_long in omega arith) in
      let in_arrivals : rank < length arrivals = (let long = h.arrivals_long in omega arith) in
      let shorter = sum_by-set (length {A = ℕ}) inboxes rank (drop 1 inbox) [] in_inboxes in
      let longer = sum_by-set (length {A = ℕ}) arrivals rank (taken ++ take 1 inbox) [] in_arrivals in
      let less = length-drop 1 inbox in
      let more = length-append taken (take 1 inbox) in
      let one = length-take-le 1 inbox (omega arith) in
      omega arith

  -- no arrival is lost
  pub arrivals_stay : (x d : ℕ) → list_any (nat_eq x) (get_or arrivals d []) ≡ true → list_any (nat_eq x) (get_or arrived d []) ≡ true
  arrivals_stay x d there =
      let taken = get_or arrivals rank [] in
      let front = take 1 (get_or inboxes rank []) in
      let below = rank_below in
      let in_arrivals : rank < length arrivals = (let long = h.arrivals_long in omega arith) in
      elim (cases_eq d rank) [
        | inl e ↦
            let P : ℕ → Type 0 = λ k. list_any (nat_eq x) (get_or arrived k []) ≡ true in
            subst P (sym e)
            (ap (list_any (nat_eq x)) (get_or-set_same arrivals rank (taken ++ front) [] in_arrivals) ∙ list_any-append (nat_eq x) taken front
            ∙ or_left (list_any (nat_eq x) taken) (list_any (nat_eq x) front) (ap (λ k. list_any (nat_eq x) (get_or arrivals k [])) (sym e) ∙ there))
        | inr ne ↦ ap (list_any (nat_eq x)) (get_or-set_other arrivals rank d (taken ++ front) [] ne) ∙ there
      ]

-- ---- groups are claimed and finished

none_from_test : (o : Option ℕ) → is_none o ≡ true → o ≡ None
none_from_test None h = refl
none_from_test (Some x) h = absurd (false≢true h)

pub below_more : (k claims : ℕ) → cond (nat_lt k (claims + 1)) 1 0 ≡ cond (nat_lt k claims) 1 0 + cond (nat_eq k claims) 1 0
below_more k claims =
    elim (cases_order k claims) [
      | inl same ↦
          let a = counts (nat_lt k (claims + 1)) (lt-ltb k (claims + 1) (omega arith)) in
          let b = counts_not (nat_lt k claims) (le-ltb k claims (omega arith)) in
          let c = counts (nat_eq k claims) (eq-eqb k claims same) in
          omega arith
      | inr h ↦ elim h [
        | inl less ↦
            let a = counts (nat_lt k (claims + 1)) (lt-ltb k (claims + 1) (omega arith)) in
            let b = counts (nat_lt k claims) (lt-ltb k claims less) in
            let c = counts_not (nat_eq k claims) (ne_eqb k claims (λ e. omega arith)) in
            omega arith
        | inr more ↦
            let a = counts_not (nat_lt k (claims + 1)) (le-ltb k (claims + 1) (omega arith)) in
            let b = counts_not (nat_lt k claims) (le-ltb k claims (omega arith)) in
            let c = counts_not (nat_eq k claims) (ne_eqb k claims (λ e. omega arith)) in
            omega arith
      ]
    ]

pub shared_after_claim : (workers claims : ℕ) (held : List (Option ℕ)) (finished : List ℕ) (worker : ℕ) → IsShared workers claims held finished → worker < workers → get_or held worker None ≡ None → IsShared workers (claims + 1) (set held worker (Some claims)) finished
shared_after_claim workers claims held finished worker h below free =
    let within : worker < length held = (let long = h.long in omega arith) in
    record {
      long = length-set held worker (Some claims) ∙ h.long;
      once = λ k.
          let f : Option ℕ → ℕ = λ o. cond (holds k o) 1 0 in
          let changed = sum_by-set f held worker (Some claims) None within in
          let before : f (get_or held worker None) ≡ 0 = ap f free in
          let old = h.once k in
          let more = below_more k claims in
          omega arith;
      done =
          (let f : Option ℕ → ℕ = λ o. cond (is_some o) 1 0 in
          let changed = sum_by-set f held worker (Some claims) None within in
          let before : f (get_or held worker None) ≡ 0 = ap f free in
          let old = h.done in
          omega arith);
    }

pub shared_after_finish : (workers claims : ℕ) (held : List (Option ℕ)) (finished : List ℕ) (worker group : ℕ) → IsShared workers claims held finished → get_or held worker None ≡ Some group → IsShared workers claims (set held worker None) (finished ++ group ∷ [])
shared_after_finish workers claims held finished worker group h holding =
    let within : worker < length held = elim (cases_lt worker (length held)) [
      | inl inside ↦ inside
      | inr past ↦ absurd (let none = get_or_past held worker None past in cc)
    ] in
    record {
      long = length-set held worker None ∙ h.long;
      once = λ k.
          let f : Option ℕ → ℕ = λ o. cond (holds k o) 1 0 in
          let changed = sum_by-set f held worker None None within in
          let before : f (get_or held worker None) ≡ cond (nat_eq k group) 1 0 = ap f holding in
          let more = sum_by_push (λ z. cond (nat_eq k z) 1 0) finished group in
          let old = h.once k in
          omega arith;
      done =
          (let f : Option ℕ → ℕ = λ o. cond (is_some o) 1 0 in
          let changed = sum_by-set f held worker None None within in
          let before : f (get_or held worker None) ≡ 1 = ap f holding in
          let longer = length_push finished group in
          let old = h.done in
          omega arith);
    }

-- ---- whether a group is ready

-- a test that passes wherever another does
all_weaker : (p q : ℕ → Bool) → ((x : ℕ) → p x ≡ true → q x ≡ true) → (xs : List ℕ) → list_all p xs ≡ true → list_all q xs ≡ true
all_weaker p q weaker xs h = list_all-from_AllPass q xs (λ i d within. weaker (get_or xs i d) (AllPass-from_list_all p xs h i d within))

either_weaker : (a b c : Bool) → (b ≡ true → c ≡ true) → (a || b) ≡ true → (a || c) ≡ true
either_weaker true b c f h = refl
either_weaker false b c f h = f h

-- with more arrivals no rank lacks one
every_arrival_stays : (n rank : ℕ) (a b : CoreState) → ((x d : ℕ) → list_any (nat_eq x) (arrivals_of a d) ≡ true → list_any (nat_eq x) (arrivals_of b d) ≡ true) → has_every_arrival a n rank ≡ true → has_every_arrival b n rank ≡ true
every_arrival_stays n rank a b more h =
    all_weaker (λ other. nat_eq other rank || list_any (nat_eq other) (arrivals_of a rank)) (λ other. nat_eq other rank || list_any (nat_eq other) (arrivals_of b rank))
    (λ x. either_weaker (nat_eq x rank) (list_any (nat_eq x) (arrivals_of a rank)) (list_any (nat_eq x) (arrivals_of b rank)) (more x rank)) (range_with_len 0 n) h

ready_stays : (s : Settings) (a b : CoreState) (group : Option RankGroup) → ((x d : ℕ) → list_any (nat_eq x) (arrivals_of a d) ≡ true → list_any (nat_eq x) (arrivals_of b d) ≡ true) → is_ready s a group ≡ true → is_ready s b group ≡ true
ready_stays s a b None more h = absurd (false≢true h)
ready_stays s a b (Some group) more h = every_arrival_stays (ranks_of s) group.rank a b more h

-- ---- one event more

pub some_group : (s : Settings) (state : CoreState) (k : ℕ) → is_ready s state (slice_get (numbered_groups s) k) ≡ true → k < length (numbered_groups s)
some_group s state k h =
    elim (cases_lt k (length (numbered_groups s))) [
      | inl within ↦ within
      | inr past ↦ absurd (false≢true (sym (ap (is_ready s state) (slice_get_past (numbered_groups s) k past)) ∙ h))
    ]

after_put : (s : Settings) (state : CoreState) (n src dst : ℕ) → IsReached s state n → is_legal s state (Put src dst) ≡ true → IsReached s (after state (Put src dst)) (n + 1)
after_put s state n src dst h legal =
    let last = and_parts _ _ legal in
    let third = and_parts _ _ last.0 in
    let first = and_parts _ _ third.0 in
    let src_below = ltb-true src (ranks_of s) first.0 in
    let dst_below = ltb-true dst (ranks_of s) first.1 in
    let apart = not-true (nat_eq src dst) third.1 in
    let new = not-true (is_put state src dst) last.1 in
    record {
      passed = passed_after_put (ranks_of s) state.put state.inboxes state.arrivals src dst h.passed src_below dst_below apart new;
      shared = h.shared;
      claimed = h.claimed;
      ready = λ k less. ready_stays s state (after state (Put src dst)) (slice_get (numbered_groups s) k) (λ x d there. there) (h.ready k less);
      counted =
          (let longer = length_after_put (ranks_of s) state.put state.inboxes state.arrivals src dst h.passed src_below dst_below apart new in
          let old = h.counted in
          omega arith);
    }

after_take : (s : Settings) (state : CoreState) (n rank : ℕ) → IsReached s state n → is_legal s state (Take rank) ≡ true → IsReached s (after state (Take rank)) (n + 1)
after_take s state n rank h legal =
    let some = ltb-true 0 (length (inbox_of state rank)) legal in
    record {
      passed = passed_after_take (ranks_of s) state.put state.inboxes state.arrivals rank h.passed some;
      shared = h.shared;
      claimed = h.claimed;
      ready = λ k less. ready_stays s state (after state (Take rank)) (slice_get (numbered_groups s) k) (arrivals_stay (ranks_of s) state.put state.inboxes state.arrivals rank h.passed some) (h.ready k less);
      counted =
          (let longer = length_after_take (ranks_of s) state.put state.inboxes state.arrivals rank h.passed some in
          let old = h.counted in
          omega arith);
    }

after_claim : (s : Settings) (state : CoreState) (n worker : ℕ) → IsReached s state n → is_legal s state (Claim worker) ≡ true → IsReached s (after state (Claim worker)) (n + 1)
after_claim s state n worker h legal =
    let last = and_parts _ _ legal in
    let first = and_parts _ _ last.0 in
    let next : is_ready s state (slice_get (numbered_groups s) state.claims) ≡ true = last.1 in
    let left = some_group s state state.claims next in
    record {
      passed = h.passed;
      shared = shared_after_claim s.workers state.claims state.held state.finished worker h.shared (ltb-true worker s.workers first.0) (none_from_test (held_by state worker) first.1);
      claimed = omega arith;
      ready = λ k less.
          ready_stays s state (after state (Claim worker)) (slice_get (numbered_groups s) k) (λ x d there. there)
          (elim (cases_lt k state.claims) [
            | inl before ↦ h.ready k before
            | inr here ↦
                let same : state.claims ≡ k = omega arith in
                let P : ℕ → Type 0 = λ m. is_ready s state (slice_get (numbered_groups s) m) ≡ true in
                subst P same next
          ]);
      counted = (let old = h.counted in omega arith);
    }

holding : (o : Option ℕ) → is_some o ≡ true → (group : ℕ) × (o ≡ Some group)
holding None h = absurd (false≢true h)
holding (Some group) h = (group, refl)

after_finish : (s : Settings) (state : CoreState) (n worker : ℕ) → IsReached s state n → is_legal s state (Finish worker) ≡ true → IsReached s (after state (Finish worker)) (n + 1)
after_finish s state n worker h legal =
    let held = holding (held_by state worker) legal in
    let finished : state.finished ++ option_to_list (held_by state worker) ≡ state.finished ++ held.0 ∷ [] = ap (λ o. state.finished ++ option_to_list o) held.1 in
    record {
      passed = h.passed;
      shared =
          (let P : List ℕ → Type 0 = IsShared s.workers state.claims (set state.held worker None) in
          subst P (sym finished) (shared_after_finish s.workers state.claims state.held state.finished worker held.0 h.shared held.1));
      claimed = h.claimed;
      ready = λ k less. ready_stays s state (after state (Finish worker)) (slice_get (numbered_groups s) k) (λ x d there. there) (h.ready k less);
      counted =
          (let longer = ap length finished ∙ length_push state.finished held.0 in
          let old = h.counted in
          omega arith);
    }

pub reached_more : (s : Settings) (state : CoreState) (n : ℕ) (event : Event) → IsReached s state n → is_legal s state event ≡ true → IsReached s (after state event) (n + 1)
reached_more s state n (Put src dst) h legal = after_put s state n src dst h legal
reached_more s state n (Take rank) h legal = after_take s state n rank h legal
reached_more s state n (Claim worker) h legal = after_claim s state n worker h legal
reached_more s state n (Finish worker) h legal = after_finish s state n worker h legal

-- any number of events more
pub reached_all : (s : Settings) (state : CoreState) (n : ℕ) (events : List Event) → IsReached s state n → are_legal s state events ≡ true → IsReached s (after_all state events) (n + length events)
reached_all s state n [] h legal = (let P : ℕ → Type 0 = IsReached s state in let e : n ≡ n + 0 = omega arith in subst P e h)
reached_all s state n (event ∷ events) h legal =
    let parts = and_parts _ _ legal in
    let rest = reached_all s (after state event) (n + 1) events (reached_more s state n event h parts.0) parts.1 in
    let P : ℕ → Type 0 = IsReached s (after_all (after state event) events) in
    let e : n + 1 + length events ≡ n + length (event ∷ events) = omega arith in
    subst P e rest
