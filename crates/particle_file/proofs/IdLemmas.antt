-- The ids of particles so far: a set of them, and that they differ.
use Rattle.std.proofs.Common.{◌≡◌, ℕ, eqb, Bool, true, false, not, cond, ◌||◌, List, [], ◌∷◌, ◌++◌, map, nat_cmp, refl, sym, ap, ap₂, ◌∙◌, subst, arith}
use Rattle.std.specs.Prelude.{nat_eq}
use Rattle.std.specs.Cmp.{nat_eq_equiv, unsigned_ties}
use Rattle.std.specs.BTreeMap.{is_at}
use Rattle.std.specs.List.{AllByRecursion, list_any, IsDistinct}
use Rattle.std.proofs.lemmas.Bool.Decides.{nat_tests}
use Rattle.std.proofs.lemmas.List.{map-append}
use Rattle.std.proofs.lemmas.List.Folds.{list_any-append}
use Rattle.std.proofs.lemmas.Map.Keys.{IsDistinct-push, IsDistinct-head, IsDistinct-tail}
use Rattle.pf_model.specs.Particle.{Particle}
use Rattle.pf_model.specs.Particles.{HaveDistinctIds}

-- one of the particles has the id
abbrev pub has_id : List Particle → ℕ → Bool
has_id ps id = list_any (λ p. eqb p.id id) ps

eqb_flip : (a b : ℕ) → eqb a b ≡ eqb b a
eqb_flip a b = grind (arith, nat_tests)

has_id-ids : (ps : List Particle) (id : ℕ) → has_id ps id ≡ list_any (nat_eq id) (map (λ p. p.id) ps)
has_id-ids [] id = refl
has_id-ids (p ∷ ps) id = ap₂ (λ a b. a || b) (eqb_flip p.id id) (has_id-ids ps id)

-- a particle of a new id
pub distinct-push : (ps : List Particle) (p : Particle) → HaveDistinctIds ps → has_id ps p.id ≡ false → HaveDistinctIds (ps ++ p ∷ [])
distinct-push ps p distinct fresh =
    subst (IsDistinct nat_eq) (sym (map-append (λ (q : Particle). q.id) ps (p ∷ [])))
    (IsDistinct-push nat_eq_equiv (map (λ q. q.id) ps) p.id distinct (sym (has_id-ids ps p.id) ∙ fresh))

pub has_id-push : (ps : List Particle) (p : Particle) (k q : ℕ) (old new : Bool) → p.id ≡ k → new ≡ cond (is_at (nat_cmp k) q) true old → old ≡ has_id ps q → new ≡ has_id (ps ++ p ∷ []) q
has_id-push ps p k q old new is added held =
    added
    ∙ ap (λ b. cond b true old) (sym (unsigned_ties k q) ∙ ap (λ id. eqb id q) (sym is))
    ∙ by_cases (eqb p.id q) old
    ∙ ap (λ b. b || (eqb p.id q || false)) held
    ∙ sym (list_any-append (λ r. eqb r.id q) ps (p ∷ [])) where
      by_cases : (b held : Bool) → cond b true held ≡ held || (b || false)
      by_cases true true = refl
      by_cases true false = refl
      by_cases false true = refl
      by_cases false false = refl

pub not_held : (a b : Bool) → a ≡ not b → a ≡ true → b ≡ false
not_held a true e h = cc
not_held a false e h = refl

pub held_already : (a b : Bool) → a ≡ not b → a ≡ false → b ≡ true
held_already a true e h = refl
held_already a false e h = cc

pub no_ids : HaveDistinctIds []
unfolding IsDistinct
no_ids = tt

-- among particles of distinct ids the later ones have none of the earlier
pub fresh_id : (before : List Particle) (p : Particle) (ps : List Particle) → HaveDistinctIds (before ++ p ∷ ps) → has_id before p.id ≡ false
fresh_id [] p ps distinct = refl
fresh_id (q ∷ before) p ps distinct =
    let head = IsDistinct-head nat_eq q.id (map (λ r. r.id) (before ++ p ∷ ps)) distinct in
    let rest = IsDistinct-tail nat_eq q.id (map (λ r. r.id) (before ++ p ∷ ps)) distinct in
    let apart : eqb q.id p.id ≡ false = at_middle before p ps q.id head in
    rw apart (fresh_id before p ps rest) where
      at_middle : (bs : List Particle) (p : Particle) (ps : List Particle) (id : ℕ) → AllByRecursion (λ y. nat_eq id y ≡ false) (map (λ r. r.id) (bs ++ p ∷ ps)) → eqb id p.id ≡ false
      at_middle [] p ps id each = each.0
      at_middle (b ∷ bs) p ps id each = at_middle bs p ps id each.1
