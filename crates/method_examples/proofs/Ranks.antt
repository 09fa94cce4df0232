-- The three ranks of a gather that has absorbed two.
use Rattle.std.proofs.Common.{◌≡◌, ◌≢◌, ℕ, ◌<◌, List, [], ◌∷◌, length, inl, inr, refl, sym, ◌∙◌, ap, subst, arith}
use Rattle.std.specs.List.{Contains}
use Rattle.std.proofs.lemmas.Bool.{cases_eq}
use Rattle.pf_model.specs.EssentialTree.{Essential}
use Rattle.group_lists.specs.Gathering.{Gathering, own_gathering, with_source}
use Rattle.pf_model.specs.Particle.{Particle}
use Rattle.morton_tree.specs.declared.group.Group.{Group}

-- three different ranks below 3 are all
pub one_of_three : (a b c n : ℕ) → a < 3 → b < 3 → c < 3 → b ≢ a → c ≢ a → b ≢ c → n < 3 → Contains (a ∷ b ∷ c ∷ []) n
one_of_three a b c n a_in b_in c_in ba ca bc within =
    elim (cases_eq n a) [
      | inl e ↦ (0, omega arith, sym e)
      | inr na ↦ elim (cases_eq n b) [
        | inl e ↦ (1, omega arith, sym e)
        | inr nb ↦ elim (cases_eq n c) [ inl e ↦ (2, omega arith, sym e) | inr nc ↦ absurd (omega arith) ]
      ]
    ]

-- the gather after two sources
pub after_two : (rank one other : ℕ) (own : List Particle) (groups : List Group) (opened halfway whole : Gathering) (first second : ℕ) → opened ≡ own_gathering rank own groups → halfway ≡ with_source opened first → whole ≡ with_source halfway second → first ≡ one → second ≡ other →
    whole ≡ record { rank = rank; own = own; groups = groups; absorbed = one ∷ other ∷ [] }
after_two rank one other own groups opened halfway whole first second a b c d e =
    c ∙ (λ i. with_source (b i) second) ∙ (λ i. with_source (with_source (a i) first) second) ∙ (λ i. record { rank = rank; own = own; groups = groups; absorbed = d i ∷ e i ∷ [] })
