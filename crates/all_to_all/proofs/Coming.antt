-- Parcels that come one after another.
use Rattle.std.proofs.Common.{◌≡◌, ℕ, ◌-◌, ◌<◌, ◌≤◌, List, [], ◌∷◌, ◌++◌, length, map, nat_eq, ap, sym, ◌∙◌, subst, arith}
use Rattle.std.specs.List.{IsDistinct}
use Rattle.std.proofs.lemmas.Cmp.{nat_eq_equiv}
use Rattle.std.proofs.lemmas.List.{map-append, append_assoc, append-nil, length-map}
use Rattle.std.proofs.lemmas.List.Elements.{All-nil, All-push, All-map}
use Rattle.std.proofs.lemmas.Map.Keys.{IsDistinct-push}
use Rattle.let_inbox.specs.Sources.{IsSource, times}
use Rattle.all_to_all.specs.Arrivals.{Extends, HaveCome}
use Rattle.all_to_all.proofs.OtherRanks.{none_there, few_sources}

module _ {M : Type 0} where
  pub Extends-same : (xs : List M) → Extends xs xs
  Extends-same xs = ([], sym (append-nil xs))

  pub Extends-more : (xs ys zs : List M) (m : M) → Extends xs ys → zs ≡ ys ++ m ∷ [] → Extends xs zs
  Extends-more xs ys zs m e more = (e.0 ++ m ∷ [], more ∙ ap (λ us. us ++ m ∷ []) e.1 ∙ append_assoc xs e.0 (m ∷ []))

  module _ (source target : M → ℕ) (has_terms : M → Type 0) (rank ranks : ℕ) where
    pub HaveCome-none : (ms : List M) → ms ≡ [] → HaveCome source target has_terms rank ranks ms
    unfolding IsDistinct
    HaveCome-none ms none = subst (HaveCome source target has_terms rank ranks) (sym none) record {
      fits = All-nil (λ m. (target m ≡ rank) × has_terms m);
      known = All-nil (λ m. IsSource rank ranks (source m));
      once = tt;
    }

    pub HaveCome-more : (ms after : List M) (m : M) → after ≡ ms ++ m ∷ [] → target m ≡ rank → has_terms m → IsSource rank ranks (source m)
        → times (source m) (map source ms) ≡ 0 → HaveCome source target has_terms rank ranks ms → HaveCome source target has_terms rank ranks after
    HaveCome-more ms after m is for_rank terms known new before = subst (HaveCome source target has_terms rank ranks) (sym is) record {
      fits = All-push (λ m. (target m ≡ rank) × has_terms m) ms m before.fits (for_rank, terms);
      known = All-push (λ m. IsSource rank ranks (source m)) ms m before.known known;
      once = subst (IsDistinct nat_eq) (sym (map-append source ms (m ∷ []))) (IsDistinct-push nat_eq_equiv (map source ms) (source m) before.once (none_there (source m) (map source ms) new));
    }

    pub HaveCome-few : (ms : List M) → rank < ranks → HaveCome source target has_terms rank ranks ms → length ms ≤ ranks - 1
    HaveCome-few ms within come =
        let few = few_sources rank ranks (map source ms) within (All-map (IsSource rank ranks) source ms come.known) come.once in
        let long = length-map ms source in omega arith
