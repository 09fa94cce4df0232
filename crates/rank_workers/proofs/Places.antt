-- The places of ranks: place k of hand w is that of rank k · W + w alone.
use Rattle.std.proofs.Common.{◌≡◌, ℕ, zero, suc, ◌+◌, ◌*◌, ◌/◌, ◌%◌, ◌<◌, ◌≤◌, inl, inr, sym, ◌∙◌, ap, arith}
use Rattle.std.proofs.Math.Nat.{div-add-mod, mul-le-mul_right}
use Rattle.std.proofs.lemmas.Bool.{cases_lt}
use Rattle.std.proofs.lemmas.Nat.{div-mul-add, mod-mul-add}

module _ (W : ℕ) where
  -- the place of a rank
  pub its_place : (rank : ℕ) → rank / W * W + rank % W ≡ rank
  its_place rank = let e = div-add-mod rank W in omega (arith, e)

  pub same_hand : (k w l v : ℕ) → w < W → v < W → k * W + w ≡ l * W + v → w ≡ v
  same_hand k w l v lt less e = sym (mod-mul-add k W w lt) ∙ ap (λ n. n % W) e ∙ mod-mul-add l W v less

  pub same_row : (k w l v : ℕ) → w < W → v < W → k * W + w ≡ l * W + v → k ≡ l
  same_row k w l v lt less e = sym (div-mul-add k W w lt) ∙ ap (λ n. n / W) e ∙ div-mul-add l W v less

  -- a later row has later ranks
  pub later_row : (k l w v : ℕ) → w ≡ v → k < l → k * W + w + W ≤ l * W + v
  later_row k l w v same less = let h : (k + 1) * W ≤ l * W = mul-le-mul_right W (omega arith) in omega (arith, h)

  pub row_before : (k l w v : ℕ) → w ≡ v → k * W + w < l * W + v → k < l
  row_before k l w v same less =
      elim (cases_lt k l) [ inl lt ↦ lt | inr le ↦ absurd (let h : l * W ≤ k * W = mul-le-mul_right W le in omega (arith, h)) ]
