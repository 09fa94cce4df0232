-- A text that is pushed piece by piece, as one piece.
use Rattle.std.proofs.Common.{◌≡◌, ℕ, ℤ, List, ◌++◌, append_assoc}
use Rattle.std.specs.List.{flat_map}
use Rattle.std.proofs.lemmas.List.Concat.{flat_map-append}

-- three labels, each before a number, and the end
pub step_pushed : (o a m b n c k e o1 o2 o3 o4 : List ℕ) → o1 ≡ o ++ (a ++ m) → o2 ≡ o1 ++ (b ++ n) → o3 ≡ o2 ++ (c ++ k) → o4 ≡ o3 ++ e
    → o4 ≡ o ++ (a ++ m ++ b ++ n ++ c ++ k ++ e)
step_pushed o a m b n c k e o1 o2 o3 o4 e1 e2 e3 e4 = rw (e4, e3, e2, e1) (simp append_assoc)

-- seven labels, each before a number, and the end
pub rank_pushed : (o a1 n1 a2 n2 a3 n3 a4 n4 a5 n5 a6 n6 a7 n7 e o1 o2 o3 o4 o5 o6 o7 o8 : List ℕ) → o1 ≡ o ++ (a1 ++ n1) → o2 ≡ o1 ++ (a2 ++ n2)
    → o3 ≡ o2 ++ (a3 ++ n3) → o4 ≡ o3 ++ (a4 ++ n4) → o5 ≡ o4 ++ (a5 ++ n5) → o6 ≡ o5 ++ (a6 ++ n6) → o7 ≡ o6 ++ (a7 ++ n7) → o8 ≡ o7 ++ e
    → o8 ≡ o ++ (a1 ++ n1 ++ a2 ++ n2 ++ a3 ++ n3 ++ a4 ++ n4 ++ a5 ++ n5 ++ a6 ++ n6 ++ a7 ++ n7 ++ e)
rank_pushed o a1 n1 a2 n2 a3 n3 a4 n4 a5 n5 a6 n6 a7 n7 e o1 o2 o3 o4 o5 o6 o7 o8 e1 e2 e3 e4 e5 e6 e7 e8 =
    rw (e8, e7, e6, e5, e4, e3, e2, e1) (simp append_assoc)

-- the first letter, the numbers in three parts, and the end
pub body_pushed : (spell : ℤ → List ℕ) (xs ys zs : List ℤ) (o a e o1 o2 o3 o4 o5 : List ℕ) → o1 ≡ o ++ a → o2 ≡ o1 ++ flat_map spell xs
    → o3 ≡ o2 ++ flat_map spell ys → o4 ≡ o3 ++ flat_map spell zs → o5 ≡ o4 ++ e → o5 ≡ o ++ (a ++ flat_map spell (xs ++ ys ++ zs) ++ e)
body_pushed spell xs ys zs o a e o1 o2 o3 o4 o5 e1 e2 e3 e4 e5 = rw (e5, e4, e3, e2, e1) (simp (flat_map-append, append_assoc))
