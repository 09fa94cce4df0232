-- The lines of the summary, pushed one after another.
use Rattle.std.proofs.Common.{◌≡◌, ℕ, List, [], ◌++◌, append_assoc}

-- seven labels, each before a number, the first without an end of its line
pub lines_pushed : (a1 n1 a2 n2 a3 n3 a4 n4 a5 n5 a6 n6 a7 n7 e o1 o2 o3 o4 o5 o6 o7 : List ℕ) → o1 ≡ [] ++ (a1 ++ n1) → o2 ≡ o1 ++ (a2 ++ n2 ++ e)
    → o3 ≡ o2 ++ (a3 ++ n3 ++ e) → o4 ≡ o3 ++ (a4 ++ n4 ++ e) → o5 ≡ o4 ++ (a5 ++ n5 ++ e) → o6 ≡ o5 ++ (a6 ++ n6 ++ e) → o7 ≡ o6 ++ (a7 ++ n7 ++ e)
    → o7 ≡ a1 ++ n1 ++ (a2 ++ n2 ++ e) ++ (a3 ++ n3 ++ e) ++ (a4 ++ n4 ++ e) ++ (a5 ++ n5 ++ e) ++ (a6 ++ n6 ++ e) ++ (a7 ++ n7 ++ e)
lines_pushed a1 n1 a2 n2 a3 n3 a4 n4 a5 n5 a6 n6 a7 n7 e o1 o2 o3 o4 o5 o6 o7 e1 e2 e3 e4 e5 e6 e7 =
    rw (e7, e6, e5, e4, e3, e2, e1) (simp append_assoc)
