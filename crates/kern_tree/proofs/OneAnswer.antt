-- Parsing has one answer at most.
use Rattle.std.proofs.Common.{◌≡◌, ◌≤◌, List, [], ◌∷◌, ◌++◌, length, take, Result, Ok, Err, sym, refl, ap, ◌∙◌, subst, inl, inr, append_assoc, arith}
use Rattle.std.proofs.lemmas.List.{take_at}
use Rattle.std.proofs.lemmas.Option.{slice_get_within}
use Rattle.kern_token.specs.declared.fault.KernFault.{KernFault}
use Rattle.kern_token.specs.declared.fault.KernFault.TheVariants as faults
use Rattle.kern_token.specs.declared.token.Token.{Token}
use Rattle.kern_tree.specs.declared.kernel.Kernel.{Kernel}
use Rattle.kern_tree.specs.FirstFault.{open_brackets, HasFault, place_of, rank, IsNoLater, HasFirstFault, IsKernelOf, Parses}
use Rattle.kern_tree.specs.Grammar.{SpellsKernel}
use Rattle.kern_tree.specs.Nodes.{kernel_nodes}
use Rattle.kern_tree.proofs.StmtLaws.{one_tree}

-- faults of one place and one rank are the same, but for those that no tokens have
same_fault : (tokens : List Token) (a b : KernFault) → HasFault tokens a → HasFault tokens b → place_of a ≡ place_of b → rank a ≡ rank b → a ≡ b
same_fault tokens (faults.Unexpected p) (faults.Unexpected q) h k e f = ap (λ n. faults.Unexpected n) e
same_fault tokens (faults.TooDeep p) (faults.TooDeep q) h k e f = ap (λ n. faults.TooDeep n) e
same_fault tokens (faults.TooManyNodes p) (faults.TooManyNodes q) h k e f = ap (λ n. faults.TooManyNodes n) e
same_fault tokens (faults.BadByte p) b h k e f = absurd h
same_fault tokens (faults.NumberTooLarge p) b h k e f = absurd h
same_fault tokens faults.Memory b h k e f = absurd h
same_fault tokens a (faults.BadByte q) h k e f = absurd k
same_fault tokens a (faults.NumberTooLarge q) h k e f = absurd k
same_fault tokens a faults.Memory h k e f = absurd k
same_fault tokens a b h k e f = absurd (let never : ⊥ = omega arith in never)

first_is_one : (tokens : List Token) (a b : KernFault) → HasFirstFault tokens a → HasFirstFault tokens b → a ≡ b
first_is_one tokens a b h k = either (h.first b k.is_fault) (k.first a h.is_fault)
  where
    either : IsNoLater a b → IsNoLater b a → a ≡ b
    either (inl l) (inl m) = absurd (let never : ⊥ = omega arith in never)
    either (inl l) (inr m) = absurd (let never : ⊥ = omega (arith, m.0) in never)
    either (inr l) (inl m) = absurd (let never : ⊥ = omega (arith, l.0) in never)
    either (inr l) (inr m) = same_fault tokens a b h.is_fault k.is_fault l.0 (let e : rank a ≡ rank b = omega (arith, l.1, m.1) in e)

-- a kernel's tokens have no fault
no_fault : (tokens : List Token) (kernel : Kernel) (fault : KernFault) → IsKernelOf tokens kernel → HasFault tokens fault → ⊥
no_fault tokens kernel (faults.Unexpected p) k (inl h) =
    let s = h.2 in
    s.no_further (s.after, kernel, subst (λ ts. SpellsKernel ts kernel) (s.stands ∙ sym (append_assoc s.before (h.0 ∷ []) s.after)) k.spelled)
no_fault tokens kernel (faults.Unexpected p) k (inr h) = h.1.not_whole kernel k.spelled
no_fault tokens kernel (faults.TooDeep p) k h =
    let s = h.2 in
    let front : take (length (s.before ++ h.0 ∷ [])) tokens ≡ s.before ++ h.0 ∷ [] = ap (λ ts. take (length (s.before ++ h.0 ∷ [])) ts) (s.stands ∙ sym (append_assoc s.before (h.0 ∷ []) s.after)) ∙ take_at (s.before ++ h.0 ∷ []) s.after (length (s.before ++ h.0 ∷ [])) refl in
    let deep : 33 ≤ 32 = subst (λ n. n ≤ 32) s.deep (subst (λ ts. open_brackets ts ≤ 32) front (k.shallow (length (s.before ++ h.0 ∷ [])))) in
    (let never : ⊥ = omega arith in never)
no_fault tokens kernel (faults.TooManyNodes p) k h =
    let s = h.2 in
    let node = s.node s.after kernel (subst (λ ts. SpellsKernel ts kernel) s.stands k.spelled) in
    (let never : ⊥ = omega (arith, slice_get_within (kernel_nodes kernel) 512 _ node, k.few) in never)
no_fault tokens kernel (faults.BadByte p) k h = h
no_fault tokens kernel (faults.NumberTooLarge p) k h = h
no_fault tokens kernel faults.Memory k h = h

pub one_answer : (tokens : List Token) (a b : Result Kernel KernFault) → Parses tokens a → Parses tokens b → a ≡ b
one_answer tokens (Ok a) (Ok b) h k = ap (λ x. Ok x) (one_tree tokens a b h.spelled k.spelled)
one_answer tokens (Ok a) (Err f) h k = absurd (no_fault tokens a f h k.is_fault)
one_answer tokens (Err f) (Ok b) h k = absurd (no_fault tokens b f k h.is_fault)
one_answer tokens (Err f) (Err g) h k = ap (λ x. Err x) (first_is_one tokens f g h k)
