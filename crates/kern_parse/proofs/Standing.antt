-- Tokens that stand in order, and where one of them stands among the others.
use Rattle.std.proofs.Common.{◌≡◌, ℕ, ◌<◌, ◌≤◌, List, [], ◌∷◌, ◌++◌, fold, refl, ap, ◌∙◌, subst, arith}
use Rattle.std.specs.List.{AllByRecursion}
use Rattle.kern_token.specs.declared.token.Token.{Token}
use Rattle.kern_token.specs.Reading.{AreInOrder}
use Rattle.kern_tree.specs.FirstFault.{end_of_tokens}

abbrev pub AreLong : List Token → Type 0
AreLong tokens = AllByRecursion (λ token. token.place < token.end) tokens

abbrev end_from : ℕ → List Token → ℕ
end_from end tokens = fold (λ _ (token : Token). token.end) end tokens

-- ---- two tokens of a list

-- where a token stands, seen from another
pub data Seen (before : List Token) (token : Token) (after before' : List Token) (token' : Token) (after' : List Token) : Type 0 where
  earlier : (middle : List Token) → before ≡ before' ++ token' ∷ middle → Seen before token after before' token' after'
  here : before ≡ before' → token ≡ token' → after ≡ after' → Seen before token after before' token' after'
  later : (middle : List Token) → after ≡ middle ++ token' ∷ after' → Seen before token after before' token' after'

fronts : (x y : Token) (xs ys : List Token) → x ∷ xs ≡ y ∷ ys → (x ≡ y) × (xs ≡ ys)
fronts x y xs ys e = (let f : x ≡ y = cc in f, let g : xs ≡ ys = cc in g)

seen_after : (x y : Token) (before : List Token) (token : Token) (after before' : List Token) (token' : Token) (after' : List Token) → x ≡ y → Seen before token after before' token' after' → Seen (x ∷ before) token after (y ∷ before') token' after'
seen_after x y before token after before' token' after' e (earlier middle f) = earlier middle (let g : x ∷ before ≡ y ∷ (before' ++ token' ∷ middle) = cc in g)
seen_after x y before token after before' token' after' e (here f g h) = here (let k : x ∷ before ≡ y ∷ before' = cc in k) g h
seen_after x y before token after before' token' after' e (later middle f) = later middle f

pub seen : (before : List Token) (token : Token) (after before' : List Token) (token' : Token) (after' : List Token) → before ++ token ∷ after ≡ before' ++ token' ∷ after' → Seen before token after before' token' after'
seen [] token after [] token' after' e = let f = fronts token token' after after' e in here refl f.0 f.1
seen [] token after (y ∷ before') token' after' e = later before' (fronts token y after (before' ++ token' ∷ after') e).1
seen (x ∷ before) token after [] token' after' e =
    let f = fronts x token' (before ++ token ∷ after) after' e in
    earlier before (ap (λ (t : Token). t ∷ before) f.0)
seen (x ∷ before) token after (y ∷ before') token' after' e =
    let f = fronts x y (before ++ token ∷ after) (before' ++ token' ∷ after') e in
    seen_after x y before token after before' token' after' f.0 (seen before token after before' token' after' f.1)

-- ---- places

in_order_after : (place : ℕ) (before : List Token) (token : Token) (after : List Token) → AreInOrder place (before ++ token ∷ after) → AreLong (before ++ token ∷ after) → (token.place < token.end) × AreInOrder token.end after × AreLong after
in_order_after place [] token after h k = (k.0, h.1, k.1)
in_order_after place (x ∷ before) token after h k = in_order_after x.end before token after h.1 k.1

no_earlier : (place : ℕ) (middle : List Token) (token : Token) (after : List Token) → AreInOrder place (middle ++ token ∷ after) → AreLong (middle ++ token ∷ after) → place ≤ token.place
no_earlier place [] token after h k = h.0
no_earlier place (x ∷ middle) token after h k =
    let l : x.end ≤ token.place = no_earlier x.end middle token after h.1 k.1 in
    let m : place ≤ x.place = h.0 in
    let n : x.place < x.end = k.0 in
    omega arith

no_end_before : (place : ℕ) (tokens : List Token) → AreInOrder place tokens → AreLong tokens → place ≤ end_from place tokens
no_end_before place [] h k = omega arith
no_end_before place (x ∷ tokens) h k =
    let l : x.end ≤ end_from x.end tokens = no_end_before x.end tokens h.1 k.1 in
    let m : place ≤ x.place = h.0 in
    let n : x.place < x.end = k.0 in
    omega arith

end_after : (place : ℕ) (before : List Token) (token : Token) (after : List Token) → end_from place (before ++ token ∷ after) ≡ end_from token.end after
end_after place [] token after = refl
end_after place (x ∷ before) token after = end_after x.end before token after

-- a later token stands at a later place
pub stands_later : (tokens before : List Token) (token : Token) (after middle : List Token) (token' : Token) (after' : List Token) → AreInOrder 0 tokens → AreLong tokens
    → tokens ≡ before ++ token ∷ after → after ≡ middle ++ token' ∷ after' → token.place < token'.place
stands_later tokens before token after middle token' after' h k e f =
    let o = in_order_after 0 before token after (subst (λ ts. AreInOrder 0 ts) e h) (subst (λ ts. AreLong ts) e k) in
    let l : token.end ≤ token'.place = no_earlier token.end middle token' after' (subst (λ ts. AreInOrder token.end ts) f o.1) (subst (λ ts. AreLong ts) f o.2) in
    let m : token.place < token.end = o.0 in
    omega arith

-- the end of the tokens is at a later place than each
pub stands_before_end : (tokens before : List Token) (token : Token) (after : List Token) → AreInOrder 0 tokens → AreLong tokens → tokens ≡ before ++ token ∷ after → token.place < end_of_tokens tokens
stands_before_end tokens before token after h k e =
    let o = in_order_after 0 before token after (subst (λ ts. AreInOrder 0 ts) e h) (subst (λ ts. AreLong ts) e k) in
    let l : token.end ≤ end_from token.end after = no_end_before token.end after o.1 o.2 in
    let m : token.place < token.end = o.0 in
    let n : end_of_tokens tokens ≡ end_from token.end after = ap (λ ts. end_from 0 ts) e ∙ end_after 0 before token after in
    omega arith
