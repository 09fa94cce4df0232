-- The canonical text of a held expression is the bytes of its pieces.
use Rattle.std.proofs.Common.{◌≡◌, ℕ, zero, suc, ◌<◌, ◌≤◌, true, false, cond, nat_lt, refl, sym, ap, ◌∙◌, List, [], ◌∷◌, ◌++◌, codes, append_assoc, append-nil, arith}
use Rattle.std.proofs.lemmas.Bool.Decides.{nat_tests}
use Rattle.std.specs.Fmt.{decimal}
use Rattle.kern_token.specs.declared.token.Symbol.{Symbol}
use Rattle.kern_token.specs.declared.token.Symbol.TheVariants as symbols
use Rattle.kern_token.specs.declared.token.Word.{Word}
use Rattle.kern_token.specs.Pieces.{Piece}
use Rattle.kern_token.specs.Spelling.{symbol_text, word_text}
use Rattle.kern_tree.specs.declared.expr.Expr.{Expr}
use Rattle.kern_tree.specs.declared.expr.Form.TheOpen as layers
use Rattle.kern_tree.specs.declared.expr.Op1.{Op1}
use Rattle.kern_tree.specs.declared.expr.Op2.{Op2}
use Rattle.kern_tree.specs.declared.expr.Op3.{Op3}
use Rattle.kern_tree.specs.Grammar.{axis_letter}
use Rattle.pf_geom.specs.declared.axis.Axis.{Axis}
use Rattle.pf_geom.specs.declared.axis.Axis.TheVariants as axes
use Rattle.kern_tree.proofs.Layers.{number_layer, name_layer, part_layer, one_layer, two_layer, three_layer, to_layer}
use Rattle.kern_print.specs.Expressions.{Operand, in_brackets, operand_of, operand_text, literal_text, axis_text}
use Rattle.kern_print.proofs.Held.{Bare, Held, bare, bracket, literal, variable, part, sign, two, call1, call2, call3, to, Infix, or, and, lt, le, gt, ge, eq, ne, add, sub, mul, div, Sign, neg, not, Call1, isqrt, abs, Call2, least, most, Call3, muldiv, build}
use Rattle.kern_print.proofs.Spelled.{bare_pieces, held_pieces, literal_pieces, closed}
use Rattle.kern_print.proofs.Stops.{sym_of, name_of, gap, bytes_of, bytes_of-append}

-- a text of this level where a level is needed
abbrev pub shown : ℕ → ℕ → List ℕ → List ℕ
shown level needed text = cond (nat_lt level needed) (codes "(" ++ text ++ codes ")") text

not_lower : (level needed : ℕ) → needed ≤ level → nat_lt level needed ≡ false
not_lower level needed h = grind (arith, nat_tests)

lower : (level needed : ℕ) → level < needed → nat_lt level needed ≡ true
lower level needed h = grind (arith, nat_tests)

-- ---- operators and calls

infix_shown : {level left : ℕ} {s : Symbol} {op : Op2} → Infix level left s op → (x y : Operand) (n : ℕ) → in_brackets (layers.Two op x y) n ≡ shown level n (x left ++ (32 ∷ symbol_text s ++ 32 ∷ []) ++ y (suc level))
infix_shown or x y n = refl
infix_shown and x y n = refl
infix_shown lt x y n = refl
infix_shown le x y n = refl
infix_shown gt x y n = refl
infix_shown ge x y n = refl
infix_shown eq x y n = refl
infix_shown ne x y n = refl
infix_shown add x y n = refl
infix_shown sub x y n = refl
infix_shown mul x y n = refl
infix_shown div x y n = refl

sign_shown : {s : Symbol} {op : Op1} → Sign s op → (x : Operand) (n : ℕ) → in_brackets (layers.One op x) n ≡ shown 6 n (symbol_text s ++ x 7)
sign_shown neg x n = refl
sign_shown not x n = refl

call1_shown : {w : Word} {op : Op1} → Call1 w op → (x : Operand) (n : ℕ) → in_brackets (layers.One op x) n ≡ shown 7 n (word_text w ++ (40 ∷ (x 1 ++ 41 ∷ [])))
call1_shown isqrt x n = refl
call1_shown abs x n = refl

call2_shown : {w : Word} {op : Op2} → Call2 w op → (x y : Operand) (n : ℕ) → in_brackets (layers.Two op x y) n ≡ shown 7 n (word_text w ++ (40 ∷ (x 1 ++ codes ", " ++ y 1 ++ 41 ∷ [])))
call2_shown least x y n = refl
call2_shown most x y n = refl

call3_shown : {w : Word} {op : Op3} → Call3 w op → (x y z : Operand) (n : ℕ) → in_brackets (layers.Three op x y z) n ≡ shown 7 n (word_text w ++ (40 ∷ (x 1 ++ codes ", " ++ y 1 ++ codes ", " ++ z 1 ++ 41 ∷ [])))
call3_shown muldiv x y z n = refl
call3_shown build x y z n = refl

same_axis : (axis : Axis) → axis_text axis ≡ axis_letter axis
same_axis axes.X = refl
same_axis axes.Y = refl
same_axis axes.Z = refl

literal_same : (m b : ℕ) → literal_text m b ≡ bytes_of (literal_pieces m b)
literal_same m zero = sym (append-nil (decimal m))
literal_same m (suc b) = append_assoc (decimal m) (codes " S") (decimal (suc b)) ∙ ap (λ x. decimal m ++ (32 ∷ 83 ∷ x)) (sym (append-nil (decimal (suc b))))

-- ---- bytes of pieces in a row

spaced : (x m y : List ℕ) → x ++ (32 ∷ m ++ 32 ∷ []) ++ y ≡ x ++ (32 ∷ (m ++ (32 ∷ y)))
spaced x m y = append_assoc x (32 ∷ m ++ 32 ∷ []) y ∙ ap (λ z. x ++ (32 ∷ z)) (append_assoc m (32 ∷ []) y)

pub behind : (ps qs : List Piece) (x : List ℕ) → x ≡ bytes_of ps → x ++ bytes_of qs ≡ bytes_of (ps ++ qs)
behind ps qs x e = ap (λ z. z ++ bytes_of qs) e ∙ sym (bytes_of-append ps qs)

comma : (ps qs : List Piece) (x y : List ℕ) → x ≡ bytes_of ps → y ≡ bytes_of qs → x ++ (44 ∷ 32 ∷ y) ≡ bytes_of (ps ++ (sym_of symbols.Comma ∷ gap ∷ qs))
comma ps qs x y e f = ap (λ z. x ++ (44 ∷ 32 ∷ z)) f ∙ behind ps (sym_of symbols.Comma ∷ gap ∷ qs) x e

regroup_two : (x y z : List ℕ) → x ++ codes ", " ++ y ++ z ≡ x ++ (44 ∷ 32 ∷ (y ++ z))
regroup_two x y z = simp append_assoc

regroup_three : (x y z w : List ℕ) → x ++ codes ", " ++ y ++ codes ", " ++ z ++ w ≡ x ++ (44 ∷ 32 ∷ (y ++ (44 ∷ 32 ∷ (z ++ w))))
regroup_three x y z w = simp append_assoc

regroup_to : (k x : List ℕ) → codes "to(" ++ k ++ codes ", " ++ x ++ codes ")" ≡ codes "to(" ++ (k ++ (44 ∷ 32 ∷ (x ++ codes ")")))
regroup_to k x = simp append_assoc

mutual
  pub bare_text : {depth level : ℕ} {e : Expr} (h : Bare depth level e) (n : ℕ) → operand_text e n ≡ shown level n (bytes_of (bare_pieces h))
  bare_text (literal {mantissa = m} {bits = b} small limit) n = ap (λ f. f n) (number_layer in_brackets operand_of m b) ∙ ap (shown 7 n) (literal_same m b)
  bare_text (variable {called = c} name) n = ap (λ f. f n) (name_layer in_brackets operand_of c) ∙ ap (shown 7 n) (sym (append-nil c))
  bare_text (part {a = a} {axis = axis} h) n =
      ap (λ f. f n) (part_layer in_brackets operand_of a axis)
      ∙ ap (shown 7 n) (append_assoc (operand_text a 7) (codes ".") (axis_text axis) ∙ ap (λ x. operand_text a 7 ++ (46 ∷ x)) (same_axis axis ∙ sym (append-nil (axis_letter axis)))
      ∙ behind (held_pieces h) (sym_of symbols.Dot ∷ name_of (axis_letter axis) ∷ []) (operand_text a 7) (held_text h))
  bare_text (sign {s = s} {op = op} {a = a} known h) n =
      ap (λ f. f n) (one_layer in_brackets operand_of op a) ∙ sign_shown known (operand_text a) n ∙ ap (λ x. shown 6 n (symbol_text s ++ x)) (held_text h)
  bare_text (two {level = level} {left = left} {s = s} {op = op} {a = a} {b = b} known h k) n =
      ap (λ f. f n) (two_layer in_brackets operand_of op a b) ∙ infix_shown known (operand_text a) (operand_text b) n
      ∙ ap (shown level n) (spaced (operand_text a left) (symbol_text s) (operand_text b (suc level)) ∙ ap (λ x. operand_text a left ++ (32 ∷ (symbol_text s ++ (32 ∷ x)))) (held_text k)
      ∙ behind (held_pieces h) (gap ∷ sym_of s ∷ gap ∷ held_pieces k) (operand_text a left) (held_text h))
  bare_text (call1 {w = w} {op = op} {a = a} known d h) n =
      ap (λ f. f n) (one_layer in_brackets operand_of op a) ∙ call1_shown known (operand_text a) n
      ∙ ap (λ x. shown 7 n (word_text w ++ (40 ∷ x))) (behind (held_pieces h) closed (operand_text a 1) (held_text h))
  bare_text (call2 {w = w} {op = op} {a = a} {b = b} known d h k) n =
      ap (λ f. f n) (two_layer in_brackets operand_of op a b) ∙ call2_shown known (operand_text a) (operand_text b) n
      ∙ ap (λ x. shown 7 n (word_text w ++ (40 ∷ x)))
      (regroup_two (operand_text a 1) (operand_text b 1) (41 ∷ []) ∙ comma (held_pieces h) (held_pieces k ++ closed) (operand_text a 1) (operand_text b 1 ++ 41 ∷ []) (held_text h) (behind (held_pieces k) closed (operand_text b 1) (held_text k)))
  bare_text (call3 {w = w} {op = op} {a = a} {b = b} {c = c} known d h k l) n =
      ap (λ f. f n) (three_layer in_brackets operand_of op a b c) ∙ call3_shown known (operand_text a) (operand_text b) (operand_text c) n
      ∙ ap (λ x. shown 7 n (word_text w ++ (40 ∷ x)))
      (regroup_three (operand_text a 1) (operand_text b 1) (operand_text c 1) (41 ∷ []) ∙ comma (held_pieces h) (held_pieces k ++ (sym_of symbols.Comma ∷ gap ∷ (held_pieces l ++ closed))) (operand_text a 1) (operand_text b 1 ++ (44 ∷ 32 ∷ (operand_text c 1 ++ 41 ∷ []))) (held_text h)
      (comma (held_pieces k) (held_pieces l ++ closed) (operand_text b 1) (operand_text c 1 ++ 41 ∷ []) (held_text k) (behind (held_pieces l) closed (operand_text c 1) (held_text l))))
  bare_text (to {bits = k} {a = a} fits d h) n =
      ap (λ f. f n) (to_layer in_brackets operand_of k a)
      ∙ ap (shown 7 n) (regroup_to (decimal k) (operand_text a 1) ∙ ap (λ x. codes "to(" ++ (decimal k ++ (44 ∷ 32 ∷ x))) (behind (held_pieces h) closed (operand_text a 1) (held_text h)))

  pub held_text : {depth needed : ℕ} {e : Expr} (h : Held depth needed e) → operand_text e needed ≡ bytes_of (held_pieces h)
  held_text {needed = needed} (bare {level = level} n b) = bare_text b needed ∙ ap (λ x. cond x (codes "(" ++ bytes_of (bare_pieces b) ++ codes ")") (bytes_of (bare_pieces b))) (not_lower level needed n)
  held_text {needed = needed} (bracket {level = level} n d b) =
      bare_text b needed ∙ ap (λ x. cond x (codes "(" ++ bytes_of (bare_pieces b) ++ codes ")") (bytes_of (bare_pieces b))) (lower level needed n)
      ∙ ap (λ x. 40 ∷ x) (behind (bare_pieces b) closed (bytes_of (bare_pieces b)) refl)
