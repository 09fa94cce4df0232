-- The code of every expression is written in order.
use Rattle.std.proofs.Common.{ℕ, ◌<◌, List, inl, refl, sym, ap, subst, arith}
use Rattle.kern_tree.proofs.Layers.{number_layer, name_layer, part_layer, one_layer, two_layer, three_layer, to_layer}
use Rattle.kern_tree.specs.declared.expr.Expr.{Expr}
use Rattle.kern_tree.specs.declared.kernel.Decl.{Decl}
use Rattle.kern_tree.specs.Limits as limits
use Rattle.kern_tree.specs.Limits.{IsLimited}
use Rattle.kern_types.specs.Names.{declaration}
use Rattle.lane_code.specs.declared.code.RawCode.{RawCode}
use Rattle.lane_codegen.specs.declared.variable.Assigned.{Assigned}
use Rattle.lane_codegen.specs.Expressions.{code_of, expr_maker, form_maker}
use Rattle.lane_codegen.specs.Names.{entry}
use Rattle.lane_codegen.specs.Writing.{Made}
use Rattle.lane_codegen.proofs.Tidy.{Grows, Tidy, grows}
use Rattle.lane_codegen.proofs.Tidy as tidy
use Rattle.lane_codegen.proofs.Sound.{AreHeld, Sound, entry_held, lifted, literal_sound, named_sound, one_made_sound, part_made_sound, right_sound, still_held, still_within, three_made_sound, to_made_sound}

module _ (decls : List Decl) (table : List Assigned) where
  pub expr_sound : {e : Expr} → IsLimited e → (u : ℕ) (s : RawCode) → u < s.masks → AreHeld table s.numbers → Sound u s (code_of decls table e u s)
  expr_sound (limits.literal {place = p} {mantissa = m} {scale = k} small bound) u s there held =
      subst (λ (x : Made). Sound u s x) (sym (ap (λ f. f p u s) (number_layer (form_maker decls table) expr_maker m k))) (literal_sound u s s tidy.same there m k)
  expr_sound (limits.name {place = p} {called = n}) u s there held =
      subst (λ (x : Made). Sound u s x) (sym (ap (λ f. f p u s) (name_layer (form_maker decls table) expr_maker n)))
      (named_sound u s s tidy.same there (declaration decls n) (entry table n) (λ a e. entry_held table n s.numbers a held e))
  expr_sound (limits.part {place = p} {a = a} {axis = axis} h) u s there held =
      let r = expr_sound h u s there held in
      let m = (grows r.tidy).masks in
      subst (λ (x : Made). Sound u s x) (sym (ap (λ f. f p u s) (part_layer (form_maker decls table) expr_maker a axis)))
      (part_made_sound u s (code_of decls table a u s).1 r.tidy (omega (arith, there, m)) axis (code_of decls table a u s).0 s.masks r.within)
  expr_sound (limits.one {place = p} {op = op} {a = a} h) u s there held =
      let r = expr_sound h u s there held in
      let m = (grows r.tidy).masks in
      subst (λ (x : Made). Sound u s x) (sym (ap (λ f. f p u s) (one_layer (form_maker decls table) expr_maker op a)))
      (one_made_sound u s (code_of decls table a u s).1 r.tidy (omega (arith, there, m)) p op (code_of decls table a u s).0 s.masks r.within)
  expr_sound (limits.two {place = p} {op = op} {a = a} {b = b} h k) u s there held =
      let r = expr_sound h u s there held in
      let m = (grows r.tidy).masks in
      subst (λ (x : Made). Sound u s x) (sym (ap (λ f. f p u s) (two_layer (form_maker decls table) expr_maker op a b)))
      (right_sound decls table u s (code_of decls table a u s).1 r.tidy (omega (arith, there, m)) (still_held table s.numbers (code_of decls table a u s).1.numbers (grows r.tidy).numbers held) p op (code_of decls table a u s).0 b (λ v x below holds. expr_sound k v x below holds) r.within)
  expr_sound (limits.three {place = p} {op = op} {a = a} {b = b} {c = c} h k l) u s there held =
      let one : Made = code_of decls table a u s in
      let ra = expr_sound h u s there held in
      let ma = (grows ra.tidy).masks in
      let there1 : u < one.1.masks = omega (arith, there, ma) in
      let held1 = still_held table s.numbers one.1.numbers (grows ra.tidy).numbers held in
      let two : Made = code_of decls table b u one.1 in
      let rb0 = expr_sound k u one.1 there1 held1 in
      let rb = lifted u u s one.1 two ra.tidy (inl refl) rb0 in
      let mb = (grows rb0.tidy).masks in
      let there2 : u < two.1.masks = omega (arith, there1, mb) in
      let held2 = still_held table one.1.numbers two.1.numbers (grows rb0.tidy).numbers held1 in
      let three : Made = code_of decls table c u two.1 in
      let rc0 = expr_sound l u two.1 there2 held2 in
      let rc = lifted u u s two.1 three rb.tidy (inl refl) rc0 in
      let mc = (grows rc0.tidy).masks in
      subst (λ (x : Made). Sound u s x) (sym (ap (λ f. f p u s) (three_layer (form_maker decls table) expr_maker op a b c)))
      (three_made_sound u s three.1 rc.tidy (omega (arith, there2, mc)) p op one.0 two.0 three.0 s.masks
      (still_within s.masks two.1 three.1 (grows rc0.tidy) one.0 (still_within s.masks one.1 two.1 (grows rb0.tidy) one.0 ra.within))
      (still_within s.masks two.1 three.1 (grows rc0.tidy) two.0 rb.within) rc.within)
  expr_sound (limits.to {place = p} {scale = k} {a = a} h) u s there held =
      let r = expr_sound h u s there held in
      let m = (grows r.tidy).masks in
      subst (λ (x : Made). Sound u s x) (sym (ap (λ f. f p u s) (to_layer (form_maker decls table) expr_maker k a)))
      (to_made_sound u s (code_of decls table a u s).1 r.tidy (omega (arith, there, m)) p k (code_of decls table a u s).0 s.masks r.within)
