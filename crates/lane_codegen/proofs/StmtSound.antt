-- The code of statements is written in order, and each name has registers of its own.
use Rattle.std.proofs.Common.{◌≡◌, ℕ, ◌+◌, ◌<◌, ◌≤◌, inl, inr, List, true, false, Option, Some, None, refl, sym, subst, arith}
use Rattle.kern_tree.proofs.Layers.{set_layer, give_layer, if_layer}
use Rattle.kern_tree.specs.declared.kernel.Decl.{Decl}
use Rattle.kern_tree.specs.declared.kernel.Kind.{Kind}
use Rattle.kern_tree.specs.declared.kernel.Kind.TheVariants as kinds
use Rattle.kern_tree.specs.declared.stmt.Stmt.{Stmt}
use Rattle.kern_tree.specs.Limits as limits
use Rattle.kern_tree.specs.Limits.{IsLimited, IsLimitedBlock, IsLimitedStmt}
use Rattle.lane_code.specs.declared.code.RawCode.{RawCode}
use Rattle.lane_code.specs.declared.instruction.Lane.TheVariants as lanes
use Rattle.lane_codegen.specs.declared.place.Place.{Place}
use Rattle.lane_codegen.specs.declared.place.Place.TheVariants.{Scaled, Condition}
use Rattle.lane_codegen.specs.declared.place.Registers.{Registers}
use Rattle.lane_codegen.specs.declared.variable.Assigned.{Assigned}
use Rattle.lane_codegen.specs.Acts.{copies}
use Rattle.lane_codegen.specs.Expressions.{code_of}
use Rattle.lane_codegen.specs.Names.{entry}
use Rattle.lane_codegen.specs.Statements.{StmtMaker, Written, act_code, act_maker, block_code, branches, held, held_at, stmt_maker}
use Rattle.lane_codegen.specs.Writing.{Made, new_registers, with_copies, with_copy, with_gift, with_mask, with_numbers}
use Rattle.lane_codegen.proofs.ExprSound.{expr_sound}
use Rattle.lane_codegen.proofs.Sound.{AreThere, ArePlain, Sound, Within, entry_held, new_there, numbers_tidy}
use Rattle.lane_codegen.proofs.Tables.{Ordered, held_of, ordered_more, still_ordered, width}
use Rattle.lane_codegen.proofs.Tidy.{Grows, Low, Tidy, grows, loosen, on}
use Rattle.lane_codegen.proofs.Tidy as tidy

pub record StmtSound (u : ℕ) (w x : Written) : Type 0 where
  pub tidy : Tidy false u w.code x.code
  pub ordered : Ordered 0 x.table x.code.numbers

pub copies_plain : (n : ℕ) (at : Registers) → AreThere n at → ArePlain n (copies at)
copies_plain n at h = record { x = record { makes = refl; there = refl; little = refl; reads = (h.x, tt) }; y = record { makes = refl; there = refl; little = refl; reads = (h.y, tt) }; z = record { makes = refl; there = refl; little = refl; reads = (h.z, tt) } }

-- registers written again
pub copies_tidy : (u : ℕ) (s w : RawCode) (kind : Kind) (to from : Registers) → Tidy false u s w → u < w.masks → AreThere w.numbers to → AreThere w.numbers from → Tidy false u s (with_copies kind to from u w)
copies_tidy u s w kinds.Num to from t there h k = tidy.copied w u to.x from.x t refl (inl refl) there h.x k.x
copies_tidy u s w kinds.Vec3 to from t there h k =
    let one : RawCode = with_copy u to.x from.x w in
    let two : RawCode = with_copy u to.y from.y one in
    tidy.copied two u to.z from.z (tidy.copied one u to.y from.y (tidy.copied w u to.x from.x t refl (inl refl) there h.x k.x) refl (inl refl) there h.y k.y) refl (inl refl) there h.z k.z

numbers_grown : (kind : Kind) (u : ℕ) (w : RawCode) (at : Registers) → w.numbers + width kind ≤ (with_numbers kind (copies at) u w).numbers
numbers_grown kinds.Num u w at = omega arith
numbers_grown kinds.Vec3 u w at = omega arith

copies_numbers : (kind : Kind) (to from : Registers) (u : ℕ) (w : RawCode) → (with_copies kind to from u w).numbers ≡ w.numbers
copies_numbers kinds.Num to from u w = refl
copies_numbers kinds.Vec3 to from u w = refl

-- ---- name = value;

module _ (u : ℕ) (name : List ℕ) (w : Written) (there : u < w.code.masks) (ordered : Ordered 0 w.table w.code.numbers) where
  pub held_sound : (place : Place) (x : RawCode) → Sound u w.code (place, x) → StmtSound u w (held name u w.table place x)
  held_sound (Condition m) x h = record { tidy = loosen h.tidy; ordered = still_ordered 0 w.code.numbers x.numbers w.table (grows h.tidy).numbers ordered }
  held_sound (Scaled kind scale at) x h = by_entry (entry w.table name) refl where
    there_x : u < x.masks
    there_x = let m = (grows h.tidy).masks in omega (arith, there, m)

    next_tidy : Tidy true u w.code (with_numbers kind (copies at) u x)
    next_tidy = numbers_tidy u w.code x h.tidy there_x kind (copies at) (copies_plain x.numbers at h.within)

    ordered_x : Ordered 0 w.table x.numbers
    ordered_x = still_ordered 0 w.code.numbers x.numbers w.table (grows h.tidy).numbers ordered

    ordered_next : Ordered 0 w.table (with_numbers kind (copies at) u x).numbers
    ordered_next = still_ordered 0 w.code.numbers (with_numbers kind (copies at) u x).numbers w.table (grows next_tidy).numbers ordered

    there_next : u < (with_numbers kind (copies at) u x).masks
    there_next = let m = (grows next_tidy).masks in omega (arith, there, m)

    by_entry : (found : Option Assigned) → entry w.table name ≡ found → StmtSound u w (held_at name kind scale (new_registers kind x.numbers) u found (record { table = w.table; code = with_numbers kind (copies at) u x }))
    by_entry None e = record {
      tidy = loosen next_tidy;
      ordered = still_ordered 0 (x.numbers + width kind) (with_numbers kind (copies at) u x).numbers _ (numbers_grown kind u x at) (ordered_more 0 x.numbers w.table name kind scale ordered_x);
    }
    by_entry (Some old) e = record {
      tidy = copies_tidy u w.code (with_numbers kind (copies at) u x) kind old.at (new_registers kind x.numbers) (loosen next_tidy) there_next
          (entry_held w.table name (with_numbers kind (copies at) u x).numbers old (held_of 0 (with_numbers kind (copies at) u x).numbers w.table ordered_next) e)
          (new_there u w.code x h.tidy there_x kind (copies at));
      ordered = subst (λ (n : ℕ). Ordered 0 w.table n) (sym (copies_numbers kind old.at (new_registers kind x.numbers) u (with_numbers kind (copies at) u x))) ordered_next;
    }

-- ---- name += value;

pub gift_tidy : (u : ℕ) (s w : RawCode) (base : ℕ) (place : Place) → Tidy false u s w → u < w.masks → Within base w place → Tidy false u s (with_gift place u w)
gift_tidy u s w base (Scaled kinds.Num scale at) t there h = tidy.gift w u at.x t refl (inl refl) there h.x
gift_tidy u s w base (Scaled kinds.Vec3 scale at) t there h = tidy.gifts w u at.x at.y at.z t refl (inl refl) there h.x h.y h.z
gift_tidy u s w base (Condition mask) t there h = tidy.no_gift w t refl

gift_numbers : (place : Place) (u : ℕ) (w : RawCode) → (with_gift place u w).numbers ≡ w.numbers
gift_numbers (Scaled kinds.Num scale at) u w = refl
gift_numbers (Scaled kinds.Vec3 scale at) u w = refl
gift_numbers (Condition mask) u w = refl

-- ---- if

abbrev pub IsSoundBlock : StmtMaker → Type 0
IsSoundBlock maker = (u : ℕ) (w : Written) → u < w.code.masks → Ordered 0 w.table w.code.numbers → StmtSound u w (maker u w)

module _ (u : ℕ) (w : Written) (there : u < w.code.masks) (ordered : Ordered 0 w.table w.code.numbers) (body others : StmtMaker) (one : IsSoundBlock body) (two : IsSoundBlock others) where
  branches_sound : (place : Place) (x : RawCode) → Sound u w.code (place, x) → StmtSound u w (branches u body others w.table place x)
  branches_sound (Scaled kind scale at) x h = record { tidy = loosen h.tidy; ordered = still_ordered 0 w.code.numbers x.numbers w.table (grows h.tidy).numbers ordered }
  branches_sound (Condition m) x h =
      let g = (grows h.tidy).masks in
      let below = h.within.1 in
      let there_x : u < x.masks = omega (arith, there, g) in
      let next : Written = record { table = w.table; code = with_mask u (lanes.AndNot u m) x } in
      let t1 : Tidy false u w.code next.code = tidy.and_not x u u m (loosen h.tidy) (inl refl) there_x below in
      let ordered_x : Ordered 0 w.table x.numbers = still_ordered 0 w.code.numbers x.numbers w.table (grows h.tidy).numbers ordered in
      let b = one m next (omega (arith, below)) ordered_x in
      let g2 = (grows b.tidy).masks in
      let middle : Written = body m next in
      let there_rest : x.masks < middle.code.masks = omega (arith, g2) in
      let t2 : Tidy false u w.code middle.code = on m t1 (inr h.within.0) b.tidy in
      let o = two x.masks middle there_rest b.ordered in
      record { tidy = on x.masks t2 (inr g) o.tidy; ordered = o.ordered }

-- ---- all

module _ (decls : List Decl) where
  mutual
    pub stmt_sound : {s : Stmt} → IsLimitedStmt s → IsSoundBlock (act_code decls s.act)
    stmt_sound (limits.set {place = p} {name = n} {value = v} small) u w there ordered =
        subst (λ (m : StmtMaker). StmtSound u w (m u w)) (sym (set_layer (act_maker decls) stmt_maker n v))
        (held_sound u n w there ordered (code_of decls w.table v u w.code).0 (code_of decls w.table v u w.code).1 (expr_sound decls w.table small u w.code there (held_of 0 w.code.numbers w.table ordered)))
    stmt_sound (limits.give {place = p} {name = n} {value = v} small) u w there ordered =
        let s = expr_sound decls w.table small u w.code there (held_of 0 w.code.numbers w.table ordered) in
        let made : Made = code_of decls w.table v u w.code in
        let g = (grows s.tidy).masks in
        let t : Tidy false u w.code (with_gift made.0 u made.1) = gift_tidy u w.code made.1 w.code.masks made.0 (loosen s.tidy) (omega (arith, there, g)) s.within in
        subst (λ (m : StmtMaker). StmtSound u w (m u w)) (sym (give_layer (act_maker decls) stmt_maker n v))
        (record { tidy = t; ordered = still_ordered 0 w.code.numbers (with_gift made.0 u made.1).numbers w.table (grows t).numbers ordered })
    stmt_sound (limits.conditional {place = p} {condition = c} {body = body} {others = others} small one two) u w there ordered =
        subst (λ (m : StmtMaker). StmtSound u w (m u w)) (sym (if_layer (act_maker decls) stmt_maker c body others))
        (branches_sound u w there ordered (block_code decls body) (block_code decls others) (block_sound one) (block_sound two) (code_of decls w.table c u w.code).0 (code_of decls w.table c u w.code).1 (expr_sound decls w.table small u w.code there (held_of 0 w.code.numbers w.table ordered)))

    pub block_sound : {ss : List Stmt} → IsLimitedBlock ss → IsSoundBlock (block_code decls ss)
    block_sound limits.none u w there ordered = record { tidy = tidy.same; ordered = ordered }
    block_sound (limits.more {stmt = s} {stmts = ss} one others) u w there ordered =
        let h = stmt_sound one u w there ordered in
        let g = (grows h.tidy).masks in
        let next : Written = act_code decls s.act u w in
        let k = block_sound others u next (omega (arith, there, g)) h.ordered in
        record { tidy = on u h.tidy (inl refl) k.tidy; ordered = k.ordered }
