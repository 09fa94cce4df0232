-- What the code of a statement does in a lane is what the statement means.
use Rattle.std.proofs.Common.{◌≡◌, ◌≢◌, ℕ, ◌+◌, ◌<◌, ◌≤◌, List, [], ◌∷◌, ◌++◌, length, get_or, set, Bool, true, false, cond, Option, Some, None, Ok, Err, ℤ, pos, bytes_eq, refl, sym, ap, ◌∙◌, subst, arith}
use Rattle.std.proofs.lemmas.List.{get_or-set_same, get_or-set_other, length-set}
use Rattle.std.proofs.lemmas.Slice.Eq.{bytes_eq-Decides}
use Rattle.kern_tree.specs.declared.kernel.Decl.{Decl}
use Rattle.kern_tree.specs.declared.kernel.Kind.{Kind}
use Rattle.kern_tree.specs.declared.kernel.Kind.TheVariants as kinds
use Rattle.kern_types.specs.declared.expr_type.ExprType.TheVariants as types
use Rattle.kern_types.specs.Names.{declaration}
use Rattle.kern_meaning.specs.declared.stop.PairStop.TheVariants as pair_stops
use Rattle.kern_meaning.specs.declared.stop.Stop.TheVariants as stops
use Rattle.kern_meaning.specs.declared.value.Value.{Value}
use Rattle.kern_meaning.specs.declared.value.Value.TheVariants as values
use Rattle.kern_meaning.specs.Names.{Known, declared_value, with_value as with_named}
use Rattle.kern_meaning.specs.Operators.{number}
use Rattle.kern_meaning.specs.Pair.{OrPairStop, PairState, at_statement}
use Rattle.kern_meaning.specs.Stops.{OrStop, ◌>>=◌}
use Rattle.lane_code.specs.declared.code.RawCode.{RawCode}
use Rattle.lane_code.specs.declared.instruction.Lane.TheVariants as lanes
use Rattle.lane_code.specs.Steps.{LaneState, mask_at, number_at}
use Rattle.lane_codegen.specs.declared.place.Place.TheVariants.{Scaled}
use Rattle.lane_codegen.specs.declared.place.Registers.{Registers}
use Rattle.lane_codegen.specs.declared.variable.Assigned.{Assigned}
use Rattle.lane_codegen.specs.Acts.{copies}
use Rattle.lane_codegen.specs.Meaning.{gifts_from}
use Rattle.lane_codegen.specs.Names.{entry}
use Rattle.lane_codegen.specs.Statements.{Written, assigned_as, held, held_at}
use Rattle.lane_codegen.specs.Writing.{new_registers, value_made, with_copies, with_copy, with_numbers}
use Rattle.pf_model.specs.Particle.{Particle}
use Rattle.pf_model.specs.Totals.{Source}
use Rattle.lane_codegen.proofs.Evaluates.{Evaluates, value_at}
use Rattle.lane_codegen.proofs.ExprRuns.{Agrees, Found}
use Rattle.lane_codegen.proofs.Idle.{Kept, kept, lane, lane_more, stays_none}
use Rattle.lane_codegen.proofs.LaneSteps.{number_written, with_value}
use Rattle.lane_codegen.proofs.Operators.{Fits, num_at, vec_at}
use Rattle.lane_codegen.proofs.Runs.{Running, run_lengths}
use Rattle.lane_codegen.proofs.Sound.{AreHeld, AreThere, Sound, entry_held, numbers_tidy, still_there}
use Rattle.lane_codegen.proofs.StmtSound.{copies_plain, held_sound}
use Rattle.lane_codegen.proofs.Tables.{Apart, Ordered, WasNew, apart_below, entry_new, held_of, names_apart, new_from, other_entry, own_entry, still_ordered}
use Rattle.lane_codegen.proofs.Tidy.{Grows, Tidy, grows, loosen}
use Rattle.lane_codegen.proofs.Tidy as tidy

module _ (i : Particle) (j : Source) (decls : List Decl) (start : Running) where
  -- a lane of the mask, between two statements of a pair
  pub record Stands (u : ℕ) (w : Written) (state : PairState) (l : Running) : Type 0 where
    pub is : lane i j start w.code ≡ Some l
    pub masked : mask_at l.state.masks u ≡ true
    pub unmade : (m : ℕ) → w.code.masks ≤ m → mask_at l.state.masks m ≡ false
    pub agrees : Agrees i j decls w.table state.known l.state
    pub given : l.given ≡ gifts_from 0 state.given
    pub empty : (m : ℕ) → w.code.slots ≤ m → get_or state.given m None ≡ None

  -- the lane after statements
  pub record Went (u : ℕ) (x : Written) (before after : PairState) : Type 0 where
    pub there : Running
    pub stands : Stands u x after there
    pub long : length after.given ≡ length before.given

  abbrev pub Ends : ℕ → Written → PairState → OrPairStop PairState → Type 0
  Ends u x before (Ok after) = Went u x before after
  Ends u x before (Err (pair_stops.Fault fault)) = lane i j start x.code ≡ None
  Ends u x before (Err pair_stops.NoResult) = Unit {0}

  number_is : (kind : Kind) (scale : ℕ) (at : Registers) (t : LaneState) → number (value_at (Scaled kind scale at) t) ≡ Ok (value_at (Scaled kind scale at) t)
  number_is kinds.Num scale at t = refl
  number_is kinds.Vec3 scale at t = refl

  -- ---- registers written again

  copy_more : (u : ℕ) (w : RawCode) (l : Running) (out from : ℕ) → lane i j start w ≡ Some l → mask_at l.state.masks u ≡ true → lane i j start (with_copy u out from w) ≡ Some (with_value out (number_at l.state.numbers from) l)
  copy_more u w l out from is masked = lane_more i j start w _ l is ∙ number_written i j u out (lanes.Copy from) l (number_at l.state.numbers from) refl masked refl

  pub record Copied (scale : ℕ) (kind : Kind) (to from : Registers) (x : RawCode) (l : Running) : Type 0 where
    pub there : Running
    pub is : lane i j start x ≡ Some there
    pub value : value_at (Scaled kind scale to) there.state ≡ value_at (Scaled kind scale from) l.state
    pub others : (r : ℕ) → r ≢ to.x → r ≢ to.y → r ≢ to.z → number_at there.state.numbers r ≡ number_at l.state.numbers r
    pub masks : there.state.masks ≡ l.state.masks
    pub given : there.given ≡ l.given

  copied : (u scale : ℕ) (kind : Kind) (first : ℕ) (from : Registers) (w : RawCode) (l : Running) → lane i j start w ≡ Some l → mask_at l.state.masks u ≡ true → AreThere (length l.state.numbers) (new_registers kind first) → Apart (new_registers kind first) from
      → Copied scale kind (new_registers kind first) from (with_copies kind (new_registers kind first) from u w) l
  copied u scale kinds.Num n from w l is masked room apart = record {
    there = with_value n (number_at l.state.numbers from.x) l;
    is = copy_more u w l n from.x is masked;
    value = ap (λ x. values.Num x scale) (get_or-set_same l.state.numbers n (number_at l.state.numbers from.x) (pos 0) room.x);
    others = λ r x y z. get_or-set_other l.state.numbers n r (number_at l.state.numbers from.x) (pos 0) x;
    masks = refl;
    given = refl;
  }
  copied u scale kinds.Vec3 n from w l is masked room apart =
      let a : ℤ = number_at l.state.numbers from.x in
      let ns1 : List ℤ = set l.state.numbers n a in
      let b : ℤ = number_at ns1 from.y in
      let ns2 : List ℤ = set ns1 (n + 1) b in
      let c : ℤ = number_at ns2 from.z in
      let l1 : Running = with_value n a l in
      let l2 : Running = with_value (n + 1) b l1 in
      let is1 = copy_more u w l n from.x is masked in
      let is2 = copy_more u (with_copy u n from.x w) l1 (n + 1) from.y is1 masked in
      let is3 = copy_more u (with_copy u (n + 1) from.y (with_copy u n from.x w)) l2 (n + 1 + 1) from.z is2 masked in
      let long1 = length-set l.state.numbers n a in
      let long2 = length-set ns1 (n + 1) b in
      let b_is : b ≡ number_at l.state.numbers from.y = get_or-set_other l.state.numbers n from.y a (pos 0) apart.y.0 in
      let c_is : c ≡ number_at l.state.numbers from.z = get_or-set_other ns1 (n + 1) from.z b (pos 0) apart.z.1.0 ∙ get_or-set_other l.state.numbers n from.z a (pos 0) apart.z.0 in
      let rx = room.x in let ry = room.y in let rz = room.z in
      let x_is : number_at (set ns2 (n + 1 + 1) c) n ≡ a = get_or-set_other ns2 (n + 1 + 1) n c (pos 0) (λ e. omega (arith, e)) ∙ get_or-set_other ns1 (n + 1) n b (pos 0) (λ e. omega (arith, e)) ∙ get_or-set_same l.state.numbers n a (pos 0) rx in
      let y_is : number_at (set ns2 (n + 1 + 1) c) (n + 1) ≡ b = get_or-set_other ns2 (n + 1 + 1) (n + 1) c (pos 0) (λ e. omega (arith, e)) ∙ get_or-set_same ns1 (n + 1) b (pos 0) (omega (arith, ry, long1)) in
      let z_is : number_at (set ns2 (n + 1 + 1) c) (n + 1 + 1) ≡ c = get_or-set_same ns2 (n + 1 + 1) c (pos 0) (omega (arith, rz, long1, long2)) in
      record {
        there = with_value (n + 1 + 1) c l2;
        is = is3;
        value = three x_is (y_is ∙ b_is) (z_is ∙ c_is);
        others = λ r x y z. get_or-set_other ns2 (n + 1 + 1) r c (pos 0) z ∙ get_or-set_other ns1 (n + 1) r b (pos 0) y ∙ get_or-set_other l.state.numbers n r a (pos 0) x;
        masks = refl;
        given = refl;
      } where
        three : {x y z x' y' z' : ℤ} → x' ≡ x → y' ≡ y → z' ≡ z → values.Vec3 (x' ∷ y' ∷ z' ∷ []) scale ≡ values.Vec3 (x ∷ y ∷ z ∷ []) scale
        three e f g = cc

  -- ---- names

  value_same : (kind : Kind) (scale : ℕ) (at : Registers) (t k : LaneState) → number_at k.numbers at.x ≡ number_at t.numbers at.x → number_at k.numbers at.y ≡ number_at t.numbers at.y → number_at k.numbers at.z ≡ number_at t.numbers at.z
      → value_at (Scaled kind scale at) k ≡ value_at (Scaled kind scale at) t
  value_same kinds.Num scale at t k x y z = ap (λ v. values.Num v scale) x
  value_same kinds.Vec3 scale at t k x y z = three x y z where
    three : {x y z x' y' z' : ℤ} → x' ≡ x → y' ≡ y → z' ≡ z → values.Vec3 (x' ∷ y' ∷ z' ∷ []) scale ≡ values.Vec3 (x ∷ y ∷ z ∷ []) scale
    three e f g = cc

  module _ (name : List ℕ) (v : Value) (undeclared : declaration decls name ≡ None) (table later : List Assigned) (known : Known) (t k : LaneState) (own : Found later name v k)
      (others : (other : List ℕ) (a : Assigned) → bytes_eq name other ≡ false → entry table other ≡ Some a → (entry later other ≡ Some a) × (value_at (Scaled a.kind a.scale a.at) k ≡ value_at (Scaled a.kind a.scale a.at) t)) (agrees : Agrees i j decls table known t) where
    some_is : {x y : Value} → Some x ≡ Some y → x ≡ y
    some_is e = cc

    found : (other : List ℕ) (b : Bool) → bytes_eq name other ≡ b → declaration decls other ≡ None → (x : Value) → cond b (Some v) (known other) ≡ Some x → Found later other x k
    found other true e none x is = subst (λ (n : List ℕ). Found later n x k) ((bytes_eq-Decides name other).0 e) (subst (λ (y : Value). Found later name y k) (some_is is) own)
    found other false e none x is =
        let f = agrees.assigned other none x is in
        let o = others other f.assigned e f.is in
        record { assigned = f.assigned; is = o.0; value = o.1 ∙ f.value }

    declared_as : (other : List ℕ) (decl : Decl) (b : Bool) → bytes_eq name other ≡ b → declaration decls other ≡ Some decl → cond b (Some v) (known other) ≡ declared_value i j decl.what
    declared_as other decl true e is = absurd (let f : declaration decls other ≡ None = subst (λ (n : List ℕ). declaration decls n ≡ None) ((bytes_eq-Decides name other).0 e) undeclared in let no : ⊥ = cc in no)
    declared_as other decl false e is = agrees.declared other decl is

    pub set_agrees : Agrees i j decls later (with_named known name v) k
    set_agrees = record {
      declared = λ other decl is. declared_as other decl (bytes_eq name other) refl is;
      assigned = λ other none x is. found other (bytes_eq name other) refl none x is;
    }

  -- ---- name = value;

  copies_run : (u : ℕ) (x : RawCode) (l : Running) (kind : Kind) (scale : ℕ) (at : Registers) → lane i j start x ≡ Some l → mask_at l.state.masks u ≡ true → u < x.masks → AreThere x.numbers at → Fits start (with_numbers kind (copies at) u x)
      → Evaluates i j start (value_made (types.Scaled kind scale) (copies at) u x) (Ok (value_at (Scaled kind scale at) l.state))
  copies_run u x l kinds.Num scale at is masked there h fits = num_at i j start u x l is masked there scale (copies at) (Ok _) (copies_plain x.numbers at h) refl fits
  copies_run u x l kinds.Vec3 scale at is masked there h fits = vec_at i j start u x l is masked there scale (copies at) (Ok _) (Ok _) (Ok _) (copies_plain x.numbers at h) refl refl refl fits

  fits_copied : (kind : Kind) (to from : Registers) (u : ℕ) (x : RawCode) → Fits start (with_copies kind to from u x) → Fits start x
  fits_copied kinds.Num to from u x f = record { numbers = f.numbers; masks = f.masks }
  fits_copied kinds.Vec3 to from u x f = record { numbers = f.numbers; masks = f.masks }

  copies_slots : (kind : Kind) (to from : Registers) (u : ℕ) (x : RawCode) → (with_copies kind to from u x).slots ≡ x.slots
  copies_slots kinds.Num to from u x = refl
  copies_slots kinds.Vec3 to from u x = refl

  copies_masks : (kind : Kind) (to from : Registers) (u : ℕ) (x : RawCode) → (with_copies kind to from u x).masks ≡ x.masks
  copies_masks kinds.Num to from u x = refl
  copies_masks kinds.Vec3 to from u x = refl

  module _ (u : ℕ) (name : List ℕ) (w : Written) (there : u < w.code.masks) (ordered : Ordered 0 w.table w.code.numbers) (undeclared : declaration decls name ≡ None) (kind : Kind) (scale : ℕ) (at : Registers) (x : RawCode) (sound : Sound u w.code (Scaled kind scale at, x))
      (again : (old : Assigned) → entry w.table name ≡ Some old → (old.kind ≡ kind) × (old.scale ≡ scale)) (state : PairState) (l : Running) (stands : Stands u w state l) where
    there_x : u < x.masks
    there_x = let m = (grows sound.tidy).masks in omega (arith, there, m)

    abbrev next : RawCode
    next = with_numbers kind (copies at) u x

    next_tidy : Tidy true u w.code next
    next_tidy = numbers_tidy u w.code x sound.tidy there_x kind (copies at) (copies_plain x.numbers at sound.within)

    held_here : AreHeld w.table w.code.numbers
    held_here = held_of 0 w.code.numbers w.table ordered

    abbrev told : Value → PairState
    told v = record { known = with_named state.known name v; given = state.given }

    module _ (k1 k2 : Running) (is1 : lane i j start x ≡ Some k1) (is2 : lane i j start next ≡ Some k2) (v : Value) (value2 : value_at (Scaled kind scale (new_registers kind x.numbers)) k2.state ≡ v) where
      K : Kept i j start true w.code next.masks l k2
      K = kept i j start next_tidy l k2 stands.is is2

      masked2 : mask_at k2.state.masks u ≡ true
      masked2 = K.masks u there ∙ stands.masked

      unmade2 : (m : ℕ) → next.masks ≤ m → mask_at k2.state.masks m ≡ false
      unmade2 m above = let g = (grows next_tidy).masks in K.unmade m above ∙ stands.unmade m (omega (arith, above, g))

      went_new : entry w.table name ≡ None → Went u (record { table = w.table ++ assigned_as name kind scale (new_registers kind x.numbers) ∷ []; code = next }) state (told v)
      went_new e = record {
        there = k2;
        stands = record {
          is = is2;
          masked = masked2;
          unmade = unmade2;
          agrees = set_agrees name v undeclared w.table (w.table ++ assigned_as name kind scale (new_registers kind x.numbers) ∷ []) state.known l.state k2.state
              (record { assigned = assigned_as name kind scale (new_registers kind x.numbers); is = own_entry w.table (assigned_as name kind scale (new_registers kind x.numbers)) e; value = value2 })
              (λ other a apart ea.
              let h = entry_held w.table other w.code.numbers a held_here ea in (
                other_entry w.table (assigned_as name kind scale (new_registers kind x.numbers)) e other apart ∙ ea,
                value_same a.kind a.scale a.at l.state k2.state (K.numbers refl a.at.x h.x) (K.numbers refl a.at.y h.y) (K.numbers refl a.at.z h.z),
              ))
              stands.agrees;
          given = K.given refl ∙ stands.given;
          empty = λ m above. let g = (grows next_tidy).slots in stands.empty m (omega (arith, above, g));
        };
        long = refl;
      }

      module _ (old : Assigned) (e : entry w.table name ≡ Some old) where
        was : WasNew old
        was = entry_new 0 w.code.numbers w.table name old ordered e

        at_is : old.at ≡ new_registers kind was.first
        at_is = was.is ∙ ap (λ q. new_registers q was.first) (again old e).0

        old_there : AreThere w.code.numbers old.at
        old_there = entry_held w.table name w.code.numbers old held_here e

        room : AreThere (length k2.state.numbers) old.at → AreThere (length k2.state.numbers) (new_registers kind was.first)
        room h = subst (λ (r : Registers). AreThere (length k2.state.numbers) r) at_is h

        apart_here : Apart old.at (new_registers kind x.numbers)
        apart_here = apart_below x.numbers old.at (new_registers kind x.numbers) (still_there w.code.numbers x.numbers old.at (grows sound.tidy).numbers old_there) (new_from kind x.numbers x.numbers (omega arith))

        went_again : Fits start next → Went u (record { table = w.table; code = with_copies kind old.at (new_registers kind x.numbers) u next }) state (told v)
        went_again fits =
            let long = (run_lengths i j next.steps start k2 is2).numbers in
            let f = fits.numbers in
            let g = (grows next_tidy).numbers in
            let in_room : AreThere (length k2.state.numbers) old.at = still_there w.code.numbers (length k2.state.numbers) old.at (omega (arith, long, f, g)) old_there in
            let C : Copied scale kind old.at (new_registers kind x.numbers) (with_copies kind old.at (new_registers kind x.numbers) u next) k2 =
            subst (λ (r : Registers). Copied scale kind r (new_registers kind x.numbers) (with_copies kind r (new_registers kind x.numbers) u next) k2) (sym at_is)
            (copied u scale kind was.first (new_registers kind x.numbers) next k2 is2 masked2 (room in_room) (subst (λ (r : Registers). Apart r (new_registers kind x.numbers)) at_is apart_here)) in
            let slots_same = copies_slots kind old.at (new_registers kind x.numbers) u next in
            let masks_same = copies_masks kind old.at (new_registers kind x.numbers) u next in
            record {
              there = C.there;
              stands = record {
                is = C.is;
                masked = ap (λ ms. mask_at ms u) C.masks ∙ masked2;
                unmade = λ m above. ap (λ ms. mask_at ms m) C.masks ∙ unmade2 m (omega (arith, above, masks_same));
                agrees = set_agrees name v undeclared w.table w.table state.known l.state C.there.state
                    (record {
                      assigned = old;
                      is = e;
                      value = ap (λ q. value_at (Scaled q old.scale old.at) C.there.state) (again old e).0 ∙ ap (λ q. value_at (Scaled kind q old.at) C.there.state) (again old e).1 ∙ C.value ∙ value2;
                    })
                    (λ other a apart ea.
                    let h = entry_held w.table other w.code.numbers a held_here ea in
                    let p = names_apart 0 w.code.numbers w.table name other old a apart ordered e ea in (
                      ea,
                      value_same a.kind a.scale a.at l.state C.there.state
                          (C.others a.at.x p.x.0 p.x.1.0 p.x.1.1 ∙ K.numbers refl a.at.x h.x)
                          (C.others a.at.y p.y.0 p.y.1.0 p.y.1.1 ∙ K.numbers refl a.at.y h.y)
                          (C.others a.at.z p.z.0 p.z.1.0 p.z.1.1 ∙ K.numbers refl a.at.z h.z),
                    ))
                    stands.agrees;
                given = C.given ∙ K.given refl ∙ stands.given;
                empty = λ m above. let g2 = (grows next_tidy).slots in stands.empty m (omega (arith, above, g2, slots_same));
              };
              long = refl;
            }

    went_held : (k1 : Running) → lane i j start x ≡ Some k1 → (found : Option Assigned) → entry w.table name ≡ found → Fits start (held_at name kind scale (new_registers kind x.numbers) u found (record { table = w.table; code = next })).code
        → Went u (held_at name kind scale (new_registers kind x.numbers) u found (record { table = w.table; code = next })) state (told (value_at (Scaled kind scale at) k1.state))
    went_held k1 is1 None e fits =
        let masked1 = (kept i j start sound.tidy l k1 stands.is is1).masks u there ∙ stands.masked in
        let h = copies_run u x k1 kind scale at is1 masked1 there_x sound.within fits in
        went_new k1 h.there is1 h.is (value_at (Scaled kind scale at) k1.state) h.value e
    went_held k1 is1 (Some old) e fits =
        let masked1 = (kept i j start sound.tidy l k1 stands.is is1).masks u there ∙ stands.masked in
        let fits_next = fits_copied kind old.at (new_registers kind x.numbers) u next fits in
        let h = copies_run u x k1 kind scale at is1 masked1 there_x sound.within fits_next in
        went_again k1 h.there is1 h.is (value_at (Scaled kind scale at) k1.state) h.value old e fits_next

    pub set_scaled : (coincident : Bool) (n : ℕ) (answer : OrStop Value) → Evaluates i j start (Scaled kind scale at, x) answer → Fits start (held name u w.table (Scaled kind scale at) x).code
        → Ends u (held name u w.table (Scaled kind scale at) x) state (at_statement coincident n (answer >>= number) >>= (λ v. Ok (told v)))
    set_scaled coincident n (Ok v) h fits =
        subst (λ (y : Value). Ends u (held name u w.table (Scaled kind scale at) x) state (at_statement coincident n (number y) >>= (λ v. Ok (told v)))) h.value
        (subst (λ (y : OrStop Value). Ends u (held name u w.table (Scaled kind scale at) x) state (at_statement coincident n y >>= (λ v. Ok (told v)))) (sym (number_is kind scale at h.there.state))
        (went_held h.there h.is (entry w.table name) refl fits))
    set_scaled coincident n (Err (stops.Fault fault)) h fits =
        stays_none i j start (held_sound u name (record { table = w.table; code = x }) there_x (still_ordered 0 w.code.numbers x.numbers w.table (grows sound.tidy).numbers ordered) (Scaled kind scale at) x (record { tidy = tidy.same; within = sound.within })).tidy h
    set_scaled coincident n (Err stops.NoResult) h fits = tt
