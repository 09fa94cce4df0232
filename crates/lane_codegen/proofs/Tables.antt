-- The registers of names: each name has its own.
use Rattle.std.proofs.Common.{◌≡◌, ◌≢◌, ℕ, ◌+◌, ◌≤◌, List, [], ◌∷◌, ◌++◌, Bool, true, false, cond, Option, Some, None, bytes_eq, refl, sym, ap, ◌∙◌, subst, arith}
use Rattle.std.specs.Prelude.{find}
use Rattle.std.proofs.lemmas.Slice.Eq.{bytes_eq-Decides}
use Rattle.kern_types.proofs.Checks.{find_kept, find_later}
use Rattle.kern_tree.specs.declared.kernel.Kind.{Kind}
use Rattle.kern_tree.specs.declared.kernel.Kind.TheVariants as kinds
use Rattle.lane_codegen.specs.declared.place.Registers.{Registers}
use Rattle.lane_codegen.specs.declared.variable.Assigned.{Assigned}
use Rattle.lane_codegen.specs.Names.{entry}
use Rattle.lane_codegen.specs.Statements.{assigned_as}
use Rattle.lane_codegen.specs.Writing.{new_registers}
use Rattle.lane_codegen.proofs.Sound.{AreHeld, AreThere}

-- how many registers a value takes
abbrev pub width : Kind → ℕ
width kinds.Num = 1
width kinds.Vec3 = 3

-- each name has registers that were new when it was assigned, after those of the names before it
abbrev pub Ordered : ℕ → List Assigned → ℕ → Type 0
Ordered lo [] hi = lo ≤ hi
Ordered lo (a ∷ table) hi = (n : ℕ) × ((lo ≤ n) × ((a.at ≡ new_registers a.kind n) × Ordered (n + width a.kind) table hi))

-- registers from this one on
pub record AreFrom (n : ℕ) (at : Registers) : Type 0 where
  pub x : n ≤ at.x
  pub y : n ≤ at.y
  pub z : n ≤ at.z

pub new_from : (kind : Kind) (n lo : ℕ) → lo ≤ n → AreFrom lo (new_registers kind n)
new_from kinds.Num n lo h = record { x = h; y = h; z = h }
new_from kinds.Vec3 n lo h = record { x = h; y = omega (arith, h); z = omega (arith, h) }

new_below : (kind : Kind) (n hi : ℕ) → n + width kind ≤ hi → AreThere hi (new_registers kind n)
new_below kinds.Num n hi h = record { x = omega (arith, h); y = omega (arith, h); z = omega (arith, h) }
new_below kinds.Vec3 n hi h = record { x = omega (arith, h); y = omega (arith, h); z = omega (arith, h) }

pub grows_to : (lo hi : ℕ) (table : List Assigned) → Ordered lo table hi → lo ≤ hi
grows_to lo hi [] h = h
grows_to lo hi (a ∷ table) h = let m = grows_to (h.0 + width a.kind) hi table h.1.1.1 in let k = h.1.0 in omega (arith, m, k)

pub still_ordered : (lo hi more : ℕ) (table : List Assigned) → hi ≤ more → Ordered lo table hi → Ordered lo table more
still_ordered lo hi more [] le h = omega (arith, le, h)
still_ordered lo hi more (a ∷ table) le h = (h.0, (h.1.0, (h.1.1.0, still_ordered (h.0 + width a.kind) hi more table le h.1.1.1)))

pub held_of : (lo hi : ℕ) (table : List Assigned) → Ordered lo table hi → AreHeld table hi
held_of lo hi [] h = tt
held_of lo hi (a ∷ table) h =
    (subst (λ (r : Registers). AreThere hi r) (sym h.1.1.0) (new_below a.kind h.0 hi (grows_to (h.0 + width a.kind) hi table h.1.1.1)), held_of (h.0 + width a.kind) hi table h.1.1.1)

-- a name more
pub ordered_more : (lo hi : ℕ) (table : List Assigned) (name : List ℕ) (kind : Kind) (scale : ℕ) → Ordered lo table hi → Ordered lo (table ++ assigned_as name kind scale (new_registers kind hi) ∷ []) (hi + width kind)
ordered_more lo hi [] name kind scale h = (hi, (h, (refl, omega arith)))
ordered_more lo hi (a ∷ table) name kind scale h = (h.0, (h.1.0, (h.1.1.0, ordered_more (h.0 + width a.kind) hi table name kind scale h.1.1.1)))

-- ---- two names

-- no register of the one is one of the other
pub record Apart (a b : Registers) : Type 0 where
  pub x : (b.x ≢ a.x) × ((b.x ≢ a.y) × (b.x ≢ a.z))
  pub y : (b.y ≢ a.x) × ((b.y ≢ a.y) × (b.y ≢ a.z))
  pub z : (b.z ≢ a.x) × ((b.z ≢ a.y) × (b.z ≢ a.z))

pub apart_below : (n : ℕ) (a b : Registers) → AreThere n a → AreFrom n b → Apart a b
apart_below n a b h k =
    let hx = h.x in let hy = h.y in let hz = h.z in let kx = k.x in let ky = k.y in let kz = k.z in
    record {
      x = ((λ e. omega (arith, hx, kx, e)), ((λ e. omega (arith, hy, kx, e)), (λ e. omega (arith, hz, kx, e))));
      y = ((λ e. omega (arith, hx, ky, e)), ((λ e. omega (arith, hy, ky, e)), (λ e. omega (arith, hz, ky, e))));
      z = ((λ e. omega (arith, hx, kz, e)), ((λ e. omega (arith, hy, kz, e)), (λ e. omega (arith, hz, kz, e))));
    }

apart_above : (n : ℕ) (a b : Registers) → AreThere n b → AreFrom n a → Apart a b
apart_above n a b h k =
    let hx = h.x in let hy = h.y in let hz = h.z in let kx = k.x in let ky = k.y in let kz = k.z in
    record {
      x = ((λ e. omega (arith, hx, kx, e)), ((λ e. omega (arith, hx, ky, e)), (λ e. omega (arith, hx, kz, e))));
      y = ((λ e. omega (arith, hy, kx, e)), ((λ e. omega (arith, hy, ky, e)), (λ e. omega (arith, hy, kz, e))));
      z = ((λ e. omega (arith, hz, kx, e)), ((λ e. omega (arith, hz, ky, e)), (λ e. omega (arith, hz, kz, e))));
    }

-- what is found from a place on has registers from there on
found_from : (test : Assigned → Bool) (lo hi : ℕ) (table : List Assigned) (a : Assigned) → Ordered lo table hi → find test table ≡ Some a → AreFrom lo a.at
found_from test lo hi [] a h e = absurd (let no : ⊥ = cc in no)
found_from test lo hi (b ∷ table) a h e = by_test (test b) e (λ f. found_from test (h.0 + width b.kind) hi table a h.1.1.1 f) where
  by_test : (x : Bool) → cond x (Some b) (find test table) ≡ Some a → (find test table ≡ Some a → AreFrom (h.0 + width b.kind) a.at) → AreFrom lo a.at
  by_test true e later = let same : b ≡ a = cc in subst (λ (y : Assigned). AreFrom lo y.at) same (subst (λ (r : Registers). AreFrom lo r) (sym h.1.1.0) (new_from b.kind h.0 lo h.1.0))
  by_test false e later = let f = later e in let x = f.x in let y = f.y in let z = f.z in let k = h.1.0 in record { x = omega (arith, x, k); y = omega (arith, y, k); z = omega (arith, z, k) }

pub apart : (lo hi : ℕ) (table : List Assigned) (p q : Assigned → Bool) (a b : Assigned) → ((c : Assigned) → p c ≡ true → q c ≡ true → ⊥) → Ordered lo table hi → find p table ≡ Some a → find q table ≡ Some b → Apart a.at b.at
apart lo hi [] p q a b never h e f = absurd (let no : ⊥ = cc in no)
apart lo hi (c ∷ table) p q a b never h e f =
    by_tests (p c) (q c) refl refl e f (λ e2 f2. apart (h.0 + width c.kind) hi table p q a b never h.1.1.1 e2 f2) where
      first : (d : Assigned) → c ≡ d → AreThere (h.0 + width c.kind) d.at
      first d same = subst (λ (y : Assigned). AreThere (h.0 + width c.kind) y.at) same (subst (λ (r : Registers). AreThere (h.0 + width c.kind) r) (sym h.1.1.0) (new_below c.kind h.0 (h.0 + width c.kind) (omega arith)))

      by_tests : (x y : Bool) → p c ≡ x → q c ≡ y → cond x (Some c) (find p table) ≡ Some a → cond y (Some c) (find q table) ≡ Some b → (find p table ≡ Some a → find q table ≡ Some b → Apart a.at b.at) → Apart a.at b.at
      by_tests true true i j e f later = absurd (never c i j)
      by_tests true false i j e f later = let same : c ≡ a = cc in apart_below (h.0 + width c.kind) a.at b.at (first a same) (found_from q (h.0 + width c.kind) hi table b h.1.1.1 f)
      by_tests false true i j e f later = let same : c ≡ b = cc in apart_above (h.0 + width c.kind) a.at b.at (first b same) (found_from p (h.0 + width c.kind) hi table a h.1.1.1 e)
      by_tests false false i j e f later = later e f

-- the registers of different names
pub names_apart : (lo hi : ℕ) (table : List Assigned) (name other : List ℕ) (a b : Assigned) → bytes_eq name other ≡ false → Ordered lo table hi → entry table name ≡ Some a → entry table other ≡ Some b → Apart a.at b.at
names_apart lo hi table name other a b apart_names h e f =
    apart lo hi table (λ c. bytes_eq c.name name) (λ c. bytes_eq c.name other) a b
    (λ c x y. let one = (bytes_eq-Decides c.name name).0 x in let two = (bytes_eq-Decides c.name other).0 y in let same : name ≡ other = sym one ∙ two in let is = (bytes_eq-Decides name other).1 same in let no : ⊥ = cc in no)
    h e f

-- the registers of a name are those that were new
pub record WasNew (a : Assigned) : Type 0 where
  pub first : ℕ
  pub is : a.at ≡ new_registers a.kind first

found_new : (test : Assigned → Bool) (lo hi : ℕ) (table : List Assigned) (a : Assigned) → Ordered lo table hi → find test table ≡ Some a → WasNew a
found_new test lo hi [] a h e = absurd (let no : ⊥ = cc in no)
found_new test lo hi (b ∷ table) a h e = by_test (test b) e (λ f. found_new test (h.0 + width b.kind) hi table a h.1.1.1 f) where
  by_test : (x : Bool) → cond x (Some b) (find test table) ≡ Some a → (find test table ≡ Some a → WasNew a) → WasNew a
  by_test true e later = let same : b ≡ a = cc in subst (λ (y : Assigned). WasNew y) same (record { first = h.0; is = h.1.1.0 })
  by_test false e later = later e

pub entry_new : (lo hi : ℕ) (table : List Assigned) (name : List ℕ) (a : Assigned) → Ordered lo table hi → entry table name ≡ Some a → WasNew a
entry_new lo hi table name a h e = found_new (λ b. bytes_eq b.name name) lo hi table a h e

-- ---- a name more in the table

module _ (table : List Assigned) (new : Assigned) (none : entry table new.name ≡ None) where
  pub own_entry : entry (table ++ new ∷ []) new.name ≡ Some new
  own_entry = find_later (λ b. bytes_eq b.name new.name) table (new ∷ []) none ∙ ap (λ b. cond b (Some new) None) ((bytes_eq-Decides new.name new.name).1 refl)

  pub other_entry : (name : List ℕ) → bytes_eq new.name name ≡ false → entry (table ++ new ∷ []) name ≡ entry table name
  other_entry name apart_names = by_found (entry table name) refl where
    by_found : (found : Option Assigned) → entry table name ≡ found → entry (table ++ new ∷ []) name ≡ entry table name
    by_found (Some a) e = find_kept (λ (b : Assigned). bytes_eq b.name name) table (new ∷ []) a e ∙ sym e
    by_found None e = find_later (λ b. bytes_eq b.name name) table (new ∷ []) e ∙ ap (λ b. cond b (Some new) None) apart_names ∙ sym e
