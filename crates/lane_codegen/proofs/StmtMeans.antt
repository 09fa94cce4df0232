-- The code of statements does in a lane what the statements mean.
use Rattle.std.proofs.Common.{◌≡◌, ℕ, ◌+◌, ◌<◌, ◌≤◌, ◌⊎◌, List, [], ◌∷◌, ◌++◌, length, Bool, true, false, cond, ◌&&◌, Option, Some, None, Ok, Err, refl, sym, ap, ◌∙◌, subst, inl, inr, arith, append_assoc}
use Rattle.std.specs.Prelude.{not, slice_set, ◌==◌}
use Rattle.std.proofs.lemmas.List.{get_or-set_same, get_or-set_other, length-set}
use Rattle.kern_tree.specs.declared.expr.Expr.{Expr}
use Rattle.kern_tree.specs.declared.kernel.Decl.{Decl}
use Rattle.kern_tree.specs.declared.kernel.Kind.TheVariants as kinds
use Rattle.kern_tree.specs.Limits.{IsLimited}
use Rattle.kern_types.proofs.Acts.{joined}
use Rattle.kern_types.specs.declared.expr_type.ExprType.{ExprType}
use Rattle.kern_types.specs.declared.expr_type.ExprType.TheVariants as types
use Rattle.kern_types.specs.Scopes.{Scope}
use Rattle.kern_meaning.specs.declared.stop.PairStop.TheVariants as pair_stops
use Rattle.kern_meaning.specs.declared.stop.Stop.TheVariants as stops
use Rattle.kern_meaning.specs.declared.value.Value.{Value}
use Rattle.kern_meaning.specs.declared.value.Value.TheVariants as values
use Rattle.kern_meaning.specs.Expressions.{value_of}
use Rattle.kern_meaning.specs.Names.{Known}
use Rattle.kern_meaning.specs.Operators.{taken_by, truth}
use Rattle.kern_meaning.specs.Pair.{OrPairStop, PairState, Statements, at_statement, choose}
use Rattle.kern_meaning.specs.Stops.{OrStop, ◌>>=◌, no_result, only_if}
use Rattle.lane_code.specs.declared.code.RawCode.{RawCode}
use Rattle.lane_code.specs.declared.instruction.Lane.TheVariants as lanes
use Rattle.lane_code.specs.Outcome.{Given}
use Rattle.lane_code.specs.Steps.{LaneState, mask_at, number_at}
use Rattle.lane_codegen.specs.declared.place.Place.{Place}
use Rattle.lane_codegen.specs.declared.place.Place.TheVariants.{Scaled, Condition}
use Rattle.lane_codegen.specs.declared.variable.Assigned.{Assigned}
use Rattle.lane_codegen.specs.Meaning.{gift as gift_to, gifts_of}
use Rattle.lane_codegen.specs.Names.{entry}
use Rattle.lane_codegen.specs.Statements.{StmtMaker, Written, branches}
use Rattle.lane_codegen.specs.Writing.{with_gift, with_mask, with_part}
use Rattle.pf_geom.specs.declared.axis.Axis.TheVariants.{X, Y, Z}
use Rattle.pf_model.specs.Particle.{Particle}
use Rattle.pf_model.specs.Totals.{Source}
use Rattle.lane_codegen.proofs.Evaluates.{Evaluates, value_at}
use Rattle.lane_codegen.proofs.ExprRuns.{Agrees, still_agrees}
use Rattle.lane_codegen.proofs.Gifts.{gifts_more}
use Rattle.lane_codegen.proofs.Idle.{Kept, idle, kept, lane, lane_more, lane_none, stays_none}
use Rattle.lane_codegen.proofs.LaneSteps.{gift_given, mask_written, with_given, with_truth}
use Rattle.lane_codegen.proofs.Operators.{Fits}
use Rattle.lane_codegen.proofs.Runs.{Running, run_lengths}
use Rattle.lane_codegen.proofs.Sound.{Sound}
use Rattle.lane_codegen.proofs.StmtRuns.{Ends, Stands, Went}
use Rattle.lane_codegen.proofs.StmtSound.{StmtSound, gift_tidy}
use Rattle.lane_codegen.proofs.Tables.{Ordered, held_of}
use Rattle.lane_codegen.proofs.Tidy.{Grows, Tidy, grows, loosen, same_slots}
use Rattle.lane_codegen.proofs.Tidy as tidy
use Rattle.lane_codegen.proofs.Typing.{Tracks, type_of_place}

-- ---- contributions

only_cases : (test : Bool) (v : Value) → (only_if test (Ok v) ≡ no_result) ⊎ (only_if test (Ok v) ≡ Ok v)
only_cases true v = inr refl
only_cases false v = inl refl

-- what a FORCE variable takes is the value
taken_cases : (force : Option ExprType) (v : Value) → (taken_by force v ≡ no_result) ⊎ (taken_by force v ≡ Ok v)
taken_cases (Some (types.Scaled kinds.Num s)) (values.Num a t) = only_cases (s == t) (values.Num a t)
taken_cases (Some (types.Scaled kinds.Vec3 s)) (values.Vec3 a t) = only_cases (s == t) (values.Vec3 a t)
taken_cases (Some (types.Scaled kinds.Num s)) (values.Vec3 a t) = inl refl
taken_cases (Some (types.Scaled kinds.Num s)) (values.Condition b) = inl refl
taken_cases (Some (types.Scaled kinds.Vec3 s)) (values.Num a t) = inl refl
taken_cases (Some (types.Scaled kinds.Vec3 s)) (values.Condition b) = inl refl
taken_cases (Some types.Condition) v = inl refl
taken_cases None v = inl refl

no_condition : (force : Option ExprType) (b : Bool) → taken_by force (values.Condition b) ≡ no_result
no_condition (Some (types.Scaled kinds.Num s)) b = refl
no_condition (Some (types.Scaled kinds.Vec3 s)) b = refl
no_condition (Some types.Condition) b = refl
no_condition None b = refl

module _ (i : Particle) (j : Source) (decls : List Decl) (start : Running) where
  module _ (u : ℕ) (w : Written) (there : u < w.code.masks) (ordered : Ordered 0 w.table w.code.numbers) (state : PairState) (l : Running) (stands : Stands i j decls start u w state l) where
    -- the names, after an expression
    agrees_on : (x : RawCode) (k : Running) → Tidy true u w.code x → lane i j start x ≡ Some k → Agrees i j decls w.table state.known k.state
    agrees_on x k t is = still_agrees i j decls w.table state.known w.code.numbers l.state k.state (held_of 0 w.code.numbers w.table ordered) ((kept i j start t l k stands.is is).numbers refl) stands.agrees

    module _ (place : Place) (x : RawCode) (sound : Sound u w.code (place, x)) (room : w.code.slots < length state.given) where
      abbrev told : Value → PairState
      told v = record { known = state.known; given = slice_set state.given w.code.slots (Some v) }

      there_x : u < x.masks
      there_x = let m = (grows sound.tidy).masks in omega (arith, there, m)

      -- a lane that gave these contributions more
      went_gift : (k : Running) → lane i j start x ≡ Some k → (v : Value) (final : Written) (f : Running) → final.table ≡ w.table → final.code.masks ≡ x.masks → final.code.slots ≡ x.slots + 1 → lane i j start final.code ≡ Some f → f.state ≡ k.state → f.given ≡ k.given ++ gifts_of w.code.slots (Some v)
          → Went i j decls start u final state (told v)
      went_gift k is v final f same_table same_masks more_slots final_is same_state given =
          let K = kept i j start sound.tidy l k stands.is is in
          let slots_same = same_slots sound.tidy in
          let g = (grows sound.tidy).masks in
          record {
            there = f;
            stands = record {
              is = final_is;
              masked = ap (λ (s : LaneState). mask_at s.masks u) same_state ∙ K.masks u there ∙ stands.masked;
              unmade = λ m above. ap (λ (s : LaneState). mask_at s.masks m) same_state ∙ K.unmade m (omega (arith, above, same_masks)) ∙ stands.unmade m (omega (arith, above, same_masks, g));
              agrees = subst (λ (t : List Assigned). Agrees i j decls t state.known f.state) (sym same_table) (subst (λ (s : LaneState). Agrees i j decls w.table state.known s) (sym same_state) (agrees_on x k sound.tidy is));
              given = given ∙ ap (λ g. g ++ gifts_of w.code.slots (Some v)) (K.given refl ∙ stands.given) ∙ sym (gifts_more w.code.slots state.given v room stands.empty);
              empty = λ m above. get_or-set_other state.given w.code.slots m (Some v) None (λ e. omega (arith, above, e, more_slots, slots_same)) ∙ stands.empty m (omega (arith, above, more_slots, slots_same));
            };
            long = length-set state.given w.code.slots (Some v);
          }

      gift_value : (p : Place) (k : Running) → p ≡ place → lane i j start x ≡ Some k → (force : Option ExprType) → taken_by force (value_at p k.state) ≡ Ok (value_at p k.state) → Went i j decls start u (record { table = w.table; code = with_gift p u x }) state (told (value_at p k.state))
      gift_value (Condition m) k same is force e = let f = sym (no_condition force (mask_at k.state.masks m)) ∙ e in absurd (let no : ⊥ = cc in no)
      gift_value (Scaled kinds.Num s at) k same is force e =
          let masked : mask_at k.state.masks u ≡ true = (kept i j start sound.tidy l k stands.is is).masks u there ∙ stands.masked in
          let slots_same = same_slots sound.tidy in
          let v : Value = values.Num (number_at k.state.numbers at.x) s in
          went_gift k is v (record { table = w.table; code = with_gift (Scaled kinds.Num s at) u x }) (with_given (gift_to x.slots X (number_at k.state.numbers at.x)) k) refl refl refl
          (lane_more i j start x _ k is ∙ gift_given i j u x.slots X at.x k masked) refl
          (ap (λ n. k.given ++ gifts_of n (Some v)) slots_same)
      gift_value (Scaled kinds.Vec3 s at) k same is force e =
          let masked : mask_at k.state.masks u ≡ true = (kept i j start sound.tidy l k stands.is is).masks u there ∙ stands.masked in
          let slots_same = same_slots sound.tidy in
          let v : Value = value_at (Scaled kinds.Vec3 s at) k.state in
          let g1 : Given = gift_to x.slots X (number_at k.state.numbers at.x) in
          let g2 : Given = gift_to x.slots Y (number_at k.state.numbers at.y) in
          let g3 : Given = gift_to x.slots Z (number_at k.state.numbers at.z) in
          let one = lane_more i j start x _ k is ∙ gift_given i j u x.slots X at.x k masked in
          let two = lane_more i j start (with_part X at.x u x) _ (with_given g1 k) one ∙ gift_given i j u x.slots Y at.y (with_given g1 k) masked in
          let three = lane_more i j start (with_part Y at.y u (with_part X at.x u x)) _ (with_given g2 (with_given g1 k)) two ∙ gift_given i j u x.slots Z at.z (with_given g2 (with_given g1 k)) masked in
          went_gift k is v (record { table = w.table; code = with_gift (Scaled kinds.Vec3 s at) u x }) (with_given g3 (with_given g2 (with_given g1 k))) refl refl refl three refl
          (append_assoc (k.given ++ g1 ∷ []) (g2 ∷ []) (g3 ∷ []) ∙ append_assoc k.given (g1 ∷ []) (g2 ∷ g3 ∷ []) ∙ ap (λ n. k.given ++ gifts_of n (Some v)) slots_same)

      gift_taken : (k : Running) → lane i j start x ≡ Some k → (coincident : Bool) (n : ℕ) (force : Option ExprType) → (taken_by force (value_at place k.state) ≡ no_result) ⊎ (taken_by force (value_at place k.state) ≡ Ok (value_at place k.state))
          → Ends i j decls start u (record { table = w.table; code = with_gift place u x }) state (at_statement coincident n (taken_by force (value_at place k.state)) >>= (λ g. Ok (told g)))
      gift_taken k is coincident n force (inl e) = subst (λ (t : OrStop Value). Ends i j decls start u (record { table = w.table; code = with_gift place u x }) state (at_statement coincident n t >>= (λ g. Ok (told g)))) (sym e) tt
      gift_taken k is coincident n force (inr e) = subst (λ (t : OrStop Value). Ends i j decls start u (record { table = w.table; code = with_gift place u x }) state (at_statement coincident n t >>= (λ g. Ok (told g)))) (sym e) (gift_value place k refl is force e)

      pub gift_ends : (coincident : Bool) (n : ℕ) (force : Option ExprType) (answer : OrStop Value) → Evaluates i j start (place, x) answer
          → Ends i j decls start u (record { table = w.table; code = with_gift place u x }) state (at_statement coincident n (answer >>= taken_by force) >>= (λ g. Ok (told g)))
      gift_ends coincident n force (Ok v) h = subst (λ (y : Value). Ends i j decls start u (record { table = w.table; code = with_gift place u x }) state (at_statement coincident n (taken_by force y) >>= (λ g. Ok (told g)))) h.value
          (gift_taken h.there h.is coincident n force (taken_cases force (value_at place h.there.state)))
      gift_ends coincident n force (Err (stops.Fault fault)) h = stays_none i j start (gift_tidy u x x w.code.masks place tidy.same there_x sound.within) h
      gift_ends coincident n force (Err stops.NoResult) h = tt

  -- ---- if

  names_agree : (table later : List Assigned) (known : Known) (t : LaneState) → ((name : List ℕ) (a : Assigned) → entry table name ≡ Some a → entry later name ≡ Some a) → Agrees i j decls table known t → Agrees i j decls later known t
  names_agree table later known t more agrees = record {
    declared = agrees.declared;
    assigned = λ name none v e. let f = agrees.assigned name none v e in record { assigned = f.assigned; is = more name f.assigned f.is; value = f.value };
  }

  -- what is known of the code of statements that end in this scope
  pub record RunOf (after : Scope) (u : ℕ) (w x : Written) (meaning : Statements) : Type 0 where
    pub tracks : Tracks x.table after.earlier
    pub slots : x.code.slots ≡ w.code.slots + meaning.slots
    pub names : (name : List ℕ) (a : Assigned) → entry w.table name ≡ Some a → entry x.table name ≡ Some a
    pub runs : Fits start x.code → (n : ℕ) (state : PairState) (l : Running) → Stands i j decls start u w state l → w.code.slots + meaning.slots ≤ length state.given → Ends i j decls start u x state (meaning.run n w.code.slots state)

  abbrev pub IsRun : Scope → Scope → StmtMaker → Statements → Type 0
  IsRun scope after maker meaning = (u : ℕ) (w : Written) → u < w.code.masks → Ordered 0 w.table w.code.numbers → Tracks w.table scope.earlier → RunOf after u w (maker u w) meaning

  pub fits_less : (w x : RawCode) → Grows w x → Fits start x → Fits start w
  fits_less w x g f = let a = g.numbers in let b = g.masks in let c = f.numbers in let d = f.masks in record { numbers = omega (arith, a, c); masks = omega (arith, b, d) }

  module _ (coincident : Bool) (c : Expr) (small : IsLimited c) (first second : Scope) (u : ℕ) (w : Written) (there : u < w.code.masks) (ordered : Ordered 0 w.table w.code.numbers) (m : ℕ) (x : RawCode) (sound : Sound u w.code (Condition m, x)) (body others : StmtMaker) (body_means others_mean : Statements) where
    abbrev next : Written
    next = record { table = w.table; code = with_mask u (lanes.AndNot u m) x }

    abbrev middle : Written
    middle = body m next

    abbrev final : Written
    final = others x.masks middle

    module _ (one_sound : StmtSound m next middle) (two_sound : StmtSound x.masks middle final) (one : RunOf first m next middle body_means) (two : RunOf second x.masks middle final others_mean) where
      same_x : x.slots ≡ w.code.slots
      same_x = same_slots sound.tidy

      grown : w.code.masks ≤ x.masks
      grown = (grows sound.tidy).masks

      middle_slots : middle.code.slots ≡ w.code.slots + body_means.slots
      middle_slots = one.slots ∙ ap (λ n. n + body_means.slots) same_x

      module _ (n : ℕ) (state : PairState) (l : Running) (stands : Stands i j decls start u w state l) (room : w.code.slots + (body_means.slots + others_mean.slots) ≤ length state.given) (fits : Fits start final.code) where
        fits_middle : Fits start middle.code
        fits_middle = fits_less middle.code final.code (grows two_sound.tidy) fits

        fits_next : Fits start next.code
        fits_next = fits_less next.code middle.code (grows one_sound.tidy) fits_middle

        module _ (k : Running) (is : lane i j start x ≡ Some k) where
          K : Kept i j start true w.code x.masks l k
          K = kept i j start sound.tidy l k stands.is is

          masked : mask_at k.state.masks u ≡ true
          masked = K.masks u there ∙ stands.masked

          -- the mask of the second block is written
          abbrev k2 : Bool → Running
          k2 b = with_truth x.masks (not b) k

          next_is : (b : Bool) → mask_at k.state.masks m ≡ b → lane i j start next.code ≡ Some (k2 b)
          next_is b e = lane_more i j start x _ k is ∙ mask_written i j u x.masks (lanes.AndNot u m) (not b) k refl (ap (λ q. Some (q && not (mask_at k.state.masks m))) masked ∙ ap (λ q. Some (not q)) e) refl

          apart : (b : Bool) (q : ℕ) → q < x.masks → mask_at (k2 b).state.masks q ≡ mask_at k.state.masks q
          apart b q less = get_or-set_other k.state.masks x.masks q (not b) false (λ e. omega (arith, less, e))

          unmade2 : (b : Bool) (q : ℕ) → x.masks + 1 ≤ q → mask_at (k2 b).state.masks q ≡ false
          unmade2 b q above = get_or-set_other k.state.masks x.masks q (not b) false (λ e. omega (arith, above, e)) ∙ K.unmade q (omega (arith, above)) ∙ stands.unmade q (let g = grown in omega (arith, above, g))

          rest_is : (b : Bool) → mask_at (k2 b).state.masks x.masks ≡ not b
          rest_is b = let f = fits_next.masks in let g = (run_lengths i j x.steps start k is).masks in get_or-set_same k.state.masks x.masks (not b) false (omega (arith, f, g))

          agrees2 : (b : Bool) → Agrees i j decls w.table state.known (k2 b).state
          agrees2 b =
              let h = held_of 0 w.code.numbers w.table ordered in
              still_agrees i j decls w.table state.known w.code.numbers l.state (k2 b).state h (K.numbers refl) stands.agrees

          u_below : u < x.masks
          u_below = let g = grown in omega (arith, there, g)

          m_below : m < x.masks
          m_below = sound.within.1

          -- where the condition holds
          went_body : mask_at k.state.masks m ≡ true → (after : PairState) → Went i j decls start m middle state after → Went i j decls start u final state after
          went_body e after h =
              let s = h.stands in
              let K2 = kept i j start one_sound.tidy (k2 true) h.there (next_is true e) s.is in
              let g = (grows two_sound.tidy).masks in let gs = (grows two_sound.tidy).slots in
              record {
                there = h.there;
                stands = record {
                  is = idle i j start two_sound.tidy h.there (K2.masks x.masks (omega arith) ∙ rest_is true) s.unmade s.is;
                  masked = K2.masks u (let b = u_below in omega (arith, b)) ∙ apart true u u_below ∙ masked;
                  unmade = λ q above. s.unmade q (omega (arith, above, g));
                  agrees = names_agree middle.table final.table after.known h.there.state two.names s.agrees;
                  given = s.given;
                  empty = λ q above. s.empty q (omega (arith, above, gs));
                };
                long = h.long;
              }

          ends_body : mask_at k.state.masks m ≡ true → (r : OrPairStop PairState) → Ends i j decls start m middle state r → Ends i j decls start u final state r
          ends_body e (Ok after) h = went_body e after h
          ends_body e (Err (pair_stops.Fault fault)) h = stays_none i j start two_sound.tidy h
          ends_body e (Err pair_stops.NoResult) h = tt

          -- where it doesn't
          went_other : mask_at k.state.masks m ≡ false → (after : PairState) → lane i j start middle.code ≡ Some (k2 false) → Went i j decls start x.masks final state after → Went i j decls start u final state after
          went_other e after middle_is h =
              let s = h.stands in
              let K2 = kept i j start two_sound.tidy (k2 false) h.there middle_is s.is in
              let g = (grows one_sound.tidy).masks in
              record {
                there = h.there;
                stands = record { is = s.is; masked = K2.masks u (let b = u_below in omega (arith, b, g)) ∙ apart false u u_below ∙ masked; unmade = s.unmade; agrees = s.agrees; given = s.given; empty = s.empty };
                long = h.long;
              }

          ends_other : mask_at k.state.masks m ≡ false → lane i j start middle.code ≡ Some (k2 false) → (r : OrPairStop PairState) → Ends i j decls start x.masks final state r → Ends i j decls start u final state r
          ends_other e middle_is (Ok after) h = went_other e after middle_is h
          ends_other e middle_is (Err (pair_stops.Fault fault)) h = h
          ends_other e middle_is (Err pair_stops.NoResult) h = tt

          by_mask : (b : Bool) → mask_at k.state.masks m ≡ b → Ends i j decls start u final state (cond b (body_means.run (n + 1) w.code.slots state) (others_mean.run (n + 1 + body_means.count) (w.code.slots + body_means.slots) state))
          by_mask true e =
              ends_body e (body_means.run (n + 1) w.code.slots state)
              (subst (λ (q : ℕ). Ends i j decls start m middle state (body_means.run (n + 1) q state)) same_x
              (one.runs fits_middle (n + 1) state (k2 true) (record {
                is = next_is true e;
                masked = apart true m m_below ∙ e;
                unmade = unmade2 true;
                agrees = agrees2 true;
                given = K.given refl ∙ stands.given;
                empty = λ q above. let s = same_x in stands.empty q (omega (arith, above, s));
              }) (let s = same_x in omega (arith, room, s))))
          by_mask false e =
              let middle_is : lane i j start middle.code ≡ Some (k2 false) = idle i j start one_sound.tidy (k2 false) (apart false m m_below ∙ e) (unmade2 false) (next_is false e) in
              let g = (grows one_sound.tidy).masks in
              let ms = middle_slots in
              ends_other e middle_is (others_mean.run (n + 1 + body_means.count) (w.code.slots + body_means.slots) state)
              (subst (λ (q : ℕ). Ends i j decls start x.masks final state (others_mean.run (n + 1 + body_means.count) q state)) middle_slots
              (two.runs fits (n + 1 + body_means.count) state (k2 false) (record {
                is = middle_is;
                masked = rest_is false;
                unmade = λ q above. unmade2 false q (omega (arith, above, g));
                agrees = names_agree w.table middle.table state.known (k2 false).state one.names (agrees2 false);
                given = K.given refl ∙ stands.given;
                empty = λ q above. stands.empty q (omega (arith, above, ms));
              }) (omega (arith, room, ms))))

        cond_ends : (answer : OrStop Value) → Evaluates i j start (Condition m, x) answer
            → Ends i j decls start u final state (at_statement coincident n (answer >>= truth) >>= (λ b. cond b (body_means.run (n + 1) w.code.slots state) (others_mean.run (n + 1 + body_means.count) (w.code.slots + body_means.slots) state)))
        cond_ends (Ok v) h = subst (λ (y : Value). Ends i j decls start u final state (at_statement coincident n (truth y) >>= (λ b. cond b (body_means.run (n + 1) w.code.slots state) (others_mean.run (n + 1 + body_means.count) (w.code.slots + body_means.slots) state)))) h.value (by_mask h.there h.is (mask_at h.there.state.masks m) refl)
        cond_ends (Err (stops.Fault fault)) h = stays_none i j start two_sound.tidy (stays_none i j start one_sound.tidy (lane_none i j start x _ h))
        cond_ends (Err stops.NoResult) h = tt

      if_run : ((state : PairState) (l : Running) → Stands i j decls start u w state l → Fits start x → Evaluates i j start (Condition m, x) (value_of state.known c))
          → RunOf (joined first second) u w final (record { count = 1 + body_means.count + others_mean.count; slots = body_means.slots + others_mean.slots; run = choose decls coincident c body_means others_mean })
      if_run evaluates = record {
        tracks = two.tracks;
        slots = let a = two.slots in let b = middle_slots in omega (arith, a, b);
        names = λ name a e. two.names name a (one.names name a e);
        runs = λ fits n state l stands room.
            let f = fits_next n state l stands room fits in
            let fm = f.masks in
            cond_ends n state l stands room fits (value_of state.known c) (evaluates state l stands (record { numbers = f.numbers; masks = omega (arith, fm) }));
      }

  -- an `if` of statements that were compiled
  pub if_means : (coincident : Bool) (c : Expr) (small : IsLimited c) (first second : Scope) (u : ℕ) (w : Written) → u < w.code.masks → Ordered 0 w.table w.code.numbers → (p : Place) (x : RawCode) → Sound u w.code (p, x) → type_of_place p ≡ types.Condition → (body others : StmtMaker) (body_means others_mean : Statements)
      → ((m : ℕ) → p ≡ Condition m → StmtSound m (record { table = w.table; code = with_mask u (lanes.AndNot u m) x }) (body m (record { table = w.table; code = with_mask u (lanes.AndNot u m) x })))
      → ((m : ℕ) → p ≡ Condition m → StmtSound x.masks (body m (record { table = w.table; code = with_mask u (lanes.AndNot u m) x })) (others x.masks (body m (record { table = w.table; code = with_mask u (lanes.AndNot u m) x }))))
      → ((m : ℕ) → p ≡ Condition m → RunOf first m (record { table = w.table; code = with_mask u (lanes.AndNot u m) x }) (body m (record { table = w.table; code = with_mask u (lanes.AndNot u m) x })) body_means)
      → ((m : ℕ) → p ≡ Condition m → RunOf second x.masks (body m (record { table = w.table; code = with_mask u (lanes.AndNot u m) x })) (others x.masks (body m (record { table = w.table; code = with_mask u (lanes.AndNot u m) x }))) others_mean)
      → ((state : PairState) (l : Running) → Stands i j decls start u w state l → Fits start x → Evaluates i j start (p, x) (value_of state.known c))
      → RunOf (joined first second) u w (branches u body others w.table p x) (record { count = 1 + body_means.count + others_mean.count; slots = body_means.slots + others_mean.slots; run = choose decls coincident c body_means others_mean })
  if_means coincident c small first second u w there ordered (Scaled kind scale at) x sound typed body others body_means others_mean s1 s2 one two evaluates = absurd (let no : ⊥ = cc in no)
  if_means coincident c small first second u w there ordered (Condition m) x sound typed body others body_means others_mean s1 s2 one two evaluates =
      if_run coincident c small first second u w there ordered m x sound body others body_means others_mean (s1 m refl) (s2 m refl) (one m refl) (two m refl) evaluates
