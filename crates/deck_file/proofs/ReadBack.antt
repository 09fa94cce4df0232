-- A deck that was printed is read again.
use Rattle.std.proofs.Common.{◌≡◌, ◌∙◌, ℕ, suc, ◌^◌, ◌<◌, true, refl, sym, ap, subst, List, [], ◌∷◌, ◌++◌, map, decimal, Option, Some, None, is_some, unwrap_or, append_assoc, append-nil, arith}
use Rattle.std.specs.List.{AllByRecursion}
use Rattle.pf_geom.specs.declared.edge.Edge.TheVariants.{Open}
use Rattle.pf_model.specs.declared.limits.TheConstants.{MOST_GROUP}
use Rattle.text_lines.specs.Laws.{DigitsReadBack, WrittenLinesReadBack}
use Rattle.text_lines.specs.Written.{IsWritable, numbered_from}
use Rattle.deck_file.specs.declared.deck.Deck.{Deck}
use Rattle.deck_file.specs.declared.keyword.Keyword.TheVariants as keys
use Rattle.deck_file.specs.declared.limits.TheConstants.{MOST_DT, MOST_REUSE, MOST_STEPS}
use Rattle.deck_file.specs.Deck.{deck_with, with_lists_built}
use Rattle.deck_file.specs.Laws.{IsWithinLimits}
use Rattle.deck_file.specs.Printed.{angle_text, deck_text, division_text, settings_of}
use Rattle.deck_file.specs.Reading.{SpellsDeck}
use Rattle.deck_file.specs.Settings.{GiveSettings, KeyValue, setting_fields, value_in}
use Rattle.deck_file.specs.Values.{angle_of, division_of, number_within}
use Rattle.deck_file.proofs.KeptLimits.{kept_angle, kept_grid, kept_limits}
use Rattle.deck_file.proofs.MadeLemmas.{HaveForms, makes}
use Rattle.deck_file.proofs.PrintedLemmas.{angle_of-text, division_of-text, edge_field, edge_of-text, joined_field, name_field, number_of-decimal, setting_line, slab_counts}

-- no setting has the key of an earlier one
AreNew : List KeyValue → List KeyValue → Type 0
AreNew before [] = Unit {0}
AreNew before (s ∷ settings) = (value_in before s.key ≡ None) × AreNew (before ++ s ∷ []) settings

-- numbered lines of settings give them
given_lines : (before : List KeyValue) (number : ℕ) (settings : List KeyValue) → AreNew before settings → HaveForms settings
    → GiveSettings before (numbered_from number (map setting_fields settings)) (before ++ settings)
unfolding AreNew
given_lines before number [] new forms = sym (append-nil before)
given_lines before number (s ∷ settings) new forms = (
  s,
  record { fields = refl; first = new.0; form = forms.0 },
  subst (GiveSettings (before ++ s ∷ []) (numbered_from (suc number) (map setting_fields settings))) (append_assoc before (s ∷ []) settings)
      (given_lines (before ++ s ∷ []) (suc number) settings new.1 forms.1),
)

new_keys : (deck : Deck) → AreNew [] (settings_of deck)
unfolding AreNew
new_keys deck = (refl, (refl, (refl, (refl, (refl, (refl, (refl, (refl, (refl, (refl, tt))))))))))

of_form : {X : Type 0} (read : Option X) (x : X) → read ≡ Some x → is_some read ≡ true
of_form read x is = ap is_some is

module _ (digits_back : DigitsReadBack) (lines_back : WrittenLinesReadBack) (text : List ℕ) (deck : Deck) (h : SpellsDeck text deck) where
  limits : IsWithinLimits deck
  limits = kept_limits text deck h

  grid_is : division_of (division_text deck.grid) ≡ Some deck.grid
  grid_is = division_of-text digits_back deck.grid (kept_grid text deck h)

  angle_is : angle_of (angle_text deck.theta.a deck.theta.b) ≡ Some (deck.theta.a, deck.theta.b)
  angle_is = angle_of-text digits_back deck.theta.a deck.theta.b (kept_angle text deck h)

  group_is : number_within 1 MOST_GROUP (decimal deck.group) ≡ Some deck.group
  group_is = number_of-decimal digits_back 1 MOST_GROUP deck.group limits.some_group limits.small_group (omega arith)

  steps_is : number_within 0 MOST_STEPS (decimal deck.steps) ≡ Some deck.steps
  steps_is = number_of-decimal digits_back 0 MOST_STEPS deck.steps (omega arith) limits.few_steps (omega arith)

  dt_is : number_within 1 MOST_DT (decimal deck.dt) ≡ Some deck.dt
  dt_is = number_of-decimal digits_back 1 MOST_DT deck.dt limits.some_dt limits.small_dt (omega arith)

  reuse_is : number_within 1 MOST_REUSE (decimal deck.reuse) ≡ Some deck.reuse
  reuse_is = number_of-decimal digits_back 1 MOST_REUSE deck.reuse limits.some_reuse limits.small_reuse (omega arith)

  forms : HaveForms (settings_of deck)
  forms = (
    limits.kernel,
    (
      limits.particles,
      (
        limits.out,
        (
          ap is_some grid_is,
          (
            ap is_some angle_is,
            (
              ap is_some group_is,
              (
                ap is_some steps_is,
                (ap is_some dt_is, (ap is_some reuse_is, (ap is_some (edge_of-text deck.theta.edge), tt))),
              ),
            ),
          ),
        ),
      ),
    ),
  )

  lines : AllByRecursion IsWritable (map setting_fields (settings_of deck))
  lines =
      let number = λ (n : ℕ) (small : n < 2 ^ 64). (digits_back n small).0 in
      let grid = kept_grid text deck h in
      let angle = kept_angle text deck h in
      let few = slab_counts deck.grid.nx deck.grid.ny deck.grid.nz grid in (
        setting_line keys.Kernel (name_field deck.kernel limits.kernel),
        (
          setting_line keys.Particles (name_field deck.particles limits.particles),
          (
            setting_line keys.Out (name_field deck.out limits.out),
            (
              setting_line keys.Grid (joined_field _ 120 _ (joined_field _ 120 _ (number deck.grid.nx (omega (arith, few.0))) refl (number deck.grid.ny (omega (arith, few.1)))) refl (number deck.grid.nz (omega (arith, few.2)))),
              (
                setting_line keys.Theta (joined_field _ 47 _ (number deck.theta.a (omega (arith, angle.numerator_fits))) refl (number deck.theta.b (omega (arith, angle.denominator_fits)))),
                (
                  setting_line keys.Group (number deck.group (omega (arith, limits.small_group))),
                  (
                    setting_line keys.Steps (number deck.steps (omega (arith, limits.few_steps))),
                    (
                      setting_line keys.Dt (number deck.dt (omega (arith, limits.small_dt))),
                      (
                        setting_line keys.Reuse (number deck.reuse (omega (arith, limits.small_reuse))),
                        (setting_line keys.Box (edge_field deck.theta.edge), tt),
                      ),
                    ),
                  ),
                ),
              ),
            ),
          ),
        ),
      )

  whole : deck_with (settings_of deck) deck.kernel deck.particles deck.out ≡ deck
  whole = λ i. record {
    kernel = deck.kernel;
    particles = deck.particles;
    out = deck.out;
    grid = unwrap_or (grid_is i) (record { nx = 1; ny = 1; nz = 1 });
    theta = record {
      a = (unwrap_or (angle_is i) (1, 2)).0;
      b = (unwrap_or (angle_is i) (1, 2)).1;
      edge = unwrap_or (edge_of-text deck.theta.edge i) Open;
    };
    group = unwrap_or (group_is i) 64;
    steps = unwrap_or (steps_is i) 0;
    dt = unwrap_or (dt_is i) 1;
    reuse = unwrap_or (reuse_is i) 1;
  }

  pub read_back : SpellsDeck (deck_text deck) deck
  read_back =
      let settings = settings_of deck in
      let made = makes h.settings deck h.deck_is in
      record {
        settings = settings;
        given = subst (λ ls. GiveSettings [] ls settings) (sym (lines_back (map setting_fields settings) lines)) (given_lines [] 1 settings (new_keys deck) forms);
        deck_is = ap with_lists_built whole ∙ rw made.built refl;
      }
