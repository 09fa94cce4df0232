-- The limits of a deck that a text spells.
use Rattle.std.proofs.Common.{◌≡◌, ℕ, ◌≤◌, refl, subst, List, [], Option, Some, None, unwrap_or, lit≤}
use Rattle.std.specs.Prelude.{option_and_then}
use Rattle.pf_model.specs.Criterion.{IsAngle}
use Rattle.pf_model.specs.Division.{Division, IsDivision}
use Rattle.pf_model.specs.declared.limits.TheConstants.{MOST_GROUP}
use Rattle.text_lines.specs.Lines.{field_lines}
use Rattle.deck_file.specs.declared.deck.Deck.{Deck}
use Rattle.deck_file.specs.declared.keyword.Keyword.TheVariants as keys
use Rattle.deck_file.specs.declared.limits.TheConstants.{MOST_DT, MOST_REUSE, MOST_STEPS}
use Rattle.deck_file.specs.Laws.{IsWithinLimits}
use Rattle.deck_file.specs.Reading.{SpellsDeck}
use Rattle.deck_file.specs.Settings.{value_in}
use Rattle.deck_file.specs.Values.{angle_of, division_of}
use Rattle.deck_file.proofs.LimitLemmas.{angle_of-within, division_of-within, set_within}
use Rattle.deck_file.proofs.MadeLemmas.{form_in, given_forms, makes}

pub kept_limits : (text : List ℕ) (deck : Deck) → SpellsDeck text deck → IsWithinLimits deck
kept_limits text deck h =
    let settings = h.settings in
    let made = makes settings deck h.deck_is in
    let forms = given_forms [] (field_lines text) settings h.given tt in
    let group = set_within 1 MOST_GROUP 64 (value_in settings keys.Group) (lit≤ tt) (lit≤ tt) in
    let steps = set_within 0 MOST_STEPS 0 (value_in settings keys.Steps) (lit≤ tt) (lit≤ tt) in
    let dt = set_within 1 MOST_DT 1 (value_in settings keys.Dt) (lit≤ tt) (lit≤ tt) in
    let reuse = set_within 1 MOST_REUSE 1 (value_in settings keys.Reuse) (lit≤ tt) (lit≤ tt) in
    record {
      kernel = form_in settings keys.Kernel deck.kernel forms made.kernel;
      particles = form_in settings keys.Particles deck.particles forms made.particles;
      out = form_in settings keys.Out deck.out forms made.out;
      some_group = subst (λ (d : Deck). 1 ≤ d.group) made.whole group.0;
      small_group = subst (λ (d : Deck). d.group ≤ MOST_GROUP) made.whole group.1;
      few_steps = subst (λ (d : Deck). d.steps ≤ MOST_STEPS) made.whole steps.1;
      some_dt = subst (λ (d : Deck). 1 ≤ d.dt) made.whole dt.0;
      small_dt = subst (λ (d : Deck). d.dt ≤ MOST_DT) made.whole dt.1;
      some_reuse = subst (λ (d : Deck). 1 ≤ d.reuse) made.whole reuse.0;
      small_reuse = subst (λ (d : Deck). d.reuse ≤ MOST_REUSE) made.whole reuse.1;
    }

-- ---- the types' own limits

angle_set : (value : Option (List ℕ)) → let angle = unwrap_or (option_and_then angle_of value) (1, 2) in IsAngle angle.0 angle.1
angle_set None = record { numerator_fits = lit≤ tt; denominator_positive = lit≤ tt; denominator_fits = lit≤ tt }
angle_set (Some value) = go (angle_of value) (λ angle. angle_of-within value angle)
  where
    go : (read : Option (ℕ × ℕ)) → ((angle : ℕ × ℕ) → read ≡ Some angle → IsAngle angle.0 angle.1)
        → let angle = unwrap_or read (1, 2) in IsAngle angle.0 angle.1
    go None within = record { numerator_fits = lit≤ tt; denominator_positive = lit≤ tt; denominator_fits = lit≤ tt }
    go (Some angle) within = within angle refl

pub kept_angle : (text : List ℕ) (deck : Deck) → SpellsDeck text deck → IsAngle deck.theta.a deck.theta.b
kept_angle text deck h =
    subst (λ (d : Deck). IsAngle d.theta.a d.theta.b) (makes h.settings deck h.deck_is).whole (angle_set (value_in h.settings keys.Theta))

grid_set : (value : Option (List ℕ)) (one : Division) → IsDivision one → IsDivision (unwrap_or (option_and_then division_of value) one)
grid_set None one within = within
grid_set (Some value) one within = go (division_of value) (λ grid. division_of-within value grid)
  where
    go : (read : Option Division) → ((grid : Division) → read ≡ Some grid → IsDivision grid) → IsDivision (unwrap_or read one)
    go None read_within = within
    go (Some grid) read_within = read_within grid refl

pub kept_grid : (text : List ℕ) (deck : Deck) → SpellsDeck text deck → IsDivision deck.grid
kept_grid text deck h =
    subst (λ (d : Deck). IsDivision d.grid) (makes h.settings deck h.deck_is).whole
    (grid_set (value_in h.settings keys.Grid) _ (record { some_x = lit≤ tt; some_y = lit≤ tt; some_z = lit≤ tt; few = lit≤ tt }))
