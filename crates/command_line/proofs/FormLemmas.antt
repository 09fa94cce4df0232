-- What a form that is simple gives.
use Rattle.std.proofs.Common.{◌≡◌, Bool, true, false, ◌&&◌, List, [], Some, refl}
use Rattle.clap.specs.Words.{App, Text, fault_of, is_simple, is_simple_and_free, matches_of}
use Rattle.command_line.specs.Form.{given}

first_of_two : (a b : Bool) → (a && b) ≡ true → a ≡ true
first_of_two true b h = refl
first_of_two false b h = h

pub simple_from_free : (app : App) → is_simple_and_free app ≡ true → is_simple app ≡ true
simple_from_free app h = first_of_two (is_simple app) _ h

-- words without a fault are taken
pub given-taken : (app : App) (words : List Text) → fault_of app words ≡ [] → Some (matches_of app words) ≡ given app words
given-taken app words none = rw none refl
