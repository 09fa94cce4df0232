-- What clap is told of a command: what may follow the command's own word.
use Rattle.std.specs.Prelude.{List, Option, Some, None, codes, true, ◌==◌, length, if◌then◌else◌}
use Rattle.clap.specs.Words.{App, Row, Text, fault_of, matches_of, new_app, new_rule, with_rule}
use Rattle.clap.specs.Simple.{on_top}

-- nothing may follow
abbrev pub blank : App
blank = on_top (λ top. record top { no_binary_name = true }) (new_app (codes "fdps"))

-- one more word has to be there
abbrev pub with_word : Text → App → App
with_word id app = with_rule app (record (new_rule id) { required = true })

-- the option `--workers` may be there, with its value
abbrev pub with_workers : App → App
with_workers app = with_rule app (record (new_rule (codes "workers")) { long = Some (codes "workers") })

-- the words' values by id, where clap takes the words
abbrev pub given : App → List Text → Option (List Row)
given app words = if length (fault_of app words) == 0 then Some (matches_of app words) else None
