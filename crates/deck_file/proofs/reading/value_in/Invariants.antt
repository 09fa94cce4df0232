use Rattle.std.proofs.Common.{◌≡◌, drop}
use Rattle.std.specs.List.{find}
use Rattle.deck_file.specs.Keywords.{is_same}
use Rattle.deck_file.proofs.reading.value_in.Given as goal

-- the settings so far haven't the key
abbrev pub invariant-loop-setting : goal.invariant-loop-setting
invariant-loop-setting l = find (λ s. is_same s.key l.key) (drop l.setting-index l.settings) ≡ find (λ s. is_same s.key l.key) l.settings
