use Rattle.std.proofs.Common.{◌≡◌, map, take}
use Rattle.force_phase.specs.Partner.{partner_of}
use Rattle.force_phase.proofs.partner.partners.Given as goal

abbrev pub invariant-loop-entry : goal.invariant-loop-entry
invariant-loop-entry l = l.partners.items ≡ map partner_of (take l.entry-index l.entries)
