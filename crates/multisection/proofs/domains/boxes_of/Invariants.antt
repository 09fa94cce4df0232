use Rattle.std.proofs.Common.{◌≡◌, take}
use Rattle.std.specs.List.{All}
use Rattle.pf_geom.specs.Position.{IsPosition}
use Rattle.multisection.specs.Regions.{boxes_by}
use Rattle.multisection.proofs.domains.boxes_of.Given as goal

abbrev pub invariant-loop-body : goal.invariant-loop-body
invariant-loop-body l = record {
  boxes : l.boxes.items ≡ boxes_by l.cuts (take l.body-index l.bodies);
  places : All (λ j. IsPosition j.at) (take l.body-index l.bodies);
}
