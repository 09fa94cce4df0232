use Rattle.std.proofs.Common.{◌≡◌, map, take}
use Rattle.std.specs.List.{All}
use Rattle.pf_geom.specs.Position.{IsPosition}
use Rattle.multisection.specs.Sites.{site_of}
use Rattle.multisection.proofs.site.sites_of.Given as goal

abbrev pub invariant-loop-body : goal.invariant-loop-body
invariant-loop-body l = record {
  value : l.sites.items ≡ map site_of (take l.body-index l.bodies);
  inside : All (λ j. IsPosition j.at) (take l.body-index l.bodies);
}
