-- The laws of lower crates that proofs of a step stand on.
use Rattle.std.specs.Prelude.{ℕ}
use Rattle.order_laws.specs.OrderLaws.{DistinctKeysRise, MapsKeepOrders, PartsByKeyAreAll, TestsKeepWhatPasses}
use Rattle.pf_model.specs.Particle.{Particle}
use Rattle.model_laws.specs.DomainLaws.{AllRanksHaveAll, RanksInTurnHaveAll}
use Rattle.model_laws.specs.GroupLaws.{GroupsIgnoreOrder, BoxesIgnoreOrder}
use Rattle.model_laws.specs.IdLaws.{AscendingIsById, AscendingIdsDiffer, AscendingIdsIncrease, SomeIdsAscendToo}
use Rattle.model_laws.specs.ParticleLaws.{DistinctIdsIgnoreOrder}
use Rattle.model_laws.specs.ReuseLaws.{KeptListsBeginAsLists, PresentEntriesAreFound}
use Rattle.force_phase.specs.declared.phase.IdRow.{IdRow}

-- of particles that are sorted by their ids
pub record ReadLaws : Type 0 where
  pub distinct : DistinctIdsIgnoreOrder
  pub rise : DistinctKeysRise Particle
  pub increase : AscendingIdsIncrease
  pub by_id : AscendingIsById

-- of particles that are dealt out by their places
pub record DealLaws : Type 0 where
  pub parts : PartsByKeyAreAll (ℕ × Particle)
  pub increase : AscendingIdsIncrease

-- of what each rank owns, by id
pub record OwnLaws : Type 0 where
  pub increase : AscendingIdsIncrease
  pub some : SomeIdsAscendToo
  pub by_id : AscendingIsById

-- of particles that are found by their ids
pub record NowLaws : Type 0 where
  pub increase : AscendingIdsIncrease
  pub differ : AscendingIdsDiffer
  pub found : PresentEntriesAreFound

-- of the groups of a build and their lists
pub record BuildLaws : Type 0 where
  pub now : NowLaws
  pub groups : GroupsIgnoreOrder
  pub boxes : BoxesIgnoreOrder
  pub ranks : AllRanksHaveAll
  pub in_turn : RanksInTurnHaveAll
  pub passing : TestsKeepWhatPasses Particle
  pub kept : KeptListsBeginAsLists

-- of rows of forces by id
pub record RowLaws : Type 0 where
  pub increase : AscendingIdsIncrease
  pub by_id : AscendingIsById
  pub maps : MapsKeepOrders Particle IdRow
