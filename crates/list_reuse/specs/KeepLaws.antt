-- The laws by which kept lists are renewed.
use Rattle.order_laws.specs.OrderLaws.{TestsKeepPermutations, TestsKeepWhatPasses}
use Rattle.pf_model.specs.declared.entry.Entry.{Entry}
use Rattle.pf_model.specs.Particle.{Particle}
use Rattle.model_laws.specs.DomainLaws.{AllRanksHaveAll}
use Rattle.model_laws.specs.MomentLaws.{MomentsIgnoreOrder, MomentsAddUp, EntriesJoinInAnyOrder}
use Rattle.model_laws.specs.ListLaws.{LevelsAreLeast, ListsHoldTheirEntries, FirstCellsHoldTheirMembers}
use Rattle.model_laws.specs.ParticleLaws.{SomeHaveDistinctIds, ParticlesOfOneIdAreOne, DistinctIdsIgnoreOrder}
use Rattle.model_laws.specs.SufficiencyLaws.{BoxesLieInDomains}
use Rattle.model_laws.specs.ReuseLaws.{PresentIgnoresOrder, PresentAreFound, PresentMembersAreOfRanks}
use Rattle.model_laws.specs.ReuseLaws.{KeptEntriesAddUpItemsOfSome}

-- what is known of lists, of what is present, and of moments
pub record Laws : Type 0 where
  pub lists : ListsHoldTheirEntries
  pub levels : LevelsAreLeast
  pub first_cells : FirstCellsHoldTheirMembers
  pub some : SomeHaveDistinctIds
  pub one_id : ParticlesOfOneIdAreOne
  pub distinct : DistinctIdsIgnoreOrder
  pub order : MomentsIgnoreOrder
  pub joins : EntriesJoinInAnyOrder
  pub are_found : PresentAreFound
  pub present_order : PresentIgnoresOrder
  pub of_some : KeptEntriesAddUpItemsOfSome
  pub domains : BoxesLieInDomains
  pub add : MomentsAddUp
  pub of_ranks : PresentMembersAreOfRanks
  pub all_ranks : AllRanksHaveAll
  pub kept_particles : TestsKeepPermutations Particle
  pub kept_items : TestsKeepPermutations Entry
  pub passing_particles : TestsKeepWhatPasses Particle
  pub passing_items : TestsKeepWhatPasses Entry
