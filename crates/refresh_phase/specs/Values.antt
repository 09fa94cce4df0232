-- What the proofs of present values know.
use Rattle.model_laws.specs.ListLaws.{ListsIgnoreOrder}
use Rattle.model_laws.specs.ParticleLaws.{SomeHaveDistinctIds}
use Rattle.model_laws.specs.ReuseLaws.{PresentEntriesAreFound}
use Rattle.list_reuse.specs.KeepingLaws.{RefreshedValuesArePresent}

pub record ValueLaws : Type 0 where
  pub some : SomeHaveDistinctIds
  pub lists : ListsIgnoreOrder
  pub entries : PresentEntriesAreFound
  pub refreshed : RefreshedValuesArePresent
