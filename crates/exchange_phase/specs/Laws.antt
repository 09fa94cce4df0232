-- What the proof of the phases knows.
use Rattle.model_laws.specs.DomainLaws.{CutsIgnoreOrder, DomainsIgnoreOrder}
use Rattle.model_laws.specs.IdLaws.{OrdersByIdAreOne}
use Rattle.model_laws.specs.ParticleLaws.{DistinctIdsIgnoreOrder, SomeHaveDistinctIds}
use Rattle.all_to_all.specs.Laws.{EachOtherSentOne}
use Rattle.exchange.specs.ExchangeLaws.{EachRankHasItsOwn}
use Rattle.exchange_phase.specs.Packages.{dst_of}

pub record PhaseLaws : Type 0 where
  pub own : EachRankHasItsOwn
  pub sent : EachOtherSentOne dst_of
  pub cuts : CutsIgnoreOrder
  pub domains : DomainsIgnoreOrder
  pub by_ids : OrdersByIdAreOne
  pub kept : DistinctIdsIgnoreOrder
  pub some : SomeHaveDistinctIds
