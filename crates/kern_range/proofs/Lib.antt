mod IntervalLemmas
mod ProductLemmas
mod SumLemmas
