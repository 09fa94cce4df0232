pub mod CountLemmas
pub mod OtherLemmas
pub mod ParcelLemmas
pub mod PhaseLemmas
pub mod SendLemmas
pub mod TotalLemmas
pub mod ZipLemmas
