mod Keeps
mod Settles
mod Sources
mod Views
mod OtherLemmas
