mod GroupsLemmas
mod PullLemmas
mod BuildLemmas
mod ForceLemmas
mod TextLemmas
