mod DrawLemmas
mod Pieces
mod Reading
mod Tree
mod Types
