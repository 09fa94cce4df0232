mod MotionLemmas
mod MoveLemmas
