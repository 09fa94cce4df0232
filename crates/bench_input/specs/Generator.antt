-- The particles of the benchmark: where a generator of numbers puts them.
use Rattle.std.specs.Prelude.{ℕ, zero, suc, ◌+◌, ◌-◌, ◌*◌, ◌/◌, ◌%◌, ◌^◌, List, map, replicate, pos}
use Rattle.std.specs.List.{range_with_len}
use Rattle.pf_model.specs.Particle.{Particle}

-- a draw moves the generator's state on
abbrev pub next_state : ℕ → ℕ
next_state state = (state * 6364136223846793005 + 1442695040888963407) % 2 ^ 64

-- the state after so many draws from a seed
unfoldable pub state_after : ℕ → ℕ → ℕ
state_after seed zero = seed
state_after seed (suc draws) = next_state (state_after seed draws)

-- the coordinate that a draw gives, the upper 29 bits of the state, in the middle half of the cube's side
abbrev pub coordinate : ℕ → ℕ
coordinate state = state / 2 ^ 35 + 2 ^ 28

-- the particle k, from 1 on, stands at the k-th three draws
abbrev pub particle : ℕ → ℕ → Particle
particle seed k = record {
  id = k;
  at = record {
    x = coordinate (state_after seed (3 * k - 2));
    y = coordinate (state_after seed (3 * k - 1));
    z = coordinate (state_after seed (3 * k));
  };
  vel = replicate 3 (pos 0);
  mass = 1;
  attr = replicate 8 (pos 0);
}

-- the particles from 1 to a count
abbrev pub particles : ℕ → ℕ → List Particle
particles seed count = map (particle seed) (range_with_len 1 count)
