-- The first fault of a reading, by what the grammar requires at each token.
use Rattle.std.specs.Prelude.{◌≡◌, ◌⊎◌, ℕ, ◌+◌, List, [], ◌∷◌, ◌++◌, Bool, true, false, cond, nat_le, nat_lt, Option}
use Rattle.std.specs.Prelude.{Some, None}
use Rattle.kern_token.specs.declared.fault.KernFault.{KernFault}
use Rattle.kern_token.specs.declared.fault.KernFault.TheVariants as faults
use Rattle.kern_token.specs.declared.token.Token.{Token}
use Rattle.kern_tree.specs.declared.limits.TheConstants.{MOST_NODES, MOST_OPEN}
use Rattle.kern_tree.specs.FirstFault.{brackets_after}
use Rattle.kern_parse.specs.inner.Reading.{Reading}
use Rattle.kern_parse.specs.Required.{Part, Move, moves, are_optional}

abbrev pub nodes_after : Bool → ℕ → ℕ
nodes_after true nodes = nodes + 1
nodes_after false nodes = nodes

-- at a node
abbrev pub at_counted_node : Bool → Bool → ℕ → Option KernFault → Option KernFault
at_counted_node true true place later = Some (faults.TooManyNodes place)
at_counted_node true false place later = later
at_counted_node false _ place later = later

-- at a token that stands at this place: whether it is a bracket too many, whether a node would be,
-- what the grammar tells, and what comes later
abbrev pub step : ℕ → Bool → Bool → Option Move → (Move → Option KernFault) → Option KernFault
step place deep full None later = Some (faults.Unexpected place)
step place true full (Some found) later = Some (faults.TooDeep place)
step place false full (Some found) later = at_counted_node found.is_node full place (later found)

-- the first fault of what is read where these parts are required, with so many nodes read and so
-- many brackets open
unfoldable pub reads_on : ℕ → List Part → ℕ → ℕ → List Token → Option KernFault
reads_on end parts nodes depth [] = cond (are_optional parts) None (Some (faults.Unexpected end))
reads_on end parts nodes depth (token ∷ rest) =
    step token.place (nat_lt MOST_OPEN (brackets_after depth token.kind)) (nat_le MOST_NODES nodes)
    (moves parts token.kind)
    (λ found. reads_on end found.then (nodes_after found.is_node nodes) (brackets_after depth token.kind) rest)

-- the first fault of the reading from here on, where these parts are required
abbrev pub fault_of : List Part → Reading → Option KernFault
fault_of parts reading = reads_on reading.end parts reading.nodes reading.depth reading.rest

-- from the old reading, which requires these parts, one comes to the new, which requires those
pub record Leads (parts : List Part) (old : Reading) (those : List Part) (new : Reading) : Type 0 where
  pub goes : (later : List Part) → fault_of (parts ++ later) old ≡ fault_of (those ++ later) new

-- the reading, which requires these parts, has this first fault in them
pub record Halts (parts : List Part) (reading : Reading) (fault : KernFault) : Type 0 where
  pub halts : (later : List Part) → fault_of (parts ++ later) reading ≡ Some fault

-- a call ended with this fault: memory ran out, or it is the first in the parts
abbrev pub Fails : List Part → Reading → KernFault → Type 0
Fails parts reading fault = (fault ≡ faults.Memory) ⊎ Halts parts reading fault
