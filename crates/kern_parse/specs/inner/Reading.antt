-- What is left to read of a kernel's tokens.
use Rattle.std.specs.Prelude.{◌≡◌, ℕ, ◌+◌, ◌<◌, ◌≤◌, List, [], ◌∷◌, Option, Some, None}
use Rattle.std.specs.List.{AllByRecursion}
use Rattle.kern_token.specs.declared.fault.KernFault.{KernFault}
use Rattle.kern_token.specs.declared.fault.KernFault.TheVariants as faults
use Rattle.kern_token.specs.declared.token.Token.{Token}
use Rattle.kern_token.specs.declared.token.TokenKind.{TokenKind}
use Rattle.kern_token.specs.Reading.{IsInLimit}
use Rattle.kern_tree.specs.declared.limits.TheConstants.{MOST_NODES, MOST_OPEN}

-- the tokens that are left, where the last token ends, the nodes that were read and the brackets that are open
pub record Reading : Type 0 where
  pub rest : List Token
  pub end : ℕ
  pub nodes : ℕ
  pub depth : ℕ

-- the numbers among the tokens are in their limit
abbrev pub AreInLimit : List Token → Type 0
AreInLimit = AllByRecursion (λ token. IsInLimit token.kind)

abbrev pub first_kind : List Token → Option TokenKind
first_kind [] = None
first_kind (token ∷ rest) = Some token.kind

abbrev pub next_kind : Reading → Option TokenKind
next_kind reading = first_kind reading.rest

-- the next token's place, or the end of the last
abbrev pub first_place : ℕ → List Token → ℕ
first_place end [] = end
first_place end (token ∷ rest) = token.place

abbrev pub next_place : Reading → ℕ
next_place reading = first_place reading.end reading.rest

-- the next token is read, which stands at this place
pub record Takes (old : Reading) (place : ℕ) (new : Reading) : Type 0 where
  pub token : Token
  pub rest : old.rest ≡ token ∷ new.rest
  pub place_is : token.place ≡ place
  pub end : new.end ≡ old.end
  pub nodes : new.nodes ≡ old.nodes
  pub depth : new.depth ≡ old.depth
  pub shallow : old.depth ≤ MOST_OPEN

-- the next token is read as a node's
pub record TakesNode (old : Reading) (place : ℕ) (new : Reading) : Type 0 where
  pub token : Token
  pub rest : old.rest ≡ token ∷ new.rest
  pub place_is : token.place ≡ place
  pub end : new.end ≡ old.end
  pub nodes : new.nodes ≡ old.nodes + 1
  pub few : old.nodes < MOST_NODES
  pub depth : new.depth ≡ old.depth
  pub shallow : old.depth ≤ MOST_OPEN

-- the next token is that of one node too many
pub record IsFull (reading : Reading) (fault : KernFault) : Type 0 where
  pub token : Token
  pub after : List Token
  pub rest : reading.rest ≡ token ∷ after
  pub fault_is : fault ≡ faults.TooManyNodes token.place
  pub full : MOST_NODES ≤ reading.nodes
  pub shallow : reading.depth ≤ MOST_OPEN
