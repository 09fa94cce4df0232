-- What parsing answers: the kernel that the tokens spell, or their first fault.
use Rattle.std.specs.Prelude.{◌≡◌, ◌⊎◌, ℕ, ◌+◌, ◌-◌, ◌<◌, ◌≤◌, List, [], ◌∷◌, ◌++◌, length, take, fold, slice_get, Some}
use Rattle.std.specs.Prelude.{Result, Ok, Err}
use Rattle.kern_token.specs.declared.fault.KernFault.{KernFault}
use Rattle.kern_token.specs.declared.fault.KernFault.TheVariants as faults
use Rattle.kern_token.specs.declared.token.Symbol.TheVariants as symbols
use Rattle.kern_token.specs.declared.token.Token.{Token}
use Rattle.kern_token.specs.declared.token.TokenKind.{TokenKind}
use Rattle.kern_token.specs.declared.token.TokenKind.TheVariants as kinds
use Rattle.kern_tree.specs.declared.kernel.Kernel.{Kernel}
use Rattle.kern_tree.specs.declared.limits.TheConstants.{MOST_NODES, MOST_OPEN}
use Rattle.kern_tree.specs.Grammar.{SpellsKernel}
use Rattle.kern_tree.specs.Nodes.{kernel_nodes}

-- with some later tokens these are a kernel's
abbrev pub CanGoOn : List Token → Type 0
CanGoOn tokens = (later : List Token) × (kernel : Kernel) × SpellsKernel (tokens ++ later) kernel

-- how many brackets are open after a token, where so many were open before it
abbrev pub brackets_after : ℕ → TokenKind → ℕ
brackets_after open_before (kinds.Symbol symbols.OpenRound) = open_before + 1
brackets_after open_before (kinds.Symbol symbols.OpenCurly) = open_before + 1
brackets_after open_before (kinds.Symbol symbols.CloseRound) = open_before - 1
brackets_after open_before (kinds.Symbol symbols.CloseCurly) = open_before - 1
brackets_after open_before _ = open_before

-- how many brackets are open at the end of the tokens
abbrev pub open_brackets : List Token → ℕ
open_brackets tokens = fold (λ open_before token. brackets_after open_before token.kind) 0 tokens

abbrev pub IsShallow : List Token → Type 0
IsShallow tokens = (n : ℕ) → open_brackets (take n tokens) ≤ MOST_OPEN

-- the end of the last token
abbrev pub end_of_tokens : List Token → ℕ
end_of_tokens tokens = fold (λ _ token. token.end) 0 tokens

-- This token stands among the tokens, and those before it can go on to a kernel, but not with it.
-- The grammar tells by the next token how it goes on, so its reading stops at this very token.
pub record StopsAt (tokens : List Token) (token : Token) : Type 0 where
  pub before : List Token
  pub after : List Token
  pub stands : tokens ≡ before ++ token ∷ after
  pub so_far : CanGoOn before
  pub no_further : CanGoOn (before ++ token ∷ []) → ⊥

-- the tokens end where more is required; the place is then the end of the last
pub record RunOut (tokens : List Token) : Type 0 where
  pub so_far : CanGoOn tokens
  pub not_whole : (kernel : Kernel) → SpellsKernel tokens kernel → ⊥

-- this token is the first that makes one open bracket too many
pub record IsTooDeep (tokens : List Token) (token : Token) : Type 0 where
  pub before : List Token
  pub after : List Token
  pub stands : tokens ≡ before ++ token ∷ after
  pub shallow : IsShallow before
  pub deep : open_brackets (before ++ token ∷ []) ≡ MOST_OPEN + 1

-- the tokens to this one can go on to a kernel, and whatever the kernel, its 513th node stands here
pub record IsTooManyNodes (tokens : List Token) (token : Token) : Type 0 where
  pub before : List Token
  pub after : List Token
  pub stands : tokens ≡ before ++ token ∷ after
  pub so_far : CanGoOn (before ++ token ∷ [])
  pub node : (later : List Token) (kernel : Kernel) → SpellsKernel (before ++ token ∷ later) kernel
      → slice_get (kernel_nodes kernel) MOST_NODES ≡ Some token.place

-- the tokens have this fault, maybe after another
abbrev pub HasFault : List Token → KernFault → Type 0
HasFault tokens (faults.Unexpected place) =
    ((token : Token) × (place ≡ token.place) × StopsAt tokens token) ⊎ ((place ≡ end_of_tokens tokens) × RunOut tokens)
HasFault tokens (faults.TooDeep place) = (token : Token) × (place ≡ token.place) × IsTooDeep tokens token
HasFault tokens (faults.TooManyNodes place) = (token : Token) × (place ≡ token.place) × IsTooManyNodes tokens token
HasFault tokens (faults.BadByte place) = ⊥
HasFault tokens (faults.NumberTooLarge place) = ⊥
HasFault tokens faults.Memory = ⊥

abbrev pub place_of : KernFault → ℕ
place_of (faults.BadByte place) = place
place_of (faults.NumberTooLarge place) = place
place_of (faults.Unexpected place) = place
place_of (faults.TooDeep place) = place
place_of (faults.TooManyNodes place) = place
place_of faults.Memory = 0

-- the order of faults at one place
abbrev pub rank : KernFault → ℕ
rank (faults.BadByte place) = 0
rank (faults.NumberTooLarge place) = 1
rank (faults.Unexpected place) = 2
rank (faults.TooDeep place) = 3
rank (faults.TooManyNodes place) = 4
rank faults.Memory = 5

-- the fault is the other, or is answered before it
abbrev pub IsNoLater : KernFault → KernFault → Type 0
IsNoLater fault other =
    (place_of fault < place_of other) ⊎ ((place_of fault ≡ place_of other) × (rank fault ≤ rank other))

pub record HasFirstFault (tokens : List Token) (fault : KernFault) : Type 0 where
  pub is_fault : HasFault tokens fault
  pub first : (other : KernFault) → HasFault tokens other → IsNoLater fault other

-- the tokens spell this kernel, within the limits of open brackets and nodes
pub record IsKernelOf (tokens : List Token) (kernel : Kernel) : Type 0 where
  pub spelled : SpellsKernel tokens kernel
  pub shallow : IsShallow tokens
  pub few : length (kernel_nodes kernel) ≤ MOST_NODES

-- what parsing the tokens answers
abbrev pub Parses : List Token → Result Kernel KernFault → Type 0
Parses tokens (Ok kernel) = IsKernelOf tokens kernel
Parses tokens (Err fault) = HasFirstFault tokens fault
