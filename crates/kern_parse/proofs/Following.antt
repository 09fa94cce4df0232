-- Readings one after another.
use Rattle.std.proofs.Common.{◌≡◌, ℕ, ◌<◌, ◌≤◌, List, [], ◌∷◌, ◌++◌, length, Some, ap, ◌∙◌, inl, inr, ◌⊎◌, arith}
use Rattle.kern_token.specs.declared.fault.KernFault.{KernFault}
use Rattle.kern_token.specs.declared.token.Token.{Token}
use Rattle.kern_token.specs.declared.token.TokenKind.{TokenKind}
use Rattle.kern_tree.specs.Rules.{token}
use Rattle.kern_parse.specs.inner.Leading.{Leads, Halts}
use Rattle.kern_parse.specs.inner.Reading.{Reading, next_kind, TakesNode}
use Rattle.kern_parse.specs.Required.{Part}
use Rattle.kern_parse.proofs.Taking.{kind_is}

pub leads_then : {a b c : Reading} {ps qs rs : List Part} → Leads ps a qs b → Leads qs b rs c → Leads ps a rs c
leads_then one other = record { goes = λ later. one.goes later ∙ other.goes later }

pub halts_then : {a b : Reading} {ps qs : List Part} {fault : KernFault} → Leads ps a qs b → Halts qs b fault → Halts ps a fault
halts_then one other = record { halts = λ later. one.goes later ∙ other.halts later }

-- the first part, before others
pub leads_first : {a b : Reading} (p : Part) (rest : List Part) → Leads (p ∷ []) a [] b → Leads (p ∷ rest) a rest b
leads_first p rest first = record { goes = λ later. first.goes (rest ++ later) }

pub halts_first : {a : Reading} {fault : KernFault} (p : Part) (rest : List Part) → Halts (p ∷ []) a fault → Halts (p ∷ rest) a fault
halts_first p rest first = record { halts = λ later. first.halts (rest ++ later) }

-- what is known of the first part's fault, of all
pub fault_first : {a : Reading} {M : Type 0} {fault : KernFault} (p : Part) (rest : List Part) → M ⊎ Halts (p ∷ []) a fault → M ⊎ Halts (p ∷ rest) a fault
fault_first p rest (inl m) = inl m
fault_first p rest (inr h) = inr (halts_first p rest h)

pub fault_then : {a b : Reading} {M : Type 0} {ps qs : List Part} {fault : KernFault} → Leads ps a qs b → M ⊎ Halts qs b fault → M ⊎ Halts ps a fault
fault_then one (inl m) = inl m
fault_then one (inr h) = inr (halts_then one h)

pub shorter_by_token : (kind : TokenKind) (tokens : List Token) (place : ℕ) (rest : List Token) → token kind tokens place rest → length rest ≤ length tokens
shorter_by_token kind tokens place rest t = grind (arith, ap length t.1)

pub shorter_by_one : (tokens : List Token) (first : Token) (rest : List Token) → tokens ≡ first ∷ rest → length rest ≤ length tokens
shorter_by_one tokens first rest is = grind (arith, ap length is)

-- the token of a node
pub node_token : (kind : TokenKind) (old : Reading) (place : ℕ) (new : Reading) → TakesNode old place new → next_kind old ≡ Some kind → token kind old.rest place new.rest
node_token kind old place new t next = (
  t.token.end,
  t.rest ∙ ap (λ k. record { kind = k; place = t.token.place; end = t.token.end } ∷ new.rest) (kind_is old.rest new.rest t.token kind t.rest next)
      ∙ ap (λ p. record { kind = kind; place = p; end = t.token.end } ∷ new.rest) t.place_is,
)

pub strictly_shorter : (tokens : List Token) (first : Token) (rest after : List Token) → tokens ≡ first ∷ rest → length after ≤ length rest → length after < length tokens
strictly_shorter tokens first rest after is less = grind (arith, ap length is, less)
