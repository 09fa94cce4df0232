-- What is kept of a kernel between its pairs.
use Rattle.std.specs.Prelude.{◌≡◌, ℕ, ℤ, List, length, map, Option, slice_get}
use Rattle.std.specs.Option.{option_map}
use Rattle.kern_tree.specs.declared.kernel.Kernel.{Kernel}
use Rattle.kern_types.specs.Names.{declaration}
use Rattle.kern_types.specs.Statements.{slots_in}
use Rattle.kern_meaning.specs.declared.link.Link.{Link}
use Rattle.kern_meaning.specs.declared.value.Value.{Value}
use Rattle.kern_meaning.specs.declared.variable.Variable.{Variable}
use Rattle.kern_meaning.specs.Links.{links_of_kernel}
use Rattle.kern_meaning.specs.Values.{components}
use Rattle.kern_meaning.specs.Variables.{variable_of}
use Rattle.kern_meaning.specs.Walks.{names_of, value_at}

-- a scratch as clauses see it: the names that are assigned, what the text is resolved to, what the names are
-- declared as and their values, by number, and what each `+=` gave in the last pair
pub record Prepared : Type 0 where
  pub names : List (List ℕ)
  pub links : List Link
  pub variables : List Variable
  pub values : List (Option Value)
  pub given : List (Option Value)

-- it was made for this kernel
pub record IsMadeFor (kernel : Kernel) (s : Prepared) : Type 0 where
  pub names : s.names ≡ names_of kernel
  pub links : s.links ≡ links_of_kernel kernel
  pub variables : s.variables ≡ map (λ name. variable_of (declaration kernel.decls name)) (names_of kernel)
  pub values : length s.values ≡ length s.names
  pub given : length s.given ≡ slots_in kernel.body

-- what the `+=` of this slot gave, along x, y and z
abbrev pub given_at : List (Option Value) → ℕ → Option (List ℤ)
given_at given n = option_map components (value_at (slice_get given n))
