-- What a name means at a place of the text, and the types of expressions there.
use Rattle.std.specs.Prelude.{ℕ, Bool, true, false, List, Option, Some, None, Ok, Err, find}
use Rattle.std.specs.Str.{bytes_eq}
use Rattle.kern_tree.specs.declared.expr.Expr.{Expr}
use Rattle.kern_tree.specs.declared.expr.Form.{Form}
use Rattle.kern_tree.specs.declared.expr.Form.TheFolds.{fold-Form}
use Rattle.kern_tree.specs.declared.expr.Form.TheOpen.{Form-F, Expr-F}
use Rattle.kern_tree.specs.declared.expr.Form.TheOpen as forms
use Rattle.kern_tree.specs.declared.kernel.Decl.{Decl}
use Rattle.kern_tree.specs.declared.kernel.DeclKind.{DeclKind}
use Rattle.kern_tree.specs.declared.kernel.DeclKind.TheVariants as declared_as
use Rattle.kern_tree.specs.declared.kernel.Kind.TheVariants as kinds
use Rattle.kern_types.specs.declared.expr_type.ExprType.{ExprType}
use Rattle.kern_types.specs.declared.expr_type.ExprType.TheVariants.{Scaled}
use Rattle.kern_types.specs.declared.fault.TypeFault.TheVariants as faults
use Rattle.kern_types.specs.Scopes.{Scope}
use Rattle.kern_types.specs.declared.scope.Variable.{Variable}
use Rattle.kern_types.specs.Forms.{one_type, two_type, three_type, to_type, part_type}
use Rattle.kern_types.specs.NameLists.{is_among}
use Rattle.kern_types.specs.Steps.{OrFault, ◌>>=◌}

-- the declaration of a name
abbrev pub declaration : List Decl → List ℕ → Option Decl
declaration decls name = find (λ decl. bytes_eq decl.name name) decls

-- The earliest assignment to a name among these. Where the text before has no fault, every other one
-- gives the same kind and scale.
abbrev pub earlier_assignment : List Variable → List ℕ → Option Variable
earlier_assignment earlier name = find (λ variable. bytes_eq variable.name name) earlier

-- what a declared name is in an expression
abbrev pub declared_type : ℕ → DeclKind → OrFault ExprType
declared_type place (declared_as.Epi kind scale field) = Ok (Scaled kind scale)
declared_type place (declared_as.Epj kind scale field) = Ok (Scaled kind scale)
declared_type place (declared_as.Param scale value) = Ok (Scaled kinds.Num scale)
declared_type place (declared_as.Force kind scale combine) = Err (faults.Kind place)

-- an assigned name, by whether every path from the start assigns it
abbrev pub assigned_type : ℕ → Variable → Bool → OrFault ExprType
assigned_type place variable true = Ok (Scaled variable.kind variable.scale)
assigned_type place variable false = Err (faults.Unassigned place)

-- a name without a declaration, by its earlier assignment
abbrev pub undeclared_type : ℕ → Option Variable → Bool → OrFault ExprType
undeclared_type place None certain = Err (faults.Unknown place)
undeclared_type place (Some variable) certain = assigned_type place variable certain

-- by the name's declaration
abbrev pub named_type : ℕ → Option Decl → OrFault ExprType → OrFault ExprType
named_type place (Some decl) otherwise = declared_type place decl.what
named_type place None otherwise = otherwise

abbrev pub at_place : Expr-F (ℕ → OrFault ExprType) (OrFault ExprType) → OrFault ExprType
at_place expr = expr.form expr.place

-- At a place of the text with these declarations and this scope.
module _ (decls : List Decl) (scope : Scope) where
  abbrev pub name_type : ℕ → List ℕ → OrFault ExprType
  name_type place name =
      named_type place (declaration decls name)
      (undeclared_type place (earlier_assignment scope.earlier name) (is_among scope.certain name))

  -- of a form whose node stands at this place, by its operands from the left
  abbrev pub form_typing : Form-F (ℕ → OrFault ExprType) (OrFault ExprType) → ℕ → OrFault ExprType
  form_typing (forms.Number mantissa scale) place = Ok (Scaled kinds.Num scale)
  form_typing (forms.Name name) place = name_type place name
  form_typing (forms.Part whole axis) place = do
    type ← whole
    part_type place type
  form_typing (forms.One op operand) place = do
    type ← operand
    one_type place op type
  form_typing (forms.Two op left right) place = do
    a ← left
    b ← right
    two_type place op a b
  form_typing (forms.Three op first second third) place = do
    a ← first
    b ← second
    c ← third
    three_type place op a b c
  form_typing (forms.To k operand) place = do
    type ← operand
    to_type place k type

  abbrev pub form_type : Form → ℕ → OrFault ExprType
  form_type = fold-Form (ℕ → OrFault ExprType) (OrFault ExprType) form_typing at_place

  -- the type of an expression, or its first fault
  abbrev pub type_of : Expr → OrFault ExprType
  type_of expr = form_type expr.form expr.place
