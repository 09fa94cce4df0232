-- The canonical text of a kernel: a declaration or a statement in a line.
use Rattle.std.specs.Prelude.{ℕ, ◌+◌, ◌*◌, List, [], ◌∷◌, ◌++◌, codes, replicate}
use Rattle.std.specs.Fmt.{decimal, signed_decimal}
use Rattle.std.specs.List.{flat_map}
use Rattle.kern_tree.specs.declared.kernel.Combine.{Combine}
use Rattle.kern_tree.specs.declared.kernel.Combine.TheVariants as combines
use Rattle.kern_tree.specs.declared.kernel.Decl.{Decl}
use Rattle.kern_tree.specs.declared.kernel.DeclKind.{DeclKind}
use Rattle.kern_tree.specs.declared.kernel.DeclKind.TheVariants as declared_kinds
use Rattle.kern_tree.specs.declared.kernel.Kernel.{Kernel}
use Rattle.kern_tree.specs.declared.kernel.Kind.{Kind}
use Rattle.kern_tree.specs.declared.kernel.Kind.TheVariants as kinds
use Rattle.kern_tree.specs.declared.stmt.Stmt.{Stmt}
use Rattle.kern_tree.specs.declared.stmt.Act.{Act}
use Rattle.kern_tree.specs.declared.stmt.Act.TheFolds.{fold-Act}
use Rattle.kern_tree.specs.declared.stmt.Act.TheOpen.{Act-F, Stmt-F}
use Rattle.kern_tree.specs.declared.stmt.Act.TheOpen as acts
use Rattle.kern_print.specs.Expressions.{expr_text}

abbrev pub kind_text : Kind → List ℕ
kind_text kinds.Num = codes "num"
kind_text kinds.Vec3 = codes "vec"

abbrev pub combine_text : Combine → List ℕ
combine_text combines.Sum = codes "sum"
combine_text combines.Max = codes "max"
combine_text combines.Min = codes "min"

-- the kind and the scale of what is declared, and its name
abbrev pub typed_name : Kind → ℕ → List ℕ → List ℕ
typed_name kind scale name = kind_text kind ++ codes " S" ++ decimal scale ++ codes " " ++ name

abbrev pub declared_text : DeclKind → List ℕ → List ℕ
declared_text (declared_kinds.Epi kind scale field) name =
    codes "EPI " ++ typed_name kind scale name ++ codes " : " ++ field
declared_text (declared_kinds.Epj kind scale field) name =
    codes "EPJ " ++ typed_name kind scale name ++ codes " : " ++ field
declared_text (declared_kinds.Force kind scale combine) name =
    codes "FORCE " ++ typed_name kind scale name ++ codes " " ++ combine_text combine
declared_text (declared_kinds.Param scale value) name =
    codes "PARAM S" ++ decimal scale ++ codes " " ++ name ++ codes " = " ++ signed_decimal value

-- a declaration's line
abbrev pub decl_text : Decl → List ℕ
decl_text decl = declared_text decl.what decl.name ++ codes ";\n"

-- the lines of a statement, by the number of blocks that it is in
abbrev pub Lines : Type 0
Lines = ℕ → List ℕ

-- two spaces for each block that the line is in
abbrev pub line : ℕ → List ℕ → List ℕ
line depth text = replicate (2 * depth) 32 ++ text ++ codes "\n"

-- the lines of a block's statements
abbrev pub block_lines : List Lines → Lines
block_lines block depth = flat_map (λ lines. lines depth) block

-- nothing where the else block is empty
abbrev pub else_lines : List Lines → Lines
else_lines [] depth = []
else_lines (lines ∷ more) depth = line depth (codes "} else {") ++ block_lines (lines ∷ more) (depth + 1)

abbrev pub act_lines : Act-F Lines Lines → Lines
act_lines (acts.Set name value) depth = line depth (name ++ codes " = " ++ expr_text value ++ codes ";")
act_lines (acts.Give name value) depth = line depth (name ++ codes " += " ++ expr_text value ++ codes ";")
act_lines (acts.If condition block other) depth =
    line depth (codes "if " ++ expr_text condition ++ codes " {") ++ block_lines block (depth + 1)
    ++ else_lines other depth ++ line depth (codes "}")

abbrev pub stmt_lines : Stmt-F Lines Lines → Lines
stmt_lines stmt = stmt.act

abbrev pub act_text : Act → Lines
act_text = fold-Act Lines Lines act_lines stmt_lines

abbrev pub stmt_text : Stmt → Lines
stmt_text stmt = act_text stmt.act

abbrev pub canonical_text : Kernel → List ℕ
canonical_text kernel = flat_map decl_text kernel.decls ++ flat_map (λ stmt. stmt_text stmt 0) kernel.body
