-- The links of statements, by their forms, and an assignment by the number of its name.
use Rattle.std.proofs.Common.{◌≡◌, ℕ, ◌+◌, Bool, List, [], ◌∷◌, ◌++◌, length, drop, Option, Some, Result, Ok, Err, IfOk, sym, ap, ◌∙◌, subst, arith}
use Rattle.std.specs.List.{AllByRecursion}
use Rattle.std.proofs.Math.Seq.{take-append_seam, drop-append_seam}
use Rattle.kern_tree.specs.declared.expr.Expr.{Expr}
use Rattle.kern_tree.specs.declared.expr.Form.TheVariants as forms
use Rattle.kern_tree.specs.declared.kernel.Decl.{Decl}
use Rattle.kern_tree.specs.declared.stmt.Act.{Act}
use Rattle.kern_tree.specs.declared.stmt.Act.TheVariants as acts
use Rattle.kern_tree.specs.declared.stmt.Stmt.{Stmt}
use Rattle.pf_model.specs.Particle.{Particle}
use Rattle.pf_model.specs.Totals.{Source}
use Rattle.kern_meaning.specs.declared.link.Link.{Link}
use Rattle.kern_meaning.specs.declared.value.Value.{Value}
use Rattle.kern_meaning.specs.Expressions.{value_of, number_value_of, form_value, form_meaning, value_of_form}
use Rattle.kern_meaning.specs.Links.{with_count, first_part, other_part, assigned_number, assigned, value_by, form_links, expr_links, links_of, act_links, stmt_links, links_of_act, links_of_block}
use Rattle.kern_meaning.specs.Names.{Known, known_at_start, name_value, with_value}
use Rattle.kern_meaning.specs.Pair.{at_statement, act_meaning, Statements}
use Rattle.kern_meaning.specs.Stops.{◌>>=◌}
use Rattle.kern_meaning.specs.Walks.{act_assigned, stmt_assigned, assigned_by, HavePlaces, HasPlace, known_by, number_of, pair_state}
use Rattle.kern_tree.proofs.Layers.{of_form, name_layer, set_layer, if_layer}
use Rattle.kern_meaning.proofs.Meanings.{set_is}
use Rattle.kern_meaning.proofs.NamePlaces.{assigned_known, link_known}

pub first_counted : (all xs ys : List Link) → all ≡ with_count xs ++ ys → first_part all ≡ xs
first_counted all xs ys e = ap first_part e ∙ take-append_seam xs ys

pub other_counted : (all xs ys : List Link) → all ≡ with_count xs ++ ys → other_part all ≡ ys
other_counted all xs ys e = ap other_part e ∙ drop-append_seam xs ys

-- what is made of two parts
pub made_of : {A E : Type 0} (items : A → List Link) (r : Result A E) (first others all : List Link) → IfOk r (λ made. items made ≡ with_count first ++ others) → with_count first ++ others ≡ all → IfOk r (λ made. items made ≡ all)
made_of items (Ok made) first others all e f = e ∙ f
made_of items (Err fault) first others all e f = tt

-- the value of a name is read by its link
pub read_value : (names : List (List ℕ)) (decls : List Decl) (i : Particle) (j : Source) (values : List (Option Value)) → length values ≡ length names → (expr : Expr) (name : List ℕ) → expr.form ≡ forms.Name name
    → (links : List Link) → links ≡ links_of names decls expr → name_value (value_by i j values links) ≡ value_of (known_by (known_at_start decls i j) names values) expr
read_value names decls i j values same expr name is links are =
    let known : Known = known_by (known_at_start decls i j) names values in
    ap (λ ls. name_value (value_by i j values ls)) (are ∙ ap (of_form (form_links names decls) expr_links) is ∙ name_layer (form_links names decls) expr_links name)
    ∙ ap name_value (link_known i j decls names values same name)
    ∙ sym (ap (form_value known) is ∙ name_layer (form_meaning known) value_of_form name)

module _ (names : List (List ℕ)) (decls : List Decl) (act : Act) where
  -- ---- the blocks of an `if`

  module _ (condition : Expr) (body others read read_other : List Stmt) (is : act ≡ acts.If condition body others) (same : read ≡ body) (same_other : read_other ≡ others) where
    if_links : links_of_act names decls act ≡ with_count (links_of names decls condition) ++ (with_count (links_of_block names decls read) ++ links_of_block names decls read_other)
    if_links =
        ap (links_of_act names decls) is ∙ if_layer (act_links names decls) stmt_links condition body others
        ∙ ap (λ b. with_count (links_of names decls condition) ++ (with_count (links_of_block names decls b) ++ links_of_block names decls others)) (sym same)
        ∙ ap (λ b. with_count (links_of names decls condition) ++ (with_count (links_of_block names decls read) ++ links_of_block names decls b)) (sym same_other)

    -- made of those of its parts
    pub if_made : (first one two rest : List Link) → first ≡ links_of names decls condition → one ≡ links_of_block names decls read → two ≡ links_of_block names decls read_other → rest ≡ with_count one ++ two
        → with_count first ++ rest ≡ links_of_act names decls act
    if_made first one two rest e f g h =
        ap (λ x. with_count x ++ rest) e
        ∙ ap (λ x. with_count (links_of names decls condition) ++ x) (h ∙ ap (λ x. with_count x ++ two) f ∙ ap (λ x. with_count (links_of_block names decls read) ++ x) g)
        ∙ sym if_links

    module _ (links parts : List Link) (are : links ≡ links_of_act names decls act) (rest : parts ≡ other_part links) where
      blocks : parts ≡ with_count (links_of_block names decls read) ++ links_of_block names decls read_other
      blocks = rest ∙ other_counted links _ _ (are ∙ if_links)

      pub then_links : first_part parts ≡ links_of_block names decls read
      then_links = first_counted parts _ _ blocks

      pub else_links : other_part parts ≡ links_of_block names decls read_other
      else_links = other_counted parts _ _ blocks

  -- ---- an assignment

  module _ (coincident : Bool) (start : Known) (name : List ℕ) (value : Expr) (is : act ≡ acts.Set name value) (links : List Link) (are : links ≡ links_of_act names decls act) (n slot : ℕ)
      (values new slots : List (Option Value)) (places : HavePlaces names values (assigned_by act)) (held : Value) where
    numbered : assigned_number links ≡ Some (number_of names name)
    numbered = ap assigned_number (are ∙ ap (links_of_act names decls) is ∙ set_layer (act_links names decls) stmt_links name value)

    one_name : assigned_by act ≡ name ∷ []
    one_name = ap assigned_by is ∙ set_layer act_assigned stmt_assigned name value

    has_place : HasPlace names name
    has_place = (subst (λ (ns : List (List ℕ)). AllByRecursion (HasPlace names) ns) one_name places.each).0

    pub set_runs : at_statement coincident n (number_value_of (known_by start names values) value) ≡ Ok held → new ≡ assigned values (assigned_number links) held
        → ((act_meaning decls coincident act).run n slot (pair_state start names values slots) ≡ Ok (pair_state start names new slots)) × (n + 1 ≡ n + (act_meaning decls coincident act).count) × (slot ≡ slot + (act_meaning decls coincident act).slots)
    set_runs holds changed =
        let meaning = set_is decls coincident act name value is in
        let known : with_value (known_by start names values) name held ≡ known_by start names new =
        sym (assigned_known start names values name held places.same has_place) ∙ ap (known_by start names) (sym (changed ∙ ap (λ k. assigned values k held) numbered)) in (
          ap (λ (m : Statements). m.run n slot (pair_state start names values slots)) meaning
              ∙ ap (λ r. r >>= (λ h. Ok (record { known = with_value (known_by start names values) name h; given = slots }))) holds
              ∙ ap (λ k. Ok (record { known = k; given = slots })) known,
          omega (arith, ap (λ (m : Statements). m.count) meaning),
          omega (arith, ap (λ (m : Statements). m.slots) meaning),
        )

-- ---- one statement of a block after another

module _ (names : List (List ℕ)) (decls : List Decl) (block : List Stmt) (k : ℕ) (stmt : Stmt) (is : drop k block ≡ stmt ∷ drop (k + 1) block) (rest : List Link) (are : rest ≡ links_of_block names decls (drop k block)) where
  next_links : rest ≡ with_count (links_of_act names decls stmt.act) ++ links_of_block names decls (drop (k + 1) block)
  next_links = are ∙ ap (links_of_block names decls) is

  pub own_links : first_part rest ≡ links_of_act names decls stmt.act
  own_links = first_counted rest _ _ next_links

  pub later_links : other_part rest ≡ links_of_block names decls (drop (k + 1) block)
  later_links = other_counted rest _ _ next_links
