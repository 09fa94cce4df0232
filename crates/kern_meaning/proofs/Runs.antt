-- A run over the statements of a kernel, and the pair that it is.
use Rattle.std.proofs.Common.{◌≡◌, ℕ, ◌+◌, ◌<◌, ◌≤◌, ◌^◌, Bool, List, [], ◌∷◌, length, flat_map, Option, None, Ok, Err, replicate, sym, ap, ◌∙◌, subst, arith, length-append}
use Rattle.pf_model.specs.Particle.{Particle}
use Rattle.pf_model.specs.Totals.{Source}
use Rattle.kern_tree.specs.declared.kernel.Decl.{Decl}
use Rattle.kern_tree.specs.declared.kernel.Kernel.{Kernel}
use Rattle.kern_tree.specs.declared.stmt.Stmt.{Stmt}
use Rattle.kern_tree.specs.Limits.{KeepsLimits}
use Rattle.kern_tree.specs.Nodes.{stmt_nodes}
use Rattle.kern_tree.specs.Parsed.{IsParsed}
use Rattle.kern_types.specs.Statements.{slots_in}
use Rattle.kern_meaning.specs.declared.stop.PairStop.{PairStop}
use Rattle.kern_meaning.specs.declared.stop.PairStop.TheVariants as pair_stops
use Rattle.kern_meaning.specs.declared.value.Value.{Value}
use Rattle.kern_meaning.specs.Names.{Known, known_at_start}
use Rattle.kern_meaning.specs.Pair.{PairState, as_answer, block_meaning, is_same_place, pair_of}
use Rattle.kern_meaning.specs.Stops.{◌>>=◌}
use Rattle.kern_meaning.specs.Typing.{PairAnswer, HasOnePair}
use Rattle.kern_meaning.specs.Walks.{HasPlace, HavePlaces, assigned_in, known_by, names_of, pair_state}
use Rattle.kern_meaning.proofs.Counts.{block_counted, block_fewer, block_slots_are}
use Rattle.kern_meaning.proofs.NamePlaces.{placed}
use Rattle.std.specs.List.{AllByRecursion}

module _ (kernel : Kernel) (parsed : IsParsed kernel) (limits : KeepsLimits kernel) (decls : List Decl) (coincident : Bool) (read : List Stmt) (same : read ≡ kernel.body) where
  nodes : (block_meaning decls coincident kernel.body).count ≤ 512
  nodes = omega (arith, block_counted decls coincident limits.body, parsed.parsed.few, length-append (flat_map (λ (d : Decl). d.place ∷ []) kernel.decls) (flat_map stmt_nodes kernel.body))

  pub few_numbers : 1 + (block_meaning decls coincident read).count < 2 ^ 32
  few_numbers = omega (arith, nodes, ap (λ b. (block_meaning decls coincident b).count) same)

  pub few_slots : 0 + (block_meaning decls coincident read).slots < 2 ^ 32
  few_slots = omega (arith, nodes, block_fewer decls coincident limits.body, ap (λ b. (block_meaning decls coincident b).slots) same)

  pub have_places : (names : List (List ℕ)) (values : List (Option Value)) → names ≡ names_of kernel → length values ≡ length names → HavePlaces names values (assigned_in read)
  have_places names values is long = record {
    same = long;
    each = subst (λ (b : List Stmt). AllByRecursion (HasPlace names) (assigned_in b)) (sym same)
        (subst (λ (all : List (List ℕ)). AllByRecursion (HasPlace all) (assigned_in kernel.body)) (sym is) (placed [] (assigned_in kernel.body)));
  }

-- ---- the pair

module _ (kernel : Kernel) (i : Particle) (j : Source) (limits : KeepsLimits kernel) (decls : List Decl) (coincident : Bool) (read : List Stmt) (decls_same : decls ≡ kernel.decls) (co : coincident ≡ is_same_place i.at j.at) (same : read ≡ kernel.body)
    (start : Known) (names : List (List ℕ)) (values given : List (Option Value)) (known : known_by start names values ≡ known_at_start kernel.decls i j) (empty : given ≡ replicate (slots_in kernel.body) None) where
  starts : (block_meaning decls coincident read).run 1 0 (pair_state start names values given) ≡ (block_meaning kernel.decls (is_same_place i.at j.at) kernel.body).run 1 0 (record { known = known_at_start kernel.decls i j; given = replicate (block_meaning kernel.decls (is_same_place i.at j.at) kernel.body).slots None })
  starts =
      ap (λ ds. (block_meaning ds coincident read).run 1 0 (pair_state start names values given)) decls_same
      ∙ ap (λ c. (block_meaning kernel.decls c read).run 1 0 (pair_state start names values given)) co
      ∙ ap (λ b. (block_meaning kernel.decls (is_same_place i.at j.at) b).run 1 0 (pair_state start names values given)) same
      ∙ ap (λ k. (block_meaning kernel.decls (is_same_place i.at j.at) kernel.body).run 1 0 (record { known = k; given = given })) known
      ∙ ap (λ g. (block_meaning kernel.decls (is_same_place i.at j.at) kernel.body).run 1 0 (record { known = known_at_start kernel.decls i j; given = g })) (empty ∙ ap (λ n. replicate n None) (sym (block_slots_are kernel.decls (is_same_place i.at j.at) limits.body)))

  pub pair_given : (after : PairState) → (block_meaning decls coincident read).run 1 0 (pair_state start names values given) ≡ Ok after → pair_of kernel i j ≡ Ok after.given
  pair_given after e = ap (λ r. r >>= (λ end. Ok end.given)) (sym starts ∙ e)

  pub pair_stopped : (stop : PairStop) → (block_meaning decls coincident read).run 1 0 (pair_state start names values given) ≡ Err stop → pair_of kernel i j ≡ Err stop
  pair_stopped stop e = ap (λ r. r >>= (λ end. Ok end.given)) (sym starts ∙ e)

-- a typed kernel has an answer
pub never_without : (kernel : Kernel) (i : Particle) (j : Source) → HasOnePair kernel i j → pair_of kernel i j ≡ Err pair_stops.NoResult → ⊥
never_without kernel i j one e = without one.answer (sym one.is ∙ e) where
  without : (answer : PairAnswer) → as_answer answer ≡ Err pair_stops.NoResult → ⊥
  without (Ok given) e = cc
  without (Err fault) e = cc
