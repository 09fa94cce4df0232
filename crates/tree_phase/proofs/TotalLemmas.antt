-- How many entries and items there are at most.
use Rattle.std.proofs.Common.{◌≡◌, ℕ, ◌+◌, ◌*◌, ◌^◌, ◌≤◌, Bool, cond, not, List, [], ◌∷◌, ◌++◌, length, nat_eq, refl, sym, ◌∙◌, ap, subst, arith}
use Rattle.std.specs.List.{filter, list_any, sum_by, count_by}
use Rattle.std.proofs.lemmas.List.{append-nil, length_push}
use Rattle.std.proofs.lemmas.List.Concat.{flat_map-append}
use Rattle.std.proofs.lemmas.List.Filters.{length-filter_both}
use Rattle.std.proofs.lemmas.List.Sums.{count_by-le-length, length-filter, sum_by-append, sum_by-cons}
use Rattle.pf_model.specs.declared.entry.Entry.{Entry}
use Rattle.pf_model.specs.declared.limits.TheConstants.{MOST_PARTICLES}
use Rattle.pf_model.specs.Criterion.{Criterion}
use Rattle.pf_model.specs.Division.{Division}
use Rattle.pf_model.specs.Domains.{owner, particles_of, domain_box}
use Rattle.pf_model.specs.EssentialTree.{essential_tree, tree_for, particles_of_ranks}
use Rattle.pf_model.specs.Interaction.{list_of}
use Rattle.model_laws.specs.ListLaws.{ListsAreShort}
use Rattle.pf_model.specs.Particle.{Particle}
use Rattle.morton_tree.specs.declared.group.Group.{Group}
use Rattle.group_lists.specs.Gathering.{Gathering, with_source, partial_list, gathered_count}
use Rattle.run_model.specs.Text.{is_cell_entry, cells_in, particles_within}
use Rattle.tree_phase.specs.Trees.{received_by, IsCounted}

fewer : (test : Particle → Bool) (js : List Particle) → length (filter test js) ≤ length js
fewer test js = (let kept = length-filter test js in let count = count_by-le-length test js in omega arith)

-- ---- entries

sum_few : {X : Type 0} (h : X → ℕ) (most : ℕ) → ((x : X) → h x ≤ most) → (xs : List X) → sum_by h xs ≤ length xs * most
sum_few h most each [] = omega arith
sum_few h most each (x ∷ xs) =
    let one = sum_by-cons h x xs in
    let here = each x in
    let rest = sum_few h most each xs in
    grind arith

module _ (short : ListsAreShort) (t : Criterion) (g : Division) (js : List Particle) where
  pub few_gathered : (gather : Gathering) → length js ≤ MOST_PARTICLES → length gather.groups ≤ MOST_PARTICLES → gathered_count t g js gather ≤ 2 ^ 32
  few_gathered gather few groups =
      let each : (group : Group) → length (partial_list t g js gather group) ≤ 65536 = λ group.
      (let some = particles_of_ranks g js (gather.rank ∷ gather.absorbed) in
      let list = short t group.around some in
      let least = fewer (λ j. list_any (nat_eq (owner g js j.at)) (gather.rank ∷ gather.absorbed)) js in
      omega arith) in
      let all = sum_few (λ (group : Group). length (partial_list t g js gather group)) 65536 each gather.groups in
      omega arith

  tree_short : (some : List Particle) (items : List Entry) → length items ≤ length js → length (tree_for some items) ≤ length js
  tree_short [] items few = omega arith
  tree_short (i ∷ is) items few = few

  pub few_sent : (src dst : ℕ) → length (essential_tree t g js src dst) ≤ length js
  unfolding essential_tree
  few_sent src dst =
      tree_short (particles_of g js dst) (list_of t (domain_box g js dst) (particles_of g js src))
      (let list = short t (domain_box g js dst) (particles_of g js src) in
      let least = fewer (λ (j : Particle). nat_eq (owner g js j.at) src) js in
      omega arith)

-- ---- items

split_by : (test : Entry → Bool) (es : List Entry) → count_by test es + count_by (λ e. not (test e)) es ≡ length es
split_by test es =
    let both = length-filter_both test (λ e. not (test e)) (λ e. refl) es in
    let some = length-filter test es in
    let others = length-filter (λ e. not (test e)) es in
    omega arith

counted_both : (test : Entry → Bool) (xs ys : List Entry) → count_by test (xs ++ ys) ≡ count_by test xs + count_by test ys
counted_both test xs ys = sum_by-append (λ (e : Entry). cond (test e) 1 0) xs ys

module _ (t : Criterion) (g : Division) (js : List Particle) (gather : Gathering) (src : ℕ) where
  came : received_by t g js (with_source gather src) ≡ received_by t g js gather ++ essential_tree t g js src gather.rank
  came =
      flat_map-append (λ s. essential_tree t g js s gather.rank) gather.absorbed (src ∷ [])
      ∙ ap (λ es. received_by t g js gather ++ es) (append-nil (essential_tree t g js src gather.rank))

  pub cells_more : cells_in (received_by t g js (with_source gather src)) ≡ cells_in (received_by t g js gather) + cells_in (essential_tree t g js src gather.rank)
  cells_more = ap cells_in came ∙ counted_both is_cell_entry (received_by t g js gather) (essential_tree t g js src gather.rank)

  pub parts_more : particles_within (received_by t g js (with_source gather src)) ≡ particles_within (received_by t g js gather) + particles_within (essential_tree t g js src gather.rank)
  parts_more = ap particles_within came ∙ counted_both (λ e. not (is_cell_entry e)) (received_by t g js gather) (essential_tree t g js src gather.rank)

  -- what is counted of a gather, and of one more tree
  pub counted_more : (after : Gathering) (own cells parts with_cells with_parts dst : ℕ) (items : List Entry) → ListsAreShort → length js ≤ MOST_PARTICLES → after ≡ with_source gather src → items ≡ essential_tree t g js src dst → dst ≡ gather.rank →
      with_cells ≡ cells + cells_in items → with_parts ≡ parts + particles_within items → IsCounted t g js gather own cells parts → IsCounted t g js after own with_cells with_parts
  counted_more after own cells parts with_cells with_parts dst items short few value sent here cells_are parts_are before =
      let came : items ≡ essential_tree t g js src gather.rank = sent ∙ ap (essential_tree t g js src) here in
      let long = ap length came in
      let sent_few = few_sent short t g js src gather.rank in
      let both = split_by is_cell_entry items in
      let push = length_push gather.absorbed src in
      let short_before = before.short in
      subst (λ (v : Gathering). IsCounted t g js v own with_cells with_parts) (sym value) (record {
        few = before.few;
        of_own = before.of_own;
        of_cells = cells_are ∙ (λ k. before.of_cells k + cells_in (came k)) ∙ sym cells_more;
        of_parts = parts_are ∙ (λ k. before.of_parts k + particles_within (came k)) ∙ sym parts_more;
        short = omega arith;
      })
