use Rattle.std.proofs.Common.{◌≡◌, ◌≤◌, length, vec_len, inl, inr, sym, ◌∙◌, subst, ap, eq-eqb, arith}
use Rattle.std.proofs.lemmas.Bool.{cases_lt, false≢true}
use Rattle.pf_model.specs.Division.{IsDivision}
use Rattle.pf_model.specs.Domains.{particles_of}
use Rattle.plain_run.proofs.OwnedLemmas.{owning_rank, owning_box}
use Rattle.plain_run.proofs.domains.slow_domain_box.Goals as goal

some : (c : goal.Else-is_empty) → 1 ≤ length (particles_of c.args.grid c.args.bodies.now c.args.rank)
some c =
    let long : length c.in_ok-own.own.items ≡ length (particles_of c.args.grid c.args.bodies.now c.args.rank) = ap length c.in_ok-own.ensures in
    let whole = c.in_ok-own.own.ok.0 in
    elim (cases_lt 0 (vec_len c.in_ok-own.own)) [
      | inl more ↦ omega arith
      | inr none ↦ absurd (false≢true (sym c.if-is_empty.false ∙ c.is_empty.ensures ∙ eq-eqb (vec_len c.in_ok-own.own) 0 (omega arith)))
    ]

pub box_of_rank-requires-clause-rank : goal.box_of_rank-requires-clause-rank
box_of_rank-requires-clause-rank c =
    owning_rank c.owners_are_ranks.ensures c.args.grid c.args.bodies.now c.args.rank (subst IsDivision c.grid.view_is c.grid.invariant) c.are_positions.ensures (some c)

pub box_of_rank-requires-clause-owns : goal.box_of_rank-requires-clause-owns
box_of_rank-requires-clause-owns c =
    owning_box c.domain_boxes_hold_what_is_owned.ensures c.args.grid c.args.bodies.now c.args.rank (subst IsDivision c.grid.view_is c.grid.invariant) c.are_positions.ensures (some c)
