use Rattle.std.proofs.Common.{◌≡◌, ap, sym, ◌∙◌, arith, length, map, None, replicate}
use Rattle.std.proofs.lemmas.Result.{err_from_is_err_and}
use Rattle.pf_model.specs.Particle.{Particle}
use Rattle.pf_model.specs.Totals.{Source}
use Rattle.kern_types.specs.Names.{declaration}
use Rattle.kern_meaning.specs.Names.{known_at_start}
use Rattle.kern_meaning.specs.Variables.{variable_of}
use Rattle.kern_meaning.specs.Pair.{is_same_place}
use Rattle.kern_meaning.specs.Walks.{known_by, pair_state}
use Rattle.kern_meaning.proofs.NamePlaces.{start_known}
use Rattle.kern_meaning.proofs.Runs.{few_numbers, few_slots, have_places, pair_given, pair_stopped}
use Rattle.kern_meaning.proofs.pairing.run.Goals as goal

pub block-requires-clause-numbers : goal.block-requires-clause-numbers
block-requires-clause-numbers c =
    few_numbers c.args.k.now c.requires.parsed (c.parsed_kernels_keep_limits.ensures c.args.k.now c.requires.parsed) c.as_slice.result.now c.is_same_place.result c.as_slice-2.result.now c.as_slice-2.ensures

pub block-requires-clause-slots : goal.block-requires-clause-slots
block-requires-clause-slots c =
    few_slots c.args.k.now c.requires.parsed (c.parsed_kernels_keep_limits.ensures c.args.k.now c.requires.parsed) c.as_slice.result.now c.is_same_place.result c.as_slice-2.result.now c.as_slice-2.ensures

pub block-requires-clause-places : goal.block-requires-clause-places
block-requires-clause-places c =
    let long : length c.start.new.values ≡ length c.args.names.now = omega (arith, c.start.auto.values, c.requires.made.values) in
    have_places c.args.k.now c.requires.parsed (c.parsed_kernels_keep_limits.ensures c.args.k.now c.requires.parsed) c.as_slice.result.now c.is_same_place.result c.as_slice-2.result.now c.as_slice-2.ensures c.args.names.now c.start.new.values c.requires.made.names long

pub returns-in_err-block : goal.returns-in_err-block
returns-in_err-block c =
    let fault = err_from_is_err_and c.from_residual.result c.from_residual.ensures.1 in
    let long : length c.start.new.values ≡ length c.args.names.now = omega (arith, c.start.auto.values, c.requires.made.values) in
    let start = known_at_start c.as_slice.result.now c.args.i.now c.args.j.now in
    let known : known_by start c.args.names.now c.start.new.values ≡ known_at_start c.args.k.now.decls c.args.i.now c.args.j.now =
    ap (λ decls. known_by (known_at_start decls c.args.i.now c.args.j.now) c.args.names.now c.start.new.values) c.as_slice.ensures
    ∙ start_known c.args.i.now c.args.j.now c.args.k.now.decls c.args.names.now c.start.new.values long c.args.variables.now
    (c.requires.made.variables ∙ ap (map (λ name. variable_of (declaration c.args.k.now.decls name))) (sym c.requires.made.names)) (λ k h. c.start.ensures k (omega (arith, h, c.start.auto.values))) in
    let co = c.is_same_place.ensures ∙ ap (λ (p : Particle). is_same_place p.at c.j.inside.at) c.i.view_is ∙ ap (λ (s : Source). is_same_place c.args.i.now.at s.at) c.j.view_is in
    rw (fault.1, fault.2)
    (pair_stopped c.args.k.now c.args.i.now c.args.j.now (c.parsed_kernels_keep_limits.ensures c.args.k.now c.requires.parsed) c.as_slice.result.now c.is_same_place.result c.as_slice-2.result.now c.as_slice.ensures co c.as_slice-2.ensures start c.args.names.now c.start.new.values c.clear.new.slots known
    (c.clear.ensures ∙ ap (λ n. replicate n None) c.requires.made.given) _ c.in_err-block.ensures)

pub returns : goal.returns
returns c =
    let long : length c.start.new.values ≡ length c.args.names.now = omega (arith, c.start.auto.values, c.requires.made.values) in
    let start = known_at_start c.as_slice.result.now c.args.i.now c.args.j.now in
    let known : known_by start c.args.names.now c.start.new.values ≡ known_at_start c.args.k.now.decls c.args.i.now c.args.j.now =
    ap (λ decls. known_by (known_at_start decls c.args.i.now c.args.j.now) c.args.names.now c.start.new.values) c.as_slice.ensures
    ∙ start_known c.args.i.now c.args.j.now c.args.k.now.decls c.args.names.now c.start.new.values long c.args.variables.now
    (c.requires.made.variables ∙ ap (map (λ name. variable_of (declaration c.args.k.now.decls name))) (sym c.requires.made.names)) (λ k h. c.start.ensures k (omega (arith, h, c.start.auto.values))) in
    let co = c.is_same_place.ensures ∙ ap (λ (p : Particle). is_same_place p.at c.j.inside.at) c.i.view_is ∙ ap (λ (s : Source). is_same_place c.args.i.now.at s.at) c.j.view_is in
    pair_given c.args.k.now c.args.i.now c.args.j.now (c.parsed_kernels_keep_limits.ensures c.args.k.now c.requires.parsed) c.as_slice.result.now c.is_same_place.result c.as_slice-2.result.now c.as_slice.ensures co c.as_slice-2.ensures start c.args.names.now c.start.new.values c.clear.new.slots known
    (c.clear.ensures ∙ ap (λ n. replicate n None) c.requires.made.given) (pair_state start c.args.names.now c.block.new.values c.block.new.slots) c.in_ok-block.ensures.0
