use Rattle.std.proofs.Common.{◌≡◌, ℕ, List, take, replicate, None, Option, sym, ◌∙◌, ap, subst, rules}
use Rattle.std.specs.List.{All}
use Rattle.std.proofs.lemmas.List.{take_all}
use Rattle.std.proofs.lemmas.List.Elements.{All-nil, All-more}
use Rattle.pf_geom.specs.Position.{IsPosition}
use Rattle.pf_geom.specs.Bounds.{Bounds}
use Rattle.pf_model.specs.Particle.{Particle}
use Rattle.pf_model.specs.Division.{rank_count}
use Rattle.pf_model.specs.Domains.{owner_by}
use Rattle.multisection.specs.Regions.{AreRegions, boxes_by}
use Rattle.multisection.proofs.BoxLemmas.{boxes_none, boxes_more, regions_hold}
use Rattle.multisection.proofs.domains.boxes_of.Goals as goal

pub loop-body-init : goal.loop-body-init
loop-body-init c = record {
  boxes =
      c.in_ok-boxes.ensures.items_if_clones_equal (λ y k. search rules)
      ∙ ap (λ (n : ℕ). replicate n None) c.rank_count.ensures.value
      ∙ boxes_none c.args.cuts.now 0 (rank_count c.args.cuts.now.grid);
  places = All-nil (λ (j : Particle). IsPosition j.at);
}

pub loop-body-preserved : goal.loop-body-preserved
loop-body-preserved c =
    let js = c.args.bodies.now in
    let i = c.loop-body.body-index in
    let j = c.body-item.result in
    let s = c.args.cuts.now in
    let P = λ (k : Particle). IsPosition k.at in
    let at : c.place_of.result ≡ j.at = c.place_of.ensures.value in
    let place : IsPosition j.at = subst IsPosition at c.place_of.ensures.inside in
    record {
      boxes = boxes_more s js i j c.loop-body.boxes.items c.owner-rank.result c.domain_box.result c.loop-body-test.true c.body-item.is
          c.loop-body.invariant.boxes (c.owner-rank.ensures.value ∙ ap (owner_by s) at) c.owner-rank.ensures.rank c.domain_box.ensures;
      places = All-more P js i j c.loop-body-test.true c.loop-body.invariant.places (subst P c.body-item.is place);
    }

pub returns-clause-regions : goal.returns-clause-regions
returns-clause-regions c =
    let js = c.args.bodies.now in
    let s = c.args.cuts.now in
    let all : take c.loop-body.body-index js ≡ js = take_all c.loop-body.body-index js c.loop-body-test.false in
    let places : All (λ j. IsPosition j.at) js = subst (λ (l : List Particle). All (λ j. IsPosition j.at) l) all c.loop-body.invariant.places in
    let boxes : boxes_by s js ≡ c.loop-body.boxes.items = sym (c.loop-body.invariant.boxes ∙ ap (boxes_by s) all) in
    subst (λ (l : List (Option Bounds)). AreRegions (record { cuts = s; boxes = l })) boxes (regions_hold c.boxes_by_cuts_hold_what_is_owned.ensures s js c.rank_count.ensures.cuts places)
