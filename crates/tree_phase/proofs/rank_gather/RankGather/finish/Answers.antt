use Rattle.std.proofs.Common.{◌≡◌, List, sym, ◌∙◌, subst}
use Rattle.pf_model.specs.Criterion.{Criterion}
use Rattle.pf_model.specs.Division.{Division}
use Rattle.pf_model.specs.Particle.{Particle}
use Rattle.group_lists.specs.Gathering.{Gathering, IsWhole}
use Rattle.tree_phase.specs.declared.rank_lists.RankLists.{RankLists}
use Rattle.tree_phase.specs.Counts.{counts_of}
use Rattle.tree_phase.specs.Trees.{IsFinished}
use Rattle.tree_phase.proofs.rank_gather.RankGather.finish.Goals as goal

pub finish-requires-clause-whole : goal.finish-requires-clause-whole
finish-requires-clause-whole g c = subst (IsWhole g.T.Terms.grid) (sym c.self.view_is) c.requires.whole

along : (t : Criterion) (g : Division) (js : List Particle) (v w : Gathering) (r : RankLists) → v ≡ w → IsFinished t g js v r → IsFinished t g js w r
along t g js v w r same done = subst (λ (u : Gathering). IsFinished t g js u r) same done

pub returns : goal.returns
returns g c =
    let counted = c.self.invariant in
    let lists = c.in_ok-lists.ensures in
    along g.T.Terms.theta g.T.Terms.grid g.T.Terms.particles c.self.inside.gather c.args.self _ c.self.view_is
    (record {
      bodies = lists.bodies;
      entries = lists.entries;
      spans = lists.spans;
      built = lists.built;
      own = lists.own;
      sources = lists.sources;
      line = c.counts_of-line.ensures ∙ (λ i. counts_of (counted.of_own i) (counted.of_cells i) (counted.of_parts i) c.in_ok-lists.lists.groups);
    })
