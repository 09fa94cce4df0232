use Rattle.std.proofs.Common.{◌≡◌, ℕ, ◌+◌, List, [], ◌∷◌, ◌++◌, map, sym, ◌∙◌, ap, subst}
use Rattle.std.proofs.lemmas.List.{map-append}
use Rattle.pf_model.specs.EssentialTree.{Essential}
use Rattle.let_inbox.specs.Sources.{others}
use Rattle.essential_tree.specs.declared.sent.Sent.{Sent}
use Rattle.tree_phase.specs.Parcels.{tree_sent, AreSentTo}
use Rattle.tree_phase.proofs.OtherLemmas.{with_other, without_own}
use Rattle.tree_phase.proofs.SendLemmas.{sent_more}
use Rattle.tree_phase.proofs.sending.trees_sent.Goals.{then-dst-rank+in_ok-tree+in_ok-push+in_ok-push-2, else-dst-rank}
use Rattle.tree_phase.proofs.sending.trees_sent.Goals as goal

pub loop-dst-preserved : goal.loop-dst-preserved
loop-dst-preserved g c =
    let sent = tree_sent {X = g.row.T.Denot} g.T.Terms.theta g.T.Terms.grid g.T.Terms.particles c.args.rank in
    elim c.if-dst-rank.branch [
      | then-dst-rank+in_ok-tree+in_ok-push+in_ok-push-2 w ↦
          let tree : w.in_ok-tree.tree ≡ (sent c.loop-dst.dst).tree = w.in_ok-tree.ensures.tree in
          record {
            parcels = ap (λ v. v.items) w.parcels-is ∙ w.in_ok-push.ensures.items
                ∙ (λ i. c.loop-dst.invariant.parcels i ++ record { tree = tree i } ∷ [])
                ∙ sym (map-append sent (others c.args.rank c.loop-dst.dst) (c.loop-dst.dst ∷ []))
                ∙ ap (map sent) (with_other c.others_grow.ensures c.args.rank c.loop-dst.dst w.if-dst-rank.true);
            kept =
                subst (λ (s : List Sent). AreSentTo g.T.Terms.theta g.T.Terms.grid g.T.Terms.particles c.args.rank c.args.own.now.built (others c.args.rank (c.loop-dst.dst + 1)) s)
                (sym (ap (λ v. v.items) w.kept-is ∙ w.in_ok-push-2.ensures.items))
                (subst (λ (dsts : List ℕ). AreSentTo g.T.Terms.theta g.T.Terms.grid g.T.Terms.particles c.args.rank c.args.own.now.built dsts (c.loop-dst.kept.items ++ w.in_ok-tree.sent ∷ []))
                (with_other c.others_grow.ensures c.args.rank c.loop-dst.dst w.if-dst-rank.true)
                (sent_more g.T.Terms.theta g.T.Terms.grid g.T.Terms.particles c.args.rank c.args.own.now.built (others c.args.rank c.loop-dst.dst) c.loop-dst.kept.items c.loop-dst.dst w.in_ok-tree.sent _
                c.loop-dst.invariant.kept w.in_ok-tree.ensures.dst (ap (λ (e : Essential). e.items) w.in_ok-tree.ensures.tree) w.in_ok-tree.ensures.sent));
          }
      | else-dst-rank w ↦ record {
        parcels = ap (λ v. v.items) w.parcels-is ∙ c.loop-dst.invariant.parcels ∙ ap (map sent) (without_own c.others_grow.ensures c.args.rank c.loop-dst.dst w.if-dst-rank.false);
        kept =
            subst (λ (s : List Sent). AreSentTo g.T.Terms.theta g.T.Terms.grid g.T.Terms.particles c.args.rank c.args.own.now.built (others c.args.rank (c.loop-dst.dst + 1)) s)
            (sym (ap (λ v. v.items) w.kept-is))
            (subst (λ (dsts : List ℕ). AreSentTo g.T.Terms.theta g.T.Terms.grid g.T.Terms.particles c.args.rank c.args.own.now.built dsts c.loop-dst.kept.items)
            (without_own c.others_grow.ensures c.args.rank c.loop-dst.dst w.if-dst-rank.false) c.loop-dst.invariant.kept);
      }
    ]
