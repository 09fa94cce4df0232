-- The phase Settle, over all ranks.
use Rattle.std.proofs.Common.{◌≡◌, Some, Vec, Global, List, length, get_or, map, sym, ◌∙◌, ap, subst, arith}
use Rattle.std.specs.Prelude.{Option, IfSome}
use Rattle.std.specs.List.{All}
use Rattle.std.proofs.lemmas.List.{get_or-map, length-map}
use Rattle.std.proofs.lemmas.List.Elements.{All-map}
use Rattle.let_inbox.specs.declared.inbox.Inbox.{Inbox}
use Rattle.let_inbox.specs.declared.tokens.Spent.{Spent}
use Rattle.exchange.specs.States.{Holding, Package}
use Rattle.all_to_all.specs.declared.post.Post.{Post}
use Rattle.exchange_phase.specs.declared.arriving.Due.{Due}
use Rattle.exchange_phase.specs.declared.arriving.Arriver.{Arriver}
use Rattle.exchange_phase.specs.Arriving.{due_of, arriver_of, CanSettle, IsSettledFrom, HaveSettled, AreSettledFrom}
use Rattle.exchange_phase.proofs.Maps.{at_maps, maps_long}

module _ (ts : List ((Holding × Post Package) × Vec (Spent Package) Global)) where
  pub each_can_settle : (inboxes : List (Inbox Package)) → All (λ t. CanSettle inboxes (due_of t)) ts → All (λ a. IfSome a.due (CanSettle inboxes)) (map arriver_of ts)
  each_can_settle inboxes each = All-map (λ (a : Arriver). IfSome a.due (CanSettle inboxes)) arriver_of ts each

  pub all_settled : (before after : List Arriver) (ranks : List Holding) → before ≡ map arriver_of ts → HaveSettled before after → map (λ a. a.after) after ≡ map Some ranks → AreSettledFrom (map due_of ts) ranks
  all_settled before after ranks were have same =
      let long = maps_long (λ (a : Arriver). a.after) (λ (h : Holding). Some h) after ranks same in
      let many = ap length were ∙ length-map ts arriver_of in
      let dues = length-map ts due_of in
      let all = have.all in
      record {
        all = omega arith;
        each = λ i d h within.
            let a : Arriver = record { due = Some d; after = Some h } in
            let t : (Holding × Post Package) × Vec (Spent Package) Global = ((d.state, d.post), d.tokens) in
            let at : get_or before i a ≡ arriver_of (get_or ts i t) = ap (λ (l : List Arriver). get_or l i a) were ∙ get_or-map arriver_of ts i t a (omega arith) in
            let due : get_or (map due_of ts) i d ≡ due_of (get_or ts i t) = get_or-map due_of ts i t d (omega arith) in
            let now : (get_or after i a).after ≡ Some (get_or ranks i h) = at_maps (λ (a : Arriver). a.after) (λ (h : Holding). Some h) after ranks same i a h (omega arith) in
            let settled : IfSome (arriver_of (get_or ts i t)).due (λ d. IfSome (get_or after i a).after (IsSettledFrom d)) =
            subst (λ (b : Arriver). IfSome b.due (λ d. IfSome (get_or after i a).after (IsSettledFrom d))) at (have.each i a (omega arith)) in
            subst (λ (x : Due). IsSettledFrom x (get_or ranks i h)) (sym due) (subst (λ (o : Option Holding). IfSome o (IsSettledFrom (due_of (get_or ts i t)))) now settled);
      }
