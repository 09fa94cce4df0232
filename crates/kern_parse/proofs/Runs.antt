-- Runs of the table: the parts that are required after some tokens, and the places of the nodes among them.
use Rattle.std.proofs.Common.{◌≡◌, ◌⊎◌, ℕ, List, [], ◌∷◌, ◌++◌, true, ◌&&◌, IsTrue, Some, inl, inr, refl, sym, ap, ap₂, ◌∙◌, subst, append_assoc}
use Rattle.kern_token.specs.declared.token.Token.{Token}
use Rattle.kern_tree.specs.Unrolled.{TreesByForm}
use Rattle.kern_parse.specs.Required.{Part, Move, move, is_optional, moves, are_optional}
use Rattle.kern_parse.proofs.ExpressionTokens.{Goes, mark}
use Rattle.kern_parse.proofs.PartTokens.{part_goes}
use Rattle.kern_parse.proofs.PartRules.{parts_rule, parts_append}
use Rattle.kern_parse.proofs.ReadyStacks.{Ready, ready_after, not_begun}
use Rattle.kern_parse.proofs.Steps.{moves_first, moves_passed}

-- the tokens lead from these parts to those, with these nodes
abbrev pub Runs : List Part → List Token → List Part → List ℕ → Type 0
Runs parts [] those places = (those ≡ parts) × (places ≡ [])
Runs parts (token ∷ tokens) those places = (found : Move) × (more : List ℕ) × (moves parts token.kind ≡ Some found) × Runs found.then tokens those more × (places ≡ mark found.is_node token.place ++ more)

same_front : {A : Type 0} (x y : A) (xs ys : List A) → x ∷ xs ≡ y ∷ ys → (x ≡ y) × (xs ≡ ys)
same_front x y xs ys e = (let f : x ≡ y = cc in f, let g : xs ≡ ys = cc in g)

-- what is read for a stack begins with a token that its move is for, and goes on with what that move requires
pub record GoesOn (parts : List Part) (token : Token) (tokens : List Token) (places : List ℕ) : Type 0 where
  pub found : Move
  pub moved : moves parts token.kind ≡ Some found
  pub ready : Ready found.then
  pub more : List ℕ
  pub reads : parts_rule found.then tokens more []
  pub places_are : places ≡ mark found.is_node token.place ++ more

pub stack_goes : TreesByForm → (parts : List Part) (token : Token) (tokens : List Token) (places : List ℕ) → Ready parts → parts_rule parts (token ∷ tokens) places [] → GoesOn parts token tokens places
stack_goes tree [] token tokens places ready h = absurd (let never : token ∷ tokens ≡ [] = h.1 in cc)
stack_goes tree (part ∷ parts) token tokens places ready h = go (part_goes tree part (token ∷ tokens) h.0 h.1 h.3)
    (λ e. stack_goes tree parts token tokens h.2 ready.1 (subst (λ ts. parts_rule parts ts h.2 []) (sym e) h.4))
  where
    go : Goes part (token ∷ tokens) h.0 h.1 ⊎ (IsTrue (is_optional part) × (token ∷ tokens ≡ h.1) × (h.0 ≡ [])) → (token ∷ tokens ≡ h.1 → GoesOn parts token tokens h.2) → GoesOn (part ∷ parts) token tokens places
    go (inl g) later =
        let front = same_front token g.token tokens g.after g.tokens_are in
        let moved : move part token.kind ≡ Some g.found = ap (λ (t : Token). move part t.kind) front.0 ∙ g.moved in
        record {
          found = record { then = (g.found).then ++ parts; is_node = (g.found).is_node };
          moved = moves_first part parts token.kind g.found moved;
          ready = ready_after part parts token.kind g.found moved ready;
          more = g.more ++ h.2;
          reads = parts_append (g.found).then parts tokens h.1 [] g.more h.2 (subst (λ ts. parts_rule (g.found).then ts g.more h.1) (sym front.1) g.reads) h.4;
          places_are = h.5 ∙ ap (λ ps. ps ++ h.2) g.places_are ∙ append_assoc (mark (g.found).is_node (g.token).place) g.more h.2 ∙ ap (λ (t : Token). mark (g.found).is_node t.place ++ (g.more ++ h.2)) (sym front.0);
        }
    go (inr k) later =
        let l = later k.1 in
        record {
          found = l.found;
          moved = moves_passed part parts token.kind (not_begun part parts token.kind l.found k.0 ready.0 l.moved) k.0 ∙ l.moved;
          ready = l.ready;
          more = l.more;
          reads = l.reads;
          places_are = h.5 ∙ ap (λ ps. ps ++ h.2) k.2 ∙ l.places_are;
        }

pub stack_ends : TreesByForm → (parts : List Part) (places : List ℕ) → parts_rule parts [] places [] → (are_optional parts ≡ true) × (places ≡ [])
unfolding are_optional
stack_ends tree [] places h = (refl, h.0)
stack_ends tree (part ∷ parts) places h = go (part_goes tree part [] h.0 h.1 h.3) (λ e. stack_ends tree parts h.2 (subst (λ ts. parts_rule parts ts h.2 []) (sym e) h.4))
  where
    go : Goes part [] h.0 h.1 ⊎ (IsTrue (is_optional part) × ([] ≡ h.1) × (h.0 ≡ [])) → ([] ≡ h.1 → (are_optional parts ≡ true) × (h.2 ≡ [])) → (are_optional (part ∷ parts) ≡ true) × (places ≡ [])
    go (inl g) later = absurd (let never : [] ≡ g.token ∷ g.after = g.tokens_are in cc)
    go (inr k) later =
        let l = later k.1 in
        (ap₂ (λ a b. a && b) k.0 l.0, h.5 ∙ ap₂ (λ ps qs. ps ++ qs) k.2 l.1)

-- ---- the tokens that parts spell are run through

-- the run of the first tokens, and what is read after them
pub record RunsTo (parts : List Part) (tokens later : List Token) (places : List ℕ) : Type 0 where
  pub those : List Part
  pub first : List ℕ
  pub more : List ℕ
  pub runs : Runs parts tokens those first
  pub ready : Ready those
  pub reads : parts_rule those later more []
  pub places_are : places ≡ first ++ more

pub runs_to : TreesByForm → (parts : List Part) (tokens later : List Token) (places : List ℕ) → Ready parts → parts_rule parts (tokens ++ later) places [] → RunsTo parts tokens later places
runs_to tree parts [] later places ready h = record { those = parts; first = []; more = places; runs = (refl, refl); ready = ready; reads = h; places_are = refl }
runs_to tree parts (token ∷ tokens) later places ready h =
    let g = stack_goes tree parts token (tokens ++ later) places ready h in
    let r = runs_to tree (g.found).then tokens later g.more g.ready g.reads in
    record {
      those = r.those;
      first = mark (g.found).is_node token.place ++ r.first;
      more = r.more;
      runs = (g.found, r.first, g.moved, r.runs, refl);
      ready = r.ready;
      reads = r.reads;
      places_are = g.places_are ∙ ap (λ ps. mark (g.found).is_node token.place ++ ps) r.places_are ∙ sym (append_assoc (mark (g.found).is_node token.place) r.first r.more);
    }
