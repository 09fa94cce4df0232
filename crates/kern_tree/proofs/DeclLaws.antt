-- The rules of tokens and declarations keep the laws of rules.
use Rattle.std.proofs.Common.{◌≡◌, ℕ, List, [], ◌∷◌, false, refl, ap₂, inl, inr}
use Rattle.kern_token.specs.declared.token.Symbol.{Symbol}
use Rattle.kern_token.specs.declared.token.Symbol.TheVariants as symbols
use Rattle.kern_token.specs.declared.token.TokenKind.TheVariants as kinds
use Rattle.kern_token.specs.declared.token.Word.{Word}
use Rattle.kern_token.specs.declared.token.Word.TheVariants as words
use Rattle.kern_tree.specs.declared.kernel.Combine.TheVariants as combines
use Rattle.kern_tree.specs.declared.kernel.Decl.{Decl}
use Rattle.kern_tree.specs.declared.kernel.DeclKind.{DeclKind}
use Rattle.kern_tree.specs.declared.kernel.DeclKind.TheVariants as declared_as
use Rattle.kern_tree.specs.declared.kernel.Kind.{Kind}
use Rattle.kern_tree.specs.declared.kernel.Kind.TheVariants as kinds_of
use Rattle.kern_tree.specs.Rules.{At, symbol, word, name, number, scale}
use Rattle.kern_tree.specs.Grammar.{kind, combine, decl_node, field_of, force, signed, param, decl}
use Rattle.kern_tree.proofs.Classes.{word_class, symbol_class}
use Rattle.kern_tree.proofs.Shapes.{Shape, Good, good_pure, good_then, good_or, token_shape, good_token}

-- no node
abbrev pub none : {A : Type 0} → A → List ℕ
none a = []

-- the node of a token
abbrev pub here : ℕ → List ℕ
here place = place ∷ []

abbrev pub at_here : {A : Type 0} → At A → List ℕ
at_here found = found.place ∷ []

-- ---- tokens

pub good_symbol : (spelled : Symbol) → Good (symbol spelled) (symbol spelled) (token_shape (symbol_class spelled)) none []
good_symbol spelled = good_token (λ place. kinds.Symbol spelled) (λ place. place) (symbol_class spelled) none (λ place. refl) (λ place. inl refl) (λ v w e f. f)

pub node_symbol : (spelled : Symbol) → Good (symbol spelled) (symbol spelled) (token_shape (symbol_class spelled)) here []
node_symbol spelled = good_token (λ place. kinds.Symbol spelled) (λ place. place) (symbol_class spelled) here (λ place. refl) (λ place. inr refl) (λ v w e f. f)

pub good_word : (spelled : Word) → Good (word spelled) (word spelled) (token_shape (word_class spelled)) none []
good_word spelled = good_token (λ place. kinds.Word spelled) (λ place. place) (word_class spelled) none (λ place. refl) (λ place. inl refl) (λ v w e f. f)

pub node_word : (spelled : Word) → Good (word spelled) (word spelled) (token_shape (word_class spelled)) here []
node_word spelled = good_token (λ place. kinds.Word spelled) (λ place. place) (word_class spelled) here (λ place. refl) (λ place. inr refl) (λ v w e f. f)

same_at : {A : Type 0} (v w : At A) → v.held ≡ w.held → v.place ≡ w.place → v ≡ w
same_at v w e f = ap₂ (λ place held. record { place = place; held = held }) f e

pub same_name : (v w : List ℕ) → kinds.Name v ≡ kinds.Name w → v ≡ w
same_name v w e = cc

same_number : (v w : ℕ) → kinds.Number v ≡ kinds.Number w → v ≡ w
same_number v w e = cc

same_scale : (v w : ℕ) → kinds.Scale v ≡ kinds.Scale w → v ≡ w
same_scale v w e = cc

pub good_name : Good name name (token_shape 0) none []
good_name = good_token (λ found. kinds.Name found.held) (λ found. found.place) 0 none (λ found. refl) (λ found. inl refl) (λ v w e f. same_at v w (same_name v.held w.held e) f)

pub node_name : Good name name (token_shape 0) at_here []
node_name = good_token (λ found. kinds.Name found.held) (λ found. found.place) 0 at_here (λ found. refl) (λ found. inr refl) (λ v w e f. same_at v w (same_name v.held w.held e) f)

pub good_number : Good number number (token_shape 2) none []
good_number = good_token (λ found. kinds.Number found.held) (λ found. found.place) 2 none (λ found. refl) (λ found. inl refl) (λ v w e f. same_at v w (same_number v.held w.held e) f)

pub node_number : Good number number (token_shape 2) at_here []
node_number = good_token (λ found. kinds.Number found.held) (λ found. found.place) 2 at_here (λ found. refl) (λ found. inr refl) (λ v w e f. same_at v w (same_number v.held w.held e) f)

pub good_scale : Good scale scale (token_shape 1) none []
good_scale = good_token (λ found. kinds.Scale found.held) (λ found. found.place) 1 none (λ found. refl) (λ found. inl refl) (λ v w e f. same_at v w (same_scale v.held w.held e) f)

-- ---- declarations

-- a rule of this first token, which no token goes on with
abbrev pub solid : List ℕ → Shape
solid first = record { nullable = false; first = first; cont = [] }

pub good_kind : Good kind kind (solid (7 ∷ 8 ∷ [])) none []
good_kind =
    good_or (good_then (good_word words.Num) (λ p.
    good_pure kinds_of.Num none [] refl) refl) (good_then (good_word words.Vec) (λ p.
    good_pure kinds_of.Vec3 none [] refl) refl) refl

pub good_combine : Good combine combine (solid (9 ∷ 10 ∷ 11 ∷ [])) none []
good_combine =
    good_or (good_or (good_then (good_word words.Sum) (λ p.
    good_pure combines.Sum none [] refl) refl) (good_then (good_word words.Max) (λ p.
    good_pure combines.Max none [] refl) refl) refl) (good_then (good_word words.Min) (λ p.
    good_pure combines.Min none [] refl) refl) refl

abbrev pub decl_nodes : Decl → List ℕ
decl_nodes d = d.place ∷ []

pub good_field : (spelled : Word) (what : Kind → ℕ → List ℕ → DeclKind) → Good (field_of spelled what) (field_of spelled what) (solid (word_class spelled ∷ [])) decl_nodes []
good_field spelled what =
    good_then (node_word spelled) (λ place.
    good_then good_kind (λ of_kind.
    good_then good_scale (λ bits.
    good_then good_name (λ called.
    good_then (good_symbol symbols.Colon) (λ p.
    good_then good_name (λ field.
    good_then (good_symbol symbols.Semicolon) (λ q.
    good_pure (decl_node place called.held (what of_kind bits.held field.held)) decl_nodes (place ∷ []) refl) refl) refl) refl) refl) refl) refl) refl

pub good_force : Good force force (solid (5 ∷ [])) decl_nodes []
good_force =
    good_then (node_word words.Force) (λ place.
    good_then good_kind (λ of_kind.
    good_then good_scale (λ bits.
    good_then good_name (λ called.
    good_then good_combine (λ combined.
    good_then (good_symbol symbols.Semicolon) (λ q.
    good_pure (decl_node place called.held (declared_as.Force of_kind bits.held combined)) decl_nodes (place ∷ []) refl) refl) refl) refl) refl) refl) refl

pub good_signed : Good signed signed (solid (2 ∷ 19 ∷ [])) none []
good_signed =
    good_or (good_then good_number (λ digits.
    good_pure _ none [] refl) refl) (good_then (good_symbol symbols.Minus) (λ p.
    good_then good_number (λ digits.
    good_pure _ none [] refl) refl) refl) refl

pub good_param : Good param param (solid (6 ∷ [])) decl_nodes []
good_param =
    good_then (node_word words.Param) (λ place.
    good_then good_scale (λ bits.
    good_then good_name (λ called.
    good_then (good_symbol symbols.Assign) (λ p.
    good_then good_signed (λ value.
    good_then (good_symbol symbols.Semicolon) (λ q.
    good_pure (decl_node place called.held (declared_as.Param bits.held value)) decl_nodes (place ∷ []) refl)
    refl) refl) refl) refl) refl) refl

pub good_decl : Good decl decl (solid (3 ∷ 4 ∷ 5 ∷ 6 ∷ [])) decl_nodes []
good_decl = good_or (good_or (good_or (good_field words.Epi declared_as.Epi) (good_field words.Epj declared_as.Epj) refl) good_force refl) good_param refl
