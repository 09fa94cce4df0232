-- Literals, names and the axes of components.
use Rattle.std.proofs.Common.{◌≡◌, ℕ, List, [], ◌∷◌, Bool, true, false, cond, codes, Option, Some, None, refl, ap, ◌∙◌, inl, inr, arith}
use Rattle.std.specs.Str.{bytes_eq}
use Rattle.std.proofs.lemmas.Slice.Eq.{bytes_eq-Decides}
use Rattle.kern_token.specs.declared.fault.KernFault.{KernFault}
use Rattle.kern_token.specs.declared.token.TokenKind.{TokenKind}
use Rattle.kern_token.specs.declared.token.TokenKind.TheVariants as kinds
use Rattle.kern_tree.specs.declared.expr.Form.TheVariants as forms
use Rattle.kern_tree.specs.Grammar.{axis, axis_letter, node}
use Rattle.pf_geom.specs.declared.axis.Axis.{Axis}
use Rattle.pf_geom.specs.declared.axis.Axis.TheVariants as axes
use Rattle.kern_parse.specs.inner.Found.{ReadsRule, ReadsExpr, scale_if_any}
use Rattle.kern_parse.specs.inner.Leading.{Halts}
use Rattle.kern_parse.specs.inner.Reading.{Reading, next_kind, Takes, TakesNode, IsFull}
use Rattle.kern_parse.specs.Required.{Part, Refuses, axis_at, axis_move}
use Rattle.kern_parse.proofs.Following.{leads_then, shorter_by_token, node_token}
use Rattle.kern_parse.proofs.Steps.{passes}
use Rattle.kern_parse.proofs.Taking.{reads_token, takes_plain, takes_node, full_halts}

-- ---- the scale of a literal

no_scale : (next : Option TokenKind) → Refuses Part.Scale next → Refuses Part.ScaleIfAny next
no_scale None h = tt
no_scale (Some (kinds.Scale bits)) h = cc
no_scale (Some (kinds.Name called)) h = refl
no_scale (Some (kinds.Word word)) h = refl
no_scale (Some (kinds.Number n)) h = refl
no_scale (Some (kinds.Symbol s)) h = refl

pub scale_passed : (old : Reading) → Refuses Part.Scale (next_kind old) → ReadsRule scale_if_any (Part.ScaleIfAny ∷ []) old 0 old
scale_passed old none = record {
  spelled = inr (refl, refl);
  leads = passes Part.ScaleIfAny old refl (no_scale (next_kind old) none);
  depth = refl;
  shorter = omega arith;
}

pub scale_taken : (old : Reading) (place bits : ℕ) (new : Reading) → Takes old place new → next_kind old ≡ Some (kinds.Scale bits)
    → ReadsRule scale_if_any (Part.ScaleIfAny ∷ []) old bits new
scale_taken old place bits new t next =
    let found = reads_token Part.Scale (kinds.Scale bits) old place new t next refl (λ depth. refl) in
    record {
      spelled = inl (record { place = found.place; held = bits }, new.rest, found.spelled, (refl, refl));
      leads = takes_plain Part.ScaleIfAny [] (kinds.Scale bits) old place new t next refl refl;
      depth = t.depth;
      shorter = shorter_by_token (kinds.Scale bits) old.rest found.place new.rest found.spelled;
    }

-- ---- literals and names

pub literal_read : (n bits place : ℕ) (old mid new : Reading) → next_kind old ≡ Some (kinds.Number n) → TakesNode old place mid
    → ReadsRule scale_if_any (Part.ScaleIfAny ∷ []) mid bits new → ReadsExpr Part.Prim old (node place (forms.Number n bits)) new
literal_read n bits place old mid new next t scaled =
    let read = node_token (kinds.Number n) old place mid t next in
    record {
      reads = record {
        spelled = inl (inl (inl (record { place = place; held = n }, mid.rest, read, (bits, new.rest, scaled.spelled, (refl, refl)))));
        leads = leads_then (takes_node Part.Prim (Part.ScaleIfAny ∷ []) (kinds.Number n) old place mid t next refl refl) scaled.leads;
        depth = scaled.depth ∙ t.depth;
        shorter = omega (arith, scaled.shorter, shorter_by_token (kinds.Number n) old.rest place mid.rest read);
      };
    }

pub variable_read : (called : List ℕ) (place : ℕ) (old new : Reading) → next_kind old ≡ Some (kinds.Name called) → TakesNode old place new
    → ReadsExpr Part.Prim old (node place (forms.Name called)) new
variable_read called place old new next t =
    let read = node_token (kinds.Name called) old place new t next in
    record {
      reads = record {
        spelled = inl (inl (inr (record { place = place; held = called }, new.rest, read, (refl, refl))));
        leads = takes_node Part.Prim [] (kinds.Name called) old place new t next refl refl;
        depth = t.depth;
        shorter = shorter_by_token (kinds.Name called) old.rest place new.rest read;
      };
    }

pub literal_full : (n : ℕ) (old : Reading) (fault : KernFault) → next_kind old ≡ Some (kinds.Number n) → IsFull old fault → Halts (Part.Prim ∷ []) old fault
literal_full n old fault next full = full_halts Part.Prim (Part.ScaleIfAny ∷ []) (kinds.Number n) old fault full next refl refl

pub variable_full : (called : List ℕ) (old : Reading) (fault : KernFault) → next_kind old ≡ Some (kinds.Name called) → IsFull old fault → Halts (Part.Prim ∷ []) old fault
variable_full called old fault next full = full_halts Part.Prim [] (kinds.Name called) old fault full next refl refl

-- ---- the axis of a component

pub no_name : (next : Option TokenKind) → Refuses Part.Name next → Refuses Part.AxisName next
no_name None h = tt
no_name (Some (kinds.Name called)) h = cc
no_name (Some (kinds.Scale bits)) h = refl
no_name (Some (kinds.Word word)) h = refl
no_name (Some (kinds.Number n)) h = refl
no_name (Some (kinds.Symbol s)) h = refl

pub no_axis : (called : List ℕ) (next : Option TokenKind) → next ≡ Some (kinds.Name called) → axis_at called ≡ None → Refuses Part.AxisName next
no_axis called next is none = rw is (ap axis_move none)

chosen_axis : (called : List ℕ) (x y z : Bool) (along : Axis)
    → (x ≡ true → called ≡ codes "x") → (y ≡ true → called ≡ codes "y") → (z ≡ true → called ≡ codes "z")
    → cond x (Some axes.X) (cond y (Some axes.Y) (cond z (Some axes.Z) None)) ≡ Some along → called ≡ axis_letter along
chosen_axis called true y z axes.X hx hy hz is = hx refl
chosen_axis called true y z axes.Y hx hy hz is = cc
chosen_axis called true y z axes.Z hx hy hz is = cc
chosen_axis called false true z axes.X hx hy hz is = cc
chosen_axis called false true z axes.Y hx hy hz is = hy refl
chosen_axis called false true z axes.Z hx hy hz is = cc
chosen_axis called false false true axes.X hx hy hz is = cc
chosen_axis called false false true axes.Y hx hy hz is = cc
chosen_axis called false false true axes.Z hx hy hz is = hz refl
chosen_axis called false false false along hx hy hz is = cc

axis_is : (called : List ℕ) (along : Axis) → axis_at called ≡ Some along → called ≡ axis_letter along
axis_is called along is = chosen_axis called (bytes_eq called (codes "x")) (bytes_eq called (codes "y")) (bytes_eq called (codes "z")) along
    (λ h. (bytes_eq-Decides called (codes "x")).0 h) (λ h. (bytes_eq-Decides called (codes "y")).0 h) (λ h. (bytes_eq-Decides called (codes "z")).0 h) is

pub axis_read : (called : List ℕ) (along : Axis) (place : ℕ) (old new : Reading) → next_kind old ≡ Some (kinds.Name called) → axis_at called ≡ Some along
    → Takes old place new → ReadsRule axis (Part.AxisName ∷ []) old along new
axis_read called along place old new next is t =
    let found = reads_token Part.Name (kinds.Name called) old place new t next refl (λ depth. refl) in
    record {
      spelled = (found.place, rw (← axis_is called along is) found.spelled);
      leads = takes_plain Part.AxisName [] (kinds.Name called) old place new t next (ap axis_move is) refl;
      depth = t.depth;
      shorter = shorter_by_token (kinds.Name called) old.rest found.place new.rest found.spelled;
    }
