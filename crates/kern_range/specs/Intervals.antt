-- Intervals of whole numbers, and those of the results of operations. An interval is bad where it leaves 64 bits.
use Rattle.std.specs.Prelude.{ℕ, Bool, true, false, ◌&&◌, ◌||◌, not, ℤ, pos, neg_ℤ, ◌+ℤ◌, ◌-ℤ◌, ◌*ℤ◌, int_div, int_le, int_lt, List, [], ◌∷◌, Result, Ok, Err, fold, if◌then◌else◌}
use Rattle.std.specs.Int.{int_min, int_max}
use Rattle.pf_num.specs.declared.fault.NumFault.{NumFault}
use Rattle.pf_num.specs.Exact.{exact}
use Rattle.pf_num.specs.Scale.{rescaled}
use Rattle.pf_num.specs.SquareRoot.{exact_root}
use Rattle.kern_range.specs.declared.interval.Bad.{Bad}
use Rattle.kern_range.specs.declared.interval.Interval.{Interval}

abbrev pub OrBad : Type 0 → Type 0
OrBad A = Result A Bad

abbrev pub bad : {A : Type 0} → OrBad A
bad = Err (record {})

-- with these ends, where both are there
abbrev pub with_ends : Result ℤ NumFault → Result ℤ NumFault → OrBad Interval
with_ends (Ok least) (Ok greatest) = Ok (record { least = least; greatest = greatest })
with_ends _ _ = bad

-- where it doesn't leave 64 bits
abbrev pub narrow : Interval → OrBad Interval
narrow a = with_ends (exact a.least) (exact a.greatest)

-- the least interval that holds these numbers
abbrev pub hull : ℤ → List ℤ → Interval
hull x more = record { least = fold int_min x more; greatest = fold int_max x more }

-- that holds four, where each is there
abbrev pub hull_of : Result ℤ NumFault → Result ℤ NumFault → Result ℤ NumFault → Result ℤ NumFault → OrBad Interval
hull_of (Ok w) (Ok x) (Ok y) (Ok z) = Ok (hull w (x ∷ y ∷ z ∷ []))
hull_of _ _ _ _ = bad

-- the least interval that holds two
abbrev pub wider : Interval → Interval → Interval
wider a b = record { least = int_min a.least b.least; greatest = int_max a.greatest b.greatest }

-- the results at each end of both
abbrev pub at_corners : (ℤ → ℤ → ℤ) → Interval → Interval → Interval
at_corners f a b =
    hull (f a.least b.least) (f a.least b.greatest ∷ f a.greatest b.least ∷ f a.greatest b.greatest ∷ [])

-- its ends are neither both above 0 nor both below
abbrev pub holds_zero : Interval → Bool
holds_zero a =
    not ((int_lt (pos 0) a.least && int_lt (pos 0) a.greatest) || (int_lt a.least (pos 0) && int_lt a.greatest (pos 0)))

-- ---- operations that rise or fall

abbrev pub sum : Interval → Interval → Interval
sum a b = record { least = a.least +ℤ b.least; greatest = a.greatest +ℤ b.greatest }

abbrev pub difference : Interval → Interval → Interval
difference a b = record { least = a.least -ℤ b.greatest; greatest = a.greatest -ℤ b.least }

abbrev pub negative : Interval → Interval
negative a = record { least = neg_ℤ a.greatest; greatest = neg_ℤ a.least }

abbrev pub lesser : Interval → Interval → Interval
lesser a b = record { least = int_min a.least b.least; greatest = int_min a.greatest b.greatest }

abbrev pub greater : Interval → Interval → Interval
greater a b = record { least = int_max a.least b.least; greatest = int_max a.greatest b.greatest }

-- from one scale to another
abbrev pub rescaled_ends : Interval → ℕ → ℕ → Interval
rescaled_ends a from to = record { least = rescaled a.least from to; greatest = rescaled a.greatest from to }

-- bad where a number in it is negative
abbrev pub root : Interval → OrBad Interval
root a = with_ends (exact_root a.least) (exact_root a.greatest)

-- from 0 on, where 0 lies in it
abbrev pub magnitude : Interval → Interval
magnitude a =
    if int_le (pos 0) a.least then a
    else (if int_le a.greatest (pos 0) then negative a
    else record { least = pos 0; greatest = int_max (neg_ℤ a.least) a.greatest })

-- ---- products and quotients

-- the least square
abbrev pub least_square : Interval → ℤ
least_square a =
    if holds_zero a then pos 0 else int_min (a.least *ℤ a.least) (a.greatest *ℤ a.greatest)

-- of numbers with themselves
abbrev pub square : Interval → Interval
square a =
    record { least = least_square a; greatest = int_max (a.least *ℤ a.least) (a.greatest *ℤ a.greatest) }

-- where both operands are one name, of each number with itself
abbrev pub product : Bool → Interval → Interval → Interval
product true a b = square a
product false a b = at_corners (λ x y. x *ℤ y) a b

-- toward zero; bad where the divisor can be 0
abbrev pub quotient : Interval → Interval → OrBad Interval
quotient dividend divisor =
    if holds_zero divisor then bad else narrow (at_corners int_div dividend divisor)
