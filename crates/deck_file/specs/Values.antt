-- The values of a deck's keys.
use Rattle.std.specs.Prelude.{ℕ, ◌*◌, suc, Bool, ◌&&◌, ◌==◌, nat_le, if◌then◌else◌}
use Rattle.std.specs.Prelude.{List, length, take, drop, codes, position, Option, Some, None, option_map, option_and_then}
use Rattle.std.specs.List.{list_all}
use Rattle.std.specs.Result.{result_ok}
use Rattle.std.specs.Str.{bytes_eq}
use Rattle.pf_geom.specs.declared.edge.Edge.{Edge}
use Rattle.pf_geom.specs.declared.edge.Edge.TheVariants.{Open, Periodic}
use Rattle.pf_model.specs.Division.{Division}
use Rattle.pf_model.specs.declared.limits.TheConstants.{MOST_RANKS}
use Rattle.text_lines.specs.Numbers.{digits_in}
use Rattle.deck_file.specs.declared.limits.TheConstants.{MOST_NAME}

-- from `!` to `~`
abbrev pub is_visible : ℕ → Bool
is_visible byte = nat_le 33 byte && nat_le byte 126

-- the name of a file
abbrev pub is_name : List ℕ → Bool
is_name value = nat_le 1 (length value) && nat_le (length value) MOST_NAME && list_all is_visible value

-- a number of at most 10 digits within these limits
abbrev pub number_within : ℕ → ℕ → List ℕ → Option ℕ
number_within least most value = if nat_le (length value) 10 then result_ok (digits_in least most value) else None

-- what stands before the first such byte, and what stands after it
abbrev pub cut_at : ℕ → List ℕ → Option (List ℕ × List ℕ)
cut_at byte value = option_map (λ place. (take place value, drop (suc place) value)) (position (λ b. b == byte) value)

abbrev pub angle_with : Option ℕ → Option ℕ → Option (ℕ × ℕ)
angle_with (Some a) (Some b) = Some (a, b)
angle_with _ _ = None

-- `A/B`
abbrev pub angle_of : List ℕ → Option (ℕ × ℕ)
angle_of value =
    option_and_then
    (λ parts. angle_with (number_within 0 1024 parts.0) (number_within 1 1024 parts.1)) (cut_at 47 value)

abbrev pub division_with : Option ℕ → Option ℕ → Option ℕ → Option Division
division_with (Some nx) (Some ny) (Some nz) =
    if nat_le (nx * ny * nz) MOST_RANKS then Some (record { nx = nx; ny = ny; nz = nz }) else None
division_with _ _ _ = None

abbrev pub slabs : List ℕ → Option ℕ
slabs = number_within 1 MOST_RANKS

-- `AxBxC`
abbrev pub division_of : List ℕ → Option Division
division_of value =
    option_and_then (λ first.
    option_and_then (λ second. division_with (slabs first.0) (slabs second.0) (slabs second.1))
    (cut_at 120 first.1)) (cut_at 120 value)

abbrev pub edge_of : List ℕ → Option Edge
edge_of value =
    if bytes_eq value (codes "open") then Some Open
    else (if bytes_eq value (codes "periodic") then Some Periodic else None)
