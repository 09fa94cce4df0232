-- The ranges of names at the start of any pair of these particles: of one of them anywhere, and of the item that
-- some of them are.
use Rattle.std.specs.Prelude.{ℕ, ◌+◌, ◌-◌, ◌^◌, Bool, ◌&&◌, ℤ, pos, neg_ℤ, ◌*ℤ◌, List, [], ◌∷◌, length, map, Option, Some, None, Ok}
use Rattle.std.specs.Int.{int_min, int_max}
use Rattle.kern_tree.specs.declared.kernel.Decl.{Decl}
use Rattle.kern_tree.specs.declared.kernel.DeclKind.{DeclKind}
use Rattle.kern_tree.specs.declared.kernel.DeclKind.TheVariants as declared_as
use Rattle.kern_tree.specs.declared.kernel.Kind.{Kind}
use Rattle.kern_tree.specs.declared.kernel.Kind.TheVariants as kinds
use Rattle.kern_types.specs.Names.{declaration}
use Rattle.pf_model.specs.declared.field.Field.{Field}
use Rattle.pf_model.specs.declared.field.Field.TheVariants as fields
use Rattle.pf_model.specs.Fields.{field_of_particle, along_each_axis}
use Rattle.pf_model.specs.Particle.{Particle}
pub use Rattle.kern_meaning.specs.Names.{field_named, particle_has, source_has, fits}
use Rattle.kern_meaning.specs.Values.{x_of}
use Rattle.kern_range.specs.declared.interval.Interval.{Interval}
use Rattle.kern_range.specs.declared.range.Range.{Range}
use Rattle.kern_range.specs.declared.range.Range.TheVariants.{Num}
use Rattle.kern_range.specs.Intervals.{OrBad, bad, narrow, hull}
use Rattle.kern_range.specs.Nodes.{Known}
use Rattle.kern_range.specs.Operators.{only_if, num, vec_of}

-- a coordinate, of a particle or of a centre
abbrev pub coordinates : Interval
coordinates = record { least = pos 0; greatest = pos (2 ^ 30 - 1) }

-- a component of a velocity
abbrev pub velocities : Interval
velocities = record { least = neg_ℤ (pos (2 ^ 47)); greatest = pos (2 ^ 47) }

-- a field that is a number
abbrev pub number_of_particle : Field → Particle → ℤ
number_of_particle of p = x_of (along_each_axis (field_of_particle of p))

abbrev pub range_of_kind : Kind → ℕ → OrBad Interval → OrBad Range
range_of_kind kinds.Num scale a = num scale a
range_of_kind kinds.Vec3 scale a = vec_of scale a a a

-- a variable of this kind and scale of a field, by who has it
abbrev pub variable_range : Kind → ℕ → (Field → Bool) → (Field → Interval) → Option Field → OrBad Range
variable_range kind scale has interval None = bad
variable_range kind scale has interval (Some of) =
    only_if (has of && fits kind scale of) (range_of_kind kind scale (narrow (interval of)))

-- the sum of some of so many numbers, as few as one and as many as all
abbrev pub sum_interval_of : ℕ → Interval → Interval
sum_interval_of count a = record {
  least = int_min a.least (pos count *ℤ a.least);
  greatest = int_max a.greatest (pos count *ℤ a.greatest);
}

-- For these particles, of which there is at least one.
module _ (first : Particle) (others : List Particle) where
  -- how many they are
  abbrev pub count : ℕ
  count = length others + 1

  -- from the least to the greatest of the particles
  abbrev pub of_particles : Field → Interval
  of_particles of = hull (number_of_particle of first) (map (number_of_particle of) others)

  -- the field of the particle
  abbrev pub particle_interval : Field → Interval
  particle_interval fields.Pos = coordinates
  particle_interval fields.Vel = velocities
  particle_interval of = of_particles of

  -- the field of the item
  abbrev pub source_interval : Field → Interval
  source_interval fields.Pos = coordinates
  source_interval fields.Vel = velocities
  source_interval fields.Count = record { least = pos 1; greatest = pos count }
  source_interval of = sum_interval_of count (of_particles of)

  abbrev pub declared_range : DeclKind → OrBad Range
  declared_range (declared_as.Epi kind scale field) =
      variable_range kind scale particle_has particle_interval (field_named field)
  declared_range (declared_as.Epj kind scale field) =
      variable_range kind scale source_has source_interval (field_named field)
  declared_range (declared_as.Param scale mantissa) = Ok (Num (record { least = mantissa; greatest = mantissa }) scale)
  declared_range (declared_as.Force kind scale combine) = bad

  abbrev pub range_if_declared : Option Decl → OrBad Range
  range_if_declared None = bad
  range_if_declared (Some decl) = declared_range decl.what

  -- under these declarations
  abbrev pub ranges_at_start : List Decl → Known
  ranges_at_start decls name = range_if_declared (declaration decls name)
