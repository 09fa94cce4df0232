-- What the texts of particles keep.
use Rattle.std.specs.Prelude.{◌≡◌, ◌↔◌, ℕ, List, Ok, Err}
use Rattle.std.specs.List.{AllByRecursion}
use Rattle.pf_model.specs.Particle.{Particle, IsParticle}
use Rattle.pf_model.specs.Particles.{AreBodies}
use Rattle.particle_file.specs.FirstFault.{HasFirstParticleFault}
use Rattle.particle_file.specs.declared.fault.PartFault.{PartFault}
use Rattle.particle_file.specs.Printing.{particles_text}
use Rattle.particle_file.specs.Reading.{reading}
use Rattle.particle_file.specs.Spelling.{SpellsText, IsPlain}

-- what a text spells is read from it, so it is one list of particles at most
abbrev pub WhatIsSpelledIsRead : Type 0
WhatIsSpelledIsRead = (text : List ℕ) (ps : List Particle) → SpellsText text ps → reading text ≡ Ok ps

-- what is read is spelled
abbrev pub WhatIsReadIsSpelled : Type 0
WhatIsReadIsSpelled = (text : List ℕ) (ps : List Particle) → reading text ≡ Ok ps → SpellsText text ps

-- a text has a first fault exactly where reading answers it, so it has one at most
abbrev pub FaultsAreFirst : Type 0
FaultsAreFirst = (text : List ℕ) (fault : PartFault) → (reading text ≡ Err fault) ↔ HasFirstParticleFault text fault

-- what is spelled keeps every limit, and has no attributes past c3
abbrev pub WhatIsSpelledIsPlain : Type 0
WhatIsSpelledIsPlain = (text : List ℕ) (ps : List Particle) → SpellsText text ps
    → AllByRecursion IsParticle ps × AllByRecursion IsPlain ps

abbrev pub PrintedParticlesReadBack : Type 0
PrintedParticlesReadBack = (ps : List Particle)
    → AreBodies ps → AllByRecursion IsParticle ps → AllByRecursion IsPlain ps
    → reading (particles_text ps) ≡ Ok ps
