-- The keys of a deck's lines.
use Rattle.std.specs.Prelude.{ℕ, Bool, List, codes}
use Rattle.std.specs.Str.{bytes_eq}
use Rattle.deck_file.specs.declared.keyword.Keyword.{Keyword}
use Rattle.deck_file.specs.declared.keyword.Keyword.TheVariants as keys

abbrev pub keyword_text : Keyword → List ℕ
keyword_text keys.Kernel = codes "kernel"
keyword_text keys.Particles = codes "particles"
keyword_text keys.Out = codes "out"
keyword_text keys.Grid = codes "grid"
keyword_text keys.Theta = codes "theta"
keyword_text keys.Group = codes "group"
keyword_text keys.Steps = codes "steps"
keyword_text keys.Dt = codes "dt"
keyword_text keys.Reuse = codes "reuse"
keyword_text keys.Box = codes "box"

abbrev pub is_same : Keyword → Keyword → Bool
is_same key other = bytes_eq (keyword_text key) (keyword_text other)
