-- What a declaration was read as.
use Rattle.std.specs.Prelude.{◌≡◌, ◌<◌, ◌≤◌, List, [], ◌∷◌, length, Option, Some, None}
use Rattle.kern_token.specs.declared.token.TokenKind.{TokenKind}
use Rattle.kern_token.specs.declared.token.TokenKind.TheVariants as kinds
use Rattle.kern_token.specs.declared.token.Word.{Word}
use Rattle.kern_token.specs.declared.token.Word.TheVariants as words
use Rattle.kern_tree.specs.declared.kernel.Combine.{Combine}
use Rattle.kern_tree.specs.declared.kernel.Combine.TheVariants as combines
use Rattle.kern_tree.specs.declared.kernel.Decl.{Decl}
use Rattle.kern_tree.specs.declared.kernel.Kind.{Kind}
use Rattle.kern_tree.specs.declared.kernel.Kind.TheVariants as kinds_of
use Rattle.kern_tree.specs.Grammar.{decl}
use Rattle.kern_tree.specs.Rules.{many}
use Rattle.kern_parse.specs.declared.declaration.Side.TheVariants as sides
use Rattle.kern_parse.specs.declared.declaration.Start.{Start}
use Rattle.kern_parse.specs.declared.declaration.Start.TheVariants as starts
use Rattle.kern_parse.specs.inner.Leading.{Leads}
use Rattle.kern_parse.specs.inner.Reading.{Reading}
use Rattle.kern_parse.specs.Required.{Part}

abbrev pub start_word : Word → Option Start
start_word words.Epi = Some (starts.Field sides.Epi)
start_word words.Epj = Some (starts.Field sides.Epj)
start_word words.Force = Some starts.Force
start_word words.Param = Some starts.Constant
start_word _ = None

abbrev pub start_of : Option TokenKind → Option Start
start_of (Some (kinds.Word word)) = start_word word
start_of _ = None

-- the word that tells it
abbrev pub word_of : Start → Word
word_of (starts.Field sides.Epi) = words.Epi
word_of (starts.Field sides.Epj) = words.Epj
word_of starts.Force = words.Force
word_of starts.Constant = words.Param

abbrev pub kind_word : Word → Option Kind
kind_word words.Num = Some kinds_of.Num
kind_word words.Vec = Some kinds_of.Vec3
kind_word _ = None

abbrev pub kind_of : Option TokenKind → Option Kind
kind_of (Some (kinds.Word word)) = kind_word word
kind_of _ = None

abbrev pub combine_word : Word → Option Combine
combine_word words.Sum = Some combines.Sum
combine_word words.Max = Some combines.Max
combine_word words.Min = Some combines.Min
combine_word _ = None

abbrev pub combine_of : Option TokenKind → Option Combine
combine_of (Some (kinds.Word word)) = combine_word word
combine_of _ = None

-- a declaration was read, and others may follow
pub record ReadsDecl (old : Reading) (read : Decl) (new : Reading) : Type 0 where
  pub spelled : decl old.rest read new.rest
  pub leads : Leads (Part.Decls ∷ []) old (Part.Decls ∷ []) new
  pub depth : new.depth ≡ old.depth
  pub shorter : length new.rest < length old.rest

-- declarations were read, and others may follow
pub record Declares (old : Reading) (decls : List Decl) (now : Reading) : Type 0 where
  pub spelled : many decl old.rest decls now.rest
  pub leads : Leads (Part.Decls ∷ []) old (Part.Decls ∷ []) now
  pub depth : now.depth ≡ old.depth
  pub shorter : length now.rest ≤ length old.rest
