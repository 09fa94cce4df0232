use Rattle.std.proofs.Common.{rules, sym, ◌∙◌}
use Rattle.std.proofs.lemmas.Bool.Decides.{same_from_decides}
use denote.Enum.Bare.{same_true, true_same}
use Rattle.deck_file.specs.contracts.keyword.Keyword.{the_type}
use Rattle.deck_file.specs.Keywords.{is_same}
use Rattle.deck_file.proofs.KeywordLemmas.{is_same-Decides}
use Rattle.deck_file.proofs.keyword.is_same.Goals as goal

pub returns : goal.returns
returns c =
    let a = c.args.a in
    let b = c.args.b in
    same_from_decides c.eq.result (is_same a b)
    ((λ t. same_true the_type (search rules) a b (sym c.eq.ensures ∙ t)), λ e. c.eq.ensures ∙ true_same the_type a b e)
    (is_same-Decides a b)
