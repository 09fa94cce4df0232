use Rattle.kern_token.specs.Pieces.{is_name_byte}
use Rattle.kern_token.proofs.RunLemmas.{Begins-name, IsNameLike-front, run_inside}
use Rattle.kern_token.proofs.front.name_front.Goals as goal

pub name_kind-requires : goal.name_kind-requires
name_kind-requires c =
    IsNameLike-front c.args.text.now c.name_len-len.result c.name_len-len.ensures c.requires.nonempty c.requires.name

pub returns : goal.returns
returns c = record {
  begins = Begins-name c.args.text.now c.in_ok-kind.kind c.name_len-len.result c.name_len-len.ensures c.requires.nonempty c.requires.name c.in_ok-kind.ensures.token;
  inside = run_inside is_name_byte c.args.text.now c.name_len-len.result c.name_len-len.ensures;
  in_limit = c.in_ok-kind.ensures.in_limit;
}
