use Rattle.std.specs.Char.{is_ascii_digit}
use Rattle.std.proofs.Common.{refl}
use Rattle.kern_token.proofs.RunLemmas.{Begins-digits, run_inside, IsNumeral-front}
use Rattle.kern_token.proofs.front.number_front.Goals as goal

pub number_of-requires : goal.number_of-requires
number_of-requires c =
    (IsNumeral-front c.args.text.now c.digits_len-len.result c.digits_len-len.ensures c.requires.nonempty c.requires.digit).1

pub returns-in-Some-clause-ok : goal.returns-in-Some-clause-ok
returns-in-Some-clause-ok c =
    let numeral = IsNumeral-front c.args.text.now c.digits_len-len.result c.digits_len-len.ensures c.requires.nonempty c.requires.digit in
    record {
      begins = Begins-digits c.args.text.now _ c.digits_len-len.result c.digits_len-len.ensures c.requires.nonempty c.requires.digit (numeral, c.in-Some.ensures.1);
      inside = run_inside is_ascii_digit c.args.text.now c.digits_len-len.result c.digits_len-len.ensures;
      in_limit = c.in-Some.ensures.0;
    }

pub returns-in-None-clause-err : goal.returns-in-None-clause-err
returns-in-None-clause-err c =
    let numeral = IsNumeral-front c.args.text.now c.digits_len-len.result c.digits_len-len.ensures c.requires.nonempty c.requires.digit in (
      refl,
      record {
        number = _;
        bytes = _;
        rest = _;
        begins = Begins-digits c.args.text.now _ c.digits_len-len.result c.digits_len-len.ensures c.requires.nonempty c.requires.digit (numeral, refl);
        too_large = c.in-None.ensures;
      },
    )
