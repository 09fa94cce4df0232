use Rattle.std.proofs.Common.{◌≡◌, Ok, Err, sym, ap, ◌∙◌, to_z, of_z, w64, arith, rules}
use Rattle.std.proofs.lemmas.Int.{to_z-of_z}
use Rattle.std.proofs.lemmas.Result.{err_from_is_err_and}
use Rattle.particle_file.specs.Columns.{columns}
use Rattle.particle_file.specs.Reading.{numbers_in}
use Rattle.particle_file.proofs.ReadingLemmas.{after_none, one_column_more, column_fault, all_columns, thirteenth, numbers_in-within}
use Rattle.particle_file.proofs.columns.numbers_in.Goals as goal

pub loop-i-init : goal.loop-i-init
loop-i-init c = record {
  twelve = search rules;
  so_far = ap (λ l. numbers_in l.number 1 columns l.fields) (sym c.line.view_is) ∙ sym (after_none (numbers_in c.line.inside.number 1 columns c.line.inside.fields));
}

pub loop-i-preserved : goal.loop-i-preserved
loop-i-preserved c =
    let kept : to_z w64 (of_z w64 c.in_ok-value.value) ≡ c.in_ok-value.value = to_z-of_z w64 c.in_ok-value.value (search rules) in
    record {
      twelve = search rules;
      so_far =
          rw kept
          (c.loop-i.invariant.so_far ∙ one_column_more _ c.line.inside.number c.loop-i.i c.loop-i.fields c.next_number.new.fields c.loop-i.numbers c.in_ok-value.value c.loop-i.invariant.twelve c.loop-i-test.true c.in_ok-value.ensures.ok);
    }

pub returns-in_err-value-clause-exact : goal.returns-in_err-value-clause-exact
returns-in_err-value-clause-exact c =
    let fault = err_from_is_err_and c.from_residual.result c.from_residual.ensures.1 in
    fault.1 ∙ ap Err fault.2 ∙ sym (c.loop-i.invariant.so_far ∙ column_fault _ c.line.inside.number c.loop-i.i c.loop-i.fields _ c.in_err-value.field-0.0 c.loop-i-test.true c.in_err-value.ensures.err)

all_read : (c : goal.In-None) → numbers_in c.args.line.number 1 columns c.args.line.fields ≡ Ok c.loop-i.numbers
all_read c = c.loop-i.invariant.so_far ∙ all_columns c.line.inside.number c.loop-i.i c.loop-i.fields c.loop-i.numbers c.loop-i.invariant.twelve (omega arith) c.in-None.ensures.0

pub returns-in-None-clause-exact : goal.returns-in-None-clause-exact
returns-in-None-clause-exact c = sym (all_read c)

pub returns-in-None-clause-within : goal.returns-in-None-clause-within
returns-in-None-clause-within c = numbers_in-within c.args.line.number 1 columns c.args.line.fields c.loop-i.numbers c.numbers_are_found.ensures.integers (all_read c)

pub returns-in-Some-clause-exact : goal.returns-in-Some-clause-exact
returns-in-Some-clause-exact c = sym (c.loop-i.invariant.so_far ∙ thirteenth c.line.inside.number c.loop-i.i c.loop-i.fields c.next_field.new.self c.in-Some.field-0.now _ (omega arith) c.in-Some.ensures)
