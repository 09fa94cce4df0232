use Rattle.top_call.proofs.InputLemmas.{is_text, name_is_text}
use Rattle.top_call.proofs.inputs.file_name.Goals as goal

pub unwrap-requires : goal.unwrap-requires
unwrap-requires c =
    let cases = rw c.as_bytes.ensures at c.from_utf8.ensures.cases in
    is_text _ c.args.name.now c.from_utf8.result (name_is_text c.args.name.now c.requires) cases
