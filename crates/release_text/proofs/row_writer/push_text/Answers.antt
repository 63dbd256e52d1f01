use Rattle.std.proofs.lemmas.Str.{encodes-chars}
use Rattle.release_text.proofs.row_writer.push_text.Goals as goal

pub returns-clause-fields : goal.returns-clause-fields
returns-clause-fields c = rw (encodes-chars c.args.text.now c.utf8.text) (rw (c.as_bytes.ensures.value) at (c.push_field.ensures.fields))
