use Rattle.std.proofs.lemmas.Str.{chars-nil}
use Rattle.revision_judge.proofs.fields.written.Goals as goal

pub returns-in-Empty : goal.returns-in-Empty
returns-in-Empty c = rw c.in-Empty.is chars-nil
