use Rattle.data_model.proofs.DraftLemmas.{IsRight-right_answer, IsRight-unique}
use Rattle.data_model.proofs.laws.right_answer_is_unique.Goals as goal

pub returns-clause-exists : goal.returns-clause-exists
returns-clause-exists g c = λ same p x test. IsRight-right_answer g.met.K.Ord.total c.requires.exact same test p x

pub returns-clause-unique : goal.returns-clause-unique
returns-clause-unique g c = IsRight-unique g.met.K.Ord.total c.requires.exact
