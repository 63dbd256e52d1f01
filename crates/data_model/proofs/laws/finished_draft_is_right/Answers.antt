use Rattle.std.proofs.Common.{refl}
use Rattle.std.specs.FinMap.{len}
use Rattle.data_model.proofs.DraftLemmas.{IsRight-finished}
use Rattle.data_model.proofs.laws.finished_draft_is_right.Goals as goal

pub returns : goal.returns
returns g c = λ old_beyond beyond es old new ks n x p was is same. IsRight-finished g.met.K.Ord.total c.requires.exact old_beyond beyond old new x was p is es ks same (len x) n refl
