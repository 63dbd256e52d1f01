use Rattle.operator_meaning.proofs.joins.Counted.{cross-product}
use Rattle.operator_meaning.proofs.joins.laws.points_multiply.Goals as goal

pub returns : goal.returns
returns c = λ j sets y typed fit is. cross-product j sets typed fit is y
