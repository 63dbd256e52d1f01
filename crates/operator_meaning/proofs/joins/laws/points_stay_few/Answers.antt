use Rattle.operator_meaning.proofs.joins.Counted.{inner-no-more, inner-never, left-as-many, left-never}
use Rattle.operator_meaning.proofs.joins.laws.points_stay_few.Goals as goal

pub returns-clause-no_more : goal.returns-clause-no_more
returns-clause-no_more c = inner-no-more

pub returns-clause-as_many : goal.returns-clause-as_many
returns-clause-as_many c = λ j a sets y typed fit is made. left-as-many j a sets typed is fit y made

pub returns-clause-inner_never : goal.returns-clause-inner_never
returns-clause-inner_never c = inner-never

pub returns-clause-left_never : goal.returns-clause-left_never
returns-clause-left_never c = λ j a sets typed many is. left-never j a sets typed is many
