use Rattle.std.proofs.Common.{◌<◌, List, length, get_or, sym, subst}
use Rattle.std.specs.List.{All}
use Rattle.vtl_values.specs.declared.structure.Component.{Component}
use Rattle.held_index.specs.Holdings.{FitsStructure}
use Rattle.held_index.specs.declared.want.Want.{Want}
use Rattle.inner_joins.specs.Rules.{join_in}
use Rattle.inner_joins.proofs.Wanted.{inner-on, wanted-is, wants-there, wants-fit}
use Rattle.inner_joins.proofs.laws.wants_fit.Goals as goal

pub returns-clause-operand : goal.returns-clause-operand
returns-clause-operand c = λ o typed inner. subst (λ (ws : List Want). All (λ w. w.operand < length o.operands) ws) (sym (wanted-is o inner)) (wants-there (join_in o) (inner-on o typed inner))

pub returns-clause-fit : goal.returns-clause-fit
returns-clause-fit c = λ o typed inner. subst (λ (ws : List Want). All (λ w. (s : List Component) → FitsStructure w (get_or o.operands w.operand s)) ws) (sym (wanted-is o inner)) (wants-fit (join_in o) (inner-on o typed inner))
