-- Operands of cases.
use Rattle.std.specs.Prelude.{◌≡◌}
use Rattle.value_cases.specs.declared.held.operand.Operand.{Operand}

-- what is held is the data set, as it is wanted
pub record IsOperand (o : Operand) : Type 0 where
  pub want : o.held.want ≡ o.want
  pub content : o.held.content ≡ o.set
