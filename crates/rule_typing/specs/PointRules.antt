-- A rule of a datapoint ruleset, from its parts.
use Rattle.std.specs.Prelude.{ℕ, List, Option, Result, Ok, Err}
use Rattle.scalar_trees.specs.declared.tree.CheckedExpr.{CheckedExpr}
use Rattle.scalar_trees.specs.declared.typing.stop.Fault.{Fault}
use Rattle.data_set_trees.specs.declared.rules.rules.PointRule.{PointRule}
use Rattle.data_set_trees.specs.declared.rules.rules.RuleError.{RuleError}
use Rattle.rule_typing.specs.Faults.{first_of}

-- the rule, or the first of its faults
abbrev pub point_rule : List ℕ → RuleError → Result (Option CheckedExpr) Fault → Result CheckedExpr Fault → Result PointRule Fault
point_rule name error (Ok condition) (Ok value) = Ok (record { name = name; condition = condition; value = value; error = error })
point_rule name error (Ok condition) (Err fault) = Err fault
point_rule name error (Err fault) (Ok value) = Err fault
point_rule name error (Err fault) (Err other) = Err (first_of fault other)
