-- A rule of a datapoint ruleset, from what its expressions are checked to be.
use Rattle.std.proofs.Common.{◌≡◌, ℕ, List, [], ◌∷◌, ◌++◌, Option, Result, Ok, Err, sym, ◌∙◌}
use Rattle.std.specs.Result.{result_err}
use Rattle.scalar_trees.specs.declared.tree.CheckedExpr.{CheckedExpr}
use Rattle.scalar_trees.specs.declared.typing.stop.Fault.{Fault}
use Rattle.scalar_trees.specs.declared.typing.stop.Refusal.{Refusal}
use Rattle.data_set_trees.specs.declared.rules.rules.RuleError.{RuleError}
use Rattle.data_set_trees.specs.rules.Rules.{fault_in, first_fault}
use Rattle.rule_typing.specs.Faults.{Tells, earlier}
use Rattle.rule_typing.specs.PointRules.{point_rule}
use Rattle.rule_typing.proofs.FirstFaults.{first_fault-append, first_fault-single}

module _ (name : List ℕ) (error : RuleError) where
  pub rule_told : (m : Result (Option CheckedExpr) Refusal) (n : Result CheckedExpr Refusal) (condition : Result (Option CheckedExpr) Fault) (value : Result CheckedExpr Fault) → Tells m condition → Tells n value → result_err (point_rule name error condition value) ≡ first_fault (fault_in m ++ fault_in n)
  rule_told m n (Ok condition) (Ok value) first second = sym (λ i. first_fault (fault_in (first i) ++ fault_in (second i)))
  rule_told m n (Ok condition) (Err fault) first second = sym (first_fault-single fault) ∙ sym (λ i. first_fault (fault_in (first i) ++ second i))
  rule_told m n (Err fault) (Ok value) first second = sym (first_fault-single fault) ∙ sym (λ i. first_fault (first i ++ fault_in (second i)))
  rule_told m n (Err fault) (Err further) first second =
      sym (first_fault-append (fault ∷ []) (further ∷ []) ∙ (λ i. earlier (first_fault-single fault i) (first_fault-single further i))) ∙ sym (λ i. first_fault (first i ++ second i))
