-- Calls in the statements and rulesets of a script are replaced, one after the other.
use Rattle.std.specs.Prelude.{◌≡◌, ℕ, List, [], ◌∷◌, Some}
use Rattle.vtl_values.specs.declared.place.Place.{Place}
use Rattle.vtl_syntax.specs.declared.expr.Expr.{Expr}
use Rattle.vtl_syntax.specs.declared.expr.Expr.TheVariants as tree
use Rattle.vtl_syntax.specs.declared.operator.DefinedOperator.{DefinedOperator}
use Rattle.vtl_syntax.specs.declared.script.Script.{Script}
use Rattle.operator_faults.specs.Calls.{operator_of}
use Rattle.tree_copies.specs.Made.{Calls, made, same_name}
use Rattle.replaced_calls.specs.Scripts.{script_with}
use Rattle.replaced_calls.specs.Steps.{body_for, with_put}

-- one script comes from another where a call in it, which stands where a name does in what is round it, is replaced
pub record IsScriptStep (operators : List DefinedOperator) (before after : Script) : Type 0 where
  pub around : Script
  pub hole : List ℕ
  pub name : List ℕ
  pub arguments : List Expr
  pub place : Place
  pub operator : DefinedOperator
  pub found : operator_of operators name ≡ Some operator
  pub call : before ≡ script_with (λ e. with_put e hole (tree.CallOf name arguments place)) operators around
  pub body : after ≡ script_with (λ e. with_put e hole (body_for operator arguments)) operators around

-- from a script to the last of these that come after it
abbrev pub IsScriptChain : List DefinedOperator → Script → List Script → Script → Type 0
IsScriptChain operators first [] last = first ≡ last
IsScriptChain operators first (s ∷ ss) last = IsScriptStep operators first s × IsScriptChain operators s ss last

-- whatever the calls in its statements and rulesets become, the script stays
abbrev pub HasNoCalls : Script → Type 0
HasNoCalls s = (call : Calls) → script_with (made same_name call) s.operators s ≡ s

abbrev pub without_operators : Script → Script
without_operators s = record s { operators = [] }
