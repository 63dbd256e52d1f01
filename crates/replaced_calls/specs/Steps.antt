-- In whatever order calls are replaced, the written-out tree is the same.
use Rattle.std.specs.Prelude.{◌≡◌, ℕ, List, [], ◌∷◌, Some, if◌then◌else◌}
use Rattle.vtl_values.specs.declared.place.Place.{Place}
use Rattle.vtl_syntax.specs.declared.expr.Expr.{Expr}
use Rattle.vtl_syntax.specs.declared.expr.Expr.TheVariants as tree
use Rattle.vtl_syntax.specs.declared.operator.DefinedOperator.{DefinedOperator}
use Rattle.operator_faults.specs.Names.{same_word}
use Rattle.operator_faults.specs.Calls.{operator_of}
use Rattle.tree_copies.specs.Made.{Names, Calls, made, same_name, same_call}
use Rattle.replaced_calls.specs.Replacing.{bound}

-- ---- one call is replaced

-- the body of an operator, with its parameters replaced by the arguments of a call
abbrev pub body_for : DefinedOperator → List Expr → Expr
body_for o as' = made (bound o.params as') same_call o.body

-- the name becomes the expression, and all else stays
abbrev pub put_in : List ℕ → Expr → Names
put_in hole e w p = if same_word hole w then e else tree.Name w p

-- an expression with something in the place of a name
abbrev pub with_put : Expr → List ℕ → Expr → Expr
with_put around hole e = made (put_in hole e) same_call around

-- one expression comes from another where a call in it, which stands where a name does in what is round it, is replaced
pub record IsStep (operators : List DefinedOperator) (before after : Expr) : Type 0 where
  pub around : Expr
  pub hole : List ℕ
  pub name : List ℕ
  pub arguments : List Expr
  pub place : Place
  pub operator : DefinedOperator
  pub found : operator_of operators name ≡ Some operator
  pub call : before ≡ with_put around hole (tree.CallOf name arguments place)
  pub body : after ≡ with_put around hole (body_for operator arguments)

-- ---- calls are replaced one after the other

-- from an expression to the last of these that come after it
abbrev pub IsChain : List DefinedOperator → Expr → List Expr → Expr → Type 0
IsChain operators first [] last = first ≡ last
IsChain operators first (e ∷ es) last = IsStep operators first e × IsChain operators e es last

-- whatever calls become, the expression stays
abbrev pub IsWithoutCalls : Expr → Type 0
IsWithoutCalls e = (call : Calls) → made same_name call e ≡ e
