-- The laws of calls that are replaced.
use Rattle.std.specs.Prelude.{◌≡◌, ◌↔◌, ℕ, suc, ◌+◌, List, Some, None, map, length, find}
use Rattle.vtl_values.specs.declared.place.Place.{Place}
use Rattle.vtl_syntax.specs.declared.expr.Expr.{Expr}
use Rattle.vtl_syntax.specs.declared.operator.DefinedOperator.{DefinedOperator}
use Rattle.operator_faults.specs.declared.calls.CallFault.TheVariants.{Unknown}
use Rattle.operator_faults.specs.Calls.{operator_of, sites, is_wrong}
use Rattle.shortest_cycles.specs.Paths.{Graph, HasNoCycle}
use Rattle.shortest_cycles.specs.Cycles.{first_cycle}
use Rattle.operator_faults.specs.Outlines.{outlined}
use Rattle.operator_faults.specs.Recursions.{graph_of, recursion}
use Rattle.operator_faults.specs.Sketches.{of_operator}
use Rattle.replaced_calls.specs.Replacing.{opened, sorted, written}
use Rattle.replaced_calls.specs.Scripts.{sorted_operators}
use Rattle.replaced_calls.specs.Steps.{IsChain, IsWithoutCalls}

-- so many calls inside each other, and then so many more, are as many as both numbers together
abbrev pub WritingsAdd : Type 0
WritingsAdd = (operators : List DefinedOperator) (m n : ℕ) (e : Expr) → written operators n (written operators m e) ≡ written operators (m + n) e

-- what a call becomes is the same with one more inside each other
abbrev pub IsEnough : List DefinedOperator → ℕ → Type 0
IsEnough operators n = (w : List ℕ) (as' : List Expr) (p : Place) → opened operators (suc n) w as' p ≡ opened operators n w as' p

-- where the calls of an expression are replaced one after the other until none is left, the last one is what is written
abbrev pub OrdersAgree : Type 0
OrdersAgree = (operators : List DefinedOperator) (n : ℕ) → IsEnough operators n → (first : Expr) (later : List Expr) (last : Expr) → IsChain operators first later last → IsWithoutCalls last → last ≡ written operators n first

-- which operator calls which
abbrev pub graph : List DefinedOperator → Graph
graph operators = graph_of operators (map of_operator operators)

-- no recursion is told exactly where no operator reaches its own call
abbrev pub RecursionIsExact : Type 0
RecursionIsExact = (operators : List DefinedOperator) → (recursion operators (map of_operator operators) ≡ None) ↔ HasNoCycle (graph operators)

-- where no operator reaches its own call, as many calls inside each other as there are operators are enough
abbrev pub OperatorsEnd : Type 0
OperatorsEnd = (operators : List DefinedOperator) → first_cycle (graph operators) ≡ None → IsEnough (sorted_operators operators) (length operators)

-- each call in the expression is of an operator
abbrev pub AllKnown : List DefinedOperator → Expr → Type 0
AllKnown operators e = find (is_wrong Unknown operators) (sites (outlined e)) ≡ None

-- then no call is left, where the calls in bodies are of operators too
abbrev pub NoneLeft : Type 0
NoneLeft = (operators : List DefinedOperator) → first_cycle (graph operators) ≡ None → ((w : List ℕ) (o : DefinedOperator) → operator_of operators w ≡ Some o → AllKnown operators o.body)
    → (e : Expr) → AllKnown operators e → IsWithoutCalls (written (sorted_operators operators) (length operators) (sorted operators e))

-- an expression's calls can be replaced one after the other, to what is written of it
abbrev pub ChainsExist : Type 0
ChainsExist = (operators : List DefinedOperator) (n : ℕ) (e : Expr) → (later : List Expr) × IsChain operators e later (written operators n e)
