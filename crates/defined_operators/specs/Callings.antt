-- What a writer makes of calls.
use Rattle.std.specs.Prelude.{ℕ, List}
use Rattle.vtl_syntax.specs.declared.operator.DefinedOperator.{DefinedOperator}
use Rattle.tree_copies.specs.Made.{Calls, same_call}
use Rattle.replaced_calls.specs.Replacing.{sorted_call, opened}
use Rattle.defined_operators.specs.declared.calling.Calling.{Calling}
use Rattle.defined_operators.specs.declared.calling.Calling.TheVariants as calling
use Rattle.defined_operators.specs.Uses.{uses_of, kept_call}

-- so many calls are replaced inside each other where arguments are used
abbrev pub level : Calling → ℕ
level calling.Sorted = 0
level (calling.Kept n) = n
level (calling.Opened n) = n

abbrev pub called : Calling → List DefinedOperator → Calls
called calling.Sorted operators = sorted_call operators
called (calling.Kept n) operators = kept_call operators (uses_of operators n)
called (calling.Opened n) operators = opened operators n

-- what a call becomes whose arguments that aren't used are left out already
abbrev pub becomes : Calling → List DefinedOperator → Calls
becomes calling.Sorted operators = sorted_call operators
becomes (calling.Kept n) operators = same_call
becomes (calling.Opened n) operators = opened operators n
