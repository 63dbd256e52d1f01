-- Trees that are made anew from others, where names and calls of defined operators become something else.
use Rattle.std.specs.Prelude.{ℕ, List}
use Rattle.vtl_values.specs.declared.place.Place.{Place}
use Rattle.vtl_syntax.specs.declared.expr.Expr.{Expr, fold-Expr, roll-Expr}
use Rattle.vtl_syntax.specs.declared.expr.Expr.TheVariants as tree
use Rattle.vtl_syntax.specs.declared.expr.Clause.{Clause, fold-Clause, roll-Clause}
use Rattle.vtl_syntax.specs.declared.expr.Groups.{Groups, fold-Groups, roll-Groups}
use Rattle.vtl_syntax.specs.declared.expr.Item.{Item, fold-Item, roll-Item}
use Rattle.vtl_syntax.specs.declared.expr.JoinOperand.{JoinOperand, fold-JoinOperand, roll-JoinOperand}
use Rattle.vtl_syntax.specs.declared.expr.SubstrRange.{SubstrRange, fold-SubstrRange, roll-SubstrRange}
use Rattle.vtl_syntax.specs.declared.expr.Clause.TheOpen.{Expr-F}

-- what a name at its place becomes
abbrev pub Names : Type 0
Names = List ℕ → Place → Expr

-- what a call at its place becomes, whose arguments are made already
abbrev pub Calls : Type 0
Calls = List ℕ → List Expr → Place → Expr

-- a name that stays
abbrev pub same_name : Names
same_name w p = tree.Name w p

-- a call that stays
abbrev pub same_call : Calls
same_call w arguments p = tree.CallOf w arguments p

-- one level, whose parts are made already
abbrev pub made_step : Names → Calls → Expr-F Clause Expr Groups Item JoinOperand SubstrRange → Expr
made_step name call (Expr-F.Name w p) = name w p
made_step name call (Expr-F.CallOf w arguments p) = call w arguments p
made_step name call x = roll-Expr x

abbrev pub made : Names → Calls → Expr → Expr
made name call = fold-Expr Clause Expr Groups Item JoinOperand SubstrRange roll-Clause (made_step name call) roll-Groups roll-Item roll-JoinOperand roll-SubstrRange

abbrev pub clause_made : Names → Calls → Clause → Clause
clause_made name call = fold-Clause Clause Expr Groups Item JoinOperand SubstrRange roll-Clause (made_step name call) roll-Groups roll-Item roll-JoinOperand roll-SubstrRange

abbrev pub groups_made : Names → Calls → Groups → Groups
groups_made name call = fold-Groups Clause Expr Groups Item JoinOperand SubstrRange roll-Clause (made_step name call) roll-Groups roll-Item roll-JoinOperand roll-SubstrRange

abbrev pub item_made : Names → Calls → Item → Item
item_made name call = fold-Item Clause Expr Groups Item JoinOperand SubstrRange roll-Clause (made_step name call) roll-Groups roll-Item roll-JoinOperand roll-SubstrRange

abbrev pub operand_made : Names → Calls → JoinOperand → JoinOperand
operand_made name call = fold-JoinOperand Clause Expr Groups Item JoinOperand SubstrRange roll-Clause (made_step name call) roll-Groups roll-Item roll-JoinOperand roll-SubstrRange

abbrev pub range_made : Names → Calls → SubstrRange → SubstrRange
range_made name call = fold-SubstrRange Clause Expr Groups Item JoinOperand SubstrRange roll-Clause (made_step name call) roll-Groups roll-Item roll-JoinOperand roll-SubstrRange
