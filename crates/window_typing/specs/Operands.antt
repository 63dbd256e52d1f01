-- What an operator in `calc` is taken of.
use Rattle.std.specs.Prelude.{List, [], ◌∷◌, Result, Ok}
use Rattle.vtl_values.specs.declared.kind.Kind.{Kind}
use Rattle.vtl_values.specs.declared.place.Place.{Place}
use Rattle.vtl_syntax.specs.declared.expr.Expr.{Expr}
use Rattle.vtl_syntax.specs.declared.expr.Over.{Over}
use Rattle.scalar_trees.specs.declared.typing.scope.Basis.TheVariants.{Point}
use Rattle.scalar_trees.specs.declared.typing.stop.Fault.TheVariants.{UnknownComponent, WrongStructure}
use Rattle.scalar_trees.specs.declared.typing.stop.Refusal.{Refusal}
use Rattle.scalar_trees.specs.declared.typing.typed.Typed.{Typed}
use Rattle.scalar_trees.specs.typing.Scalars.{joint, typed}
use Rattle.scalar_trees.specs.typing.Steps.{◌>>=◌, or_refused}
use Rattle.data_set_trees.specs.declared.clauses.frame.Frame.{Frame}
use Rattle.data_set_trees.specs.clauses.Clauses.{demands}
use Rattle.data_set_trees.specs.clauses.Frames.{scope_of_frame}
use Rattle.data_set_trees.specs.windows.Parts.{knows}
use Rattle.data_set_trees.specs.windows.Windows.{bare_component}
use Rattle.window_typing.specs.declared.operands.Operand.{Operand}
use Rattle.window_typing.specs.declared.operands.Taken.{Taken}

-- what is asked of a typed operand
abbrev pub operand_of : Expr → Typed → Operand
operand_of a t = record { kind = t.kind; component = bare_component a t }

abbrev pub operand_typed : Frame → Expr → Result Operand Refusal
operand_typed frame a = typed (scope_of_frame frame) Point a >>= (λ t. Ok (operand_of a t))

-- the component that it is, once the names of `over` are known and the kind fits
abbrev pub component_of : Place → Frame → Over → List Kind → Operand → Result Taken Refusal
component_of place frame over takes o =
    demands place ((knows frame over, UnknownComponent) ∷ [])
    >>= (λ known. joint place takes (o.kind ∷ [])
    >>= (λ kind. or_refused o.component WrongStructure place
    >>= (λ number. Ok (record { kind = kind; component = number }))))

abbrev pub component_taken : Place → Frame → Over → List Kind → Expr → Result Taken Refusal
component_taken place frame over takes a = operand_typed frame a >>= component_of place frame over takes
