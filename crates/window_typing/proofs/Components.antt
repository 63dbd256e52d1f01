-- An operator in `calc` goes on with the component that it is taken of.
use Rattle.std.proofs.Common.{◌≡◌, refl, ℕ, List, [], ◌∷◌, Option, Some, None, Result, Ok, Err, IfErr, IsErrAnd, ap, sym, ◌∙◌}
use Rattle.vtl_values.specs.declared.kind.Kind.{Kind}
use Rattle.vtl_values.specs.declared.place.Place.{Place}
use Rattle.vtl_syntax.specs.declared.expr.Expr.{Expr}
use Rattle.vtl_syntax.specs.declared.expr.Over.{Over}
use Rattle.scalar_trees.specs.declared.typing.scope.Basis.TheVariants.{Point}
use Rattle.scalar_trees.specs.declared.typing.stop.Fault.TheVariants.{UnknownComponent, WrongStructure}
use Rattle.scalar_trees.specs.declared.typing.stop.Refusal.{Refusal}
use Rattle.scalar_trees.specs.declared.typing.stop.TypeStop.{TypeStop}
use Rattle.scalar_trees.specs.declared.typing.typed.Typed.{Typed}
use Rattle.scalar_trees.specs.typing.Scalars.{joint, typed}
use Rattle.scalar_trees.specs.typing.Steps.{◌>>=◌, or_refused, Refuses}
use Rattle.data_set_trees.specs.declared.clauses.frame.Frame.{Frame}
use Rattle.data_set_trees.specs.clauses.Clauses.{demands}
use Rattle.data_set_trees.specs.clauses.Frames.{scope_of_frame}
use Rattle.operator_typing.proofs.Steps.{passed_on, stops_same, stops_there}
use Rattle.data_set_trees.specs.declared.windows.analytic.CheckedAnalytic.{CheckedAnalytic}
use Rattle.data_set_trees.specs.windows.Parts.{knows}
use Rattle.data_set_trees.specs.windows.Windows.{Answer, bare_component, of_component}
use Rattle.window_typing.specs.declared.operands.Operand.{Operand}
use Rattle.window_typing.specs.declared.operands.Taken.{Taken}
use Rattle.window_typing.specs.Operands.{component_of, component_taken, operand_of}

module _ (place : Place) (frame : Frame) (over : Over) (takes : List Kind) (next : Kind → ℕ → Answer) where
  abbrev with_it : Taken → Answer
  with_it t = next t.kind t.component

  by_number : (o : Option ℕ) (kind : Kind) → ((or_refused o WrongStructure place >>= (λ number. Ok (record { kind = kind; component = number }))) >>= with_it) ≡ (or_refused o WrongStructure place >>= next kind)
  by_number (Some number) kind = refl
  by_number None kind = refl

  by_kind : (r : Result Kind Refusal) (o : Option ℕ)
      → ((r >>= (λ kind. or_refused o WrongStructure place >>= (λ number. Ok (record { kind = kind; component = number })))) >>= with_it) ≡ (r >>= (λ kind. or_refused o WrongStructure place >>= next kind))
  by_kind (Ok kind) o = by_number o kind
  by_kind (Err refusal) o = refl

  by_known : (r : Result (Unit {0}) Refusal) (o : Operand)
      → ((r >>= (λ known. joint place takes (o.kind ∷ []) >>= (λ kind. or_refused o.component WrongStructure place >>= (λ number. Ok (record { kind = kind; component = number }))))) >>= with_it)
      ≡ (r >>= (λ known. joint place takes (o.kind ∷ []) >>= (λ kind. or_refused o.component WrongStructure place >>= next kind)))
  by_known (Ok known) o = by_kind (joint place takes (o.kind ∷ [])) o.component
  by_known (Err refusal) o = refl

  by_typed : (r : Result Typed Refusal) (a : Expr)
      → (((r >>= (λ t. Ok (operand_of a t))) >>= component_of place frame over takes) >>= with_it)
      ≡ (r >>= (λ t. demands place ((knows frame over, UnknownComponent) ∷ []) >>= (λ known. joint place takes (t.kind ∷ []) >>= (λ kind. or_refused (bare_component a t) WrongStructure place >>= next kind))))
  by_typed (Ok t) a = by_known (demands place ((knows frame over, UnknownComponent) ∷ [])) (operand_of a t)
  by_typed (Err refusal) a = refl

  all_steps : (a : Expr) → (component_taken place frame over takes a >>= with_it) ≡ of_component place frame over takes a next
  all_steps a = by_typed (typed (scope_of_frame frame) Point a) a

  module _ (given : List Kind) (same : given ≡ takes) (a : Expr) where
    same_taken : component_taken place frame over given a ≡ component_taken place frame over takes a
    same_taken = ap (λ (ks : List Kind). component_taken place frame over ks a) same

    -- where there is one
    pub goes_on_with : (t : Taken) → component_taken place frame over given a ≡ Ok t → next t.kind t.component ≡ of_component place frame over takes a next
    goes_on_with t is = ap (λ (q : Result Taken Refusal). q >>= with_it) (sym is ∙ same_taken) ∙ all_steps a

    -- and where there is none
    pub stops_without : (answer : Result (Kind × CheckedAnalytic) TypeStop) (stop : TypeStop) → Refuses (component_taken place frame over given a) stop → IsErrAnd answer (λ told. told ≡ stop)
        → IfErr answer (Refuses (of_component place frame over takes a next))
    stops_without answer stop refuses told =
        let refused : Refuses (component_taken place frame over takes a) stop = stops_same (component_taken place frame over given a) (component_taken place frame over takes a) stop same_taken refuses in
        passed_on (of_component place frame over takes a next) answer stop
        (stops_same (component_taken place frame over takes a >>= with_it) (of_component place frame over takes a next) stop (all_steps a) (stops_there (component_taken place frame over takes a) with_it stop refused)) told
