-- What a script is typed to be, of its parts.
use Rattle.std.proofs.Common.{◌≡◌, ℕ, ◌≤◌, true, List, Option, Some, None, Ok, Err, All, length, sym, ap, ap₂, ◌∙◌, subst}
use Rattle.std.specs.List.{list_all}
use Rattle.std.proofs.lemmas.List.{length-map}
use Rattle.std.proofs.lemmas.Option.{slice_get_within, get_or_from_slice_get}
use Rattle.vtl_values.specs.Structures.{NamedStructures}
use Rattle.vtl_syntax.specs.declared.script.Script as tree
use Rattle.vtl_syntax.specs.declared.script.Statement.{Statement}
use Rattle.shortest_cycles.specs.Paths.{Graph}
use Rattle.script_graph.specs.Scopes.{names_of}
use Rattle.script_graph.specs.Faults.{graph_of, uses_in, IsStop as IsGraphStop}
use Rattle.script_graph.specs.Orders.{IsOrder as IsGraphOrder, order_of}
use Rattle.script_graph.specs.declared.fault.GraphStop.{GraphStop}
use Rattle.script_graph.specs.declared.fault.GraphStop.TheVariants as graph
use Rattle.scalar_trees.specs.declared.typing.stop.Refusal.{Refusal}
use Rattle.data_set_trees.specs.declared.operand.Operand.TheVariants as operand
use Rattle.data_set_trees.specs.declared.checked.script.CheckedStatement.{CheckedStatement}
use Rattle.data_set_trees.specs.checked.Scripts.{Script, IsTypedScript}
use Rattle.literal_ranges.specs.Ranges.{literals_in_range, ruleset_in_range}
use Rattle.fitting_trees.proofs.Expressions.{typed-fits}
use Rattle.script_typing.specs.declared.state.State.{State}
use Rattle.script_typing.specs.Stops.{of_graph}
use Rattle.script_typing.specs.Scripts.{states_after, first_refusal, checked_in, unless_refused, statements_typed, IsStop}
use Rattle.script_typing.proofs.Fitting.{TypingFits, AreInRange, fits_all}

law : TypingFits
law structures among naming e d names rules ranged h = typed-fits structures among naming names rules e ranged (operand.DataSet d) h

-- a stop of the graph
pub graph_stopped : (inputs : NamedStructures) (script : tree.Script) (stop : GraphStop) → IsGraphStop script inputs stop → IsStop inputs script (of_graph stop)
graph_stopped inputs script (graph.Fault placed) h = h
graph_stopped inputs script graph.Memory h = tt

in_range : (ts : List Statement) → All (λ (t : Statement). literals_in_range t.expr ≡ true) ts → AreInRange ts
in_range ts all k t at = subst (λ (u : Statement). literals_in_range u.expr ≡ true) (get_or_from_slice_get ts k t t at) (all k t (slice_get_within ts k t at))

abbrev pub made : NamedStructures → List CheckedStatement → List ℕ → Script
made inputs statements order = record { inputs = inputs; statements = statements; order = order }

module _ (inputs : NamedStructures) (script : tree.Script) (g : Graph) (order : List ℕ) (states : List State) (gs : g ≡ graph_of script inputs) (ss : states ≡ states_after inputs script.rulesets g script.statements order) where
  module _ (os : order ≡ order_of (graph_of script inputs)) where
    same : states ≡ states_after inputs script.rulesets (graph_of script inputs) script.statements (order_of (graph_of script inputs))
    same = ss ∙ ap₂ (λ (h : Graph) (o : List ℕ). states_after inputs script.rulesets h script.statements o) gs os

    pub typed_ok : (typed : List CheckedStatement) (s : Script) → first_refusal states ≡ None → typed ≡ checked_in states → s ≡ made inputs typed order → statements_typed inputs script ≡ Ok s
    typed_ok typed s none ts is =
        ap₂ unless_refused (ap first_refusal (sym same) ∙ none) (ap₂ (made inputs) (ap checked_in (sym same) ∙ sym ts) (sym os))
        ∙ ap Ok (sym is)

    pub typed_err : (r : Refusal) → first_refusal states ≡ Some r → statements_typed inputs script ≡ Err r
    typed_err r some =
        ap (λ (o : Option Refusal). unless_refused o (made inputs (checked_in (states_after inputs script.rulesets (graph_of script inputs) script.statements (order_of (graph_of script inputs)))) (order_of (graph_of script inputs)))) (ap first_refusal (sym same) ∙ some)

  pub owed : (typed : List CheckedStatement) → IsGraphOrder (graph_of script inputs) order → first_refusal states ≡ None → typed ≡ checked_in states → length script.statements ≤ 256 → All (λ (t : Statement). literals_in_range t.expr ≡ true) script.statements → list_all ruleset_in_range script.rulesets ≡ true → IsTypedScript (made inputs typed order)
  owed typed o none ts few ranges rules =
      let same : states ≡ states_after inputs script.rulesets (graph_of script inputs) script.statements order = ss ∙ ap (λ (h : Graph). states_after inputs script.rulesets h script.statements order) gs in
      let long : length (graph_of script inputs) ≡ length script.statements = length-map script.statements (uses_in (names_of script inputs)) in
      subst (λ (xs : List CheckedStatement). IsTypedScript (made inputs xs order)) (ap checked_in (sym same) ∙ sym ts)
      (fits_all law inputs script.rulesets (graph_of script inputs) script.statements order o long few (in_range script.statements ranges) rules (ap first_refusal (sym same) ∙ none))
