use Rattle.std.proofs.Common.{◌≡◌, ℕ, true, List, None, All, sym, ap, ◌∙◌, subst}
use Rattle.std.specs.List.{list_all}
use Rattle.vtl_syntax.specs.declared.script.Statement.{Statement}
use Rattle.script_graph.specs.Faults.{graph_of}
use Rattle.script_graph.specs.Orders.{IsOrder}
use Rattle.data_set_trees.specs.checked.Scripts.{IsTypedScript}
use Rattle.vtl_syntax.specs.declared.ruleset.Ruleset.{Ruleset}
use Rattle.literal_ranges.specs.Ranges.{literals_in_range, ruleset_in_range}
use Rattle.script_typing.specs.Scripts.{states_after, first_refusal, checked_in}
use Rattle.script_typing.proofs.Results.{made, owed}
use Rattle.script_typing.proofs.script.typed_in_order.Goals as goal

pub of-requires : goal.of-requires
of-requires c =
    let inputs = c.args.structures in
    let script = c.args.script in
    let g = graph_of script inputs in
    let ts = script.statements in
    let uses = c.args.ordered.uses in
    let order = c.args.ordered.order.items in
    let states = c.in_ok-states.states in
    let ordered : IsOrder g order = c.requires.order in
    let graph : uses ≡ g = c.requires.uses in
    let same : c.from_vec.result ≡ order = c.from_vec.ensures in
    let ranges : All (λ (t : Statement). literals_in_range t.expr ≡ true) ts = subst (All (λ (t : Statement). literals_in_range t.expr ≡ true)) c.as_slice.ensures c.see_statements.ensures in
    let rules : list_all ruleset_in_range script.rulesets ≡ true = subst (λ (rs : List Ruleset). list_all ruleset_in_range rs ≡ true) c.as_slice-2.ensures c.see_rulesets.ensures in
    let come : states ≡ states_after inputs script.rulesets uses ts order =
    c.in_ok-states.ensures {u = tt} ∙ (λ k. states_after inputs (c.as_slice-3.ensures k) (c.as_slice-4.ensures k) ts (c.as_slice-5.ensures.value k)) in
    let none : first_refusal states ≡ None = ap first_refusal (sym c.as_slice-6.ensures) ∙ sym c.first_refusal.ensures ∙ c.in_default.is in
    let typed : c.in_ok-typed.typed ≡ checked_in states = c.in_ok-typed.ensures {u = tt} in
    subst (λ (o : List ℕ). IsTypedScript (made inputs c.in_ok-typed.typed o)) (sym same)
    (owed inputs script uses order states graph come c.in_ok-typed.typed ordered none typed c.requires.few ranges rules)
