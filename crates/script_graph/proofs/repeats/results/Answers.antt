use Rattle.std.proofs.Common.{◌≡◌, ℕ, List, [], ◌++◌, map, refl, sym, ap, ◌∙◌}
use Rattle.std.specs.Map.{keys_of}
use Rattle.vtl_syntax.specs.declared.script.Statement.{Statement}
use Rattle.script_graph.specs.Words.{ruleset_name, ruleset_place}
use Rattle.script_graph.specs.Faults.{repeated, result_repeated}
use Rattle.script_graph.proofs.RepeatLemmas.{Next, told_here, kept_names, kept_rest}
use Rattle.script_graph.proofs.repeats.results.Goals as goal

pub returns-then-again : goal.returns-then-again
returns-then-again c =
    let next : Next (λ (t : Statement). t.name) (λ (t : Statement). t.place) (keys_of c.args.structures.now) c.loop-statement.names c.args.statements.now c.loop-statement.statement-index c.statement-item.result c.in_ok-again.again (result_repeated c.args.structures.now c.args.statements.now) = record {
      within = c.loop-statement-test.true;
      item = c.statement-item.is;
      named = c.loop-statement.invariant.0;
      rest = c.loop-statement.invariant.1;
      tells = c.in_ok-again.ensures.again;
    } in
    told_here (λ (t : Statement). t.name) (λ (t : Statement). t.place) (keys_of c.args.structures.now) c.loop-statement.names c.args.statements.now c.loop-statement.statement-index c.statement-item.result c.in_ok-again.again (result_repeated c.args.structures.now c.args.statements.now) (λ (names : List (List ℕ)). names ≡ map (λ (t : Statement). t.name) c.args.statements.now) c.told_at.result next c.if-again.true c.told_at.ensures

pub loop-statement-preserved : goal.loop-statement-preserved
loop-statement-preserved c =
    let next : Next (λ (t : Statement). t.name) (λ (t : Statement). t.place) (keys_of c.args.structures.now) c.loop-statement.names c.args.statements.now c.loop-statement.statement-index c.statement-item.result c.in_ok-again.again (result_repeated c.args.structures.now c.args.statements.now) = record {
      within = c.loop-statement-test.true;
      item = c.statement-item.is;
      named = c.loop-statement.invariant.0;
      rest = c.loop-statement.invariant.1;
      tells = c.in_ok-again.ensures.again;
    } in (
      kept_names (λ (t : Statement). t.name) (λ (t : Statement). t.place) (keys_of c.args.structures.now) c.loop-statement.names c.args.statements.now c.loop-statement.statement-index c.statement-item.result c.in_ok-again.again (result_repeated c.args.structures.now c.args.statements.now) c.repeats_name.new.names next c.if-again.false c.in_ok-again.ensures.words,
      kept_rest (λ (t : Statement). t.name) (λ (t : Statement). t.place) (keys_of c.args.structures.now) c.loop-statement.names c.args.statements.now c.loop-statement.statement-index c.statement-item.result c.in_ok-again.again (result_repeated c.args.structures.now c.args.statements.now) next c.if-again.false,
    )
