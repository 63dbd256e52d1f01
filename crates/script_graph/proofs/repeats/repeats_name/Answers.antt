use Rattle.std.proofs.Common.{◌≡◌, Bool, true, false, List, ◌++◌, sym, ap, ◌∙◌}
use Rattle.std.specs.Prelude.{is_some}
use Rattle.std.specs.Map.{keys_of}
use Rattle.vtl_values.specs.Structures.{structure_of}
use Rattle.script_graph.specs.Words.{has_word}
use Rattle.script_graph.proofs.RepeatLemmas.{again_input, again_other, ok_again, some_copied}
use Rattle.script_graph.proofs.repeats.repeats_name.Goals as goal

pub returns-then-is_some-clause-again : goal.returns-then-is_some-clause-again
returns-then-is_some-clause-again c =
    let here : is_some (structure_of c.args.structures.now c.args.name.now) ≡ true = ap is_some (sym c.get.ensures) ∙ some_copied c.get.result ∙ sym c.is_some.ensures ∙ c.if-is_some.true in
    again_input c.args.structures.now c.args.names.now c.args.name.now here

pub returns-else-is_some-clause-again : goal.returns-else-is_some-clause-again
returns-else-is_some-clause-again c =
    let other : is_some (structure_of c.args.structures.now c.args.name.now) ≡ false = ap is_some (sym c.get.ensures) ∙ some_copied c.get.result ∙ sym c.is_some.ensures ∙ c.if-is_some.false in
    ok_again c.repeats.result (has_word c.args.names.now c.args.name.now) (has_word (keys_of c.args.structures.now ++ c.args.names.now) c.args.name.now)
    (again_other c.args.structures.now c.args.names.now c.args.name.now other) c.repeats.ensures.again
