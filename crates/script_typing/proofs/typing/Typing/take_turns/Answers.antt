use Rattle.std.proofs.Common.{ℕ, List, get_or, ap, ◌∙◌}
use Rattle.script_typing.specs.States.{after_turn, after_turns}
use Rattle.script_typing.specs.Views.{so_far}
use Rattle.script_typing.proofs.Walks.{one_more}
use Rattle.script_typing.proofs.typing.Typing.take_turns.Goals as goal

pub loop-number-preserved : goal.loop-number-preserved
loop-number-preserved c =
    let g = c.args.graph.now in
    let order = c.args.order.now in
    let k = c.loop-number.number-index in
    let before = so_far c.loop-number.self in
    one_more g order k before (so_far c.take_turn.new.self) (after_turns g order (so_far c.args.self.now)) c.loop-number-test.true
    (c.in_ok-take_turn.ensures {u = tt} ∙ ap (λ (uses : List ℕ). after_turn uses (get_or order k 0) before) c.targets_of.ensures)
    c.loop-number.invariant
