use Rattle.std.proofs.Common.{List, slice_get, sym, ap, ◌∙◌}
use Rattle.statement_typing.specs.Names.{naming_of}
use Rattle.script_typing.specs.declared.state.State.{State}
use Rattle.script_typing.specs.States.{turn}
use Rattle.script_typing.proofs.Walks.{comes_within}
use Rattle.script_typing.proofs.typing.Typing.take_turn.Goals as goal

pub put-requires : goal.put-requires
put-requires c =
    let naming = naming_of c.args.self.now.names in
    let uses = c.args.uses.now in
    let i = c.args.number in
    comes_within naming c.args.self.now.states uses i c.in-Some.state
    (ap (λ (states : List State). turn naming states uses (slice_get states i)) (sym c.as_slice.ensures) ∙ sym (c.in_ok-state.ensures {u = tt}) ∙ c.in-Some.is)
