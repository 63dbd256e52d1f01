use Rattle.std.proofs.Common.{List, ap₂}
use Rattle.expression_rules.specs.Expressions.{Naming}
use Rattle.script_typing.specs.declared.state.State.{State}
use Rattle.script_typing.specs.States.{SoFar}
use Rattle.script_typing.proofs.typing.Typing.put.Goals as goal

pub returns : goal.returns
returns c =
    let so : Naming → List State → SoFar = λ naming states. record { naming = naming; states = states } in
    ap₂ so (c.in_ok-put_name.ensures {u = tt}) c.set.ensures
