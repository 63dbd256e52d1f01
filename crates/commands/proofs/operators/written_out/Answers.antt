use Rattle.std.proofs.Common.{ℕ, List, subst, ◌∙◌}
use Rattle.defined_operators.specs.Expanded.{expanded}
use Rattle.commands.specs.Ends.{Gives}
use Rattle.commands.specs.Scripts.{refused_script}
use Rattle.commands.proofs.ScriptLemmas.{refuses-written, written-as-many}
use Rattle.commands.proofs.operators.written_out.Goals as goal

pub returns-in_ok-end-in-Err-Fault-clause-end : goal.returns-in_ok-end-in-Err-Fault-clause-end
returns-in_ok-end-in-Err-Fault-clause-end c =
    let meant = rw c.in-Err-Fault.field-0-is at c.in-Err-Fault.ensures.err in
    let gives = subst (λ (end : List ℕ). Gives c.refused.result (refused_script c.in-Err-Fault.placed.place end)) (c.as_slice.ensures.value ∙ c.in_ok-end-in-Err-Fault.ensures) c.refused.ensures.gives in
    refuses-written (expanded c.args.script) c.in-Err-Fault.placed c.refused.result meant gives

pub returns-in-Ok-clause-as_many : goal.returns-in-Ok-clause-as_many
returns-in-Ok-clause-as_many c = written-as-many c.args.script c.in-Ok.written c.in-Ok.ensures.ok
