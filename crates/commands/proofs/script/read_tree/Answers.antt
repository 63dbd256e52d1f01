use Rattle.std.proofs.Common.{◌≤◌, ℕ, List, Ok, length, ap, subst, sym, ◌∙◌}
use Rattle.vtl_syntax.specs.declared.script.Script.{Script}
use Rattle.vtl_parser.specs.Parses.{fault_of}
use Rattle.commands.specs.Ends.{Gives}
use Rattle.commands.specs.Scripts.{refused_script, told_tree}
use Rattle.commands.proofs.ScriptLemmas.{answered-is, refuses-tree}
use Rattle.commands.proofs.script.read_tree.Goals as goal

pub returns-in-Ok-clause-go : goal.returns-in-Ok-clause-go
returns-in-Ok-clause-go c = rw c.into_script.ensures.value (ap told_tree (answered-is c.args.tokens.now (Ok c.in-Ok.script) c.in-Ok.ensures))

pub returns-in-Ok-clause-few : goal.returns-in-Ok-clause-few
returns-in-Ok-clause-few c = subst (λ (s : Script). length s.statements ≤ 256) (sym c.into_script.ensures.value) c.into_script.ensures.few.statements

pub returns-in_ok-end-in-Err-Fault-clause-end : goal.returns-in_ok-end-in-Err-Fault-clause-end
returns-in_ok-end-in-Err-Fault-clause-end c =
    let only = rw c.in-Err-Fault.field-0-is at c.in-Err-Fault.ensures in
    let gives = subst (λ (end : List ℕ). Gives c.refused.result (refused_script c.in-Err-Fault.place end)) (c.as_slice.ensures.value ∙ c.in_ok-end-in-Err-Fault.ensures) c.refused.ensures.gives in
    refuses-tree c.args.tokens.now (fault_of c.in-Err-Fault.fault) c.in-Err-Fault.place c.refused.result only gives
