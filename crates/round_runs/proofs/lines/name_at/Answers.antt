use Rattle.std.proofs.Common.{◌≤◌, List, length, subst}
use Rattle.std.proofs.lemmas.Option.{slice_get_past}
use Rattle.data_set_trees.specs.declared.checked.script.CheckedStatement.{CheckedStatement}
use Rattle.round_runs.proofs.LineLemmas.{named_none}
use Rattle.round_runs.proofs.lines.name_at.Goals as goal

pub returns-in-None : goal.returns-in-None
returns-in-None c =
    let past = subst (λ (l : List CheckedStatement). length l ≤ c.args.statement) c.statements.ensures.value c.in-None.ensures.lookup.3 in
    named_none c.args.script.now c.args.statement c.from_str.result (slice_get_past c.args.script.now.statements c.args.statement past) c.from_str.ensures
