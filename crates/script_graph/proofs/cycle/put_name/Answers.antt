use Rattle.std.proofs.Common.{◌≡◌, ◌++◌, Option, None, sym, ap, ◌∙◌}
use Rattle.std.specs.Prelude.{slice_get}
use Rattle.std.specs.Option.{option_copied, option_map, option_to_list}
use Rattle.std.proofs.lemmas.List.{append-nil}
use Rattle.vtl_syntax.specs.declared.script.Statement.{Statement}
use Rattle.script_graph.proofs.cycle.put_name.Goals as goal

pub returns-in-None : goal.returns-in-None
returns-in-None c =
    let out = c.args.out.now in
    let nothing : slice_get c.args.statements.now c.args.number ≡ None = sym c.at.ensures ∙ ap option_copied c.in-None.is in
    sym (ap (λ (o : Option Statement). out ++ option_to_list (option_map (λ (t : Statement). t.name) o)) nothing ∙ append-nil out)
