use Rattle.std.proofs.Common.{◌≡◌, List, ◌++◌, Option, sym, ap, ◌∙◌}
use Rattle.std.proofs.lemmas.Bool.{ltb-false}
use Rattle.std.proofs.lemmas.List.{append-nil}
use Rattle.std.proofs.lemmas.Option.{slice_get_past}
use Rattle.std.proofs.Common.{length}
use Rattle.scalar_trees.specs.declared.typing.scope.ScopeName.{ScopeName}
use Rattle.data_set_trees.specs.Joins.{Titles}
use Rattle.join_typing.specs.Joining.{names_of}
use Rattle.join_typing.proofs.frames.push_under.Goals as goal

pub returns-in-None : goal.returns-in-None
returns-in-None c =
    let names = c.args.names.now in
    let titles = c.args.titles.now in
    let past = ltb-false c.args.number (length titles) (sym c.in-None.ensures.lookup.0) in
    sym (append-nil names) ∙ ap (λ (o : Option Titles). names ++ names_of c.args.number c.args.name.now o) (sym (slice_get_past titles c.args.number past))
