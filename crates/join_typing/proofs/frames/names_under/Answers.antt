use Rattle.std.proofs.Common.{◌≡◌, ◌+◌, List, ◌∷◌, ◌++◌, drop, ap, sym, ◌∙◌}
use Rattle.std.proofs.lemmas.List.{drop_more, append_assoc}
use Rattle.std.specs.Prelude.{slice_get}
use Rattle.vtl_values.specs.declared.structure.Component.{Component}
use Rattle.scalar_trees.specs.declared.typing.scope.ScopeName.{ScopeName}
use Rattle.data_set_trees.specs.Joins.{names_under}
use Rattle.join_typing.specs.Joining.{names_of}
use Rattle.join_typing.proofs.Naming.{one_named}
use Rattle.join_typing.proofs.frames.names_under.Goals as goal

pub loop-i-preserved : goal.loop-i-preserved
loop-i-preserved c =
    let cs = c.args.components.now in
    let ts = c.args.titles.now in
    let i = c.loop-i.i in
    let names = c.loop-i.names in
    let x = c.index-components-i.result in
    let rest = drop (i + 1) cs in
    let left : drop i cs ≡ x ∷ rest = drop_more cs i x c.loop-i-test.true ∙ ap (λ (z : Component). z ∷ rest) (sym c.index-components-i.is) in
    let own = names_of i x.name (slice_get ts i) in
    let others = names_under (i + 1) rest (drop (i + 1) ts) in
    c.loop-i.invariant
    ∙ ap (λ (ds : List Component). names ++ names_under i ds (drop i ts)) left
    ∙ ap (λ (q : List ScopeName). names ++ q) (one_named i x rest ts i)
    ∙ sym (append_assoc names own others)
    ∙ ap (λ (q : List ScopeName). q ++ others) (sym c.in_ok-push_under.ensures)
