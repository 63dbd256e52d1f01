use Rattle.std.proofs.Common.{◌∙◌, ◌++◌, sym, ap, List}
use Rattle.data_set_trees.specs.declared.tree.Source.{Source}
use Rattle.data_set_trees.specs.declared.tree.Source.TheVariants.{Result as ResultOf}
use Rattle.data_set_trees.specs.checked.Expressions.{expression_of}
use Rattle.data_set_trees.specs.checked.Scripts.{is_same, names_in}
use Rattle.transform_nodes.specs.Building.{is_among}
use Rattle.transform_nodes.proofs.BuildLemmas.{any_by_all}
use Rattle.transform_nodes.proofs.build.names_it.Goals as goal

pub returns : goal.returns
returns c =
    let it = ResultOf c.args.statement in
    c.is_some.ensures ∙ c.number_of.ensures.found
    ∙ ap (λ (ns : List Source). is_among ns it) (c.as_slice.ensures.value ∙ c.in_ok-push_names.ensures ∙ ap (λ (ns : List Source). ns ++ names_in (expression_of c.args.named.now.tree)) c.new-names.ensures.items)
    ∙ sym (any_by_all (is_same it) (names_in (expression_of c.args.named.now.tree)))
