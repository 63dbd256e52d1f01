use Rattle.std.proofs.Common.{[], ◌∷◌, length, sym, subst}
use Rattle.std.specs.Prelude.{nat_le}
use Rattle.vtl_values.specs.Structures.{IsStructure}
use Rattle.scalar_trees.specs.declared.typing.stop.Fault.TheVariants.{NameTwice, TooManyComponents}
use Rattle.data_set_trees.specs.clauses.Clauses.{MOST_COMPONENTS}
use Rattle.data_set_trees.specs.Components.{names_differ}
use Rattle.data_set_parts.proofs.Follows.{first_met}
use Rattle.data_set_parts.proofs.results.fitting.Goals as goal

pub of-requires : goal.of-requires
of-requires c =
    let cs = c.args.components.now in
    let differ = first_met c.args.place (names_differ cs) NameTwice ((nat_le (length cs) MOST_COMPONENTS, TooManyComponents) ∷ []) c.in_ok-result_fits.field-0 c.in_ok-result_fits.ensures.ok in
    subst IsStructure (sym c.in_ok-list.ensures) (c.requires differ.0)
