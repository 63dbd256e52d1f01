use Rattle.std.proofs.Common.{sym, subst}
use Rattle.vtl_values.specs.Structures.{IsStructure}
use Rattle.data_set_parts.proofs.Fits.{unlisted_is}
use Rattle.data_set_parts.proofs.results.plain.Goals as goal

pub of-requires : goal.of-requires
of-requires c = subst IsStructure (sym c.in_ok-list.ensures) (unlisted_is c.args.components.now c.requires)
