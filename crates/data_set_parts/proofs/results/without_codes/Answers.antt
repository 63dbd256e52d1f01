use Rattle.std.proofs.Common.{sym, subst}
use Rattle.vtl_values.specs.Structures.{IsStructure}
use Rattle.data_set_parts.proofs.results.without_codes.Goals as goal

pub plain-requires : goal.plain-requires
plain-requires c = subst IsStructure (sym c.components.ensures.value) c.components.ensures.structure
