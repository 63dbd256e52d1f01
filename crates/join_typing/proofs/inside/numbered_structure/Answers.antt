use Rattle.std.proofs.Common.{sym, subst}
use Rattle.vtl_values.specs.Structures.{IsStructure}
use Rattle.join_typing.proofs.Named as lemmas
use Rattle.join_typing.proofs.inside.numbered_structure.Goals as goal

pub of-requires : goal.of-requires
of-requires c = subst IsStructure (sym c.in_ok-list.ensures) (lemmas.numbered_structure c.args.components.now c.requires)
