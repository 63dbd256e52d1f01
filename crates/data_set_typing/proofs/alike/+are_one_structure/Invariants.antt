use Rattle.std.proofs.Common.{length}
use Rattle.data_set_typing.proofs.alike.+are_one_structure.Given as goal

abbrev pub decreases-are_one_structure : goal.decreases-are_one_structure
decreases-are_one_structure l = length l.components.now
