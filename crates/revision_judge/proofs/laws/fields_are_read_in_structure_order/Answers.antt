use Rattle.revision_judge.proofs.StructureOrder.{cells-in_order}
use Rattle.revision_judge.proofs.laws.fields_are_read_in_structure_order.Goals as goal

pub returns : goal.returns
returns c = cells-in_order
