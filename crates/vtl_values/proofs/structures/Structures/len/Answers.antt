use Rattle.vtl_values.proofs.StructureNames.{HasNamesOnce-from_IsDistinct}
use Rattle.vtl_values.proofs.structures.Structures.len.Goals as goal

pub returns-clause-names_once : goal.returns-clause-names_once
returns-clause-names_once c = rw (← c.self.view_is) (HasNamesOnce-from_IsDistinct _ c.len.ensures.unique)
