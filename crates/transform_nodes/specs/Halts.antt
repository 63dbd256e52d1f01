-- Why trees have no delta.
use Rattle.std.specs.Prelude.{Option, Some, None}
use Rattle.vtl_values.specs.declared.place.Place.{Place}
use Rattle.held_index.specs.declared.stop.Stop.{Stop}
use Rattle.held_index.specs.declared.stop.Stop.TheVariants.{Range as StopRange, TooMany as StopTooMany, Memory as StopMemory}
use Rattle.operator_meaning.specs.Results.{Wrong}
use Rattle.transform_nodes.specs.Faults.{wrong_of}
use Rattle.transform_nodes.specs.declared.fault.NodeFault.TheVariants.{Range, TooMany}
use Rattle.transform_nodes.specs.declared.halt.Halt.{Halt}
use Rattle.transform_nodes.specs.declared.halt.Halt.TheVariants.{Fault, Memory}

-- an operator at the place stopped so
abbrev pub halted : Place → Stop → Halt
halted place (StopRange key) = Fault (Range place key)
halted place StopTooMany = Fault (TooMany place)
halted place StopMemory = Memory

-- what a halt says of the expression; want of memory says nothing
abbrev pub wrong_in : Halt → Option Wrong
wrong_in (Fault fault) = Some (wrong_of fault)
wrong_in Memory = None
