-- The first fault that a script's text shows: of the first kind of which there is one, the first in the script.
use Rattle.std.specs.Prelude.{List, Option}
use Rattle.vtl_syntax.specs.declared.operator.DefinedOperator.{DefinedOperator}
use Rattle.vtl_syntax.specs.declared.script.Script.{Script}
use Rattle.operator_faults.specs.declared.sketch.Sketch.{Sketch}
use Rattle.operator_faults.specs.declared.calls.CallFault.TheVariants.{Unknown, Count, Sort}
use Rattle.operator_faults.specs.declared.fault.PlacedFault.{PlacedFault}
use Rattle.shortest_cycles.specs.Firsts.{or_else}
use Rattle.operator_faults.specs.Names.{defined_twice, parameter_twice}
use Rattle.operator_faults.specs.Calls.{wrong_in_script}
use Rattle.operator_faults.specs.Bodies.{free_in_bodies}
use Rattle.operator_faults.specs.Recursions.{recursion}
use Rattle.operator_faults.specs.Sketches.{sketch_of}

abbrev pub of_names : List DefinedOperator → Option PlacedFault
of_names operators = or_else (defined_twice operators) (parameter_twice operators)

abbrev pub of_calls : List DefinedOperator → Sketch → Option PlacedFault
of_calls operators s = or_else (wrong_in_script Unknown operators s) (wrong_in_script Count operators s)

abbrev pub in_sketch : List DefinedOperator → Sketch → Option PlacedFault
in_sketch operators s = or_else (of_names operators) (or_else (of_calls operators s) (or_else (free_in_bodies s.bodies 0 operators) (or_else (recursion operators s.bodies) (wrong_in_script Sort operators s))))

abbrev pub first_fault : Script → Option PlacedFault
first_fault s = in_sketch s.operators (sketch_of s)
