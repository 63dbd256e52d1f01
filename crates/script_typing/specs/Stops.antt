-- Stops of the graph, and of typing, as those of the script.
use Rattle.script_graph.specs.declared.fault.GraphStop.{GraphStop}
use Rattle.script_graph.specs.declared.fault.GraphStop.TheVariants as graph
use Rattle.scalar_trees.specs.declared.typing.stop.TypeStop.{TypeStop}
use Rattle.scalar_trees.specs.declared.typing.stop.TypeStop.TheVariants as typing
use Rattle.script_typing.specs.declared.stop.ScriptStop.{ScriptStop}
use Rattle.script_typing.specs.declared.stop.ScriptStop.TheVariants as stop

abbrev pub of_graph : GraphStop → ScriptStop
of_graph (graph.Fault placed) = stop.Graph placed
of_graph graph.Memory = stop.Memory

abbrev pub of_typing : TypeStop → ScriptStop
of_typing (typing.Refused r) = stop.Refused r
of_typing typing.Memory = stop.Memory
