-- What faults say.
use Rattle.std.specs.Arc.{arc_value}
use Rattle.operator_meaning.specs.Results.{Wrong, RangeAt, ManyAt}
use Rattle.transform_nodes.specs.declared.fault.NodeFault.{NodeFault}
use Rattle.transform_nodes.specs.declared.fault.NodeFault.TheVariants.{Range, TooMany}

abbrev pub wrong_of : NodeFault → Wrong
wrong_of (Range place key) = RangeAt place (arc_value key)
wrong_of (TooMany place) = ManyAt place
