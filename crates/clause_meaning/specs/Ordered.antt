-- Frames in which a point's values stand as its components do.
use Rattle.std.specs.Prelude.{◌≡◌, ◌++◌}
use Rattle.structured_sets.specs.Fitting.{identifiers, others}
use Rattle.data_set_trees.specs.declared.clauses.frame.Frame.{Frame}

-- identifiers stand before the other components, as a point's key before its other values
abbrev pub HasIdentifiersFirst : Frame → Type 0
HasIdentifiersFirst frame = frame.components ≡ identifiers frame.components ++ others frame.components
