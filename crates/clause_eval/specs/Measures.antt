-- Measures by their numbers.
use Rattle.std.specs.Prelude.{◌≡◌, ◌≢◌, ℕ, true, Some, slice_get, AllPairs}
use Rattle.vtl_values.specs.declared.kind.Role.TheVariants.{Measure}
use Rattle.vtl_values.specs.declared.structure.Component.{Component}
use Rattle.data_set_trees.specs.declared.clauses.frame.Frame.{Frame}
use Rattle.data_set_trees.specs.clauses.Frames.{has_role}

-- of a frame whose components differ in their names, the component with this number, which is a measure
pub record IsMeasureAt (frame : Frame) (number : ℕ) (c : Component) : Type 0 where
  pub there : slice_get frame.components number ≡ Some c
  pub measure : has_role Measure c ≡ true
  pub names_differ : AllPairs (λ a b. a.name ≢ b.name) frame.components
