-- What analytic operators on a data set are checked to be, in steps.
use Rattle.std.proofs.Common.{◌≡◌, Bool, List, Result, Ok, IfErr, IsErrAnd, ap, sym, ◌∙◌}
use Rattle.vtl_values.specs.declared.kind.Kind.{Kind}
use Rattle.vtl_values.specs.declared.place.Place.{Place}
use Rattle.vtl_values.specs.declared.structure.Component.{Component}
use Rattle.vtl_syntax.specs.declared.expr.Over.{Over}
use Rattle.scalar_trees.specs.declared.typing.stop.TypeStop.{TypeStop}
use Rattle.scalar_trees.specs.typing.Steps.{Refuses}
use Rattle.data_set_trees.specs.declared.clauses.frame.Frame.{Frame}
use Rattle.data_set_trees.specs.clauses.Frames.{frame_of}
use Rattle.operator_typing.proofs.Steps.{goes_on, stops_same, fails_there}
use Rattle.data_set_trees.specs.declared.windows.analytic.AnalyticMeasure.{AnalyticMeasure}
use Rattle.data_set_trees.specs.declared.windows.analytic.CheckedWindow.{CheckedWindow}
use Rattle.data_set_trees.specs.declared.windows.analytic.CheckedWindow.TheVariants as window
use Rattle.data_set_trees.specs.windows.Windows.{measures_typed}
use Rattle.window_typing.specs.Each.{fits}

-- a call on a data set, and what it looks at: its frame, the measures that it works out, and what it asks
module _ (place : Place) (cs : List Component) (over : Over) (frame : Frame) (on_cs : frame ≡ frame_of cs)
    (given_takes takes : List Kind) (same_takes : given_takes ≡ takes) (given_stated stated : Bool) (same_stated : given_stated ≡ stated) (given_within within : Bool) (same_within : given_within ≡ within)
    (given_items items : List AnalyticMeasure) (same_items : given_items ≡ items) where
  same_fits : fits place frame over given_takes given_stated given_within given_items ≡ fits place (frame_of cs) over takes stated within items
  same_fits = λ i. fits place (on_cs i) over (same_takes i) (same_stated i) (same_within i) (same_items i)

  -- all is met
  pub measures_are : (met : Unit {0}) → fits place frame over given_takes given_stated given_within given_items ≡ Ok met → measures_typed place cs over takes stated within items ≡ Ok (window.Measures given_items)
  measures_are met is =
      goes_on (fits place (frame_of cs) over takes stated within items) (λ met. Ok (window.Measures items)) met (sym same_fits ∙ is)
      ∙ ap (λ (q : List AnalyticMeasure). Ok (window.Measures q)) (sym same_items)

  -- or not
  pub measures_refused : (answer : Result CheckedWindow TypeStop) (stop : TypeStop) → Refuses (fits place frame over given_takes given_stated given_within given_items) stop → IsErrAnd answer (λ told. told ≡ stop)
      → IfErr answer (Refuses (measures_typed place cs over takes stated within items))
  measures_refused answer stop refuses told =
      fails_there (fits place (frame_of cs) over takes stated within items) (λ met. Ok (window.Measures items)) answer stop
      (stops_same (fits place frame over given_takes given_stated given_within given_items) (fits place (frame_of cs) over takes stated within items) stop same_fits refuses) told
