-- What analytic functions take and give (docs/language.md, "Analytic operators").
use Rattle.std.specs.Prelude.{List, Bool, true, false}
use Rattle.vtl_values.specs.declared.kind.Kind.{Kind}
use Rattle.vtl_values.specs.declared.kind.Kind.TheVariants.{Integer, Number}
use Rattle.vtl_syntax.specs.declared.words.WindowFunction.{WindowFunction}
use Rattle.vtl_syntax.specs.declared.words.WindowFunction.TheVariants.{Sum, Avg, Count, Min, Max, Median, FirstValue, LastValue, RatioToReport}
use Rattle.scalar_trees.specs.Kinds.{ANY, NUMERIC}

-- the kinds of components that a function takes
abbrev pub window_takes : WindowFunction → List Kind
window_takes Sum = NUMERIC
window_takes Avg = NUMERIC
window_takes Count = ANY
window_takes Min = ANY
window_takes Max = ANY
window_takes Median = NUMERIC
window_takes FirstValue = ANY
window_takes LastValue = ANY
window_takes RatioToReport = NUMERIC

-- and what it gives of a component of this kind
abbrev pub window_gives : WindowFunction → Kind → Kind
window_gives Sum kind = kind
window_gives Avg kind = Number
window_gives Count kind = Integer
window_gives Min kind = kind
window_gives Max kind = kind
window_gives Median kind = Number
window_gives FirstValue kind = kind
window_gives LastValue kind = kind
window_gives RatioToReport kind = Number

-- a window may be stated for it; `ratio_to_report` goes over the part
abbrev pub takes_window : WindowFunction → Bool
takes_window Sum = true
takes_window Avg = true
takes_window Count = true
takes_window Min = true
takes_window Max = true
takes_window Median = true
takes_window FirstValue = true
takes_window LastValue = true
takes_window RatioToReport = false
