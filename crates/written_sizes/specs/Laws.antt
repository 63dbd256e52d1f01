-- What is said of the written-out script by its size faults.
use Rattle.std.specs.Prelude.{◌≡◌, ◌↔◌, ◌≤◌, List, ◌++◌, None, All, map, sum}
use Rattle.vtl_syntax.specs.declared.script.Script.{Script}
use Rattle.operator_faults.specs.declared.outline.Outline.{Outline}
use Rattle.operator_faults.specs.Sketches.{sketch_of}
use Rattle.replaced_calls.specs.Scripts.{written_out}
use Rattle.written_sizes.specs.Sizes.{expressions, levels}
use Rattle.written_sizes.specs.Arithmetic.{most_expressions, most_levels}
use Rattle.written_sizes.specs.Replaced.{replaced}
use Rattle.written_sizes.specs.SizeFaults.{size_fault}

-- the outlines of the written-out script are those of the script with their calls replaced
abbrev pub OutlinesAreReplaced : Type 0
OutlinesAreReplaced = (s : Script) → ((sketch_of (written_out s)).statements ≡ map (replaced s.operators) (sketch_of s).statements) × ((sketch_of (written_out s)).rulesets ≡ map (replaced s.operators) (sketch_of s).rulesets)

-- the outlines of a script's statements and rulesets
abbrev pub outlines : Script → List Outline
outlines s = (sketch_of s).statements ++ (sketch_of s).rulesets

-- the levels and expressions of a script are within the limits
pub record IsWithinLimits (s : Script) : Type 0 where
  pub few_levels : All (λ (o : Outline). levels o ≤ most_levels) (outlines s)
  pub few_expressions : sum (map expressions (outlines s)) ≤ most_expressions

-- no fault is told exactly where the written-out script is within the limits
abbrev pub FaultsAreExact : Type 0
FaultsAreExact = (s : Script) → (size_fault s ≡ None) ↔ IsWithinLimits (written_out s)
