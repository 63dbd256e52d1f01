-- Frames inside a join, where names may stand twice.
use Rattle.std.specs.Prelude.{◌≡◌, ◌≤◌, List, [], ◌∷◌, length, Ok, All, AllPairs}
use Rattle.vtl_values.specs.declared.structure.Component.{Component}
use Rattle.vtl_values.specs.Structures.{place_of}
use Rattle.vtl_syntax.specs.declared.expr.Clause.{Clause}
use Rattle.data_set_trees.specs.declared.clauses.frame.Frame.{Frame}
use Rattle.data_set_trees.specs.clauses.Clauses.{MOST_COMPONENTS}
use Rattle.expression_rules.specs.JoinClauses.{Placed, inside}
use Rattle.expression_rules.specs.PointClauses.{after}
use Rattle.data_set_parts.specs.Joins.{IsSound}

-- components that are a structure but for their names, and not too many
pub record FitInside (components : List Component) : Type 0 where
  -- identifiers stand first, then measures, attributes and viral attributes
  pub in_order : AllPairs (λ a b. place_of a.role ≤ place_of b.role) components
  -- a viral attribute has a code list, and a code list fits its component
  pub sound : All IsSound components
  pub few : length components ≤ MOST_COMPONENTS

-- the frame fits, and so does what each clause leaves
abbrev pub EachFits : List Placed → Frame → Type 0
EachFits [] frame = FitInside frame.components
EachFits (c ∷ cs) frame = FitInside frame.components × EachFits cs (after c.clause frame)

-- whatever clauses typing gives on a frame that fits, what they leave fits
abbrev pub KeepsFitting : Type 0
KeepsFitting = (cs : List Clause) (frame : Frame) (checked : List Placed) → FitInside frame.components → inside cs frame ≡ Ok checked → EachFits checked frame
