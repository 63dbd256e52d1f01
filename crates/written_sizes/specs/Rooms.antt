-- How much room expressions leave in which no operator is called.
use Rattle.std.specs.Prelude.{◌≡◌, ℕ, ◌-◌, List, [], ◌∷◌, Bool, true, false, ◌&&◌, nat_le, Option, Some, None, fold, if◌then◌else◌}
use Rattle.vtl_syntax.specs.declared.script.Script.{Script}
use Rattle.operator_faults.specs.declared.outline.CallSite.{CallSite}
use Rattle.operator_faults.specs.declared.outline.What.{What}
use Rattle.operator_faults.specs.declared.outline.What.TheVariants as what
use Rattle.operator_faults.specs.declared.outline.Outline.{Outline}
use Rattle.operator_faults.specs.Calls.{sites, all_sites}
use Rattle.written_sizes.specs.Sizes.{expressions, levels}
use Rattle.written_sizes.specs.Laws.{outlines, IsWithinLimits}

abbrev pub is_empty : List CallSite → Bool
is_empty [] = true
is_empty (c ∷ cs) = false

-- it has no call, at most so many levels, and at most so many expressions
abbrev pub fits : ℕ → ℕ → Outline → Bool
fits most room o = is_empty (sites o) && (nat_le (levels o) most && nat_le (expressions o) room)

-- how many expressions may come after it, where so many may with it; none where it doesn't fit, or nothing did before
abbrev pub room_after : ℕ → Option ℕ → Outline → Option ℕ
room_after most None o = None
room_after most (Some room) o = if fits most room o then Some (room - expressions o) else None

-- the same of one after the other
abbrev pub room_after_all : ℕ → Option ℕ → List Outline → Option ℕ
room_after_all most room os = fold (room_after most) room os

-- how many levels it is itself, unless it is a call
abbrev pub levels_of : What → Option ℕ
levels_of (what.Name s) = Some 0
levels_of (what.Call c) = None
levels_of what.Plain = Some 0
levels_of what.Level = Some 1
levels_of what.Inside = Some 0
levels_of what.InsideJoin = Some 1

-- in the script's statements and rulesets no operator is called, and they are within the limits
pub record FitsAsItStands (s : Script) : Type 0 where
  pub no_call : all_sites (outlines s) ≡ []
  pub within_limits : IsWithinLimits s
