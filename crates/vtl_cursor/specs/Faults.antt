-- The parts that say what is wrong where a rule doesn't hold.
use Rattle.std.specs.Prelude.{Option, Some, None, option_map}
use Rattle.vtl_values.specs.declared.place.Place.{Place}
use Rattle.vtl_syntax.specs.declared.ruleset.FaultPart.{FaultPart}
use Rattle.vtl_cursor.specs.declared.cursor.Named.{Named}
use Rattle.vtl_cursor.specs.declared.cursor.Whole.{Whole}
use Rattle.vtl_grammar.specs.Rules.{Of, At, Text}
use Rattle.vtl_grammar.specs.Clauses.{signed_integer, signed_of}

-- a code, and where its word stands
abbrev pub code_of : Place × At Text → Named
code_of v = record { value = v.1.value; place = v.0 }

-- a level, and where its word stands
abbrev pub level_of : Place × Of signed_integer → Whole
level_of v = record { value = signed_of v.1; place = v.0 }

-- the part of a fault stands at its first word, and at its rule's place where it has none
abbrev pub fault_in : Option Named → Option Whole → Place → FaultPart
fault_in None None p = record { code = None; level = None; place = p }
fault_in None (Some n) p = record { code = None; level = Some n.value; place = n.place }
fault_in (Some c) n p = record { code = Some c.value; level = option_map (λ w. w.value) n; place = c.place }
