-- Three-valued logic, in which none stands for null (docs/language.md, "Scalar operators").
use Rattle.std.specs.Prelude.{Bool, true, false, not, Option, Some, None}
use Rattle.std.specs.Option.{option_map}
use Rattle.vtl_values.specs.declared.value.Value.{Value}
use Rattle.vtl_values.specs.declared.value.Value.TheVariants.{Null, Truth}

-- the boolean that a value is; what is none counts as null
abbrev pub truth_of : Value → Option Bool
truth_of (Truth b) = Some b
truth_of _ = None

abbrev pub truth_value : Option Bool → Value
truth_value (Some b) = Truth b
truth_value None = Null

-- VTL 2.0 Reference Manual, and: false if one is false, else null if one is null
abbrev pub both : Option Bool → Option Bool → Option Bool
both (Some false) b = Some false
both (Some true) b = b
both None (Some false) = Some false
both None (Some true) = None
both None None = None

-- VTL 2.0 Reference Manual, or: true if one is true, else null if one is null
abbrev pub either : Option Bool → Option Bool → Option Bool
either (Some true) b = Some true
either (Some false) b = b
either None (Some true) = Some true
either None (Some false) = None
either None None = None

-- VTL 2.0 Reference Manual, xor: null if one is null
abbrev pub exactly_one : Option Bool → Option Bool → Option Bool
exactly_one (Some true) (Some b) = Some (not b)
exactly_one (Some false) (Some b) = Some b
exactly_one _ _ = None

-- VTL 2.0 Reference Manual, not: null of null
abbrev pub opposite : Option Bool → Option Bool
opposite b = option_map not b

abbrev pub on_truths : (Option Bool → Option Bool → Option Bool) → Value → Value → Value
on_truths f a b = truth_value (f (truth_of a) (truth_of b))

-- whether a condition holds: it is neither false nor null
abbrev pub holds : Value → Bool
holds (Truth b) = b
holds _ = false
