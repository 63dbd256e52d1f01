-- Values as texts (docs/formats.md, "Values").
use Rattle.std.specs.Prelude.{◌==◌, ℕ, Bool, true, false, ◌||◌, if◌then◌else◌, List, [], ◌∷◌, Result, Ok, Err, ⊤, codes, nat_eq}
use Rattle.std.specs.Cmp.Lexicographic.{pointwise}
use Rattle.std.specs.Fmt.{signed_decimal}
use Rattle.std.specs.Result.{result_map_both}
use Rattle.vtl_values.specs.declared.kind.Kind.{Kind}
use Rattle.vtl_values.specs.declared.kind.Kind.TheVariants.{Integer as IntegerKind, Number as NumberKind, Text as TextKind, Truth as TruthKind}
use Rattle.vtl_values.specs.declared.read.BadText.{BadText}
use Rattle.vtl_values.specs.declared.read.BadText.TheVariants.{NotATruth}
use Rattle.vtl_values.specs.declared.value.Value.{Value}
use Rattle.vtl_values.specs.declared.value.Value.TheVariants.{Null, Truth, Integer, Number, Text}
use Rattle.vtl_values.specs.Numerals.{without_first, integer_of, number_of, number_text}
use Rattle.vtl_values.specs.Ranges.{IsInteger, IsNumber}

abbrev pub BACKSLASH : ℕ
BACKSLASH = 92

-- the texts are the same
abbrev pub same_text : List ℕ → List ℕ → Bool
same_text = pointwise nat_eq

-- a truth value is `true`, `false`, `1` or `0`
abbrev pub truth_of : List ℕ → Result Bool BadText
truth_of text =
    if same_text text (codes "true") || same_text text (codes "1") then Ok true
    else if same_text text (codes "false") || same_text text (codes "0") then Ok false
    else Err NotATruth

-- the value that a field of this kind means: none is null, and a backslash before a text means nothing
abbrev pub value_of : Kind → List ℕ → Result Value BadText
value_of kind [] = Ok Null
value_of IntegerKind text = result_map_both Integer (λ e. e) (integer_of text)
value_of NumberKind text = result_map_both Number (λ e. e) (number_of text)
value_of TruthKind text = result_map_both Truth (λ e. e) (truth_of text)
value_of TextKind text = Ok (Text (without_first BACKSLASH text))

-- a text that is empty would be read as null, and one that begins with a backslash as another
abbrev pub needs_backslash : List ℕ → Bool
needs_backslash [] = true
needs_backslash (c ∷ cs) = c == BACKSLASH

-- how a value is written
abbrev pub text_of : Value → List ℕ
text_of Null = []
text_of (Truth true) = codes "true"
text_of (Truth false) = codes "false"
text_of (Integer n) = signed_decimal n
text_of (Number n) = number_text n
text_of (Text cs) = if needs_backslash cs then BACKSLASH ∷ cs else cs

-- the value is of this kind, within its range
abbrev pub Fits : Kind → Value → Type 0
Fits kind Null = ⊤
Fits IntegerKind (Integer n) = IsInteger n
Fits NumberKind (Number n) = IsNumber n
Fits TruthKind (Truth b) = ⊤
Fits TextKind (Text cs) = ⊤
Fits kind value = ⊥
