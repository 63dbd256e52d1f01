-- What a field of a component holds (docs/formats.md, "Structures").
use Rattle.std.specs.Prelude.{ℕ, List, [], ◌∷◌, ◌++◌, Bool, false, ◌&&◌, ◌||◌, ◌==◌, Option, Some, None, Result, Ok, chars, codes, if◌then◌else◌}
use Rattle.std.specs.Char.{is_ascii_alphabetic, is_ascii_alphanumeric}
use Rattle.std.specs.List.{list_all, list_any}
use Rattle.std.specs.Map.{lookup}
use Rattle.serde_json.specs.Data.{Data}
use Rattle.serde_json.specs.Find.{get, as_str}
use Rattle.vtl_values.specs.declared.kind.Kind.{Kind}
use Rattle.vtl_values.specs.declared.kind.Kind.TheVariants.{Integer, Number, Text, Truth}
use Rattle.vtl_values.specs.declared.kind.Role.{Role}
use Rattle.vtl_values.specs.declared.kind.Role.TheVariants.{Identifier, Measure, Attribute, Viral}
use Rattle.vtl_values.specs.declared.structure.Codes.{Codes}
use Rattle.vtl_values.specs.declared.structure.Codes.TheVariants.{Any, Listed}
use Rattle.vtl_values.specs.Texts.{same_text}
use Rattle.structure_files.specs.declared.stop.Fault.TheVariants.{MissingField, BadRole, BadType, BadName, BadCodes}
use Rattle.structure_files.specs.declared.stop.Path.{Path}
use Rattle.structure_files.specs.declared.stop.Refusal.{Refusal}
use Rattle.structure_files.specs.Json.{text_in, as_list}
use Rattle.structure_files.specs.Refusals.{◌>>=◌, refused, or_refused, one_by_one}

-- a letter A to Z or a to z, and then letters, digits, `_` and `.`
abbrev pub is_name : List ℕ → Bool
is_name [] = false
is_name (first ∷ others) = is_ascii_alphabetic first && list_all (λ c. is_ascii_alphanumeric c || (c == 95) || (c == 46)) others

abbrev pub roles : List (List ℕ × Role)
roles = (codes "identifier", Identifier) ∷ (codes "measure", Measure) ∷ (codes "attribute", Attribute) ∷ (codes "viral attribute", Viral) ∷ []

abbrev pub kinds : List (List ℕ × Kind)
kinds = (codes "integer", Integer) ∷ (codes "number", Number) ∷ (codes "string", Text) ∷ (codes "boolean", Truth) ∷ []

-- what a text stands for
abbrev pub meant_by : {A : Type 0} → List (List ℕ × A) → List ℕ → Option A
meant_by words text = lookup (same_text text) words

-- the field `name`: MissingField, then BadName
abbrev pub name_at : Path → Data → Result (List ℕ) Refusal
name_at path value = do
  text ← or_refused (text_in (codes "name") value) MissingField path
  if is_name text then Ok (chars text) else refused BadName path

-- the field `role`: MissingField, then BadRole
abbrev pub role_at : Path → Data → Result Role Refusal
role_at path value = do
  text ← or_refused (text_in (codes "role") value) MissingField path
  or_refused (meant_by roles text) BadRole path

-- the field `type`: MissingField, then BadType
abbrev pub kind_at : Path → Data → Result Kind Refusal
kind_at path value = do
  text ← or_refused (text_in (codes "type") value) MissingField path
  or_refused (meant_by kinds text) BadType path

-- a further code is a text that none before it is
abbrev pub next_code : Path → List (List ℕ) → Data → Result (List (List ℕ)) Refusal
next_code path before value = do
  text ← or_refused (as_str value) BadCodes path
  if list_any (same_text (chars text)) before then refused BadCodes path else Ok (before ++ chars text ∷ [])

-- a code list isn't empty
abbrev pub code_list : Path → List (List ℕ) → Result Codes Refusal
code_list path [] = refused BadCodes path
code_list path (first ∷ others) = Ok (Listed (first ∷ others))

-- texts alone have codes
abbrev pub codes_of : Path → Kind → List Data → Result Codes Refusal
codes_of path Text values = one_by_one (next_code path) values >>= code_list path
codes_of path Integer values = refused BadCodes path
codes_of path Number values = refused BadCodes path
codes_of path Truth values = refused BadCodes path

-- a viral attribute has codes
abbrev pub no_codes : Path → Role → Result Codes Refusal
no_codes path Viral = refused BadCodes path
no_codes path Identifier = Ok Any
no_codes path Measure = Ok Any
no_codes path Attribute = Ok Any

-- the field `codes`, which may be absent: MissingField where it is no list, then BadCodes
abbrev pub codes_in : Path → Role → Kind → Option Data → Result Codes Refusal
codes_in path role kind None = no_codes path role
codes_in path role kind (Some value) = or_refused (as_list value) MissingField path >>= codes_of path kind

abbrev pub codes_at : Path → Role → Kind → Data → Result Codes Refusal
codes_at path role kind value = codes_in path role kind (get (codes "codes") value)
