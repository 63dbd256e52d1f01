-- What a structure file is as JSON, and what stands in the fields of an object.
use Rattle.std.specs.Prelude.{ℕ, List, [], ◌∷◌, Option, None, option_and_then, option_map, if◌then◌else◌}
use Rattle.std.specs.Str.{is_utf8}
use Rattle.serde_json.specs.Data.{Data, Items, no_items, item}
use Rattle.serde_json.specs.Find.{get, as_str, as_array}
use Rattle.serde_json.specs.Read.{read}

-- the value that the bytes are, as the crate serde_json reads them
abbrev pub json_of : List ℕ → Option Data
json_of bytes = if is_utf8 bytes then read bytes else None

-- the values of a JSON list
abbrev pub listed : Items → List Data
listed no_items = []
listed (item value items) = value ∷ listed items

abbrev pub as_list : Data → Option (List Data)
as_list value = option_map listed (as_array value)

-- the text in a field
abbrev pub text_in : List ℕ → Data → Option (List ℕ)
text_in field value = option_and_then as_str (get field value)

-- the list in a field
abbrev pub list_in : List ℕ → Data → Option (List Data)
list_in field value = option_and_then as_list (get field value)
