-- How a path in a structure file is written (docs/formats.md, "Structures").
use Rattle.std.specs.Prelude.{ℕ, List, ◌++◌, codes, decimal}
use Rattle.structure_files.specs.declared.stop.Field.{Field}
use Rattle.structure_files.specs.declared.stop.Field.TheVariants.{Name, Role, Kind, Codes, Components}
use Rattle.structure_files.specs.declared.stop.Path.{Path}
use Rattle.structure_files.specs.declared.stop.Path.TheVariants.{Whole, Datasets, Set, SetField, Component, ComponentField}

abbrev pub field_text : Field → List ℕ
field_text Name = codes "name"
field_text Role = codes "role"
field_text Kind = codes "type"
field_text Codes = codes "codes"
field_text Components = codes "components"

-- as `datasets[0]`
abbrev pub set_text : ℕ → List ℕ
set_text i = codes "datasets[" ++ decimal i ++ codes "]"

-- as `datasets[0].components[1]`
abbrev pub component_text : ℕ → ℕ → List ℕ
component_text i j = set_text i ++ (codes ".components[" ++ decimal j ++ codes "]")

-- as `datasets[0].components[1].role`; the whole file is `-`
abbrev pub path_text : Path → List ℕ
path_text Whole = codes "-"
path_text Datasets = codes "datasets"
path_text (Set i) = set_text i
path_text (SetField i field) = set_text i ++ codes "." ++ field_text field
path_text (Component i j) = component_text i j
path_text (ComponentField i j field) = component_text i j ++ codes "." ++ field_text field
