-- The texts of releases (docs/formats.md, "Releases").
use Rattle.std.specs.Prelude.{ℕ, zero, suc, List, [], ◌++◌, codes, decimal, encode_utf8_all, refl}
use Rattle.std.specs.Coded.{Coded, code_by, coded×, coded_list, coded_ℕ}
use Rattle.std.specs.List.{flat_map}
use Rattle.vtl_values.specs.declared.structure.Component.{Component}
use Rattle.vtl_values.specs.contracts.structure.Component as component
use Rattle.point_sets.specs.DataSets.{DataSet, data_set_coded}
use Rattle.release_text.specs.Tables.{table}

-- a data set of a release with its name and its components
pub record Page : Type 0 where
  pub name : List ℕ
  pub components : List Component
  pub set : DataSet

-- the page of this name, these components and this set
abbrev pub page_of : List ℕ → List Component → DataSet → Page
page_of name components set = record { name = name; components = components; set = set }

abbrev pub page_coded : Coded Page
page_coded = code_by (List ℕ × (List Component × DataSet)) (coded× (coded_list coded_ℕ) (coded× (coded_list (component.the_row).coded) data_set_coded)) (λ p. (p.name, (p.components, p.set))) (λ t. page_of t.0 t.1.0 t.1.1) (λ _. refl)

-- the line `[name]`, with the name as its UTF-8, and the table
unfoldable pub page_text : Page → List ℕ
page_text page = codes "[" ++ encode_utf8_all page.name ++ codes "]\n" ++ table page.components page.set

-- what the line of a release says of its script: of the first one nothing
unfoldable pub script_said : ℕ → List ℕ
script_said zero = []
script_said (suc script) = codes " script " ++ decimal (suc script)

-- the line `release NUMBER prefix PREFIX`, with ` script SCRIPT` at its end where the script isn't the first one
unfoldable pub release_line : ℕ → ℕ → ℕ → List ℕ
release_line number prefix script = codes "release " ++ decimal number ++ codes " prefix " ++ decimal prefix ++ script_said script ++ codes "\n"

-- the release's line, and its pages in their order
unfoldable pub release : ℕ → ℕ → ℕ → List Page → List ℕ
release number prefix script pages = release_line number prefix script ++ flat_map page_text pages
