use Rattle.std.proofs.Common.{◌≡◌, map, take, true}
use Rattle.std.specs.List.{list_all}
use Rattle.revision_files.specs.Columns.{column_of, is_among, names_of}
use Rattle.revision_files.proofs.columns.component_columns.Given as goal

abbrev pub invariant-loop-component : goal.invariant-loop-component
invariant-loop-component l = (l.columns.items ≡ map (column_of l.names.keys) (names_of (take l.component-index l.components)))
    × (list_all (is_among l.names.keys) (names_of (take l.component-index l.components)) ≡ true)
