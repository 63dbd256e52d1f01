use Rattle.std.proofs.Common.{◌≡◌, ℕ, List, take}
use Rattle.revision_files.specs.Columns.{is_among}
use Rattle.revision_files.specs.Texts.{wanted_of}
use Rattle.revision_files.proofs.columns.wanted_names.Given as goal

abbrev pub invariant-loop-component : goal.invariant-loop-component
invariant-loop-component l = (name : List ℕ) → is_among l.names.keys name ≡ is_among (wanted_of (take l.component-index l.components)) name
