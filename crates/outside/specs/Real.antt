-- What the real shelf and sink are seen as: their faults, and nothing of what they hold.
use Rattle.std.specs.Prelude.{None}
use Rattle.outside.specs.declared.real.FolderShelf.{FolderShelf}
use Rattle.outside.specs.declared.real.StdoutSink.{StdoutSink}
use Rattle.outside.specs.Shelves.{ShelfView}
use Rattle.outside.specs.Sinks.{SinkView}

abbrev pub folder_view : {R F D : Type 0} → FolderShelf R F D → ShelfView
folder_view s = record { files = None; faults = s.faults; last = s.last; kept = s.kept }

abbrev pub stdout_view : {W : Type 0} → StdoutSink W → SinkView
stdout_view s = record { taken = None; room = 0; faults = s.faults }
