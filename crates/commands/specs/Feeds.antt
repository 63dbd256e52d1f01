-- The stage of a feed: its revisions, or the line of its first fault (docs/formats.md, "Feeds").
use Rattle.std.specs.Prelude.{ℕ, List, ◌++◌, Result, Ok, Err, codes, decimal}
use Rattle.point_sets.specs.declared.revision.Revision.{Revision}
use Rattle.vtl_values.specs.Structures.{NamedStructures}
use Rattle.revision_files.specs.declared.stop.FeedFault.{FeedFault}
use Rattle.revision_files.specs.declared.stop.FeedFault.TheVariants.{NotUtf8, BadHeader, FieldCount, BadAction, TooMany}
use Rattle.revision_files.specs.Feeds.{feed_of}
use Rattle.round_runs.specs.Answers.{Answer}
use Rattle.commands.specs.Stages.{Stage}

-- the line of a feed that is refused, up to the fault; feeds are numbered from 1 in the order of the words
abbrev pub feed_at : ℕ → ℕ → List ℕ
feed_at block row = codes "feed 1 block " ++ (decimal block ++ (codes " row " ++ (decimal row ++ codes " ")))

-- the line, up to the fault: a block or row that doesn't apply is 0
abbrev pub fault_at : FeedFault → List ℕ
fault_at NotUtf8 = feed_at 0 0
fault_at (BadHeader block) = feed_at block 0
fault_at (FieldCount block row) = feed_at block row
fault_at (BadAction block row) = feed_at block row
fault_at (TooMany block row) = feed_at block row

-- a fault, as the end of its line
abbrev pub feed_fault_end : FeedFault → List ℕ
feed_fault_end NotUtf8 = codes "NotUtf8\n"
feed_fault_end (BadHeader block) = codes "BadHeader\n"
feed_fault_end (FieldCount block row) = codes "FieldCount\n"
feed_fault_end (BadAction block row) = codes "BadAction\n"
feed_fault_end (TooMany block row) = codes "TooMany\n"

abbrev pub refused_feed : FeedFault → Answer
refused_feed fault = record { status = 4; text = fault_at fault ++ feed_fault_end fault }

abbrev pub told_feed : Result (List Revision) FeedFault → Stage (List Revision)
told_feed (Ok revisions) = Ok revisions
told_feed (Err fault) = Err (refused_feed fault)

-- the revisions of a feed for data sets of these structures
abbrev pub revisions_in : NamedStructures → List ℕ → Stage (List Revision)
revisions_in structures bytes = told_feed (feed_of structures bytes)
