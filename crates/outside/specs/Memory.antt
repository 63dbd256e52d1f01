-- What the shelf and the sinks in memory are seen as: all that they hold.
use Rattle.std.specs.Prelude.{◌≡◌, ◌+◌, ◌-◌, ◌^◌, ◌⊎◌, ℕ, List, Option, Some, None, Result, Ok, Err, Contains, min, vec_len, vec_capacity}
use Rattle.std.specs.Option.{option_map}
use Rattle.std.specs.Ordering.{nat_cmp}
use Rattle.std.specs.Cmp.Lexicographic.{slice_cmp}
use Rattle.std.specs.BTreeMap.{BTreeMap, get}
use Rattle.std.specs.declared.vec.Vec.{Vec}
use Rattle.std.specs.declared.alloc.Global.{Global}
use Rattle.vtl_values.specs.declared.word.Word.{Word}
use Rattle.outside.specs.declared.memory.MemoryShelf.{MemoryShelf}
use Rattle.outside.specs.declared.memory.MemorySink.{MemorySink}
use Rattle.outside.specs.declared.memory.SureSink.{SureSink}
use Rattle.outside.specs.declared.shelf.ShelfStop.{ShelfStop}
use Rattle.outside.specs.declared.shelf.ShelfStop.TheVariants as shelf_stop
use Rattle.outside.specs.declared.sink.SinkStop.{SinkStop}
use Rattle.outside.specs.declared.sink.SinkStop.TheVariants as sink_stop
use Rattle.outside.specs.Shelves.{ShelfView}
use Rattle.outside.specs.Sinks.{SinkView}

-- the bytes under a name
abbrev pub bytes_at : BTreeMap Word (Vec ℕ Global) → List ℕ → Option (List ℕ)
bytes_at files name = option_map (λ v. v.items) (get (slice_cmp nat_cmp) files name)

abbrev pub shelf_view : MemoryShelf → ShelfView
shelf_view s = record { files = Some (bytes_at s.files); faults = s.faults; last = s.last; kept = s.kept }

-- a text shorter than this fits what a vector has room for
abbrev pub room_of : Vec ℕ Global → ℕ
room_of taken = (vec_capacity taken + 1) - vec_len taken

abbrev pub sink_view : MemorySink → SinkView
sink_view s = record { taken = Some s.taken.items; room = room_of s.taken; faults = s.faults }

abbrev pub sure_view : SureSink → SinkView
sure_view s = record { taken = Some s.taken.items; room = room_of s.taken; faults = 0 }

-- one more, up to the last value of its type
abbrev pub counted : ℕ → ℕ
counted n = min (n + 1) (2 ^ 64 - 1)

-- the call with this number is one of those that fail
abbrev pub IsToFail : Vec ℕ Global → ℕ → Type 0
IsToFail fail_at call = Contains fail_at.items call

-- the next read of this name fails: by its number, or since there is nothing under the name
abbrev pub IsFailingRead : MemoryShelf → List ℕ → Type 0
IsFailingRead s name = IsToFail s.fail_at s.calls ⊎ (bytes_at s.files name ≡ None)

-- the faults after a read: each failed one is counted once
abbrev pub faults_after_read : {A : Type 0} → Result A ShelfStop → ℕ → ℕ
faults_after_read (Err shelf_stop.Failed) n = counted n
faults_after_read (Err (shelf_stop.TooLong length)) n = n
faults_after_read (Err shelf_stop.Memory) n = n
faults_after_read (Ok bytes) n = n

-- the faults after a write: each failed one is counted once
abbrev pub faults_after_write : {A : Type 0} → Result A SinkStop → ℕ → ℕ
faults_after_write (Err sink_stop.Failed) n = counted n
faults_after_write (Err sink_stop.Memory) n = n
faults_after_write (Ok u) n = n
