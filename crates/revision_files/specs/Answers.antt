-- Steps of reading, each of which may find a fault; the first fault ends the reading.
use Rattle.std.specs.Prelude.{◌≡◌, List, Option, Some, None, Result, Ok, Err, ⊤}
use Rattle.std.specs.List.{fold}
use Rattle.revision_files.specs.declared.stop.FeedFault.{FeedFault}
use Rattle.revision_files.specs.declared.stop.FeedStop.{FeedStop}
use Rattle.revision_files.specs.declared.stop.FeedStop.TheVariants.{Refused, Memory}

-- a step, and then the next one with what it gave
infixl 10 ◌>>=◌
abbrev pub ◌>>=◌ : {A B : Type 0} → Result A FeedFault → (A → Result B FeedFault) → Result B FeedFault
(Ok value) >>= next = next value
(Err fault) >>= next = Err fault

-- what is there, and where nothing is the fault
abbrev pub or_fault : {A : Type 0} → FeedFault → Option A → Result A FeedFault
or_fault fault (Some value) = Ok value
or_fault fault None = Err fault

-- the items of a list one after another, each with what those before it gave
abbrev pub one_by_one : {A B : Type 0} → (A → B → Result A FeedFault) → A → List B → Result A FeedFault
one_by_one next start items = fold (λ so_far item. so_far >>= (λ before. next before item)) (Ok start) items

-- a stop is this fault, or want of memory
abbrev pub Refuses : {A : Type 0} → Result A FeedFault → FeedStop → Type 0
Refuses meaning (Refused fault) = meaning ≡ Err fault
Refuses meaning Memory = ⊤
