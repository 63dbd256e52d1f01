-- Steps of reading, each of which may refuse; the first refusal ends the reading.
use Rattle.std.specs.Prelude.{◌≡◌, List, [], Option, Some, None, Result, Ok, Err, ⊤}
use Rattle.std.specs.List.{fold}
use Rattle.structure_files.specs.declared.stop.Fault.{Fault}
use Rattle.structure_files.specs.declared.stop.Path.{Path}
use Rattle.structure_files.specs.declared.stop.Refusal.{Refusal}
use Rattle.structure_files.specs.declared.stop.StructureStop.{StructureStop}
use Rattle.structure_files.specs.declared.stop.StructureStop.TheVariants.{Refused, Memory}

-- a step, and then the next one with what it gave
infixl 10 ◌>>=◌
abbrev pub ◌>>=◌ : {A B : Type 0} → Result A Refusal → (A → Result B Refusal) → Result B Refusal
(Ok value) >>= next = next value
(Err refusal) >>= next = Err refusal

abbrev pub refused : {A : Type 0} → Fault → Path → Result A Refusal
refused fault path = Err (record { fault = fault; path = path })

-- what is there, and where nothing is the refusal
abbrev pub or_refused : {A : Type 0} → Option A → Fault → Path → Result A Refusal
or_refused (Some value) fault path = Ok value
or_refused None fault path = refused fault path

-- the items of a list one after another, each with what those before it gave
abbrev pub one_by_one : {A B : Type 0} → (List A → B → Result (List A) Refusal) → List B → Result (List A) Refusal
one_by_one next items = fold (λ so_far item. so_far >>= (λ before. next before item)) (Ok []) items

-- a stop is this refusal, or want of memory
abbrev pub Refuses : {A : Type 0} → Result A Refusal → StructureStop → Type 0
Refuses meaning (Refused refusal) = meaning ≡ Err refusal
Refuses meaning Memory = ⊤
