-- Steps of reading that follow one another.
use Rattle.std.proofs.Common.{◌≡◌, List, [], ◌∷◌, Result, Ok, Err, IfErr, IsErrAnd, refl, sym, subst, ap, ◌∙◌}
use Rattle.std.specs.List.{fold}
use Rattle.revision_files.specs.declared.stop.FeedFault.{FeedFault}
use Rattle.revision_files.specs.declared.stop.FeedStop.{FeedStop}
use Rattle.revision_files.specs.declared.stop.FeedStop.TheVariants.{Refused, Memory}
use Rattle.revision_files.specs.Answers.{◌>>=◌, one_by_one, Refuses}

pub goes_on : {A B : Type 0} (r : Result A FeedFault) (next : A → Result B FeedFault) (value : A) → r ≡ Ok value → (r >>= next) ≡ next value
goes_on r next value is = ap (λ q. q >>= next) is

pub ends : {A B : Type 0} (r : Result A FeedFault) (next : A → Result B FeedFault) (fault : FeedFault) → r ≡ Err fault → (r >>= next) ≡ Err fault
ends r next fault is = ap (λ q. q >>= next) is

-- once there is a fault, no item changes it
fold_ended : {A B : Type 0} (next : A → B → Result A FeedFault) (fault : FeedFault) (items : List B) → fold (λ so_far item. so_far >>= (λ before. next before item)) (Err fault) items ≡ Err fault
fold_ended next fault [] = refl
fold_ended next fault (item ∷ items) = fold_ended next fault items

-- an item that is read
pub one_read : {A B : Type 0} (next : A → B → Result A FeedFault) (before after : A) (item : B) (items : List B) → next before item ≡ Ok after → one_by_one next before (item ∷ items) ≡ one_by_one next after items
one_read next before after item items is = ap (λ so_far. fold (λ so_far item. so_far >>= (λ before. next before item)) so_far items) is

-- an item that has a fault
pub one_refused : {A B : Type 0} (next : A → B → Result A FeedFault) (before : A) (item : B) (items : List B) (fault : FeedFault) → next before item ≡ Err fault → one_by_one next before (item ∷ items) ≡ Err fault
one_refused next before item items fault is = ap (λ so_far. fold (λ so_far item. so_far >>= (λ before. next before item)) so_far items) is ∙ fold_ended next fault items

-- an item at which the reading stops
pub stops : {A B : Type 0} (next : A → B → Result A FeedFault) (before : A) (item : B) (items : List B) (stop : FeedStop) → Refuses (next before item) stop → Refuses (one_by_one next before (item ∷ items)) stop
stops next before item items (Refused fault) refuses = one_refused next before item items fault refuses
stops next before item items Memory refuses = tt

-- a stop of a step is one of all steps
pub stops_there : {A B : Type 0} (r : Result A FeedFault) (next : A → Result B FeedFault) (stop : FeedStop) → Refuses r stop → Refuses (r >>= next) stop
stops_there r next (Refused fault) refuses = ends r next fault refuses
stops_there r next Memory refuses = tt

-- a stop that is passed on
pub passed_on : {A B : Type 0} (meaning : Result A FeedFault) (answer : Result B FeedStop) (stop : FeedStop) → Refuses meaning stop → IsErrAnd answer (λ given. given ≡ stop) → IfErr answer (Refuses meaning)
passed_on meaning (Ok value) stop refuses given = tt
passed_on meaning (Err given) stop refuses is = subst (Refuses meaning) (sym is) refuses

-- a stop of what means the same
pub stops_same : {A : Type 0} (m n : Result A FeedFault) (stop : FeedStop) → m ≡ n → Refuses m stop → Refuses n stop
stops_same m n stop same refuses = subst (λ r. Refuses r stop) same refuses
