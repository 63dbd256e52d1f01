-- Steps of reading that follow one another.
use Rattle.std.proofs.Common.{◌≡◌, ℕ, ◌+◌, ◌<◌, List, [], ◌∷◌, length, take, map, get_or, Result, Ok, Err, IfErr, IsErrAnd, refl, sym, subst, ap, ◌∙◌}
use Rattle.std.proofs.lemmas.List.Sums.{fold_more}
use Rattle.std.proofs.lemmas.List.Folds.{fold-map, fold_stuck}
use Rattle.serde_json.specs.View.{view, items_view}
use Rattle.serde_json.specs.declared.value.Value.{Value}
use Rattle.structure_files.specs.declared.stop.Refusal.{Refusal}
use Rattle.structure_files.specs.declared.stop.StructureStop.{StructureStop}
use Rattle.structure_files.specs.declared.stop.StructureStop.TheVariants.{Refused, Memory}
use Rattle.structure_files.specs.Json.{listed}
use Rattle.structure_files.specs.Refusals.{◌>>=◌, one_by_one, Refuses}

pub listed-items_view : (values : List Value) → listed (items_view values) ≡ map view values
listed-items_view [] = refl
listed-items_view (v ∷ values) = ap (λ rest. view v ∷ rest) (listed-items_view values)

pub goes_on : {A B : Type 0} (r : Result A Refusal) (next : A → Result B Refusal) (value : A) → r ≡ Ok value → (r >>= next) ≡ next value
goes_on r next value is = ap (λ q. q >>= next) is

pub ends : {A B : Type 0} (r : Result A Refusal) (next : A → Result B Refusal) (refusal : Refusal) → r ≡ Err refusal → (r >>= next) ≡ Err refusal
ends r next refusal is = ap (λ q. q >>= next) is

-- one item more
pub one_more : {A B X : Type 0} (next : List A → B → Result (List A) Refusal) (f : X → B) (xs : List X) (i : ℕ) (d : X) (before after : List A) → i < length xs → one_by_one next (map f (take i xs)) ≡ Ok before → next before (f (get_or xs i d)) ≡ Ok after → one_by_one next (map f (take (i + 1) xs)) ≡ Ok after
one_more {A} {B} {X} next f xs i d before after within so_far step =
    let each : Result (List A) Refusal → X → Result (List A) Refusal = λ so x. so >>= (λ b. next b (f x)) in
    fold-map (λ so y. so >>= (λ b. next b y)) f (Ok []) (take (i + 1) xs)
    ∙ fold_more each (Ok []) xs i d within
    ∙ ap (λ so. each so (get_or xs i d)) (sym (fold-map (λ so y. so >>= (λ b. next b y)) f (Ok []) (take i xs)) ∙ so_far)
    ∙ step

-- an item that is refused
pub one_refused : {A B X : Type 0} (next : List A → B → Result (List A) Refusal) (f : X → B) (xs : List X) (i : ℕ) (d : X) (before : List A) (refusal : Refusal) → i < length xs → one_by_one next (map f (take i xs)) ≡ Ok before → next before (f (get_or xs i d)) ≡ Err refusal → one_by_one next (map f xs) ≡ Err refusal
one_refused {A} {B} {X} next f xs i d before refusal within so_far step =
    let each : Result (List A) Refusal → X → Result (List A) Refusal = λ so x. so >>= (λ b. next b (f x)) in
    fold-map (λ so y. so >>= (λ b. next b y)) f (Ok []) xs
    ∙ sym (fold_stuck each (Err refusal) (λ _. refl) (Ok []) xs i d within
    (ap (λ so. each so (get_or xs i d)) (sym (fold-map (λ so y. so >>= (λ b. next b y)) f (Ok []) (take i xs)) ∙ so_far) ∙ step))

stops_at : {A B X : Type 0} (next : List A → B → Result (List A) Refusal) (f : X → B) (xs : List X) (i : ℕ) (d : X) (before : List A) (stop : StructureStop) → i < length xs → one_by_one next (map f (take i xs)) ≡ Ok before → Refuses (next before (f (get_or xs i d))) stop → Refuses (one_by_one next (map f xs)) stop
stops_at next f xs i d before (Refused refusal) within so_far refuses = one_refused next f xs i d before refusal within so_far refuses
stops_at next f xs i d before Memory within so_far refuses = tt

-- an item at which the reading stops
pub stops : {A B X : Type 0} (next : List A → B → Result (List A) Refusal) (f : X → B) (xs : List X) (i : ℕ) (x : X) (before : List A) (stop : StructureStop) → i < length xs → x ≡ get_or xs i x → one_by_one next (map f (take i xs)) ≡ Ok before → Refuses (next before (f x)) stop → Refuses (one_by_one next (map f xs)) stop
stops next f xs i x before stop within at so_far refuses = stops_at next f xs i x before stop within so_far (subst (λ v. Refuses (next before (f v)) stop) at refuses)

-- a stop that is passed on
pub passed_on : {A B : Type 0} (meaning : Result A Refusal) (answer : Result B StructureStop) (stop : StructureStop) → Refuses meaning stop → IsErrAnd answer (λ given. given ≡ stop) → IfErr answer (Refuses meaning)
passed_on meaning (Ok value) stop refuses given = tt
passed_on meaning (Err given) stop refuses is = subst (Refuses meaning) (sym is) refuses
