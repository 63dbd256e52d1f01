-- Steps of typing, one after the other.
use Rattle.std.proofs.Common.{◌≡◌, ℕ, ◌+◌, ◌<◌, List, [], ◌∷◌, ◌++◌, Result, Ok, Err, length, get_or, drop, refl, sym, ap, ◌∙◌}
use Rattle.std.proofs.lemmas.List.{drop_more, append_assoc, append-nil}
use Rattle.scalar_trees.specs.declared.typing.stop.Refusal.{Refusal}
use Rattle.scalar_trees.specs.declared.typing.stop.TypeStop.{TypeStop}
use Rattle.scalar_trees.specs.typing.Steps.{◌>>=◌, Refuses}
use Rattle.operator_typing.proofs.Steps.{stops_same, stops_there}
use Rattle.data_set_parts.specs.Walks.{each}
use Rattle.data_set_parts.proofs.Follows.{assoc}

starts : {Y : Type 0} (m : Result (List Y) Refusal) → m ≡ (m >>= (λ ys. Ok ([] ++ ys)))
starts (Ok ys) = refl
starts (Err refusal) = refl

-- what is left of a walk, after these
abbrev pub left_after : {X Y : Type 0} → (X → Result Y Refusal) → List Y → List X → Result (List Y) Refusal
left_after h all xs = each h xs >>= (λ ys. Ok (all ++ ys))

pub each_starts : {X Y : Type 0} (h : X → Result Y Refusal) (xs : List X) → each h xs ≡ left_after h [] xs
each_starts h xs = starts (each h xs)

head_left : {X Y : Type 0} (h : X → Result Y Refusal) (all : List Y) (x : X) (y : Y) (xs : List X) → h x ≡ Ok y → left_after h all (x ∷ xs) ≡ left_after h (all ++ y ∷ []) xs
head_left {X} {Y} h all x y xs is =
    let told : List Y → Result (List Y) Refusal = λ ys. Ok ys in
    let more : (ys : List Y) → told (all ++ (y ∷ ys)) ≡ told ((all ++ y ∷ []) ++ ys) = λ ys. ap told (sym (append_assoc all (y ∷ []) ys)) in
    ap (λ (m : Result Y Refusal). (m >>= (λ y. each h xs >>= (λ ys. Ok (y ∷ ys)))) >>= (λ ys. Ok (all ++ ys))) is
    ∙ assoc (each h xs) (λ ys. Ok (y ∷ ys)) (λ ys. Ok (all ++ ys))
    ∙ (λ i. each h xs >>= (λ ys. more ys i))

at_item : {X Y : Type 0} (h : X → Result Y Refusal) (all : List Y) (xs : List X) (i : ℕ) (x : X) → i < length xs → x ≡ get_or xs i x → left_after h all (drop i xs) ≡ left_after h all (x ∷ drop (i + 1) xs)
at_item {X} h all xs i x within read = ap (left_after h all) (drop_more xs i x within ∙ ap (λ (z : X). z ∷ drop (i + 1) xs) (sym read))

-- an item gave something
pub each_more : {X Y : Type 0} (h : X → Result Y Refusal) (xs : List X) (i : ℕ) (x : X) (y : Y) (all : List Y) → i < length xs → x ≡ get_or xs i x → h x ≡ Ok y → each h xs ≡ left_after h all (drop i xs) → each h xs ≡ left_after h (all ++ y ∷ []) (drop (i + 1) xs)
each_more h xs i x y all within read is so_far = so_far ∙ at_item h all xs i x within read ∙ head_left h all x y (drop (i + 1) xs) is

-- an item has a fault
pub each_stops : {X Y : Type 0} (h : X → Result Y Refusal) (xs : List X) (i : ℕ) (x : X) (all : List Y) (stop : TypeStop) → i < length xs → x ≡ get_or xs i x → Refuses (h x) stop → each h xs ≡ left_after h all (drop i xs) → Refuses (each h xs) stop
each_stops h xs i x all stop within read refuses so_far =
    stops_same (left_after h all (x ∷ drop (i + 1) xs)) (each h xs) stop (sym (so_far ∙ at_item h all xs i x within read))
    (stops_there (each h (x ∷ drop (i + 1) xs)) (λ ys. Ok (all ++ ys)) stop (stops_there (h x) (λ y. each h (drop (i + 1) xs) >>= (λ ys. Ok (y ∷ ys))) stop refuses))

-- all of them did
pub each_ends : {X Y : Type 0} (h : X → Result Y Refusal) (xs rest : List X) (all : List Y) → rest ≡ [] → each h xs ≡ left_after h all rest → each h xs ≡ Ok all
each_ends {X} h xs rest all none so_far = so_far ∙ ap (left_after h all) none ∙ ap Ok (append-nil all)
