-- Numbers of components of two data sets.
use Rattle.std.proofs.Common.{ℕ, ◌+◌, ◌<◌, ◌≤◌, ◌^◌, Bool, true, false, List, [], ◌∷◌, length, Option, Some, None, option_map, if◌then◌else◌, arith}
use Rattle.std.specs.Prelude.{zip, find, filter_map}
use Rattle.std.specs.List.{All, cons_option}
use Rattle.std.proofs.lemmas.List.Elements.{All-nil, All-cons, All-head, All-tail, All-weaker}
use Rattle.vtl_values.specs.declared.kind.Role.TheVariants as role
use Rattle.vtl_values.specs.declared.structure.Component.{Component}
use Rattle.data_set_trees.specs.clauses.Frames.{has_role}
use Rattle.data_set_trees.specs.declared.measure.Measure.{Measure}
use Rattle.data_set_trees.specs.Components.{measures, measures_from, numbered}
use Rattle.data_set_trees.specs.Pairs.{is_called, meeting}
use Rattle.data_set_typing.specs.Plans.{met_of}

-- the numbers of measures are those of components
number_below : (n : ℕ) (cs : List Component) → All (λ m. m.number < n + length cs) (measures_from n cs)
number_below n [] = All-nil (λ (m : Measure). m.number < n + 0)
number_below n (c ∷ cs) =
    let P : Measure → Type 0 = λ m. m.number < (n + 1) + length cs in
    let Q : Measure → Type 0 = λ m. m.number < n + length (c ∷ cs) in
    let rest = measures_from (n + 1) cs in
    let wider : All Q rest = All-weaker P Q (λ m h. omega arith) rest (number_below (n + 1) cs) in
    elim (has_role role.Measure c) as (λ (b : Bool). All Q (if b then numbered n c ∷ rest else rest)) [
      | true ↦ All-cons Q (numbered n c) rest (omega arith) wider
      | false ↦ wider
    ]

abbrev Second : (Measure → Type 0) → Measure × Measure → Type 0
Second P p = P p.1

found_one : (P : Measure → Type 0) (q : Measure → Bool) (m : Measure) (ns : List Measure) (rest : List (Measure × Measure)) → All P ns → All (Second P) rest → All (Second P) (cons_option (option_map (λ n. (m, n)) (find q ns)) rest)
found_one P q m [] rest all more = more
found_one P q m (n ∷ ns) rest all more =
    elim (q n) as (λ (b : Bool). All (Second P) (cons_option (option_map (λ n. (m, n)) (if b then Some n else find q ns)) rest)) [
      | true ↦ All-cons (Second P) (m, n) rest (All-head P n ns all) more
      | false ↦ found_one P q m ns rest (All-tail P n ns all) more
    ]

all_by_name : (P : Measure → Type 0) (ms ns : List Measure) → All P ns → All (Second P) (filter_map (λ m. option_map (λ n. (m, n)) (find (is_called m.name) ns)) ms)
all_by_name P [] ns all = All-nil (Second P)
all_by_name P (m ∷ ms) ns all = found_one P (is_called m.name) m ns (filter_map (λ m. option_map (λ n. (m, n)) (find (is_called m.name) ns)) ms) all (all_by_name P ms ns all)

all_in_order : (P : Measure → Type 0) (ms ns : List Measure) → All P ns → All (Second P) (zip ms ns)
all_in_order P [] ns all = All-nil (Second P)
all_in_order P (m ∷ ms) [] all = All-nil (Second P)
all_in_order P (m ∷ ms) (n ∷ ns) all = All-cons (Second P) (m, n) (zip ms ns) (All-head P n ns all) (all_in_order P ms ns (All-tail P n ns all))

all_met : (P : Measure → Type 0) (changed : Option (List ℕ)) (ms ns : List Measure) → All P ns → All (Second P) (meeting changed ms ns)
all_met P None ms ns all = all_by_name P ms ns all
all_met P (Some name) ms ns all = all_in_order P ms ns all

-- the number of a component of the second data set has room after those of the first
pub has_room : (changed : Option (List ℕ)) (s t : List Component) → length s + length t ≤ 2 ^ 64 → All (λ p. length s + p.1.number < 2 ^ 64) (met_of changed s t)
has_room changed s t short =
    let P : Measure → Type 0 = λ m. length s + m.number < 2 ^ 64 in
    let below : All P (measures t) = All-weaker (λ m. m.number < 0 + length t) P (λ m h. omega arith) (measures t) (number_below 0 t) in
    all_met P changed (measures s) (measures t) below
