-- How many points changes bring and take away.
use Rattle.std.proofs.Common.{◌≡◌, ℕ, ◌+◌, ◌-◌, List, [], ◌∷◌, map, Bool, ◌&&◌, cond, refl, sym, ◌∙◌, ap, Some, None}
use Rattle.std.specs.Prelude.{count_by, is_some, is_none}
use Rattle.std.specs.FinMap.{entries}
use Rattle.std.proofs.lemmas.List.Sums.{sum_by-cons}
use Rattle.data_model.specs.Deltas.{Pair, is_gain, is_loss, gained, lost, count_after}
use Rattle.vtl_values.specs.declared.value.Value.{Value}
use Rattle.point_sets.specs.Changes.{Changes, change_entry, values_of}
use Rattle.point_sets.specs.declared.delta.Change.{Change}

gains_there : (c : Change) → is_gain (change_entry c).1 ≡ (is_none c.old && is_some c.new)
gains_there c = elim c.old as (λ o. (is_none (values_of o) && is_some (values_of c.new)) ≡ (is_none o && is_some c.new)) [
  | None ↦ elim c.new as (λ o. is_some (values_of o) ≡ is_some o) [ None ↦ refl | Some p ↦ refl ]
  | Some p ↦ refl
]

losses_there : (c : Change) → is_loss (change_entry c).1 ≡ (is_some c.old && is_none c.new)
losses_there c = elim c.old as (λ o. (is_some (values_of o) && is_none (values_of c.new)) ≡ (is_some o && is_none c.new)) [
  | None ↦ refl
  | Some p ↦ elim c.new as (λ o. is_none (values_of o) ≡ is_none o) [ None ↦ refl | Some q ↦ refl ]
]

count-seen : {A B : Type 0} (f : A → B) (p : B → Bool) (q : A → Bool) → ((x : A) → p (f x) ≡ q x) → (xs : List A) → count_by p (map f xs) ≡ count_by q xs
count-seen f p q same [] = refl
count-seen {A} {B} f p q same (x ∷ xs) =
    sum_by-cons (λ (y : B). cond (p y) 1 0) (f x) (map f xs)
    ∙ (λ i. cond (same x i) 1 0 + count-seen f p q same xs i)
    ∙ sym (sum_by-cons (λ (y : A). cond (q y) 1 0) x xs)

map-map : {A B C : Type 0} (g : B → C) (f : A → B) (xs : List A) → map g (map f xs) ≡ map (λ x. g (f x)) xs
map-map g f [] = refl
map-map {C = C} g f (x ∷ xs) = ap (λ (t : List C). g (f x) ∷ t) (map-map g f xs)

-- the points after a delta of these changes
pub count_after-changes : (cs : List Change) (d : Changes) (before g l : ℕ) → map change_entry cs ≡ entries d → g ≡ count_by (λ c. is_none c.old && is_some c.new) cs → l ≡ count_by (λ c. is_some c.old && is_none c.new) cs → (before + g) - l ≡ count_after before d
count_after-changes cs d before g l is gains losses =
    let values : map (λ e. e.1) (entries d) ≡ map (λ c. (change_entry c).1) cs = ap (map (λ (e : List Value × Pair (List Value)). e.1)) (sym is) ∙ map-map (λ (e : List Value × Pair (List Value)). e.1) change_entry cs in
    let more : g ≡ gained d = gains ∙ sym (ap (count_by is_gain) values ∙ count-seen (λ c. (change_entry c).1) is_gain (λ c. is_none c.old && is_some c.new) gains_there cs) in
    let fewer : l ≡ lost d = losses ∙ sym (ap (count_by is_loss) values ∙ count-seen (λ c. (change_entry c).1) is_loss (λ c. is_some c.old && is_none c.new) losses_there cs) in
    (λ i. (before + more i) - fewer i)
