-- The size of an outline in which names and calls became something else.
use Rattle.std.proofs.Common.{◌≡◌, ℕ, zero, suc, ◌+◌, Bool, true, false, if◌then◌else◌, List, [], ◌∷◌, Option, Some, None, map, length, drop, get_or, refl, sym, ap, ◌∙◌}
use Rattle.std.proofs.Math.Path.{ap₂}
use Rattle.std.specs.Prelude.{slice_get, unwrap_or}
use Rattle.std.specs.Option.{option_and_then}
use Rattle.vtl_values.specs.declared.place.Place.{Place}
use Rattle.vtl_syntax.specs.declared.words.Sort.{Sort}
use Rattle.vtl_syntax.specs.declared.operator.Param.{Param}
use Rattle.operator_faults.specs.declared.outline.What.{What}
use Rattle.operator_faults.specs.declared.outline.What.TheVariants as what
use Rattle.operator_faults.specs.declared.outline.Outline.{Outline, roll-Outline, fold-roll-Outline}
use Rattle.operator_faults.specs.Calls.{is_dataset}
use Rattle.operator_faults.specs.Outlines.{outline, has_name}
use Rattle.written_sizes.specs.declared.measure.Measure.{Measure}
use Rattle.written_sizes.specs.declared.form.Form.{Form}
use Rattle.written_sizes.specs.Arithmetic.{exact, plus, times}
use Rattle.written_sizes.specs.Replaced as made
use Rattle.written_sizes.specs.Replaced.{Names, Calls, same_name, same_call, remade_by, remade_step, remade, sorted_argument, sorted_from, bound}
use Rattle.written_sizes.specs.Weights.{node, returned, argument, times_of, own_of, with_arguments, with_names, all_times, applied, call_weight, weight_by, weigh_step, weighed, number_in}
use Rattle.written_sizes.proofs.Folds.{level, fold_same, fold-outline}

pub map-after : {A B C : Type 0} (f : B → C) (g : A → B) (xs : List A) → map f (map g xs) ≡ map (λ x. f (g x)) xs
map-after f g [] = refl
map-after f g (x ∷ xs) = λ i. f (g x) ∷ map-after f g xs i

abbrev pub each_one : List ℕ → ℕ
each_one w = 1

module _ (m : Measure) where
  -- where all calls stay
  abbrev pub size : Outline → ℕ
  size = weighed (exact m) m 1 each_one (call_weight (exact m) m 1 [] [])

  pub size-outline : (w : What) (os : List Outline) → size (outline w os) ≡ weight_by (exact m) m 1 each_one (call_weight (exact m) m 1 [] []) w (map size os)
  size-outline w os = fold-outline ℕ (weigh_step (exact m) m 1 each_one (call_weight (exact m) m 1 [] [])) w os

  pub size-name : (w : List ℕ) (p : Place) → size (same_name w p) ≡ 1
  size-name w p = size-outline (what.Name (record { name = w; place = p })) []

  pub size-call : (w : List ℕ) (os : List Outline) (p : Place) → size (same_call w os p) ≡ applied (exact m) m 1 [] None (map size os)
  size-call w os p = size-outline (what.Call (record { name = w; place = p; named = map has_name os })) os

  -- ---- sorts

  size-if : (d : Bool) (o : Outline) → size (if d then o else outline what.Plain (o ∷ [])) ≡ (if d then size o else node (exact m) m 1 what.Plain (size o ∷ []))
  size-if true o = refl
  size-if false o = size-outline what.Plain (o ∷ [])

  pub size-returned : (s : Option Sort) (o : Outline) → size (made.returned s o) ≡ returned (exact m) m 1 s (size o)
  size-returned None o = refl
  size-returned (Some s) o = size-if (is_dataset s) o

  size-argument : (q : Option Param) (o : Outline) → size (sorted_argument q o) ≡ argument (exact m) m 1 q (size o)
  size-argument None o = refl
  size-argument (Some q) o = size-if (is_dataset q.sort) o

  sorted-arguments : (ps : List Param) (form : Option Form) (i n : ℕ) (os : List Outline) → with_arguments (exact m) m 1 ps form i n (map size os) ≡ with_arguments (exact m) m 1 [] form i n (map size (sorted_from ps i os))
  sorted-arguments ps form i n [] = refl
  sorted-arguments ps form i n (o ∷ os) =
      sorted-arguments ps form (i + 1) (plus m n (times m (times_of m form i) (argument (exact m) m 1 (slice_get ps i) (size o)))) os
      ∙ ap (λ (k : ℕ). with_arguments (exact m) m 1 [] form (i + 1) (plus m n (times m (times_of m form i) k)) (map size (sorted_from ps (i + 1) os))) (sym (size-argument (slice_get ps i) o))

  length-sorted : (ps : List Param) (i : ℕ) (os : List Outline) → length (map size os) ≡ length (map size (sorted_from ps i os))
  length-sorted ps i [] = refl
  length-sorted ps i (o ∷ os) = ap suc (length-sorted ps (i + 1) os)

  -- sorts may be put to the arguments first
  pub applied-sorted : (ps : List Param) (form : Option Form) (os : List Outline) → applied (exact m) m 1 ps form (map size os) ≡ applied (exact m) m 1 [] form (map size (sorted_from ps 0 os))
  applied-sorted ps form os = ap₂ (λ (n l : ℕ). with_names (exact m) 1 n (drop l (all_times form))) (sorted-arguments ps form 0 (times m (own_of m form) 1) os) (length-sorted ps 0 os)

  -- ---- parameters

  -- what a parameter weighs, or a name that stays
  abbrev pub value : List ℕ → Option ℕ → ℕ
  value vs None = 1
  value vs (Some j) = get_or vs j 1

  size-at : (os : List Outline) (j : ℕ) (c : Outline) → size c ≡ 1 → size (unwrap_or (slice_get os j) c) ≡ get_or (map size os) j 1
  size-at [] j c h = h
  size-at (o ∷ os) zero c h = refl
  size-at (o ∷ os) (suc j) c h = size-at os j c h

  size-taken : (os : List Outline) (q : Option ℕ) (c : Outline) → size c ≡ 1 → size (unwrap_or (option_and_then (slice_get os) q) c) ≡ value (map size os) q
  size-taken os None c h = h
  size-taken os (Some j) c h = size-at os j c h

  pub size-bound : (ps : List Param) (os : List Outline) (w : List ℕ) (p : Place) → size (bound ps os w p) ≡ value (map size os) (number_in ps w)
  size-bound ps os w p = size-taken os (number_in ps w) (same_name w p) (size-name w p)

  -- ---- an outline made anew

  module _ (name : Names) (call : Calls) (names : List ℕ → ℕ) (calls : List ℕ → List ℕ → ℕ)
      (named : (w : List ℕ) (p : Place) → size (name w p) ≡ names w)
      (called : (w : List ℕ) (os : List Outline) (p : Place) → size (call w os p) ≡ calls w (map size os)) where
    abbrev after : Outline → ℕ
    after o = size (remade name call o)

    within : (w : What) (os : List Outline) → size (outline w (map (remade name call) os)) ≡ weight_by (exact m) m 1 each_one (call_weight (exact m) m 1 [] []) w (map after os)
    within w os = size-outline w (map (remade name call) os) ∙ ap (weight_by (exact m) m 1 each_one (call_weight (exact m) m 1 [] []) w) (map-after size (remade name call) os)

    by_what : (w : What) (os : List Outline) → size (remade_by name call w (map (remade name call) os)) ≡ weight_by (exact m) m 1 names calls w (map after os)
    by_what (what.Name s) os = named s.name s.place
    by_what (what.Call c) os = called c.name (map (remade name call) os) c.place ∙ ap (calls c.name) (map-after size (remade name call) os)
    by_what what.Plain os = within what.Plain os
    by_what what.Level os = within what.Level os
    by_what what.Inside os = within what.Inside os
    by_what what.InsideJoin os = within what.InsideJoin os

    goes : (w : What) (b : Bool) (os : List Outline) → after (roll-Outline (level w b os)) ≡ weigh_step (exact m) m 1 names calls (level w b (map after os))
    goes w b os = ap size (fold-roll-Outline Outline (remade_step name call) (level w b os)) ∙ by_what w os

    pub size-remade : (o : Outline) → size (remade name call o) ≡ weighed (exact m) m 1 names calls o
    size-remade o = fold_same ℕ (weigh_step (exact m) m 1 names calls) after goes o
