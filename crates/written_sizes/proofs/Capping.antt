-- Weights that are limited on the way are those that are limited at the end.
use Rattle.std.proofs.Common.{◌≡◌, ℕ, zero, suc, ◌+◌, ◌==◌, Bool, true, false, if◌then◌else◌, List, [], ◌∷◌, ◌++◌, Option, Some, None, map, length, drop, get_or, refl, sym, ap, ◌∙◌, cond}
use Rattle.std.proofs.Math.Path.{ap₂}
use Rattle.std.proofs.lemmas.List.{length-map, map-append}
use Rattle.std.specs.Prelude.{fold, slice_get}
use Rattle.std.specs.Option.{option_map}
use Rattle.vtl_syntax.specs.declared.words.Sort.{Sort}
use Rattle.vtl_syntax.specs.declared.operator.DefinedOperator.{DefinedOperator}
use Rattle.vtl_syntax.specs.declared.operator.Param.{Param}
use Rattle.operator_faults.specs.declared.outline.What.{What}
use Rattle.operator_faults.specs.declared.outline.What.TheVariants as what
use Rattle.operator_faults.specs.declared.outline.Outline.{Outline, roll-Outline, fold-roll-Outline}
use Rattle.operator_faults.specs.Names.{same_word}
use Rattle.operator_faults.specs.Calls.{operator_of, is_dataset}
use Rattle.operator_faults.specs.Outlines.{outlined}
use Rattle.written_sizes.specs.declared.measure.Measure.{Measure}
use Rattle.written_sizes.specs.declared.measure.Measure.TheVariants as measure
use Rattle.written_sizes.specs.declared.form.Form.{Form}
use Rattle.written_sizes.specs.declared.form.Share.{Share}
use Rattle.written_sizes.specs.declared.form.Share.TheVariants as share
use Rattle.written_sizes.specs.Arithmetic.{Arithmetic, exact, limited, capped, plus, times, factor, alone}
use Rattle.written_sizes.specs.Replaced.{replaced}
use Rattle.written_sizes.specs.Weights.{node, returned, argument, form_of, own_of, times_of, with_arguments, all_times, with_names, params_of, returns_of, applied, call_weight, weight_by, weigh_step, weighed, unit_of, name_at, number_in, name_weight, weight, shares, form, next_forms, forms}
use Rattle.written_sizes.proofs.Folds.{level, fold_same}
use Rattle.written_sizes.proofs.Numbers.{capped-plus, capped-times, times-capped}
use Rattle.written_sizes.proofs.Sizing.{map-after, size}
use Rattle.written_sizes.proofs.Opened.{replaced_size}

map-drop : (f : ℕ → ℕ) (n : ℕ) (xs : List ℕ) → map f (drop n xs) ≡ drop n (map f xs)
map-drop f zero xs = refl
map-drop f (suc n) [] = refl
map-drop f (suc n) (x ∷ xs) = map-drop f n xs

get_or-map : (f : ℕ → ℕ) → f 0 ≡ 0 → (xs : List ℕ) (i : ℕ) → get_or (map f xs) i 0 ≡ f (get_or xs i 0)
get_or-map f z [] i = sym z
get_or-map f z (x ∷ xs) zero = refl
get_or-map f z (x ∷ xs) (suc i) = get_or-map f z xs i

capped-zero : (m : Measure) → capped m 0 ≡ 0
capped-zero measure.Expressions = refl
capped-zero measure.Levels = refl

capped-one : (m : Measure) → capped m 1 ≡ 1
capped-one measure.Expressions = refl
capped-one measure.Levels = refl

module _ (m : Measure) where
  abbrev cap : ℕ → ℕ
  cap n = capped m n

  abbrev less : Arithmetic
  less = limited m

  abbrev pub capped_form : Form → Form
  capped_form f = record { own = cap f.own; times = map cap f.times }

  fold-cap : (a : ℕ) (ns : List ℕ) → cap (fold (plus m) a ns) ≡ fold less.add (cap a) (map cap ns)
  fold-cap a [] = refl
  fold-cap a (n ∷ ns) = fold-cap (plus m a n) ns ∙ ap (λ (k : ℕ). fold less.add k (map cap ns)) (capped-plus m a n)

  node-cap : (u : ℕ) (w : What) (ns : List ℕ) → cap (node (exact m) m u w ns) ≡ node less m u w (map cap ns)
  node-cap u w ns = capped-times m (factor m w) (fold (plus m) (times m (alone m w) u) ns) ∙ ap (λ (k : ℕ). cap (times m (factor m w) k)) (fold-cap (times m (alone m w) u) ns)

  typed-if : (d : Bool) (u n : ℕ) → cap (if d then n else node (exact m) m u what.Plain (n ∷ [])) ≡ (if d then cap n else node less m u what.Plain (cap n ∷ []))
  typed-if true u n = refl
  typed-if false u n = node-cap u what.Plain (n ∷ [])

  returned-cap : (s : Option Sort) (u n : ℕ) → cap (returned (exact m) m u s n) ≡ returned less m u s (cap n)
  returned-cap None u n = refl
  returned-cap (Some s) u n = typed-if (is_dataset s) u n

  argument-cap : (q : Option Param) (u n : ℕ) → cap (argument (exact m) m u q n) ≡ argument less m u q (cap n)
  argument-cap None u n = refl
  argument-cap (Some q) u n = typed-if (is_dataset q.sort) u n

  own-cap : (f : Option Form) (u : ℕ) → cap (times m (own_of m f) u) ≡ cap (times m (own_of m (option_map capped_form f)) u)
  own-cap None u = refl
  own-cap (Some f) u = times-capped m f.own u

  times-cap : (f : Option Form) (i n : ℕ) → cap (times m (times_of m f i) n) ≡ cap (times m (times_of m (option_map capped_form f) i) (cap n))
  times-cap None i n = capped-times m (times_of m None i) n
  times-cap (Some f) i n =
      capped-times m (get_or f.times i 0) n
      ∙ times-capped m (get_or f.times i 0) (cap n)
      ∙ ap (λ (t : ℕ). cap (times m t (cap n))) (sym (get_or-map cap (capped-zero m) f.times i))

  arguments-cap : (u : ℕ) (ps : List Param) (f : Option Form) (i n : ℕ) (ns : List ℕ) → cap (with_arguments (exact m) m u ps f i n ns) ≡ with_arguments less m u ps (option_map capped_form f) i (cap n) (map cap ns)
  arguments-cap u ps f i n [] = refl
  arguments-cap u ps f i n (a ∷ as') =
      let x = argument (exact m) m u (slice_get ps i) a in
      arguments-cap u ps f (i + 1) (plus m n (times m (times_of m f i) x)) as'
      ∙ ap (λ (k : ℕ). with_arguments less m u ps (option_map capped_form f) (i + 1) k (map cap as'))
      (capped-plus m n (times m (times_of m f i) x) ∙ ap (λ (k : ℕ). less.add (cap n) k) (times-cap f i x ∙ ap (λ (k : ℕ). less.multiply (times_of m (option_map capped_form f) i) k) (argument-cap (slice_get ps i) u a)))

  names-cap : (u n : ℕ) (ts : List ℕ) → cap (with_names (exact m) u n ts) ≡ with_names less u (cap n) (map cap ts)
  names-cap u n [] = refl
  names-cap u n (t ∷ ts) =
      names-cap u (plus m n (times m t u)) ts
      ∙ ap (λ (k : ℕ). with_names less u k (map cap ts)) (capped-plus m n (times m t u) ∙ ap (λ (k : ℕ). less.add (cap n) k) (times-capped m t u))

  all-cap : (f : Option Form) → map cap (all_times f) ≡ all_times (option_map capped_form f)
  all-cap None = refl
  all-cap (Some f) = refl

  applied-cap : (u : ℕ) (ps : List Param) (f : Option Form) (ns : List ℕ) → cap (applied (exact m) m u ps f ns) ≡ applied less m u ps (option_map capped_form f) (map cap ns)
  applied-cap u ps f ns =
      let g = option_map capped_form f in
      names-cap u (with_arguments (exact m) m u ps f 0 (times m (own_of m f) u) ns) (drop (length ns) (all_times f))
      ∙ ap₂ (λ (n : ℕ) (ts : List ℕ). with_names less u n ts)
      (arguments-cap u ps f 0 (times m (own_of m f) u) ns ∙ ap (λ (n : ℕ). with_arguments less m u ps g 0 n (map cap ns)) (own-cap f u))
      (map-drop cap (length ns) (all_times f) ∙ ap₂ (λ (k : ℕ) (ts : List ℕ). drop k ts) (sym (length-map ns cap)) (all-cap f))

  found-if : (b : Bool) (f : Form) (fs : Option Form) (gs : Option Form) → gs ≡ option_map capped_form fs → cond b (Some (capped_form f)) gs ≡ option_map capped_form (cond b (Some f) fs)
  found-if true f fs gs h = refl
  found-if false f fs gs h = h

  form_of-cap : (os : List DefinedOperator) (fs : List Form) (w : List ℕ) → form_of os (map capped_form fs) w ≡ option_map capped_form (form_of os fs w)
  form_of-cap [] fs w = refl
  form_of-cap (o ∷ os) [] w = refl
  form_of-cap (o ∷ os) (f ∷ fs) w = found-if (same_word o.name w) f (form_of os fs w) (form_of os (map capped_form fs) w) (form_of-cap os fs w)

  call-cap : (u : ℕ) (os : List DefinedOperator) (fs : List Form) (w : List ℕ) (ns : List ℕ) → cap (call_weight (exact m) m u os fs w ns) ≡ call_weight less m u os (map capped_form fs) w (map cap ns)
  call-cap u os fs w ns =
      let o = operator_of os w in
      returned-cap (returns_of o) u (applied (exact m) m u (params_of o) (form_of os fs w) ns)
      ∙ ap (returned less m u (returns_of o)) (applied-cap u (params_of o) (form_of os fs w) ns ∙ ap (λ (f : Option Form). applied less m u (params_of o) f (map cap ns)) (sym (form_of-cap os fs w)))

  module _ (u : ℕ) (n : List ℕ → ℕ) (os : List DefinedOperator) (fs : List Form) where
    abbrev whole : Outline → ℕ
    whole = weighed (exact m) m u n (call_weight (exact m) m u os fs)

    abbrev cap_names : List ℕ → ℕ
    cap_names w = cap (n w)

    abbrev cap_calls : List ℕ → List ℕ → ℕ
    cap_calls = call_weight less m u os (map capped_form fs)

    abbrev cap_whole : Outline → ℕ
    cap_whole o = cap (whole o)

    within : (w : What) (xs : List Outline) → cap (node (exact m) m u w (map whole xs)) ≡ node less m u w (map cap_whole xs)
    within w xs = node-cap u w (map whole xs) ∙ ap (node less m u w) (map-after cap whole xs)

    by_what : (w : What) (xs : List Outline) → cap (weight_by (exact m) m u n (call_weight (exact m) m u os fs) w (map whole xs)) ≡ weight_by less m u cap_names cap_calls w (map cap_whole xs)
    by_what (what.Name s) xs = refl
    by_what (what.Call c) xs = call-cap u os fs c.name (map whole xs) ∙ ap (cap_calls c.name) (map-after cap whole xs)
    by_what what.Plain xs = within what.Plain xs
    by_what what.Level xs = within what.Level xs
    by_what what.Inside xs = within what.Inside xs
    by_what what.InsideJoin xs = within what.InsideJoin xs

    goes : (w : What) (b : Bool) (xs : List Outline) → cap_whole (roll-Outline (level w b xs)) ≡ weigh_step less m u cap_names cap_calls (level w b (map cap_whole xs))
    goes w b xs = ap cap (fold-roll-Outline ℕ (weigh_step (exact m) m u n (call_weight (exact m) m u os fs)) (level w b xs)) ∙ by_what w xs

    weighed-cap : (o : Outline) → cap_whole o ≡ weighed less m u cap_names cap_calls o
    weighed-cap o = fold_same ℕ (weigh_step less m u cap_names cap_calls) cap_whole goes o

  at-if : (b : Bool) → cap (if b then 1 else 0) ≡ (if b then 1 else 0)
  at-if true = capped-one m
  at-if false = capped-zero m

  name-cap : (s : Share) (q : Option ℕ) → cap (name_at s q) ≡ name_at s q
  name-cap share.Own None = capped-one m
  name-cap share.Own (Some j) = capped-zero m
  name-cap (share.Of i) None = capped-zero m
  name-cap (share.Of i) (Some j) = at-if (j == i)

  weight-cap : (os : List DefinedOperator) (fs : List Form) (ps : List Param) (s : Share) (o : Outline) → cap (weight (exact m) m os fs ps s o) ≡ weight less m os (map capped_form fs) ps s o
  weight-cap os fs ps s o =
      weighed-cap (unit_of s) (name_weight ps s) os fs o
      ∙ (λ i. weighed less m (unit_of s) (λ w. name-cap s (number_in ps w) i) (call_weight less m (unit_of s) os (map capped_form fs)) o)

  shares-cap : (f g : ℕ → ℕ) → ((i : ℕ) → cap (f i) ≡ g i) → (n : ℕ) → map cap (shares f n) ≡ shares g n
  shares-cap f g same zero = refl
  shares-cap f g same (suc n) = map-append cap (shares f n) (f n ∷ []) ∙ ap₂ (λ (xs : List ℕ) (x : ℕ). xs ++ x ∷ []) (shares-cap f g same n) (same n)

  form-cap : (os : List DefinedOperator) (fs : List Form) (ps : List Param) (body : Outline) → capped_form (form (exact m) m os fs ps body) ≡ form less m os (map capped_form fs) ps body
  form-cap os fs ps body =
      let gs = map capped_form fs in
      λ i. record { own = weight-cap os fs ps share.Own body i; times = shares-cap (λ k. weight (exact m) m os fs ps (share.Of k) body) (λ k. weight less m os gs ps (share.Of k) body) (λ k. weight-cap os fs ps (share.Of k) body) (length ps) i }

  next-cap : (os : List DefinedOperator) (fs : List Form) (qs : List DefinedOperator) → map capped_form (map (λ (o : DefinedOperator). form (exact m) m os fs o.params (outlined o.body)) qs) ≡ map (λ (o : DefinedOperator). form less m os (map capped_form fs) o.params (outlined o.body)) qs
  next-cap os fs [] = refl
  next-cap os fs (q ∷ qs) = λ i. form-cap os fs q.params (outlined q.body) i ∷ next-cap os fs qs i

  forms-cap : (os : List DefinedOperator) (n : ℕ) → map capped_form (forms (exact m) m os n) ≡ forms less m os n
  forms-cap os zero = refl
  forms-cap os (suc n) = next-cap os (forms (exact m) m os n) os ∙ ap (next_forms less m os) (forms-cap os n)

  pub limited_weight : (os : List DefinedOperator) (o : Outline) → weight less m os (forms less m os (length os)) [] share.Own o ≡ capped m (size m (replaced os o))
  limited_weight os o =
      ap (λ (fs : List Form). weight less m os fs [] share.Own o) (sym (forms-cap os (length os)))
      ∙ sym (weight-cap os (forms (exact m) m os (length os)) [] share.Own o)
      ∙ ap cap (sym (replaced_size m os o))
