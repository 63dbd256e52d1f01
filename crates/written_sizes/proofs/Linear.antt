-- What an outline weighs is made of what its names weigh by sums and multiples alone.
use Rattle.std.proofs.Common.{◌≡◌, ℕ, ◌+◌, Bool, true, false, if◌then◌else◌, List, [], ◌∷◌, Option, Some, None, map, length, drop, refl, sym, ap, ◌∙◌}
use Rattle.std.proofs.Math.Path.{ap₂}
use Rattle.std.proofs.lemmas.List.{length-map}
use Rattle.std.specs.Prelude.{fold, slice_get}
use Rattle.vtl_syntax.specs.declared.words.Sort.{Sort}
use Rattle.vtl_syntax.specs.declared.operator.DefinedOperator.{DefinedOperator}
use Rattle.vtl_syntax.specs.declared.operator.Param.{Param}
use Rattle.operator_faults.specs.declared.outline.What.{What}
use Rattle.operator_faults.specs.declared.outline.What.TheVariants as what
use Rattle.operator_faults.specs.declared.outline.Outline.{Outline, roll-Outline, fold-roll-Outline}
use Rattle.operator_faults.specs.Calls.{operator_of, is_dataset}
use Rattle.written_sizes.specs.declared.measure.Measure.{Measure}
use Rattle.written_sizes.specs.declared.form.Form.{Form}
use Rattle.written_sizes.specs.Arithmetic.{exact, plus, times, factor, alone}
use Rattle.written_sizes.specs.Weights.{node, typed, returned, argument, form_of, own_of, times_of, with_arguments, all_times, with_names, params_of, returns_of, applied, call_weight, weight_by, weigh_step, weighed}
use Rattle.written_sizes.proofs.Folds.{level, fold_same}
use Rattle.written_sizes.proofs.Numbers.{plus-four, times-plus, plus-times, times-times}

-- a weight, and a multiple of another
abbrev pub mix : Measure → ℕ → ℕ → ℕ → ℕ
mix m c a b = plus m a (times m b c)

module _ (m : Measure) (c : ℕ) where
  mix-plus : (a b a' b' : ℕ) → plus m (mix m c a b) (mix m c a' b') ≡ mix m c (plus m a a') (plus m b b')
  mix-plus a b a' b' = plus-four m a (times m b c) a' (times m b' c) ∙ ap (plus m (plus m a a')) (sym (plus-times m b b' c))

  times-mix : (k a b : ℕ) → times m k (mix m c a b) ≡ mix m c (times m k a) (times m k b)
  times-mix k a b = times-plus m k a (times m b c) ∙ ap (plus m (times m k a)) (sym (times-times m k b c))

  -- one more multiple
  more-mix : (k a b x y : ℕ) → plus m (mix m c a b) (times m k (mix m c x y)) ≡ mix m c (plus m a (times m k x)) (plus m b (times m k y))
  more-mix k a b x y = ap (plus m (mix m c a b)) (times-mix k x y) ∙ mix-plus a b (times m k x) (times m k y)

  fold-mix : {A : Type 0} (f g : A → ℕ) (a b : ℕ) (xs : List A) → fold (plus m) (mix m c a b) (map (λ x. mix m c (f x) (g x)) xs) ≡ mix m c (fold (plus m) a (map f xs)) (fold (plus m) b (map g xs))
  fold-mix f g a b [] = refl
  fold-mix f g a b (x ∷ xs) = ap (λ (n : ℕ). fold (plus m) n (map (λ y. mix m c (f y) (g y)) xs)) (mix-plus a b (f x) (g x)) ∙ fold-mix f g (plus m a (f x)) (plus m b (g x)) xs

  node-mix : {A : Type 0} (f g : A → ℕ) (u v : ℕ) (w : What) (xs : List A) → node (exact m) m (mix m c u v) w (map (λ x. mix m c (f x) (g x)) xs) ≡ mix m c (node (exact m) m u w (map f xs)) (node (exact m) m v w (map g xs))
  node-mix f g u v w xs =
      let a = times m (alone m w) u in
      let b = times m (alone m w) v in
      ap (λ (n : ℕ). times m (factor m w) (fold (plus m) n (map (λ x. mix m c (f x) (g x)) xs))) (times-mix (alone m w) u v)
      ∙ ap (times m (factor m w)) (fold-mix f g a b xs)
      ∙ times-mix (factor m w) (fold (plus m) a (map f xs)) (fold (plus m) b (map g xs))

  typed-if : (d : Bool) (u v a b : ℕ) → (if d then mix m c a b else node (exact m) m (mix m c u v) what.Plain (mix m c a b ∷ [])) ≡ mix m c (if d then a else node (exact m) m u what.Plain (a ∷ [])) (if d then b else node (exact m) m v what.Plain (b ∷ []))
  typed-if true u v a b = refl
  typed-if false u v a b = node-mix {A = Unit {0}} (λ _. a) (λ _. b) u v what.Plain (tt ∷ [])

  typed-mix : (s : Sort) (u v a b : ℕ) → typed (exact m) m (mix m c u v) s (mix m c a b) ≡ mix m c (typed (exact m) m u s a) (typed (exact m) m v s b)
  typed-mix s u v a b = typed-if (is_dataset s) u v a b

  returned-mix : (s : Option Sort) (u v a b : ℕ) → returned (exact m) m (mix m c u v) s (mix m c a b) ≡ mix m c (returned (exact m) m u s a) (returned (exact m) m v s b)
  returned-mix None u v a b = refl
  returned-mix (Some s) u v a b = typed-mix s u v a b

  argument-mix : (q : Option Param) (u v a b : ℕ) → argument (exact m) m (mix m c u v) q (mix m c a b) ≡ mix m c (argument (exact m) m u q a) (argument (exact m) m v q b)
  argument-mix None u v a b = refl
  argument-mix (Some q) u v a b = typed-mix q.sort u v a b

  arguments-mix : {A : Type 0} (f g : A → ℕ) (u v : ℕ) (ps : List Param) (form : Option Form) (i a b : ℕ) (xs : List A)
      → with_arguments (exact m) m (mix m c u v) ps form i (mix m c a b) (map (λ x. mix m c (f x) (g x)) xs) ≡ mix m c (with_arguments (exact m) m u ps form i a (map f xs)) (with_arguments (exact m) m v ps form i b (map g xs))
  arguments-mix f g u v ps form i a b [] = refl
  arguments-mix f g u v ps form i a b (x ∷ xs) =
      let k = times_of m form i in
      let q = slice_get ps i in
      let y = argument (exact m) m u q (f x) in
      let z = argument (exact m) m v q (g x) in
      ap (λ (n : ℕ). with_arguments (exact m) m (mix m c u v) ps form (i + 1) n (map (λ e. mix m c (f e) (g e)) xs)) (ap (λ (n : ℕ). plus m (mix m c a b) (times m k n)) (argument-mix q u v (f x) (g x)) ∙ more-mix k a b y z)
      ∙ arguments-mix f g u v ps form (i + 1) (plus m a (times m k y)) (plus m b (times m k z)) xs

  names-mix : (u v a b : ℕ) (ts : List ℕ) → with_names (exact m) (mix m c u v) (mix m c a b) ts ≡ mix m c (with_names (exact m) u a ts) (with_names (exact m) v b ts)
  names-mix u v a b [] = refl
  names-mix u v a b (t ∷ ts) =
      ap (λ (n : ℕ). with_names (exact m) (mix m c u v) n ts) (more-mix t a b u v)
      ∙ names-mix u v (plus m a (times m t u)) (plus m b (times m t v)) ts

  applied-mix : {A : Type 0} (f g : A → ℕ) (u v : ℕ) (ps : List Param) (form : Option Form) (xs : List A)
      → applied (exact m) m (mix m c u v) ps form (map (λ x. mix m c (f x) (g x)) xs) ≡ mix m c (applied (exact m) m u ps form (map f xs)) (applied (exact m) m v ps form (map g xs))
  applied-mix f g u v ps form xs =
      let left = λ (n : ℕ). drop n (all_times form) in
      let a = times m (own_of m form) u in
      let b = times m (own_of m form) v in
      ap₂ (λ (n k : ℕ). with_names (exact m) (mix m c u v) n (left k))
      (ap (λ (n : ℕ). with_arguments (exact m) m (mix m c u v) ps form 0 n (map (λ x. mix m c (f x) (g x)) xs)) (times-mix (own_of m form) u v) ∙ arguments-mix f g u v ps form 0 a b xs)
      (length-map xs (λ x. mix m c (f x) (g x)))
      ∙ names-mix u v (with_arguments (exact m) m u ps form 0 a (map f xs)) (with_arguments (exact m) m v ps form 0 b (map g xs)) (left (length xs))
      ∙ sym (ap₂ (λ (k l : ℕ). mix m c (with_names (exact m) u (with_arguments (exact m) m u ps form 0 a (map f xs)) (left k)) (with_names (exact m) v (with_arguments (exact m) m v ps form 0 b (map g xs)) (left l)))
      (length-map xs f) (length-map xs g))

  call-mix : {A : Type 0} (f g : A → ℕ) (u v : ℕ) (os : List DefinedOperator) (fs : List Form) (w : List ℕ) (xs : List A)
      → call_weight (exact m) m (mix m c u v) os fs w (map (λ x. mix m c (f x) (g x)) xs) ≡ mix m c (call_weight (exact m) m u os fs w (map f xs)) (call_weight (exact m) m v os fs w (map g xs))
  call-mix f g u v os fs w xs =
      let o = operator_of os w in
      let form = form_of os fs w in
      ap (returned (exact m) m (mix m c u v) (returns_of o)) (applied-mix f g u v (params_of o) form xs)
      ∙ returned-mix (returns_of o) u v (applied (exact m) m u (params_of o) form (map f xs)) (applied (exact m) m v (params_of o) form (map g xs))

  module _ (os : List DefinedOperator) (fs : List Form) (u v : ℕ) (n k : List ℕ → ℕ) where
    abbrev one_weight : Outline → ℕ
    one_weight = weighed (exact m) m u n (call_weight (exact m) m u os fs)

    abbrev other_weight : Outline → ℕ
    other_weight = weighed (exact m) m v k (call_weight (exact m) m v os fs)

    abbrev both : Outline → ℕ
    both o = mix m c (one_weight o) (other_weight o)

    abbrev both_names : List ℕ → ℕ
    both_names w = mix m c (n w) (k w)

    abbrev both_calls : List ℕ → List ℕ → ℕ
    both_calls = call_weight (exact m) m (mix m c u v) os fs

    by_what : (w : What) (xs : List Outline) → mix m c (weight_by (exact m) m u n (call_weight (exact m) m u os fs) w (map one_weight xs)) (weight_by (exact m) m v k (call_weight (exact m) m v os fs) w (map other_weight xs)) ≡ weight_by (exact m) m (mix m c u v) both_names both_calls w (map both xs)
    by_what (what.Name s) xs = refl
    by_what (what.Call s) xs = sym (call-mix one_weight other_weight u v os fs s.name xs)
    by_what what.Plain xs = sym (node-mix one_weight other_weight u v what.Plain xs)
    by_what what.Level xs = sym (node-mix one_weight other_weight u v what.Level xs)
    by_what what.Inside xs = sym (node-mix one_weight other_weight u v what.Inside xs)
    by_what what.InsideJoin xs = sym (node-mix one_weight other_weight u v what.InsideJoin xs)

    goes_both : (w : What) (b : Bool) (xs : List Outline) → both (roll-Outline (level w b xs)) ≡ weigh_step (exact m) m (mix m c u v) both_names both_calls (level w b (map both xs))
    goes_both w b xs =
        ap₂ (mix m c)
        (fold-roll-Outline ℕ (weigh_step (exact m) m u n (call_weight (exact m) m u os fs)) (level w b xs))
        (fold-roll-Outline ℕ (weigh_step (exact m) m v k (call_weight (exact m) m v os fs)) (level w b xs))
        ∙ by_what w xs

    pub weighed-mix : (o : Outline) → both o ≡ weighed (exact m) m (mix m c u v) both_names both_calls o
    weighed-mix o = fold_same ℕ (weigh_step (exact m) m (mix m c u v) both_names both_calls) both goes_both o
