-- An operator on a time series that typing gives is well typed.
use Rattle.std.proofs.Common.{◌≡◌, refl, ℕ, zero, suc, ℤ, ◌<◌, Bool, true, List, [], ◌∷◌, Option, Some, None, Ok, length, get_or, subst, arith}
use Rattle.std.specs.Prelude.{nat_abs, nat_le, position, unwrap_or}
use Rattle.std.proofs.lemmas.List.Quantifiers.{position-Some}
use Rattle.vtl_values.specs.declared.place.Place.{Place}
use Rattle.vtl_values.specs.declared.structure.Component.{Component}
use Rattle.vtl_syntax.specs.declared.words.FillSpan.{FillSpan}
use Rattle.vtl_syntax.specs.declared.words.FillSpan.TheVariants as span
use Rattle.vtl_syntax.specs.declared.words.TimeFunction.{TimeFunction}
use Rattle.scalar_trees.specs.declared.typing.stop.Fault.TheVariants.{WrongType, WrongStructure, NameTwice, TooManyComponents, BadConstant}
use Rattle.scalar_trees.specs.typing.Steps.{◌>>=◌, or_refused}
use Rattle.scalar_trees.proofs.typing.Sound.{both, left}
use Rattle.data_set_trees.specs.clauses.Clauses.{demands}
use Rattle.data_set_trees.proofs.aggregates.Grouped.{met}
use Rattle.data_set_trees.specs.declared.times.time.CheckedTime.{CheckedTime}
use Rattle.data_set_trees.specs.declared.times.time.CheckedTime.TheVariants as time
use Rattle.data_set_trees.specs.times.Times.{is_period, period_number, takes_kinds, stands_apart, finds_room, MOST_PLACES, time_checked, shift_checked, fill_checked}
use Rattle.data_set_trees.specs.checked.Uses.{is_at, is_series}
use Rattle.fitting_trees.proofs.Scalars.{answered, gave}

at-number : (p : Component → Bool) (cs : List Component) (n : ℕ) (d : Component) → n < length cs → p (get_or cs n d) ≡ true → is_at p cs n ≡ true
at-number p [] n d within h = absurd (omega arith)
at-number p (c ∷ cs) zero d within h = h
at-number p (c ∷ cs) (suc n) d within h = at-number p cs n d (omega arith) h

-- the first that passes is there
found-is : (p : Component → Bool) (cs : List Component) (n : ℕ) → position p cs ≡ Some n → is_at p cs n ≡ true
found-is p [] n h = cc
found-is p (c ∷ cs) n h = let first = position-Some p (c ∷ cs) n c h in at-number p (c ∷ cs) n c first.0 first.1

-- the period that is found is one
period-is : (s : List Component) (place : Place) (period : ℕ) → or_refused (period_number s) WrongStructure place ≡ Ok period → is_at is_period s period ≡ true
period-is s place period h = by_number (period_number s) refl h
  where
    by_number : (o : Option ℕ) → period_number s ≡ o → or_refused o WrongStructure place ≡ Ok period → is_at is_period s period ≡ true
    by_number None is i = cc
    by_number (Some n) is i = subst (λ (m : ℕ). is_at is_period s m ≡ true) (answered n period i) (found-is is_period s n is)

abbrev IsSeries : List Component → CheckedTime → Type 0
IsSeries s t = is_series s t ≡ true

pub time-typed : (f : TimeFunction) (place : Place) (s : List Component) (t : CheckedTime) → time_checked f place s ≡ Ok t → is_series s t ≡ true
time-typed f place s t h =
    let takes = takes_kinds f s in
    let fits = met place ((takes, WrongType) ∷ []) (or_refused (period_number s) WrongStructure place >>= (λ period. demands place ((stands_apart f s, NameTwice) ∷ (finds_room f s, TooManyComponents) ∷ []) >>= (λ met. Ok (time.Of f period)))) t h in
    let period = gave (or_refused (period_number s) WrongStructure place) (λ period. demands place ((stands_apart f s, NameTwice) ∷ (finds_room f s, TooManyComponents) ∷ []) >>= (λ met. Ok (time.Of f period))) t fits.1 in
    let rest = met place ((stands_apart f s, NameTwice) ∷ (finds_room f s, TooManyComponents) ∷ []) (Ok (time.Of f period.0)) t period.2 in
    subst (IsSeries s) (answered (time.Of f period.0) t rest.1) (both (is_at is_period s period.0) takes (period-is s place period.0 period.1) (left takes true fits.0))

pub shift-typed : (places : ℤ) (place : Place) (s : List Component) (t : CheckedTime) → shift_checked places place s ≡ Ok t → is_series s t ≡ true
shift-typed places place s t h =
    let near = nat_le (nat_abs places) MOST_PLACES in
    let period = gave (or_refused (period_number s) WrongStructure place) (λ period. demands place ((near, BadConstant) ∷ []) >>= (λ met. Ok (time.Shift places period))) t h in
    let rest = met place ((near, BadConstant) ∷ []) (Ok (time.Shift places period.0)) t period.2 in
    subst (IsSeries s) (answered (time.Shift places period.0) t rest.1) (both (is_at is_period s period.0) near (period-is s place period.0 period.1) (left near true rest.0))

pub fill-typed : (stated : Option FillSpan) (place : Place) (s : List Component) (t : CheckedTime) → fill_checked stated place s ≡ Ok t → is_series s t ≡ true
fill-typed stated place s t h =
    let reach = unwrap_or stated span.All in
    let period = gave (or_refused (period_number s) WrongStructure place) (λ period. Ok (time.Fill reach period)) t h in
    subst (IsSeries s) (answered (time.Fill reach period.0) t period.2) (period-is s place period.0 period.1)
