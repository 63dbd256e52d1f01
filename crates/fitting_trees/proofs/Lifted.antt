-- A scalar operator on components and constants that are well typed is well typed.
use Rattle.std.proofs.Common.{◌≡◌, refl, ℕ, Bool, true, ◌&&◌, List, [], ◌∷◌, Option, Some, None, Result, Ok, subst}
use Rattle.std.proofs.lemmas.List.Elements.{All-nil, All-cons, All-head, All-tail}
use Rattle.std.specs.Prelude.{⊤, unwrap_or}
use Rattle.std.specs.List.{All, list_all}
use Rattle.vtl_values.specs.declared.kind.Kind.TheVariants.{Truth}
use Rattle.vtl_values.specs.declared.place.Place.{Place}
use Rattle.vtl_values.specs.declared.value.Value.TheVariants.{Null}
use Rattle.scalar_trees.specs.WellTyped.{Kinds, in_range, is_of_kind}
use Rattle.scalar_trees.specs.declared.typing.scope.Slot.{Slot}
use Rattle.scalar_trees.specs.declared.typing.stop.Refusal.{Refusal}
use Rattle.scalar_trees.specs.declared.typing.typed.Typed.{Typed}
use Rattle.scalar_trees.specs.typing.Sound.{IsTyped, IsTypedIf}
use Rattle.scalar_trees.specs.typing.Steps.{◌>>=◌}
use Rattle.scalar_trees.proofs.typing.Sound.{both, left, right, unary-typed, binary-typed, function-typed, if-typed, round-typed, matches-typed, substr-typed, replace-typed}
use Rattle.scalar_trees.proofs.typing.SoundSets.{literal-typed, in-typed, between-typed}
use Rattle.vtl_syntax.specs.declared.words.BinaryFunction.TheVariants as function
use Rattle.data_set_trees.specs.declared.clauses.clause.CheckedMeasure.{CheckedMeasure}
use Rattle.data_set_trees.specs.declared.form.Form.{Form}
use Rattle.data_set_trees.specs.declared.form.Form.TheVariants as form
use Rattle.data_set_trees.specs.declared.measure.Measure as declared
use Rattle.data_set_trees.specs.declared.operand.Operand.{Operand}
use Rattle.data_set_trees.specs.declared.operand.Operand.TheVariants as operand
use Rattle.data_set_trees.specs.Forms.{first, second, formed}
use Rattle.data_set_trees.specs.Lifted.{stands, with_slots, answer, slot_of, checked_measure, measures_checked}
use Rattle.data_set_trees.specs.Pairs.{shifted, both as both_slots, pairs_checked}
use Rattle.fitting_trees.proofs.Clauses.{whole-is}
use Rattle.fitting_trees.proofs.Components.{component-is}
use Rattle.fitting_trees.proofs.Scalars.{answered, Gives, gave}

-- its sets and bounds are in range
abbrev pub form_in_range : Form → Bool
form_in_range (form.In sign set) = list_all in_range set
form_in_range (form.Between low high) = in_range low && in_range high
form_in_range _ = true

module _ (kinds : Kinds) where
  abbrev AreTyped : List Typed → Type 0
  AreTyped ts = All (IsTyped kinds) ts

  head-typed : (a : Typed) (ts : List Typed) → AreTyped (a ∷ ts) → IsTyped kinds a
  head-typed a ts h = All-head (IsTyped kinds) a ts h

  tail-typed : (a : Typed) (ts : List Typed) → AreTyped (a ∷ ts) → AreTyped ts
  tail-typed a ts h = All-tail (IsTyped kinds) a ts h

  first-typed : (ts : List Typed) → AreTyped ts → IsTypedIf kinds (first ts)
  first-typed [] h = tt
  first-typed (a ∷ ts) h = head-typed a ts h

  second-typed : (ts : List Typed) → AreTyped ts → IsTypedIf kinds (second ts)
  second-typed [] h = tt
  second-typed (a ∷ ts) h = first-typed ts (tail-typed a ts h)

  formed-typed : (f : Form) → form_in_range f ≡ true → (place : Place) (ts : List Typed) → AreTyped ts → Gives kinds (formed f place ts)
  formed-typed (form.Unary o) r place (a ∷ []) h t e = unary-typed kinds o place a (Ok t) e (head-typed a [] h)
  formed-typed (form.Binary o) r place (a ∷ b ∷ []) h t e = binary-typed kinds o place a b (Ok t) e (head-typed a (b ∷ []) h) (head-typed b [] (tail-typed a (b ∷ []) h))
  formed-typed form.Nvl r place (a ∷ b ∷ []) h t e = function-typed kinds function.Nvl place a b (Ok t) e (head-typed a (b ∷ []) h) (head-typed b [] (tail-typed a (b ∷ []) h))
  formed-typed form.If r place (c ∷ a ∷ b ∷ []) h t e =
      let others = tail-typed c (a ∷ b ∷ []) h in
      if-typed kinds place c a b (Ok t) e (head-typed c (a ∷ b ∷ []) h) (head-typed a (b ∷ []) others) (head-typed b [] (tail-typed a (b ∷ []) others))
  formed-typed (form.In sign set) r place (a ∷ []) h t e = in-typed kinds sign set place a (Ok t) e r (head-typed a [] h)
  formed-typed (form.Between low high) r place (a ∷ []) h t e = between-typed kinds low high place a (Ok t) e (left (in_range low) (in_range high) r) (right (in_range low) (in_range high) r) (head-typed a [] h)
  formed-typed (form.Round f digits) r place (a ∷ []) h t e = round-typed kinds f digits place a (Ok t) e (head-typed a [] h)
  formed-typed form.Substr r place (a ∷ others) h t e =
      let more = tail-typed a others h in
      substr-typed kinds place a (first others) (second others) (Ok t) e (head-typed a others h) (first-typed others more) (second-typed others more)
  formed-typed form.Replace r place (a ∷ old ∷ others) h t e =
      let more = tail-typed a (old ∷ others) h in
      replace-typed kinds place a old (first others) (Ok t) e (head-typed a (old ∷ others) h) (head-typed old others more) (first-typed others (tail-typed old others more))
  formed-typed (form.Matches pattern) r place (a ∷ []) h t e = matches-typed kinds pattern place a (Ok t) e (head-typed a [] h)
  formed-typed _ r place _ h t e = cc

  -- ---- components that stand for data sets

  abbrev pub SlotFits : Option Slot → Type 0
  SlotFits None = ⊤
  SlotFits (Some s) = kinds.component s.number ≡ Some s.kind

  pub stands-typed : (o : Option Slot) → SlotFits o → IsTyped kinds (stands o)
  stands-typed None h = literal-typed kinds Null refl
  stands-typed (Some s) h = component-is kinds s.number s.kind h

  abbrev pub ScalarFits : Operand → Type 0
  ScalarFits (operand.Scalar t) = IsTyped kinds t
  ScalarFits (operand.DataSet d) = ⊤

  with-typed : (slots : List (Option Slot)) (os : List Operand) → All SlotFits slots → All ScalarFits os → AreTyped (with_slots slots os)
  with-typed slots [] fit all = All-nil (IsTyped kinds)
  with-typed slots (operand.Scalar t ∷ os) fit all = All-cons (IsTyped kinds) t (with_slots slots os) (All-head ScalarFits (operand.Scalar t) os all) (with-typed slots os fit (All-tail ScalarFits (operand.Scalar t) os all))
  with-typed [] (operand.DataSet d ∷ os) fit all = All-cons (IsTyped kinds) (stands None) (with_slots [] os) (stands-typed None tt) (with-typed [] os fit (All-tail ScalarFits (operand.DataSet d) os all))
  with-typed (slot ∷ slots) (operand.DataSet d ∷ os) fit all =
      All-cons (IsTyped kinds) (stands slot) (with_slots slots os) (stands-typed slot (All-head SlotFits slot slots fit))
      (with-typed slots os (All-tail SlotFits slot slots fit) (All-tail ScalarFits (operand.DataSet d) os all))

  abbrev AreWell : List CheckedMeasure → Type 0
  AreWell items = list_all (λ i. is_of_kind kinds i.value i.kind) items ≡ true

  -- two measures that meet have their kinds, where the second one's number is shifted
  abbrev pub MeetThere : ℕ → declared.Measure × declared.Measure → Type 0
  MeetThere count p = SlotFits (Some (slot_of p.0)) × SlotFits (Some (shifted count p.1))

  module _ (f : Form) (ranged : form_in_range f ≡ true) (place : Place) (os : List Operand) (all : All ScalarFits os) where
    -- what the operator is where these stand for the data sets
    pub answer-typed : (slots : List (Option Slot)) → All SlotFits slots → Gives kinds (answer f place os slots)
    answer-typed slots fit = formed-typed f ranged place (with_slots slots os) (with-typed slots os fit all)

    -- ---- measures

    -- one more measure before others
    more-typed : (name : List ℕ) (slots : List (Option Slot)) → All SlotFits slots → (rest : Result (List CheckedMeasure) Refusal) → ((others : List CheckedMeasure) → rest ≡ Ok others → AreWell others) → (items : List CheckedMeasure) → (answer f place os slots >>= (λ t. rest >>= (λ others. Ok (checked_measure name t ∷ others)))) ≡ Ok items → AreWell items
    more-typed name slots fit rest then items e =
        let value = gave (answer f place os slots) (λ t. rest >>= (λ others. Ok (checked_measure name t ∷ others))) items e in
        let others = gave rest (λ others. Ok (checked_measure name value.0 ∷ others)) items value.2 in
        let item = checked_measure name value.0 in
        subst AreWell (answered (item ∷ others.0) items others.2)
        (both (is_of_kind kinds item.value item.kind) (list_all (λ i. is_of_kind kinds i.value i.kind) others.0) (whole-is kinds Truth value.0 (answer-typed slots fit value.0 value.1)) (then others.0 others.1))

    pub measures-typed : (changed : Option (List ℕ)) (ms : List declared.Measure) → All (λ m. SlotFits (Some (slot_of m))) ms → (items : List CheckedMeasure) → measures_checked f place os changed ms ≡ Ok items → list_all (λ i. is_of_kind kinds i.value i.kind) items ≡ true
    measures-typed changed [] there items e = subst AreWell (answered [] items e) refl
    measures-typed changed (m ∷ ms) there items e =
        let IsThere : declared.Measure → Type 0 = λ m. SlotFits (Some (slot_of m)) in
        let fit : All SlotFits (Some (slot_of m) ∷ []) = All-cons SlotFits (Some (slot_of m)) [] (All-head IsThere m ms there) (All-nil SlotFits) in
        more-typed (unwrap_or changed m.name) (Some (slot_of m) ∷ []) fit (measures_checked f place os changed ms) (measures-typed changed ms (All-tail IsThere m ms there)) items e

    -- those of two data sets
    pub pairs-typed : (changed : Option (List ℕ)) (count : ℕ) (ps : List (declared.Measure × declared.Measure)) → All (MeetThere count) ps → (items : List CheckedMeasure) → pairs_checked f place os changed count ps ≡ Ok items → list_all (λ i. is_of_kind kinds i.value i.kind) items ≡ true
    pairs-typed changed count [] there items e = subst AreWell (answered [] items e) refl
    pairs-typed changed count (p ∷ ps) there items e =
        let first = All-head (MeetThere count) p ps there in
        let second : All SlotFits (Some (shifted count p.1) ∷ []) = All-cons SlotFits (Some (shifted count p.1)) [] first.1 (All-nil SlotFits) in
        let fit : All SlotFits (both_slots count p) = All-cons SlotFits (Some (slot_of p.0)) (Some (shifted count p.1) ∷ []) first.0 second in
        more-typed (unwrap_or changed p.0.name) (both_slots count p) fit (pairs_checked f place os changed count ps) (pairs-typed changed count ps (All-tail (MeetThere count) p ps there)) items e
