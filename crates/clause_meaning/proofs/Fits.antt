-- What clauses give is of the components after them.
use Rattle.std.proofs.Common.{◌≡◌, ℕ, zero, suc, List, [], ◌∷◌, ◌++◌, map, Bool, true, false, cond, not, ◌&&◌, ◌||◌, Option, Some, None, refl, sym, ap, subst, ◌∙◌, inl, inr}
use Rattle.std.specs.Prelude.{nat_eq, option_and_then, filter, filter_map, slice_get}
use Rattle.std.specs.Bool.{then_some}
use Rattle.std.specs.Option.{IfSome}
use Rattle.std.specs.List.{AllZip}
use Rattle.std.specs.FinMap.{get}
use Rattle.std.proofs.lemmas.Bool.{cases_Bool, eqb-true}
use Rattle.vtl_values.specs.declared.kind.Role.{Role}
use Rattle.vtl_values.specs.declared.kind.Role.TheVariants.{Identifier, Measure, Attribute, Viral}
use Rattle.vtl_values.specs.declared.structure.Component.{Component}
use Rattle.vtl_values.specs.declared.value.Value.{Value}
use Rattle.scalar_trees.proofs.typing.Sound.{left, right}
use Rattle.data_model.specs.Outcomes.{Made}
use Rattle.data_model.proofs.DeltaLemmas.{contradicted}
use Rattle.point_sets.specs.DataSets.{DataSet}
use Rattle.structured_sets.specs.Fitting.{is_identifier, identifiers, others, FitsComponent, FitsIdentifier, IsPointOf, IsSetOf}
use Rattle.scalar_trees.specs.declared.tree.CheckedExpr.{CheckedExpr}
use Rattle.data_set_trees.specs.declared.clauses.frame.Frame.{Frame}
use Rattle.data_set_trees.specs.declared.clauses.clause.CheckedClause.TheVariants as clause
use Rattle.data_set_trees.specs.declared.clauses.clause.CheckedRename.{CheckedRename}
use Rattle.data_set_trees.specs.declared.clauses.clause.CheckedSubItem.{CheckedSubItem}
use Rattle.data_set_trees.specs.clauses.Frames.{has_role, is_role, numbers_from, kept, changed_at}
use Rattle.data_set_trees.specs.clauses.After.{after, is_among, is_kept, is_left, renamed, with_rename}
use Rattle.data_set_trees.specs.clauses.Clauses.{passes_at, may_drop, are_identifiers}
use Rattle.data_set_trees.proofs.clauses.Changes.{changed-later}
use Rattle.clause_meaning.specs.Workings.{outcome_of, point_by_point}
use Rattle.clause_meaning.specs.Clauses.{is_true_at, others_where, key_left, clause_meaning}
use Rattle.clause_meaning.specs.Ordered.{HasIdentifiersFirst}
use Rattle.clause_meaning.proofs.Lists.{among-passes}
use Rattle.clause_meaning.proofs.Picked.{Agree, AllZip-numbers, AllZip-picked, AllZip-++, AllZip-weaker, filter-picked, numbers-same, picked-filter}
use Rattle.clause_meaning.proofs.Covered.{covered-meant, point_by_point-covered}
use Rattle.clause_meaning.proofs.Kept.{result, sub-is}

-- a data set is of its components where each point is that a point of the operand gives
pub fits-by_point : (beyond : List Value → List Value → Bool) (gives : List Value → List Value → Option (List Value)) (cs ds : List Component) (a y : DataSet) → ((key rest : List Value) → IsPointOf cs key rest → IfSome (gives key rest) (IsPointOf ds key)) → IsSetOf cs a → outcome_of (point_by_point beyond gives a) ≡ Made y → IsSetOf ds y
fits-by_point beyond gives cs ds a y each fit e = λ key. subst (λ (o : Option (List Value)). IfSome o (IsPointOf ds key)) (sym (at key)) (by_point key (get a key) (fit key))
  where
    at : (key : List Value) → get y key ≡ option_and_then (gives key) (get a key)
    at key = let h = result (point_by_point beyond gives a) y (covered-meant (point_by_point beyond gives a) (point_by_point-covered beyond gives a)) e in h.values key

    by_point : (key : List Value) (o : Option (List Value)) → IfSome o (IsPointOf cs key) → IfSome (option_and_then (gives key) o) (IsPointOf ds key)
    by_point key None f = tt
    by_point key (Some rest) f = each key rest f

if-chosen : (cs : List Component) (key rest : List Value) (b : Bool) → IsPointOf cs key rest → IfSome (then_some b rest) (IsPointOf cs key)
if-chosen cs key rest true h = h
if-chosen cs key rest false h = tt

-- ---- components that stay

-- all values of a point fit its components
pub all-fit : (frame : Frame) (key rest : List Value) → HasIdentifiersFirst frame → IsPointOf frame.components key rest → AllZip FitsComponent frame.components (key ++ rest)
all-fit frame key rest first h =
    subst (λ (ds : List Component). AllZip FitsComponent ds (key ++ rest)) (sym first)
    (AllZip-++ FitsComponent (identifiers frame.components) (others frame.components) key rest (AllZip-weaker FitsIdentifier FitsComponent (λ c v i. i.fits) (identifiers frame.components) key h.key_fits) h.rest_fits)

module _ (frame : Frame) (passes : ℕ → Component → Bool) (stay : (m : ℕ) (c : Component) → slice_get frame.components m ≡ Some c → (is_identifier c && passes m c) ≡ is_identifier c) where
  same_identifiers : identifiers (kept passes frame).components ≡ identifiers frame.components
  same_identifiers =
      filter-picked frame.components is_identifier passes 0 frame.components refl
      ∙ ap (λ ns. filter_map (slice_get frame.components) ns) (numbers-same frame.components (λ m c. is_identifier c && passes m c) (λ m. is_identifier) 0 frame.components refl stay)
      ∙ picked-filter frame.components is_identifier 0 frame.components refl

  pub staying-fits : HasIdentifiersFirst frame → (key rest : List Value) → IsPointOf frame.components key rest → IsPointOf (kept passes frame).components key (others_where passes frame key rest)
  staying-fits first key rest h = record {
    key_fits = subst (λ (ds : List Component). AllZip FitsIdentifier ds key) (sym same_identifiers) h.key_fits;
    rest_fits = subst (λ (ds : List Component). AllZip FitsComponent ds (others_where passes frame key rest)) (sym (filter-picked frame.components (λ c. not (is_identifier c)) passes 0 frame.components refl))
        (AllZip-picked FitsComponent (numbers_from (λ m c. not (is_identifier c) && passes m c) 0 frame.components) frame.components (key ++ rest) (all-fit frame key rest first h));
  }

pub same_test : (c : Component) (r : Role) → is_identifier (record c { role = r }) ≡ is_role Identifier r
same_test c Identifier = refl
same_test c Measure = refl
same_test c Attribute = refl
same_test c Viral = refl

and_itself : (b d e : Bool) → (b && ((b || d) || e)) ≡ b
and_itself true d e = refl
and_itself false d e = refl

kept-identifiers : (numbers : List ℕ) (m : ℕ) (c : Component) → (is_identifier c && is_kept numbers m c) ≡ is_identifier c
kept-identifiers numbers m c = let same : is_identifier c ≡ has_role Identifier c = same_test c c.role in rw same (and_itself (has_role Identifier c) (has_role Viral c) (is_among numbers m))

and_true : (b : Bool) → (b && true) ≡ b
and_true true = refl
and_true false = refl

false_of : (b : Bool) → not b ≡ true → b ≡ false
false_of true h = cc
false_of false h = refl

left-identifiers : (frame : Frame) (numbers : List ℕ) → may_drop frame numbers ≡ true → (m : ℕ) (c : Component) → slice_get frame.components m ≡ Some c → (is_identifier c && is_left numbers m c) ≡ is_identifier c
left-identifiers frame numbers may m c there = elim (cases_Bool (is_among numbers m)) [
  | inl among ↦
      let passes : passes_at (λ d. not (has_role Identifier d)) frame m ≡ true = among-passes (passes_at (λ d. not (has_role Identifier d)) frame) numbers m may among in
      let other : not (has_role Identifier c) ≡ true = rw there at passes in
      let none : is_identifier c ≡ false = same_test c c.role ∙ false_of (has_role Identifier c) other in
      rw none refl
  | inr apart ↦ rw apart (and_true (is_identifier c))
]

-- ---- names that change

module _ (F : Component → Value → Type 0) (p : Component → Bool) (name : List ℕ) (same : (c : Component) (v : Value) → F c v → F (record c { name = name }) v) (alike : (c : Component) → p (record c { name = name }) ≡ p c) where
  first-named : (b : Bool) (c : Component) (cs : List Component) (vs : List Value) → p (record c { name = name }) ≡ b → AllZip F (cond b (c ∷ filter p cs) (filter p cs)) vs → AllZip F (filter p (record c { name = name } ∷ cs)) vs
  first-named true c cs [] e h = absurd h
  first-named true c cs (v ∷ vs) e h = rw e (same c v h.0, h.1)
  first-named false c cs vs e h = rw e h

  one-named : (m : ℕ) (cs : List Component) (vs : List Value) → AllZip F (filter p cs) vs → AllZip F (filter p (changed_at (λ c. record c { name = name }) m cs)) vs
  one-named m [] vs h = h
  one-named zero (c ∷ cs) vs h = first-named (p c) c cs vs (alike c) h
  one-named (suc m) (c ∷ cs) vs h = rw (changed-later (λ d. record d { name = name }) m c cs) (by_test (one-named m cs) (p c) vs h)
    where
      by_test : ((us : List Value) → AllZip F (filter p cs) us → AllZip F (filter p (changed_at (λ d. record d { name = name }) m cs)) us) → (b : Bool) (us : List Value) → AllZip F (cond b (c ∷ filter p cs) (filter p cs)) us → AllZip F (cond b (c ∷ filter p (changed_at (λ d. record d { name = name }) m cs)) (filter p (changed_at (λ d. record d { name = name }) m cs))) us
      by_test later true [] i = absurd i
      by_test later true (u ∷ us) i = (i.0, later us i.1)
      by_test later false us i = later us i

pub renamed-fits : (renames : List CheckedRename) (frame : Frame) (key rest : List Value) → IsPointOf frame.components key rest → IsPointOf (renamed renames frame).components key rest
renamed-fits [] frame key rest h = h
renamed-fits (r ∷ rs) frame key rest h = renamed-fits rs (with_rename frame r) key rest (record {
  key_fits = one-named FitsIdentifier is_identifier r.name (λ c v i. record { fits = record { kind = i.fits.kind; codes = i.fits.codes }; some = i.some }) (λ c. refl) r.component frame.components key h.key_fits;
  rest_fits = one-named FitsComponent (λ c. not (is_identifier c)) r.name (λ c v i. record { kind = i.kind; codes = i.codes }) (λ c. refl) r.component frame.components rest h.rest_fits;
})

-- ---- identifiers that go

filtered-passes : {A : Type 0} (p : A → Bool) (xs : List A) (n : ℕ) (x : A) → slice_get (filter p xs) n ≡ Some x → p x ≡ true
filtered-passes p [] n x h = cc
filtered-passes {A = A} p (y ∷ ys) n x h = by_test (p y) refl (filtered-passes p ys) n h
  where
    by_test : (b : Bool) → p y ≡ b → ((m : ℕ) (z : A) → slice_get (filter p ys) m ≡ Some z → p z ≡ true) → (m : ℕ) → slice_get (cond b (y ∷ filter p ys) (filter p ys)) m ≡ Some x → p x ≡ true
    by_test true e later zero i = let same : y ≡ x = cc in subst (λ z. p z ≡ true) same e
    by_test true e later (suc m) i = later m x i
    by_test false e later m i = later m x i

-- the value with an identifier's number is the identifier's
identifier-at : (is os : List Component) (key : List Value) (m : ℕ) (c : Component) → AllZip FitsIdentifier is key → ((n : ℕ) (d : Component) → slice_get os n ≡ Some d → is_identifier d ≡ false) → slice_get (is ++ os) m ≡ Some c → is_identifier c ≡ true → Agree FitsIdentifier (Some c) (slice_get key m)
identifier-at [] os [] m c h none there passes = contradicted (is_identifier c) passes (none m c there)
identifier-at [] os (k ∷ ks) m c h none there passes = absurd h
identifier-at (i ∷ is) os [] m c h none there passes = absurd h
identifier-at (i ∷ is) os (k ∷ ks) zero c h none there passes = let same : i ≡ c = cc in subst (λ (d : Component). FitsIdentifier d k) same h.0
identifier-at (i ∷ is) os (k ∷ ks) (suc m) c h none there passes = identifier-at is os ks m c h.1 none there passes

-- what is among the numbers of the items is an identifier
items-identify : (frame : Frame) (items : List CheckedSubItem) (m : ℕ) → are_identifiers frame items ≡ true → is_among (map (λ i. i.component) items) m ≡ true → passes_at (has_role Identifier) frame m ≡ true
items-identify frame [] m h i = cc
items-identify frame (item ∷ items) m h i = elim (cases_Bool (nat_eq m item.component)) [
  | inl same ↦ subst (λ k. passes_at (has_role Identifier) frame k ≡ true) (sym (eqb-true m item.component same)) (left (passes_at (has_role Identifier) frame item.component) (are_identifiers frame items) h)
  | inr other ↦ items-identify frame items m (right (passes_at (has_role Identifier) frame item.component) (are_identifiers frame items) h) (rw other at i)
]

module _ (frame : Frame) (items : List CheckedSubItem) (first : HasIdentifiersFirst frame) (are : are_identifiers frame items ≡ true) where
  others-left : (m : ℕ) (c : Component) → slice_get frame.components m ≡ Some c → (not (is_identifier c) && is_left (map (λ i. i.component) items) m c) ≡ not (is_identifier c)
  others-left m c there = elim (cases_Bool (is_among (map (λ i. i.component) items) m)) [
    | inl among ↦
        let own : has_role Identifier c ≡ true = rw there at (items-identify frame items m are among) in
        let is : is_identifier c ≡ true = same_test c c.role ∙ own in
        rw is refl
    | inr apart ↦ rw apart (and_true (not (is_identifier c)))
  ]

  same_others : others (kept (is_left (map (λ i. i.component) items)) frame).components ≡ others frame.components
  same_others =
      filter-picked frame.components (λ c. not (is_identifier c)) (is_left (map (λ i. i.component) items)) 0 frame.components refl
      ∙ ap (λ ns. filter_map (slice_get frame.components) ns) (numbers-same frame.components (λ m c. not (is_identifier c) && is_left (map (λ i. i.component) items) m c) (λ m c. not (is_identifier c)) 0 frame.components refl others-left)
      ∙ picked-filter frame.components (λ c. not (is_identifier c)) 0 frame.components refl

  identifier-there : (key : List Value) → AllZip FitsIdentifier (identifiers frame.components) key → (m : ℕ) (c : Component) → slice_get frame.components m ≡ Some c → (is_identifier c && is_left (map (λ i. i.component) items) m c) ≡ true → Agree FitsIdentifier (Some c) (slice_get key m)
  identifier-there key h m c there passes =
      identifier-at (identifiers frame.components) (others frame.components) key m c h
      (λ n d at. false_of (is_identifier d) (filtered-passes (λ e. not (is_identifier e)) frame.components n d at))
      (subst (λ (ds : List Component). slice_get ds m ≡ Some c) first there)
      (left (is_identifier c) (is_left (map (λ i. i.component) items) m c) passes)

  sub-point : (key rest : List Value) → IsPointOf frame.components key rest → IsPointOf (kept (is_left (map (λ i. i.component) items)) frame).components (key_left items frame key) rest
  sub-point key rest h = record {
    key_fits = subst (λ (ds : List Component). AllZip FitsIdentifier ds (key_left items frame key)) (sym (filter-picked frame.components is_identifier (is_left (map (λ i. i.component) items)) 0 frame.components refl))
        (AllZip-numbers frame.components FitsIdentifier key (λ m c. is_identifier c && is_left (map (λ i. i.component) items) m c) 0 frame.components refl (identifier-there key h.key_fits));
    rest_fits = subst (λ (ds : List Component). AllZip FitsComponent ds rest) (sym same_others) h.rest_fits;
  }

  pub sub-fits : (a y : DataSet) → IsSetOf frame.components a → clause_meaning (clause.Sub items) frame a ≡ Made y → IsSetOf (after (clause.Sub items) frame).components y
  sub-fits a y fit e = λ key. by_point key (get y key) refl
    where
      by_point : (key : List Value) (o : Option (List Value)) → get y key ≡ o → IfSome o (IsPointOf (kept (is_left (map (λ i. i.component) items)) frame).components key)
      by_point key None there = tt
      by_point key (Some rest) there =
          let from = sub-is frame a y items e key rest there in
          let point : IsPointOf frame.components from.0 rest = subst (λ (o : Option (List Value)). IfSome o (IsPointOf frame.components from.0)) from.1 (fit from.0) in
          subst (λ (k : List Value). IsPointOf (kept (is_left (map (λ i. i.component) items)) frame).components k rest) from.3 (sub-point from.0 rest point)

-- ---- clauses

pub filter-fits : (condition : CheckedExpr) (frame : Frame) (a y : DataSet) → IsSetOf frame.components a → clause_meaning (clause.Filter condition) frame a ≡ Made y → IsSetOf (after (clause.Filter condition) frame).components y
filter-fits condition frame a y fit e = fits-by_point _ _ frame.components frame.components a y (λ key rest h. if-chosen frame.components key rest (is_true_at condition key rest) h) fit e

pub keep-fits : (numbers : List ℕ) (frame : Frame) (a y : DataSet) → HasIdentifiersFirst frame → IsSetOf frame.components a → clause_meaning (clause.Keep numbers) frame a ≡ Made y → IsSetOf (after (clause.Keep numbers) frame).components y
keep-fits numbers frame a y first fit e = fits-by_point _ _ frame.components (kept (is_kept numbers) frame).components a y (λ key rest h. staying-fits frame (is_kept numbers) (λ m c there. kept-identifiers numbers m c) first key rest h) fit e

pub drop-fits : (numbers : List ℕ) (frame : Frame) (a y : DataSet) → HasIdentifiersFirst frame → may_drop frame numbers ≡ true → IsSetOf frame.components a → clause_meaning (clause.Drop numbers) frame a ≡ Made y → IsSetOf (after (clause.Drop numbers) frame).components y
drop-fits numbers frame a y first may fit e = fits-by_point _ _ frame.components (kept (is_left numbers) frame).components a y (λ key rest h. staying-fits frame (is_left numbers) (left-identifiers frame numbers may) first key rest h) fit e

pub rename-fits : (renames : List CheckedRename) (frame : Frame) (a y : DataSet) → IsSetOf frame.components a → clause_meaning (clause.Rename renames) frame a ≡ Made y → IsSetOf (after (clause.Rename renames) frame).components y
rename-fits renames frame a y fit e = fits-by_point _ _ frame.components (renamed renames frame).components a y (λ key rest h. renamed-fits renames frame key rest h) fit e
