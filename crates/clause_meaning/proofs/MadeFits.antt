-- What `calc`, `unpivot` and measures that are worked out give is of the components after them.
use Rattle.std.proofs.Common.{◌≡◌, ℕ, zero, suc, List, [], ◌∷◌, ◌++◌, map, zip, Bool, true, false, cond, not, ◌&&◌, ◌||◌, Option, Some, None, option_map, refl, sym, ap, subst, ◌∙◌}
use Rattle.std.specs.Prelude.{option_and_then, filter_map, find, fold, slice_get, slice_set}
use Rattle.std.specs.Bool.{then_some}
use Rattle.std.specs.Option.{IfSome, option_map_or, option_zip}
use Rattle.std.specs.List.{AllZip, list_all, last_or}
use Rattle.std.specs.Ordering.{is_eq}
use Rattle.std.specs.FinMap.{get}
use Rattle.std.proofs.lemmas.List.{append-nil, append_assoc}
use Rattle.std.proofs.lemmas.List.Elements.{All-map, filter-append, filter_map-append}
use Rattle.vtl_values.specs.declared.kind.Kind.{Kind}
use Rattle.vtl_values.specs.declared.kind.Kind.TheVariants as kind
use Rattle.vtl_values.specs.declared.kind.Role.{Role}
use Rattle.vtl_values.specs.declared.kind.Role.TheVariants.{Identifier, Measure, Attribute, Viral}
use Rattle.vtl_values.specs.declared.structure.Component.{Component}
use Rattle.vtl_values.specs.declared.value.Value.{Value}
use Rattle.vtl_values.specs.declared.value.Value.TheVariants.{Text}
use Rattle.vtl_values.specs.Order.{value_cmp}
use Rattle.vtl_values.specs.Texts.{Fits}
use Rattle.vtl_values.proofs.Values.{value_cmp-IsAntisymmetric}
use Rattle.data_model.specs.Maps.{if_passes}
use Rattle.data_model.specs.Outcomes.{Made}
use Rattle.data_model.proofs.MapLemmas.{equal}
use Rattle.point_sets.specs.DataSets.{DataSet}
use Rattle.structured_sets.specs.Fitting.{identifiers, FitsComponent, FitsIdentifier, IsPointOf, IsSetOf}
use Rattle.scalar_trees.specs.declared.tree.CheckedExpr.{CheckedExpr}
use Rattle.scalar_trees.specs.WellTyped.{Kinds, is_kind, is_of_kind}
use Rattle.scalar_trees.specs.typing.Scopes.{column_of}
use Rattle.scalar_trees.proofs.typing.Sound.{is_kind-same, both, left, right}
use Rattle.scalar_meaning.specs.Comparisons.{is_null}
use Rattle.scalar_meaning.specs.Kept.{IsRowOf}
use Rattle.scalar_meaning.specs.Rows.{Row, point_row}
use Rattle.scalar_meaning.specs.Scalars.{meaning}
use Rattle.scalar_meaning.proofs.Kept.{kinds-kept, points-are-rows}
use Rattle.data_set_trees.specs.declared.clauses.frame.Frame.{Frame}
use Rattle.data_set_trees.specs.declared.clauses.clause.CheckedClause.TheVariants as clause
use Rattle.data_set_trees.specs.declared.clauses.clause.CheckedItem.{CheckedItem}
use Rattle.data_set_trees.specs.declared.clauses.clause.CheckedMeasure.{CheckedMeasure}
use Rattle.data_set_trees.specs.declared.clauses.clause.Target.{Target}
use Rattle.data_set_trees.specs.declared.clauses.clause.Target.TheVariants.{Old, New}
use Rattle.data_set_trees.specs.clauses.Frames.{has_role, is_role, numbers_of, by_role, changed_at}
use Rattle.data_set_trees.specs.clauses.After.{made, put, with_item, calculated, always_stays, staying, with_measure, measured, measure_kind, unpivoted, after}
use Rattle.data_set_trees.specs.clauses.Clauses.{may_be_target, may_calculate, is_of_measure_kind, are_alike}
use Rattle.data_set_trees.specs.clauses.WellTyped.{kinds_on, is_of, may_be_made, is_item, is_well_typed}
use Rattle.data_set_trees.proofs.clauses.Changes.{changed-later}
use Rattle.clause_meaning.specs.Clauses.{values_at, values_on, item_values, put_value, put_values, numbers_of_others, calculated_values, worked_values, with_viral_values, is_measure_called, measure_point, without_last, working_of, clause_meaning}
use Rattle.clause_meaning.specs.Ordered.{HasIdentifiersFirst}
use Rattle.clause_meaning.proofs.Lists.{found, split-last}
use Rattle.clause_meaning.proofs.Picked.{AllZip-picked, AllZip-++, AllZip-weaker, picked-filter}
use Rattle.clause_meaning.proofs.Covered.{meant}
use Rattle.clause_meaning.proofs.Kept.{result}
use Rattle.clause_meaning.proofs.Fits.{fits-by_point, all-fit}
use Rattle.clause_meaning.proofs.ByRole.{filter-pass, filter-none, of, of-own, of-other, of-identifiers, by_role-fits}

-- ---- values of well typed expressions

AllZip-map : {A B C : Type 0} (F : B → C → Type 0) (f : A → B) (xs : List A) (ys : List C) → AllZip (λ x y. F (f x) y) xs ys → AllZip F (map f xs) ys
AllZip-map F f [] [] h = h
AllZip-map F f [] (y ∷ ys) h = absurd h
AllZip-map F f (x ∷ xs) [] h = absurd h
AllZip-map F f (x ∷ xs) (y ∷ ys) h = (h.0, AllZip-map F f xs ys h.1)

module _ {A : Type 0} (kind_of : A → Kind) (value_of : A → CheckedExpr) (kinds : Kinds) (row : Row) (is : IsRowOf kinds row) where
  worked-fit : (xs : List A) → list_all (λ x. is_of_kind kinds (value_of x) (kind_of x)) xs ≡ true → (vs : List Value) → values_on row (map value_of xs) ≡ Some vs → AllZip (λ x v. Fits (kind_of x) v) xs vs
  worked-fit [] typed [] h = tt
  worked-fit [] typed (v ∷ vs) h = cc
  worked-fit (x ∷ xs) typed vs h =
      let own = is_of_kind kinds (value_of x) (kind_of x) in
      let rest = list_all (λ y. is_of_kind kinds (value_of y) (kind_of y)) xs in
      by_values (meaning row (value_of x)) (kinds-kept (value_of x) kinds row (kind_of x) (left own rest typed) is) (values_on row (map value_of xs)) (worked-fit xs (right own rest typed)) h
    where
      by_values : (o : Option Value) → IfSome o (Fits (kind_of x)) → (p : Option (List Value)) → ((us : List Value) → p ≡ Some us → AllZip (λ y v. Fits (kind_of y) v) xs us) → option_map (λ q. q.0 ∷ q.1) (option_zip o p) ≡ Some vs → AllZip (λ y v. Fits (kind_of y) v) (x ∷ xs) vs
      by_values None fit p later i = cc
      by_values (Some v) fit None later i = cc
      by_values (Some v) fit (Some us) later i = let same : v ∷ us ≡ vs = cc in subst (λ (ws : List Value). AllZip (λ y w. Fits (kind_of y) w) (x ∷ xs) ws) same (fit, later us refl)

-- a point is a row of the kinds of its components
row-of : (frame : Frame) (key rest : List Value) → HasIdentifiersFirst frame → IsPointOf frame.components key rest → IsRowOf (kinds_on frame) (point_row key rest)
row-of frame key rest first h =
    points-are-rows (map column_of frame.components) key rest
    (AllZip-map (λ c v. Fits c.kind v) column_of frame.components (key ++ rest)
    (AllZip-weaker FitsComponent (λ c v. Fits c.kind v) (λ c v i. i.kind) frame.components (key ++ rest) (all-fit frame key rest first h)))

made-fits : (role : Role) (own : Kind) (name : List ℕ) (v : Value) → Fits own v → FitsComponent (made role own name) v
made-fits role own name v h = record { kind = h; codes = refl }

-- what is worked out of values, where there are some
if-worked : (o : Option (List Value)) (f : List Value → List Value) (P : List Value → Type 0) → ((vs : List Value) → o ≡ Some vs → P (f vs)) → IfSome (option_map f o) P
if-worked None f P each = tt
if-worked (Some vs) f P each = each vs refl

-- ---- components that stay, and others after them

viral-fit : (cs : List Component) (values : List Value) → AllZip FitsComponent cs values → AllZip FitsComponent (of Viral cs) (values_at (numbers_of Viral cs) values)
viral-fit cs values h = subst (λ (ds : List Component). AllZip FitsComponent ds (values_at (numbers_of Viral cs) values)) (picked-filter cs (has_role Viral) 0 cs refl) (AllZip-picked FitsComponent (numbers_of Viral cs) cs values h)

staying-is : (frame : Frame) → (staying frame).components ≡ of Identifier frame.components ++ of Viral frame.components
staying-is frame =
    let cs = frame.components in
    filter_map-append (slice_get cs) (numbers_of Identifier cs) (numbers_of Viral cs) ∙ (λ q. picked-filter cs (has_role Identifier) 0 cs refl q ++ picked-filter cs (has_role Viral) 0 cs refl q)

abbrev with : List Component → List Component → List Component
with cs ms = (of Identifier cs ++ of Viral cs) ++ ms

of-parts : (r : Role) (cs ms : List Component) → of r (with cs ms) ≡ (of r (of Identifier cs) ++ of r (of Viral cs)) ++ of r ms
of-parts r cs ms = filter-append (has_role r) (of Identifier cs ++ of Viral cs) ms ∙ ap (λ (q : List Component). q ++ of r ms) (filter-append (has_role r) (of Identifier cs) (of Viral cs))

with-identifiers : (cs ms : List Component) → of Identifier (with cs ms) ≡ of Identifier cs ++ of Identifier ms
with-identifiers cs ms =
    of-parts Identifier cs ms ∙ (λ q. (of-own Identifier cs q ++ of-other Identifier Viral refl cs q) ++ of Identifier ms)
    ∙ ap (λ (q : List Component). q ++ of Identifier ms) (append-nil (of Identifier cs))

with-measures : (cs ms : List Component) → of Measure (with cs ms) ≡ of Measure ms
with-measures cs ms = of-parts Measure cs ms ∙ (λ q. (of-other Measure Identifier refl cs q ++ of-other Measure Viral refl cs q) ++ of Measure ms)

with-attributes : (cs ms : List Component) → of Attribute (with cs ms) ≡ of Attribute ms
with-attributes cs ms = of-parts Attribute cs ms ∙ (λ q. (of-other Attribute Identifier refl cs q ++ of-other Attribute Viral refl cs q) ++ of Attribute ms)

with-virals : (cs ms : List Component) → of Viral (with cs ms) ≡ of Viral cs ++ of Viral ms
with-virals cs ms = of-parts Viral cs ms ∙ (λ q. (of-other Viral Identifier refl cs q ++ of-own Viral cs q) ++ of Viral ms)

-- a point by role of such a frame
with-fits : (frame : Frame) (cs ms : List Component) (key rest : List Value) → frame.components ≡ with cs ms → of Attribute ms ≡ [] → of Viral ms ≡ []
    → AllZip FitsIdentifier (of Identifier cs ++ of Identifier ms) key → AllZip FitsComponent (of Measure ms ++ of Viral cs) rest → IsPointOf (by_role frame).components key rest
with-fits frame cs ms key rest is no_attributes no_virals own all =
    let i : of Identifier frame.components ≡ of Identifier cs ++ of Identifier ms = ap (of Identifier) is ∙ with-identifiers cs ms in
    let m : of Measure frame.components ≡ of Measure ms = ap (of Measure) is ∙ with-measures cs ms in
    let a : of Attribute frame.components ≡ [] = ap (of Attribute) is ∙ with-attributes cs ms ∙ no_attributes in
    let v : of Viral frame.components ≡ of Viral cs = ap (of Viral) is ∙ with-virals cs ms ∙ ap (λ (q : List Component). of Viral cs ++ q) no_virals ∙ append-nil (of Viral cs) in
    let o : (of Measure frame.components ++ of Attribute frame.components) ++ of Viral frame.components ≡ of Measure ms ++ of Viral cs =
    (λ q. (m q ++ a q) ++ v q) ∙ ap (λ (q : List Component). q ++ of Viral cs) (append-nil (of Measure ms)) in
    by_role-fits frame key rest (subst (λ (ds : List Component). AllZip FitsIdentifier ds key) (sym i) own) (subst (λ (ds : List Component). AllZip FitsComponent ds rest) (sym o) all)

-- ---- measures in place of those that there are

abbrev measure_of : CheckedMeasure → Component
measure_of i = made Measure i.kind i.name

measured-is : (items : List CheckedMeasure) (frame : Frame) → (fold with_measure frame items).components ≡ frame.components ++ map measure_of items
measured-is [] frame = sym (append-nil frame.components)
measured-is (i ∷ is) frame = measured-is is (with_measure frame i) ∙ append_assoc frame.components (measure_of i ∷ []) (map measure_of is)

none-of : (r : Role) → is_role r Measure ≡ false → (items : List CheckedMeasure) → of r (map measure_of items) ≡ []
none-of r apart items = filter-none (has_role r) (map measure_of items) (All-map (λ c. has_role r c ≡ false) measure_of items (λ k d within. apart))

all-of : (items : List CheckedMeasure) → of Measure (map measure_of items) ≡ map measure_of items
all-of items = filter-pass (has_role Measure) (map measure_of items) (All-map (λ c. has_role Measure c ≡ true) measure_of items (λ k d within. refl))

measures-point : (frame : Frame) (items : List CheckedMeasure) → HasIdentifiersFirst frame → list_all (λ i. is_of frame i.kind i.value) items ≡ true → (key rest vs : List Value) → IsPointOf frame.components key rest
    → worked_values (point_row key rest) items ≡ Some vs → IsPointOf (by_role (measured items frame)).components key (with_viral_values frame (key ++ rest) vs)
measures-point frame items first typed key rest vs h e =
    let cs = frame.components in
    let ms = map measure_of items in
    let all : (measured items frame).components ≡ with cs ms = measured-is items (staying frame) ∙ ap (λ (q : List Component). q ++ ms) (staying-is frame) in
    let keys : of Identifier cs ++ of Identifier ms ≡ identifiers cs = ap (λ (q : List Component). of Identifier cs ++ q) (none-of Identifier refl items) ∙ append-nil (of Identifier cs) ∙ of-identifiers cs in
    let worked : AllZip (λ i v. Fits i.kind v) items vs = worked-fit (λ i. i.kind) (λ i. i.value) (kinds_on frame) (point_row key rest) (row-of frame key rest first h) items typed vs e in
    let own : AllZip FitsComponent ms vs = AllZip-map FitsComponent measure_of items vs (AllZip-weaker (λ i v. Fits i.kind v) (λ i v. FitsComponent (measure_of i) v) (λ i v f. made-fits Measure i.kind i.name v f) items vs worked) in
    with-fits (measured items frame) cs ms key (with_viral_values frame (key ++ rest) vs) all (none-of Attribute refl items) (none-of Viral refl items)
    (subst (λ (ds : List Component). AllZip FitsIdentifier ds key) (sym keys) h.key_fits)
    (subst (λ (ds : List Component). AllZip FitsComponent (ds ++ of Viral cs) (with_viral_values frame (key ++ rest) vs)) (sym (all-of items))
    (AllZip-++ FitsComponent ms (of Viral cs) vs (values_at (numbers_of Viral cs) (key ++ rest)) own (viral-fit cs (key ++ rest) (all-fit frame key rest first h))))

pub measures-fit : (items : List CheckedMeasure) (frame : Frame) (a y : DataSet) → HasIdentifiersFirst frame → is_well_typed frame (clause.Measures items) ≡ true → IsSetOf frame.components a → clause_meaning (clause.Measures items) frame a ≡ Made y → IsSetOf (after (clause.Measures items) frame).components y
measures-fit items frame a y first typed fit e =
    fits-by_point _ _ frame.components (by_role (measured items frame)).components a y
    (λ key rest h. if-worked (worked_values (point_row key rest) items) (with_viral_values frame (key ++ rest)) (IsPointOf (by_role (measured items frame)).components key) (λ vs w. measures-point frame items first typed key rest vs h w))
    fit e

-- ---- calc

AllZip-changed : (change : Component → Component) (v : Value) → ((c : Component) → FitsComponent (change c) v) → (n : ℕ) (cs : List Component) (vs : List Value) → AllZip FitsComponent cs vs → AllZip FitsComponent (changed_at change n cs) (slice_set vs n v)
AllZip-changed change v each n [] [] h = h
AllZip-changed change v each n [] (x ∷ xs) h = absurd h
AllZip-changed change v each n (c ∷ cs) [] h = absurd h
AllZip-changed change v each zero (c ∷ cs) (x ∷ xs) h = (each c, h.1)
AllZip-changed change v each (suc n) (c ∷ cs) (x ∷ xs) h = rw (changed-later change n c cs) (h.0, AllZip-changed change v each n cs xs h.1)

put-fits : (t : Target) (role : Role) (own : Kind) (v : Value) (frame : Frame) (values : List Value) → Fits own v → AllZip FitsComponent frame.components values → AllZip FitsComponent (put t role own frame).components (put_value t v values)
put-fits (Old number) role own v frame values f h = AllZip-changed (λ c. made role own c.name) v (λ c. made-fits role own c.name v f) number frame.components values h
put-fits (New name) role own v frame values f h = AllZip-++ FitsComponent frame.components (made role own name ∷ []) values (v ∷ []) h (made-fits role own name v f, tt)

put-all-fit : (items : List CheckedItem) (vs : List Value) (frame : Frame) (values : List Value) → AllZip (λ i v. Fits i.kind v) items vs → AllZip FitsComponent frame.components values → AllZip FitsComponent (calculated items frame).components (put_values items vs values)
put-all-fit [] [] frame values f h = h
put-all-fit [] (v ∷ vs) frame values f h = absurd f
put-all-fit (i ∷ is) [] frame values f h = absurd f
put-all-fit (i ∷ is) (v ∷ vs) frame values f h = put-all-fit is vs (with_item frame i) (put_value i.target v values) f.1 (put-fits i.target i.role i.kind v frame values f.0 h)

-- a component that may be worked out
abbrev may_go : Component → Bool
may_go c = not (always_stays c)

abbrev IsOld : List Component → ℕ → Type 0
IsOld cs n = option_map_or may_go (slice_get cs n) false ≡ true

old-changed : (change : Component → Component) → ((c : Component) → may_go (change c) ≡ true) → (m n : ℕ) (cs : List Component) → IsOld cs n → IsOld (changed_at change m cs) n
old-changed change each m n [] h = h
old-changed change each zero zero (c ∷ cs) h = each c
old-changed change each zero (suc n) (c ∷ cs) h = h
old-changed change each (suc m) zero (c ∷ cs) h = rw (changed-later change m c cs) h
old-changed change each (suc m) (suc n) (c ∷ cs) h = rw (changed-later change m c cs) (old-changed change each m n cs h)

old-added : (n : ℕ) (cs ds : List Component) → IsOld cs n → IsOld (cs ++ ds) n
old-added n [] ds h = cc
old-added zero (c ∷ cs) ds h = h
old-added (suc n) (c ∷ cs) ds h = old-added n cs ds h

-- a target that may be worked out may be so after another item
still-target : (t : Target) (role : Role) (own : Kind) (frame : Frame) (s : Target) → may_be_made role ≡ true → may_be_target frame s ≡ true → may_be_target (put t role own frame) s ≡ true
still-target t role own frame (New name) plain may = refl
still-target (Old number) role own frame (Old n) plain may = old-changed (λ c. made role own c.name) (λ c. plain) number n frame.components may
still-target (New name) role own frame (Old n) plain may = old-added n frame.components (made role own name ∷ []) may

still-targets : (t : Target) (role : Role) (own : Kind) (frame : Frame) (items : List CheckedItem) → may_be_made role ≡ true → may_calculate frame items ≡ true → may_calculate (put t role own frame) items ≡ true
still-targets t role own frame [] plain may = refl
still-targets t role own frame (i ∷ is) plain may =
    both (may_be_target (put t role own frame) i.target) (may_calculate (put t role own frame) is)
    (still-target t role own frame i.target plain (left (may_be_target frame i.target) (may_calculate frame is) may))
    (still-targets t role own frame is plain (right (may_be_target frame i.target) (may_calculate frame is) may))

no-identifier : (a b : Bool) → not (a || b) ≡ true → a ≡ false
no-identifier true b h = cc
no-identifier false b h = refl

-- where a component that is no identifier becomes another one, identifiers stay
identifiers-changed : (change : Component → Component) → ((c : Component) → has_role Identifier (change c) ≡ false) → (n : ℕ) (cs : List Component) → IsOld cs n → of Identifier (changed_at change n cs) ≡ of Identifier cs
identifiers-changed change each n [] h = refl
identifiers-changed change each zero (c ∷ cs) h =
    let before : has_role Identifier c ≡ false = no-identifier (has_role Identifier c) (has_role Viral c) h in
    let now : has_role Identifier (change c) ≡ false = each c in
    ap (λ b. cond b (change c ∷ of Identifier cs) (of Identifier cs)) now ∙ ap (λ b. cond b (c ∷ of Identifier cs) (of Identifier cs)) (sym before)
identifiers-changed change each (suc n) (c ∷ cs) h = ap (of Identifier) (changed-later change n c cs) ∙ ap (λ (ds : List Component). cond (has_role Identifier c) (c ∷ ds) ds) (identifiers-changed change each n cs h)

put-identifiers : (t : Target) (role : Role) (own : Kind) (frame : Frame) → may_be_made role ≡ true → may_be_target frame t ≡ true → of Identifier (put t role own frame).components ≡ of Identifier frame.components
put-identifiers (Old number) role own frame plain may = identifiers-changed (λ c. made role own c.name) (λ c. no-identifier (is_role Identifier role) (is_role Viral role) plain) number frame.components may
put-identifiers (New name) role own frame plain may =
    filter-append (has_role Identifier) frame.components (made role own name ∷ [])
    ∙ ap (λ b. of Identifier frame.components ++ cond b (made role own name ∷ []) []) (no-identifier (is_role Identifier role) (is_role Viral role) plain)
    ∙ append-nil (of Identifier frame.components)

calculated-identifiers : (items : List CheckedItem) (frame : Frame) → may_calculate frame items ≡ true → list_all (λ i. may_be_made i.role) items ≡ true → of Identifier (calculated items frame).components ≡ of Identifier frame.components
calculated-identifiers [] frame may plain = refl
calculated-identifiers (i ∷ is) frame may plain =
    let own : may_be_made i.role ≡ true = left (may_be_made i.role) (list_all (λ j. may_be_made j.role) is) plain in
    calculated-identifiers is (with_item frame i) (still-targets i.target i.role i.kind frame is own (right (may_be_target frame i.target) (may_calculate frame is) may)) (right (may_be_made i.role) (list_all (λ j. may_be_made j.role) is) plain)
    ∙ put-identifiers i.target i.role i.kind frame own (left (may_be_target frame i.target) (may_calculate frame is) may)

others-picked : (cs : List Component) → filter_map (slice_get cs) (numbers_of_others cs) ≡ (of Measure cs ++ of Attribute cs) ++ of Viral cs
others-picked cs =
    let m = numbers_of Measure cs in
    let a = numbers_of Attribute cs in
    let v = numbers_of Viral cs in
    let is = λ (r : Role). picked-filter cs (has_role r) 0 cs refl in
    let two : filter_map (slice_get cs) (m ++ a) ≡ of Measure cs ++ of Attribute cs = filter_map-append (slice_get cs) m a ∙ (λ q. is Measure q ++ is Attribute q) in
    filter_map-append (slice_get cs) (m ++ a) v ∙ (λ q. two q ++ is Viral q)

all-pass : {A : Type 0} (p q : A → Bool) → ((x : A) → p x ≡ true → q x ≡ true) → (xs : List A) → list_all p xs ≡ true → list_all q xs ≡ true
all-pass p q each [] h = refl
all-pass p q each (x ∷ xs) h = both (q x) (list_all q xs) (each x (left (p x) (list_all p xs) h)) (all-pass p q each xs (right (p x) (list_all p xs) h))

calc-point : (frame : Frame) (items : List CheckedItem) → HasIdentifiersFirst frame → list_all (is_item frame) items ≡ true → (key rest vs : List Value) → IsPointOf frame.components key rest
    → item_values (point_row key rest) items ≡ Some vs → IsPointOf (by_role (calculated items frame)).components key (calculated_values items frame (key ++ rest) vs)
calc-point frame items first typed key rest vs h e =
    let whole = calculated items frame in
    let target : CheckedItem → Bool = λ i. may_be_target frame i.target && may_be_made i.role in
    let valued : CheckedItem → Bool = λ i. is_of frame i.kind i.value in
    let may : may_calculate frame items ≡ true = all-pass (is_item frame) (λ i. may_be_target frame i.target) (λ i t. left (may_be_target frame i.target) (may_be_made i.role) (left (target i) (valued i) t)) items typed in
    let plain : list_all (λ i. may_be_made i.role) items ≡ true = all-pass (is_item frame) (λ i. may_be_made i.role) (λ i t. right (may_be_target frame i.target) (may_be_made i.role) (left (target i) (valued i) t)) items typed in
    let of_kind : list_all valued items ≡ true = all-pass (is_item frame) valued (λ i t. right (target i) (valued i) t) items typed in
    let worked : AllZip (λ i v. Fits i.kind v) items vs = worked-fit (λ i. i.kind) (λ i. i.value) (kinds_on frame) (point_row key rest) (row-of frame key rest first h) items of_kind vs e in
    let all : AllZip FitsComponent whole.components (put_values items vs (key ++ rest)) = put-all-fit items vs frame (key ++ rest) worked (all-fit frame key rest first h) in
    let keys : of Identifier whole.components ≡ identifiers frame.components = calculated-identifiers items frame may plain ∙ of-identifiers frame.components in
    by_role-fits whole key (calculated_values items frame (key ++ rest) vs)
    (subst (λ (ds : List Component). AllZip FitsIdentifier ds key) (sym keys) h.key_fits)
    (subst (λ (ds : List Component). AllZip FitsComponent ds (calculated_values items frame (key ++ rest) vs)) (others-picked whole.components)
    (AllZip-picked FitsComponent (numbers_of_others whole.components) whole.components (put_values items vs (key ++ rest)) all))

pub calc-fits : (items : List CheckedItem) (frame : Frame) (a y : DataSet) → HasIdentifiersFirst frame → is_well_typed frame (clause.Calc items) ≡ true → IsSetOf frame.components a → clause_meaning (clause.Calc items) frame a ≡ Made y → IsSetOf (after (clause.Calc items) frame).components y
calc-fits items frame a y first typed fit e =
    fits-by_point _ _ frame.components (by_role (calculated items frame)).components a y
    (λ key rest h. if-worked (item_values (point_row key rest) items) (calculated_values items frame (key ++ rest)) (IsPointOf (by_role (calculated items frame)).components key) (λ vs w. calc-point frame items first typed key rest vs h w))
    fit e

-- ---- unpivot

found-fits : (F : Component → Value → Type 0) (p : Component × Value → Bool) (cs : List Component) (vs : List Value) (q : Component × Value) → AllZip F cs vs → find p (zip cs vs) ≡ Some q → F q.0 q.1
found-fits F p [] [] q h e = cc
found-fits F p [] (v ∷ vs) q h e = absurd h
found-fits F p (c ∷ cs) [] q h e = absurd h
found-fits F p (c ∷ cs) (v ∷ vs) q h e = by_test (p (c, v)) (found-fits F p cs vs q h.1) e
  where
    by_test : (b : Bool) → (find p (zip cs vs) ≡ Some q → F q.0 q.1) → cond b (Some (c, v)) (find p (zip cs vs)) ≡ Some q → F q.0 q.1
    by_test true later i = let same : (c, v) ≡ q = cc in subst (λ (r : Component × Value). F r.0 r.1) same h.0
    by_test false later i = later i

AllZip-and : (t : Component → Bool) (F : Component → Value → Type 0) (cs : List Component) (vs : List Value) → list_all t cs ≡ true → AllZip F cs vs → AllZip (λ c v. (t c ≡ true) × F c v) cs vs
AllZip-and t F [] [] all h = h
AllZip-and t F [] (v ∷ vs) all h = absurd h
AllZip-and t F (c ∷ cs) [] all h = absurd h
AllZip-and t F (c ∷ cs) (v ∷ vs) all h = ((left (t c) (list_all t cs) all, h.0), AllZip-and t F cs vs (right (t c) (list_all t cs) all) h.1)

its-kind : (a b : Bool) → (not a || b) ≡ true → a ≡ true → b ≡ true
its-kind true b h i = h
its-kind false b h i = cc

module _ (identifier measure : List ℕ) (frame : Frame) (first : HasIdentifiersFirst frame) (alike : are_alike frame.components ≡ true) where
  abbrev whole : Frame
  whole = unpivoted identifier measure frame

  abbrev own_key : Component
  own_key = made Identifier kind.Text identifier

  abbrev own_measure : Component
  own_measure = made Measure (measure_kind frame.components) measure

  whole-is : whole.components ≡ with frame.components (own_key ∷ own_measure ∷ [])
  whole-is = append_assoc (staying frame).components (own_key ∷ []) (own_measure ∷ []) ∙ ap (λ (q : List Component). q ++ own_key ∷ own_measure ∷ []) (staying-is frame)

  unpivot-point : (key rest : List Value) (name v : Value) (c : Component) → IsPointOf frame.components key rest → is_measure_called name c ≡ true → is_of_measure_kind (measure_kind frame.components) c ≡ true → FitsComponent c v
      → IsPointOf (by_role whole).components (key ++ name ∷ []) (v ∷ values_at (numbers_of Viral frame.components) (key ++ rest))
  unpivot-point key rest name v c h called of_kind f =
      let cs = frame.components in
      let is_measure : has_role Measure c ≡ true = left (has_role Measure c) (is_eq (value_cmp name (Text c.name))) called in
      let is_name : name ≡ Text c.name = value_cmp-IsAntisymmetric name (Text c.name) (equal (value_cmp name (Text c.name)) (right (has_role Measure c) (is_eq (value_cmp name (Text c.name))) called)) in
      let its : c.kind ≡ measure_kind cs = is_kind-same c.kind (measure_kind cs) (its-kind (has_role Measure c) (is_kind c.kind (measure_kind cs)) of_kind is_measure) in
      let own : FitsIdentifier own_key name = subst (λ (n : Value). FitsIdentifier own_key n) (sym is_name) (record { fits = made-fits Identifier kind.Text identifier (Text c.name) tt; some = λ same. cc }) in
      let its_value : FitsComponent own_measure v = made-fits Measure (measure_kind cs) measure v (subst (λ (k : Kind). Fits k v) its f.kind) in
      with-fits whole cs (own_key ∷ own_measure ∷ []) (key ++ name ∷ []) (v ∷ values_at (numbers_of Viral cs) (key ++ rest)) whole-is refl refl
      (AllZip-++ FitsIdentifier (of Identifier cs) (own_key ∷ []) key (name ∷ []) (subst (λ (ds : List Component). AllZip FitsIdentifier ds key) (sym (of-identifiers cs)) h.key_fits) (own, tt))
      (its_value, viral-fit cs (key ++ rest) (all-fit frame key rest first h))

  unpivoted-fits : (key rest : List Value) (name : Value) → IsPointOf frame.components key rest → IfSome (measure_point frame (key ++ rest) name) (IsPointOf (by_role whole).components (key ++ name ∷ []))
  unpivoted-fits key rest name h = by_measure (find (λ p. is_measure_called name p.0) (zip frame.components (key ++ rest))) refl
    where
      by_null : (b : Bool) (v : Value) → IsPointOf (by_role whole).components (key ++ name ∷ []) (v ∷ values_at (numbers_of Viral frame.components) (key ++ rest))
          → IfSome (option_map (λ u. u ∷ values_at (numbers_of Viral frame.components) (key ++ rest)) (then_some b v)) (IsPointOf (by_role whole).components (key ++ name ∷ []))
      by_null true v point = point
      by_null false v point = tt

      by_measure : (o : Option (Component × Value)) → find (λ p. is_measure_called name p.0) (zip frame.components (key ++ rest)) ≡ o
          → IfSome (option_map (λ v. v ∷ values_at (numbers_of Viral frame.components) (key ++ rest)) (if_passes (λ v. not (is_null v)) (option_map (λ p. p.1) o))) (IsPointOf (by_role whole).components (key ++ name ∷ []))
      by_measure None e = tt
      by_measure (Some p) e =
          let pair = found-fits (λ c v. (is_of_measure_kind (measure_kind frame.components) c ≡ true) × FitsComponent c v) (λ q. is_measure_called name q.0) frame.components (key ++ rest) p
          (AllZip-and (is_of_measure_kind (measure_kind frame.components)) FitsComponent frame.components (key ++ rest) alike (all-fit frame key rest first h)) e in
          by_null (not (is_null p.1)) p.1 (unpivot-point key rest name p.1 p.0 h (found (λ q. is_measure_called name q.0) (zip frame.components (key ++ rest)) p e) pair.0 pair.1)

  pub unpivot-fits : (a y : DataSet) → IsSetOf frame.components a → clause_meaning (clause.Unpivot identifier measure) frame a ≡ Made y → IsSetOf (after (clause.Unpivot identifier measure) frame).components y
  unpivot-fits a y fit e =
      let h = result (working_of (clause.Unpivot identifier measure) frame a) y (meant (clause.Unpivot identifier measure) frame a) e in
      λ key. subst (λ (o : Option (List Value)). IfSome o (IsPointOf (by_role whole).components key)) (sym (h.values key)) (by_last key (last_or None key) refl)
    where
      by_point : (key : List Value) (name : Value) (o : Option (List Value)) → IfSome o (IsPointOf frame.components key) → IfSome (option_and_then (λ rest. measure_point frame (key ++ rest) name) o) (IsPointOf (by_role whole).components (key ++ name ∷ []))
      by_point key name None h = tt
      by_point key name (Some rest) h = unpivoted-fits key rest name h

      by_last : (key : List Value) (o : Option Value) → last_or None key ≡ o → IfSome (option_and_then (λ name. option_and_then (λ rest. measure_point frame (without_last key ++ rest) name) (get a (without_last key))) o) (IsPointOf (by_role whole).components key)
      by_last key None last = tt
      by_last key (Some name) last =
          subst (λ (k : List Value). IfSome (option_and_then (λ rest. measure_point frame (without_last key ++ rest) name) (get a (without_last key))) (IsPointOf (by_role whole).components k)) (sym (split-last key name last))
          (by_point (without_last key) name (get a (without_last key)) (fit (without_last key)))
