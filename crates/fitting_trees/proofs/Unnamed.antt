-- What a clause does depends on the roles and the kinds of components, and not on their names.
use Rattle.std.proofs.Common.{◌≡◌, refl, ℕ, zero, suc, ◌+◌, Bool, true, false, not, ◌&&◌, ◌||◌, cond, List, [], ◌∷◌, ◌++◌, map, Option, Some, ap, sym, ◌∙◌, if◌then◌else◌}
use Rattle.std.specs.Prelude.{fold, find, slice_get, unwrap_or, option_map, is_some, nat_eq}
use Rattle.std.specs.Option.{option_map_or}
use Rattle.std.specs.List.{filter_map, list_any, list_all}
use Rattle.std.proofs.lemmas.List.{map-append}
use Rattle.std.proofs.lemmas.List.Elements.{filter_map-append}
use Rattle.vtl_values.specs.declared.kind.Kind.{Kind}
use Rattle.vtl_values.specs.declared.kind.Kind.TheVariants as kind
use Rattle.vtl_values.specs.declared.kind.Role.{Role}
use Rattle.vtl_values.specs.declared.kind.Role.TheVariants.{Identifier, Measure, Attribute, Viral}
use Rattle.vtl_values.specs.declared.structure.Codes.TheVariants.{Any}
use Rattle.vtl_values.specs.declared.structure.Component.{Component}
use Rattle.scalar_trees.specs.declared.tree.CheckedExpr.{CheckedExpr}
use Rattle.scalar_trees.specs.Kinds.{ANY, agreed, literal_kind}
use Rattle.scalar_trees.specs.WellTyped.{Kinds, is_kind, is_of_kind}
use Rattle.scalar_trees.specs.declared.typing.scope.Basis.TheVariants.{Point}
use Rattle.scalar_trees.specs.declared.typing.scope.Column.{Column}
use Rattle.scalar_trees.specs.typing.Scopes.{column_of, kinds_of}
use Rattle.data_set_trees.specs.declared.clauses.clause.CheckedClause.{CheckedClause}
use Rattle.data_set_trees.specs.declared.clauses.clause.CheckedClause.TheVariants as clause
use Rattle.data_set_trees.specs.declared.clauses.clause.CheckedItem.{CheckedItem}
use Rattle.data_set_trees.specs.declared.clauses.clause.CheckedMeasure.{CheckedMeasure}
use Rattle.data_set_trees.specs.declared.clauses.clause.CheckedRename.{CheckedRename}
use Rattle.data_set_trees.specs.declared.clauses.clause.CheckedSubItem.{CheckedSubItem}
use Rattle.data_set_trees.specs.declared.clauses.clause.Target.{Target}
use Rattle.data_set_trees.specs.declared.clauses.clause.Target.TheVariants.{Old, New}
use Rattle.data_set_trees.specs.declared.clauses.frame.Frame.{Frame}
use Rattle.data_set_trees.specs.clauses.Frames.{frame_of, is_role, has_role, numbers_of, kept, by_role, added, changed_at}
use Rattle.data_set_trees.specs.clauses.After.{made, put, with_item, calculated, always_stays, is_kept, is_left, with_rename, renamed, staying, with_measure, measured, measure_kind, unpivoted, after}
use Rattle.data_set_trees.specs.clauses.Clauses.{passes_at, may_be_target, is_comparable, is_of_measure_kind, are_alike}
use Rattle.data_set_trees.specs.clauses.WellTyped.{kinds_on, is_of, may_be_made, is_item, is_component, is_well_typed}
use Rattle.data_set_trees.proofs.clauses.Changes.{changed-later}
use Rattle.data_set_trees.proofs.clauses.Ordered.{part}
use Rattle.data_set_trees.proofs.clauses.Parts.{left_from, picked_are}
use Rattle.data_set_trees.specs.Components.{unlisted}
use Rattle.data_set_trees.specs.Joins.{numbered}
use Rattle.data_set_trees.specs.aggregates.Results.{with_numbers}
use Rattle.data_set_trees.specs.declared.windows.analytic.Analytic.{Analytic as Operator}
use Rattle.data_set_trees.specs.declared.windows.analytic.Analytic.TheVariants as analytic
use Rattle.data_set_trees.specs.declared.windows.analytic.AnalyticItem.{AnalyticItem}
use Rattle.data_set_trees.specs.declared.windows.analytic.AnalyticMeasure.{AnalyticMeasure}
use Rattle.data_set_trees.specs.declared.windows.analytic.AnalyticValue.{AnalyticValue}
use Rattle.data_set_trees.specs.declared.windows.analytic.AnalyticValue.TheVariants as value
use Rattle.data_set_trees.specs.declared.windows.analytic.CheckedAnalytic.{CheckedAnalytic}
use Rattle.data_set_trees.specs.declared.windows.analytic.CheckedWindow.{CheckedWindow}
use Rattle.data_set_trees.specs.declared.windows.analytic.CheckedWindow.TheVariants as window
use Rattle.data_set_trees.specs.declared.windows.analytic.OrderedBy.{OrderedBy}
use Rattle.data_set_trees.specs.windows.Functions.{window_gives, window_takes}
use Rattle.data_set_trees.specs.windows.Results as windows
use Rattle.data_set_trees.specs.windows.Results.{as_item, made_by, unordered}
use Rattle.data_set_trees.specs.windows.WellTyped as windows_typed
use Rattle.data_set_trees.specs.windows.WellTyped.{are_parts, gives_of, is_analytic, is_value}
use Rattle.expression_rules.specs.declared.point_clause.PointClause.{PointClause}
use Rattle.expression_rules.specs.declared.point_clause.PointClause.TheVariants.{Alone, Analytic}
use Rattle.expression_rules.specs.JoinClauses.{Placed, structure_before}
use Rattle.expression_rules.specs.PointClauses as points
use Rattle.data_set_trees.specs.checked.Operators.{unnamed}
use Rattle.fitting_trees.proofs.Analytic.{is_well}

-- a component of a result, without its name
abbrev pub plain : Component → Component
plain c = unnamed (unlisted c)

abbrev called : List ℕ → Component → Component
called name c = record c { name = name }

abbrev open_one : Component → Component
open_one c = record c { codes = Any }

plain_called : (name : List ℕ) (c : Component) → plain (called name c) ≡ plain c
plain_called name c = elim (has_role Viral c) as (λ (b : Bool). unnamed (if b then called name c else open_one (called name c)) ≡ unnamed (if b then c else open_one c)) [ true ↦ refl | false ↦ refl ]

plain_made : (role : Role) (kind : Kind) (name : List ℕ) → plain (made role kind name) ≡ made role kind []
plain_made role kind name = elim (is_role Viral role) as (λ (b : Bool). unnamed (if b then made role kind name else made role kind name) ≡ made role kind []) [ true ↦ refl | false ↦ refl ]

unlisted_by : (c : Component) (b : Bool) → has_role Viral c ≡ b → unlisted (if b then c else open_one c) ≡ (if b then c else open_one c)
unlisted_by c true is = ap (λ (b : Bool). if b then c else open_one c) is
unlisted_by c false is = ap (λ (b : Bool). if b then open_one c else open_one c) is

unlisted_again : (c : Component) → unlisted (unlisted c) ≡ unlisted c
unlisted_again c = unlisted_by c (has_role Viral c) refl

plain_role : (c : Component) → (plain c).role ≡ c.role
plain_role c = elim (has_role Viral c) as (λ (b : Bool). (unnamed (if b then c else open_one c)).role ≡ c.role) [ true ↦ refl | false ↦ refl ]

plain_kind : (c : Component) → (plain c).kind ≡ c.kind
plain_kind c = elim (has_role Viral c) as (λ (b : Bool). (unnamed (if b then c else open_one c)).kind ≡ c.kind) [ true ↦ refl | false ↦ refl ]

plain_column : (c : Component) → column_of (plain c) ≡ column_of c
plain_column c = λ i. record { kind = plain_kind c i; role = plain_role c i; grouped = false }

-- ---- structures inside a join

pub unnamed_unlisted : (cs : List Component) → map unnamed (map unlisted cs) ≡ map plain cs
unnamed_unlisted [] = refl
unnamed_unlisted (c ∷ cs) = ap (λ (ds : List Component). plain c ∷ ds) (unnamed_unlisted cs)

unnamed_numbered : (n : ℕ) (cs : List Component) → map unnamed (numbered n (map unlisted cs)) ≡ map plain cs
unnamed_numbered n [] = refl
unnamed_numbered n (c ∷ cs) = ap (λ (ds : List Component). plain c ∷ ds) (unnamed_numbered (n + 1) cs)

pub plain_numbered : (n : ℕ) (cs : List Component) → map plain (numbered n (map unlisted cs)) ≡ map plain cs
plain_numbered n [] = refl
plain_numbered n (c ∷ cs) = λ i. (plain_called ((48 + n) ∷ []) (unlisted c) ∙ ap unnamed (unlisted_again c)) i ∷ plain_numbered (n + 1) cs i

pub unnamed_before : (cs : List Placed) (frame : Frame) → map unnamed (structure_before cs frame) ≡ map plain frame.components
unnamed_before [] frame = unnamed_unlisted frame.components
unnamed_before (c ∷ cs) frame = unnamed_numbered 0 frame.components

-- ---- components that pass, and by role

same_role : (r : Role) (c : Component) → has_role r (plain c) ≡ has_role r c
same_role r c = ap (is_role r) (plain_role c)

stays_plain : (c : Component) → always_stays (plain c) ≡ always_stays c
stays_plain c = ap (λ (r : Role). is_role Identifier r || is_role Viral r) (plain_role c)

left_plain : (passes : ℕ → Component → Bool) → ((n : ℕ) (c : Component) → passes n (plain c) ≡ passes n c) → (n : ℕ) (cs : List Component) → map plain (left_from passes n cs) ≡ left_from passes n (map plain cs)
left_plain passes same n [] = refl
left_plain passes same n (c ∷ cs) =
    let own = left_from passes (n + 1) cs in
    let more : map plain own ≡ left_from passes (n + 1) (map plain cs) = left_plain passes same (n + 1) cs in
    by_test (passes n c) own (left_from passes (n + 1) (map plain cs)) more ∙ ap (λ (b : Bool). if b then plain c ∷ left_from passes (n + 1) (map plain cs) else left_from passes (n + 1) (map plain cs)) (sym (same n c))
  where
    by_test : (b : Bool) (xs ys : List Component) → map plain xs ≡ ys → map plain (if b then c ∷ xs else xs) ≡ (if b then plain c ∷ ys else ys)
    by_test true xs ys is = ap (λ (zs : List Component). plain c ∷ zs) is
    by_test false xs ys is = is

part_plain : (r : Role) (cs : List Component) → map plain (part r cs) ≡ part r (map plain cs)
part_plain r cs = left_plain (λ number. has_role r) (λ n c. same_role r c) 0 cs

abbrev ordered : List Component → List Component
ordered cs = ((part Identifier cs ++ part Measure cs) ++ part Attribute cs) ++ part Viral cs

ordered_are : (frame : Frame) → (by_role frame).components ≡ ordered frame.components
ordered_are frame =
    let cs = frame.components in
    let at = filter_map (slice_get cs) in
    let i = numbers_of Identifier cs in
    let m = numbers_of Measure cs in
    let a = numbers_of Attribute cs in
    let v = numbers_of Viral cs in
    let is = λ (r : Role). picked_are (λ number. has_role r) [] cs in
    let two : at (i ++ m) ≡ part Identifier cs ++ part Measure cs = filter_map-append (slice_get cs) i m ∙ (λ q. is Identifier q ++ is Measure q) in
    let three : at ((i ++ m) ++ a) ≡ (part Identifier cs ++ part Measure cs) ++ part Attribute cs = filter_map-append (slice_get cs) (i ++ m) a ∙ (λ q. two q ++ is Attribute q) in
    filter_map-append (slice_get cs) ((i ++ m) ++ a) v ∙ (λ q. three q ++ is Viral q)

ordered_plain : (cs : List Component) → map plain (ordered cs) ≡ ordered (map plain cs)
ordered_plain cs =
    let i = part Identifier cs in
    let m = part Measure cs in
    let a = part Attribute cs in
    let v = part Viral cs in
    let two : map plain (i ++ m) ≡ part Identifier (map plain cs) ++ part Measure (map plain cs) = map-append plain i m ∙ (λ q. part_plain Identifier cs q ++ part_plain Measure cs q) in
    let three : map plain ((i ++ m) ++ a) ≡ (part Identifier (map plain cs) ++ part Measure (map plain cs)) ++ part Attribute (map plain cs) = map-append plain (i ++ m) a ∙ (λ q. two q ++ part_plain Attribute cs q) in
    map-append plain ((i ++ m) ++ a) v ∙ (λ q. three q ++ part_plain Viral cs q)

-- two frames whose components are the same but for their names
abbrev AreAlike : Frame → Frame → Type 0
AreAlike f g = map plain f.components ≡ map plain g.components

by_role_alike : (f g : Frame) → AreAlike f g → AreAlike (by_role f) (by_role g)
by_role_alike f g same =
    ap (map plain) (ordered_are f) ∙ ordered_plain f.components ∙ ap ordered same ∙ sym (ordered_plain g.components) ∙ ap (map plain) (sym (ordered_are g))

kept_alike : (passes : ℕ → Component → Bool) → ((n : ℕ) (c : Component) → passes n (plain c) ≡ passes n c) → (f g : Frame) → AreAlike f g → AreAlike (kept passes f) (kept passes g)
kept_alike passes plainly f g same =
    ap (map plain) (picked_are passes [] f.components) ∙ left_plain passes plainly 0 f.components ∙ ap (left_from passes 0) same
    ∙ sym (left_plain passes plainly 0 g.components) ∙ ap (map plain) (sym (picked_are passes [] g.components))

-- ---- one component more, or another one

added_alike : (role : Role) (kind : Kind) (name : List ℕ) (f g : Frame) → AreAlike f g → AreAlike (added f (made role kind name)) (added g (made role kind name))
added_alike role kind name f g same =
    let c = made role kind name in
    map-append plain f.components (c ∷ []) ∙ ap (λ (cs : List Component). cs ++ plain c ∷ []) same ∙ sym (map-append plain g.components (c ∷ []))

changed_plain : (change other : Component → Component) → ((c : Component) → plain (change c) ≡ other (plain c)) → (n : ℕ) (cs : List Component) → map plain (changed_at change n cs) ≡ changed_at other n (map plain cs)
changed_plain change other same n [] = refl
changed_plain change other same zero (c ∷ cs) = ap (λ (d : Component). d ∷ map plain cs) (same c)
changed_plain change other same (suc n) (c ∷ cs) =
    ap (map plain) (changed-later change n c cs)
    ∙ ap (λ (ds : List Component). plain c ∷ ds) (changed_plain change other same n cs)
    ∙ sym (changed-later other n (plain c) (map plain cs))

-- ---- calc

put_alike : (t : Target) (role : Role) (kind : Kind) (f g : Frame) → AreAlike f g → AreAlike (put t role kind f) (put t role kind g)
put_alike (Old number) role kind f g same =
    let change = λ (c : Component). made role kind c.name in
    let other = λ (c : Component). made role kind [] in
    let is = λ (c : Component). plain_made role kind c.name in
    changed_plain change other is number f.components ∙ ap (changed_at other number) same ∙ sym (changed_plain change other is number g.components)
put_alike (New name) role kind f g same = added_alike role kind name f g same

calculated_alike : (items : List CheckedItem) (f g : Frame) → AreAlike f g → AreAlike (calculated items f) (calculated items g)
calculated_alike [] f g same = same
calculated_alike (i ∷ is) f g same = calculated_alike is (with_item f i) (with_item g i) (put_alike i.target i.role i.kind f g same)

-- ---- rename

renamed_once : (name : List ℕ) (n : ℕ) (cs : List Component) → map plain (changed_at (called name) n cs) ≡ map plain cs
renamed_once name n [] = refl
renamed_once name zero (c ∷ cs) = ap (λ (d : Component). d ∷ map plain cs) (plain_called name c)
renamed_once name (suc n) (c ∷ cs) = ap (map plain) (changed-later (called name) n c cs) ∙ ap (λ (ds : List Component). plain c ∷ ds) (renamed_once name n cs)

renamed_plain : (renames : List CheckedRename) (f : Frame) → map plain (renamed renames f).components ≡ map plain f.components
renamed_plain [] f = refl
renamed_plain (r ∷ rs) f = renamed_plain rs (with_rename f r) ∙ renamed_once r.name r.component f.components

-- ---- unpivot, and measures

staying_are : (f : Frame) → (staying f).components ≡ part Identifier f.components ++ part Viral f.components
staying_are f =
    let cs = f.components in
    filter_map-append (slice_get cs) (numbers_of Identifier cs) (numbers_of Viral cs) ∙ (λ q. picked_are (λ number. has_role Identifier) [] cs q ++ picked_are (λ number. has_role Viral) [] cs q)

staying_plain : (f : Frame) → map plain (staying f).components ≡ part Identifier (map plain f.components) ++ part Viral (map plain f.components)
staying_plain f =
    let cs = f.components in
    ap (map plain) (staying_are f) ∙ map-append plain (part Identifier cs) (part Viral cs) ∙ (λ q. part_plain Identifier cs q ++ part_plain Viral cs q)

staying_alike : (f g : Frame) → AreAlike f g → AreAlike (staying f) (staying g)
staying_alike f g same = staying_plain f ∙ ap (λ (cs : List Component). part Identifier cs ++ part Viral cs) same ∙ sym (staying_plain g)

abbrev kind_found : Option Component → Kind
kind_found o = unwrap_or (option_map (λ c. c.kind) o) kind.Text

measure_kind_plain : (cs : List Component) → measure_kind (map plain cs) ≡ measure_kind cs
measure_kind_plain [] = refl
measure_kind_plain (c ∷ cs) =
    ap (λ (b : Bool). kind_found (cond b (Some (plain c)) (find (has_role Measure) (map plain cs)))) (same_role Measure c)
    ∙ by_test (has_role Measure c) (find (has_role Measure) (map plain cs)) (find (has_role Measure) cs) (measure_kind_plain cs)
  where
    by_test : (b : Bool) (o p : Option Component) → kind_found o ≡ kind_found p → kind_found (cond b (Some (plain c)) o) ≡ kind_found (cond b (Some c) p)
    by_test true o p is = plain_kind c
    by_test false o p is = is

measure_kind_alike : (f g : Frame) → AreAlike f g → measure_kind f.components ≡ measure_kind g.components
measure_kind_alike f g same = sym (measure_kind_plain f.components) ∙ ap measure_kind same ∙ measure_kind_plain g.components

unpivoted_alike : (identifier measure : List ℕ) (f g : Frame) → AreAlike f g → AreAlike (unpivoted identifier measure f) (unpivoted identifier measure g)
unpivoted_alike identifier measure f g same =
    let first = λ (h : Frame). added (staying h) (made Identifier kind.Text identifier) in
    let its = measure_kind g.components in
    ap (λ k. map plain (added (first f) (made Measure k measure)).components) (measure_kind_alike f g same)
    ∙ added_alike Measure its measure (first f) (first g) (added_alike Identifier kind.Text identifier (staying f) (staying g) (staying_alike f g same))

with_measures_alike : (items : List CheckedMeasure) (f g : Frame) → AreAlike f g → AreAlike (fold with_measure f items) (fold with_measure g items)
with_measures_alike [] f g same = same
with_measures_alike (i ∷ is) f g same = with_measures_alike is (with_measure f i) (with_measure g i) (added_alike Measure i.kind i.name f g same)

-- ---- a clause

after_alike : (c : CheckedClause) (f g : Frame) → AreAlike f g → AreAlike (after c f) (after c g)
after_alike (clause.Filter condition) f g same = same
after_alike (clause.Calc items) f g same = by_role_alike (calculated items f) (calculated items g) (calculated_alike items f g same)
after_alike (clause.Keep numbers) f g same = kept_alike (is_kept numbers) (λ n c. ap (λ (b : Bool). b || list_any (nat_eq n) numbers) (stays_plain c)) f g same
after_alike (clause.Drop numbers) f g same = kept_alike (is_left numbers) (λ n c. refl) f g same
after_alike (clause.Rename renames) f g same = renamed_plain renames f ∙ same ∙ sym (renamed_plain renames g)
after_alike (clause.Sub items) f g same = kept_alike (is_left (map (λ i. i.component) items)) (λ n c. refl) f g same
after_alike (clause.Unpivot identifier measure) f g same = by_role_alike (unpivoted identifier measure f) (unpivoted identifier measure g) (unpivoted_alike identifier measure f g same)
after_alike (clause.Measures items) f g same = by_role_alike (measured items f) (measured items g) (with_measures_alike items (staying f) (staying g) (staying_alike f g same))

-- ---- what is well typed

columns_plain : (cs : List Component) → map column_of (map plain cs) ≡ map column_of cs
columns_plain [] = refl
columns_plain (c ∷ cs) = λ i. plain_column c i ∷ columns_plain cs i

kinds_alike : (f g : Frame) → AreAlike f g → kinds_on f ≡ kinds_on g
kinds_alike f g same = ap (λ (columns : List Column). kinds_of columns Point) (sym (columns_plain f.components) ∙ ap (map column_of) same ∙ columns_plain g.components)

of_alike : (k : Kind) (f g : Frame) → AreAlike f g → (value : CheckedExpr) → is_of f k value ≡ is_of g k value
of_alike k f g same value = ap (λ (kinds : Kinds). is_of_kind kinds value k) (kinds_alike f g same)

passes_plain : (test : Component → Bool) → ((c : Component) → test (plain c) ≡ test c) → (cs : List Component) (n : ℕ) → option_map_or test (slice_get (map plain cs) n) false ≡ option_map_or test (slice_get cs n) false
passes_plain test same [] n = refl
passes_plain test same (c ∷ cs) zero = same c
passes_plain test same (c ∷ cs) (suc n) = passes_plain test same cs n

passes_alike : (test : Component → Bool) → ((c : Component) → test (plain c) ≡ test c) → (f g : Frame) → AreAlike f g → (n : ℕ) → passes_at test f n ≡ passes_at test g n
passes_alike test plainly f g same n =
    sym (passes_plain test plainly f.components n) ∙ ap (λ (cs : List Component). option_map_or test (slice_get cs n) false) same ∙ passes_plain test plainly g.components n

all_same : {A : Type 0} (p q : A → Bool) → ((x : A) → p x ≡ q x) → (xs : List A) → list_all p xs ≡ list_all q xs
all_same p q same [] = refl
all_same p q same (x ∷ xs) = λ i. same x i && all_same p q same xs i

all_plain : (test : Component → Bool) → ((c : Component) → test (plain c) ≡ test c) → (cs : List Component) → list_all test (map plain cs) ≡ list_all test cs
all_plain test same [] = refl
all_plain test same (c ∷ cs) = λ i. same c i && all_plain test same cs i

target_alike : (f g : Frame) → AreAlike f g → (t : Target) → may_be_target f t ≡ may_be_target g t
target_alike f g same (Old n) = passes_alike (λ c. not (always_stays c)) (λ c. ap not (stays_plain c)) f g same n
target_alike f g same (New name) = refl

alike_plain : (cs : List Component) → are_alike (map plain cs) ≡ are_alike cs
alike_plain cs =
    ap (λ (k : Kind). list_all (is_of_measure_kind k) (map plain cs)) (measure_kind_plain cs)
    ∙ all_plain (is_of_measure_kind (measure_kind cs)) (λ c. λ i. not (same_role Measure c i) || is_kind (plain_kind c i) (measure_kind cs)) cs

well_typed_alike : (c : CheckedClause) (f g : Frame) → AreAlike f g → is_well_typed f c ≡ is_well_typed g c
well_typed_alike (clause.Filter condition) f g same = of_alike kind.Truth f g same condition
well_typed_alike (clause.Calc items) f g same = all_same (is_item f) (is_item g) (λ i. λ q. (target_alike f g same i.target q && may_be_made i.role) && of_alike i.kind f g same i.value q) items
well_typed_alike (clause.Keep numbers) f g same = all_same (passes_at (λ c. not (always_stays c)) f) (passes_at (λ c. not (always_stays c)) g) (passes_alike (λ c. not (always_stays c)) (λ c. ap not (stays_plain c)) f g same) numbers
well_typed_alike (clause.Drop numbers) f g same = all_same (passes_at (λ c. not (has_role Identifier c)) f) (passes_at (λ c. not (has_role Identifier c)) g) (passes_alike (λ c. not (has_role Identifier c)) (λ c. ap not (same_role Identifier c)) f g same) numbers
well_typed_alike (clause.Rename renames) f g same = all_same (λ (r : CheckedRename). is_component f r.component) (λ (r : CheckedRename). is_component g r.component) (λ r. passes_alike (λ c. true) (λ c. refl) f g same r.component) renames
well_typed_alike (clause.Sub items) f g same =
    let comparable = all_same (λ (i : CheckedSubItem). passes_at (is_comparable i.value) f i.component) (λ (i : CheckedSubItem). passes_at (is_comparable i.value) g i.component)
    (λ i. passes_alike (is_comparable i.value) (λ c. ap (λ (k : Kind). is_some (agreed ANY (Some k ∷ literal_kind i.value ∷ []))) (plain_kind c)) f g same i.component) items in
    let identifiers = all_same (λ (i : CheckedSubItem). passes_at (has_role Identifier) f i.component) (λ (i : CheckedSubItem). passes_at (has_role Identifier) g i.component)
    (λ i. passes_alike (has_role Identifier) (same_role Identifier) f g same i.component) items in
    λ q. comparable q && identifiers q
well_typed_alike (clause.Unpivot identifier measure) f g same = sym (alike_plain f.components) ∙ ap are_alike same ∙ alike_plain g.components
well_typed_alike (clause.Measures items) f g same = all_same (λ (i : CheckedMeasure). is_of f i.kind i.value) (λ (i : CheckedMeasure). is_of g i.kind i.value) (λ i. of_alike i.kind f g same i.value) items

-- ---- analytic operators

picked_plain : (cs : List Component) → map plain (with_numbers cs (numbers_of Identifier cs ++ numbers_of Viral cs)) ≡ part Identifier (map plain cs) ++ part Viral (map plain cs)
picked_plain cs =
    ap (map plain) (filter_map-append (slice_get cs) (numbers_of Identifier cs) (numbers_of Viral cs) ∙ (λ q. picked_are (λ number. has_role Identifier) [] cs q ++ picked_are (λ number. has_role Viral) [] cs q))
    ∙ map-append plain (part Identifier cs) (part Viral cs)
    ∙ (λ q. part_plain Identifier cs q ++ part_plain Viral cs q)

unordered_plain : (items : List AnalyticMeasure) (cs : List Component) → map plain (unordered items cs) ≡ (part Identifier (map plain cs) ++ part Viral (map plain cs)) ++ map plain (map made_by items)
unordered_plain items cs =
    map-append plain (with_numbers cs (numbers_of Identifier cs ++ numbers_of Viral cs)) (map made_by items) ∙ ap (λ (ds : List Component). ds ++ map plain (map made_by items)) (picked_plain cs)

unordered_alike : (items : List AnalyticMeasure) (f g : Frame) → AreAlike f g → AreAlike (frame_of (unordered items f.components)) (frame_of (unordered items g.components))
unordered_alike items f g same =
    unordered_plain items f.components ∙ ap (λ (cs : List Component). (part Identifier cs ++ part Viral cs) ++ map plain (map made_by items)) same ∙ sym (unordered_plain items g.components)

window_after_alike : (w : CheckedWindow) (f g : Frame) → AreAlike f g → AreAlike (windows.after w f) (windows.after w g)
window_after_alike (window.Measures items) f g same = by_role_alike (frame_of (unordered items f.components)) (frame_of (unordered items g.components)) (unordered_alike items f g same)
window_after_alike (window.Calc items) f g same = by_role_alike (calculated (map as_item items) f) (calculated (map as_item items) g) (calculated_alike (map as_item items) f g same)

gives_plain : (takes : List Kind) (gives : Kind → Kind) (k : Kind) (c : Component) → gives_of takes gives k (plain c) ≡ gives_of takes gives k c
gives_plain takes gives k c = ap (λ (own : Kind). option_map_or (λ given. is_kind (gives given) k) (agreed takes (Some own ∷ [])) false) (plain_kind c)

kind_alike : (k : Kind) (a : Operator) (f g : Frame) → AreAlike f g → windows_typed.is_of_kind f k a ≡ windows_typed.is_of_kind g k a
kind_alike k (analytic.Window function number from to) f g same =
    passes_alike (gives_of (window_takes function) (window_gives function) k) (gives_plain (window_takes function) (window_gives function) k) f g same number
kind_alike k (analytic.CountAll from to) f g same = refl
kind_alike k (analytic.Offset function number offset) f g same = passes_alike (gives_of ANY (λ own. own) k) (gives_plain ANY (λ own. own) k) f g same number
kind_alike k analytic.Rank f g same = refl

analytic_alike : (k : Kind) (a : CheckedAnalytic) (f g : Frame) → AreAlike f g → is_analytic f k a ≡ is_analytic g k a
analytic_alike k a f g same =
    let partition = all_same (passes_at (has_role Identifier) f) (passes_at (has_role Identifier) g) (passes_alike (has_role Identifier) (same_role Identifier) f g same) a.parts.partition in
    let order = all_same (λ (o : OrderedBy). is_component f o.component) (λ (o : OrderedBy). is_component g o.component) (λ o. passes_alike (λ c. true) (λ c. refl) f g same o.component) a.parts.order in
    let kind = kind_alike k a.analytic f g same in
    λ q. (partition q && order q) && kind q

value_alike : (k : Kind) (v : AnalyticValue) (f g : Frame) → AreAlike f g → is_value f k v ≡ is_value g k v
value_alike k (value.Scalar e) f g same = of_alike k f g same e
value_alike k (value.Analytic a) f g same = analytic_alike k a f g same

window_alike : (w : CheckedWindow) (f g : Frame) → AreAlike f g → windows_typed.is_well_typed f w ≡ windows_typed.is_well_typed g w
window_alike (window.Measures items) f g same =
    all_same (λ (i : AnalyticMeasure). is_analytic f i.kind i.value) (λ (i : AnalyticMeasure). is_analytic g i.kind i.value) (λ i. analytic_alike i.kind i.value f g same) items
window_alike (window.Calc items) f g same =
    all_same (windows_typed.is_item f) (windows_typed.is_item g) (λ (i : AnalyticItem). λ q. (target_alike f g same i.target q && may_be_made i.role) && value_alike i.kind i.value f g same q) items

-- ---- clauses on points

pub point_after_alike : (k : PointClause) (f g : Frame) → AreAlike f g → AreAlike (points.after k f) (points.after k g)
point_after_alike (Alone c) f g same = after_alike c f g same
point_after_alike (Analytic w) f g same = window_after_alike w f g same

pub well_alike : (k : PointClause) (f g : Frame) → AreAlike f g → is_well f k ≡ is_well g k
well_alike (Alone c) f g same = well_typed_alike c f g same
well_alike (Analytic w) f g same = window_alike w f g same
