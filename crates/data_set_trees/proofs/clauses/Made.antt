-- What clauses make of a structure is one.
use Rattle.std.proofs.Common.{◌≡◌, ◌≢◌, refl, ℕ, zero, suc, ◌<◌, Bool, true, false, not, ◌&&◌, ◌||◌, List, [], ◌∷◌, ◌++◌, Option, Some, None, Ok, length, get_or, ap, sym, subst, ◌∙◌, ◌≤◌, arith, inl}
use Rattle.std.specs.Prelude.{fold, slice_get, option_map, unwrap_or}
use Rattle.std.specs.Option.{option_map_or}
use Rattle.std.specs.List.{All, AllPairs, list_all, list_any}
use Rattle.std.proofs.lemmas.Bool.{not-true}
use Rattle.std.proofs.lemmas.List.Elements.{All-nil, All-cons, All-head, All-tail, All-append, All-weaker, filter_map-append}
use Rattle.vtl_values.specs.declared.kind.Kind.{Kind}
use Rattle.vtl_values.specs.declared.kind.Kind.TheVariants as kind
use Rattle.vtl_values.specs.declared.kind.Role.{Role}
use Rattle.vtl_values.specs.declared.kind.Role.TheVariants.{Identifier, Measure, Attribute, Viral}
use Rattle.vtl_values.specs.declared.place.Place.{Place}
use Rattle.vtl_values.specs.declared.structure.Codes.TheVariants.{Any}
use Rattle.vtl_values.specs.declared.structure.Component.{Component}
use Rattle.vtl_values.specs.Structures.{IsStructure, FitsCodes, place_of}
use Rattle.vtl_syntax.specs.declared.words.ItemRole.{ItemRole}
use Rattle.vtl_syntax.specs.declared.words.ItemRole.TheVariants as stated
use Rattle.scalar_trees.specs.declared.typing.stop.Fault.{Fault}
use Rattle.scalar_trees.specs.declared.typing.stop.Fault.TheVariants as fault
use Rattle.scalar_trees.specs.declared.typing.scope.ScopeName.{ScopeName}
use Rattle.scalar_trees.specs.typing.Steps.{◌>>=◌, demanded}
use Rattle.scalar_trees.proofs.typing.Sound.{left, right}
use Rattle.data_set_trees.specs.declared.clauses.frame.Frame.{Frame}
use Rattle.data_set_trees.specs.declared.clauses.clause.CheckedClause.{CheckedClause}
use Rattle.data_set_trees.specs.declared.clauses.clause.CheckedClause.TheVariants as clause
use Rattle.data_set_trees.specs.declared.clauses.clause.CheckedItem.{CheckedItem}
use Rattle.data_set_trees.specs.declared.clauses.clause.CheckedMeasure.{CheckedMeasure}
use Rattle.data_set_trees.specs.declared.clauses.clause.CheckedRename.{CheckedRename}
use Rattle.data_set_trees.specs.declared.clauses.clause.Target.{Target}
use Rattle.data_set_trees.specs.declared.clauses.clause.Target.TheVariants.{Old, New}
use Rattle.data_set_trees.specs.clauses.Frames.{frame_of, is_role, has_role, numbers_of, bare}
use Rattle.data_set_trees.specs.clauses.After.{made, put, with_item, calculated, always_stays, with_rename, renamed, staying, with_measure, measured, measure_kind, unpivoted, after}
use Rattle.data_set_trees.specs.clauses.Clauses.{IsItemOf, demands, bare_number_of, target_of, old_role, role_of, may_be_target, may_calculate, is_same_target, is_same_name, all_differ, names_differ, targets_differ, has_room, are_known_renames, renames_checked, renamed_once, renames_differ, are_alike, has_measure}
use Rattle.data_set_trees.specs.clauses.Laws.{FitTogether, CalcGivesStructures, RenameGivesStructures, UnpivotGivesStructures, MeasuresGiveStructures}
use Rattle.data_set_trees.proofs.clauses.Parts.{left_all, left_pairs, picked_are}
use Rattle.data_set_trees.proofs.clauses.Ordered.{part, pairs_append, across_from, have_role, orders_structures}
use Rattle.data_set_trees.proofs.clauses.Changes.{All-changed, AllPairs-changed, All-added, AllPairs-added}
use Rattle.data_set_trees.proofs.clauses.Names.{IsFree, HasBareName, EachHasItsName, texts-differ, none-passes, parts-differ, first_part-differs, bare-differ, frame_of-named, renamed-named, picked-named, unknown-free, among-first, among-last}

abbrev Differ : Component → Component → Type 0
Differ a b = a.name ≢ b.name

abbrev IsListed : Component → Type 0
IsListed c = c.role ≡ Viral → c.codes ≢ Any

abbrev HasFitting : Component → Type 0
HasFitting c = FitsCodes c.kind c.codes

fit_together : (cs : List Component) → IsStructure cs → FitTogether cs
fit_together cs is = record { names_differ = is.names_differ; viral_listed = is.viral_listed; codes_fit = is.codes_fit }

-- a component that is made is no viral attribute, and its name is free
added_fits : (cs : List Component) (role : Role) (kind : Kind) (name : List ℕ) → role ≢ Viral → IsFree cs name → FitTogether cs → FitTogether (cs ++ made role kind name ∷ [])
added_fits cs role kind name plain free fit = record {
  names_differ = AllPairs-added Differ cs (made role kind name) fit.names_differ free;
  viral_listed = All-added IsListed cs (made role kind name) fit.viral_listed (λ viral. absurd (plain viral));
  codes_fit = All-added HasFitting cs (made role kind name) fit.codes_fit tt;
}

-- ---- what typing answers

-- what is demanded holds, and the answer is what comes after
pub met : (place : Place) (ds : List (Bool × Fault)) (given c : CheckedClause) → (demands place ds >>= (λ met. Ok given)) ≡ Ok c → (list_all (λ d. d.0) ds ≡ true) × (given ≡ c)
met place [] given c h = let same : given ≡ c = cc in (refl, same)
met place (d ∷ ds) given c h = by_test d.0 (met place ds given c) h
  where
    by_test : (b : Bool) → ((demands place ds >>= (λ met. Ok given)) ≡ Ok c → (list_all (λ e. e.0) ds ≡ true) × (given ≡ c)) → ((demanded b d.1 place >>= (λ met. demands place ds)) >>= (λ met. Ok given)) ≡ Ok c → ((b && list_all (λ e. e.0) ds) ≡ true) × (given ≡ c)
    by_test true later i = later i
    by_test false later i = cc

-- ---- calc

-- a role that an item has
abbrev pub IsPlain : Role → Type 0
IsPlain r = (is_role Identifier r || is_role Viral r) ≡ false

viral_stays : (r : Role) → IsPlain r → r ≢ Viral
viral_stays Identifier h same = cc
viral_stays Measure h same = cc
viral_stays Attribute h same = cc
viral_stays Viral h same = cc

abbrev IsFreeTarget : List Component → Target → Type 0
IsFreeTarget cs (Old number) = Unit {0}
IsFreeTarget cs (New name) = IsFree cs name

abbrev TargetsFree : List Component → List CheckedItem → Type 0
TargetsFree cs items = All (λ i. IsFreeTarget cs i.target) items

put_fits : (t : Target) (role : Role) (kind : Kind) (frame : Frame) → role ≢ Viral → IsFreeTarget frame.components t → FitTogether frame.components → FitTogether (put t role kind frame).components
put_fits (Old number) role kind frame plain free fit = record {
  names_differ = AllPairs-changed Differ (λ c. made role kind c.name) (λ c d h. h) (λ c d h. h) number frame.components fit.names_differ;
  viral_listed = All-changed IsListed (λ c. made role kind c.name) (λ c h viral. absurd (plain viral)) number frame.components fit.viral_listed;
  codes_fit = All-changed HasFitting (λ c. made role kind c.name) (λ c h. tt) number frame.components fit.codes_fit;
}
put_fits (New name) role kind frame plain free fit = added_fits frame.components role kind name plain free fit

-- a name stays free where another one is put
put_free : (t : Target) (role : Role) (kind : Kind) (frame : Frame) (s : Target) → is_same_target t s ≡ false → IsFreeTarget frame.components s → IsFreeTarget (put t role kind frame).components s
put_free t role kind frame (Old number) apart free = tt
put_free (Old number) role kind frame (New name) apart free = All-changed (λ c. c.name ≢ name) (λ c. made role kind c.name) (λ c h. h) number frame.components free
put_free (New own) role kind frame (New name) apart free = All-added (λ c. c.name ≢ name) frame.components (made role kind own) free (texts-differ own name apart)

calculated_fit : (items : List CheckedItem) (frame : Frame) → targets_differ items ≡ true → All (λ i. IsPlain i.role) items → TargetsFree frame.components items → FitTogether frame.components → FitTogether (calculated items frame).components
calculated_fit [] frame differ plain free fit = fit
calculated_fit (i ∷ is) frame differ plain free fit =
    let among = list_any (λ j. is_same_target i.target j.target) is in
    let apart : All (λ j. is_same_target i.target j.target ≡ false) is = none-passes (λ j. is_same_target i.target j.target) is (not-true among (left (not among) (targets_differ is) differ)) in
    let later : TargetsFree frame.components is = All-tail (λ j. IsFreeTarget frame.components j.target) i is free in
    calculated_fit is (with_item frame i) (right (not among) (targets_differ is) differ) (All-tail (λ j. IsPlain j.role) i is plain)
    (λ k d within. put_free i.target i.role i.kind frame (get_or is k d).target (apart k d within) (later k d within))
    (put_fits i.target i.role i.kind frame (viral_stays i.role (All-head (λ j. IsPlain j.role) i is plain)) (All-head (λ j. IsFreeTarget frame.components j.target) i is free) fit)

-- the role of an item is the one that is stated, or that of a component that may be worked out, or measure
plain_role : (frame : Frame) (given : Option ItemRole) (number : Option ℕ) (name : List ℕ) → may_be_target frame (target_of number name) ≡ true → IsPlain (role_of given (old_role frame number))
plain_role frame (Some stated.Measure) number name may = refl
plain_role frame (Some stated.Attribute) number name may = refl
plain_role frame None None name may = refl
plain_role frame None (Some number) name may = by_component (slice_get frame.components number) may
  where
    by_component : (o : Option Component) → option_map_or (λ c. not (always_stays c)) o false ≡ true → IsPlain (unwrap_or (option_map (λ c. c.role) o) Measure)
    by_component None h = cc
    by_component (Some c) h = not-true (always_stays c) h

free_target : (cs : List Component) (number : Option ℕ) (name : List ℕ) → bare_number_of (frame_of cs) name ≡ number → IsFreeTarget cs (target_of number name)
free_target cs None name is = unknown-free cs name is
free_target cs (Some number) name is = tt

pub items_plain : (frame : Frame) (items : List CheckedItem) → may_calculate frame items ≡ true → All (IsItemOf frame) items → All (λ i. IsPlain i.role) items
items_plain frame [] may all = All-nil (λ i. IsPlain i.role)
items_plain frame (i ∷ is) may all =
    let own : IsItemOf frame i = All-head (IsItemOf frame) i is all in
    let here : may_be_target frame i.target ≡ true = left (may_be_target frame i.target) (may_calculate frame is) may in
    let number = bare_number_of frame own.name in
    let role : IsPlain (role_of own.stated (old_role frame number)) = plain_role frame own.stated number own.name (subst (λ (j : CheckedItem). may_be_target frame j.target ≡ true) own.is here) in
    All-cons (λ j. IsPlain j.role) i is (subst (λ (j : CheckedItem). IsPlain j.role) (sym own.is) role)
    (items_plain frame is (right (may_be_target frame i.target) (may_calculate frame is) may) (All-tail (IsItemOf frame) i is all))

items_free : (cs : List Component) (items : List CheckedItem) → All (IsItemOf (frame_of cs)) items → TargetsFree cs items
items_free cs [] all = All-nil (λ i. IsFreeTarget cs i.target)
items_free cs (i ∷ is) all =
    let own : IsItemOf (frame_of cs) i = All-head (IsItemOf (frame_of cs)) i is all in
    All-cons (λ j. IsFreeTarget cs j.target) i is
    (subst (λ (j : CheckedItem). IsFreeTarget cs j.target) (sym own.is) (free_target cs (bare_number_of (frame_of cs) own.name) own.name refl))
    (items_free cs is (All-tail (IsItemOf (frame_of cs)) i is all))

pub calc_gives : CalcGivesStructures
calc_gives place items cs c is all typed =
    let frame = frame_of cs in
    let may = may_calculate frame items in
    let differ = targets_differ items in
    let room = has_room (calculated items frame) in
    let answer = met place ((may, fault.WrongRole) ∷ (differ, fault.NameTwice) ∷ (room, fault.TooManyComponents) ∷ []) (clause.Calc items) c typed in
    let fit = calculated_fit items frame (left differ (room && true) (right may (differ && (room && true)) answer.0)) (items_plain frame items (left may (differ && (room && true)) answer.0) all) (items_free cs items all) (fit_together cs is) in
    subst (λ (d : CheckedClause). IsStructure (after d frame).components) answer.1 (orders_structures (calculated items frame) fit)

-- ---- rename

abbrev HasPlace : Component → Component → Type 0
HasPlace a b = place_of a.role ≤ place_of b.role

in_order_renamed : (renames : List CheckedRename) (frame : Frame) → AllPairs HasPlace frame.components → AllPairs HasPlace (renamed renames frame).components
in_order_renamed [] frame pairs = pairs
in_order_renamed (r ∷ rs) frame pairs = in_order_renamed rs (with_rename frame r) (AllPairs-changed HasPlace (λ c. record c { name = r.name }) (λ c d h. h) (λ c d h. h) r.component frame.components pairs)

all_renamed : (P : Component → Type 0) → ((c : Component) (name : List ℕ) → P c → P (record c { name = name })) → (renames : List CheckedRename) (frame : Frame) → All P frame.components → All P (renamed renames frame).components
all_renamed P keeps [] frame all = all
all_renamed P keeps (r ∷ rs) frame all = all_renamed P keeps rs (with_rename frame r) (All-changed P (λ c. record c { name = r.name }) (λ c own. keeps c r.name own) r.component frame.components all)

read : (cs : List Component) (n : ℕ) (d : Component) → n < length cs → slice_get cs n ≡ Some (get_or cs n d)
read [] n d h = absurd (omega (arith, h))
read (c ∷ cs) zero d h = refl
read (c ∷ cs) (suc n) d h = read cs n d (omega (arith, h))

components_differ : (frame : Frame) → EachHasItsName frame → names_differ frame ≡ true → AllPairs Differ frame.components
components_differ frame has differ i j d below within =
    let first = get_or frame.components i d in
    let second = get_or frame.components j d in
    bare-differ frame.names first.name second.name i j differ (λ same. omega (arith, below, same)) (has i first (read frame.components i d (omega (arith, below, within)))) (has j second (read frame.components j d within))

pub rename_gives : RenameGivesStructures
rename_gives place renames cs c is typed =
    let frame = frame_of cs in
    let checked = renames_checked frame renames in
    let known = are_known_renames frame renames in
    let differ = renames_differ frame checked in
    let answer = met place ((known, fault.UnknownComponent) ∷ (differ, fault.NameTwice) ∷ []) (clause.Rename checked) c typed in
    let apart : names_differ (renamed checked frame) ≡ true = right (renamed_once checked) (names_differ (renamed checked frame)) (left differ true (right known (differ && true) answer.0)) in
    let structure : IsStructure (renamed checked frame).components = record {
      in_order = in_order_renamed checked frame is.in_order;
      names_differ = components_differ (renamed checked frame) (renamed-named checked frame (frame_of-named cs)) apart;
      viral_listed = all_renamed IsListed (λ d name h. h) checked frame is.viral_listed;
      codes_fit = all_renamed HasFitting (λ d name h. h) checked frame is.codes_fit;
    } in
    subst (λ (d : CheckedClause). IsStructure (after d frame).components) answer.1 structure

-- ---- what stays, and what comes to it

staying_are : (frame : Frame) → (staying frame).components ≡ part Identifier frame.components ++ part Viral frame.components
staying_are frame =
    let cs = frame.components in
    filter_map-append (slice_get cs) (numbers_of Identifier cs) (numbers_of Viral cs) ∙ (λ q. picked_are (λ number. has_role Identifier) [] cs q ++ picked_are (λ number. has_role Viral) [] cs q)

all_staying : (P : Component → Type 0) (cs : List Component) → All P cs → All P (part Identifier cs ++ part Viral cs)
all_staying P cs all = All-append P (part Identifier cs) (part Viral cs) (left_all P (λ number. has_role Identifier) 0 cs all) (left_all P (λ number. has_role Viral) 0 cs all)

parts_fit : (cs : List Component) → IsStructure cs → FitTogether (part Identifier cs ++ part Viral cs)
parts_fit cs is = record {
  names_differ = pairs_append Differ (part Identifier cs) (part Viral cs)
      (left_pairs Differ (λ number. has_role Identifier) 0 cs is.names_differ) (left_pairs Differ (λ number. has_role Viral) 0 cs is.names_differ)
      (across_from Differ (λ a b other same. other (sym same)) Identifier Viral (omega arith) 0 cs is.names_differ);
  viral_listed = all_staying IsListed cs is.viral_listed;
  codes_fit = all_staying HasFitting cs is.codes_fit;
}

staying_fit : (cs : List Component) → IsStructure cs → FitTogether (staying (frame_of cs)).components
staying_fit cs is = subst FitTogether (sym (staying_are (frame_of cs))) (parts_fit cs is)

measures_fit : (items : List CheckedMeasure) (frame : Frame) → AllPairs (λ a b. a.name ≢ b.name) items → All (λ i. IsFree frame.components i.name) items → FitTogether frame.components → FitTogether (fold with_measure frame items).components
measures_fit [] frame differ free fit = fit
measures_fit (i ∷ is) frame differ free fit =
    let later : All (λ j. IsFree frame.components j.name) is = All-tail (λ j. IsFree frame.components j.name) i is free in
    measures_fit is (with_measure frame i) (λ m n d below within. differ (suc m) (suc n) d (omega arith) (omega arith))
    (λ k d within. All-added (λ c. c.name ≢ (get_or is k d).name) frame.components (made Measure i.kind i.name) (later k d within) (differ 0 (suc k) d (omega arith) (omega arith)))
    (added_fits frame.components Measure i.kind i.name (λ same. cc) (All-head (λ j. IsFree frame.components j.name) i is free) fit)

-- what has a role that always stays
stays : (r : Role) (cs : List Component) → ((c : Component) → r ≡ c.role → always_stays c ≡ true) → All (λ c. always_stays c ≡ true) (part r cs)
stays r cs each = All-weaker (λ c. r ≡ c.role) (λ c. always_stays c ≡ true) each (part r cs) (have_role r 0 cs)

identifier_stays : (c : Component) → Identifier ≡ c.role → always_stays c ≡ true
identifier_stays c is = ap (λ (r : Role). is_role Identifier r || is_role Viral r) (sym is)

viral_one_stays : (c : Component) → Viral ≡ c.role → always_stays c ≡ true
viral_one_stays c is = ap (λ (r : Role). is_role Identifier r || is_role Viral r) (sym is)

staying_free : (cs : List Component) (name : List ℕ) → All (λ c. always_stays c ≡ true → c.name ≢ name) cs → IsFree (staying (frame_of cs)).components name
staying_free cs name apart =
    let parts = part Identifier cs ++ part Viral cs in
    let own : All (λ c. always_stays c ≡ true) parts = All-append (λ c. always_stays c ≡ true) (part Identifier cs) (part Viral cs) (stays Identifier cs identifier_stays) (stays Viral cs viral_one_stays) in
    let free : IsFree parts name = λ k d within. all_staying (λ c. always_stays c ≡ true → c.name ≢ name) cs apart k d within (own k d within) in
    subst (λ (ds : List Component). IsFree ds name) (sym (staying_are (frame_of cs))) free

pub measures_give : MeasuresGiveStructures
measures_give items cs is apart =
    let frame = frame_of cs in
    orders_structures (measured items frame)
    (measures_fit items (staying frame) apart.names_differ (All-weaker (λ i. All (λ c. always_stays c ≡ true → c.name ≢ i.name) cs) (λ i. IsFree (staying frame).components i.name) (λ i h. staying_free cs i.name h) items apart.names_free) (staying_fit cs is))

-- ---- unpivot

-- a name after the others is that of none of their components
last_free : (names : List ScopeName) (cs : List Component) (name : List ℕ) (n : ℕ) → all_differ is_same_name (names ++ bare name n ∷ []) ≡ true → All (HasBareName names) cs → IsFree cs name
last_free names cs name n differ all k d within =
    let own = all k d within in
    texts-differ (get_or cs k d).name name (parts-differ is_same_name names (bare name n ∷ []) (bare (get_or cs k d).name own.0) (bare name n) differ own.1 (inl refl))

pub unpivot_gives : UnpivotGivesStructures
unpivot_gives place identifier measure cs c is typed =
    let frame = frame_of cs in
    let left_over = staying frame in
    let own = made Identifier kind.Text identifier in
    let its = made Measure (measure_kind cs) measure in
    let count = length left_over.components in
    let alike = are_alike cs in
    let some = has_measure cs in
    let whole = unpivoted identifier measure frame in
    let differ = names_differ whole in
    let room = has_room whole in
    let answer = met place ((alike, fault.WrongType) ∷ (some, fault.WrongStructure) ∷ (differ, fault.NameTwice) ∷ (room, fault.TooManyComponents) ∷ []) (clause.Unpivot identifier measure) c typed in
    let apart : names_differ whole ≡ true = left differ (room && true) (right some (differ && (room && true)) (right alike (some && (differ && (room && true))) answer.0)) in
    let first_names = left_over.names ++ bare identifier count ∷ [] in
    let both_named : All (HasBareName first_names) (left_over.components ++ own ∷ []) =
    All-added (HasBareName first_names) left_over.components own
    (All-weaker (HasBareName left_over.names) (HasBareName first_names) (λ d h. (h.0, among-first left_over.names (bare identifier count ∷ []) (bare d.name h.0) h.1)) left_over.components (picked-named (numbers_of Identifier cs ++ numbers_of Viral cs) cs))
    (count, among-last left_over.names (bare identifier count ∷ []) (bare identifier count) (inl refl)) in
    let apart_first : all_differ is_same_name first_names ≡ true = first_part-differs is_same_name first_names (bare measure (length (left_over.components ++ own ∷ [])) ∷ []) apart in
    let first_free : IsFree left_over.components identifier = last_free left_over.names left_over.components identifier count apart_first (picked-named (numbers_of Identifier cs ++ numbers_of Viral cs) cs) in
    let second_free : IsFree (left_over.components ++ own ∷ []) measure = last_free first_names (left_over.components ++ own ∷ []) measure (length (left_over.components ++ own ∷ [])) apart both_named in
    let fit = added_fits (left_over.components ++ own ∷ []) Measure (measure_kind cs) measure (λ same. cc) second_free (added_fits left_over.components Identifier kind.Text identifier (λ same. cc) first_free (staying_fit cs is)) in
    subst (λ (d : CheckedClause). IsStructure (after d frame).components) answer.1 (orders_structures whole fit)
