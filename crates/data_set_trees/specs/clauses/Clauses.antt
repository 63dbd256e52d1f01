-- What a clause is checked to be, or its first fault, which stands at its word (docs/language.md, "Clauses", "Faults of
-- clauses").
use Rattle.std.specs.Prelude.{◌≡◌, ℕ, Bool, true, false, not, ◌&&◌, ◌||◌, List, [], ◌∷◌, length, Option, Some, None, option_map, option_and_then, is_some, unwrap_or, filter_map, slice_get, nat_eq, nat_le, Result, Ok}
use Rattle.std.specs.List.{list_any, list_all}
use Rattle.std.specs.Option.{option_map_or}
use Rattle.vtl_values.specs.Texts.{same_text}
use Rattle.vtl_values.specs.declared.kind.Kind.{Kind}
use Rattle.vtl_values.specs.declared.kind.Kind.TheVariants.{Truth, Text}
use Rattle.vtl_values.specs.declared.kind.Role.{Role}
use Rattle.vtl_values.specs.declared.kind.Role.TheVariants as role
use Rattle.vtl_values.specs.declared.place.Place.{Place}
use Rattle.vtl_values.specs.declared.structure.Component.{Component}
use Rattle.vtl_values.specs.declared.value.Value.{Value}
use Rattle.vtl_syntax.specs.declared.words.ItemRole.{ItemRole}
use Rattle.vtl_syntax.specs.declared.words.ItemRole.TheVariants as stated
use Rattle.vtl_syntax.specs.declared.expr.Comp.{Comp}
use Rattle.vtl_syntax.specs.declared.expr.Rename.{Rename}
use Rattle.vtl_syntax.specs.declared.expr.SubItem.{SubItem}
use Rattle.scalar_trees.specs.Kinds.{ANY, agreed, literal_kind}
use Rattle.scalar_trees.specs.WellTyped.{is_kind, is_present}
use Rattle.scalar_trees.specs.declared.typing.scope.Basis.TheVariants.{Point}
use Rattle.scalar_trees.specs.declared.typing.scope.ScopeName.{ScopeName}
use Rattle.scalar_trees.specs.declared.typing.scope.Slot.{Slot}
use Rattle.scalar_trees.specs.declared.typing.stop.Fault.{Fault}
use Rattle.scalar_trees.specs.declared.typing.stop.Fault.TheVariants.{UnknownComponent, WrongType, WrongStructure, WrongRole, NameTwice, TooManyComponents, BadConstant}
use Rattle.scalar_trees.specs.declared.typing.stop.Refusal.{Refusal}
use Rattle.scalar_trees.specs.declared.typing.typed.Typed.{Typed}
use Rattle.scalar_trees.specs.typing.Scopes.{named, member}
use Rattle.scalar_trees.specs.typing.Scalars.{wanted, whole_kind}
use Rattle.scalar_trees.specs.typing.Steps.{◌>>=◌, demanded}
use Rattle.data_set_trees.specs.declared.clauses.frame.Frame.{Frame}
use Rattle.data_set_trees.specs.declared.clauses.clause.CheckedClause.{CheckedClause}
use Rattle.data_set_trees.specs.declared.clauses.clause.CheckedClause.TheVariants as clause
use Rattle.data_set_trees.specs.declared.clauses.clause.CheckedItem.{CheckedItem}
use Rattle.data_set_trees.specs.declared.clauses.clause.CheckedRename.{CheckedRename}
use Rattle.data_set_trees.specs.declared.clauses.clause.CheckedSubItem.{CheckedSubItem}
use Rattle.data_set_trees.specs.declared.clauses.clause.Target.{Target}
use Rattle.data_set_trees.specs.declared.clauses.clause.Target.TheVariants.{Old, New}
use Rattle.data_set_trees.specs.clauses.Frames.{scope_of_frame, has_role}
use Rattle.data_set_trees.specs.clauses.After.{always_stays, calculated, renamed, measure_kind, unpivoted}

abbrev pub Answer : Type 0
Answer = Result CheckedClause Refusal

-- a result has at most so many components
abbrev pub MOST_COMPONENTS : ℕ
MOST_COMPONENTS = 64

-- what is demanded at a clause's word, in the order of the faults: the first demand that isn't met is told
abbrev pub demands : Place → List (Bool × Fault) → Result (Unit {0}) Refusal
demands place [] = Ok tt
demands place (d ∷ ds) = demanded d.0 d.1 place >>= (λ met. demands place ds)

-- ---- names

-- what `name` or `alias#name` stands for, as in expressions
abbrev pub slot_of : Frame → List ℕ → Option (List ℕ) → Option Slot
slot_of frame name None = named (scope_of_frame frame) Point name
slot_of frame alias (Some name) = member (scope_of_frame frame) Point alias name

-- the number of the component that a name stands for, if it does
abbrev pub number_of : Frame → Comp → Option ℕ
number_of frame c = option_map (λ s. s.number) (slot_of frame c.name c.component)

abbrev pub bare_number_of : Frame → List ℕ → Option ℕ
bare_number_of frame name = option_map (λ s. s.number) (slot_of frame name None)

abbrev pub are_known : Frame → List Comp → Bool
are_known frame names = list_all (λ c. is_some (number_of frame c)) names

abbrev pub numbers_named : Frame → List Comp → List ℕ
numbers_named frame names = filter_map (number_of frame) names

-- the component with this number is such a one
abbrev pub passes_at : (Component → Bool) → Frame → ℕ → Bool
passes_at test frame number = option_map_or test (slice_get frame.components number) false

-- no two are the same
abbrev pub all_differ : {A : Type 0} → (A → A → Bool) → List A → Bool
all_differ same [] = true
all_differ same (x ∷ xs) = not (list_any (same x) xs) && all_differ same xs

abbrev pub is_same_alias : Option (List ℕ) → Option (List ℕ) → Bool
is_same_alias None None = true
is_same_alias (Some a) (Some b) = same_text a b
is_same_alias _ _ = false

-- names with different aliases differ
abbrev pub is_same_name : ScopeName → ScopeName → Bool
is_same_name m n = is_same_alias m.alias n.alias && same_text m.name n.name

abbrev pub names_differ : Frame → Bool
names_differ frame = all_differ is_same_name frame.names

abbrev pub has_room : Frame → Bool
has_room frame = nat_le (length frame.components) MOST_COMPONENTS

-- ---- filter

abbrev pub filter_typed : Place → Typed → Answer
filter_typed place condition = wanted place Truth condition >>= (λ c. Ok (clause.Filter c))

-- ---- calc

-- the component that a name stands for, or else a new one
abbrev pub target_of : Option ℕ → List ℕ → Target
target_of (Some number) name = Old number
target_of None name = New name

-- the role of the component that there is
abbrev pub old_role : Frame → Option ℕ → Option Role
old_role frame number = option_map (λ c. c.role) (option_and_then (slice_get frame.components) number)

-- the role that is stated, or else the one that the component has, or else measure
abbrev pub role_of : Option ItemRole → Option Role → Role
role_of (Some stated.Measure) old = role.Measure
role_of (Some stated.Attribute) old = role.Attribute
role_of None old = unwrap_or old role.Measure

-- an item, whose value as a whole expression is a string where it is null
abbrev pub item_typed : Frame → Option ItemRole → List ℕ → Typed → CheckedItem
item_typed frame stated name value = record { target = target_of (bare_number_of frame name) name; role = role_of stated (old_role frame (bare_number_of frame name)); kind = whole_kind Text value.kind; value = value.tree }

-- an item that is made so on a frame
pub record IsItemOf (frame : Frame) (item : CheckedItem) : Type 0 where
  pub stated : Option ItemRole
  pub name : List ℕ
  pub value : Typed
  pub is : item ≡ item_typed frame stated name value

-- identifiers and viral attributes can't be worked out
abbrev pub may_be_target : Frame → Target → Bool
may_be_target frame (Old number) = passes_at (λ c. not (always_stays c)) frame number
may_be_target frame (New name) = true

abbrev pub may_calculate : Frame → List CheckedItem → Bool
may_calculate frame items = list_all (λ i. may_be_target frame i.target) items

abbrev pub is_same_target : Target → Target → Bool
is_same_target (Old m) (Old n) = nat_eq m n
is_same_target (New a) (New b) = same_text a b
is_same_target _ _ = false

abbrev pub targets_differ : List CheckedItem → Bool
targets_differ items = all_differ (λ a b. is_same_target a.target b.target) items

abbrev pub calc_typed : Place → List CheckedItem → Frame → Answer
calc_typed place items frame =
    demands place ((may_calculate frame items, WrongRole) ∷ (targets_differ items, NameTwice) ∷ (has_room (calculated items frame), TooManyComponents) ∷ []) >>= (λ met. Ok (clause.Calc items))

-- ---- keep and drop

-- what always stays isn't named by `keep`
abbrev pub may_keep : Frame → List ℕ → Bool
may_keep frame numbers = list_all (passes_at (λ c. not (always_stays c)) frame) numbers

abbrev pub keep_typed : Place → List Comp → Frame → Answer
keep_typed place names frame =
    demands place ((are_known frame names, UnknownComponent) ∷ (may_keep frame (numbers_named frame names), WrongRole) ∷ []) >>= (λ met. Ok (clause.Keep (numbers_named frame names)))

abbrev pub may_drop : Frame → List ℕ → Bool
may_drop frame numbers = list_all (passes_at (λ c. not (has_role role.Identifier c)) frame) numbers

abbrev pub drop_typed : Place → List Comp → Frame → Answer
drop_typed place names frame =
    demands place ((are_known frame names, UnknownComponent) ∷ (may_drop frame (numbers_named frame names), WrongRole) ∷ []) >>= (λ met. Ok (clause.Drop (numbers_named frame names)))

-- ---- rename

abbrev pub are_known_renames : Frame → List Rename → Bool
are_known_renames frame renames = list_all (λ r. is_some (number_of frame r.component)) renames

abbrev pub rename_checked : Frame → Rename → Option CheckedRename
rename_checked frame r = option_map (λ number. record { component = number; name = r.name }) (number_of frame r.component)

abbrev pub renames_checked : Frame → List Rename → List CheckedRename
renames_checked frame renames = filter_map (rename_checked frame) renames

-- no component gets two names
abbrev pub renamed_once : List CheckedRename → Bool
renamed_once renames = all_differ (λ a b. nat_eq a.component b.component) renames

-- and the names of the result differ
abbrev pub renames_differ : Frame → List CheckedRename → Bool
renames_differ frame renames = renamed_once renames && names_differ (renamed renames frame)

abbrev pub rename_typed : Place → List Rename → Frame → Answer
rename_typed place renames frame =
    demands place ((are_known_renames frame renames, UnknownComponent) ∷ (renames_differ frame (renames_checked frame renames), NameTwice) ∷ []) >>= (λ met. Ok (clause.Rename (renames_checked frame renames)))

-- ---- sub

abbrev pub are_known_items : Frame → List SubItem → Bool
are_known_items frame items = list_all (λ i. is_some (bare_number_of frame i.name)) items

abbrev pub sub_checked : Frame → SubItem → Option CheckedSubItem
sub_checked frame i = option_map (λ number. record { component = number; value = i.value }) (bare_number_of frame i.name)

abbrev pub subs_checked : Frame → List SubItem → List CheckedSubItem
subs_checked frame items = filter_map (sub_checked frame) items

-- the two can be compared: integers and numbers with each other, and null with everything
abbrev pub is_comparable : Value → Component → Bool
is_comparable v c = is_some (agreed ANY (Some c.kind ∷ literal_kind v ∷ []))

abbrev pub are_comparable : Frame → List CheckedSubItem → Bool
are_comparable frame items = list_all (λ i. passes_at (is_comparable i.value) frame i.component) items

abbrev pub are_identifiers : Frame → List CheckedSubItem → Bool
are_identifiers frame items = list_all (λ i. passes_at (has_role role.Identifier) frame i.component) items

abbrev pub are_present : List CheckedSubItem → Bool
are_present items = list_all (λ i. is_present i.value) items

abbrev pub sub_typed : Place → List SubItem → Frame → Answer
sub_typed place items frame =
    demands place ((are_known_items frame items, UnknownComponent) ∷ (are_comparable frame (subs_checked frame items), WrongType) ∷ (are_identifiers frame (subs_checked frame items), WrongRole) ∷ (are_present (subs_checked frame items), BadConstant) ∷ []) >>= (λ met. Ok (clause.Sub (subs_checked frame items)))

-- ---- unpivot

abbrev pub is_of_measure_kind : Kind → Component → Bool
is_of_measure_kind kind c = not (has_role role.Measure c) || is_kind c.kind kind

-- the measures are of one kind
abbrev pub are_alike : List Component → Bool
are_alike components = list_all (is_of_measure_kind (measure_kind components)) components

abbrev pub has_measure : List Component → Bool
has_measure components = list_any (has_role role.Measure) components

abbrev pub unpivot_typed : Place → List ℕ → List ℕ → Frame → Answer
unpivot_typed place identifier measure frame =
    demands place ((are_alike frame.components, WrongType) ∷ (has_measure frame.components, WrongStructure) ∷ (names_differ (unpivoted identifier measure frame), NameTwice) ∷ (has_room (unpivoted identifier measure frame), TooManyComponents) ∷ []) >>= (λ met. Ok (clause.Unpivot identifier measure))
