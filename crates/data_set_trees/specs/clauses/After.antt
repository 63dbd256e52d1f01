-- What a frame is after a clause (docs/language.md, "Clauses").
use Rattle.std.specs.Prelude.{ℕ, Bool, not, ◌||◌, ◌++◌, List, [], ◌∷◌, map, fold, filter, find, unwrap_or, option_map, nat_eq}
use Rattle.std.specs.List.{list_any}
use Rattle.vtl_values.specs.declared.kind.Kind.{Kind}
use Rattle.vtl_values.specs.declared.kind.Kind.TheVariants.{Text}
use Rattle.vtl_values.specs.declared.kind.Role.{Role}
use Rattle.vtl_values.specs.declared.kind.Role.TheVariants.{Identifier, Measure, Viral}
use Rattle.vtl_values.specs.declared.structure.Component.{Component}
use Rattle.vtl_values.specs.declared.structure.Codes.TheVariants.{Any}
use Rattle.scalar_trees.specs.declared.typing.scope.ScopeName.{ScopeName}
use Rattle.data_set_trees.specs.declared.clauses.frame.Frame.{Frame}
use Rattle.data_set_trees.specs.declared.clauses.clause.CheckedClause.{CheckedClause}
use Rattle.data_set_trees.specs.declared.clauses.clause.CheckedClause.TheVariants as clause
use Rattle.data_set_trees.specs.declared.clauses.clause.CheckedItem.{CheckedItem}
use Rattle.data_set_trees.specs.declared.clauses.clause.CheckedMeasure.{CheckedMeasure}
use Rattle.data_set_trees.specs.declared.clauses.clause.CheckedRename.{CheckedRename}
use Rattle.data_set_trees.specs.declared.clauses.clause.Target.{Target}
use Rattle.data_set_trees.specs.declared.clauses.clause.Target.TheVariants.{Old, New}
use Rattle.data_set_trees.specs.clauses.Frames.{picked, kept, by_role, added, bare, changed_at, has_role, numbers_of}

-- what a clause makes has no code list
abbrev pub made : Role → Kind → List ℕ → Component
made role kind name = record { name = name; role = role; kind = kind; codes = Any }

-- ---- calc

-- a component that is there gets the role and the kind, and keeps its names; a new one comes last
abbrev pub put : Target → Role → Kind → Frame → Frame
put (Old number) role kind frame = record frame { components = changed_at (λ c. made role kind c.name) number frame.components }
put (New name) role kind frame = added frame (made role kind name)

abbrev pub with_item : Frame → CheckedItem → Frame
with_item frame item = put item.target item.role item.kind frame

-- the items' targets in a frame, not yet by role
abbrev pub calculated : List CheckedItem → Frame → Frame
calculated items frame = fold with_item frame items

-- ---- keep and drop

abbrev pub is_among : List ℕ → ℕ → Bool
is_among numbers number = list_any (nat_eq number) numbers

-- identifiers and viral attributes always stay
abbrev pub always_stays : Component → Bool
always_stays c = has_role Identifier c || has_role Viral c

abbrev pub is_kept : List ℕ → ℕ → Component → Bool
is_kept numbers number c = always_stays c || is_among numbers number

abbrev pub is_left : List ℕ → ℕ → Component → Bool
is_left numbers number c = not (is_among numbers number)

-- ---- rename

abbrev pub is_name_of : ℕ → ScopeName → Bool
is_name_of number n = nat_eq number n.number

-- the component has the new name alone
abbrev pub with_rename : Frame → CheckedRename → Frame
with_rename frame r = record { names = filter (λ n. not (is_name_of r.component n)) frame.names ++ bare r.name r.component ∷ []; components = changed_at (λ c. record c { name = r.name }) r.component frame.components }

abbrev pub renamed : List CheckedRename → Frame → Frame
renamed renames frame = fold with_rename frame renames

-- ---- measures in place of those that there are

-- identifiers, and then viral attributes
abbrev pub staying : Frame → Frame
staying frame = picked (numbers_of Identifier frame.components ++ numbers_of Viral frame.components) frame

abbrev pub with_measure : Frame → CheckedMeasure → Frame
with_measure frame i = added frame (made Measure i.kind i.name)

-- what stays, and then the measures that are worked out, not yet by role
abbrev pub measured : List CheckedMeasure → Frame → Frame
measured items frame = fold with_measure (staying frame) items

-- ---- unpivot

-- the kind of the first measure; typing sees that there is one, and that the others have its kind
abbrev pub measure_kind : List Component → Kind
measure_kind components = unwrap_or (option_map (λ c. c.kind) (find (has_role Measure) components)) Text

-- what stays, and then the new identifier and the new measure, not yet by role
abbrev pub unpivoted : List ℕ → List ℕ → Frame → Frame
unpivoted identifier measure frame = added (added (staying frame) (made Identifier Text identifier)) (made Measure (measure_kind frame.components) measure)

-- ---- a clause

abbrev pub after : CheckedClause → Frame → Frame
after (clause.Filter condition) frame = frame
after (clause.Calc items) frame = by_role (calculated items frame)
after (clause.Keep numbers) frame = kept (is_kept numbers) frame
after (clause.Drop numbers) frame = kept (is_left numbers) frame
after (clause.Rename renames) frame = renamed renames frame
after (clause.Sub items) frame = kept (is_left (map (λ i. i.component) items)) frame
after (clause.Unpivot identifier measure) frame = by_role (unpivoted identifier measure frame)
after (clause.Measures items) frame = by_role (measured items frame)
