-- The components after a clause go by the components before it, whatever they are called.
use Rattle.std.proofs.Common.{◌≡◌, ℕ, List, [], ◌∷◌, ◌++◌, map, ap}
use Rattle.std.specs.Prelude.{filter_map, fold, slice_get}
use Rattle.vtl_values.specs.declared.kind.Kind.{Kind}
use Rattle.vtl_values.specs.declared.kind.Kind.TheVariants.{Text}
use Rattle.vtl_values.specs.declared.kind.Role.{Role}
use Rattle.vtl_values.specs.declared.kind.Role.TheVariants.{Identifier, Measure, Viral}
use Rattle.vtl_values.specs.declared.structure.Component.{Component}
use Rattle.data_set_trees.specs.declared.clauses.clause.CheckedClause.{CheckedClause}
use Rattle.data_set_trees.specs.declared.clauses.clause.CheckedClause.TheVariants as clause
use Rattle.data_set_trees.specs.declared.clauses.clause.CheckedItem.{CheckedItem}
use Rattle.data_set_trees.specs.declared.clauses.clause.CheckedMeasure.{CheckedMeasure}
use Rattle.data_set_trees.specs.declared.clauses.clause.CheckedRename.{CheckedRename}
use Rattle.data_set_trees.specs.declared.clauses.clause.Target.{Target}
use Rattle.data_set_trees.specs.declared.clauses.clause.Target.TheVariants.{Old, New}
use Rattle.data_set_trees.specs.declared.clauses.frame.Frame.{Frame}
use Rattle.data_set_trees.specs.clauses.After.{made, put, with_item, calculated, is_kept, is_left, with_rename, renamed, staying, with_measure, measured, measure_kind, unpivoted, after}
use Rattle.data_set_trees.specs.clauses.Frames.{changed_at, numbers_by_role, numbers_from, numbers_of, picked}

picked_same : (numbers : List Component → List ℕ) (f g : Frame) → f.components ≡ g.components → (picked (numbers f.components) f).components ≡ (picked (numbers g.components) g).components
picked_same numbers f g same = ap (λ (cs : List Component). filter_map (slice_get cs) (numbers cs)) same

put_same : (t : Target) (role : Role) (kind : Kind) (f g : Frame) → f.components ≡ g.components → (put t role kind f).components ≡ (put t role kind g).components
put_same (Old number) role kind f g same = ap (changed_at (λ c. made role kind c.name) number) same
put_same (New name) role kind f g same = ap (λ (cs : List Component). cs ++ made role kind name ∷ []) same

calculated_same : (items : List CheckedItem) (f g : Frame) → f.components ≡ g.components → (calculated items f).components ≡ (calculated items g).components
calculated_same [] f g same = same
calculated_same (i ∷ is) f g same = calculated_same is (with_item f i) (with_item g i) (put_same i.target i.role i.kind f g same)

renamed_same : (renames : List CheckedRename) (f g : Frame) → f.components ≡ g.components → (renamed renames f).components ≡ (renamed renames g).components
renamed_same [] f g same = same
renamed_same (r ∷ rs) f g same = renamed_same rs (with_rename f r) (with_rename g r) (ap (changed_at (λ c. record c { name = r.name }) r.component) same)

staying_same : (f g : Frame) → f.components ≡ g.components → (staying f).components ≡ (staying g).components
staying_same f g same = picked_same (λ cs. numbers_of Identifier cs ++ numbers_of Viral cs) f g same

with_measures_same : (items : List CheckedMeasure) (f g : Frame) → f.components ≡ g.components → (fold with_measure f items).components ≡ (fold with_measure g items).components
with_measures_same [] f g same = same
with_measures_same (i ∷ is) f g same = with_measures_same is (with_measure f i) (with_measure g i) (ap (λ (cs : List Component). cs ++ made Measure i.kind i.name ∷ []) same)

measured_same : (items : List CheckedMeasure) (f g : Frame) → f.components ≡ g.components → (measured items f).components ≡ (measured items g).components
measured_same items f g same = with_measures_same items (staying f) (staying g) (staying_same f g same)

unpivoted_same : (identifier measure : List ℕ) (f g : Frame) → f.components ≡ g.components → (unpivoted identifier measure f).components ≡ (unpivoted identifier measure g).components
unpivoted_same identifier measure f g same = λ i. (staying_same f g same i ++ made Identifier Text identifier ∷ []) ++ made Measure (measure_kind (same i)) measure ∷ []

pub after_same : (c : CheckedClause) (f g : Frame) → f.components ≡ g.components → (after c f).components ≡ (after c g).components
after_same (clause.Filter condition) f g same = same
after_same (clause.Calc items) f g same = picked_same numbers_by_role (calculated items f) (calculated items g) (calculated_same items f g same)
after_same (clause.Keep numbers) f g same = picked_same (numbers_from (is_kept numbers) 0) f g same
after_same (clause.Drop numbers) f g same = picked_same (numbers_from (is_left numbers) 0) f g same
after_same (clause.Rename renames) f g same = renamed_same renames f g same
after_same (clause.Sub items) f g same = picked_same (numbers_from (is_left (map (λ i. i.component) items)) 0) f g same
after_same (clause.Unpivot identifier measure) f g same = picked_same numbers_by_role (unpivoted identifier measure f) (unpivoted identifier measure g) (unpivoted_same identifier measure f g same)
after_same (clause.Measures items) f g same = picked_same numbers_by_role (measured items f) (measured items g) (measured_same items f g same)
