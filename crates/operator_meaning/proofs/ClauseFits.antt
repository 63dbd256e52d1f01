-- What a clause gives is of the structure that it leaves, clause by clause.
use Rattle.std.proofs.Common.{◌≡◌, List, map, Bool, true, false, if◌then◌else◌, refl, subst}
use Rattle.vtl_values.specs.Structures.{IsStructure}
use Rattle.vtl_values.specs.Order.{key_cmp}
use Rattle.vtl_values.specs.declared.kind.Role.TheVariants.{Viral}
use Rattle.vtl_values.specs.declared.structure.Codes.TheVariants.{Any}
use Rattle.vtl_values.specs.declared.structure.Component.{Component}
use Rattle.data_model.specs.Outcomes.{Made, IsOutcome}
use Rattle.scalar_trees.proofs.typing.Sound.{right}
use Rattle.point_sets.specs.DataSets.{DataSet}
use Rattle.structured_sets.specs.Fitting.{IsSetOf, IsBoundedSetOf}
use Rattle.data_set_trees.specs.declared.clauses.clause.CheckedClause.{CheckedClause}
use Rattle.data_set_trees.specs.declared.clauses.clause.CheckedClause.TheVariants as clause
use Rattle.data_set_trees.specs.declared.clauses.frame.Frame.{Frame}
use Rattle.data_set_trees.specs.clauses.After.{after}
use Rattle.data_set_trees.specs.clauses.Clauses.{are_comparable, are_identifiers}
use Rattle.data_set_trees.specs.clauses.Frames.{frame_of, has_role}
use Rattle.data_set_trees.specs.clauses.WellTyped.{is_well_typed}
use Rattle.data_set_trees.specs.Components.{unlisted}
use Rattle.clause_meaning.specs.Clauses.{clause_meaning, working_of}
use Rattle.clause_meaning.specs.Ordered.{HasIdentifiersFirst}
use Rattle.clause_meaning.proofs.Covered.{meant}
use Rattle.clause_meaning.proofs.First.{identifiers-first}
use Rattle.clause_meaning.proofs.Fits.{filter-fits, keep-fits, drop-fits, rename-fits, sub-fits}
use Rattle.clause_meaning.proofs.MadeFits.{calc-fits, unpivot-fits, measures-fit}
use Rattle.operator_meaning.specs.Operators.{SetOutcome}
use Rattle.operator_meaning.proofs.Opened.{IsOpener, IsBoundedSetOf-opened, all-opened}

-- what a clause leaves of a structure
abbrev pub left_by : CheckedClause → List Component → List Component
left_by c operand = map unlisted (after c (frame_of operand)).components

pub unlisted-opens : (c : Component) → IsOpener c (unlisted c)
unlisted-opens c = by_role (has_role Viral c)
  where
    by_role : (b : Bool) → IsOpener c (if b then c else record c { codes = Any })
    by_role true = record { opens = λ v h. h; same = refl }
    by_role false = record { opens = λ v h. record { kind = h.kind; codes = refl }; same = refl }

fits-after : (c : CheckedClause) (frame : Frame) (a y : DataSet) → HasIdentifiersFirst frame → is_well_typed frame c ≡ true → IsSetOf frame.components a → clause_meaning c frame a ≡ Made y → IsSetOf (after c frame).components y
fits-after (clause.Filter condition) frame a y first typed fit e = filter-fits condition frame a y fit e
fits-after (clause.Calc items) frame a y first typed fit e = calc-fits items frame a y first typed fit e
fits-after (clause.Keep numbers) frame a y first typed fit e = keep-fits numbers frame a y first fit e
fits-after (clause.Drop numbers) frame a y first typed fit e = drop-fits numbers frame a y first typed fit e
fits-after (clause.Rename renames) frame a y first typed fit e = rename-fits renames frame a y fit e
fits-after (clause.Sub items) frame a y first typed fit e = sub-fits frame items first (right (are_comparable frame items) (are_identifiers frame items) typed) a y fit e
fits-after (clause.Unpivot identifier measure) frame a y first typed fit e = unpivot-fits identifier measure frame first typed a y fit e
fits-after (clause.Measures items) frame a y first typed fit e = measures-fit items frame a y first typed fit e

-- what a clause gives on a data set of a structure on which it is well typed
pub clause-fits : (c : CheckedClause) (operand : List Component) (a y : DataSet) → IsStructure operand → is_well_typed (frame_of operand) c ≡ true → IsSetOf operand a → clause_meaning c (frame_of operand) a ≡ Made y → IsBoundedSetOf (left_by c operand) y
clause-fits c operand a y structure typed fit e =
    let made = subst (λ (o : SetOutcome). IsOutcome {R = key_cmp} (working_of c (frame_of operand) a).beyond (working_of c (frame_of operand) a).value o) e (meant c (frame_of operand) a) in
    IsBoundedSetOf-opened (after c (frame_of operand)).components (left_by c operand) y (all-opened unlisted unlisted-opens (after c (frame_of operand)).components)
    (record { fits = fits-after c (frame_of operand) a y (identifiers-first operand structure) typed fit e; few = made.1 })
