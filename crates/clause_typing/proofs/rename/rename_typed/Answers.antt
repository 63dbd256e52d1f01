use Rattle.std.proofs.Common.{◌≡◌, List, Bool, true, [], ◌∷◌, ap, sym, subst, ◌∙◌}
use Rattle.std.specs.List.{list_all}
use Rattle.scalar_trees.specs.declared.typing.stop.Fault.{Fault}
use Rattle.scalar_trees.specs.declared.typing.stop.Fault.TheVariants.{UnknownComponent, NameTwice}
use Rattle.data_set_trees.specs.declared.clauses.clause.CheckedClause.TheVariants as clause
use Rattle.data_set_trees.specs.declared.clauses.clause.CheckedRename.{CheckedRename}
use Rattle.data_set_trees.specs.clauses.WellTyped.{is_component}
use Rattle.data_set_trees.proofs.clauses.Typed.{renames_there}
use Rattle.data_set_trees.specs.clauses.Clauses.{are_known_renames, renames_checked, renames_differ}
use Rattle.clause_typing.proofs.Demanding.{refuses}
use Rattle.clause_typing.proofs.rename.rename_typed.Goals as goal

pub returns-in_err-demands-clause-err : goal.returns-in_err-demands-clause-err
returns-in_err-demands-clause-err c =
    let frame = c.args.frame.now in
    let renames = c.args.renames.now in
    let once : c.in_ok-once.once ≡ renames_differ frame (renames_checked frame renames) = c.in_ok-once.ensures ∙ ap (renames_differ frame) (c.as_slice.ensures ∙ c.in_ok-checked.ensures) in
    let given : List (Bool × Fault) = (c.are_known-known.result, UnknownComponent) ∷ (c.in_ok-once.once, NameTwice) ∷ [] in
    let meant : List (Bool × Fault) = (are_known_renames frame renames, UnknownComponent) ∷ (renames_differ frame (renames_checked frame renames), NameTwice) ∷ [] in
    refuses c.args.place given meant (clause.Rename (renames_checked frame renames)) c.from_residual-in_err-demands.result c.in_err-demands.field-0.0
    (λ i. (c.are_known-known.ensures i, UnknownComponent) ∷ (once i, NameTwice) ∷ [])
    c.in_err-demands.ensures.err c.from_residual-in_err-demands.ensures.1

pub returns-clause-typed : goal.returns-clause-typed
returns-clause-typed c =
    let frame = c.args.frame.now in
    subst (λ (rs : List CheckedRename). list_all (λ r. is_component frame r.component) rs ≡ true) (sym c.in_ok-checked.ensures) (renames_there frame c.args.renames.now)
