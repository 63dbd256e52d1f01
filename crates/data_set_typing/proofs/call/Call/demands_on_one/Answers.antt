use Rattle.std.proofs.Common.{◌≡◌, List, Bool, [], ◌∷◌, ap, subst, ◌∙◌}
use Rattle.std.specs.Prelude.{IfErr}
use Rattle.scalar_trees.specs.declared.typing.stop.Fault.{Fault}
use Rattle.scalar_trees.specs.declared.typing.stop.Fault.TheVariants.{WrongType, WrongStructure, NameTwice}
use Rattle.scalar_trees.specs.typing.Steps.{Refuses}
use Rattle.data_set_trees.specs.clauses.Clauses.{demands}
use Rattle.data_set_trees.specs.Components.{measures}
use Rattle.data_set_trees.specs.Lifted.{each_fits, has_one_if, is_free}
use Rattle.data_set_typing.proofs.call.Call.demands_on_one.Goals as goal

pub returns-clause-err : goal.returns-clause-err
returns-clause-err c =
    let s = c.args.components.now in
    let changed = c.args.changed.now in
    let one : c.has_one_if-one.result ≡ has_one_if changed (measures s) = c.has_one_if-one.ensures ∙ ap (has_one_if changed) (c.as_slice.ensures ∙ c.in_ok-measures.ensures) in
    let given : List (Bool × Fault) = (c.in_ok-fit.fit, WrongType) ∷ (c.has_one_if-one.result, WrongStructure) ∷ (c.in_ok-free.free, NameTwice) ∷ [] in
    let meant : List (Bool × Fault) = (each_fits c.args.self.now.form.now c.args.self.now.place c.args.self.now.operands.now, WrongType) ∷ (has_one_if changed (measures s), WrongStructure) ∷ (is_free changed s, NameTwice) ∷ [] in
    let same : given ≡ meant = λ i. (c.in_ok-fit.ensures.ok i, WrongType) ∷ (one i, WrongStructure) ∷ (c.in_ok-free.ensures i, NameTwice) ∷ [] in
    subst (λ (ds : List (Bool × Fault)). IfErr c.demands.result (Refuses (demands c.args.self.now.place ds))) same c.demands.ensures.err
