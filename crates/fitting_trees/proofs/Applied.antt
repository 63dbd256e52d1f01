-- An operator on data sets that fit fits, if it takes what they have.
use Rattle.std.proofs.Common.{◌≡◌, refl, true, List, [], ◌∷◌, Option, Some, map, ap, sym, subst, ◌∙◌}
use Rattle.std.proofs.lemmas.List.Elements.{All-nil, All-cons, All-head, All-tail, All-append}
use Rattle.std.specs.List.{All}
use Rattle.vtl_values.specs.declared.place.Place.{Place}
use Rattle.vtl_values.specs.declared.structure.Component.{Component}
use Rattle.data_set_trees.specs.declared.clauses.clause.CheckedClause.{CheckedClause}
use Rattle.data_set_trees.specs.clauses.Frames.{frame_of}
use Rattle.data_set_trees.specs.clauses.After.{after}
use Rattle.data_set_trees.specs.clauses.WellTyped.{is_well_typed}
use Rattle.data_set_trees.specs.declared.operand.DataSet.{DataSet}
use Rattle.data_set_trees.specs.declared.tree.Source.{Source}
use Rattle.data_set_trees.specs.declared.tree.DataSetNode.{DataSetNode, roll-DataSetNode, fold-roll-DataSetNode}
use Rattle.data_set_trees.specs.declared.tree.DataSetTree.{DataSetTree, fold-roll-DataSetTree}
use Rattle.data_set_trees.specs.declared.tree.DataSetTree.TheOpen.{DataSetTree-F, DataSetNode-F}
use Rattle.data_set_trees.specs.declared.tree.DataSetTree.TheVariants.{Name, rolls-Name, rolls-Operator}
use Rattle.data_set_trees.specs.declared.tree.DataSetOperator.{DataSetOperator}
use Rattle.data_set_trees.specs.declared.tree.DataSetOperator.TheVariants as operator
use Rattle.data_set_trees.specs.Components.{unlisted}
use Rattle.data_set_trees.specs.Trees.{applied, with_clause}
use Rattle.data_set_trees.specs.checked.Expressions.{Expression, Expressions, Named, Applied, none, more, expressions, name_step, node_step, expression_of}
use Rattle.data_set_trees.specs.checked.Operators.{an_operator, Operator, TakesOperands}
use Rattle.data_set_trees.specs.checked.Scripts.{names_in, names_in_all}
use Rattle.data_set_trees.specs.checked.Typing.{Fits, AllFit}
use Rattle.fitting_trees.specs.Fitting.{IsFitting}

-- the expressions of data sets
abbrev parts : List DataSet → Expressions Source
parts [] = none
parts (d ∷ ds) = more (expression_of d.tree) (parts ds)

parts-are : (ds : List DataSet) → expressions (map expression_of (map (λ (d : DataSet). d.tree) ds)) ≡ parts ds
parts-are [] = refl
parts-are (d ∷ ds) = ap (more (expression_of d.tree)) (parts-are ds)

abbrev operator_of : DataSetOperator → List DataSet → List Component → Operator
operator_of o ds structure = an_operator o (map (λ (d : DataSet). d.structure) ds) structure

abbrev node_of : DataSetOperator → Place → List DataSet → List Component → DataSetNode-F DataSetTree DataSetNode
node_of o place ds structure = record { operator = o; place = place; children = map (λ (d : DataSet). d.tree) ds; operands = map (λ (d : DataSet). d.structure) ds; structure = structure }

expression_of-applied : (o : DataSetOperator) (place : Place) (ds : List DataSet) (structure : List Component) → expression_of (applied o place ds structure).tree ≡ Applied (operator_of o ds structure) place (parts ds)
expression_of-applied o place ds structure =
    let node = node_of o place ds structure in
    ap expression_of (sym (rolls-Operator (roll-DataSetNode node)))
    ∙ fold-roll-DataSetTree (Expression Source) (Expression Source) name_step node_step (DataSetTree-F.Operator (roll-DataSetNode node))
    ∙ fold-roll-DataSetNode (Expression Source) (Expression Source) name_step node_step node
    ∙ ap (Applied (operator_of o ds structure) place) (parts-are ds)

expression_of-name : (source : Source) → expression_of (Name source) ≡ Named source
expression_of-name source = ap expression_of (sym (rolls-Name source)) ∙ fold-roll-DataSetTree (Expression Source) (Expression Source) name_step node_step (DataSetTree-F.Name source)

module _ (structures : Source → Option (List Component)) (among : Source → Type 0) where
  pub name-fits : (source : Source) (structure : List Component) → structures source ≡ Some structure → among source → IsFitting structures among (record { tree = Name source; structure = structure })
  name-fits source structure has may =
      let is = sym (expression_of-name source) in
      record {
        fits = subst (λ (e : Expression Source). Fits TakesOperands structures e structure) is has;
        named = subst (λ (e : Expression Source). All among (names_in e)) is (All-cons among source [] may (All-nil among));
      }

  abbrev IsFit : DataSet → Type 0
  IsFit d = IsFitting structures among d

  all-fit : (ds : List DataSet) → All IsFit ds → AllFit TakesOperands structures (parts ds) (map (λ (d : DataSet). d.structure) ds)
  all-fit [] all = tt
  all-fit (d ∷ ds) all = ((All-head IsFit d ds all).fits, all-fit ds (All-tail IsFit d ds all))

  all-named : (ds : List DataSet) → All IsFit ds → All among (names_in_all (parts ds))
  all-named [] all = All-nil among
  all-named (d ∷ ds) all = All-append among (names_in (expression_of d.tree)) (names_in_all (parts ds)) (All-head IsFit d ds all).named (all-named ds (All-tail IsFit d ds all))

  pub applied-fits : (o : DataSetOperator) (place : Place) (ds : List DataSet) (structure : List Component) → All IsFit ds → TakesOperands (operator_of o ds structure) → IsFitting structures among (applied o place ds structure)
  applied-fits o place ds structure all takes =
      let is = sym (expression_of-applied o place ds structure) in
      record {
        fits = subst (λ (e : Expression Source). Fits TakesOperands structures e structure) is (refl, takes, all-fit ds all);
        named = subst (λ (e : Expression Source). All among (names_in e)) is (all-named ds all);
      }

  pub clause-fits : (c : CheckedClause) (place : Place) (d : DataSet) → IsFit d → is_well_typed (frame_of d.structure) c ≡ true → IsFitting structures among (with_clause c place d)
  clause-fits c place d fit well =
      applied-fits (operator.Clause c) place (d ∷ []) (map unlisted (after c (frame_of d.structure)).components) (All-cons IsFit d [] fit (All-nil IsFit))
      (record { operand = d.structure; one = refl; typed = well; after_it = refl })
