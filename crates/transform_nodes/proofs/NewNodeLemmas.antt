-- New nodes stand for empty inputs.
use Rattle.std.proofs.Common.{◌≡◌, ℕ, zero, suc, List, [], ◌∷◌, length, Option, Some, None, option_map, true, refl, sym, ◌∙◌, ap, subst, inl, inr, arith, slice_get}
use Rattle.std.specs.Prelude.{count_by}
use Rattle.std.specs.Option.{IsSomeAnd, unwrap_or}
use Rattle.std.specs.FinMap.{empty}
use Rattle.std.specs.List.{list_all}
use Rattle.std.proofs.lemmas.Bool.{cases_lt}
use Rattle.std.proofs.lemmas.Option.{slice_get_within}
use Rattle.point_sets.specs.DataSets.{DataSet}
use Rattle.data_set_trees.specs.declared.checked.script.CheckedStatement.{CheckedStatement}
use Rattle.data_set_trees.specs.declared.tree.Source.{Source}
use Rattle.data_set_trees.specs.declared.tree.Source.TheVariants.{Input, Result as ResultOf}
use Rattle.data_set_trees.specs.checked.Expressions.{expression_of, renamed}
use Rattle.data_set_trees.specs.checked.Scripts.{Script, IsChecked, names_in, names_result, once_each, structure_of_source}
use Rattle.built_scripts.specs.Built.{is_statement_built}
use Rattle.operator_meaning.specs.Results.{without_points}
use Rattle.operator_meaning.specs.Scripts.{State, Idle, set_in}
use Rattle.operator_meaning.proofs.EmptyLemmas.{empties, states-empty, typed_statement}
use Rattle.operator_meaning.proofs.ScriptLemmas.{names_of-there, states_after-other}
use Rattle.release_text.specs.Releases.{Page}
use Rattle.transform_nodes.specs.Building.{CanBuild, IsBuilt}
use Rattle.transform_nodes.specs.Nodes.{numbered, operand_on, published, StandsAs, WorksOut}
use Rattle.transform_nodes.specs.Trees.{Plain, plain, expression, forgotten, StandsOn}
use Rattle.transform_nodes.specs.declared.node.Child.{Child}
use Rattle.transform_nodes.specs.declared.work.Settle.TheVariants.{Forget}
use Rattle.transform_nodes.proofs.BuildLemmas.{all_among, built-at}
use Rattle.transform_nodes.proofs.WorldLemmas.{numbered-map}

input-nothing : {A : Type 0} (ss : List A) (n : ℕ) → unwrap_or (slice_get (empties ss) n) empty ≡ empty
input-nothing [] n = refl
input-nothing (s ∷ ss) zero = refl
input-nothing (s ∷ ss) (suc n) = input-nothing ss n

module _ (s : Script) (checked : IsChecked s) where
  abbrev xs : List DataSet
  xs = empties s.inputs

  named-nothing : (source : Source) → operand_on s xs source ≡ empty
  named-nothing (Input n) = input-nothing s.inputs n
  named-nothing (ResultOf j) = elim (cases_lt j (length s.statements)) [
    | inl l ↦ ap (λ (st : State). unwrap_or (set_in st) empty) (states-empty s checked j l)
    | inr beyond ↦ ap (λ (st : State). unwrap_or (set_in st) empty) (states_after-other s xs s.order (λ i. Idle) j (λ k d l e. let below = checked.ordered.below k d l in absurd (omega (arith, below, e, beyond))))
  ]

  numbered-nothing : (sources : List Source) (n : ℕ) → numbered s xs sources n ≡ empty
  numbered-nothing sources n = numbered-map (operand_on s xs) sources n ∙ by_source (slice_get sources n)
    where
      by_source : (o : Option Source) → unwrap_or (option_map (operand_on s xs) o) empty ≡ empty
      by_source None = refl
      by_source (Some source) = named-nothing source

  module _ (i : ℕ) (statement : CheckedStatement) (there : slice_get s.statements i ≡ Some statement) where
    -- the statement's tree can be built over its names
    pub can_build : list_all is_statement_built s.statements ≡ true → (sources : List Source) → sources ≡ once_each (names_in (expression_of statement.tree)) → CanBuild sources (expression_of statement.tree)
    can_build built sources is = subst (λ (ns : List Source). CanBuild ns (expression_of statement.tree)) (sym is) (record {
      typed = record { structures = structure_of_source s; structure = statement.structure; typed = typed_statement s i statement checked there };
      built = built-at s.statements i statement built there;
      named = all_among (names_in (expression_of statement.tree));
    })

    -- a new node of the statement
    pub new_node : (sources : List Source) (uses : ℕ) (tree : Child) (pages pending : Option Page) → sources ≡ once_each (names_in (expression_of statement.tree)) → uses ≡ count_by (names_result i) s.statements → IsBuilt sources (expression_of statement.tree) (plain tree) → pages ≡ published statement empty
        → StandsAs s xs Forget (record { statement = i; sources = sources; uses = uses; tree = tree; pages = pages; pending_pages = pending })
    new_node sources uses tree pages pending sources_are uses_are built pages_are =
        let nothing = numbered-nothing sources in
        let same : (λ (n : ℕ). empty) ≡ numbered s xs sources = (λ j n. sym (nothing n) j) in
        record {
          shape = record { sources = sources_are ∙ ap once_each (sym (names_of-there s i statement there)); uses = uses_are; fit = built.fit };
          ready = tt;
          has = without_points;
          state = states-empty s checked i (slice_get_within s.statements i statement there);
          works_out = subst (λ (o : Option CheckedStatement). IsSomeAnd o (λ st. WorksOut st sources (forgotten (plain tree)) empty pages)) (sym there) (record {
            tree_is = ap (λ (p : Plain). renamed (slice_get sources) (expression p)) built.alone ∙ built.works_out;
            pages_are = pages_are;
          });
          holds = subst (λ (f : ℕ → DataSet). StandsOn (forgotten (plain tree)) f) same (subst (λ (p : Plain). StandsOn p (λ n. empty)) (sym built.alone) built.stands);
        }
