-- A node in a script: the data sets of its sources, what its tree gives on them, and what its statement has.
use Rattle.std.proofs.Common.{◌≡◌, ℕ, zero, suc, ◌<◌, List, [], ◌∷◌, map, length, Bool, true, cond, not, Ok, Option, Some, None, option_map, refl, sym, ◌∙◌, ap, subst, inl, inr, arith, slice_get}
use Rattle.std.specs.Option.{is_some, unwrap_or, option_and_then}
use Rattle.std.specs.List.{All, AllZip, filter, list_all}
use Rattle.std.specs.FinMap.{empty}
use Rattle.std.proofs.lemmas.Bool.{cases_Bool, eqb-true}
use Rattle.std.proofs.lemmas.List.Elements.{All-nil, All-cons, All-head, All-tail}
use Rattle.std.proofs.lemmas.Option.{slice_get_within}
use Rattle.vtl_values.specs.declared.structure.Component.{Component}
use Rattle.data_model.specs.Deltas.{Leads}
use Rattle.point_sets.specs.DataSets.{DataSet}
use Rattle.point_sets.specs.Changes.{Changes}
use Rattle.data_set_trees.specs.declared.checked.script.CheckedStatement.{CheckedStatement}
use Rattle.data_set_trees.specs.declared.tree.Source.{Source}
use Rattle.data_set_trees.specs.declared.tree.Source.TheVariants.{Input, Result as ResultOf}
use Rattle.data_set_trees.specs.checked.Expressions.{Expression, Expressions, Named, Applied, expression_of, renamed, all_renamed, none as no_operand, more as operand_and}
use Rattle.data_set_trees.specs.checked.Scripts.{Script, IsChecked, is_same, names_in, names_of, once_each, sources_of, structure_of_source}
use Rattle.data_set_trees.specs.checked.Typing.{HasStructure, HaveStructures}
use Rattle.structured_sets.specs.Fitting.{IsBoundedSetOf}
use Rattle.operator_meaning.specs.Results.{Evaluated, worked, gathered, result_of, results_of}
use Rattle.operator_meaning.specs.Scripts.{State, Has, Idle, state_of, set_in, states, worked_out}
use Rattle.operator_meaning.proofs.EmptyLemmas.{list_all-true, typed_statement}
use Rattle.operator_meaning.proofs.FitLemmas.{named-fits, states-fit, worked_out-has}
use Rattle.operator_meaning.proofs.ScriptLemmas.{names_of-there, states-fixed}
use Rattle.transform_nodes.specs.Nodes.{AreInputs, named_on, operand_on, numbered, AllHave, AllLead}
use Rattle.transform_nodes.specs.Runs.{news_of, Moves}

-- ---- renamed expressions

module _ {N M : Type 0} (g : N → M) where
  mutual
    pub result_of-renamed : (sets : M → DataSet) (e : Expression N) → result_of sets (renamed g e) ≡ result_of (λ n. sets (g n)) e
    result_of-renamed sets (Named n) = refl
    result_of-renamed sets (Applied o place es) = ap (worked o place) (results_of-renamed sets es)

    pub results_of-renamed : (sets : M → DataSet) (es : Expressions N) → results_of sets (all_renamed g es) ≡ results_of (λ n. sets (g n)) es
    results_of-renamed sets no_operand = refl
    results_of-renamed sets (operand_and e es) = let a = result_of-renamed sets e in let b = results_of-renamed sets es in (λ i. gathered (a i) (b i))

  mutual
    pub structure-renamed : (structures : M → Option (List Component)) (e : Expression N) (t : List Component) → HasStructure (λ n. structures (g n)) e t → HasStructure structures (renamed g e) t
    structure-renamed structures (Named n) t h = h
    structure-renamed structures (Applied o place es) t h = (h.0, h.1, structures-renamed structures es o.operands h.2)

    structures-renamed : (structures : M → Option (List Component)) (es : Expressions N) (ts : List (List Component)) → HaveStructures (λ n. structures (g n)) es ts → HaveStructures structures (all_renamed g es) ts
    structures-renamed structures no_operand [] h = tt
    structures-renamed structures no_operand (t ∷ ts) h = absurd h
    structures-renamed structures (operand_and e es) [] h = absurd h
    structures-renamed structures (operand_and e es) (t ∷ ts) h = (structure-renamed structures e t h.0, structures-renamed structures es ts h.1)

  mutual
    pub renamed-structure : (structures : M → Option (List Component)) (e : Expression N) (t : List Component) → HasStructure structures (renamed g e) t → HasStructure (λ n. structures (g n)) e t
    renamed-structure structures (Named n) t h = h
    renamed-structure structures (Applied o place es) t h = (h.0, h.1, renamed-structures structures es o.operands h.2)

    renamed-structures : (structures : M → Option (List Component)) (es : Expressions N) (ts : List (List Component)) → HaveStructures structures (all_renamed g es) ts → HaveStructures (λ n. structures (g n)) es ts
    renamed-structures structures no_operand [] h = tt
    renamed-structures structures no_operand (t ∷ ts) h = absurd h
    renamed-structures structures (operand_and e es) [] h = absurd h
    renamed-structures structures (operand_and e es) (t ∷ ts) h = (renamed-structure structures e t h.0, renamed-structures structures es ts h.1)

-- ---- each name once

pub same_is : (a b : Source) → is_same a b ≡ true → a ≡ b
same_is (Input n) (Input m) h = ap Input (eqb-true n m h)
same_is (Input n) (ResultOf j) h = cc
same_is (ResultOf i) (Input m) h = cc
same_is (ResultOf i) (ResultOf j) h = ap ResultOf (eqb-true i j h)

all_but : (P : Source → Type 0) (n : Source) (ns : List Source) → P n → All P (filter (λ m. not (is_same n m)) ns) → All P ns
all_but P n [] p h = All-nil P
all_but P n (m ∷ ns) p h = elim (cases_Bool (is_same n m)) [
  | inl same ↦ All-cons P m ns (subst P (same_is n m same) p) (all_but P n ns p (rw same at h))
  | inr other ↦ let h' = rw other at h in All-cons P m ns (All-head P m (filter (λ m. not (is_same n m)) ns) h') (all_but P n ns p (All-tail P m (filter (λ m. not (is_same n m)) ns) h'))
]

-- what holds of each name once holds of all
pub all_names : (P : Source → Type 0) (ns : List Source) → All P (once_each ns) → All P ns
all_names P [] h = h
all_names P (n ∷ ns) h =
    let p = All-head P n (filter (λ m. not (is_same n m)) (once_each ns)) h in
    All-cons P n ns p (all_names P ns (all_but P n (once_each ns) p (All-tail P n (filter (λ m. not (is_same n m)) (once_each ns)) h)))

-- ---- the data sets of numbered sources

pub numbered-map : (f : Source → DataSet) (sources : List Source) (n : ℕ) → unwrap_or (slice_get (map f sources) n) empty ≡ unwrap_or (option_map f (slice_get sources n)) empty
numbered-map f [] n = refl
numbered-map f (a ∷ sources) zero = refl
numbered-map f (a ∷ sources) (suc n) = numbered-map f sources n

pub lead-numbered : (f g : Source → DataSet) (news : List Changes) (sources : List Source) (n : ℕ) → AllZip (λ d source. Leads d (f source) (g source)) news sources → n < length news → Leads (news_of n news) (unwrap_or (slice_get (map f sources) n) empty) (unwrap_or (slice_get (map g sources) n) empty)
lead-numbered f g [] sources n h l = absurd (omega arith)
lead-numbered f g (d ∷ ds) [] n h l = absurd h
lead-numbered f g (d ∷ ds) (a ∷ sources) zero h l = h.0
lead-numbered f g (d ∷ ds) (a ∷ sources) (suc n) h l = lead-numbered f g ds sources n h.1 (omega arith)

abbrev pub structure_at : Script → List Source → ℕ → Option (List Component)
structure_at s sources n = option_and_then (structure_of_source s) (slice_get sources n)

module _ (s : Script) (checked : IsChecked s) (sources : List Source) where
  pub numbered-fits : (xs : List DataSet) → AreInputs s xs → (n : ℕ) (t : List Component) → structure_at s sources n ≡ Some t → IsBoundedSetOf t (numbered s xs sources n)
  numbered-fits xs inputs n t e = subst (λ (x : DataSet). IsBoundedSetOf t x) (sym (numbered-map (operand_on s xs) sources n)) (by_source (slice_get sources n) e)
    where
      by_source : (o : Option Source) → option_and_then (structure_of_source s) o ≡ Some t → IsBoundedSetOf t (unwrap_or (option_map (operand_on s xs) o) empty)
      by_source None e = cc
      by_source (Some source) e = named-fits s xs checked inputs (states s xs) (states-fit s xs checked inputs) source t e

  -- the news lead from the old data sets of the sources to the new ones
  abbrev pub moves : (xs ys : List DataSet) (news : List Changes) → AreInputs s xs → AreInputs s ys → AllLead s news sources xs ys → Moves news
  moves xs ys news old_inputs new_inputs lead = record {
    structures = structure_at s sources;
    old = numbered s xs sources;
    new = numbered s ys sources;
    old_fit = numbered-fits xs old_inputs;
    new_fit = numbered-fits ys new_inputs;
    lead = λ n l. lead-numbered (operand_on s xs) (operand_on s ys) news sources n lead l;
  }

  module _ (e : Expression ℕ) (e' : Expression Source) (is : renamed (slice_get sources) e ≡ renamed Some e') where
    -- the tree gives what the statement's expression does
    pub result-numbered : (zs : List DataSet) → result_of (numbered s zs sources) e ≡ result_of (operand_on s zs) e'
    result-numbered zs =
        let sets : Option Source → DataSet = λ o. unwrap_or (option_map (operand_on s zs) o) empty in
        let same = numbered-map (operand_on s zs) sources in
        ap (λ (f : ℕ → DataSet). result_of f e) (λ i n. same n i)
        ∙ sym (result_of-renamed (slice_get sources) sets e)
        ∙ ap (result_of sets) is
        ∙ result_of-renamed Some sets e'

    -- and is of the statement's structure
    pub typed-numbered : (t : List Component) → HasStructure (structure_of_source s) e' t → HasStructure (structure_at s sources) e t
    typed-numbered t h =
        let structures : Option Source → Option (List Component) = option_and_then (structure_of_source s) in
        renamed-structure (slice_get sources) structures e t
        (subst (λ (x : Expression (Option Source)). HasStructure structures x t) (sym is) (structure-renamed Some structures e' t h))

-- ---- what the statement has

module _ (s : Script) (checked : IsChecked s) (i : ℕ) (statement : CheckedStatement) (there : slice_get s.statements i ≡ Some statement) where
  statement_state-is : (zs : List DataSet) → states s zs i ≡ worked_out (named_on s zs) (expression_of statement.tree)
  statement_state-is zs = states-fixed s zs checked i (slice_get_within s.statements i statement there) ∙ rw there refl

  -- where all that it names has data sets, it has what its expression gives
  pub state-given : (zs : List DataSet) → AllHave s zs (sources_of s i) → states s zs i ≡ state_of (result_of (operand_on s zs) (expression_of statement.tree))
  state-given zs have =
      let all = all_names (λ source. is_some (named_on s zs source) ≡ true) (names_of s i) have in
      let all' = subst (λ (ns : List Source). All (λ source. is_some (named_on s zs source) ≡ true) ns) (names_of-there s i statement there) all in
      statement_state-is zs ∙ ap (λ (b : Bool). cond b (state_of (result_of (operand_on s zs) (expression_of statement.tree))) Idle) (list_all-true (λ source. is_some (named_on s zs source)) (names_in (expression_of statement.tree)) all')

  -- where it has a data set, its expression gives that
  pub given-state : (zs : List DataSet) (has : Evaluated) → states s zs i ≡ Has has → result_of (operand_on s zs) (expression_of statement.tree) ≡ Ok has
  given-state zs has e =
      (worked_out-has (list_all (λ source. is_some (named_on s zs source)) (names_in (expression_of statement.tree))) (result_of (operand_on s zs) (expression_of statement.tree)) has (sym (statement_state-is zs) ∙ e)).result_is

  pub statement-typed : HasStructure (structure_of_source s) (expression_of statement.tree) statement.structure
  statement-typed = typed_statement s i statement checked there

pub operand-of_state : (s : Script) (zs : List DataSet) (i : ℕ) (has : Evaluated) → states s zs i ≡ Has has → operand_on s zs (ResultOf i) ≡ has.set
operand-of_state s zs i has e = ap (λ (st : State). unwrap_or (set_in st) empty) e
