-- New trees, and the names of statements.
use Rattle.std.proofs.Common.{◌≡◌, ℕ, zero, suc, ◌+◌, ◌<◌, List, [], ◌∷◌, ◌++◌, map, take, get_or, length, Bool, true, false, ◌||◌, cond, not, Ok, Result, Option, Some, refl, sym, ◌∙◌, ap, subst, inl, inr, arith, slice_get}
use Rattle.std.specs.FinMap.{empty, len-empty}
use Rattle.std.specs.List.{All, filter, list_all, list_any}
use Rattle.std.proofs.lemmas.Bool.{cases_Bool, eq-eqb, false≢true}
use Rattle.std.proofs.lemmas.List.{append_assoc, append-nil, length-map, map-append, take_more}
use Rattle.std.proofs.lemmas.List.Elements.{All-nil, All-cons, filter-append}
use Rattle.std.specs.Option.{unwrap_or}
use Rattle.std.proofs.lemmas.Option.{none-some, slice_get_within}
use Rattle.vtl_values.specs.declared.structure.Component.{Component}
use Rattle.vtl_values.specs.declared.value.Value.{Value}
use Rattle.vtl_values.specs.Order.{key_cmp}
use Rattle.point_sets.specs.DataSets.{DataSet}
use Rattle.data_set_trees.specs.declared.tree.DataSetNode.{DataSetNode}
use Rattle.data_set_trees.specs.declared.tree.DataSetTree.{DataSetTree, fold-roll-DataSetTree}
use Rattle.data_set_trees.specs.declared.tree.DataSetTree.TheOpen.{DataSetTree-F}
use Rattle.data_set_trees.specs.declared.tree.DataSetTree.TheVariants.{Name, rolls-Name}
use Rattle.data_set_trees.specs.declared.tree.Source.{Source}
use Rattle.data_set_trees.specs.declared.tree.Source.TheVariants.{Input, Result as ResultOf}
use Rattle.data_set_trees.specs.checked.Operators.{Operator}
use Rattle.data_set_trees.specs.checked.Expressions.{Expression, Expressions, Named, Applied, expression_of, expressions, all_renamed, name_step, node_step, more as operand_and, expression_of_node}
use Rattle.data_set_trees.specs.checked.Scripts.{is_same, names_in, names_in_all, once_each}
use Rattle.data_set_trees.specs.checked.Typing.{HaveStructures}
use Rattle.data_set_trees.specs.declared.checked.script.CheckedStatement.{CheckedStatement}
use Rattle.scalar_trees.proofs.typing.Sound.{left, right}
use Rattle.built_scripts.specs.Built.{all_built, each_all_built, is_built, is_statement_built}
use Rattle.operator_meaning.specs.Operators.{meaning_of}
use Rattle.operator_meaning.specs.Results.{Wrong, Evaluated, sets_of, results_of}
use Rattle.operator_meaning.proofs.EmptyLemmas.{empties, withouts, sets_of-withouts, meaning_of-empty, results_of-empty}
use Rattle.operator_meaning.proofs.Items.{All-left, All-right}
use Rattle.held_index.specs.Holdings.{Holding, holding_of, operand}
use Rattle.held_index.specs.declared.want.Want.{Want}
use Rattle.transform_nodes.specs.Building.{is_among, nothing_held, AllCanBuild, AreAmong, AreBuilt, CanBuild, IsBuilt, IsWellTyped}
use Rattle.operator_rules.specs.Rules.{wanted_of}
use Rattle.transform_nodes.specs.Trees.{Plain, Plains, Source as Numbered, Operates, more, plains_of, all_expressions, count_of, all_forgotten, Holds, HoldsOn, AllStandOn, AllFit}
use Rattle.transform_nodes.proofs.WorldLemmas.{same_is, results_of-renamed}

-- ---- the expressions of checked trees

pub expression_of-Name : (source : Source) → expression_of (Name source) ≡ Named source
expression_of-Name source = ap expression_of (sym (rolls-Name source)) ∙ fold-roll-DataSetTree (Expression Source) (Expression Source) name_step node_step (DataSetTree-F.Name source)

names_in_all-append : (es fs : List (Expression Source)) → names_in_all (expressions (es ++ fs)) ≡ names_in_all (expressions es) ++ names_in_all (expressions fs)
names_in_all-append [] fs = refl
names_in_all-append (e ∷ es) fs = ap (λ (ns : List Source). names_in e ++ ns) (names_in_all-append es fs) ∙ sym (append_assoc (names_in e) (names_in_all (expressions es)) (names_in_all (expressions fs)))

-- the names of one tree more
pub names_in_all-more : (trees : List DataSetTree) (i : ℕ) (tree : DataSetTree) → i < length trees → tree ≡ get_or trees i tree → names_in_all (expressions (map expression_of (take (i + 1) trees))) ≡ names_in_all (expressions (map expression_of (take i trees))) ++ names_in (expression_of tree)
names_in_all-more trees i tree l is =
    ap (λ (ts : List DataSetTree). names_in_all (expressions (map expression_of ts))) (take_more trees i tree l ∙ ap (λ (t : DataSetTree). take i trees ++ t ∷ []) (sym is))
    ∙ ap (λ (es : List (Expression Source)). names_in_all (expressions es)) (map-append expression_of (take i trees) (tree ∷ []))
    ∙ names_in_all-append (map expression_of (take i trees)) (expression_of tree ∷ [])
    ∙ ap (λ (ns : List Source). names_in_all (expressions (map expression_of (take i trees))) ++ ns) (append-nil (names_in (expression_of tree)))

-- ---- each name once

is_same-itself : (a : Source) → is_same a a ≡ true
is_same-itself (Input n) = eq-eqb n n refl
is_same-itself (ResultOf j) = eq-eqb j j refl

is_same-back : (a b : Source) → is_same a b ≡ false → is_same b a ≡ false
is_same-back a b h = elim (cases_Bool (is_same b a)) [
  | inl same ↦ absurd (false≢true (sym h ∙ ap (λ (c : Source). is_same a c) (same_is b a same) ∙ is_same-itself a))
  | inr other ↦ other
]

-- a name among the others is there still where another one is left out
among_but : (n m : Source) (ns : List Source) → is_same n m ≡ false → is_among (filter (λ k. not (is_same m k)) ns) n ≡ is_among ns n
among_but n m [] other = refl
among_but n m (k ∷ ns) other = elim (cases_Bool (is_same m k)) [
  | inl same ↦
      let gone : is_same n k ≡ false = ap (is_same n) (sym (same_is m k same)) ∙ other in
      rw (same, gone) (among_but n m ns other)
  | inr there ↦ rw there (ap (λ b. is_same n k || b) (among_but n m ns other))
]

-- with one name more at the end: it is added where it isn't there yet
pub once_each-last : (ns : List Source) (n : Source) → once_each (ns ++ n ∷ []) ≡ cond (is_among (once_each ns) n) (once_each ns) (once_each ns ++ n ∷ [])
once_each-last [] n = refl
once_each-last (m ∷ ns) n = elim (cases_Bool (is_same n m)) [
  | inl same ↦
      let is : n ≡ m = same_is n m same in
      let gone : not (is_same m n) ≡ false = ap (λ (k : Source). not (is_same m k)) is ∙ ap not (is_same-itself m) in
      ap (λ (ks : List Source). m ∷ filter (λ k. not (is_same m k)) ks) (once_each-last ns n)
      ∙ rw same (ap (λ (ks : List Source). m ∷ ks) (without (is_among (once_each ns) n) gone))
  | inr other ↦
      let there : not (is_same m n) ≡ true = ap not (is_same-back n m other) in
      ap (λ (ks : List Source). m ∷ filter (λ k. not (is_same m k)) ks) (once_each-last ns n)
      ∙ rw (other, among_but n m (once_each ns) other) (with_it (is_among (once_each ns) n) there)
]
  where
    without : (b : Bool) → not (is_same m n) ≡ false → filter (λ k. not (is_same m k)) (cond b (once_each ns) (once_each ns ++ n ∷ [])) ≡ filter (λ k. not (is_same m k)) (once_each ns)
    without true gone = refl
    without false gone = filter-append (λ k. not (is_same m k)) (once_each ns) (n ∷ []) ∙ ap (λ (ks : List Source). filter (λ k. not (is_same m k)) (once_each ns) ++ ks) (rw gone refl) ∙ append-nil (filter (λ k. not (is_same m k)) (once_each ns))

    with_it : (b : Bool) → not (is_same m n) ≡ true → m ∷ filter (λ k. not (is_same m k)) (cond b (once_each ns) (once_each ns ++ n ∷ [])) ≡ cond b (m ∷ filter (λ k. not (is_same m k)) (once_each ns)) (m ∷ (filter (λ k. not (is_same m k)) (once_each ns) ++ n ∷ []))
    with_it true there = refl
    with_it false there = ap (λ (ks : List Source). m ∷ ks) (filter-append (λ k. not (is_same m k)) (once_each ns) (n ∷ []) ∙ ap (λ (ks : List Source). filter (λ k. not (is_same m k)) (once_each ns) ++ ks) (rw there refl))

-- one name more
pub once_each-more : (names : List Source) (i : ℕ) (d : Source) (sources : List Source) → i < length names → sources ≡ once_each (take i names) → cond (is_among sources (get_or names i d)) sources (sources ++ get_or names i d ∷ []) ≡ once_each (take (i + 1) names)
once_each-more names i d sources l is =
    ap (λ (ks : List Source). cond (is_among ks (get_or names i d)) ks (ks ++ get_or names i d ∷ [])) is
    ∙ sym (once_each-last (take i names) (get_or names i d))
    ∙ ap once_each (sym (take_more names i d l))

-- a name that is there is not missing
pub any_by_all : (p : Source → Bool) (ns : List Source) → not (list_all (λ n. not (p n)) ns) ≡ list_any p ns
any_by_all p [] = refl
any_by_all p (n ∷ ns) = elim (cases_Bool (p n)) [
  | inl found ↦ rw found refl
  | inr missing ↦ rw missing (any_by_all p ns)
]

-- each name is among the names, each once
among-itself : (n : Source) (ns : List Source) → is_among (n ∷ ns) n ≡ true
among-itself n ns = rw (is_same-itself n) refl

among-once : (n : Source) (ns : List Source) → is_among ns n ≡ true → is_among (once_each ns) n ≡ true
among-once n [] h = h
among-once n (m ∷ ns) h = elim (cases_Bool (is_same n m)) [
  | inl same ↦ rw same refl
  | inr other ↦ rw (other, among_but n m (once_each ns) other) (among-once n ns (rw other at h))
]

pub all_among : (names : List Source) → AreAmong (once_each names) names
all_among names k d l = among-once (get_or names k d) names (among_at names k d l)
  where
    among_at : (ns : List Source) (i : ℕ) (d : Source) → i < length ns → is_among ns (get_or ns i d) ≡ true
    among_at [] i d l = absurd (omega arith)
    among_at (n ∷ ns) zero d l = among-itself n ns
    among_at (n ∷ ns) (suc i) d l = elim (cases_Bool (is_same (get_or ns i d) n)) [
      | inl same ↦ rw same refl
      | inr other ↦ rw other (among_at ns i d (omega arith))
    ]

-- ---- an operator that is built

built-push : (sources : List Source) (trees : List DataSetTree) (ps : List Plain) (tree : DataSetTree) (p : Plain) → AreBuilt sources trees ps → IsBuilt sources (expression_of tree) p → AreBuilt sources (trees ++ tree ∷ []) (ps ++ p ∷ [])
built-push sources [] [] tree p h b = (b, tt)
built-push sources [] (q ∷ ps) tree p h b = absurd h
built-push sources (t ∷ trees) [] tree p h b = absurd h
built-push sources (t ∷ trees) (q ∷ ps) tree p h b = (h.0, built-push sources trees ps tree p h.1 b)

pub built-more : (sources : List Source) (trees : List DataSetTree) (i : ℕ) (ps : List Plain) (tree : DataSetTree) (p : Plain) → i < length trees → tree ≡ get_or trees i tree → AreBuilt sources (take i trees) ps → IsBuilt sources (expression_of tree) p → AreBuilt sources (take (i + 1) trees) (ps ++ p ∷ [])
built-more sources trees i ps tree p l is h b =
    subst (λ (ts : List DataSetTree). AreBuilt sources ts (ps ++ p ∷ [])) (sym (take_more trees i tree l ∙ ap (λ (t : DataSetTree). take i trees ++ t ∷ []) (sym is))) (built-push sources (take i trees) ps tree p h b)

-- the operands of a well typed operator are well typed
typed_operands : (node : DataSetNode) → IsWellTyped (expression_of_node node) → All (λ tree. IsWellTyped (expression_of tree)) node.children
typed_operands node h = from node.children node.operands h.typed.2
  where
    from : (trees : List DataSetTree) (ts : List (List Component)) → HaveStructures h.structures (expressions (map expression_of trees)) ts → All (λ tree. IsWellTyped (expression_of tree)) trees
    from [] ts typed = All-nil (λ tree. IsWellTyped (expression_of tree))
    from (tree ∷ trees) [] typed = absurd typed
    from (tree ∷ trees) (t ∷ ts) typed = All-cons (λ tree. IsWellTyped (expression_of tree)) tree trees (record { structures = h.structures; structure = t; typed = typed.0 }) (from trees ts typed.1)

-- what they name is among what the operator names
named_operands : (sources : List Source) (trees : List DataSetTree) → AreAmong sources (names_in_all (expressions (map expression_of trees))) → All (λ tree. AreAmong sources (names_in (expression_of tree))) trees
named_operands sources [] named = All-nil (λ tree. AreAmong sources (names_in (expression_of tree)))
named_operands sources (tree ∷ trees) named = All-cons (λ tree. AreAmong sources (names_in (expression_of tree))) tree trees
    (All-left (λ n. is_among sources n ≡ true) (names_in (expression_of tree)) (names_in_all (expressions (map expression_of trees))) named)
    (named_operands sources trees (All-right (λ n. is_among sources n ≡ true) (names_in (expression_of tree)) (names_in_all (expressions (map expression_of trees))) named))

-- the operands of a tree whose operators are built are such trees
built_operands : (trees : List DataSetTree) → each_all_built (expressions (map expression_of trees)) ≡ true → All (λ tree. all_built (expression_of tree) ≡ true) trees
built_operands [] built = All-nil (λ tree. all_built (expression_of tree) ≡ true)
built_operands (tree ∷ trees) built =
    let rest = each_all_built (expressions (map expression_of trees)) in
    All-cons (λ tree. all_built (expression_of tree) ≡ true) tree trees (left (all_built (expression_of tree)) rest built) (built_operands trees (right (all_built (expression_of tree)) rest built))

-- the operator of such a tree is built
pub is_built-operator : (node : DataSetNode) → all_built (expression_of_node node) ≡ true → is_built node.operator ≡ true
is_built-operator node = left (is_built node.operator) (each_all_built (expressions (map expression_of node.children)))

-- one of them that is there
pub built-at : (statements : List CheckedStatement) (i : ℕ) (statement : CheckedStatement) → list_all is_statement_built statements ≡ true → slice_get statements i ≡ Some statement → is_statement_built statement ≡ true
built-at [] i statement built there = absurd (none-some statement there)
built-at (s ∷ ss) zero statement built there = ap is_statement_built (sym (ap (λ (o : Option CheckedStatement). unwrap_or o s) there)) ∙ left (is_statement_built s) (list_all is_statement_built ss) built
built-at (s ∷ ss) (suc i) statement built there = built-at ss i statement (right (is_statement_built s) (list_all is_statement_built ss) built) there

-- the operands of an operator that can be built can be built
pub can_build_operands : (sources : List Source) (node : DataSetNode) → CanBuild sources (expression_of_node node) → AllCanBuild sources node.children
can_build_operands sources node can =
    let typed = typed_operands node can.typed in
    let built = built_operands node.children (right (is_built node.operator) (each_all_built (expressions (map expression_of node.children))) can.built) in
    let named = named_operands sources node.children can.named in
    (λ k d l. record { typed = typed k d l; built = built k d l; named = named k d l })

-- what operands that are built have together
record BuiltOperands (sources : List Source) (es : Expressions Source) (ps : Plains) : Type 0 where
  works_out : all_renamed (slice_get sources) (all_expressions ps) ≡ all_renamed Some es
  fit : AllFit (length sources) ps
  alone : all_forgotten ps ≡ ps
  stand : AllStandOn ps (λ n. empty)

operands_built : (sources : List Source) (trees : List DataSetTree) (ps : List Plain) → AreBuilt sources trees ps → BuiltOperands sources (expressions (map expression_of trees)) (plains_of ps)
operands_built sources [] [] h = record { works_out = refl; fit = tt; alone = refl; stand = tt }
operands_built sources [] (p ∷ ps) h = absurd h
operands_built sources (t ∷ trees) [] h = absurd h
operands_built sources (t ∷ trees) (p ∷ ps) h =
    let r = operands_built sources trees ps h.1 in
    let b = h.0 in
    let w = b.works_out in
    let v = r.works_out in
    let a = b.alone in
    let c = r.alone in
    record {
      works_out = (λ i. operand_and (w i) (v i));
      fit = (b.fit, r.fit);
      alone = (λ i. more (a i) (c i));
      stand = (b.stands, r.stand);
    }

built-count : (sources : List Source) (trees : List DataSetTree) (ps : List Plain) (structures : Source → Option (List Component)) (ts : List (List Component)) → AreBuilt sources trees ps → HaveStructures structures (expressions (map expression_of trees)) ts → count_of (plains_of ps) ≡ length ts
built-count sources [] [] structures [] h typed = refl
built-count sources [] [] structures (t ∷ ts) h typed = absurd typed
built-count sources [] (p ∷ ps) structures ts h typed = absurd h
built-count sources (t ∷ trees) [] structures ts h typed = absurd h
built-count sources (t ∷ trees) (p ∷ ps) structures [] h typed = absurd typed
built-count sources (t ∷ trees) (p ∷ ps) structures (u ∷ ts) h typed = ap suc (built-count sources trees ps structures ts h.1 typed.1)

operand-empty : {A : Type 0} (n : ℕ) (ts : List A) → operand n (empties ts) ≡ empty
operand-empty n [] = refl
operand-empty zero (t ∷ ts) = refl
operand-empty (suc n) (t ∷ ts) = operand-empty n ts

holdings-empty : {A : Type 0} (ts : List A) (ws : List Want) → map (holding_of (empties ts)) ws ≡ map nothing_held ws
holdings-empty ts [] = refl
holdings-empty ts (w ∷ ws) = let e = operand-empty w.operand ts in let r = holdings-empty ts ws in (λ i. record { want = w; content = e i } ∷ r i)

pub built-operator : (sources : List Source) (node : DataSetNode) (rule : Operator) (ps : List Plain) (held : List Holding) → IsWellTyped (expression_of_node node) → rule ≡ record { operator = node.operator; operands = node.operands; structure = node.structure } → AreBuilt sources node.children ps → held ≡ map nothing_held (wanted_of rule) → IsBuilt sources (expression_of_node node) (Operates rule node.place (plains_of ps) held 0 [] 0)
built-operator sources node rule ps held can is built held_is =
    let b = operands_built sources node.children ps built in
    let w = b.works_out in
    let o : Operator = record { operator = node.operator; operands = node.operands; structure = node.structure } in
    let es = expressions (map expression_of node.children) in
    let results : results_of (λ n. empty) (all_expressions (plains_of ps)) ≡ Ok (withouts node.operands) =
    sym (results_of-renamed (slice_get sources) (λ n. empty) (all_expressions (plains_of ps))) ∙ ap (results_of (λ n. empty)) w ∙ results_of-renamed Some (λ n. empty) es ∙ results_of-empty can.structures es node.operands can.typed.2 in
    let none = len-empty key_cmp (List Value) in
    let holds : Holds rule (sets_of (withouts node.operands)) held 0 = record {
      sets = ap (λ (zs : List DataSet). map (holding_of zs) (wanted_of rule)) (sets_of-withouts node.operands) ∙ holdings-empty node.operands (wanted_of rule) ∙ sym held_is;
      made = empty;
      gives = ap (λ (q : Operator). meaning_of q (sets_of (withouts node.operands))) is ∙ ap (meaning_of o) (sets_of-withouts node.operands) ∙ meaning_of-empty o can.typed.1;
      count = none;
    } in
    let count : count_of (plains_of ps) ≡ length node.operands = built-count sources node.children ps can.structures node.operands built can.typed.2 in
    record {
      works_out = (λ i. Applied (is i) node.place (w i));
      fit = (b.fit, count ∙ ap (λ (q : Operator). length q.operands) (sym is), ap length held_is ∙ length-map (wanted_of rule) nothing_held, omega arith);
      alone = ap (λ (t : Plains). Operates rule node.place t held 0 [] 0) b.alone;
      stands = (b.stand, subst (λ (r : Result (List Evaluated) Wrong). HoldsOn rule r held 0) (sym results) holds);
    }

pub built-name : (sources : List Source) (source : Source) (n : ℕ) → slice_get sources n ≡ Some source → IsBuilt sources (Named source) (Numbered n)
built-name sources source n there = record { works_out = ap Named there; fit = slice_get_within sources n source there; alone = refl; stands = tt }
