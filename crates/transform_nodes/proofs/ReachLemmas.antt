-- Reaches of trees, operand by operand, and where nothing changes.
use Rattle.std.proofs.Common.{◌≡◌, ℕ, ◌+◌, ◌<◌, ◌≤◌, List, [], ◌∷◌, map, take, get_or, length, Ok, Err, Result, refl, sym, ◌∙◌, ap, subst, arith, slice_get}
use Rattle.std.specs.Arc.{arc_value}
use Rattle.std.specs.FinMap.{empty, empty_of_len, len, len-empty}
use Rattle.std.specs.List.{AllZip, sum_by}
use Rattle.std.specs.Option.{unwrap_or}
use Rattle.std.proofs.Math.ListN.{get_or-map}
use Rattle.std.proofs.lemmas.List.{length-map}
use Rattle.std.proofs.lemmas.List.Sums.{sum_by-cons, sum_by-take-le, sum_by_more}
use Rattle.vtl_values.specs.declared.place.Place.{Place}
use Rattle.vtl_values.specs.declared.value.Value.{Value}
use Rattle.vtl_values.specs.Order.{key_cmp}
use Rattle.vtl_values.proofs.Values.{key_cmp-IsTotalOrder, key_cmp-IsAntisymmetric}
use Rattle.data_model.specs.Deltas.{Leads, Pair, delta_between}
use Rattle.data_model.proofs.DeltaLemmas.{Leads-delta_between, Leads-empty, Leads-unique}
use Rattle.point_sets.specs.DataSets.{DataSet}
use Rattle.point_sets.specs.Changes.{Changes, values_eq}
use Rattle.point_sets.proofs.Changes.{values_eq-IsEqualityTest}
use Rattle.data_set_trees.specs.declared.tree.Source.{Source as Named}
use Rattle.data_set_trees.specs.checked.Scripts.{Script}
use Rattle.operator_meaning.specs.Results.{Evaluated, Wrong, sets_of, results_of}
use Rattle.held_index.specs.Holdings.{Holding}
use Rattle.held_index.specs.Reach.{changes_in}
use Rattle.transform_nodes.specs.Nodes.{AllLead, WorkStandsFor, numbered, operand_on, settled_tree}
use Rattle.transform_nodes.specs.Reach.{deltas_between, own_reach, tree_reach, all_reach, work_reach}
use Rattle.operator_rules.specs.ReachLaws.{no_rule_reach}
use Rattle.operator_rules.specs.Rules.{reach_of}
use Rattle.transform_nodes.specs.Runs.{AllLeads, Moves, RanAll}
use Rattle.transform_nodes.specs.Trees.{Plain, Plains, Source, Operates, none, more, plain, plains_of, all_expressions}
use Rattle.transform_nodes.specs.declared.node.Child.{Child}
use Rattle.data_set_trees.specs.checked.Operators.{Operator}
use Rattle.transform_nodes.specs.declared.work.Work.{Work}

-- ---- right deltas

right_between : (x y : DataSet) → Leads (delta_between values_eq x y) x y
right_between x y = Leads-delta_between key_cmp-IsTotalOrder key_cmp-IsAntisymmetric values_eq values_eq-IsEqualityTest x y

-- what leads from the old data sets to the new ones are their right deltas
leads_between : (ds : List Changes) (xs ys : List DataSet) → AllLeads ds xs ys → deltas_between xs ys ≡ ds
leads_between [] [] [] h = refl
leads_between [] [] (y ∷ ys) h = absurd h
leads_between [] (x ∷ xs) ys h = absurd h
leads_between (d ∷ ds) [] ys h = absurd h
leads_between (d ∷ ds) (x ∷ xs) [] h = absurd h
leads_between (d ∷ ds) (x ∷ xs) (y ∷ ys) h =
    let first = Leads-unique key_cmp-IsTotalOrder key_cmp-IsAntisymmetric (delta_between values_eq x y) d x y (right_between x y) h.0 in
    let rest = leads_between ds xs ys h.1 in
    (λ i. first i ∷ rest i)

no_changes : (xs : List DataSet) → changes_in (deltas_between xs xs) ≡ 0
no_changes [] = refl
no_changes (x ∷ xs) =
    let same = Leads-unique key_cmp-IsTotalOrder key_cmp-IsAntisymmetric (delta_between values_eq x x) empty x x (right_between x x) (Leads-empty key_cmp-IsTotalOrder key_cmp-IsAntisymmetric x) in
    let first : len (delta_between values_eq x x) ≡ 0 = ap len same ∙ len-empty key_cmp (Pair (List Value)) in
    let rest = no_changes xs in
    sum_by-cons len (delta_between values_eq x x) (deltas_between xs xs) ∙ (omega (arith, first, rest))

-- ---- operands, one after another

all_reach-sum : (old new : ℕ → DataSet) (ps : List Plain) → all_reach old new (plains_of ps) ≡ sum_by (tree_reach old new) ps
all_reach-sum old new [] = refl
all_reach-sum old new (p ∷ ps) = ap (λ n. tree_reach old new p + n) (all_reach-sum old new ps) ∙ sym (sum_by-cons (tree_reach old new) p ps)

-- the first operands reach no more than all
pub some_reach : (old new : ℕ → DataSet) (ps : List Plain) (i : ℕ) → all_reach old new (plains_of (take i ps)) ≤ all_reach old new (plains_of ps)
some_reach old new ps i =
    let some = all_reach-sum old new (take i ps) in
    let all = all_reach-sum old new ps in
    let few = sum_by-take-le (tree_reach old new) ps i in
    omega (arith, some, all, few)

reach_more : (old new : ℕ → DataSet) (ps : List Plain) (i : ℕ) (p : Plain) → i < length ps → all_reach old new (plains_of (take (i + 1) ps)) ≡ all_reach old new (plains_of (take i ps)) + tree_reach old new (get_or ps i p)
reach_more old new ps i p within = all_reach-sum old new (take (i + 1) ps) ∙ sum_by_more (tree_reach old new) ps i p within ∙ ap (λ n. n + tree_reach old new (get_or ps i p)) (sym (all_reach-sum old new (take i ps)))

-- one operand more has been run
pub steps_more : (old new : ℕ → DataSet) (ks : List Child) (i : ℕ) (k : Child) (start before after : ℕ) → i < length ks → k ≡ get_or ks i k → before ≤ start + all_reach old new (plains_of (take i (map plain ks))) → after ≤ before + tree_reach old new (plain k)
    → after ≤ start + all_reach old new (plains_of (take (i + 1) (map plain ks)))
steps_more old new ks i k start before after within is so_far one =
    let inside : i < length (map plain ks) = let e = length-map ks plain in omega (arith, e, within) in
    let there : tree_reach old new (get_or (map plain ks) i (plain k)) ≡ tree_reach old new (plain k) = ap (tree_reach old new) (get_or-map plain ks i k ∙ ap plain (sym is)) in
    let more = reach_more old new (map plain ks) i (plain k) inside in
    omega (arith, there, more, so_far, one)

-- ---- an operator, after its operands

asked_reach : (news : List Changes) (m : Moves news) (rule : Operator) (held : List Holding) (ps qs : List Plain) (ds : List Changes) (points : ℕ) → RanAll news m ps qs ds points
    → own_reach rule held (results_of m.old (all_expressions (plains_of ps))) (results_of m.new (all_expressions (plains_of ps))) ≡ reach_of rule held ds
asked_reach news m rule held ps qs ds points ran =
    let was = ran.was in
    let is = ran.is in
    (λ i. own_reach rule held (was i) (is i)) ∙ ap (reach_of rule held) (leads_between ds (sets_of ran.before) (sets_of ran.after) ran.leads)

module _ (rule : Operator) (place : Place) (ps qs : List Plain) (held : List Holding) (points : ℕ) (pending : List Holding) (pp : ℕ) where
  abbrev tree : Plain
  tree = Operates rule place (plains_of ps) held points pending pp

  pub steps_below : (old new : ℕ → DataSet) (start after : ℕ) → after ≤ start + all_reach old new (plains_of ps) → after ≤ start + tree_reach old new tree
  steps_below old new start after below =
      let sum : tree_reach old new tree ≡ all_reach old new (plains_of ps) + own_reach rule held (results_of old (all_expressions (plains_of ps))) (results_of new (all_expressions (plains_of ps))) = refl in
      omega (arith, sum, below)

  -- its rule was asked too
  pub steps_asked : (news : List Changes) (m : Moves news) (ds : List Changes) (k : ℕ) → RanAll news m ps qs ds k → (held' : List Holding) (ds' : List Changes) (start before after : ℕ) → held' ≡ held → ds' ≡ ds
      → before ≤ start + all_reach m.old m.new (plains_of ps) → after ≤ before + reach_of rule held' ds' → after ≤ start + tree_reach m.old m.new tree
  steps_asked news m ds k ran held' ds' start before after p q below one =
      let sum : tree_reach m.old m.new tree ≡ all_reach m.old m.new (plains_of ps) + own_reach rule held (results_of m.old (all_expressions (plains_of ps))) (results_of m.new (all_expressions (plains_of ps))) = refl in
      let own = asked_reach news m rule held ps qs ds k ran in
      let along : reach_of rule held' ds' ≡ reach_of rule held ds = λ i. reach_of rule (p i) (q i) in
      omega (arith, sum, own, along, below, one)

-- ---- where nothing changes

own_rests : (rule : Operator) (held : List Holding) (r : Result (List Evaluated) Wrong) → own_reach rule held r r ≡ 0
own_rests rule held (Ok es) = no_rule_reach rule held (deltas_between (sets_of es) (sets_of es)) (no_changes (sets_of es))
own_rests rule held (Err wrong) = refl

mutual
  tree_rests : (sets : ℕ → DataSet) (p : Plain) → tree_reach sets sets p ≡ 0
  tree_rests sets (Source n) = refl
  tree_rests sets (Operates rule place ps held points pending pending_points) =
      let below = all_rest sets ps in
      let own = own_rests rule held (results_of sets (all_expressions ps)) in
      omega (arith, below, own)

  all_rest : (sets : ℕ → DataSet) (ps : Plains) → all_reach sets sets ps ≡ 0
  all_rest sets none = refl
  all_rest sets (more p ps) = let first = tree_rests sets p in let rest = all_rest sets ps in omega (arith, first, rest)

leads_nowhere : (d : Changes) (x y : DataSet) → Leads d x y → len d ≡ 0 → x ≡ y
leads_nowhere d x y h empty_is =
    let leads = subst (λ (e : Changes). Leads e x y) (empty_of_len d empty_is) h in
    sym (Leads-empty key_cmp-IsTotalOrder key_cmp-IsAntisymmetric x).ends ∙ leads.ends

same_operands : (f g : Named → DataSet) (news : List Changes) (sources : List Named) → AllZip (λ d source. Leads d (f source) (g source)) news sources → changes_in news ≡ 0 → map f sources ≡ map g sources
same_operands f g [] [] h still = refl
same_operands f g [] (a ∷ sources) h still = absurd h
same_operands f g (d ∷ ds) [] h still = absurd h
same_operands f g (d ∷ ds) (a ∷ sources) h still =
    let all = sum_by-cons len d ds in
    let first = leads_nowhere d (f a) (g a) h.0 (omega (arith, still, all)) in
    let rest = same_operands f g ds sources h.1 (omega (arith, still, all)) in
    (λ i. first i ∷ rest i)

pub work_rests : (s : Script) (w : Work) (xs ys : List DataSet) → WorkStandsFor s w xs ys → changes_in (map arc_value w.news.items) ≡ 0 → work_reach s w xs ys ≡ 0
work_rests s w xs ys h still =
    let same = same_operands (operand_on s xs) (operand_on s ys) (map arc_value w.news.items) w.node.sources h.news_lead still in
    let tree = settled_tree w.settle (plain w.node.tree) in
    ap (λ (sets : List DataSet). tree_reach (numbered s xs w.node.sources) (λ n. unwrap_or (slice_get sets n) empty) tree) (sym same)
    ∙ tree_rests (numbered s xs w.node.sources) tree
