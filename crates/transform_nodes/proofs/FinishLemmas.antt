-- What a run comes to in a script.
use Rattle.std.proofs.Common.{◌≡◌, ℕ, suc, ◌+◌, ◌≤◌, List, [], ◌∷◌, map, length, Bool, true, false, cond, Ok, Result, Option, Some, None, refl, sym, ◌∙◌, ap, subst, slice_get}
use Rattle.std.specs.Option.{IfSome, IsSomeAnd}
use Rattle.std.specs.Arc.{arc_value}
use Rattle.std.specs.FinMap.{empty_of_len, len}
use Rattle.std.proofs.lemmas.List.Elements.{All-weaker}
use Rattle.vtl_values.proofs.Values.{key_cmp-IsTotalOrder, key_cmp-IsAntisymmetric}
use Rattle.data_model.specs.Deltas.{Leads, BeginsAt, apply}
use Rattle.data_model.proofs.DeltaLemmas.{Leads-empty}
use Rattle.point_sets.specs.DataSets.{DataSet}
use Rattle.point_sets.specs.Changes.{Changes}
use Rattle.data_set_trees.specs.declared.tree.Source.{Source}
use Rattle.data_set_trees.specs.declared.tree.Source.TheVariants.{Result as ResultOf}
use Rattle.data_set_trees.specs.checked.Expressions.{expression_of, renamed}
use Rattle.data_set_trees.specs.checked.Scripts.{Script, IsChecked}
use Rattle.data_set_trees.specs.checked.Typing.{HasStructure}
use Rattle.operator_meaning.specs.Results.{Wrong, Evaluated, result_of}
use Rattle.operator_meaning.specs.Scripts.{Has, state_of, states}
use Rattle.release_text.specs.Releases.{Page, page_of}
use Rattle.transform_nodes.specs.Carrying.{with_set, page_after, PageBegins, CanRunNode, IsFinished, FinishOn, FinishesRight}
use Rattle.transform_nodes.specs.Nodes.{AreInputs, operand_on, numbered, AllHave, AllLead, published, WorksOut, HasSameParts, StandsAs, settled_tree, settled_pages, WorkStandsFor, IsRight, FinishFor}
use Rattle.transform_nodes.specs.Reach.{StaysWithin, tree_reach, work_reach}
use Rattle.transform_nodes.specs.Runs.{Moves, IsRunnable, RanOne}
use Rattle.transform_nodes.specs.Trees.{Plain, plain, expression, StandsOn, applied, forgotten, IsFit}
use Rattle.transform_nodes.specs.declared.node.Node.{Node}
use Rattle.transform_nodes.specs.declared.work.Finish.{Finish}
use Rattle.transform_nodes.specs.declared.work.Finish.TheVariants.{Right, Fault, GaveUp}
use Rattle.transform_nodes.specs.declared.work.Settle.TheVariants.{Forget}
use Rattle.transform_nodes.specs.declared.work.Work.{Work}
use Rattle.transform_nodes.proofs.NodeLemmas.{fit-kept, forgotten-settled, stands-along, stands-settled}
use Rattle.transform_nodes.proofs.TreeLemmas.{expression-applied, expression-kept}
use Rattle.transform_nodes.proofs.WorldLemmas.{moves, result-numbered, typed-numbered, state-given, given-state, statement-typed, operand-of_state}

pub record IsFound {A : Type 0} (o : Option A) (P : A → Type 0) : Type 0 where
  pub value : A
  pub is : o ≡ Some value
  pub holds : P value

pub found : {A : Type 0} (o : Option A) (P : A → Type 0) → IsSomeAnd o P → IsFound o P
found None P h = absurd h
found (Some x) P h = record { value = x; is = refl; holds = h }

some_there : {A : Type 0} (o : Option A) (x : A) (P : A → Type 0) → o ≡ Some x → P x → IsSomeAnd o P
some_there o x P e h = subst (λ t. IsSomeAnd t P) (sym e) h

if_some-weaker : {A : Type 0} (o : Option A) (P Q : A → Type 0) → ((a : A) → P a → Q a) → IfSome o P → IfSome o Q
if_some-weaker None P Q f h = tt
if_some-weaker (Some a) P Q f h = f a h

same_value : (u v : Evaluated) → ◌≡◌ {A = Result Evaluated Wrong} (Ok u) (Ok v) → u ≡ v
same_value u v e = cc

page_shows : (b : Bool) (page : Page) → IfSome (cond b (Some page) None) (λ q. q.set ≡ page.set)
page_shows true page = refl
page_shows false page = tt

page-after : (b : Bool) (d : Changes) (page : Page) (y : DataSet) → apply d page.set ≡ y → page_after d (cond b (Some page) None) ≡ cond b (Some (with_set y page)) None
page-after true d page y e = ap (λ (x : DataSet). Some (with_set x page)) e
page-after false d page y e = refl

-- without a change the page stays
pub unchanged : (d : Changes) (page : Page) → len d ≡ 0 → page ≡ with_set (apply d page.set) page
unchanged d page none = ap (λ (x : DataSet). with_set x page) (sym (ap (λ (e : Changes). apply e page.set) (empty_of_len d none) ∙ (Leads-empty key_cmp-IsTotalOrder key_cmp-IsAntisymmetric page.set).ends))

-- a delta that begins at a result begins at the page that shows it
pub page-begins : (pages : Option Page) (d : Changes) (v : Evaluated) {r : Result Evaluated Wrong} → r ≡ Ok v → IfSome pages (λ q. (u : Evaluated) → r ≡ Ok u → q.set ≡ u.set) → BeginsAt d v.set → PageBegins d pages
page-begins None d v e shows begins = tt
page-begins (Some q) d v e shows begins = subst (λ (x : DataSet). BeginsAt d x) (sym (shows v e)) begins

pub lead-length : (s : Script) (xs ys : List DataSet) (news : List Changes) (sources : List Source) → AllLead s news sources xs ys → length news ≡ length sources
lead-length s xs ys [] [] h = refl
lead-length s xs ys [] (a ∷ sources) h = absurd h
lead-length s xs ys (d ∷ ds) [] h = absurd h
lead-length s xs ys (d ∷ ds) (a ∷ sources) h = ap suc (lead-length s xs ys ds sources h.1)

-- a node that stands for xs, whose tree, but for what is pending, is p; its sources' news lead from xs to ys
module _ (s : Script) (xs ys : List DataSet) (news : List Changes) (checked : IsChecked s) (old_inputs : AreInputs s xs) (new_inputs : AreInputs s ys) (node : Node) (stands : StandsAs s xs Forget node) (have : AllHave s ys node.sources) (lead : AllLead s news node.sources xs ys) (p : Plain) (p_is : p ≡ forgotten (plain node.tree)) where
  abbrev m : Moves news
  m = moves s checked node.sources xs ys news old_inputs new_inputs lead

  abbrev statement_found : IsFound (slice_get s.statements node.statement) (λ statement. WorksOut statement node.sources (forgotten (plain node.tree)) stands.has.set node.pages)
  statement_found = found (slice_get s.statements node.statement) (λ statement. WorksOut statement node.sources (forgotten (plain node.tree)) stands.has.set node.pages) stands.works_out

  pub node_runnable : IsRunnable news m p
  node_runnable =
      let f = statement_found in
      let t = f.value.structure in
      let typed = typed-numbered s checked node.sources (expression (forgotten (plain node.tree))) (expression_of f.value.tree) f.holds.tree_is t (statement-typed s checked node.statement f.value f.is) in
      record {
        structure = t;
        typed = subst (λ (q : Plain). HasStructure m.structures (expression q) t) (sym p_is) typed;
        stands = subst (λ (q : Plain). StandsOn q m.old) (sym p_is) stands.holds;
      }

  node_result : (zs : List DataSet) → result_of (numbered s zs node.sources) (expression p) ≡ result_of (operand_on s zs) (expression_of statement_found.value.tree)
  node_result zs = ap (λ (q : Plain). result_of (numbered s zs node.sources) (expression q)) p_is ∙ result-numbered s checked node.sources (expression (forgotten (plain node.tree))) (expression_of statement_found.value.tree) statement_found.holds.tree_is zs

  old_result : result_of m.old (expression p) ≡ Ok stands.has
  old_result = node_result xs ∙ given-state s checked node.statement statement_found.value statement_found.is xs stands.has stands.state

  new_state : states s ys node.statement ≡ state_of (result_of m.new (expression p))
  new_state = state-given s checked node.statement statement_found.value statement_found.is ys (subst (λ (ns : List Source). AllHave s ys ns) stands.shape.sources have) ∙ ap state_of (sym (node_result ys))

  pub pages_show : IfSome node.pages (λ page. (v : Evaluated) → result_of m.old (expression p) ≡ Ok v → page.set ≡ v.set)
  pages_show =
      let f = statement_found in
      let page : Page = page_of f.value.name f.value.structure stands.has.set in
      let shown = subst (λ (o : Option Page). IfSome o (λ q. q.set ≡ stands.has.set)) (sym f.holds.pages_are) (page_shows f.value.persistent page) in
      if_some-weaker node.pages (λ q. q.set ≡ stands.has.set) (λ q. (v : Evaluated) → result_of m.old (expression p) ≡ Ok v → q.set ≡ v.set) (λ q e v r. e ∙ ap (λ (u : Evaluated). u.set) (same_value stands.has v (sym old_result ∙ r))) shown

  module _ (before : Node) (tree_was : plain before.tree ≡ p) (uses_were : node.uses ≡ before.uses) (pages_were : node.pages ≡ before.pages) where
    right-is : (deltas : List Changes) (points : ℕ) (pages : Option Page) → IsFinished news m before node deltas points pages → IsRight s node xs ys deltas points pages
    right-is deltas points pages f =
        let r : RanOne news m p (plain node.tree) f.delta points = subst (λ (q : Plain). RanOne news m q (plain node.tree) f.delta points) tree_was f.ran in
        let st = statement_found in
        let state : states s ys node.statement ≡ Has r.after = new_state ∙ ap state_of r.is in
        let had : r.before.set ≡ stands.has.set = ap (λ (u : Evaluated). u.set) (same_value r.before stands.has (sym r.was ∙ old_result)) in
        let old_is : operand_on s xs (ResultOf node.statement) ≡ r.before.set = operand-of_state s xs node.statement stands.has stands.state ∙ sym had in
        let new_is : operand_on s ys (ResultOf node.statement) ≡ r.after.set = operand-of_state s ys node.statement r.after state in
        let leads : Leads f.delta (operand_on s xs (ResultOf node.statement)) (operand_on s ys (ResultOf node.statement)) =
        subst (λ (x : DataSet). Leads f.delta x (operand_on s ys (ResultOf node.statement))) (sym old_is) (subst (λ (y : DataSet). Leads f.delta r.before.set y) (sym new_is) r.leads) in
        let page : Page = page_of st.value.name st.value.structure stands.has.set in
        let ends : apply f.delta stands.has.set ≡ r.after.set = ap (λ (x : DataSet). apply f.delta x) (sym had) ∙ r.leads.ends in
        let pages_are : pages ≡ published st.value r.after.set = f.pages_are ∙ ap (page_after f.delta) (sym pages_were ∙ st.holds.pages_are) ∙ page-after st.value.persistent f.delta page r.after.set ends in
        let tree_is : renamed (slice_get node.sources) (expression (applied (plain node.tree))) ≡ renamed Some (expression_of st.value.tree) =
        ap (renamed (slice_get node.sources)) (expression-applied (plain node.tree) ∙ expression-kept (forgotten (plain node.tree)) (plain node.tree) (sym (forgotten-settled Forget (plain node.tree)))) ∙ st.holds.tree_is in
        record {
          has = r.after;
          state = state;
          count = f.count ∙ sym uses_were;
          each = All-weaker (λ d. d ≡ f.delta) (λ d. Leads d (operand_on s xs (ResultOf node.statement)) (operand_on s ys (ResultOf node.statement))) (λ d e. subst (λ (t : Changes). Leads t (operand_on s xs (ResultOf node.statement)) (operand_on s ys (ResultOf node.statement))) (sym e) leads) deltas f.each;
          points_are = r.counts;
          pages_are = some_there (slice_get s.statements node.statement) st.value (λ statement. pages ≡ published statement r.after.set) st.is pages_are;
          pending = record {
            shape = stands.shape;
            ready = r.patches;
            has = r.after;
            state = state;
            works_out = some_there (slice_get s.statements node.statement) st.value (λ statement. WorksOut statement node.sources (applied (plain node.tree)) r.after.set node.pending_pages) st.is (record { tree_is = tree_is; pages_are = f.pending ∙ pages_are });
            holds = r.stands;
          };
        }

    -- what the node's run came to is what the statement has on ys
    pub finish-for : (finish : Finish) → FinishOn news m before node finish → FinishFor s node xs ys finish
    finish-for (Right deltas points pages) h = right-is (map arc_value deltas.items) points pages h
    finish-for (Fault kept told) h = (h.0, new_state ∙ ap state_of (ap (λ (q : Plain). result_of m.new (expression q)) (sym tree_was) ∙ h.1))
    finish-for GaveUp h = tt

-- a work that stands for xs and ys, its settled node, and its news
module _ (s : Script) (w : Work) (xs ys : List DataSet) (h : WorkStandsFor s w xs ys) (node : Node) (same : HasSameParts w.node node) (tree : plain node.tree ≡ settled_tree w.settle (plain w.node.tree)) (pages : node.pages ≡ settled_pages w.settle w.node) (news : List Changes) (news_are : news ≡ map arc_value w.news.items) where
  settled_stands : StandsAs s xs Forget node
  settled_stands = stands-settled s w.node node xs w.settle same tree pages h.node_stands

  have_news : AllHave s ys node.sources
  have_news = subst (λ (ns : List Source). AllHave s ys ns) (sym same.sources) h.have

  news_lead : AllLead s news node.sources xs ys
  news_lead = subst (λ (ds : List Changes). AllLead s ds node.sources xs ys) (sym news_are) (subst (λ (ns : List Source). AllLead s (map arc_value w.news.items) ns xs ys) (sym same.sources) h.news_lead)

  tree_alone : plain node.tree ≡ forgotten (plain node.tree)
  tree_alone = tree ∙ sym (forgotten-settled w.settle (plain w.node.tree)) ∙ ap forgotten (sym tree)

  pub fits_news : (n : ℕ) → n ≡ length news → IsFit n (plain node.tree)
  fits_news n e = subst (λ (k : ℕ). IsFit k (plain node.tree)) (sym (e ∙ lead-length s xs ys news node.sources news_lead)) settled_stands.shape.fit

  pub can_run : CanRunNode news node
  can_run = (
    moves s h.checked node.sources xs ys news h.old_inputs h.new_inputs news_lead,
    (
      node_runnable s xs ys news h.checked h.old_inputs h.new_inputs node settled_stands have_news news_lead (plain node.tree) tree_alone,
      pages_show s xs ys news h.checked h.old_inputs h.new_inputs node settled_stands have_news news_lead (plain node.tree) tree_alone,
    ),
  )

  pub run_within : (start end : ℕ) → StaysWithin news (plain node.tree) start end → end ≤ start + work_reach s w xs ys
  run_within start end within =
      subst (λ (ns : List Source). end ≤ start + tree_reach (numbered s xs ns) (numbered s ys ns) (settled_tree w.settle (plain w.node.tree))) same.sources
      (subst (λ (p : Plain). end ≤ start + tree_reach (numbered s xs node.sources) (numbered s ys node.sources) p) tree (within (moves s h.checked node.sources xs ys news h.old_inputs h.new_inputs news_lead)
      (node_runnable s xs ys news h.checked h.old_inputs h.new_inputs node settled_stands have_news news_lead (plain node.tree) tree_alone)))

  -- the node after its run
  module _ (after : Node) (parts : HasSameParts node after) (kept : forgotten (plain after.tree) ≡ forgotten (plain node.tree)) (pages_stay : after.pages ≡ node.pages) where
    pub done_stands : StandsAs s xs Forget after
    done_stands = stands-along s node after parts xs Forget Forget (fit-kept (length after.sources) (plain node.tree) (plain after.tree) kept (subst (λ (ns : List Source). IsFit (length ns) (plain node.tree)) (sym parts.sources) settled_stands.shape.fit)) tt kept pages_stay settled_stands

    pub done_finish : (finish : Finish) → FinishesRight news node after finish → FinishFor s after xs ys finish
    done_finish finish right =
        let have = subst (λ (ns : List Source). AllHave s ys ns) (sym parts.sources) have_news in
        let lead = subst (λ (ns : List Source). AllLead s news ns xs ys) (sym parts.sources) news_lead in
        let p : Plain = plain node.tree in
        let alone : p ≡ forgotten (plain after.tree) = tree_alone ∙ sym kept in
        let m : Moves news = moves s h.checked after.sources xs ys news h.old_inputs h.new_inputs lead in
        let runnable = node_runnable s xs ys news h.checked h.old_inputs h.new_inputs after done_stands have lead p alone in
        let shows = subst (λ (o : Option Page). IfSome o (λ page. (v : Evaluated) → result_of m.old (expression p) ≡ Ok v → page.set ≡ v.set)) pages_stay (pages_show s xs ys news h.checked h.old_inputs h.new_inputs after done_stands have lead p alone) in
        finish-for s xs ys news h.checked h.old_inputs h.new_inputs after done_stands have lead p alone node refl parts.uses pages_stay finish (right m runnable shows)
