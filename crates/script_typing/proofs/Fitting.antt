-- The trees of a typed script fit, and its order has operands first.
use Rattle.std.proofs.Common.{◌≡◌, inl, inr, ℕ, zero, suc, ◌<◌, ◌≤◌, Bool, true, false, List, [], ◌∷◌, ◌++◌, Option, Some, None, Ok, Err, if◌then◌else◌, nat_eq, length, slice_get, All, Contains, refl, sym, ap, ◌∙◌, subst, arith, unwrap_or}
use Rattle.std.specs.List.{list_all}
use Rattle.std.specs.Option.{option_map}
use Rattle.std.specs.Cmp.Lexicographic.{pointwise}
use Rattle.std.proofs.lemmas.List.{length-map}
use Rattle.std.proofs.lemmas.List.Elements.{All-cons, All-head, All-nil, All-weaker, Contains-append_left, Contains-append_cases, Contains-push, Contains-push_cases}
use Rattle.std.proofs.lemmas.Option.{slice_get-map, get_or_from_slice_get}
use Rattle.indexmap.proofs.MapLemmas.{Found-position}
use Rattle.vtl_values.specs.Texts.{same_text}
use Rattle.vtl_values.specs.declared.place.Place.{Place}
use Rattle.vtl_values.specs.declared.structure.Component.{Component}
use Rattle.vtl_values.specs.Structures.{NamedStructures, number_of, structure_of}
use Rattle.vtl_syntax.specs.declared.expr.Expr.{Expr}
use Rattle.vtl_syntax.specs.declared.ruleset.Ruleset.{Ruleset}
use Rattle.vtl_syntax.specs.declared.script.Statement.{Statement}
use Rattle.shortest_cycles.specs.Paths.{Graph}
use Rattle.script_graph.specs.Orders.{IsOrder as IsGraphOrder}
use Rattle.script_graph.proofs.Orders.{has-Contains, order_has}
use Rattle.scalar_trees.specs.typing.Steps.{◌>>=◌}
use Rattle.data_set_trees.specs.declared.operand.DataSet.{DataSet}
use Rattle.data_set_trees.specs.declared.operand.Operand.TheVariants as operand
use Rattle.data_set_trees.specs.declared.tree.Source.{Source}
use Rattle.data_set_trees.specs.declared.tree.Source.TheVariants as source
use Rattle.data_set_trees.specs.declared.tree.DataSetTree.{fold-roll-DataSetTree}
use Rattle.data_set_trees.specs.declared.tree.DataSetTree.TheOpen.{DataSetTree-F}
use Rattle.data_set_trees.specs.declared.tree.DataSetTree.TheVariants as tree
use Rattle.expression_rules.specs.Expressions.{Naming, typed}
use Rattle.data_set_trees.specs.Trees.{SetAnswer}
use Rattle.data_set_trees.specs.declared.checked.script.CheckedStatement.{CheckedStatement}
use Rattle.data_set_trees.specs.checked.Expressions.{Expression, Named, name_step, node_step, expression_of}
use Rattle.data_set_trees.specs.checked.Operators.{TakesOperands}
use Rattle.data_set_trees.specs.checked.Scripts.{Script, IsOneOf, FollowOperands, FitsStatement, IsTypedScript, names_in, names_of, structure_of_source}
use Rattle.data_set_trees.specs.checked.Typing.{Fits}
use Rattle.fitting_trees.specs.Fitting.{IsFitting}
use Rattle.literal_ranges.specs.Ranges.{literals_in_range, ruleset_in_range}
use Rattle.statement_typing.specs.Names.{from, input_from, input_of}
use Rattle.script_typing.specs.declared.state.State.{State}
use Rattle.script_typing.specs.declared.state.State.TheVariants.{Waits, Has, Fails}
use Rattle.script_typing.specs.States.{SoFar, data_set_of, with_set, comes_to, after_turns, start}
use Rattle.script_typing.specs.Scripts.{states_after, first_refusal, checked_in}
use Rattle.script_typing.proofs.Walks.{turns-long}
use Rattle.script_typing.proofs.Progress.{HasSet, NoFault, Meets, kept, next, meets_next, all_have, set-same, not_after}

-- what typing gives fits
abbrev pub TypingFits : Type 1
TypingFits =
    (structures : Source → Option (List Component)) (among : Source → Type 0) (naming : Naming) (e : Expr) (d : DataSet) →
    ((name : List ℕ) (n : DataSet) → naming.data_set name ≡ Some n → IsFitting structures among n) →
    list_all ruleset_in_range naming.rulesets ≡ true → literals_in_range e ≡ true →
    typed naming e ≡ Ok (operand.DataSet d) → IsFitting structures among d

-- the literals of each statement are in range
abbrev pub AreInRange : List Statement → Type 0
AreInRange ts = (k : ℕ) (t : Statement) → slice_get ts k ≡ Some t → literals_in_range t.expr ≡ true

-- ---- equations

same_some : {A : Type 0} (a b : A) → Some a ≡ Some b → a ≡ b
same_some {A = A} a b e = ap (λ (o : Option A). unwrap_or o a) e

checked_or : CheckedStatement → State → CheckedStatement
checked_or c (Waits t) = c
checked_or c (Has e) = e
checked_or c (Fails r) = c

same_has : (c e : CheckedStatement) → Some (Has c) ≡ Some (Has e) → c ≡ e
unfolding checked_or
same_has c e h = ap (checked_or c) (same_some (Has c) (Has e) h)

-- a statement that has a data set has that of its expression
typed_is : (r : SetAnswer) (place : Place) (d : DataSet) → (r >>= data_set_of place) ≡ Ok d → r ≡ Ok (operand.DataSet d)
typed_is (Ok (operand.DataSet x)) place d h = cc
typed_is (Ok (operand.Scalar x)) place d h = absurd (cc h)
typed_is (Err r) place d h = absurd (cc h)

-- ---- typed statements

-- each has a data set
abbrev AllHave : List State → Type 0
AllHave states = (i : ℕ) → i < length states → HasSet states i

checked-long : (states : List State) → AllHave states → length (checked_in states) ≡ length states
checked-long [] have = refl
checked-long (Waits t ∷ states) have = let h = have 0 (omega arith) in absurd (cc h.1)
checked-long (Has c ∷ states) have = ap suc (checked-long states (λ i less. have (suc i) (omega arith)))
checked-long (Fails r ∷ states) have = let h = have 0 (omega arith) in absurd (cc h.1)

checked-at : (states : List State) → AllHave states → (i : ℕ) (c : CheckedStatement) → slice_get states i ≡ Some (Has c) → slice_get (checked_in states) i ≡ Some c
checked-at [] have i c has = absurd (cc has)
checked-at (Waits t ∷ states) have i c has = let h = have 0 (omega arith) in absurd (cc h.1)
checked-at (Has e ∷ states) have zero c has = ap Some (same_has e c has)
checked-at (Has e ∷ states) have (suc i) c has = checked-at states (λ j less. have (suc j) (omega arith)) i c has
checked-at (Fails r ∷ states) have i c has = let h = have 0 (omega arith) in absurd (cc h.1)

no_fault : (states : List State) → first_refusal states ≡ None → NoFault states
no_fault [] none k r h = absurd (cc h)
no_fault (Waits t ∷ states) none zero r h = absurd (cc h)
no_fault (Waits t ∷ states) none (suc k) r h = no_fault states none k r h
no_fault (Has c ∷ states) none zero r h = absurd (cc h)
no_fault (Has c ∷ states) none (suc k) r h = no_fault states none k r h
no_fault (Fails q ∷ states) none k r h = absurd (cc none)

-- ---- names

name-is : (s : Source) → expression_of (tree.Name s) ≡ Named s
name-is s = ap expression_of (sym (tree.rolls-Name s)) ∙ fold-roll-DataSetTree (Expression Source) (Expression Source) name_step node_step (DataSetTree-F.Name s)

names-there : (script : Script) (i : ℕ) (statement : CheckedStatement) → slice_get script.statements i ≡ Some statement → names_of script i ≡ names_in (expression_of statement.tree)
names-there script i statement at = rw at refl

more_one : (done : List ℕ) (i : ℕ) (z : Source) → IsOneOf done z → IsOneOf (done ++ i ∷ []) z
more_one done i (source.Input n) one = tt
more_one done i (source.Result j) one = Contains-append_left done (i ∷ []) j one

module _ (script : Script) where
  abbrev structures : Source → Option (List Component)
  structures = structure_of_source script

  -- each name stands for what fits, and names no result but these
  abbrev FitNames : List ℕ → Naming → Type 0
  FitNames done naming = (name : List ℕ) (n : DataSet) → naming.data_set name ≡ Some n → IsFitting structures (IsOneOf done) n

  name_fits : (among : Source → Type 0) (s : Source) (structure : List Component) → structures s ≡ Some structure → among s → IsFitting structures among (from s structure)
  name_fits among s structure at one = record {
    fits = subst (λ (e : Expression Source). Fits TakesOperands structures e structure) (sym (name-is s)) at;
    named = subst (λ (e : Expression Source). All among (names_in e)) (sym (name-is s)) (All-cons among s [] one (All-nil among));
  }

  input_fits : (done : List ℕ) (name : List ℕ) (n : DataSet) (o : Option ℕ) (p : Option (List Component)) → number_of script.inputs name ≡ o → structure_of script.inputs name ≡ p → input_from o p ≡ Some n → IsFitting structures (IsOneOf done) n
  input_fits done name n None None number structure is = absurd (cc is)
  input_fits done name n None (Some c) number structure is = absurd (cc is)
  input_fits done name n (Some k) None number structure is = absurd (cc is)
  input_fits done name n (Some k) (Some c) number structure is =
      let at : structure_of script.inputs name ≡ option_map (λ e. e.1) (slice_get script.inputs k) = (Found-position (pointwise nat_eq name) script.inputs k number).value ∙ slice_get-map (λ (e : List ℕ × List Component). e.1) script.inputs k in
      subst (IsFitting structures (IsOneOf done)) (same_some (from (source.Input k) c) n is) (name_fits (IsOneOf done) (source.Input k) c (sym at ∙ structure) tt)

  inputs_fit : (done : List ℕ) (rulesets : List Ruleset) → FitNames done (record { data_set = input_of script.inputs; rulesets = rulesets })
  inputs_fit done rulesets name n is = input_fits done name n (number_of script.inputs name) (structure_of script.inputs name) refl refl is

  next_name : (done : List ℕ) (i : ℕ) (d : DataSet) (b : Bool) (o : Option DataSet) (n : DataSet) → structures (source.Result i) ≡ Some d.structure → (o ≡ Some n → IsFitting structures (IsOneOf done) n) → (if b then Some (from (source.Result i) d.structure) else o) ≡ Some n → IsFitting structures (IsOneOf (done ++ i ∷ [])) n
  next_name done i d true o n at old is = subst (IsFitting structures (IsOneOf (done ++ i ∷ []))) (same_some (from (source.Result i) d.structure) n is) (name_fits (IsOneOf (done ++ i ∷ [])) (source.Result i) d.structure at (Contains-push done i))
  next_name done i d false o n at old is =
      let f = old is in
      record { fits = f.fits; named = All-weaker (IsOneOf done) (IsOneOf (done ++ i ∷ [])) (more_one done i) (names_in (expression_of n.tree)) f.named }

  -- ---- one statement after another

  module _ (law : TypingFits) (g : Graph) (ts : List Statement) (ranges : AreInRange ts) (end : List State) (none : NoFault end) (told : (k : ℕ) (c : CheckedStatement) → slice_get end k ≡ Some (Has c) → slice_get script.statements k ≡ Some c) where
    record Fitted (done rest : List ℕ) : Type 0 where
      pub follows : FollowOperands script done rest
      pub fit : (k : ℕ) (c : CheckedStatement) → Contains rest k → slice_get end k ≡ Some (Has c) → Fits TakesOperands structures (expression_of c.tree) c.structure

    fitted : (done rest : List ℕ) (s : SoFar) → Meets g ts done rest s → end ≡ (after_turns g rest s).states → FitNames done s.naming → list_all ruleset_in_range s.naming.rulesets ≡ true → Fitted done rest
    fitted done [] s m is names rules = record { follows = tt; fit = λ k c in_none h. absurd (let less = in_none.1 in omega arith) }
    fitted done (i ∷ is) s m ends names rules =
        let n = next g ts done is i s m (subst NoFault ends none) in
        let c = with_set n.t n.d in
        let after = comes_to i (Some (Has c)) s in
        let ends' : end ≡ (after_turns g is after).states = ends ∙ ap (λ (z : SoFar). (after_turns g is z).states) n.is in
        let m' : Meets g ts (done ++ i ∷ []) is after = meets_next g ts done is i c s m in
        let less : i < length s.states = subst (λ (q : ℕ). i < q) (sym m.long) (All-head (λ (j : ℕ). j < length ts) i is m.below) in
        let stays : slice_get end i ≡ slice_get after.states i = ap (λ (xs : List State). slice_get xs i) ends' ∙ kept g is i after (not_after done i is m.once) in
        let has : slice_get end i ≡ Some (Has c) = stays ∙ set-same s.states i (Has c) less in
        let at : slice_get script.statements i ≡ Some c = told i c has in
        let fit = law structures (IsOneOf done) s.naming n.t.expr n.d names rules (ranges i n.t n.at) (typed_is (typed s.naming n.t.expr) n.t.place n.d n.typed) in
        let rest = fitted (done ++ i ∷ []) is after m' ends' (λ name x e. next_name done i n.d (same_text n.t.name name) (s.naming.data_set name) x (ap (option_map (λ (c : CheckedStatement). c.structure)) at) (names name x) e) rules in
        record {
          follows = (subst (λ (ns : List Source). All (IsOneOf done) ns) (sym (names-there script i c at)) fit.named, rest.follows);
          fit = λ k other in_rest h. elim (Contains-append_cases (i ∷ []) is k in_rest) [
            | inl one ↦ elim (Contains-push_cases [] i k one) [
              | inl old ↦ absurd (let less = old.1 in omega arith)
              | inr same ↦ subst (λ (x : CheckedStatement). Fits TakesOperands structures (expression_of x.tree) x.structure) (same_has c other (sym has ∙ ap (slice_get end) same ∙ h)) fit.fits
            ]
            | inr more ↦ rest.fit k other more h
          ];
        }

-- ---- whole scripts

module _ (law : TypingFits) (inputs : NamedStructures) (rulesets : List Ruleset) (g : Graph) (ts : List Statement) (order : List ℕ) where
  abbrev end : List State
  end = states_after inputs rulesets g ts order

  abbrev script : Script
  script = record { inputs = inputs; statements = checked_in end; order = order }

  begins : IsGraphOrder g order → length g ≡ length ts → Meets g ts [] order (start inputs rulesets ts)
  begins o all = record {
    once = o.once;
    below = subst (λ (n : ℕ). All (λ i. i < n) order) all o.below;
    follows = o.follows;
    long = length-map ts Waits;
    have = λ k c. absurd (let less = c.1 in omega arith);
    wait = λ k t c at. slice_get-map Waits ts k ∙ ap (option_map Waits) at;
  }

  end-long : length end ≡ length ts
  end-long = turns-long g order (start inputs rulesets ts) ∙ length-map ts Waits

  pub fits_all : IsGraphOrder g order → length g ≡ length ts → length ts ≤ 256 → AreInRange ts → list_all ruleset_in_range rulesets ≡ true → first_refusal end ≡ None → IsTypedScript script
  fits_all o all few ranges rules none =
      let m = begins o all in
      let faultless : NoFault end = no_fault end none in
      let among : (k : ℕ) → k < length ts → Contains order k = λ k less. has-Contains order k (order_has g order o k (subst (λ (n : ℕ). k < n) (sym all) less)) in
      let have : AllHave end = λ k less. all_have g ts [] order (start inputs rulesets ts) m faultless k (among k (subst (λ (n : ℕ). k < n) end-long less)) in
      let long : length (checked_in end) ≡ length ts = checked-long end have ∙ end-long in
      let done = fitted script law g ts ranges end faultless (checked-at end have) [] order (start inputs rulesets ts) m refl (inputs_fit script [] rulesets) rules in
      record {
        few = subst (λ (n : ℕ). n ≤ 256) (sym long) few;
        typed = λ k other less.
            let within : k < length ts = subst (λ (n : ℕ). k < n) long less in
            let h = have k (subst (λ (n : ℕ). k < n) (sym end-long) within) in
            let at = checked-at end have k h.0 h.1 in
            subst (FitsStatement TakesOperands script) (sym (get_or_from_slice_get (checked_in end) k h.0 other at)) (done.fit k h.0 (among k within) h.1);
        ordered = record {
          all = o.all ∙ all ∙ sym long;
          below = subst (λ (n : ℕ). All (λ i. i < n) order) (all ∙ sym long) o.below;
          once = o.once;
          follows = done.follows;
        };
      }
