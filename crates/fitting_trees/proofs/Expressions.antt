-- What an expression is checked to be fits, where names stand for data sets that fit and its literals are in range.
use Rattle.std.proofs.Common.{◌≡◌, refl, ℕ, Bool, true, ◌&&◌, List, [], ◌∷◌, ◌++◌, map, Option, Some, None, Ok, ap, sym, subst, ◌∙◌}
use Rattle.std.proofs.lemmas.List.Folds.{list_all-map, list_all-append}
use Rattle.std.proofs.lemmas.List.Elements.{All-nil, All-cons, All-head, All-tail}
use Rattle.std.specs.Prelude.{⊤, option_map}
use Rattle.std.specs.List.{All, list_all}
use Rattle.std.specs.Option.{option_to_list}
use Rattle.vtl_values.specs.declared.place.Place.{Place}
use Rattle.vtl_values.specs.declared.structure.Component.{Component}
use Rattle.vtl_syntax.specs.declared.words.BinaryFunction.{BinaryFunction}
use Rattle.vtl_syntax.specs.declared.words.BinaryFunction.TheVariants as function
use Rattle.vtl_syntax.specs.declared.words.JoinFunction.{JoinFunction}
use Rattle.vtl_syntax.specs.declared.expr.Clause.{Clause}
use Rattle.vtl_syntax.specs.declared.expr.Clause.TheOpen.{Expr-F, JoinOperand-F, SubstrRange-F}
use Rattle.vtl_syntax.specs.declared.expr.Expr.{Expr, roll-Expr, para-roll-Expr, ind-Expr}
use Rattle.vtl_syntax.specs.declared.expr.Groups.{Groups}
use Rattle.vtl_syntax.specs.declared.expr.Item.{Item}
use Rattle.vtl_syntax.specs.declared.expr.JoinOperand.{JoinOperand, roll-JoinOperand, fold-roll-JoinOperand, para-JoinOperand, para-roll-JoinOperand}
use Rattle.vtl_syntax.specs.declared.expr.SubstrRange.{SubstrRange, roll-SubstrRange, para-SubstrRange, para-roll-SubstrRange}
use Rattle.vtl_syntax.proofs.Maps.{maps-Join}
use Rattle.scalar_trees.specs.WellTyped.{in_range}
use Rattle.scalar_trees.specs.typing.Operators.{prefix_operator, unary_operator, or_operator, sum_operator, product_operator, comparison_operator}
use Rattle.scalar_trees.specs.declared.operators.BinaryOperator.TheVariants as binary
use Rattle.scalar_trees.specs.typing.Steps.{◌>>=◌}
use Rattle.scalar_trees.proofs.typing.Folds.{Trees}
use Rattle.scalar_trees.proofs.typing.Levels.{Family, Maps, over-Expr, over-JoinOperand, over-SubstrRange}
use Rattle.scalar_trees.proofs.typing.Sound.{both, left, right}
use Rattle.data_set_trees.specs.declared.form.Form.{Form}
use Rattle.data_set_trees.specs.declared.form.Form.TheVariants as form
use Rattle.data_set_trees.specs.declared.operand.DataSet.{DataSet}
use Rattle.data_set_trees.specs.declared.operand.Operand.{Operand}
use Rattle.data_set_trees.specs.declared.tree.Source.{Source}
use Rattle.expression_rules.specs.Expressions.{Naming, Typing, RangeTyping, all_typed, typings, on_operands, form_of_function, operation_of, difference_of, sorted, choice_of, join_aliases, clauses_of, typed_step, operand_step, range_step, typing, typed}
use Rattle.data_set_trees.specs.Exists.{exists_typed}
use Rattle.expression_rules.specs.JoinClauses.{join_typed}
use Rattle.data_set_trees.specs.Members.{member_typed}
use Rattle.expression_rules.specs.OnChecks.{check_typed}
use Rattle.expression_rules.specs.OnClauses.{on_clause}
use Rattle.expression_rules.specs.OnRules.{datapoint_called, hierarchy_called, on_datapoint, on_hierarchy, on_check_hierarchy}
use Rattle.expression_rules.specs.OnSets.{on_aggregate, on_window, on_offset, on_time, on_shift, on_fill}
use Rattle.data_set_trees.specs.Pairs.{lifted}
use Rattle.data_set_trees.specs.Sets.{sets_typed}
use Rattle.data_set_trees.specs.Trees.{SetAnswer}
use Rattle.fitting_trees.specs.Fitting.{IsFitting}
use Rattle.literal_ranges.specs.Ranges.{if_given, all_are, range_step as ranged, clause_range_step, item_range_step, operand_range_step, part_range_step, groups_range_step, literals_in_range, clause_in_range, groups_in_range, operand_in_range, part_in_range, ruleset_in_range}
use Rattle.fitting_trees.proofs.Joins.{join_typed-fits}
use Rattle.fitting_trees.proofs.Lifted.{form_in_range}
use Rattle.fitting_trees.proofs.Rows.{IsFit, Fits, lifted-fits, literal-fits, named-fits, sorted-fits, member-fits, exists-fits, sets_typed-fits, choice-fits, check_typed-fits, on_clause-fits, on_aggregate-fits, on_window-fits, on_offset-fits, on_time-fits, on_shift-fits, on_fill-fits, with_ruleset-fits, on_datapoint-fits, on_hierarchy-fits, on_check_hierarchy-fits}
use Rattle.fitting_trees.proofs.Rulesets.{datapoint-ranged, hierarchy-ranged}
use Rattle.fitting_trees.proofs.Scalars.{answered, Truths, ranges, level-in_range, part-in_range, gave}

function-ranged : (f : BinaryFunction) → form_in_range (form_of_function f) ≡ true
function-ranged function.Mod = refl
function-ranged function.Nvl = refl
function-ranged function.Instr = refl

-- each part as it is written, and what it is checked to be
abbrev Parts : Family
Parts = record { of_Clause = Clause × ⊤; of_Expr = Expr × Typing; of_Groups = Groups × ⊤; of_Item = Item × ⊤; of_JoinOperand = JoinOperand × Typing; of_SubstrRange = SubstrRange × RangeTyping }

abbrev range_typing : SubstrRange → RangeTyping
range_typing = para-SubstrRange ⊤ Typing ⊤ ⊤ Typing RangeTyping (λ clause. tt) typed_step (λ groups. tt) (λ item. tt) operand_step range_step

abbrev pair : Expr → Expr × Typing
pair e = (e, typing e)

abbrev operand_typing : JoinOperand → Typing
operand_typing = para-JoinOperand ⊤ Typing ⊤ ⊤ Typing RangeTyping (λ clause. tt) typed_step (λ groups. tt) (λ item. tt) operand_step range_step

abbrev operand_pair : JoinOperand → JoinOperand × Typing
operand_pair o = (o, operand_typing o)

abbrev clause_pair : Clause → Clause × ⊤
clause_pair c = (c, tt)

abbrev parts : Maps Trees Parts
parts = record {
  on_Clause = clause_pair;
  on_Expr = pair;
  on_Groups = λ g. (g, tt);
  on_Item = λ i. (i, tt);
  on_JoinOperand = operand_pair;
  on_SubstrRange = λ r. (r, range_typing r);
}

module _ (structures : Source → Option (List Component)) (among : Source → Type 0) (naming : Naming) (names : (name : List ℕ) (d : DataSet) → naming.data_set name ≡ Some d → IsFitting structures among d) (rulesets : list_all ruleset_in_range naming.rulesets ≡ true) where
  abbrev Fit : Operand → Type 0
  Fit o = IsFit structures among o

  abbrev FitsAll : SetAnswer → Type 0
  FitsAll answer = Fits structures among answer

  -- what it is checked to be fits
  abbrev Good : Typing → Type 0
  Good t = FitsAll (t naming)

  all_typed-fit : (ts : List Typing) → All Good ts → (os : List Operand) → all_typed ts naming ≡ Ok os → All Fit os
  all_typed-fit [] all os e = subst (All Fit) (answered [] os e) (All-nil Fit)
  all_typed-fit (t ∷ ts) all os e =
      let first = gave (t naming) (λ o. all_typed ts naming >>= (λ os. Ok (o ∷ os))) os e in
      let others = gave (all_typed ts naming) (λ os. Ok (first.0 ∷ os)) os first.2 in
      subst (All Fit) (answered (first.0 ∷ others.0) os others.2) (All-cons Fit first.0 others.0 (All-head Good t ts all first.0 first.1) (all_typed-fit ts (All-tail Good t ts all) others.0 others.1))

  -- after all of these
  after_all : (ts : List Typing) (next : List Operand → SetAnswer) → All Good ts → ((os : List Operand) → All Fit os → FitsAll (next os)) → FitsAll (all_typed ts naming >>= next)
  after_all ts next all then o e = let os = gave (all_typed ts naming) next o e in then os.0 (all_typed-fit ts all os.0 os.1) o os.2

  after_one : (t : Typing) (next : Operand → SetAnswer) → Good t → ((a : Operand) → Fit a → FitsAll (next a)) → FitsAll (t naming >>= next)
  after_one t next good then o e = let a = gave (t naming) next o e in then a.0 (good a.0 a.1) o a.2

  on_operands-fits : (f : Form) → form_in_range f ≡ true → (place : Place) (ts : List Typing) → All Good ts → FitsAll (on_operands f place ts naming)
  on_operands-fits f r place ts all = after_all ts (lifted f place) all (λ os fit. lifted-fits structures among f r place os fit)

  choice_of-fits : (place : Place) (os : List Operand) → All Fit os → FitsAll (choice_of place os)
  choice_of-fits place (c ∷ a ∷ b ∷ []) all = choice-fits structures among place c a b all
  choice_of-fits place _ all = λ o e. cc

  -- ---- one level

  abbrev GoodExpr : Expr → Type 0
  GoodExpr e = literals_in_range e ≡ true → Good (typing e)

  abbrev GoodRange : RangeTyping → Type 0
  GoodRange q = All Good (q.start ∷ option_to_list q.length)

  abbrev Such : Family
  Such = record { of_Clause = (c : Clause) × ⊤; of_Expr = (e : Expr) × GoodExpr e; of_Groups = (g : Groups) × ⊤; of_Item = (i : Item) × ⊤; of_JoinOperand = (o : JoinOperand) × (operand_in_range o ≡ true → Good (operand_typing o)); of_SubstrRange = (r : SubstrRange) × (part_in_range r ≡ true → GoodRange (range_typing r)) }

  abbrev firsts : Maps Such Trees
  firsts = record { on_Clause = λ s. s.0; on_Expr = λ s. s.0; on_Groups = λ s. s.0; on_Item = λ s. s.0; on_JoinOperand = λ s. s.0; on_SubstrRange = λ s. s.0 }

  abbrev SuchExpr : Type 0
  SuchExpr = Expr-F Such.of_Clause Such.of_Expr Such.of_Groups Such.of_Item Such.of_JoinOperand Such.of_SubstrRange

  abbrev SuchRange : Type 0
  SuchRange = SubstrRange-F Such.of_Clause Such.of_Expr Such.of_Groups Such.of_Item Such.of_JoinOperand Such.of_SubstrRange

  abbrev good : Such.of_Expr → Bool
  good a = literals_in_range a.0

  abbrev type_of : Such.of_Expr → Typing
  type_of a = typing a.0

  one-of : (a : Such.of_Expr) → good a ≡ true → All Good (type_of a ∷ [])
  one-of a r = All-cons Good (type_of a) [] (a.1 r) (All-nil Good)

  two-of : (a b : Such.of_Expr) → (good a && good b) ≡ true → All Good (type_of a ∷ type_of b ∷ [])
  two-of a b r = All-cons Good (type_of a) (type_of b ∷ []) (a.1 (left (good a) (good b) r)) (one-of b (right (good a) (good b) r))

  others-of : (es : List Such.of_Expr) → all_are (map literals_in_range (map (λ (a : Such.of_Expr). a.0) es)) ≡ true → All Good (typings (map pair (map (λ (a : Such.of_Expr). a.0) es)))
  others-of [] r = All-nil Good
  others-of (a ∷ es) r =
      let more = all_are (map literals_in_range (map (λ (b : Such.of_Expr). b.0) es)) in
      All-cons Good (type_of a) (typings (map pair (map (λ (b : Such.of_Expr). b.0) es))) (a.1 (left (good a) more r)) (others-of es (right (good a) more r))

  -- ---- joins

  abbrev firsts_of : List Such.of_JoinOperand → List JoinOperand
  firsts_of os = map (λ (o : Such.of_JoinOperand). o.0) os

  abbrev written : Option Such.of_Clause → Option Clause
  written u = option_map (λ (c : Such.of_Clause). c.0) u

  abbrev is_part_in_range : Clause × ⊤ → Bool
  is_part_in_range p = clause_in_range p.0

  each-operand : (os : List Such.of_JoinOperand) → all_are (map operand_in_range (firsts_of os)) ≡ true → All Good (map (λ (p : JoinOperand × Typing). p.1) (map operand_pair (firsts_of os)))
  each-operand [] r = All-nil Good
  each-operand (o ∷ os) r =
      let more = all_are (map operand_in_range (firsts_of os)) in
      All-cons Good (operand_typing o.0) (map (λ (p : JoinOperand × Typing). p.1) (map operand_pair (firsts_of os))) (o.1 (left (operand_in_range o.0) more r)) (each-operand os (right (operand_in_range o.0) more r))

  if_given-ranged : (u : Option Clause) → if_given (option_map clause_in_range u) ≡ true → list_all is_part_in_range (option_to_list (option_map (λ (c : Clause). (c, tt)) u)) ≡ true
  if_given-ranged None r = refl
  if_given-ranged (Some c) r = both (clause_in_range c) true r refl

  clauses-ranged : (u v w x : Option Clause) → (if_given (option_map clause_in_range u) && (if_given (option_map clause_in_range v) && (if_given (option_map clause_in_range w) && if_given (option_map clause_in_range x)))) ≡ true
      → list_all clause_in_range (clauses_of (option_map clause_pair u) (option_map clause_pair v) (option_map clause_pair w) (option_map clause_pair x)) ≡ true
  clauses-ranged u v w x r =
      let of = λ (c : Option Clause). if_given (option_map clause_in_range c) in
      let list = λ (c : Option Clause). option_to_list (option_map clause_pair c) in
      let all = list_all is_part_in_range in
      let second = right (of u) (of v && (of w && of x)) r in
      let third = right (of v) (of w && of x) second in
      list_all-map clause_in_range (λ (p : Clause × ⊤). p.0) (((list u ++ list v) ++ list w) ++ list x)
      ∙ list_all-append is_part_in_range ((list u ++ list v) ++ list w) (list x)
      ∙ both (all ((list u ++ list v) ++ list w)) (all (list x))
      (list_all-append is_part_in_range (list u ++ list v) (list w)
      ∙ both (all (list u ++ list v)) (all (list w))
      (list_all-append is_part_in_range (list u) (list v) ∙ both (all (list u)) (all (list v)) (if_given-ranged u (left (of u) (of v && (of w && of x)) r)) (if_given-ranged v (left (of v) (of w && of x) second)))
      (if_given-ranged w (left (of w) (of x) third)))
      (if_given-ranged x (right (of w) (of x) third))

  -- after the first of these, and the others
  after_some : (t : Typing) (ts : List Typing) (next : List Operand → SetAnswer) → All Good (t ∷ ts) → ((a : Operand) (os : List Operand) → All Fit (a ∷ os) → FitsAll (next (a ∷ os))) → FitsAll (all_typed (t ∷ ts) naming >>= next)
  after_some t ts next all then o e =
      let os = gave (all_typed (t ∷ ts) naming) next o e in
      let first = gave (t naming) (λ a. all_typed ts naming >>= (λ more. Ok (a ∷ more))) os.0 os.1 in
      let others = gave (all_typed ts naming) (λ more. Ok (first.0 ∷ more)) os.0 first.2 in
      let is : first.0 ∷ others.0 ≡ os.0 = answered (first.0 ∷ others.0) os.0 others.2 in
      then first.0 others.0 (subst (All Fit) (sym is) (all_typed-fit (t ∷ ts) all os.0 os.1)) o (ap next is ∙ os.2)

  join-fits : (f : JoinFunction) (a b : Such.of_JoinOperand) (os : List Such.of_JoinOperand) (u v w x : Option Clause) (place : Place)
      → ((operand_in_range a.0 && (operand_in_range b.0 && all_are (map operand_in_range (firsts_of os)))) && (if_given (option_map clause_in_range u) && (if_given (option_map clause_in_range v) && (if_given (option_map clause_in_range w) && if_given (option_map clause_in_range x))))) ≡ true
      → FitsAll (typed_step (Expr-F.Join f (operand_pair a.0) (operand_pair b.0) (map operand_pair (firsts_of os)) (option_map clause_pair u) (option_map clause_pair v) (option_map clause_pair w) (option_map clause_pair x) place) naming)
  join-fits f a b os u v w x place r =
      let first = operand_in_range a.0 in
      let second = operand_in_range b.0 in
      let more = all_are (map operand_in_range (firsts_of os)) in
      let clauses = if_given (option_map clause_in_range u) && (if_given (option_map clause_in_range v) && (if_given (option_map clause_in_range w) && if_given (option_map clause_in_range x))) in
      let operands = left (first && (second && more)) clauses r in
      let others = right first (second && more) operands in
      let rest = map (λ (p : JoinOperand × Typing). p.1) (map operand_pair (firsts_of os)) in
      let good_ones = All-cons Good (operand_typing a.0) (operand_typing b.0 ∷ rest) (a.1 (left first (second && more) operands)) (All-cons Good (operand_typing b.0) rest (b.1 (left second more others)) (each-operand os (right second more others))) in
      let aliases = join_aliases (operand_pair a.0) (operand_pair b.0) (map operand_pair (firsts_of os)) in
      let cs = clauses_of (option_map clause_pair u) (option_map clause_pair v) (option_map clause_pair w) (option_map clause_pair x) in
      after_some (operand_typing a.0) (operand_typing b.0 ∷ rest) (join_typed f place aliases cs) good_ones
      (λ c more_of fit. join_typed-fits structures among f place aliases cs (clauses-ranged u v w x (right (first && (second && more)) clauses r)) c more_of fit)

  join-level : (f : JoinFunction) (a b : Such.of_JoinOperand) (os : List Such.of_JoinOperand) (u v w x : Option Such.of_Clause) (place : Place)
      → ranged (over-Expr {X = Trees} {Y = Truths} ranges (over-Expr {X = Such} {Y = Trees} firsts (Expr-F.Join f a b os u v w x place))) ≡ true
      → FitsAll (typed_step (over-Expr {X = Trees} {Y = Parts} parts (over-Expr {X = Such} {Y = Trees} firsts (Expr-F.Join f a b os u v w x place))) naming)
  join-level f a b os u v w x place r =
      let whole : Expr-F Clause Expr Groups Item JoinOperand SubstrRange = Expr-F.Join f a.0 b.0 (firsts_of os) (written u) (written v) (written w) (written x) place in
      let is : over-Expr {X = Such} {Y = Trees} firsts (Expr-F.Join f a b os u v w x place) ≡ whole =
      maps-Join Such.of_Clause Such.of_Expr Such.of_Groups Such.of_Item Such.of_JoinOperand Such.of_SubstrRange Clause Expr Groups Item JoinOperand SubstrRange firsts.on_Clause firsts.on_Expr firsts.on_Groups firsts.on_Item firsts.on_JoinOperand firsts.on_SubstrRange f a b os u v w x place in
      let truths = maps-Join Clause Expr Groups Item JoinOperand SubstrRange Bool Bool Bool Bool Bool Bool ranges.on_Clause ranges.on_Expr ranges.on_Groups ranges.on_Item ranges.on_JoinOperand ranges.on_SubstrRange f a.0 b.0 (firsts_of os) (written u) (written v) (written w) (written x) place in
      let typings = maps-Join Clause Expr Groups Item JoinOperand SubstrRange (Clause × ⊤) (Expr × Typing) (Groups × ⊤) (Item × ⊤) (JoinOperand × Typing) (SubstrRange × RangeTyping) parts.on_Clause parts.on_Expr parts.on_Groups parts.on_Item parts.on_JoinOperand parts.on_SubstrRange f a.0 b.0 (firsts_of os) (written u) (written v) (written w) (written x) place in
      subst (λ l. FitsAll (typed_step l naming)) (sym (ap (over-Expr {X = Trees} {Y = Parts} parts) is ∙ typings))
      (join-fits f a b os (written u) (written v) (written w) (written x) place (sym (ap ranged (ap (over-Expr {X = Trees} {Y = Truths} ranges) is ∙ truths)) ∙ r))

  level : (y : SuchExpr) → ranged (over-Expr {X = Trees} {Y = Truths} ranges (over-Expr {X = Such} {Y = Trees} firsts y)) ≡ true → FitsAll (typed_step (over-Expr {X = Trees} {Y = Parts} parts (over-Expr {X = Such} {Y = Trees} firsts y)) naming)
  level (Expr-F.Literal v place) r = literal-fits structures among v r
  level (Expr-F.Name name place) r = named-fits structures among (naming.data_set name) place (names name)
  level (Expr-F.Bracket a place) r = a.1 r
  level (Expr-F.Signed sign a place) r = on_operands-fits (form.Unary (prefix_operator sign)) refl place (type_of a ∷ []) (one-of a r)
  level (Expr-F.Unary f a place) r = on_operands-fits (form.Unary (unary_operator f)) refl place (type_of a ∷ []) (one-of a r)
  level (Expr-F.Or a sign b place) r = on_operands-fits (form.Binary (or_operator sign)) refl place (type_of a ∷ type_of b ∷ []) (two-of a b r)
  level (Expr-F.And a b place) r = on_operands-fits (form.Binary binary.And) refl place (type_of a ∷ type_of b ∷ []) (two-of a b r)
  level (Expr-F.Compare a sign b place) r = on_operands-fits (form.Binary (comparison_operator sign)) refl place (type_of a ∷ type_of b ∷ []) (two-of a b r)
  level (Expr-F.Sum a sign b place) r = on_operands-fits (form.Binary (sum_operator sign)) refl place (type_of a ∷ type_of b ∷ []) (two-of a b r)
  level (Expr-F.Product a sign b place) r = on_operands-fits (form.Binary (product_operator sign)) refl place (type_of a ∷ type_of b ∷ []) (two-of a b r)
  level (Expr-F.Binary f a b place) r = on_operands-fits (form_of_function f) (function-ranged f) place (type_of a ∷ type_of b ∷ []) (two-of a b r)
  level (Expr-F.In a sign set place) r = on_operands-fits (form.In sign set) (right (good a) (list_all in_range set) r) place (type_of a ∷ []) (one-of a (left (good a) (list_all in_range set) r))
  level (Expr-F.Between a low high place) r = on_operands-fits (form.Between low high) (right (good a) (in_range low && in_range high) r) place (type_of a ∷ []) (one-of a (left (good a) (in_range low && in_range high) r))
  level (Expr-F.Round f a digits place) r = on_operands-fits (form.Round f digits) refl place (type_of a ∷ []) (one-of a r)
  level (Expr-F.MatchCharacters a pattern place) r = on_operands-fits (form.Matches pattern) refl place (type_of a ∷ []) (one-of a r)
  level (Expr-F.Substr a None place) r = on_operands-fits form.Substr refl place (type_of a ∷ []) (one-of a (left (good a) true r))
  level (Expr-F.Substr a (Some range) place) r =
      let q = range_typing range.0 in
      let rest = q.start ∷ option_to_list q.length in
      on_operands-fits form.Substr refl place (type_of a ∷ rest) (All-cons Good (type_of a) rest (a.1 (left (good a) (part_in_range range.0) r)) (range.1 (right (good a) (part_in_range range.0) r)))
  level (Expr-F.Replace a old None place) r =
      let others = right (good a) (good old && true) r in
      on_operands-fits form.Replace refl place (type_of a ∷ type_of old ∷ []) (All-cons Good (type_of a) (type_of old ∷ []) (a.1 (left (good a) (good old && true) r)) (one-of old (left (good old) true others)))
  level (Expr-F.Replace a old (Some by) place) r =
      on_operands-fits form.Replace refl place (type_of a ∷ type_of old ∷ type_of by ∷ []) (All-cons Good (type_of a) (type_of old ∷ type_of by ∷ []) (a.1 (left (good a) (good old && good by) r)) (two-of old by (right (good a) (good old && good by) r)))
  level (Expr-F.If c a b place) r =
      after_all (type_of c ∷ type_of a ∷ type_of b ∷ []) (choice_of place) (All-cons Good (type_of c) (type_of a ∷ type_of b ∷ []) (c.1 (left (good c) (good a && good b) r)) (two-of a b (right (good c) (good a && good b) r))) (choice_of-fits place)
  level (Expr-F.Typed sort a place) r = after_one (type_of a) (sorted sort place) (a.1 r) (sorted-fits structures among sort place)
  level (Expr-F.Member a name place) r = after_one (type_of a) (member_typed name place) (a.1 r) (member-fits structures among name place)
  level (Expr-F.Clause a clause place) r = after_one (type_of a) (on_clause clause.0) (a.1 (left (good a) (clause_in_range clause.0) r)) (on_clause-fits structures among clause.0 (right (good a) (clause_in_range clause.0) r))
  level (Expr-F.ExistsIn a b rows place) r =
      after_one (type_of a) (λ x. typing b.0 naming >>= exists_typed rows place x) (a.1 (left (good a) (good b) r))
      (λ x h. after_one (type_of b) (exists_typed rows place x) (b.1 (right (good a) (good b) r)) (λ y i. exists-fits structures among rows place x y h i))
  level (Expr-F.Sets f a b others place) r =
      let more = all_are (map literals_in_range (map (λ (c : Such.of_Expr). c.0) others)) in
      let rest = typings (map pair (map (λ (c : Such.of_Expr). c.0) others)) in
      let tail = right (good a) (good b && more) r in
      after_all (type_of a ∷ type_of b ∷ rest) (sets_typed (operation_of f) place)
      (All-cons Good (type_of a) (type_of b ∷ rest) (a.1 (left (good a) (good b && more) r)) (All-cons Good (type_of b) rest (b.1 (left (good b) more tail)) (others-of others (right (good b) more tail))))
      (sets_typed-fits structures among (operation_of f) place)
  level (Expr-F.Join f a b others filter calc keep rename place) r = join-level f a b others filter calc keep rename place r
  level (Expr-F.Difference f a b place) r = after_all (type_of a ∷ type_of b ∷ []) (sets_typed (difference_of f) place) (two-of a b r) (sets_typed-fits structures among (difference_of f) place)
  level (Expr-F.Aggregate f a None place) r = after_one (type_of a) (on_aggregate f None place) (a.1 (left (good a) true r)) (on_aggregate-fits structures among f None place refl)
  level (Expr-F.Aggregate f a (Some g) place) r =
      after_one (type_of a) (on_aggregate f (Some g.0) place) (a.1 (left (good a) (groups_in_range g.0) r)) (on_aggregate-fits structures among f (Some g.0) place (right (good a) (groups_in_range g.0) r))
  level (Expr-F.Window f a over place) r = after_one (type_of a) (on_window f over place) (a.1 r) (on_window-fits structures among f over place)
  level (Expr-F.Offset f a offset over place) r = after_one (type_of a) (on_offset f offset over place) (a.1 r) (on_offset-fits structures among f offset over place)
  level (Expr-F.CheckDatapoint a rules rules_place output place) r =
      with_ruleset-fits structures among (datapoint_called naming.rulesets rules) rules_place (λ q. typing a.0 naming >>= on_datapoint output place q)
      (λ q is. after_one (type_of a) (on_datapoint output place q) (a.1 r) (on_datapoint-fits structures among output place q (datapoint-ranged naming.rulesets rules q rulesets is)))
  level (Expr-F.Hierarchy a rules rules_place component mode input output place) r =
      with_ruleset-fits structures among (hierarchy_called naming.rulesets rules) rules_place (λ q. typing a.0 naming >>= on_hierarchy component mode input output place q)
      (λ q is. after_one (type_of a) (on_hierarchy component mode input output place q) (a.1 r) (on_hierarchy-fits structures among component mode input output place q (hierarchy-ranged naming.rulesets rules q rulesets is)))
  level (Expr-F.CheckHierarchy a rules rules_place component mode input output place) r =
      with_ruleset-fits structures among (hierarchy_called naming.rulesets rules) rules_place (λ q. typing a.0 naming >>= on_check_hierarchy component mode input output place q)
      (λ q is. after_one (type_of a) (on_check_hierarchy component mode input output place q) (a.1 r) (on_check_hierarchy-fits structures among component mode input output place q (hierarchy-ranged naming.rulesets rules q rulesets is)))
  level (Expr-F.Check a code severity None output place) r =
      after_all (type_of a ∷ []) (check_typed (record { code = code; level = severity }) output place) (one-of a (left (good a) true r)) (check_typed-fits structures among (record { code = code; level = severity }) output place)
  level (Expr-F.Check a code severity (Some b) output place) r =
      after_all (type_of a ∷ type_of b ∷ []) (check_typed (record { code = code; level = severity }) output place) (two-of a b r) (check_typed-fits structures among (record { code = code; level = severity }) output place)
  level (Expr-F.Time f a place) r = after_one (type_of a) (on_time f place) (a.1 r) (on_time-fits structures among f place)
  level (Expr-F.Timeshift a shift place) r = after_one (type_of a) (on_shift shift place) (a.1 r) (on_shift-fits structures among shift place)
  level (Expr-F.FillTimeSeries a span place) r = after_one (type_of a) (on_fill span place) (a.1 r) (on_fill-fits structures among span place)
  level _ r = λ o e. cc

  -- ---- whole expressions

  at : (y : SuchExpr) → GoodExpr (roll-Expr (over-Expr {X = Such} {Y = Trees} firsts y))
  at y r =
      let x = over-Expr {X = Such} {Y = Trees} firsts y in
      subst Good (sym (para-roll-Expr ⊤ Typing ⊤ ⊤ Typing RangeTyping (λ clause. tt) typed_step (λ groups. tt) (λ item. tt) operand_step range_step x)) (level y (sym (level-in_range x) ∙ r))

  range_at : (y : SuchRange) → GoodRange (range_step (over-SubstrRange {X = Trees} {Y = Parts} parts (over-SubstrRange {X = Such} {Y = Trees} firsts y))) → GoodRange (range_typing (roll-SubstrRange (over-SubstrRange {X = Such} {Y = Trees} firsts y)))
  range_at y h =
      let x = over-SubstrRange {X = Such} {Y = Trees} firsts y in
      subst GoodRange (sym (para-roll-SubstrRange ⊤ Typing ⊤ ⊤ Typing RangeTyping (λ clause. tt) typed_step (λ groups. tt) (λ item. tt) operand_step range_step x)) h

  range : (start : Such.of_Expr) (length : Option Such.of_Expr) (place : Place) → part_in_range (roll-SubstrRange (over-SubstrRange {X = Such} {Y = Trees} firsts (record { start = start; length = length; place = place }))) ≡ true → GoodRange (range_typing (roll-SubstrRange (over-SubstrRange {X = Such} {Y = Trees} firsts (record { start = start; length = length; place = place }))))
  range start None place r =
      let y : SuchRange = record { start = start; length = None; place = place } in
      let own = sym (part-in_range (over-SubstrRange {X = Such} {Y = Trees} firsts y)) ∙ r in
      range_at y (one-of start (left (good start) true own))
  range start (Some s) place r =
      let y : SuchRange = record { start = start; length = Some s; place = place } in
      let own = sym (part-in_range (over-SubstrRange {X = Such} {Y = Trees} firsts y)) ∙ r in
      range_at y (two-of start s own)

  operand_at : (y : JoinOperand-F Such.of_Clause Such.of_Expr Such.of_Groups Such.of_Item Such.of_JoinOperand Such.of_SubstrRange) → operand_in_range (roll-JoinOperand (over-JoinOperand {X = Such} {Y = Trees} firsts y)) ≡ true → Good (operand_typing (roll-JoinOperand (over-JoinOperand {X = Such} {Y = Trees} firsts y)))
  operand_at y r =
      let x = over-JoinOperand {X = Such} {Y = Trees} firsts y in
      let own = sym (fold-roll-JoinOperand Bool Bool Bool Bool Bool Bool clause_range_step ranged groups_range_step item_range_step operand_range_step part_range_step x) ∙ r in
      subst Good (sym (para-roll-JoinOperand ⊤ Typing ⊤ ⊤ Typing RangeTyping (λ clause. tt) typed_step (λ groups. tt) (λ item. tt) operand_step range_step x)) (y.expr.1 own)

  pub typed-fits : (e : Expr) → literals_in_range e ≡ true → (o : Operand) → typed naming e ≡ Ok o → IsFit structures among o
  typed-fits e =
      ind-Expr (λ c. ⊤) GoodExpr (λ g. ⊤) (λ i. ⊤) (λ o. operand_in_range o ≡ true → Good (operand_typing o)) (λ r. part_in_range r ≡ true → GoodRange (range_typing r))
      (λ x y is. tt)
      (λ x y is. subst (λ (w : Expr-F Clause Expr Groups Item JoinOperand SubstrRange). GoodExpr (roll-Expr w)) is (at y))
      (λ x y is. tt)
      (λ x y is. tt)
      (λ x y is. subst (λ (w : JoinOperand-F Clause Expr Groups Item JoinOperand SubstrRange). operand_in_range (roll-JoinOperand w) ≡ true → Good (operand_typing (roll-JoinOperand w))) is (operand_at y))
      (λ x y is. subst (λ (w : SubstrRange-F Clause Expr Groups Item JoinOperand SubstrRange). part_in_range (roll-SubstrRange w) ≡ true → GoodRange (range_typing (roll-SubstrRange w))) is (range y.start y.length y.place))
      e
