-- What an expression is checked to be, from what stands in it.
use Rattle.std.proofs.Common.{◌≡◌, ℕ, List, [], ◌∷◌, Option, Some, None, Result, refl, map, sym, ap, subst, ◌∙◌}
use Rattle.std.specs.Prelude.{ℤ, ⊤, ◌++◌}
use Rattle.std.proofs.lemmas.List.{map-append}
use Rattle.std.specs.Option.{option_map, option_to_list}
use Rattle.vtl_syntax.proofs.Maps.{maps-Substr, maps-Replace, maps-Join, maps-Aggregate, maps-Check, range_maps}
use Rattle.vtl_syntax.specs.declared.words.AggregateFunction.{AggregateFunction}
use Rattle.vtl_syntax.specs.declared.words.CheckOutput.{CheckOutput}
use Rattle.vtl_syntax.specs.declared.words.JoinFunction.{JoinFunction}
use Rattle.vtl_syntax.specs.declared.words.SetFunction.{SetFunction}
use Rattle.data_set_trees.specs.Joins.{alias_of}
use Rattle.expression_rules.specs.OnChecks.{check_typed}
use Rattle.expression_rules.specs.OnSets.{on_aggregate}
use Rattle.expression_rules.specs.JoinClauses.{join_typed}
use Rattle.data_set_trees.specs.Sets.{sets_typed}
use Rattle.vtl_values.specs.declared.place.Place.{Place}
use Rattle.vtl_syntax.specs.declared.expr.Clause.TheOpen.{Expr-F}
use Rattle.vtl_syntax.specs.declared.expr.Clause.{Clause}
use Rattle.vtl_syntax.specs.declared.expr.Expr.{Expr, roll-Expr, map-Expr, para-roll-Expr}
use Rattle.vtl_syntax.specs.declared.expr.Groups.{Groups}
use Rattle.vtl_syntax.specs.declared.expr.Item.{Item}
use Rattle.vtl_syntax.specs.declared.expr.JoinOperand.{JoinOperand, out-JoinOperand, roll-out-JoinOperand, para-JoinOperand, para-roll-JoinOperand}
use Rattle.vtl_syntax.specs.declared.expr.SubstrRange.{SubstrRange, out-SubstrRange, roll-out-SubstrRange, map-SubstrRange, para-SubstrRange, para-roll-SubstrRange}
use Rattle.scalar_trees.specs.declared.typing.stop.TypeStop.{TypeStop}
use Rattle.data_set_trees.specs.declared.operand.Operand.{Operand}
use Rattle.expression_rules.specs.Expressions.{Naming, Typing, RangeTyping, Level, typed_step, on_operands, operation_of, range_typings, typings, clauses_of, operand_step, range_step, typing, typed}
use Rattle.data_set_trees.specs.declared.form.Form.TheVariants as form
use Rattle.data_set_trees.specs.Trees.{SetAnswer}
use Rattle.statement_typing.specs.Joins.{clauses_in, typing_of, join_on}
use Rattle.statement_typing.specs.Parts.{Answers, of_optional, of_range, of_optional_range, after_one, after_all}

abbrev pub operand_typing : JoinOperand → Typing
operand_typing = para-JoinOperand ⊤ Typing ⊤ ⊤ Typing RangeTyping (λ clause. tt) typed_step (λ groups. tt) (λ item. tt) operand_step range_step

abbrev pub range_typing : SubstrRange → RangeTyping
range_typing = para-SubstrRange ⊤ Typing ⊤ ⊤ Typing RangeTyping (λ clause. tt) typed_step (λ groups. tt) (λ item. tt) operand_step range_step

-- one level, with each part as it is written and what it is checked to be
abbrev pub level_of : Expr-F Clause Expr Groups Item JoinOperand SubstrRange → Level
level_of x =
    map-Expr Clause Expr Groups Item JoinOperand SubstrRange (Clause × ⊤) (Expr × Typing) (Groups × ⊤) (Item × ⊤) (JoinOperand × Typing) (SubstrRange × RangeTyping)
    (λ c. (c, tt)) (λ e. (e, typing e)) (λ g. (g, tt)) (λ i. (i, tt)) (λ o. (o, operand_typing o)) (λ r. (r, range_typing r)) x

pub typed_level : (naming : Naming) (x : Expr-F Clause Expr Groups Item JoinOperand SubstrRange) (e : Expr) → roll-Expr x ≡ e → typed_step (level_of x) naming ≡ typed naming e
typed_level naming x e is =
    ap (λ (t : Typing). t naming) (sym (para-roll-Expr ⊤ Typing ⊤ ⊤ Typing RangeTyping (λ clause. tt) typed_step (λ groups. tt) (λ item. tt) operand_step range_step x)) ∙ ap (typed naming) is

-- what is answered of one level
pub answers_level : (naming : Naming) (x : Expr-F Clause Expr Groups Item JoinOperand SubstrRange) (e : Expr) (m : SetAnswer) (r : Result Operand TypeStop) → roll-Expr x ≡ e → m ≡ typed_step (level_of x) naming → Answers m r → Answers (typed naming e) r
answers_level naming x e m r is same a = subst (λ (q : SetAnswer). Answers q r) (same ∙ typed_level naming x e is) a

-- ---- parts that may be left out

abbrev part : Expr → Expr × Typing
part e = (e, typing e)

abbrev clause_part : Clause → Clause × ⊤
clause_part c = (c, tt)

abbrev groups_part : Groups → Groups × ⊤
groups_part g = (g, tt)

abbrev item_part : Item → Item × ⊤
item_part i = (i, tt)

abbrev operand_part : JoinOperand → JoinOperand × Typing
operand_part o = (o, operand_typing o)

abbrev range_part : SubstrRange → SubstrRange × RangeTyping
range_part r = (r, range_typing r)

optional_is : (e : Option Expr) → option_to_list (option_map (λ (p : Expr × Typing). p.1) (option_map part e)) ≡ of_optional e
optional_is None = refl
optional_is (Some e) = refl

typings_are : (e : Option Expr) → typings (option_to_list (option_map part e)) ≡ of_optional e
typings_are None = refl
typings_are (Some e) = refl

range_is : (r : SubstrRange) → (range_typing r).start ∷ option_to_list (range_typing r).length ≡ of_range r
range_is r =
    let o = out-SubstrRange r in
    let told : RangeTyping → List Typing = λ q. q.start ∷ option_to_list q.length in
    let level = map-SubstrRange Clause Expr Groups Item JoinOperand SubstrRange (Clause × ⊤) (Expr × Typing) (Groups × ⊤) (Item × ⊤) (JoinOperand × Typing) (SubstrRange × RangeTyping) clause_part part groups_part item_part operand_part range_part o in
    let same : range_typing r ≡ range_step level = ap range_typing (sym (roll-out-SubstrRange r)) ∙ para-roll-SubstrRange ⊤ Typing ⊤ ⊤ Typing RangeTyping (λ clause. tt) typed_step (λ groups. tt) (λ item. tt) operand_step range_step o in
    ap told same
    ∙ ap (λ l. told (range_step l)) (range_maps Clause Expr Groups Item JoinOperand SubstrRange (Clause × ⊤) (Expr × Typing) (Groups × ⊤) (Item × ⊤) (JoinOperand × Typing) (SubstrRange × RangeTyping) clause_part part groups_part item_part operand_part range_part o.start o.length o.place)
    ∙ ap (λ (ts : List Typing). typing o.start ∷ ts) (optional_is o.length)

ranges_are : (r : Option SubstrRange) → range_typings (option_map range_part r) ≡ of_optional_range r
ranges_are None = refl
ranges_are (Some r) = range_is r

module _ (naming : Naming) where
  pub substr_level : (a : Expr) (r : Option SubstrRange) (p : Place) → on_operands form.Substr p (typing a ∷ of_optional_range r) naming ≡ typed_step (level_of (Expr-F.Substr a r p)) naming
  substr_level a r p =
      ap (λ (ts : List Typing). on_operands form.Substr p (typing a ∷ ts) naming) (sym (ranges_are r))
      ∙ ap (λ (l : Level). typed_step l naming) (sym (maps-Substr Clause Expr Groups Item JoinOperand SubstrRange (Clause × ⊤) (Expr × Typing) (Groups × ⊤) (Item × ⊤) (JoinOperand × Typing) (SubstrRange × RangeTyping) clause_part part groups_part item_part operand_part range_part a r p))

  pub replace_level : (a b : Expr) (e : Option Expr) (p : Place) → on_operands form.Replace p (typing a ∷ typing b ∷ of_optional e) naming ≡ typed_step (level_of (Expr-F.Replace a b e p)) naming
  replace_level a b e p =
      ap (λ (ts : List Typing). on_operands form.Replace p (typing a ∷ typing b ∷ ts) naming) (sym (typings_are e))
      ∙ ap (λ (l : Level). typed_step l naming) (sym (maps-Replace Clause Expr Groups Item JoinOperand SubstrRange (Clause × ⊤) (Expr × Typing) (Groups × ⊤) (Item × ⊤) (JoinOperand × Typing) (SubstrRange × RangeTyping) clause_part part groups_part item_part operand_part range_part a b e p))

  listed : (es : List Expr) → map typing es ≡ typings (map part es)
  listed [] = refl
  listed (e ∷ es) = ap (λ (ts : List Typing). typing e ∷ ts) (listed es)

  pub sets_level : (f : SetFunction) (a b : Expr) (es : List Expr) (p : Place) → after_all naming (typing a ∷ typing b ∷ map typing es) (sets_typed (operation_of f) p) ≡ typed_step (level_of (Expr-F.Sets f a b es p)) naming
  sets_level f a b es p = ap (λ (ts : List Typing). after_all naming (typing a ∷ typing b ∷ ts) (sets_typed (operation_of f) p)) (listed es)

  operand_is : (o : JoinOperand) → typing_of o ≡ operand_typing o
  operand_is o =
      let x = out-JoinOperand o in
      sym (ap operand_typing (sym (roll-out-JoinOperand o)) ∙ para-roll-JoinOperand ⊤ Typing ⊤ ⊤ Typing RangeTyping (λ clause. tt) typed_step (λ groups. tt) (λ item. tt) operand_step range_step x)

  operands_are : (os : List JoinOperand) → map typing_of os ≡ map (λ (p : JoinOperand × Typing). p.1) (map operand_part os)
  operands_are [] = refl
  operands_are (o ∷ os) = λ i. operand_is o i ∷ operands_are os i

  aliases_are : (os : List JoinOperand) → map alias_of os ≡ map (λ (p : JoinOperand × Typing). alias_of p.0) (map operand_part os)
  aliases_are [] = refl
  aliases_are (o ∷ os) = ap (λ (names : List (Option (List ℕ))). alias_of o ∷ names) (aliases_are os)

  listed_one : (u : Option Clause) → option_to_list u ≡ map (λ (p : Clause × ⊤). p.0) (option_to_list (option_map clause_part u))
  listed_one None = refl
  listed_one (Some c) = refl

  clauses_are : (u v w x : Option Clause) → clauses_in u v w x ≡ clauses_of (option_map clause_part u) (option_map clause_part v) (option_map clause_part w) (option_map clause_part x)
  clauses_are u v w x =
      let first = λ (p : Clause × ⊤). p.0 in
      let list = λ (c : Option Clause). option_to_list (option_map clause_part c) in
      (λ i. ((listed_one u i ++ listed_one v i) ++ listed_one w i) ++ listed_one x i)
      ∙ (λ i. (sym (map-append first (list u) (list v)) i ++ map first (list w)) ++ map first (list x))
      ∙ (λ i. sym (map-append first (list u ++ list v) (list w)) i ++ map first (list x))
      ∙ sym (map-append first ((list u ++ list v) ++ list w) (list x))

  pub join_level : (f : JoinFunction) (a b : JoinOperand) (cs : List JoinOperand) (u v w x : Option Clause) (p : Place) → join_on naming f p a b cs (clauses_in u v w x) ≡ typed_step (level_of (Expr-F.Join f a b cs u v w x p)) naming
  join_level f a b cs u v w x p =
      (λ i. after_all naming (operands_are (a ∷ b ∷ cs) i) (join_typed f p (aliases_are (a ∷ b ∷ cs) i) (clauses_are u v w x i)))
      ∙ ap (λ (l : Level). typed_step l naming) (sym (maps-Join Clause Expr Groups Item JoinOperand SubstrRange (Clause × ⊤) (Expr × Typing) (Groups × ⊤) (Item × ⊤) (JoinOperand × Typing) (SubstrRange × RangeTyping) clause_part part groups_part item_part operand_part range_part f a b cs u v w x p))

  groups_are : (g : Option Groups) → g ≡ option_map (λ (h : Groups × ⊤). h.0) (option_map groups_part g)
  groups_are None = refl
  groups_are (Some g) = refl

  pub aggregate_level : (f : AggregateFunction) (a : Expr) (g : Option Groups) (p : Place) → after_one naming a (on_aggregate f g p) ≡ typed_step (level_of (Expr-F.Aggregate f a g p)) naming
  aggregate_level f a g p =
      ap (λ (h : Option Groups). after_one naming a (on_aggregate f h p)) (groups_are g)
      ∙ ap (λ (l : Level). typed_step l naming) (sym (maps-Aggregate Clause Expr Groups Item JoinOperand SubstrRange (Clause × ⊤) (Expr × Typing) (Groups × ⊤) (Item × ⊤) (JoinOperand × Typing) (SubstrRange × RangeTyping) clause_part part groups_part item_part operand_part range_part f a g p))

  pub check_level : (a : Expr) (code : Option (List ℕ)) (level : Option ℤ) (e : Option Expr) (output : Option CheckOutput) (p : Place) → after_all naming (typing a ∷ of_optional e) (check_typed (record { code = code; level = level }) output p) ≡ typed_step (level_of (Expr-F.Check a code level e output p)) naming
  check_level a code level e output p =
      ap (λ (ts : List Typing). after_all naming (typing a ∷ ts) (check_typed (record { code = code; level = level }) output p)) (sym (typings_are e))
      ∙ ap (λ (l : Level). typed_step l naming) (sym (maps-Check Clause Expr Groups Item JoinOperand SubstrRange (Clause × ⊤) (Expr × Typing) (Groups × ⊤) (Item × ⊤) (JoinOperand × Typing) (SubstrRange × RangeTyping) clause_part part groups_part item_part operand_part range_part a code level e output p))
