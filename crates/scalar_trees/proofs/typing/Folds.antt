-- What an expression is checked to be and what it is resolved to, level by level.
use Rattle.std.proofs.Common.{◌≡◌, Option, Some, None, sym, ap, subst, ◌∙◌}
use Rattle.std.specs.Prelude.{⊤}
use Rattle.vtl_values.specs.declared.place.Place.{Place}
use Rattle.vtl_syntax.specs.declared.expr.Clause.TheOpen.{Expr-F, JoinOperand-F, SubstrRange-F}
use Rattle.vtl_syntax.specs.declared.expr.Clause.{Clause, fold-Clause}
use Rattle.vtl_syntax.specs.declared.expr.Expr.{Expr, roll-Expr, fold-roll-Expr, ind-Expr}
use Rattle.vtl_syntax.specs.declared.expr.Groups.{Groups, fold-Groups}
use Rattle.vtl_syntax.specs.declared.expr.Item.{Item, fold-Item}
use Rattle.vtl_syntax.specs.declared.expr.JoinOperand.{JoinOperand, roll-JoinOperand, fold-JoinOperand, fold-roll-JoinOperand}
use Rattle.vtl_syntax.specs.declared.expr.SubstrRange.{SubstrRange, roll-SubstrRange, fold-SubstrRange, fold-roll-SubstrRange}
use Rattle.scalar_trees.proofs.typing.Levels.{Family, Maps, over-Expr, twice-Expr, over-JoinOperand, over-SubstrRange}
use Rattle.scalar_trees.specs.typing.Scalars.{Meaning, RangeMeaning, clause_place, step, operand_step, range_step, meaning, operand_meaning}
use Rattle.scalar_trees.specs.typing.Resolved.{Part, RangePart, part_step, part_operand, part_range, part}

abbrev pub Trees : Family
Trees = record { of_Clause = Clause; of_Expr = Expr; of_Groups = Groups; of_Item = Item; of_JoinOperand = JoinOperand; of_SubstrRange = SubstrRange }

abbrev pub Meanings : Family
Meanings = record { of_Clause = Place; of_Expr = Meaning; of_Groups = ⊤; of_Item = ⊤; of_JoinOperand = Meaning; of_SubstrRange = RangeMeaning }

abbrev pub Parts : Family
Parts = record { of_Clause = ⊤; of_Expr = Part; of_Groups = ⊤; of_Item = ⊤; of_JoinOperand = Part; of_SubstrRange = RangePart }

abbrev clause_meaning : Clause → Place
clause_meaning = fold-Clause Place Meaning ⊤ ⊤ Meaning RangeMeaning clause_place step (λ groups. tt) (λ item. tt) operand_step range_step

abbrev range_meaning : SubstrRange → RangeMeaning
range_meaning = fold-SubstrRange Place Meaning ⊤ ⊤ Meaning RangeMeaning clause_place step (λ groups. tt) (λ item. tt) operand_step range_step

abbrev operand_part : JoinOperand → Part
operand_part = fold-JoinOperand ⊤ Part ⊤ ⊤ Part RangePart (λ clause. tt) part_step (λ groups. tt) (λ item. tt) part_operand part_range

abbrev range_part : SubstrRange → RangePart
range_part = fold-SubstrRange ⊤ Part ⊤ ⊤ Part RangePart (λ clause. tt) part_step (λ groups. tt) (λ item. tt) part_operand part_range

abbrev groups_meaning : Groups → ⊤
groups_meaning = fold-Groups Place Meaning ⊤ ⊤ Meaning RangeMeaning clause_place step (λ groups. tt) (λ item. tt) operand_step range_step

abbrev item_meaning : Item → ⊤
item_meaning = fold-Item Place Meaning ⊤ ⊤ Meaning RangeMeaning clause_place step (λ groups. tt) (λ item. tt) operand_step range_step

abbrev clause_part : Clause → ⊤
clause_part = fold-Clause ⊤ Part ⊤ ⊤ Part RangePart (λ clause. tt) part_step (λ groups. tt) (λ item. tt) part_operand part_range

abbrev groups_part : Groups → ⊤
groups_part = fold-Groups ⊤ Part ⊤ ⊤ Part RangePart (λ clause. tt) part_step (λ groups. tt) (λ item. tt) part_operand part_range

abbrev item_part : Item → ⊤
item_part = fold-Item ⊤ Part ⊤ ⊤ Part RangePart (λ clause. tt) part_step (λ groups. tt) (λ item. tt) part_operand part_range

abbrev meanings : Maps Trees Meanings
meanings = record { on_Clause = clause_meaning; on_Expr = meaning; on_Groups = groups_meaning; on_Item = item_meaning; on_JoinOperand = operand_meaning; on_SubstrRange = range_meaning }

abbrev parts : Maps Trees Parts
parts = record { on_Clause = clause_part; on_Expr = part; on_Groups = groups_part; on_Item = item_part; on_JoinOperand = operand_part; on_SubstrRange = range_part }

module _ (R : Meaning → Part → Type 0) where
  -- both, and that they go together
  pub record Both : Type 0 where
    pub meaning : Meaning
    pub part : Part
    pub agree : R meaning part

  abbrev pub given_length : Option Meaning → Option Part → Type 0
  given_length None None = ⊤
  given_length (Some m) (Some p) = R m p
  given_length _ _ = ⊥

  pub record RangesAgree (m : RangeMeaning) (p : RangePart) : Type 0 where
    pub start : R m.start p.start
    pub length : given_length m.length p.length

  pub record BothRanges : Type 0 where
    pub meaning : RangeMeaning
    pub part : RangePart
    pub agree : RangesAgree meaning part

  abbrev pub Boths : Family
  Boths = record { of_Clause = Place; of_Expr = Both; of_Groups = ⊤; of_Item = ⊤; of_JoinOperand = Both; of_SubstrRange = BothRanges }

  abbrev pub lefts : Maps Boths Meanings
  lefts = record { on_Clause = λ c. c; on_Expr = λ b. b.meaning; on_Groups = λ g. tt; on_Item = λ i. tt; on_JoinOperand = λ b. b.meaning; on_SubstrRange = λ b. b.meaning }

  abbrev pub rights : Maps Boths Parts
  rights = record { on_Clause = λ c. tt; on_Expr = λ b. b.part; on_Groups = λ g. tt; on_Item = λ i. tt; on_JoinOperand = λ b. b.part; on_SubstrRange = λ b. b.part }

  -- trees whose meaning and part go together
  abbrev Such : Family
  Such = record { of_Clause = (c : Clause) × ⊤; of_Expr = (e : Expr) × R (meaning e) (part e); of_Groups = (g : Groups) × ⊤; of_Item = (i : Item) × ⊤; of_JoinOperand = (o : JoinOperand) × R (operand_meaning o) (operand_part o); of_SubstrRange = (r : SubstrRange) × RangesAgree (range_meaning r) (range_part r) }

  abbrev firsts : Maps Such Trees
  firsts = record { on_Clause = λ s. s.0; on_Expr = λ s. s.0; on_Groups = λ s. s.0; on_Item = λ s. s.0; on_JoinOperand = λ s. s.0; on_SubstrRange = λ s. s.0 }

  abbrev boths : Maps Such Boths
  boths = record { on_Clause = λ s. clause_meaning s.0; on_Expr = λ s. record { meaning = meaning s.0; part = part s.0; agree = s.1 }; on_Groups = λ s. tt; on_Item = λ s. tt; on_JoinOperand = λ s. record { meaning = operand_meaning s.0; part = operand_part s.0; agree = s.1 }; on_SubstrRange = λ s. record { meaning = range_meaning s.0; part = range_part s.0; agree = s.1 } }

  -- if each level goes together where its parts do, each expression does
  pub related : ((z : Expr-F Place Both ⊤ ⊤ Both BothRanges) → R (step (over-Expr {X = Boths} {Y = Meanings} lefts z)) (part_step (over-Expr {X = Boths} {Y = Parts} rights z)))
      → (e : Expr) → R (meaning e) (part e)
  related level e = ind-Expr (λ c. ⊤) (λ x. R (meaning x) (part x)) (λ g. ⊤) (λ i. ⊤) (λ o. R (operand_meaning o) (operand_part o)) (λ r. RangesAgree (range_meaning r) (range_part r))
      (λ x y is. tt)
      (λ x y is. subst (λ (w : Expr-F Clause Expr Groups Item JoinOperand SubstrRange). R (meaning (roll-Expr w)) (part (roll-Expr w))) is (at y))
      (λ x y is. tt)
      (λ x y is. tt)
      (λ x y is. subst (λ (w : JoinOperand-F Clause Expr Groups Item JoinOperand SubstrRange). R (operand_meaning (roll-JoinOperand w)) (operand_part (roll-JoinOperand w))) is (operand y))
      (λ x y is. subst (λ (w : SubstrRange-F Clause Expr Groups Item JoinOperand SubstrRange). RangesAgree (range_meaning (roll-SubstrRange w)) (range_part (roll-SubstrRange w))) is (range y))
      e
    where
      moved : (m : Meaning) (p : Part) (m' : Meaning) (p' : Part) → m ≡ m' → p ≡ p' → R m' p' → R m p
      moved m p m' p' i j h = subst (λ (n : Meaning). R n p) (sym i) (subst (λ (q : Part). R m' q) (sym j) h)

      at : (y : Expr-F Such.of_Clause Such.of_Expr Such.of_Groups Such.of_Item Such.of_JoinOperand Such.of_SubstrRange) → R (meaning (roll-Expr (over-Expr {X = Such} {Y = Trees} firsts y))) (part (roll-Expr (over-Expr {X = Such} {Y = Trees} firsts y)))
      at y =
          let x = over-Expr {X = Such} {Y = Trees} firsts y in
          let z = over-Expr {X = Such} {Y = Boths} boths y in
          moved (meaning (roll-Expr x)) (part (roll-Expr x)) (step (over-Expr {X = Boths} {Y = Meanings} lefts z)) (part_step (over-Expr {X = Boths} {Y = Parts} rights z))
          (fold-roll-Expr Place Meaning ⊤ ⊤ Meaning RangeMeaning clause_place step (λ groups. tt) (λ item. tt) operand_step range_step x ∙ ap step (twice-Expr {X = Such} {Y = Trees} {Z = Meanings} meanings firsts y ∙ sym (twice-Expr {X = Such} {Y = Boths} {Z = Meanings} lefts boths y)))
          (fold-roll-Expr ⊤ Part ⊤ ⊤ Part RangePart (λ clause. tt) part_step (λ groups. tt) (λ item. tt) part_operand part_range x ∙ ap part_step (twice-Expr {X = Such} {Y = Trees} {Z = Parts} parts firsts y ∙ sym (twice-Expr {X = Such} {Y = Boths} {Z = Parts} rights boths y)))
          (level z)

      operand : (y : JoinOperand-F Such.of_Clause Such.of_Expr Such.of_Groups Such.of_Item Such.of_JoinOperand Such.of_SubstrRange) → R (operand_meaning (roll-JoinOperand (over-JoinOperand {X = Such} {Y = Trees} firsts y))) (operand_part (roll-JoinOperand (over-JoinOperand {X = Such} {Y = Trees} firsts y)))
      operand y =
          let x = over-JoinOperand {X = Such} {Y = Trees} firsts y in
          moved (operand_meaning (roll-JoinOperand x)) (operand_part (roll-JoinOperand x)) (meaning y.expr.0) (part y.expr.0)
          (fold-roll-JoinOperand Place Meaning ⊤ ⊤ Meaning RangeMeaning clause_place step (λ groups. tt) (λ item. tt) operand_step range_step x)
          (fold-roll-JoinOperand ⊤ Part ⊤ ⊤ Part RangePart (λ clause. tt) part_step (λ groups. tt) (λ item. tt) part_operand part_range x)
          y.expr.1

      moved_range : (m : RangeMeaning) (p : RangePart) (m' : RangeMeaning) (p' : RangePart) → m ≡ m' → p ≡ p' → RangesAgree m' p' → RangesAgree m p
      moved_range m p m' p' i j h = subst (λ (n : RangeMeaning). RangesAgree n p) (sym i) (subst (λ (q : RangePart). RangesAgree m' q) (sym j) h)

      range_at : (y : SubstrRange-F Such.of_Clause Such.of_Expr Such.of_Groups Such.of_Item Such.of_JoinOperand Such.of_SubstrRange) → RangesAgree (range_step (over-SubstrRange {X = Trees} {Y = Meanings} meanings (over-SubstrRange {X = Such} {Y = Trees} firsts y))) (part_range (over-SubstrRange {X = Trees} {Y = Parts} parts (over-SubstrRange {X = Such} {Y = Trees} firsts y))) → RangesAgree (range_meaning (roll-SubstrRange (over-SubstrRange {X = Such} {Y = Trees} firsts y))) (range_part (roll-SubstrRange (over-SubstrRange {X = Such} {Y = Trees} firsts y)))
      range_at y h =
          let x = over-SubstrRange {X = Such} {Y = Trees} firsts y in
          moved_range (range_meaning (roll-SubstrRange x)) (range_part (roll-SubstrRange x)) (range_step (over-SubstrRange {X = Trees} {Y = Meanings} meanings x)) (part_range (over-SubstrRange {X = Trees} {Y = Parts} parts x))
          (fold-roll-SubstrRange Place Meaning ⊤ ⊤ Meaning RangeMeaning clause_place step (λ groups. tt) (λ item. tt) operand_step range_step x)
          (fold-roll-SubstrRange ⊤ Part ⊤ ⊤ Part RangePart (λ clause. tt) part_step (λ groups. tt) (λ item. tt) part_operand part_range x)
          h

      ranged : (start : Such.of_Expr) (length : Option Such.of_Expr) (place : Place) → RangesAgree (range_meaning (roll-SubstrRange (over-SubstrRange {X = Such} {Y = Trees} firsts (record { start = start; length = length; place = place })))) (range_part (roll-SubstrRange (over-SubstrRange {X = Such} {Y = Trees} firsts (record { start = start; length = length; place = place }))))
      ranged start None place = range_at (record { start = start; length = None; place = place }) (record { start = start.1; length = tt })
      ranged start (Some s) place = range_at (record { start = start; length = Some s; place = place }) (record { start = start.1; length = s.1 })

      range : (y : SubstrRange-F Such.of_Clause Such.of_Expr Such.of_Groups Such.of_Item Such.of_JoinOperand Such.of_SubstrRange) → RangesAgree (range_meaning (roll-SubstrRange (over-SubstrRange {X = Such} {Y = Trees} firsts y))) (range_part (roll-SubstrRange (over-SubstrRange {X = Such} {Y = Trees} firsts y)))
      range y = ranged y.start y.length y.place
