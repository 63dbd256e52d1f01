use Rattle.std.proofs.Common.{List, ◌∷◌, map, refl, sym, ap, ◌∙◌}
use Rattle.vtl_syntax.specs.declared.expr.Expr.TheVariants as tree
use Rattle.vtl_syntax.specs.declared.expr.Clause.TheOpen.{Expr-F}
use Rattle.vtl_syntax.specs.declared.expr.Expr.{Expr}
use Rattle.vtl_syntax.specs.declared.expr.JoinOperand.{JoinOperand}
use Rattle.scalar_trees.specs.declared.operators.BinaryOperator.{BinaryOperator}
use Rattle.scalar_trees.specs.declared.operators.BinaryOperator.TheVariants as operator
use Rattle.scalar_trees.specs.typing.Scopes.{kinds_of}
use Rattle.scalar_trees.specs.typing.Scalars as meant
use Rattle.component_typing.specs.Parts.{after_typed, after_optional, substr_meaning}
use Rattle.component_typing.proofs.Levels.{answers_level, substr_level, replace_level, join_level}
use Rattle.component_typing.proofs.checker.Checker.level.Goals as goal

pub returns-in-Or : goal.returns-in-Or
returns-in-Or g c =
    let scope = c.args.self.now.scope.now in
    let basis = c.args.self.now.basis in
    let m : BinaryOperator → meant.Answer = λ o. after_typed scope basis c.in-Or.left (λ x. after_typed scope basis c.in-Or.right (meant.binary_typed o c.in-Or.place x)) in
    answers_level (kinds_of scope.columns basis) scope basis (Expr-F.Or c.in-Or.left c.in-Or.sign c.in-Or.right c.in-Or.place) c.args.self.now.tree.now (m c.or_operator.result) c.binary.result (tree.rolls-Or c.in-Or.left c.in-Or.sign c.in-Or.right c.in-Or.place ∙ sym c.in-Or.is) (ap m c.or_operator.ensures) c.binary.ensures

pub returns-in-And : goal.returns-in-And
returns-in-And g c =
    let scope = c.args.self.now.scope.now in
    let basis = c.args.self.now.basis in
    let m = after_typed scope basis c.in-And.left (λ x. after_typed scope basis c.in-And.right (meant.binary_typed operator.And c.in-And.place x)) in
    answers_level (kinds_of scope.columns basis) scope basis (Expr-F.And c.in-And.left c.in-And.right c.in-And.place) c.args.self.now.tree.now (m) c.binary-in-And.result (tree.rolls-And c.in-And.left c.in-And.right c.in-And.place ∙ sym c.in-And.is) refl c.binary-in-And.ensures

pub returns-in-Compare : goal.returns-in-Compare
returns-in-Compare g c =
    let scope = c.args.self.now.scope.now in
    let basis = c.args.self.now.basis in
    let m : BinaryOperator → meant.Answer = λ o. after_typed scope basis c.in-Compare.left (λ x. after_typed scope basis c.in-Compare.right (meant.binary_typed o c.in-Compare.place x)) in
    answers_level (kinds_of scope.columns basis) scope basis (Expr-F.Compare c.in-Compare.left c.in-Compare.sign c.in-Compare.right c.in-Compare.place) c.args.self.now.tree.now (m c.comparison_operator.result) c.binary-in-Compare.result (tree.rolls-Compare c.in-Compare.left c.in-Compare.sign c.in-Compare.right c.in-Compare.place ∙ sym c.in-Compare.is) (ap m c.comparison_operator.ensures) c.binary-in-Compare.ensures

pub returns-in-Sum : goal.returns-in-Sum
returns-in-Sum g c =
    let scope = c.args.self.now.scope.now in
    let basis = c.args.self.now.basis in
    let m : BinaryOperator → meant.Answer = λ o. after_typed scope basis c.in-Sum.left (λ x. after_typed scope basis c.in-Sum.right (meant.binary_typed o c.in-Sum.place x)) in
    answers_level (kinds_of scope.columns basis) scope basis (Expr-F.Sum c.in-Sum.left c.in-Sum.sign c.in-Sum.right c.in-Sum.place) c.args.self.now.tree.now (m c.sum_operator.result) c.binary-in-Sum.result (tree.rolls-Sum c.in-Sum.left c.in-Sum.sign c.in-Sum.right c.in-Sum.place ∙ sym c.in-Sum.is) (ap m c.sum_operator.ensures) c.binary-in-Sum.ensures

pub returns-in-Product : goal.returns-in-Product
returns-in-Product g c =
    let scope = c.args.self.now.scope.now in
    let basis = c.args.self.now.basis in
    let m : BinaryOperator → meant.Answer = λ o. after_typed scope basis c.in-Product.left (λ x. after_typed scope basis c.in-Product.right (meant.binary_typed o c.in-Product.place x)) in
    answers_level (kinds_of scope.columns basis) scope basis (Expr-F.Product c.in-Product.left c.in-Product.sign c.in-Product.right c.in-Product.place) c.args.self.now.tree.now (m c.product_operator.result) c.binary-in-Product.result (tree.rolls-Product c.in-Product.left c.in-Product.sign c.in-Product.right c.in-Product.place ∙ sym c.in-Product.is) (ap m c.product_operator.ensures) c.binary-in-Product.ensures

pub returns-in-Binary : goal.returns-in-Binary
returns-in-Binary g c =
    let scope = c.args.self.now.scope.now in
    let basis = c.args.self.now.basis in
    let m = after_typed scope basis c.in-Binary.left (λ x. after_typed scope basis c.in-Binary.right (meant.function_typed c.in-Binary.function c.in-Binary.place x)) in
    answers_level (kinds_of scope.columns basis) scope basis (Expr-F.Binary c.in-Binary.function c.in-Binary.left c.in-Binary.right c.in-Binary.place) c.args.self.now.tree.now (m) c.function.result (tree.rolls-Binary c.in-Binary.function c.in-Binary.left c.in-Binary.right c.in-Binary.place ∙ sym c.in-Binary.is) refl c.function.ensures

pub returns-in-If : goal.returns-in-If
returns-in-If g c =
    let scope = c.args.self.now.scope.now in
    let basis = c.args.self.now.basis in
    let m = after_typed scope basis c.in-If.condition (λ x. after_typed scope basis c.in-If.holds (λ y. after_typed scope basis c.in-If.fails (meant.if_typed c.in-If.place x y))) in
    answers_level (kinds_of scope.columns basis) scope basis (Expr-F.If c.in-If.condition c.in-If.holds c.in-If.fails c.in-If.place) c.args.self.now.tree.now (m) c.chosen.result (tree.rolls-If c.in-If.condition c.in-If.holds c.in-If.fails c.in-If.place ∙ sym c.in-If.is) refl c.chosen.ensures

pub returns-in-Substr : goal.returns-in-Substr
returns-in-Substr g c =
    let scope = c.args.self.now.scope.now in
    let basis = c.args.self.now.basis in
    let m = substr_meaning scope basis c.in-Substr.operand c.in-Substr.range c.in-Substr.place in
    answers_level (kinds_of scope.columns basis) scope basis (Expr-F.Substr c.in-Substr.operand c.in-Substr.range c.in-Substr.place) c.args.self.now.tree.now (m) c.substr.result (tree.rolls-Substr c.in-Substr.operand c.in-Substr.range c.in-Substr.place ∙ sym c.in-Substr.is) (ap (λ (y : meant.Level). meant.typed_step y scope basis) (sym (substr_level c.in-Substr.operand c.in-Substr.range c.in-Substr.place))) c.substr.ensures

pub returns-in-Replace : goal.returns-in-Replace
returns-in-Replace g c =
    let scope = c.args.self.now.scope.now in
    let basis = c.args.self.now.basis in
    let m = after_typed scope basis c.in-Replace.operand (λ x. after_typed scope basis c.in-Replace.pattern (λ y. after_optional scope basis c.in-Replace.by (meant.replace_typed c.in-Replace.place x y))) in
    answers_level (kinds_of scope.columns basis) scope basis (Expr-F.Replace c.in-Replace.operand c.in-Replace.pattern c.in-Replace.by c.in-Replace.place) c.args.self.now.tree.now (m) c.replaced.result (tree.rolls-Replace c.in-Replace.operand c.in-Replace.pattern c.in-Replace.by c.in-Replace.place ∙ sym c.in-Replace.is) (ap (λ (y : meant.Level). meant.typed_step y scope basis) (sym (replace_level c.in-Replace.operand c.in-Replace.pattern c.in-Replace.by c.in-Replace.place))) c.replaced.ensures

pub returns-in-Sets : goal.returns-in-Sets
returns-in-Sets g c =
    let scope = c.args.self.now.scope.now in
    let basis = c.args.self.now.basis in
    let m : List Expr → meant.Answer = λ others. meant.misplaced (meant.meaning c.in-Sets.first ∷ meant.meaning c.in-Sets.second ∷ map meant.meaning others) c.in-Sets.place scope basis in
    answers_level (kinds_of scope.columns basis) scope basis (Expr-F.Sets c.in-Sets.function c.in-Sets.first c.in-Sets.second c.in-Sets.others c.in-Sets.place) c.args.self.now.tree.now (m c.as_slice-in-Sets.result.now) c.sets_misplaced.result (tree.rolls-Sets c.in-Sets.function c.in-Sets.first c.in-Sets.second c.in-Sets.others c.in-Sets.place ∙ sym c.in-Sets.is) (ap m c.as_slice-in-Sets.ensures) c.sets_misplaced.ensures

pub returns-in-Join : goal.returns-in-Join
returns-in-Join g c =
    let scope = c.args.self.now.scope.now in
    let basis = c.args.self.now.basis in
    let m : JoinOperand → JoinOperand → List JoinOperand → meant.Answer = λ a b others. meant.misplaced (meant.operand_meaning a ∷ meant.operand_meaning b ∷ map meant.operand_meaning others) c.in-Join.place scope basis in
    let first = c.get-in-Join.result.now in
    let second = c.get-in-Join-2.result.now in
    let others = c.as_slice-in-Join.result.now in
    answers_level (kinds_of scope.columns basis) scope basis (Expr-F.Join c.in-Join.function c.in-Join.first c.in-Join.second c.in-Join.others c.in-Join.filter c.in-Join.calc c.in-Join.keep c.in-Join.rename c.in-Join.place) c.args.self.now.tree.now (m first second others) c.join_misplaced.result
    (tree.rolls-Join c.in-Join.function c.in-Join.first c.in-Join.second c.in-Join.others c.in-Join.filter c.in-Join.calc c.in-Join.keep c.in-Join.rename c.in-Join.place ∙ sym c.in-Join.is)
    (ap (λ (a : JoinOperand). m a second others) c.get-in-Join.ensures ∙ ap (λ (b : JoinOperand). m c.in-Join.first b others) c.get-in-Join-2.ensures ∙ ap (m c.in-Join.first c.in-Join.second) c.as_slice-in-Join.ensures ∙ ap (λ (y : meant.Level). meant.typed_step y scope basis) (sym (join_level c.in-Join.function c.in-Join.first c.in-Join.second c.in-Join.others c.in-Join.filter c.in-Join.calc c.in-Join.keep c.in-Join.rename c.in-Join.place)))
    c.join_misplaced.ensures
