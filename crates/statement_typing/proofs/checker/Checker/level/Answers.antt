use Rattle.std.proofs.Common.{List, [], ◌∷◌, map, Ok, refl, sym, ap, ◌∙◌}
use Rattle.vtl_syntax.specs.declared.expr.Expr.TheVariants as tree
use Rattle.vtl_syntax.specs.declared.expr.Clause.TheOpen.{Expr-F}
use Rattle.vtl_syntax.specs.declared.expr.Expr.{Expr}
use Rattle.vtl_syntax.specs.declared.expr.JoinOperand.{JoinOperand}
use Rattle.vtl_values.specs.declared.value.Value.{Value}
use Rattle.scalar_trees.specs.typing.Scalars.{literal_typed}
use Rattle.scalar_trees.specs.declared.operators.UnaryOperator.{UnaryOperator}
use Rattle.scalar_trees.specs.declared.operators.BinaryOperator.{BinaryOperator}
use Rattle.scalar_trees.specs.declared.operators.BinaryOperator.TheVariants as operator
use Rattle.scalar_trees.specs.declared.typing.stop.Fault.TheVariants.{WrongStructure}
use Rattle.scalar_trees.specs.typing.Steps.{refused}
use Rattle.data_set_trees.specs.declared.form.Form.{Form}
use Rattle.data_set_trees.specs.declared.form.Form.TheVariants as form
use Rattle.data_set_trees.specs.declared.tree.SetOperation.{SetOperation}
use Rattle.data_set_trees.specs.Trees.{SetAnswer}
use Rattle.data_set_trees.specs.declared.operand.Operand.TheVariants as operands
use Rattle.data_set_trees.specs.Members.{member_typed}
use Rattle.data_set_trees.specs.Exists.{exists_typed}
use Rattle.data_set_trees.specs.Sets.{sets_typed}
use Rattle.expression_rules.specs.OnChecks.{check_typed}
use Rattle.expression_rules.specs.OnClauses.{on_clause}
use Rattle.expression_rules.specs.OnRules.{datapoint_called, hierarchy_called, with_ruleset, on_datapoint, on_hierarchy, on_check_hierarchy}
use Rattle.expression_rules.specs.OnSets.{on_aggregate, on_window, on_offset, on_time, on_shift, on_fill}
use Rattle.expression_rules.specs.Expressions as meant
use Rattle.statement_typing.specs.Joins.{clauses_in, join_on}
use Rattle.statement_typing.specs.Names.{naming_of}
use Rattle.statement_typing.specs.Parts.{after_one, after_all, of_optional, of_optional_range}
use Rattle.statement_typing.proofs.Levels.{answers_level, substr_level, replace_level, sets_level, join_level, aggregate_level, check_level}
use Rattle.statement_typing.proofs.checker.Checker.level.Goals as goal

pub returns-in-Or : goal.returns-in-Or
returns-in-Or g c =
    let naming = naming_of c.args.self.now.names.now in
    let m : BinaryOperator → SetAnswer = λ o. meant.on_operands (form.Binary o) c.in-Or.place (meant.typing c.in-Or.left ∷ meant.typing c.in-Or.right ∷ []) naming in
    let value = m c.or_operator.result in
    answers_level naming (Expr-F.Or c.in-Or.left c.in-Or.sign c.in-Or.right c.in-Or.place) c.args.self.now.tree.now (value) c.binary.result (tree.rolls-Or c.in-Or.left c.in-Or.sign c.in-Or.right c.in-Or.place ∙ sym c.in-Or.is) (ap m c.or_operator.ensures) c.binary.ensures

pub returns-in-And : goal.returns-in-And
returns-in-And g c =
    let naming = naming_of c.args.self.now.names.now in
    let value = meant.on_operands (form.Binary operator.And) c.in-And.place (meant.typing c.in-And.left ∷ meant.typing c.in-And.right ∷ []) naming in
    answers_level naming (Expr-F.And c.in-And.left c.in-And.right c.in-And.place) c.args.self.now.tree.now (value) c.binary-in-And.result (tree.rolls-And c.in-And.left c.in-And.right c.in-And.place ∙ sym c.in-And.is) (refl) c.binary-in-And.ensures

pub returns-in-Compare : goal.returns-in-Compare
returns-in-Compare g c =
    let naming = naming_of c.args.self.now.names.now in
    let m : BinaryOperator → SetAnswer = λ o. meant.on_operands (form.Binary o) c.in-Compare.place (meant.typing c.in-Compare.left ∷ meant.typing c.in-Compare.right ∷ []) naming in
    let value = m c.comparison_operator.result in
    answers_level naming (Expr-F.Compare c.in-Compare.left c.in-Compare.sign c.in-Compare.right c.in-Compare.place) c.args.self.now.tree.now (value) c.binary-in-Compare.result (tree.rolls-Compare c.in-Compare.left c.in-Compare.sign c.in-Compare.right c.in-Compare.place ∙ sym c.in-Compare.is) (ap m c.comparison_operator.ensures) c.binary-in-Compare.ensures

pub returns-in-Sum : goal.returns-in-Sum
returns-in-Sum g c =
    let naming = naming_of c.args.self.now.names.now in
    let m : BinaryOperator → SetAnswer = λ o. meant.on_operands (form.Binary o) c.in-Sum.place (meant.typing c.in-Sum.left ∷ meant.typing c.in-Sum.right ∷ []) naming in
    let value = m c.sum_operator.result in
    answers_level naming (Expr-F.Sum c.in-Sum.left c.in-Sum.sign c.in-Sum.right c.in-Sum.place) c.args.self.now.tree.now (value) c.binary-in-Sum.result (tree.rolls-Sum c.in-Sum.left c.in-Sum.sign c.in-Sum.right c.in-Sum.place ∙ sym c.in-Sum.is) (ap m c.sum_operator.ensures) c.binary-in-Sum.ensures

pub returns-in-Product : goal.returns-in-Product
returns-in-Product g c =
    let naming = naming_of c.args.self.now.names.now in
    let m : BinaryOperator → SetAnswer = λ o. meant.on_operands (form.Binary o) c.in-Product.place (meant.typing c.in-Product.left ∷ meant.typing c.in-Product.right ∷ []) naming in
    let value = m c.product_operator.result in
    answers_level naming (Expr-F.Product c.in-Product.left c.in-Product.sign c.in-Product.right c.in-Product.place) c.args.self.now.tree.now (value) c.binary-in-Product.result (tree.rolls-Product c.in-Product.left c.in-Product.sign c.in-Product.right c.in-Product.place ∙ sym c.in-Product.is) (ap m c.product_operator.ensures) c.binary-in-Product.ensures

pub returns-in-Substr : goal.returns-in-Substr
returns-in-Substr g c =
    let naming = naming_of c.args.self.now.names.now in
    let value = meant.on_operands form.Substr c.in-Substr.place (meant.typing c.in-Substr.operand ∷ of_optional_range c.in-Substr.range) naming in
    answers_level naming (Expr-F.Substr c.in-Substr.operand c.in-Substr.range c.in-Substr.place) c.args.self.now.tree.now (value) c.substr.result (tree.rolls-Substr c.in-Substr.operand c.in-Substr.range c.in-Substr.place ∙ sym c.in-Substr.is) (substr_level naming c.in-Substr.operand c.in-Substr.range c.in-Substr.place) c.substr.ensures

pub returns-in-Replace : goal.returns-in-Replace
returns-in-Replace g c =
    let naming = naming_of c.args.self.now.names.now in
    let value = meant.on_operands form.Replace c.in-Replace.place (meant.typing c.in-Replace.operand ∷ meant.typing c.in-Replace.pattern ∷ of_optional c.in-Replace.by) naming in
    answers_level naming (Expr-F.Replace c.in-Replace.operand c.in-Replace.pattern c.in-Replace.by c.in-Replace.place) c.args.self.now.tree.now (value) c.replaced.result (tree.rolls-Replace c.in-Replace.operand c.in-Replace.pattern c.in-Replace.by c.in-Replace.place ∙ sym c.in-Replace.is) (replace_level naming c.in-Replace.operand c.in-Replace.pattern c.in-Replace.by c.in-Replace.place) c.replaced.ensures

pub returns-in-Binary : goal.returns-in-Binary
returns-in-Binary g c =
    let naming = naming_of c.args.self.now.names.now in
    let m : Form → SetAnswer = λ f. meant.on_operands f c.in-Binary.place (meant.typing c.in-Binary.left ∷ meant.typing c.in-Binary.right ∷ []) naming in
    let value = m c.form_of_function.result in
    answers_level naming (Expr-F.Binary c.in-Binary.function c.in-Binary.left c.in-Binary.right c.in-Binary.place) c.args.self.now.tree.now value c.on_two.result (tree.rolls-Binary c.in-Binary.function c.in-Binary.left c.in-Binary.right c.in-Binary.place ∙ sym c.in-Binary.is) (ap m c.form_of_function.ensures) c.on_two.ensures

pub returns-in-Sets : goal.returns-in-Sets
returns-in-Sets g c =
    let naming = naming_of c.args.self.now.names.now in
    let m : SetOperation → List Expr → SetAnswer = λ o others. after_all naming (meant.typing c.in-Sets.first ∷ meant.typing c.in-Sets.second ∷ map meant.typing others) (sets_typed o c.in-Sets.place) in
    let others = c.as_slice-in-Sets.result.now in
    let value = m c.operation_of.result others in
    answers_level naming (Expr-F.Sets c.in-Sets.function c.in-Sets.first c.in-Sets.second c.in-Sets.others c.in-Sets.place) c.args.self.now.tree.now value c.several_sets.result (tree.rolls-Sets c.in-Sets.function c.in-Sets.first c.in-Sets.second c.in-Sets.others c.in-Sets.place ∙ sym c.in-Sets.is) (ap (λ (o : SetOperation). m o others) c.operation_of.ensures ∙ ap (m (meant.operation_of c.in-Sets.function)) c.as_slice-in-Sets.ensures ∙ sets_level naming c.in-Sets.function c.in-Sets.first c.in-Sets.second c.in-Sets.others c.in-Sets.place) c.several_sets.ensures

pub returns-in-Difference : goal.returns-in-Difference
returns-in-Difference g c =
    let naming = naming_of c.args.self.now.names.now in
    let m : SetOperation → SetAnswer = λ o. after_all naming (meant.typing c.in-Difference.left ∷ meant.typing c.in-Difference.right ∷ []) (sets_typed o c.in-Difference.place) in
    let value = m c.difference_of.result in
    answers_level naming (Expr-F.Difference c.in-Difference.function c.in-Difference.left c.in-Difference.right c.in-Difference.place) c.args.self.now.tree.now value c.two_sets.result (tree.rolls-Difference c.in-Difference.function c.in-Difference.left c.in-Difference.right c.in-Difference.place ∙ sym c.in-Difference.is) (ap m c.difference_of.ensures) c.two_sets.ensures

pub returns-in-Join : goal.returns-in-Join
returns-in-Join g c =
    let naming = naming_of c.args.self.now.names.now in
    let cs = clauses_in c.in-Join.filter c.in-Join.calc c.in-Join.keep c.in-Join.rename in
    let m : JoinOperand → JoinOperand → List JoinOperand → SetAnswer = λ a b others. join_on naming c.in-Join.function c.in-Join.place a b others cs in
    let value = m c.get.result.now c.get-in-Join.result.now c.as_slice-in-Join.result.now in
    answers_level naming (Expr-F.Join c.in-Join.function c.in-Join.first c.in-Join.second c.in-Join.others c.in-Join.filter c.in-Join.calc c.in-Join.keep c.in-Join.rename c.in-Join.place) c.args.self.now.tree.now value c.join.result
    (tree.rolls-Join c.in-Join.function c.in-Join.first c.in-Join.second c.in-Join.others c.in-Join.filter c.in-Join.calc c.in-Join.keep c.in-Join.rename c.in-Join.place ∙ sym c.in-Join.is)
    ((λ i. m (c.get.ensures i) (c.get-in-Join.ensures i) (c.as_slice-in-Join.ensures i)) ∙ join_level naming c.in-Join.function c.in-Join.first c.in-Join.second c.in-Join.others c.in-Join.filter c.in-Join.calc c.in-Join.keep c.in-Join.rename c.in-Join.place)
    c.join.ensures

pub returns-in-Aggregate : goal.returns-in-Aggregate
returns-in-Aggregate g c =
    let naming = naming_of c.args.self.now.names.now in
    let value : SetAnswer = after_one naming c.in-Aggregate.operand (on_aggregate c.in-Aggregate.function c.in-Aggregate.groups c.in-Aggregate.place) in
    answers_level naming (Expr-F.Aggregate c.in-Aggregate.function c.in-Aggregate.operand c.in-Aggregate.groups c.in-Aggregate.place) c.args.self.now.tree.now value c.aggregate.result (tree.rolls-Aggregate c.in-Aggregate.function c.in-Aggregate.operand c.in-Aggregate.groups c.in-Aggregate.place ∙ sym c.in-Aggregate.is) (aggregate_level naming c.in-Aggregate.function c.in-Aggregate.operand c.in-Aggregate.groups c.in-Aggregate.place) c.aggregate.ensures

pub returns-in-Check : goal.returns-in-Check
returns-in-Check g c =
    let naming = naming_of c.args.self.now.names.now in
    let value : SetAnswer = after_all naming (meant.typing c.in-Check.operand ∷ of_optional c.in-Check.imbalance) (check_typed (record { code = c.in-Check.code; level = c.in-Check.level }) c.in-Check.output c.in-Check.place) in
    answers_level naming (Expr-F.Check c.in-Check.operand c.in-Check.code c.in-Check.level c.in-Check.imbalance c.in-Check.output c.in-Check.place) c.args.self.now.tree.now value c.check.result (tree.rolls-Check c.in-Check.operand c.in-Check.code c.in-Check.level c.in-Check.imbalance c.in-Check.output c.in-Check.place ∙ sym c.in-Check.is) (check_level naming c.in-Check.operand c.in-Check.code c.in-Check.level c.in-Check.imbalance c.in-Check.output c.in-Check.place) c.check.ensures

pub returns-in-Literal : goal.returns-in-Literal
returns-in-Literal g c =
    let naming = naming_of c.args.self.now.names.now in
    let value : SetAnswer = Ok (operands.Scalar (literal_typed c.in-Literal.value)) in
    answers_level naming (Expr-F.Literal c.in-Literal.value c.in-Literal.place) c.args.self.now.tree.now value c.literal.result (tree.rolls-Literal c.in-Literal.value c.in-Literal.place ∙ sym c.in-Literal.is) (refl) c.literal.ensures

pub returns-in-Name : goal.returns-in-Name
returns-in-Name g c =
    let naming = naming_of c.args.self.now.names.now in
    let value : SetAnswer = meant.named_typed (naming.data_set c.in-Name.word) c.in-Name.place in
    answers_level naming (Expr-F.Name c.in-Name.word c.in-Name.place) c.args.self.now.tree.now value c.name.result (tree.rolls-Name c.in-Name.word c.in-Name.place ∙ sym c.in-Name.is) (refl) c.name.ensures

pub returns-in-Bracket : goal.returns-in-Bracket
returns-in-Bracket g c =
    let naming = naming_of c.args.self.now.names.now in
    let value : SetAnswer = meant.typed naming c.in-Bracket.inner in
    answers_level naming (Expr-F.Bracket c.in-Bracket.inner c.in-Bracket.place) c.args.self.now.tree.now value c.part.result (tree.rolls-Bracket c.in-Bracket.inner c.in-Bracket.place ∙ sym c.in-Bracket.is) (refl) c.part.ensures

pub returns-in-Signed : goal.returns-in-Signed
returns-in-Signed g c =
    let naming = naming_of c.args.self.now.names.now in
    let m : UnaryOperator → SetAnswer = λ o. meant.on_operands (form.Unary o) c.in-Signed.place (meant.typing c.in-Signed.operand ∷ []) naming in
    let value = m c.prefix_operator.result in
    answers_level naming (Expr-F.Signed c.in-Signed.sign c.in-Signed.operand c.in-Signed.place) c.args.self.now.tree.now value c.unary.result (tree.rolls-Signed c.in-Signed.sign c.in-Signed.operand c.in-Signed.place ∙ sym c.in-Signed.is) (ap m c.prefix_operator.ensures) c.unary.ensures

pub returns-in-Unary : goal.returns-in-Unary
returns-in-Unary g c =
    let naming = naming_of c.args.self.now.names.now in
    let m : UnaryOperator → SetAnswer = λ o. meant.on_operands (form.Unary o) c.in-Unary.place (meant.typing c.in-Unary.operand ∷ []) naming in
    let value = m c.unary_operator.result in
    answers_level naming (Expr-F.Unary c.in-Unary.function c.in-Unary.operand c.in-Unary.place) c.args.self.now.tree.now value c.unary-in-Unary.result (tree.rolls-Unary c.in-Unary.function c.in-Unary.operand c.in-Unary.place ∙ sym c.in-Unary.is) (ap m c.unary_operator.ensures) c.unary-in-Unary.ensures

pub returns-in-In : goal.returns-in-In
returns-in-In g c =
    let naming = naming_of c.args.self.now.names.now in
    let m : List Value → SetAnswer = λ set. meant.on_operands (form.In c.in-In.sign set) c.in-In.place (meant.typing c.in-In.left ∷ []) naming in
    let value = m c.as_slice.result.now in
    answers_level naming (Expr-F.In c.in-In.left c.in-In.sign c.in-In.set c.in-In.place) c.args.self.now.tree.now value c.in_set.result (tree.rolls-In c.in-In.left c.in-In.sign c.in-In.set c.in-In.place ∙ sym c.in-In.is) (ap m c.as_slice.ensures) c.in_set.ensures

pub returns-in-Between : goal.returns-in-Between
returns-in-Between g c =
    let naming = naming_of c.args.self.now.names.now in
    let value : SetAnswer = meant.on_operands (form.Between c.in-Between.low c.in-Between.high) c.in-Between.place (meant.typing c.in-Between.operand ∷ []) naming in
    answers_level naming (Expr-F.Between c.in-Between.operand c.in-Between.low c.in-Between.high c.in-Between.place) c.args.self.now.tree.now value c.between.result (tree.rolls-Between c.in-Between.operand c.in-Between.low c.in-Between.high c.in-Between.place ∙ sym c.in-Between.is) (refl) c.between.ensures

pub returns-in-Round : goal.returns-in-Round
returns-in-Round g c =
    let naming = naming_of c.args.self.now.names.now in
    let value : SetAnswer = meant.on_operands (form.Round c.in-Round.function c.in-Round.digits) c.in-Round.place (meant.typing c.in-Round.operand ∷ []) naming in
    answers_level naming (Expr-F.Round c.in-Round.function c.in-Round.operand c.in-Round.digits c.in-Round.place) c.args.self.now.tree.now value c.round.result (tree.rolls-Round c.in-Round.function c.in-Round.operand c.in-Round.digits c.in-Round.place ∙ sym c.in-Round.is) (refl) c.round.ensures

pub returns-in-MatchCharacters : goal.returns-in-MatchCharacters
returns-in-MatchCharacters g c =
    let naming = naming_of c.args.self.now.names.now in
    let value : SetAnswer = meant.on_operands (form.Matches c.in-MatchCharacters.pattern) c.in-MatchCharacters.place (meant.typing c.in-MatchCharacters.operand ∷ []) naming in
    answers_level naming (Expr-F.MatchCharacters c.in-MatchCharacters.operand c.in-MatchCharacters.pattern c.in-MatchCharacters.place) c.args.self.now.tree.now value c.matched.result (tree.rolls-MatchCharacters c.in-MatchCharacters.operand c.in-MatchCharacters.pattern c.in-MatchCharacters.place ∙ sym c.in-MatchCharacters.is) (refl) c.matched.ensures

pub returns-in-If : goal.returns-in-If
returns-in-If g c =
    let naming = naming_of c.args.self.now.names.now in
    let value : SetAnswer = after_all naming (meant.typing c.in-If.condition ∷ meant.typing c.in-If.holds ∷ meant.typing c.in-If.fails ∷ []) (meant.choice_of c.in-If.place) in
    answers_level naming (Expr-F.If c.in-If.condition c.in-If.holds c.in-If.fails c.in-If.place) c.args.self.now.tree.now value c.chosen.result (tree.rolls-If c.in-If.condition c.in-If.holds c.in-If.fails c.in-If.place ∙ sym c.in-If.is) (refl) c.chosen.ensures

pub returns-in-Typed : goal.returns-in-Typed
returns-in-Typed g c =
    let naming = naming_of c.args.self.now.names.now in
    let value : SetAnswer = after_one naming c.in-Typed.expr (meant.sorted c.in-Typed.sort c.in-Typed.place) in
    answers_level naming (Expr-F.Typed c.in-Typed.sort c.in-Typed.expr c.in-Typed.place) c.args.self.now.tree.now value c.of_sort.result (tree.rolls-Typed c.in-Typed.sort c.in-Typed.expr c.in-Typed.place ∙ sym c.in-Typed.is) (refl) c.of_sort.ensures

pub returns-in-Member : goal.returns-in-Member
returns-in-Member g c =
    let naming = naming_of c.args.self.now.names.now in
    let value : SetAnswer = after_one naming c.in-Member.operand (member_typed c.in-Member.name c.in-Member.place) in
    answers_level naming (Expr-F.Member c.in-Member.operand c.in-Member.name c.in-Member.place) c.args.self.now.tree.now value c.member.result (tree.rolls-Member c.in-Member.operand c.in-Member.name c.in-Member.place ∙ sym c.in-Member.is) (refl) c.member.ensures

pub returns-in-Clause : goal.returns-in-Clause
returns-in-Clause g c =
    let naming = naming_of c.args.self.now.names.now in
    let value : SetAnswer = after_one naming c.in-Clause.operand (on_clause c.in-Clause.clause) in
    answers_level naming (Expr-F.Clause c.in-Clause.operand c.in-Clause.clause c.in-Clause.place) c.args.self.now.tree.now value c.with_clause.result (tree.rolls-Clause c.in-Clause.operand c.in-Clause.clause c.in-Clause.place ∙ sym c.in-Clause.is) (refl) c.with_clause.ensures

pub returns-in-ExistsIn : goal.returns-in-ExistsIn
returns-in-ExistsIn g c =
    let naming = naming_of c.args.self.now.names.now in
    let value : SetAnswer = after_one naming c.in-ExistsIn.left (λ x. after_one naming c.in-ExistsIn.right (exists_typed c.in-ExistsIn.rows c.in-ExistsIn.place x)) in
    answers_level naming (Expr-F.ExistsIn c.in-ExistsIn.left c.in-ExistsIn.right c.in-ExistsIn.rows c.in-ExistsIn.place) c.args.self.now.tree.now value c.exists_in.result (tree.rolls-ExistsIn c.in-ExistsIn.left c.in-ExistsIn.right c.in-ExistsIn.rows c.in-ExistsIn.place ∙ sym c.in-ExistsIn.is) (refl) c.exists_in.ensures

pub returns-in-Window : goal.returns-in-Window
returns-in-Window g c =
    let naming = naming_of c.args.self.now.names.now in
    let value : SetAnswer = after_one naming c.in-Window.operand (on_window c.in-Window.function c.in-Window.over c.in-Window.place) in
    answers_level naming (Expr-F.Window c.in-Window.function c.in-Window.operand c.in-Window.over c.in-Window.place) c.args.self.now.tree.now value c.window.result (tree.rolls-Window c.in-Window.function c.in-Window.operand c.in-Window.over c.in-Window.place ∙ sym c.in-Window.is) (refl) c.window.ensures

pub returns-in-CountAll : goal.returns-in-CountAll
returns-in-CountAll g c =
    let naming = naming_of c.args.self.now.names.now in
    let value : SetAnswer = refused WrongStructure c.in-CountAll.place in
    answers_level naming (Expr-F.CountAll c.in-CountAll.place) c.args.self.now.tree.now value c.misplaced.result (tree.rolls-CountAll c.in-CountAll.place ∙ sym c.in-CountAll.is) (refl) c.misplaced.ensures

pub returns-in-Offset : goal.returns-in-Offset
returns-in-Offset g c =
    let naming = naming_of c.args.self.now.names.now in
    let value : SetAnswer = after_one naming c.in-Offset.operand (on_offset c.in-Offset.function c.in-Offset.offset c.in-Offset.over c.in-Offset.place) in
    answers_level naming (Expr-F.Offset c.in-Offset.function c.in-Offset.operand c.in-Offset.offset c.in-Offset.over c.in-Offset.place) c.args.self.now.tree.now value c.offset.result (tree.rolls-Offset c.in-Offset.function c.in-Offset.operand c.in-Offset.offset c.in-Offset.over c.in-Offset.place ∙ sym c.in-Offset.is) (refl) c.offset.ensures

pub returns-in-Rank : goal.returns-in-Rank
returns-in-Rank g c =
    let naming = naming_of c.args.self.now.names.now in
    let value : SetAnswer = refused WrongStructure c.in-Rank.place in
    answers_level naming (Expr-F.Rank c.in-Rank.over c.in-Rank.place) c.args.self.now.tree.now value c.misplaced-in-Rank.result (tree.rolls-Rank c.in-Rank.over c.in-Rank.place ∙ sym c.in-Rank.is) (refl) c.misplaced-in-Rank.ensures

pub returns-in-CheckDatapoint : goal.returns-in-CheckDatapoint
returns-in-CheckDatapoint g c =
    let naming = naming_of c.args.self.now.names.now in
    let value : SetAnswer = with_ruleset (datapoint_called naming.rulesets c.in-CheckDatapoint.ruleset) c.in-CheckDatapoint.ruleset_place (λ r. after_one naming c.in-CheckDatapoint.operand (on_datapoint c.in-CheckDatapoint.output c.in-CheckDatapoint.place r)) in
    answers_level naming (Expr-F.CheckDatapoint c.in-CheckDatapoint.operand c.in-CheckDatapoint.ruleset c.in-CheckDatapoint.ruleset_place c.in-CheckDatapoint.output c.in-CheckDatapoint.place) c.args.self.now.tree.now value c.check_datapoint.result (tree.rolls-CheckDatapoint c.in-CheckDatapoint.operand c.in-CheckDatapoint.ruleset c.in-CheckDatapoint.ruleset_place c.in-CheckDatapoint.output c.in-CheckDatapoint.place ∙ sym c.in-CheckDatapoint.is) (refl) c.check_datapoint.ensures

pub returns-in-Hierarchy : goal.returns-in-Hierarchy
returns-in-Hierarchy g c =
    let naming = naming_of c.args.self.now.names.now in
    let value : SetAnswer = with_ruleset (hierarchy_called naming.rulesets c.in-Hierarchy.ruleset) c.in-Hierarchy.ruleset_place (λ r. after_one naming c.in-Hierarchy.operand (on_hierarchy c.in-Hierarchy.component c.in-Hierarchy.mode c.in-Hierarchy.input c.in-Hierarchy.output c.in-Hierarchy.place r)) in
    answers_level naming (Expr-F.Hierarchy c.in-Hierarchy.operand c.in-Hierarchy.ruleset c.in-Hierarchy.ruleset_place c.in-Hierarchy.component c.in-Hierarchy.mode c.in-Hierarchy.input c.in-Hierarchy.output c.in-Hierarchy.place) c.args.self.now.tree.now value c.hierarchy.result (tree.rolls-Hierarchy c.in-Hierarchy.operand c.in-Hierarchy.ruleset c.in-Hierarchy.ruleset_place c.in-Hierarchy.component c.in-Hierarchy.mode c.in-Hierarchy.input c.in-Hierarchy.output c.in-Hierarchy.place ∙ sym c.in-Hierarchy.is) (refl) c.hierarchy.ensures

pub returns-in-CheckHierarchy : goal.returns-in-CheckHierarchy
returns-in-CheckHierarchy g c =
    let naming = naming_of c.args.self.now.names.now in
    let value : SetAnswer = with_ruleset (hierarchy_called naming.rulesets c.in-CheckHierarchy.ruleset) c.in-CheckHierarchy.ruleset_place (λ r. after_one naming c.in-CheckHierarchy.operand (on_check_hierarchy c.in-CheckHierarchy.component c.in-CheckHierarchy.mode c.in-CheckHierarchy.input c.in-CheckHierarchy.output c.in-CheckHierarchy.place r)) in
    answers_level naming (Expr-F.CheckHierarchy c.in-CheckHierarchy.operand c.in-CheckHierarchy.ruleset c.in-CheckHierarchy.ruleset_place c.in-CheckHierarchy.component c.in-CheckHierarchy.mode c.in-CheckHierarchy.input c.in-CheckHierarchy.output c.in-CheckHierarchy.place) c.args.self.now.tree.now value c.check_hierarchy.result (tree.rolls-CheckHierarchy c.in-CheckHierarchy.operand c.in-CheckHierarchy.ruleset c.in-CheckHierarchy.ruleset_place c.in-CheckHierarchy.component c.in-CheckHierarchy.mode c.in-CheckHierarchy.input c.in-CheckHierarchy.output c.in-CheckHierarchy.place ∙ sym c.in-CheckHierarchy.is) (refl) c.check_hierarchy.ensures

pub returns-in-Time : goal.returns-in-Time
returns-in-Time g c =
    let naming = naming_of c.args.self.now.names.now in
    let value : SetAnswer = after_one naming c.in-Time.operand (on_time c.in-Time.function c.in-Time.place) in
    answers_level naming (Expr-F.Time c.in-Time.function c.in-Time.operand c.in-Time.place) c.args.self.now.tree.now value c.time.result (tree.rolls-Time c.in-Time.function c.in-Time.operand c.in-Time.place ∙ sym c.in-Time.is) (refl) c.time.ensures

pub returns-in-Timeshift : goal.returns-in-Timeshift
returns-in-Timeshift g c =
    let naming = naming_of c.args.self.now.names.now in
    let value : SetAnswer = after_one naming c.in-Timeshift.operand (on_shift c.in-Timeshift.shift c.in-Timeshift.place) in
    answers_level naming (Expr-F.Timeshift c.in-Timeshift.operand c.in-Timeshift.shift c.in-Timeshift.place) c.args.self.now.tree.now value c.shift.result (tree.rolls-Timeshift c.in-Timeshift.operand c.in-Timeshift.shift c.in-Timeshift.place ∙ sym c.in-Timeshift.is) (refl) c.shift.ensures

pub returns-in-FillTimeSeries : goal.returns-in-FillTimeSeries
returns-in-FillTimeSeries g c =
    let naming = naming_of c.args.self.now.names.now in
    let value : SetAnswer = after_one naming c.in-FillTimeSeries.operand (on_fill c.in-FillTimeSeries.span c.in-FillTimeSeries.place) in
    answers_level naming (Expr-F.FillTimeSeries c.in-FillTimeSeries.operand c.in-FillTimeSeries.span c.in-FillTimeSeries.place) c.args.self.now.tree.now value c.fill.result (tree.rolls-FillTimeSeries c.in-FillTimeSeries.operand c.in-FillTimeSeries.span c.in-FillTimeSeries.place ∙ sym c.in-FillTimeSeries.is) (refl) c.fill.ensures

pub returns-in-CallOf : goal.returns-in-CallOf
returns-in-CallOf g c =
    let naming = naming_of c.args.self.now.names.now in
    let value : SetAnswer = refused WrongStructure c.in-CallOf.place in
    answers_level naming (Expr-F.CallOf c.in-CallOf.name c.in-CallOf.arguments c.in-CallOf.place) c.args.self.now.tree.now value c.misplaced-in-CallOf.result (tree.rolls-CallOf c.in-CallOf.name c.in-CallOf.arguments c.in-CallOf.place ∙ sym c.in-CallOf.is) (refl) c.misplaced-in-CallOf.ensures
