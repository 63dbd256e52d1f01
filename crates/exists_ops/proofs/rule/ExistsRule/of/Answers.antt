-- What the rule keeps is made from the structures of the operands.
use Rattle.std.proofs.Common.{◌≡◌, List, [], ◌∷◌, ◌++◌, length, refl, sym, ap, ◌∙◌}
use Rattle.vtl_values.specs.declared.kind.Role.TheVariants.{Viral}
use Rattle.vtl_values.specs.declared.structure.Component.{Component}
use Rattle.data_set_trees.specs.clauses.Frames.{numbers_of}
use Rattle.data_set_trees.specs.checked.Operators.{an_operator}
use Rattle.held_index.specs.declared.want.Want.{Want}
use Rattle.exists_ops.proofs.Answered.{takes-two, two-in, typed-on, wants-built}
use Rattle.exists_ops.proofs.rule.ExistsRule.of.Goals as goal

pub invariant_of-result : goal.invariant_of-result
invariant_of-result c =
    let node = c.args.node.now in
    let o = an_operator node.operator node.operands node.structure in
    let l : List Component = c.in_ok-copy.field-0 in
    let r : List Component = c.in_ok-copy-2.field-0 in
    let s : List Component = c.in_ok-copy-3.field-0 in
    let two : length c.as_slice-operands.result.now ≡ 2 = ap length (c.as_slice-operands.ensures ∙ (takes-two o c.requires.typed c.requires.exists).two) in
    let both : c.index-operands-0.result ∷ c.index-operands-1.result ∷ [] ≡ node.operands = two-in c.as_slice-operands.result.now c.index-operands-0.result c.index-operands-1.result two c.index-operands-0.is c.index-operands-1.is ∙ c.as_slice-operands.ensures in
    let operands : l ∷ r ∷ [] ≡ node.operands = (λ i. c.in_ok-copy.ensures i ∷ c.in_ok-copy-2.ensures i ∷ []) ∙ both in
    let ours = c.components-ours.ensures.value ∙ sym c.in_ok-copy.ensures in
    let theirs = c.components-theirs.ensures.value ∙ sym c.in_ok-copy-2.ensures in
    record {
      typed = typed-on o c.requires.typed c.rows_of.result l r s (sym c.get.ensures ∙ c.rows_of.ensures) operands c.in_ok-copy-3.ensures;
      rows_are = refl;
      virals_are = c.in_ok-viral_numbers.ensures ∙ ap (numbers_of Viral) ours;
      wants_are =
          c.from_vec.ensures ∙ c.in_ok-push-2.ensures.items ∙ ap (λ (ws : List Want). ws ++ c.in_parts-2.result ∷ []) (c.in_ok-push.ensures.items ∙ ap (λ (ws : List Want). ws ++ c.in_parts.result ∷ []) c.new-wants.ensures.items)
          ∙ (λ i. c.in_parts.ensures i ∷ c.in_parts-2.ensures i ∷ [])
          ∙ wants-built c.rows_of.result l r s c.components-ours.result.now c.components-theirs.result.now c.in_ok-numbers_in.field-0 c.in_ok-numbers_in-2.field-0 ours theirs c.in_ok-numbers_in.ensures c.in_ok-numbers_in-2.ensures;
    }
