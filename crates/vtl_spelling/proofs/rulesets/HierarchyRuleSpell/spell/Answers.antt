use Rattle.std.proofs.Common.{◌≡◌, ◌++◌, refl}
use Rattle.std.specs.List.{flat_map}
use Rattle.vtl_spelling.specs.Kinds.{Kinds, one, optional, name}
use Rattle.vtl_grammar.specs.Words.{plus_or_minus}
use Rattle.vtl_spelling.specs.Words.{written}
use Rattle.vtl_spelling.specs.Rulesets.{label, condition_spelled, signed_name_spelled, fault_spelled, hierarchy_rule_spelled}
use Rattle.vtl_spelling.proofs.Unfolded.{behind, last}
use Rattle.vtl_spelling.proofs.rulesets.HierarchyRuleSpell.spell.Goals as goal

pub returns : goal.returns
returns c =
    let o = c.args.out.now.items in
    let r = c.spell-3.result in
    let z = c.spell-3.new.out.items in
    let x0 : Kinds = optional label c.args.self.now.name in
    let x1 : Kinds = optional condition_spelled c.args.self.now.condition in
    let x2 : Kinds = name c.args.self.now.left in
    let x3 : Kinds = one c.written.result in
    let x4 : Kinds = optional (λ s. one (written plus_or_minus s)) c.args.self.now.sign in
    let x5 : Kinds = name c.args.self.now.first in
    let x6 : Kinds = flat_map signed_name_spelled c.as_slice.result.now in
    let x7 : Kinds = fault_spelled c.args.self.now.fault in
    let is : hierarchy_rule_spelled c.args.self.now ≡ x0 ++ (x1 ++ (x2 ++ (x3 ++ (x4 ++ (x5 ++ (x6 ++ x7)))))) = rw (c.written.ensures, c.as_slice.ensures) refl in
    last r o z (hierarchy_rule_spelled c.args.self.now) (x0 ++ (x1 ++ (x2 ++ (x3 ++ (x4 ++ (x5 ++ (x6 ++ x7))))))) is
    (behind r o c.rule_name.new.out.items z x0 (x1 ++ (x2 ++ (x3 ++ (x4 ++ (x5 ++ (x6 ++ x7)))))) (c.in_ok-rule_name.ensures {u = tt})
    (behind r c.rule_name.new.out.items c.condition.new.out.items z x1 (x2 ++ (x3 ++ (x4 ++ (x5 ++ (x6 ++ x7))))) (c.in_ok-condition.ensures {u = tt})
    (behind r c.condition.new.out.items c.spell.new.out.items z x2 (x3 ++ (x4 ++ (x5 ++ (x6 ++ x7)))) (c.in_ok-spell.ensures {u = tt})
    (behind r c.spell.new.out.items c.push.new.out.items z x3 (x4 ++ (x5 ++ (x6 ++ x7))) (c.in_ok-push.ensures {u = tt})
    (behind r c.push.new.out.items c.chosen.new.out.items z x4 (x5 ++ (x6 ++ x7)) (c.in_ok-chosen.ensures {u = tt})
    (behind r c.chosen.new.out.items c.spell-2.new.out.items z x5 (x6 ++ x7) (c.in_ok-spell-2.ensures {u = tt})
    (behind r c.spell-2.new.out.items c.each.new.out.items z x6 x7 (c.in_ok-each.ensures {u = tt})
    c.spell-3.ensures)))))))
