use Rattle.std.proofs.Common.{◌≡◌, ◌++◌, refl}
use Rattle.vtl_tokens.specs.declared.keyword.Keyword.TheVariants as words
use Rattle.vtl_spelling.specs.Kinds.{Kinds, ◌&◌, key, commas, separated, optional, name, open_paren, close_paren}
use Rattle.vtl_spelling.specs.Rulesets.{semicolon, variable_spelled, hierarchy_rule_spelled, hierarchy_rules_spelled}
use Rattle.vtl_spelling.proofs.Unfolded.{behind, behind_both, last}
use Rattle.vtl_spelling.proofs.rulesets.HierarchyRulesSpell.spell.Goals as goal

pub returns : goal.returns
returns c =
    let o = c.args.out.now.items in
    let r = c.both-5.result in
    let z = c.both-5.new.out.items in
    let x0 : Kinds = key words.Hierarchical in
    let x1 : Kinds = key words.Ruleset in
    let x2 : Kinds = name c.args.self.now.name in
    let x3 : Kinds = open_paren in
    let x4 : Kinds = key words.Variable in
    let x5 : Kinds = optional (λ vs. key words.Condition & commas variable_spelled vs) c.args.self.now.variables in
    let x6 : Kinds = key words.Rule in
    let x7 : Kinds = name c.args.self.now.component in
    let x8 : Kinds = close_paren in
    let x9 : Kinds = key words.Is in
    let x10 : Kinds = separated semicolon hierarchy_rule_spelled c.as_slice.result.now in
    let x11 : Kinds = key words.End in
    let x12 : Kinds = key words.Hierarchical in
    let x13 : Kinds = key words.Ruleset in
    let is : hierarchy_rules_spelled c.args.self.now ≡ x0 ++ (x1 ++ (x2 ++ (x3 ++ (x4 ++ (x5 ++ (x6 ++ (x7 ++ (x8 ++ (x9 ++ (x10 ++ (x11 ++ (x12 ++ x13)))))))))))) = rw (c.as_slice.ensures) refl in
    last r o z (hierarchy_rules_spelled c.args.self.now) (x0 ++ (x1 ++ (x2 ++ (x3 ++ (x4 ++ (x5 ++ (x6 ++ (x7 ++ (x8 ++ (x9 ++ (x10 ++ (x11 ++ (x12 ++ x13))))))))))))) is
    (behind_both r o c.both.new.out.items z x0 x1 (x2 ++ (x3 ++ (x4 ++ (x5 ++ (x6 ++ (x7 ++ (x8 ++ (x9 ++ (x10 ++ (x11 ++ (x12 ++ x13))))))))))) (c.in_ok-both.ensures {u = tt})
    (behind_both r c.both.new.out.items c.both-2.new.out.items z x2 x3 (x4 ++ (x5 ++ (x6 ++ (x7 ++ (x8 ++ (x9 ++ (x10 ++ (x11 ++ (x12 ++ x13))))))))) (c.in_ok-both-2.ensures {u = tt})
    (behind r c.both-2.new.out.items c.spell.new.out.items z x4 (x5 ++ (x6 ++ (x7 ++ (x8 ++ (x9 ++ (x10 ++ (x11 ++ (x12 ++ x13)))))))) (c.in_ok-spell.ensures {u = tt})
    (behind r c.spell.new.out.items c.conditions.new.out.items z x5 (x6 ++ (x7 ++ (x8 ++ (x9 ++ (x10 ++ (x11 ++ (x12 ++ x13))))))) (c.in_ok-conditions.ensures {u = tt})
    (behind_both r c.conditions.new.out.items c.both-3.new.out.items z x6 x7 (x8 ++ (x9 ++ (x10 ++ (x11 ++ (x12 ++ x13))))) (c.in_ok-both-3.ensures {u = tt})
    (behind_both r c.both-3.new.out.items c.both-4.new.out.items z x8 x9 (x10 ++ (x11 ++ (x12 ++ x13))) (c.in_ok-both-4.ensures {u = tt})
    (behind r c.both-4.new.out.items c.separated.new.out.items z x10 (x11 ++ (x12 ++ x13)) (c.in_ok-separated.ensures {u = tt})
    (behind r c.separated.new.out.items c.spell-2.new.out.items z x11 (x12 ++ x13) (c.in_ok-spell-2.ensures {u = tt})
    (behind r c.spell-2.new.out.items (c.spell-2.new.out.items ++ x12) z x12 x13 refl c.both-5.ensures)))))))))
