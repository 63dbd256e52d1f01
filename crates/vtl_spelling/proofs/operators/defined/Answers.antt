use Rattle.std.proofs.Common.{◌≡◌, ◌++◌, refl}
use Rattle.vtl_tokens.specs.declared.keyword.Keyword.TheVariants as words
use Rattle.vtl_spelling.specs.Kinds.{Kinds, key, commas, name, open_paren, close_paren, optional}
use Rattle.vtl_spelling.specs.Trees.{spelled}
use Rattle.vtl_spelling.specs.Operators.{param_spelled, returns_spelled, defined_spelled}
use Rattle.vtl_spelling.proofs.Unfolded.{behind, behind_both, last}
use Rattle.vtl_spelling.proofs.operators.defined.Goals as goal

pub returns : goal.returns
returns c =
    let o = c.args.out.now.items in
    let r = c.both-2.result in
    let z = c.both-2.new.out.items in
    let x0 : Kinds = key words.Operator in
    let x1 : Kinds = name c.args.operator.now.name in
    let x2 : Kinds = open_paren in
    let x3 : Kinds = commas param_spelled c.as_slice.result.now in
    let x4 : Kinds = close_paren in
    let x5 : Kinds = optional returns_spelled c.args.operator.now.returns in
    let x6 : Kinds = key words.Is in
    let x7 : Kinds = spelled c.args.operator.now.body in
    let x8 : Kinds = key words.End in
    let x9 : Kinds = key words.Operator in
    let is : defined_spelled c.args.operator.now ≡ x0 ++ (x1 ++ (x2 ++ (x3 ++ (x4 ++ (x5 ++ (x6 ++ (x7 ++ (x8 ++ x9)))))))) = rw (c.as_slice.ensures) refl in
    last r o z (defined_spelled c.args.operator.now) (x0 ++ (x1 ++ (x2 ++ (x3 ++ (x4 ++ (x5 ++ (x6 ++ (x7 ++ (x8 ++ x9))))))))) is
    (behind_both r o c.both.new.out.items z x0 x1 (x2 ++ (x3 ++ (x4 ++ (x5 ++ (x6 ++ (x7 ++ (x8 ++ x9))))))) (c.in_ok-both.ensures {u = tt})
    (behind r c.both.new.out.items c.spell.new.out.items z x2 (x3 ++ (x4 ++ (x5 ++ (x6 ++ (x7 ++ (x8 ++ x9)))))) (c.in_ok-spell.ensures {u = tt})
    (behind r c.spell.new.out.items c.separated.new.out.items z x3 (x4 ++ (x5 ++ (x6 ++ (x7 ++ (x8 ++ x9))))) (c.in_ok-separated.ensures {u = tt})
    (behind r c.separated.new.out.items c.spell-2.new.out.items z x4 (x5 ++ (x6 ++ (x7 ++ (x8 ++ x9)))) (c.in_ok-spell-2.ensures {u = tt})
    (behind r c.spell-2.new.out.items c.returns.new.out.items z x5 (x6 ++ (x7 ++ (x8 ++ x9))) (c.in_ok-returns.ensures {u = tt})
    (behind r c.returns.new.out.items c.spell-3.new.out.items z x6 (x7 ++ (x8 ++ x9)) (c.in_ok-spell-3.ensures {u = tt})
    (behind r c.spell-3.new.out.items c.expr.new.out.items z x7 (x8 ++ x9) (c.in_ok-expr.ensures {u = tt})
    (behind r c.expr.new.out.items (c.expr.new.out.items ++ x8) z x8 x9 refl c.both-2.ensures))))))))
