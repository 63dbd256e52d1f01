use Rattle.std.proofs.Common.{◌≡◌, ◌+◌, true, false, List, drop, get_or, sym, ap, ◌∙◌}
use Rattle.std.proofs.lemmas.List.{at_drop_more}
use Rattle.vtl_syntax.specs.declared.operator.DefinedOperator.{DefinedOperator}
use Rattle.operator_faults.specs.Names.{same_word}
use Rattle.written_sizes.specs.Weights.{form_of}
use Rattle.written_sizes.proofs.Forms.{form-here, form-later}
use Rattle.written_sizes.proofs.weights.form_of.Goals as goal

pub returns-then-eq : goal.returns-then-eq
returns-then-eq c =
    let os = c.args.operators.now in
    let i = c.loop-i.i in
    let o = c.index-operators-i.result in
    let fs = c.args.forms.now in
    let n = c.args.name.now in
    let e = c.if-eq.ensures in
    let f = c.if-eq.true in
    let same : same_word o.name n ≡ true = cc in
    c.form_at.ensures
    ∙ sym (c.loop-i.invariant ∙ at_drop_more (λ (qs : List DefinedOperator). form_of qs (drop i fs) n) os i o c.loop-i-test.true
    ∙ form-here (get_or os i o) (drop (i + 1) os) n (ap (λ (q : DefinedOperator). same_word q.name n) (sym c.index-operators-i.is) ∙ same) fs i)

pub loop-i-preserved : goal.loop-i-preserved
loop-i-preserved c =
    let os = c.args.operators.now in
    let i = c.loop-i.i in
    let o = c.index-operators-i.result in
    let fs = c.args.forms.now in
    let n = c.args.name.now in
    let e = c.if-eq.ensures in
    let f = c.if-eq.false in
    let other : same_word o.name n ≡ false = cc in
    c.loop-i.invariant ∙ at_drop_more (λ (qs : List DefinedOperator). form_of qs (drop i fs) n) os i o c.loop-i-test.true
    ∙ form-later (get_or os i o) (drop (i + 1) os) n (ap (λ (q : DefinedOperator). same_word q.name n) (sym c.index-operators-i.is) ∙ other) fs i
