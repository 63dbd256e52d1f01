use Rattle.std.proofs.Common.{◌≡◌, suc, ◌∙◌, ◌+◌, ◌≤◌, None, arith, sym}
use Rattle.std.proofs.lemmas.Result.{err_from_is_err_and}
use Rattle.vtl_grammar.specs.Reading.{below}
use Rattle.vtl_cursor.specs.Limits.{limits}
use Rattle.vtl_parser.specs.Forms.{prefix_form, leaf_there}
use Rattle.vtl_parser.proofs.Tails.{leaf-low, leaf-read, leaf-name, front-levels, low-read, deep-read, front-halts, front-goes}
use Rattle.vtl_cursor.proofs.Shown.{fails-too}
use Rattle.vtl_parser.proofs.parser.Parser.front.Goals as goal

pub returns-then-own-precedence-clause-read : goal.returns-then-own-precedence-clause-read
returns-then-own-precedence-clause-read g c = leaf-low limits (below limits c.args.self.now.depth) c.args.self.now.depth c.args.precedence c.in-Some.leaf c.in-Some.own c.args.cursor.now.tokens.now (sym c.in_ok-leaf.ensures ∙ c.in-Some.is) (omega arith)

pub returns-in-Some-clause-read : goal.returns-in-Some-clause-read
returns-in-Some-clause-read g c = rw c.skip.ensures (leaf-read limits (below limits c.args.self.now.depth) c.args.self.now.depth c.args.precedence c.in-Some.leaf c.in-Some.own c.args.cursor.now.tokens.now (sym c.in_ok-leaf.ensures ∙ c.in-Some.is) (omega arith))

pub returns-in-Some-clause-name : goal.returns-in-Some-clause-name
returns-in-Some-clause-name g c = leaf-name c.args.cursor.now.tokens.now c.in-Some.leaf c.in-Some.own (sym c.in_ok-leaf.ensures ∙ c.in-Some.is)

pub returns-then-own-precedence-2-clause-read : goal.returns-then-own-precedence-2-clause-read
returns-then-own-precedence-2-clause-read g c =
    let none : leaf_there c.args.cursor.now.tokens.now ≡ None = sym c.in_ok-leaf.ensures ∙ c.in_default.is in
    low-read limits c.args.self.now.depth c.args.precedence (prefix_form c.in-Some-prefix_form_there.prefix) c.in-Some-prefix_form_there.place (below limits c.args.self.now.depth) c.args.cursor.now.tokens.now none (sym c.in-Some-prefix_form_there.ensures) (omega arith)

pub returns-then-self-eq0-clause-read : goal.returns-then-self-eq0-clause-read
returns-then-self-eq0-clause-read g c =
    let none : leaf_there c.args.cursor.now.tokens.now ≡ None = sym c.in_ok-leaf.ensures ∙ c.in_default.is in
    deep-read limits c.args.self.now.depth c.args.precedence (prefix_form c.in-Some-prefix_form_there.prefix) c.in-Some-prefix_form_there.place (below limits c.args.self.now.depth) c.args.cursor.now.tokens.now none (sym c.in-Some-prefix_form_there.ensures) (omega arith) (omega arith)

pub returns-in_err-form-clause-read : goal.returns-in_err-form-clause-read
returns-in_err-form-clause-read g c =
    let none : leaf_there c.args.cursor.now.tokens.now ≡ None = sym c.in_ok-leaf.ensures ∙ c.in_default.is in
    let p = err_from_is_err_and c.from_residual-in_err-form.result c.from_residual-in_err-form.ensures.1 in
    rw (p.1, p.2) (fails-too c.in_err-form.field-0.0 c.form.new.cursor.tokens.now _ _
    (λ k is. front-halts limits c.args.self.now.depth c.args.precedence (prefix_form c.in-Some-prefix_form_there.prefix) c.in-Some-prefix_form_there.place (omega arith) (omega arith) c.args.cursor.now.tokens.now none (sym c.in-Some-prefix_form_there.ensures) k c.form.new.cursor.tokens.now is)
    (rw c.skip-2.ensures at c.in_err-form.ensures))

pub overflow_add-result : goal.overflow_add-result
overflow_add-result g c =
    let none : leaf_there c.args.cursor.now.tokens.now ≡ None = sym c.in_ok-leaf.ensures ∙ c.in_default.is in
    let read = front-goes limits c.args.self.now.depth c.args.precedence (prefix_form c.in-Some-prefix_form_there.prefix) c.in-Some-prefix_form_there.place (omega arith) (omega arith) c.args.cursor.now.tokens.now none (sym c.in-Some-prefix_form_there.ensures) c.in_ok-form.form c.in_ok-form.levels c.form.new.cursor.tokens.now (rw c.skip-2.ensures at c.in_ok-form.ensures) in
    let low : suc c.in_ok-form.levels ≤ c.args.self.now.depth = front-levels limits c.args.self.now.depth c.args.precedence c.args.cursor.now.tokens.now _ _ _ read in
    omega arith

pub returns-clause-read : goal.returns-clause-read
returns-clause-read g c =
    let none : leaf_there c.args.cursor.now.tokens.now ≡ None = sym c.in_ok-leaf.ensures ∙ c.in_default.is in
    let more : suc c.in_ok-form.levels ≡ c.in_ok-form.levels + 1 = omega arith in
    let same : (prefix_form c.in-Some-prefix_form_there.prefix).precedence ≡ c.precedence-own.result = cc in
    rw (same, more) at (front-goes limits c.args.self.now.depth c.args.precedence (prefix_form c.in-Some-prefix_form_there.prefix) c.in-Some-prefix_form_there.place (omega arith) (omega arith) c.args.cursor.now.tokens.now none (sym c.in-Some-prefix_form_there.ensures) c.in_ok-form.form c.in_ok-form.levels c.form.new.cursor.tokens.now (rw c.skip-2.ensures at c.in_ok-form.ensures))

pub returns-clause-name : goal.returns-clause-name
returns-clause-name g c = λ high. absurd (omega arith)
