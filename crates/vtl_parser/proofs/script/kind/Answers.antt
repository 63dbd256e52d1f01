use Rattle.std.proofs.Common.{refl, ap, sym, ◌∙◌, arith}
use Rattle.std.proofs.lemmas.Result.{err_from_is_err_and}
use Rattle.vtl_grammar.specs.Marks.{Tokens}
use Rattle.vtl_grammar.specs.ScriptReading.{definitions, told}
use Rattle.vtl_cursor.proofs.Shown.{fails-too}
use Rattle.vtl_parser.specs.Scripts.{left_of}
use Rattle.vtl_parser.proofs.PieceKinds.{statement-begins, statement-full, no-kind, definitions-full, definition-told}
use Rattle.vtl_parser.proofs.script.kind.Goals as goal

pub returns-then-len-eq-MOST_STATEMENTS : goal.returns-then-len-eq-MOST_STATEMENTS
returns-then-len-eq-MOST_STATEMENTS c = statement-full c.args.script.now c.args.cursor.now.tokens.now (sym c.is_name.ensures ∙ c.if-is_name.true) (omega arith)

pub returns-then-is_name : goal.returns-then-is_name
returns-then-is_name c = (refl, (omega arith, (c.args.cursor.now.tokens.now, statement-begins c.args.script.now c.args.cursor.now.tokens.now (sym c.is_name.ensures ∙ c.if-is_name.true) (omega arith))))

pub returns-then-not-is_word : goal.returns-then-not-is_word
returns-then-not-is_word c = no-kind c.args.script.now c.args.cursor.now.tokens.now c.requires.more (sym c.is_name.ensures ∙ c.if-is_name.false) (sym c.is_word.ensures ∙ c.if-not-is_word.true)

pub returns-then-not-may_define : goal.returns-then-not-may_define
returns-then-not-may_define c = definitions-full c.args.script.now c.args.cursor.now.tokens.now (sym c.is_name.ensures ∙ c.if-is_name.false) (sym c.is_word.ensures ∙ c.if-not-is_word.false) (sym c.may_define.ensures ∙ c.if-not-may_define.true)

pub returns-in_err-kind : goal.returns-in_err-kind
returns-in_err-kind c =
    let p = err_from_is_err_and c.from_residual.result c.from_residual.ensures.1 in
    rw (p.1, p.2) (fails-too c.in_err-kind.field-0.0 c.skip.new.self.tokens.now _ _
    (λ k is. definition-told c.args.script.now c.args.cursor.now.tokens.now (sym c.is_name.ensures ∙ c.if-is_name.false) (sym c.is_word.ensures ∙ c.if-not-is_word.false) (sym c.may_define.ensures ∙ c.if-not-may_define.false)
    ∙ (ap (λ (us : Tokens). told (left_of c.args.script.now) definitions us) (sym c.skip.ensures) ∙ is))
    c.in_err-kind.ensures)

pub returns : goal.returns
returns c = (
  refl,
  (
    c.in_ok-kind.ensures.0,
    (
      c.skip.new.self.tokens.now,
      definition-told c.args.script.now c.args.cursor.now.tokens.now (sym c.is_name.ensures ∙ c.if-is_name.false) (sym c.is_word.ensures ∙ c.if-not-is_word.false) (sym c.may_define.ensures ∙ c.if-not-may_define.false)
          ∙ (ap (λ (us : Tokens). told (left_of c.args.script.now) definitions us) (sym c.skip.ensures) ∙ c.in_ok-kind.ensures.1),
    ),
  ),
)
