use Rattle.std.proofs.Common.{◌≡◌, sym, ◌∙◌, subst}
use Rattle.std.specs.Str.{IsUtf8}
use Rattle.revision_files.proofs.Reading.{IsUtf8-strip_bom, mark_is, mark_not}
use Rattle.revision_files.proofs.feed.without_mark.Goals as goal

pub returns-in-Some-clause-rest : goal.returns-in-Some-clause-rest
returns-in-Some-clause-rest c = c.in-Some.ensures.cases.1 ∙ sym (mark_is c.args.bytes.now c.in-Some.ensures.cases.0)

pub returns-in-Some-clause-text : goal.returns-in-Some-clause-text
returns-in-Some-clause-text c = λ text. subst IsUtf8 (mark_is c.args.bytes.now c.in-Some.ensures.cases.0 ∙ sym c.in-Some.ensures.cases.1) (IsUtf8-strip_bom c.args.bytes.now text)

pub returns-in-None-clause-rest : goal.returns-in-None-clause-rest
returns-in-None-clause-rest c = sym (mark_not c.args.bytes.now c.in-None.ensures.cases)
