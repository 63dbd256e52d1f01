use Rattle.std.proofs.Common.{◌∙◌, ap, sym}
use Rattle.vtl_values.specs.declared.value.Value.TheVariants.{Truth}
use Rattle.vtl_values.specs.Texts.{text_of}
use Rattle.vtl_values.proofs.Shown.{chars-true, chars-false}
use Rattle.vtl_values.proofs.show.truth_word.Goals as goal

pub returns-then-truth : goal.returns-then-truth
returns-then-truth c = chars-true ∙ sym (ap (λ b. text_of (Truth b)) c.if-truth.true)

pub returns-else-truth : goal.returns-else-truth
returns-else-truth c = chars-false ∙ sym (ap (λ b. text_of (Truth b)) c.if-truth.false)
