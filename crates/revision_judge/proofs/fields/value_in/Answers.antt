use Rattle.std.proofs.Common.{◌≡◌, ◌↔◌, ℕ, List, Result, Err, subst, refl}
use Rattle.std.specs.Option.{option_copied}
use Rattle.vtl_values.specs.declared.read.BadText.{BadText}
use Rattle.vtl_values.specs.declared.read.ReadStop.{ReadStop}
use Rattle.vtl_values.specs.declared.read.ReadStop.TheVariants.{Bad}
use Rattle.vtl_values.specs.declared.value.Value.{Value}
use Rattle.vtl_values.specs.Texts.{value_of}
use Rattle.revision_judge.specs.Fields.{Cell, value_in, field_or_empty}
use Rattle.revision_judge.specs.Stops.{stop_of_text}
use Rattle.revision_judge.proofs.Cells.{unread, passed_on}
use Rattle.revision_judge.proofs.fields.value_in.Goals as goal

pub returns-in_err-value-clause-err : goal.returns-in_err-value-clause-err
returns-in_err-value-clause-err c =
    let cell : Cell = (c.args.component.now, field_or_empty (option_copied c.args.field)) in
    let stop : ReadStop = c.in_err-value.field-0.0 in
    let read : Result Value ReadStop = Err stop in
    let refused : List ℕ → Type 0 = λ text. (fault : BadText) → (read ≡ Err (Bad fault)) ↔ (value_of c.args.component.now.kind text ≡ Err fault) in
    passed_on (value_in cell) c.from_residual.result (stop_of_text stop) (unread cell read stop (subst refused c.text_in.ensures c.in_err-value.ensures.bad) refl) c.from_residual.ensures.1
