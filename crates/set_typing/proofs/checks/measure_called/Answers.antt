use Rattle.std.proofs.Common.{◌≡◌, List, ℕ, subst, ◌∙◌}
use Rattle.std.specs.Prelude.{IfOk}
use Rattle.std.proofs.lemmas.Str.{chars-IsAscii}
use Rattle.vtl_values.specs.declared.kind.Role.TheVariants.{Measure}
use Rattle.vtl_values.proofs.CharsOfTexts.{IsAscii-from_test}
use Rattle.data_set_trees.specs.clauses.After.{made}
use Rattle.set_typing.proofs.checks.measure_called.Goals as goal

pub returns : goal.returns
returns c =
    let text = c.args.name.now in
    let is = c.in_ok-name.ensures ∙ chars-IsAscii text (IsAscii-from_test text c.requires) in
    subst (λ (n : List ℕ). IfOk c.made_measure.result (λ measure. measure ≡ made Measure c.args.kind n)) is c.made_measure.ensures
