use Rattle.std.proofs.Common.{◌≡◌, List, ℕ, subst, ◌∙◌}
use Rattle.std.specs.Prelude.{IfOk}
use Rattle.std.proofs.lemmas.Str.{chars-IsAscii}
use Rattle.vtl_values.proofs.CharsOfTexts.{IsAscii-from_test}
use Rattle.data_set_trees.specs.clauses.After.{made}
use Rattle.rule_typing.proofs.rows.component_named.Goals as goal

pub returns : goal.returns
returns c =
    let text = c.args.name.now in
    let is = c.in_ok-name.ensures ∙ chars-IsAscii text (IsAscii-from_test text c.requires) in
    subst (λ (n : List ℕ). IfOk c.made.result (λ component. component ≡ made c.args.role c.args.kind n)) is c.made.ensures
