use Rattle.std.proofs.Common.{◌≡◌, refl, List, ℕ, subst}
use Rattle.std.specs.Prelude.{IfOk}
use Rattle.std.proofs.lemmas.Str.{chars-IsAscii}
use Rattle.vtl_values.proofs.CharsOfTexts.{IsAscii-from_test}
use Rattle.data_set_trees.specs.Components.{STRING_VAR}
use Rattle.data_set_parts.proofs.names.string_var.Goals as goal

pub returns : goal.returns
returns c = subst (λ (n : List ℕ). IfOk c.from_str.result (λ name. name ≡ n)) (chars-IsAscii STRING_VAR (IsAscii-from_test STRING_VAR refl)) c.from_str.ensures
