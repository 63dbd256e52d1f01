use Rattle.std.proofs.Common.{◌≡◌, refl, List, ℕ, subst}
use Rattle.std.specs.Prelude.{codes, IfOk}
use Rattle.std.proofs.lemmas.Str.{chars-IsAscii}
use Rattle.vtl_values.proofs.CharsOfTexts.{IsAscii-from_test}
use Rattle.result_components.proofs.names.int_var.Goals as goal

pub returns : goal.returns
returns c = subst (λ (n : List ℕ). IfOk c.from_str.result (λ name. name ≡ n)) (chars-IsAscii (codes "int_var") (IsAscii-from_test (codes "int_var") refl)) c.from_str.ensures
