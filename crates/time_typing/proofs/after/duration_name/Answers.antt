use Rattle.std.proofs.Common.{◌≡◌, refl, List, ℕ, subst}
use Rattle.std.specs.Prelude.{codes, IfOk}
use Rattle.std.proofs.lemmas.Str.{chars-IsAscii}
use Rattle.vtl_values.proofs.CharsOfTexts.{IsAscii-from_test}
use Rattle.time_typing.proofs.after.duration_name.Goals as goal

pub returns : goal.returns
returns c =
    let word = codes "duration_var" in
    subst (λ (n : List ℕ). IfOk c.from_str.result (λ name. name ≡ n)) (chars-IsAscii word (IsAscii-from_test word refl)) c.from_str.ensures
