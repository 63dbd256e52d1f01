use Rattle.std.proofs.Common.{◌∙◌}
use Rattle.std.proofs.lemmas.Str.{IsUtf8-string_bytes}
use Rattle.vtl_values.proofs.TextOrder.{pointwise-chars}
use Rattle.vtl_values.proofs.word.WordPartialEq.eq.Goals as goal

pub returns : goal.returns
returns c =
    rw (← c.self.view_is, ← c.other.view_is)
    (c.eq.ensures ∙ pointwise-chars _ _ (IsUtf8-string_bytes c.self.inside.text.text.value) (IsUtf8-string_bytes c.other.inside.text.text.value))
