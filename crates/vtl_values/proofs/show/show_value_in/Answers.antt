use Rattle.std.proofs.Common.{◌++◌, ◌∙◌, ap, sym, chars}
use Rattle.std.proofs.lemmas.Str.{chars-nil}
use Rattle.std.specs.Fmt.{signed_decimal}
use Rattle.vtl_values.specs.Texts.{text_of}
use Rattle.vtl_values.proofs.Shown.{chars-integer}
use Rattle.vtl_values.proofs.show.show_value_in.Goals as goal

pub returns-in-Null : goal.returns-in-Null
returns-in-Null c = ap chars c.clear.ensures.bytes ∙ chars-nil ∙ sym (ap text_of c.in-Null.is)

pub returns-in_ok-write-in-Integer : goal.returns-in_ok-write-in-Integer
returns-in_ok-write-in-Integer c =
    ap chars (c.in_ok-write-in-Integer.ensures.bytes ∙ ap (λ t. t ++ signed_decimal c.integer.inside.value) c.clear.ensures.bytes)
    ∙ chars-integer c.integer.inside.value c.integer.invariant
    ∙ ap signed_decimal c.integer.view_is ∙ sym (ap text_of c.in-Integer.is)
