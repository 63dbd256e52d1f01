use Rattle.std.proofs.Common.{◌++◌, ◌∙◌, ap, string_bytes}
use Rattle.std.proofs.Math.Utf8.{encode}
use Rattle.std.specs.Str.{chars}
use Rattle.vtl_values.specs.Texts.{BACKSLASH}
use Rattle.vtl_values.proofs.Shown.{with_backslash, without}
use Rattle.vtl_values.proofs.show.show_text_in.Goals as goal
use Rattle.vtl_values.proofs.show.show_text_in.Goals.{then-needs_backslash+in_ok-push, else-needs_backslash}

pub returns : goal.returns
returns c =
    ap chars c.in_ok-push_str.ensures.bytes ∙ (elim c.if-needs_backslash.branch [
      | then-needs_backslash+in_ok-push w ↦
          ap (λ t. chars (t ++ c.as_str-content.result.now)) (ap string_bytes w.text-is ∙ w.in_ok-push.ensures.bytes ∙ ap (λ t. t ++ encode BACKSLASH) c.clear.ensures.bytes)
          ∙ with_backslash c.as_str-content.result.now c.args.word.now c.as_str-content.ensures.chars w.if-needs_backslash.ensures
      | else-needs_backslash w ↦
          ap (λ t. chars (t ++ c.as_str-content.result.now)) (ap string_bytes w.text-is ∙ c.clear.ensures.bytes)
          ∙ without c.as_str-content.result.now c.args.word.now c.as_str-content.ensures.chars w.if-needs_backslash.ensures
    ])
