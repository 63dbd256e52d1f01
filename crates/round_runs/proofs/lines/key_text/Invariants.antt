use Rattle.std.proofs.Common.{◌≡◌, map, take}
use Rattle.revision_judge.specs.Fields.{text_in}
use Rattle.round_runs.proofs.lines.key_text.Given as goal

abbrev pub invariant-loop-field : goal.invariant-loop-field
invariant-loop-field l = l.texts.items ≡ map text_in (take l.field-index l.fields)
