use Rattle.std.proofs.Common.{◌≡◌, refl, ap, ◌∙◌}
use Rattle.std.specs.Str.{chars}
use Rattle.csv.specs.Records.{fields_of}
use Rattle.revision_files.proofs.Names.{field_at-chars, found-chars}
use Rattle.revision_files.proofs.columns.text_in.Goals as goal

pub returns : goal.returns
returns c = ap (λ t. chars t.now) c.unwrap_or.ensures ∙ (found-chars c.get.result _ _ c.get.ensures.value refl ∙ field_at-chars (fields_of c.args.row.now) c.args.column)
