use Rattle.std.proofs.Common.{Err, ap, ◌∙◌}
use Rattle.commands.specs.Views.{as_bytes}
use Rattle.commands.proofs.StageLemmas.{unread_stands, too_long_stands}
use Rattle.commands.proofs.reading.read_file.Goals as goal

pub returns-in-Err-Failed-clause-stands : goal.returns-in-Err-Failed-clause-stands
returns-in-Err-Failed-clause-stands g c =
    unread_stands as_bytes c.args.name.now c.args.limit (g.S.Shelf.view c.args.shelf.now) (g.S.Shelf.view c.read.new.self) c.read.result c.unread_line.result
    c.read.ensures.files c.read.ensures.later c.read.ensures.rose c.read.ensures.last (c.in-Err-Failed.is ∙ ap Err c.in-Err-Failed.field-0-is) c.unread_line.ensures

pub returns-in-Err-TooLong-clause-stands : goal.returns-in-Err-TooLong-clause-stands
returns-in-Err-TooLong-clause-stands g c =
    too_long_stands as_bytes c.args.name.now c.args.limit _ (g.S.Shelf.view c.args.shelf.now) (g.S.Shelf.view c.read.new.self) c.read.result c.too_long_line.result
    c.read.ensures.files c.read.ensures.later c.read.ensures.kept c.read.ensures.long c.read.ensures.told_long (c.in-Err-TooLong.is ∙ ap Err c.in-Err-TooLong.field-0-is) c.too_long_line.ensures
