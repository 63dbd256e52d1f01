use Rattle.std.proofs.Common.{map, string_bytes, length, arith}
use Rattle.std.proofs.lemmas.List.{length-map}
use Rattle.commands.proofs.CommandLemmas.{short_produce}
use Rattle.commands.proofs.words.accepts_produce.Goals as goal

pub returns-in_default : goal.returns-in_default
returns-in_default c = short_produce (map string_bytes c.args.words.now) (omega (arith, length-map c.args.words.now string_bytes, c.in_default.len_below))
