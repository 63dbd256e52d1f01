use Rattle.std.proofs.Common.{map, string_bytes, length, arith}
use Rattle.std.proofs.lemmas.List.{length-map}
use Rattle.commands.proofs.CommandLemmas.{short_session, long_session}
use Rattle.commands.proofs.words.accepts_session.Goals as goal

pub returns-in_default : goal.returns-in_default
returns-in_default c = short_session (map string_bytes c.args.words.now) (omega (arith, length-map c.args.words.now string_bytes, c.in_default.len_below))

pub returns-in_default-2 : goal.returns-in_default-2
returns-in_default-2 c = long_session (map string_bytes c.args.words.now) (omega (arith, length-map c.args.words.now string_bytes, c.in_default.len_at_least))
