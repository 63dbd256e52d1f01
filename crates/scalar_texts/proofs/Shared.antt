-- A built pattern may be sent to threads and shared by them. For a type above that holds one, by itself or behind an `Arc`:
-- `search (pattern_send, pattern_sync, crosses, sendable)`, with `crosses` of `Rattle.std.proofs.Crossing`.
use Rattle.std.proofs.Crossing.{crosses}
use Rattle.regex_hir.proofs.hir.Hir.TheLaws.TheKnot as knot
use Rattle.regex_dfa.proofs.dfa.Dfa.TheSendSync as dfa
use Rattle.regex_literal.proofs.caseless.Caseless.TheSendSync as caseless
use Rattle.regex_literal.proofs.prefilter.Prefilter.TheSendSync as filter
use Rattle.regex_literal.proofs.byte_set.ByteSet.TheSendSync as bytes
use Rattle.regex_extract.proofs.frames.Frame.TheSendSync as frame
use Rattle.regex_meta.proofs.plan.Role.TheSendSync as role
use denote.Param.Send.{IsSend, IsSync, sendable}
use denote.Param.SendFields.{declared_send, declared_sync}
use Rattle.regex.specs.contracts.string.regex.Regex as Regex
use Rattle.regex.specs.contracts.pattern.Pattern as Compiled
use Rattle.regex_meta.specs.contracts.program.Program as Program
use Rattle.scalar_texts.specs.contracts.patterns.Pattern as Pattern
use Rattle.scalar_texts.specs.contracts.patterns.Pattern.TheInside as Inside

-- what the parts of a compiled program are made of
ruleset parts = (dfa.the_send, dfa.the_sync, caseless.the_send, caseless.the_sync, frame.the_send, frame.the_sync, role.the_send, role.the_sync, filter.the_send, filter.the_sync, bytes.the_send, bytes.the_sync, crosses, knot.crosses, sendable)

program_send : IsSend Program.the_row
program_send = declared_send Program.the_type (search parts depth 60 fits 20000)

program_sync : IsSync Program.the_row
program_sync = declared_sync Program.the_type (search parts depth 60 fits 20000)

compiled_send : IsSend Compiled.the_row
compiled_send = declared_send Compiled.the_type (search (program_send, crosses, sendable) depth 60 fits 20000)

compiled_sync : IsSync Compiled.the_row
compiled_sync = declared_sync Compiled.the_type (search (program_sync, crosses, sendable) depth 60 fits 20000)

inside_send : IsSend Inside.the_row
inside_send = declared_send Inside.the_type (declared_send Regex.the_type (compiled_send, tt), (search (crosses, sendable) depth 20, tt))

inside_sync : IsSync Inside.the_row
inside_sync = declared_sync Inside.the_type (declared_sync Regex.the_type (compiled_sync, tt), (search (crosses, sendable) depth 20, tt))

pub pattern_send : IsSend Pattern.the_row
pattern_send = search (inside_send, sendable)

pub pattern_sync : IsSync Pattern.the_row
pattern_sync = search (inside_sync, sendable)
