use Rattle.std.proofs.Common.{arith}
use Rattle.vtl_parser.proofs.parser.Parser.tail.Goals as goal

pub returns-in-Infix : goal.returns-in-Infix
returns-in-Infix g c = rw c.in-Infix.is c.infix.ensures

pub returns-in-In : goal.returns-in-In
returns-in-In g c = rw c.in-In.is c.member_of_set.ensures

pub returns-in-Member : goal.returns-in-Member
returns-in-Member g c = rw c.in-Member.is c.member.ensures

pub returns-in-Clause : goal.returns-in-Clause
returns-in-Clause g c = rw c.in-Clause.is c.clause_tail.ensures

pub returns-in-Call : goal.returns-in-Call
returns-in-Call g c = rw c.in-Call.is c.call.ensures

pub call-requires : goal.call-requires
call-requires g c = record { reads = c.requires.reads; some = c.requires.some; name = c.requires.name (rw c.in-Call.is (omega arith)) }
