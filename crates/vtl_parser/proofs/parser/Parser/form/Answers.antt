use Rattle.vtl_parser.proofs.parser.Parser.form.Goals as goal

pub returns-in-If : goal.returns-in-If
returns-in-If g c = rw c.in-If.is c.conditional.ensures

pub returns-in-Bracket : goal.returns-in-Bracket
returns-in-Bracket g c = rw c.in-Bracket.is c.bracket.ensures

pub returns-in-Signed : goal.returns-in-Signed
returns-in-Signed g c = rw c.in-Signed.is c.signed.ensures

pub returns-in-One : goal.returns-in-One
returns-in-One g c = rw c.in-One.is c.one_operand.ensures

pub returns-in-Two : goal.returns-in-Two
returns-in-Two g c = rw c.in-Two.is c.two_operands.ensures

pub returns-in-Substr : goal.returns-in-Substr
returns-in-Substr g c = rw c.in-Substr.is c.substr.ensures

pub returns-in-Replace : goal.returns-in-Replace
returns-in-Replace g c = rw c.in-Replace.is c.replace.ensures

pub returns-in-Sets : goal.returns-in-Sets
returns-in-Sets g c = rw c.in-Sets.is c.sets.ensures

pub returns-in-Join : goal.returns-in-Join
returns-in-Join g c = rw c.in-Join.is c.join.ensures

pub returns-in-Aggregate : goal.returns-in-Aggregate
returns-in-Aggregate g c = rw c.in-Aggregate.is c.aggregate.ensures

pub returns-in-Count : goal.returns-in-Count
returns-in-Count g c = rw c.in-Count.is c.count.ensures

pub returns-in-Rank : goal.returns-in-Rank
returns-in-Rank g c = rw c.in-Rank.is c.rank.ensures

pub returns-in-Check : goal.returns-in-Check
returns-in-Check g c = rw c.in-Check.is c.check.ensures
