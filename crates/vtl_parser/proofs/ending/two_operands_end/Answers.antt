use Rattle.vtl_parser.proofs.ending.two_operands_end.Goals as goal

pub returns-in-Binary : goal.returns-in-Binary
returns-in-Binary c = rw c.in-Binary.is c.binary.ensures

pub returns-in-Difference : goal.returns-in-Difference
returns-in-Difference c = rw c.in-Difference.is c.difference.ensures

pub returns-in-ExistsIn : goal.returns-in-ExistsIn
returns-in-ExistsIn c = rw c.in-ExistsIn.is c.exists_in.ensures
