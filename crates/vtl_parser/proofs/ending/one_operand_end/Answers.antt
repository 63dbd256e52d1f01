use Rattle.vtl_parser.proofs.ending.one_operand_end.Goals as goal

pub returns-in-Unary : goal.returns-in-Unary
returns-in-Unary c = rw c.in-Unary.is c.unary.ensures

pub returns-in-Round : goal.returns-in-Round
returns-in-Round c = rw c.in-Round.is c.round.ensures

pub returns-in-Between : goal.returns-in-Between
returns-in-Between c = rw c.in-Between.is c.between.ensures

pub returns-in-MatchCharacters : goal.returns-in-MatchCharacters
returns-in-MatchCharacters c = rw c.in-MatchCharacters.is c.match_characters.ensures

pub returns-in-Window : goal.returns-in-Window
returns-in-Window c = rw c.in-Window.is c.window.ensures

pub returns-in-Offset : goal.returns-in-Offset
returns-in-Offset c = rw c.in-Offset.is c.offset.ensures

pub returns-in-CheckDatapoint : goal.returns-in-CheckDatapoint
returns-in-CheckDatapoint c = rw c.in-CheckDatapoint.is c.check_datapoint.ensures

pub returns-in-Hierarchy : goal.returns-in-Hierarchy
returns-in-Hierarchy c = rw c.in-Hierarchy.is c.hierarchy.ensures

pub returns-in-CheckHierarchy : goal.returns-in-CheckHierarchy
returns-in-CheckHierarchy c = rw c.in-CheckHierarchy.is c.check_hierarchy.ensures

pub returns-in-Time : goal.returns-in-Time
returns-in-Time c = rw c.in-Time.is c.time.ensures

pub returns-in-Timeshift : goal.returns-in-Timeshift
returns-in-Timeshift c = rw c.in-Timeshift.is c.timeshift.ensures

pub returns-in-FillTimeSeries : goal.returns-in-FillTimeSeries
returns-in-FillTimeSeries c = rw c.in-FillTimeSeries.is c.fill_time_series.ensures
