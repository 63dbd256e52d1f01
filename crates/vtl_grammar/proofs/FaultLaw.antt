-- Where reading stops there is a fault.
use Rattle.vtl_grammar.specs.Marks.{Tokens}
use Rattle.vtl_grammar.specs.Reading.{Kind, Expected, TooDeep, TooMany, Halt}
use Rattle.vtl_grammar.specs.Laws.{IsReason, StopsAt, FaultsOf, TellsFaults}

by_kind : (ts : Tokens) (e : Halt) (s : StopsAt ts e) (k : Kind) → IsReason k s.front e.rest → FaultsOf k ts s.front e.rest
by_kind ts e s Expected r = (
  λ w is. record { front = s.front; parts = s.parts; goes_on = s.goes_on; no_further = s.no_further; cause = (r, is) },
  λ none. record { front = s.front; parts = s.parts; goes_on = s.goes_on; no_further = s.no_further; cause = (r, none) },
)
by_kind ts e s TooDeep r = record { front = s.front; parts = s.parts; goes_on = s.goes_on; no_further = s.no_further; cause = r }
by_kind ts e s (TooMany j) r = record { front = s.front; parts = s.parts; goes_on = s.goes_on; no_further = s.no_further; cause = r }

pub tells_faults : TellsFaults
tells_faults ts e s = by_kind ts e s e.kind s.reason
