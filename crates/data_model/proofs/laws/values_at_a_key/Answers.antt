use Rattle.data_model.proofs.MapLemmas.{get-made_at, get-key_by_key, get-filtered, get-union, get-union_all, get-matched}
use Rattle.data_model.proofs.laws.values_at_a_key.Goals as goal

pub returns-clause-made : goal.returns-clause-made
returns-clause-made g c = get-made_at g.met.K.Ord.total c.requires.exact

pub returns-clause-key_by_key : goal.returns-clause-key_by_key
returns-clause-key_by_key g c = get-key_by_key g.met.K.Ord.total c.requires.exact

pub returns-clause-leftmost : goal.returns-clause-leftmost
returns-clause-leftmost g c = get-union g.met.K.Ord.total c.requires.exact

pub returns-clause-both : goal.returns-clause-both
returns-clause-both g c = get-matched g.met.K.Ord.total c.requires.exact

pub returns-clause-filtered : goal.returns-clause-filtered
returns-clause-filtered g c = get-filtered g.met.K.Ord.total c.requires.exact

pub returns-clause-leftmost_of_all : goal.returns-clause-leftmost_of_all
returns-clause-leftmost_of_all g c = get-union_all g.met.K.Ord.total c.requires.exact
