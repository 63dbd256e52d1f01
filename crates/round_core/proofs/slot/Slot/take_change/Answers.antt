use Rattle.std.proofs.Common.{subst, sym, refl, arith, inr, List, [], ◌∷◌, ◌≤◌, Bool, cond}
use Rattle.std.specs.declared.sync.Arc.{Arc}
use Rattle.std.specs.declared.alloc.Global.{Global}
use Rattle.std.specs.List.{Contains}
use Rattle.std.proofs.lemmas.List.{set_past}
use Rattle.std.proofs.lemmas.List.Elements.{Contains-push}
use Rattle.point_sets.specs.Changes.{Changes}
use Rattle.round_core.proofs.NameLemmas.{names_it-at}
use Rattle.round_core.proofs.slot.Slot.take_change.Goals as goal

pub returns-then-place-len-clause-slot : goal.returns-then-place-len-clause-slot
returns-then-place-len-clause-slot c = record {
  home = record { sources = refl; stamp = refl; node = refl };
  stage = refl;
  news = inr (c.in-Some.place, c.in-Some-pop.delta, c.in-Some.ensures.found, subst (λ (ds : List (Arc Changes Global)). Contains ds c.in-Some-pop.delta) (sym c.in-Some-pop.ensures.items) (Contains-push c.pop.new.self.items c.in-Some-pop.delta), refl);
}

pub returns-then-place-len-clause-rest : goal.returns-then-place-len-clause-rest
returns-then-place-len-clause-rest c = record {
  gone = c.in-Some-pop.delta ∷ [];
  front = sym c.in-Some-pop.ensures.items;
  count = let t = names_it-at c.args.statement c.in-Some.place c.args.self.now c.in-Some.ensures.found in subst (λ (b : Bool). 1 ≤ cond b 1 0) (sym t) (omega arith);
}

pub returns-else-place-len-clause-slot : goal.returns-else-place-len-clause-slot
returns-else-place-len-clause-slot c = record {
  home = record { sources = refl; stamp = refl; node = refl };
  stage = refl;
  news = inr (c.in-Some.place, c.in-Some-pop.delta, c.in-Some.ensures.found, subst (λ (ds : List (Arc Changes Global)). Contains ds c.in-Some-pop.delta) (sym c.in-Some-pop.ensures.items) (Contains-push c.pop.new.self.items c.in-Some-pop.delta), sym (set_past c.args.self.now.news.items c.in-Some.place c.in-Some-pop.delta (omega (arith, c.if-place-len.false, c.len.ensures))));
}

pub returns-else-place-len-clause-rest : goal.returns-else-place-len-clause-rest
returns-else-place-len-clause-rest c = record {
  gone = c.in-Some-pop.delta ∷ [];
  front = sym c.in-Some-pop.ensures.items;
  count = let t = names_it-at c.args.statement c.in-Some.place c.args.self.now c.in-Some.ensures.found in subst (λ (b : Bool). 1 ≤ cond b 1 0) (sym t) (omega arith);
}
