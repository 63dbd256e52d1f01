-- Trees: what is carried operand by operand is carried.
use Rattle.std.proofs.Common.{◌≡◌, ℕ, zero, suc, ◌+◌, ◌<◌, List, [], ◌∷◌, ◌++◌, map, take, drop, set, get_or, length, Ok, Err, Result, Option, Some, None, refl, sym, ◌∙◌, ap, subst, arith, zero-add}
use Rattle.std.specs.Option.{IfSome}
use Rattle.std.specs.Arc.{arc_value}
use Rattle.std.specs.FinMap.{len}
use Rattle.std.specs.List.{sum}
use Rattle.std.proofs.lemmas.List.{map-append, take_more}
use Rattle.std.proofs.lemmas.List.Sums.{sum_by-append}
use Rattle.vtl_values.specs.declared.structure.Component.{Component}
use Rattle.vtl_values.specs.declared.place.Place.{Place}
use Rattle.data_model.specs.Deltas.{Leads}
use Rattle.data_model.specs.Outcomes.{Made}
use Rattle.point_sets.specs.DataSets.{DataSet}
use Rattle.point_sets.specs.Changes.{Changes}
use Rattle.data_set_trees.specs.checked.Expressions.{Applied, more as operand_and}
use Rattle.data_set_trees.specs.checked.Typing.{HaveStructures}
use Rattle.operator_meaning.specs.Operators.{meaning_of}
use Rattle.operator_meaning.specs.Results.{Wrong, Evaluated, sets_of, points_of, placed, worked, gathered, result_of, results_of}
use Rattle.operator_meaning.proofs.FitLemmas.{gathered-ok, results_of-fit}
use Rattle.held_index.specs.Holdings.{Holding}
use Rattle.transform_nodes.specs.Halts.{wrong_in}
use Rattle.transform_nodes.specs.Runs.{news_of, AllLeads, IsWork, IsWorked, WorkAnswer, WorksRight, Moves, IsRunnable, AreRunnable, RanOne, RanAll, RunsRight}
use Rattle.transform_nodes.specs.Trees.{Plain, Plains, Source, Operates, none, more, plains_of, expression, all_expressions, counted, Holds, HoldsOn, StandsOn, AllStandOn, applied, all_applied, forgotten, all_forgotten, count_of, IsFit, AllFit, HasPatches, AllHavePatches}
use Rattle.transform_nodes.specs.declared.carry.Ran.{Ran}
use Rattle.transform_nodes.specs.declared.halt.Halt.{Halt}
use Rattle.transform_nodes.specs.declared.operate.Worked.{Worked}
use Rattle.data_set_trees.specs.checked.Operators.{Operator}
use Rattle.transform_nodes.proofs.SettleLemmas.{take_set}

-- ---- what a tree works out doesn't go by what it holds

mutual
  expression-forgotten : (p : Plain) → expression (forgotten p) ≡ expression p
  expression-forgotten (Source n) = refl
  expression-forgotten (Operates rule place ps held points pending pp) = ap (Applied rule place) (all_expressions-forgotten ps)

  all_expressions-forgotten : (ps : Plains) → all_expressions (all_forgotten ps) ≡ all_expressions ps
  all_expressions-forgotten none = refl
  all_expressions-forgotten (more p ps) = let a = expression-forgotten p in let b = all_expressions-forgotten ps in (λ i. operand_and (a i) (b i))

mutual
  pub expression-applied : (p : Plain) → expression (applied p) ≡ expression p
  expression-applied (Source n) = refl
  expression-applied (Operates rule place ps held points pending pp) = ap (Applied rule place) (all_expressions-applied ps)

  all_expressions-applied : (ps : Plains) → all_expressions (all_applied ps) ≡ all_expressions ps
  all_expressions-applied none = refl
  all_expressions-applied (more p ps) = let a = expression-applied p in let b = all_expressions-applied ps in (λ i. operand_and (a i) (b i))

pub expression-kept : (p q : Plain) → forgotten q ≡ forgotten p → expression q ≡ expression p
expression-kept p q e = sym (expression-forgotten q) ∙ ap expression e ∙ expression-forgotten p

all_expressions-kept : (ps qs : Plains) → all_forgotten qs ≡ all_forgotten ps → all_expressions qs ≡ all_expressions ps
all_expressions-kept ps qs e = sym (all_expressions-forgotten qs) ∙ ap all_expressions e ∙ all_expressions-forgotten ps

-- ---- operands, one after another

results-push : (sets : ℕ → DataSet) (ps : List Plain) (p : Plain) (vs : List Evaluated) (v : Evaluated) → results_of sets (all_expressions (plains_of ps)) ≡ Ok vs → result_of sets (expression p) ≡ Ok v → results_of sets (all_expressions (plains_of (ps ++ p ∷ []))) ≡ Ok (vs ++ v ∷ [])
results-push sets [] p vs v e h =
    let nothing : ◌≡◌ {A = List Evaluated} [] vs = cc in
    ap (λ r. gathered r (Ok [])) h ∙ ap (λ (ws : List Evaluated). Ok (ws ++ v ∷ [])) nothing
results-push sets (q ∷ ps) p vs v e h =
    let g = gathered-ok (result_of sets (expression q)) (results_of sets (all_expressions (plains_of ps))) vs e in
    ap (λ r. gathered r (results_of sets (all_expressions (plains_of (ps ++ p ∷ []))))) g.first_is
    ∙ ap (gathered (Ok g.first)) (results-push sets ps p g.rest v g.rest_is h)
    ∙ ap (λ (ws : List Evaluated). Ok (ws ++ v ∷ [])) g.all_are

-- after operands that have data sets, the first that has a fault is the fault of all
results-wrong : (sets : ℕ → DataSet) (ps rest : List Plain) (p : Plain) (vs : List Evaluated) (w : Wrong) → results_of sets (all_expressions (plains_of ps)) ≡ Ok vs → result_of sets (expression p) ≡ Err w → results_of sets (all_expressions (plains_of (ps ++ p ∷ rest))) ≡ Err w
results-wrong sets [] rest p vs w e h = ap (λ r. gathered r (results_of sets (all_expressions (plains_of rest)))) h
results-wrong sets (q ∷ ps) rest p vs w e h =
    let g = gathered-ok (result_of sets (expression q)) (results_of sets (all_expressions (plains_of ps))) vs e in
    ap (λ r. gathered r (results_of sets (all_expressions (plains_of (ps ++ p ∷ rest))))) g.first_is
    ∙ ap (gathered (Ok g.first)) (results-wrong sets ps rest p g.rest w g.rest_is h)

leads-push : (ds : List Changes) (xs ys : List DataSet) (d : Changes) (x y : DataSet) → AllLeads ds xs ys → Leads d x y → AllLeads (ds ++ d ∷ []) (xs ++ x ∷ []) (ys ++ y ∷ [])
leads-push [] [] [] d x y h l = (l, tt)
leads-push [] [] (v ∷ ys) d x y h l = absurd h
leads-push [] (u ∷ xs) ys d x y h l = absurd h
leads-push (e ∷ ds) [] ys d x y h l = absurd h
leads-push (e ∷ ds) (u ∷ xs) [] d x y h l = absurd h
leads-push (e ∷ ds) (u ∷ xs) (v ∷ ys) d x y h l = (h.0, leads-push ds xs ys d x y h.1 l)

stand-push : (qs : List Plain) (q : Plain) (sets : ℕ → DataSet) → AllStandOn (all_applied (plains_of qs)) sets → StandsOn (applied q) sets → AllStandOn (all_applied (plains_of (qs ++ q ∷ []))) sets
stand-push [] q sets h s = (s, tt)
stand-push (p ∷ qs) q sets h s = (h.0, stand-push qs q sets h.1 s)

patches-push : (qs : List Plain) (q : Plain) → AllHavePatches (plains_of qs) → HasPatches q → AllHavePatches (plains_of (qs ++ q ∷ []))
patches-push [] q h s = (s, tt)
patches-push (p ∷ qs) q h s = (h.0, patches-push qs q h.1 s)

sets-push : (vs : List Evaluated) (v : Evaluated) → sets_of (vs ++ v ∷ []) ≡ sets_of vs ++ v.set ∷ []
sets-push vs v = map-append (λ (e : Evaluated). e.set) vs (v ∷ [])

points-push : (vs : List Evaluated) (v : Evaluated) → points_of (vs ++ v ∷ []) ≡ points_of vs + v.points
points-push vs v = ap sum (map-append (λ (e : Evaluated). e.points) vs (v ∷ [])) ∙ sum_by-append (λ (n : ℕ). n) (map (λ (e : Evaluated). e.points) vs) (v.points ∷ []) ∙ ap (λ (n : ℕ). points_of vs + n) (zero-add v.points)

counted_sum : (a b j k total : ℕ) → k ≡ counted a → j ≡ counted b → total ≡ counted (k + j) → total ≡ counted (a + b)
counted_sum a b j k total ek ej et = omega arith

module _ (news : List Changes) (m : Moves news) where
  pub ran_none : RanAll news m [] [] [] 0
  ran_none = record { before = []; after = []; was = refl; is = refl; leads = tt; counts = refl; patches = tt; stands = tt }

  pub ran_more : (ps qs : List Plain) (ds : List Changes) (k : ℕ) (p q : Plain) (d : Changes) (j total : ℕ) → RanAll news m ps qs ds k → RanOne news m p q d j → total ≡ counted (k + j) → RanAll news m (ps ++ p ∷ []) (qs ++ q ∷ []) (ds ++ d ∷ []) total
  ran_more ps qs ds k p q d j total h o e =
      let l = leads-push ds (sets_of h.before) (sets_of h.after) d o.before.set o.after.set h.leads o.leads in
      let l' = subst (λ (xs : List DataSet). AllLeads (ds ++ d ∷ []) xs (sets_of h.after ++ o.after.set ∷ [])) (sym (sets-push h.before o.before)) l in
      record {
        before = h.before ++ o.before ∷ [];
        after = h.after ++ o.after ∷ [];
        was = results-push m.old ps p h.before o.before h.was o.was;
        is = results-push m.new ps p h.after o.after h.is o.is;
        leads = subst (λ (ys : List DataSet). AllLeads (ds ++ d ∷ []) (sets_of (h.before ++ o.before ∷ [])) ys) (sym (sets-push h.after o.after)) l';
        counts = counted_sum (points_of h.after) o.after.points j k total h.counts o.counts e ∙ ap counted (sym (points-push h.after o.after));
        patches = patches-push qs q h.patches o.patches;
        stands = stand-push qs q m.new h.stands o.stands;
      }

  runnable_from : (ps : List Plain) (ts : List (List Component)) (i : ℕ) (d : Plain) → HaveStructures m.structures (all_expressions (plains_of ps)) ts → AllStandOn (plains_of ps) m.old → i < length ps → IsRunnable news m (get_or ps i d)
  runnable_from [] ts i d h s l = absurd (omega arith)
  runnable_from (p ∷ ps) [] i d h s l = absurd h
  runnable_from (p ∷ ps) (t ∷ ts) zero d h s l = record { structure = t; typed = h.0; stands = s.0 }
  runnable_from (p ∷ ps) (t ∷ ts) (suc i) d h s l = runnable_from ps ts i d h.1 s.1 (omega arith)

  pub runnable_at : (ps : List Plain) (i : ℕ) (d : Plain) → AreRunnable news m (plains_of ps) → i < length ps → IsRunnable news m (get_or ps i d)
  runnable_at ps i d h l = runnable_from ps h.structures i d h.typed h.stands l

pub wrong_all : (o : Option Wrong) (P Q : Wrong → Type 0) → ((w : Wrong) → P w → Q w) → IfSome o P → IfSome o Q
wrong_all None P Q f h = tt
wrong_all (Some w) P Q f h = f w h

pub name_right : (news : List Changes) (n : ℕ) (ran : Ran) → n < length news → arc_value ran.delta ≡ news_of n news → ran.points ≡ 0 → RunsRight news (Source n) (Source n) (Ok ran)
name_right news n ran within delta points = λ m can. record {
  before = record { set = m.old n; points = 0 };
  after = record { set = m.new n; points = 0 };
  was = refl;
  is = refl;
  leads = subst (λ (d : Changes). Leads d (m.old n) (m.new n)) (sym delta) (m.lead n within);
  counts = points;
  patches = tt;
  stands = tt;
}

-- ---- an operator, after its operands

pub work_along : (rule : Operator) (h h' : List Holding) (ds ds' : List Changes) (b : ℕ) (zs ys : List DataSet) → h' ≡ h → ds' ≡ ds → IsWork rule h ds b zs ys → IsWork rule h' ds' b zs ys
work_along rule h h' ds ds' b zs ys p q w = subst (λ (t : List Holding). IsWork rule t ds' b zs ys) (sym p) (subst (λ (t : List Changes). IsWork rule h t b zs ys) (sym q) w)

pub works_along : (rule : Operator) (place : Place) (h h' : List Holding) (ds ds' : List Changes) (b : ℕ) (r : Result Worked Halt) → h ≡ h' → ds ≡ ds' → WorksRight rule place h ds b r → WorksRight rule place h' ds' b r
works_along rule place h h' ds ds' b r p q w = subst (λ (t : List Holding). WorksRight rule place t ds' b r) p (subst (λ (t : List Changes). WorksRight rule place h t b r) q w)

module _ (rule : Operator) (place : Place) (ps qs : List Plain) (held : List Holding) (points : ℕ) (pending : List Holding) (pp : ℕ) where
  abbrev tree : Plain
  tree = Operates rule place (plains_of ps) held points pending pp

  pub operands_runnable : (news : List Changes) (m : Moves news) → IsRunnable news m tree → AreRunnable news m (plains_of ps)
  operands_runnable news m can = record { structures = rule.operands; typed = can.typed.2; stands = can.stands.0 }

  pub operands_wrong : (sets : ℕ → DataSet) (halt : Halt) → IfSome (wrong_in halt) (λ w. results_of sets (all_expressions (plains_of ps)) ≡ Err w) → IfSome (wrong_in halt) (λ w. result_of sets (expression tree) ≡ Err w)
  operands_wrong sets halt h = wrong_all (wrong_in halt) (λ w. results_of sets (all_expressions (plains_of ps)) ≡ Err w) (λ w. result_of sets (expression tree) ≡ Err w) (λ w e. ap (worked rule place) e) h

  module _ (news : List Changes) (m : Moves news) (can : IsRunnable news m tree) (ds : List Changes) (k : ℕ) (ran : RanAll news m ps qs ds k) where
    pub tree_work : IsWork rule held ds points (sets_of ran.before) (sets_of ran.after)
    tree_work = record {
      typed = can.typed.1;
      old_fit = results_of-fit m.structures m.old m.old_fit (all_expressions (plains_of ps)) rule.operands ran.before can.typed.2 ran.was;
      new_fit = results_of-fit m.structures m.new m.new_fit (all_expressions (plains_of ps)) rule.operands ran.after can.typed.2 ran.is;
      leads = ran.leads;
      holds = subst (λ (r : Result (List Evaluated) Wrong). HoldsOn rule r held points) ran.was can.stands.1;
    }

    pub tree_wrong : (x : DataSet) (halt : Halt) → WorkAnswer rule place held (sets_of ran.after) x (Err halt) → IfSome (wrong_in halt) (λ w. result_of m.new (expression tree) ≡ Err w)
    tree_wrong x halt h = wrong_all (wrong_in halt) (λ w. (n : ℕ) → placed place n (meaning_of rule (sets_of ran.after)) ≡ Err w) (λ w. result_of m.new (expression tree) ≡ Err w) (λ w e. ap (worked rule place) ran.is ∙ e (points_of ran.after)) h

    pub tree_right : (done : Worked) (total : ℕ) → IsWorked rule held (sets_of ran.after) (tree_work).holds.made done → all_forgotten (plains_of qs) ≡ all_forgotten (plains_of ps) → total ≡ counted (k + done.points)
        → RanOne news m tree (Operates rule place (plains_of qs) held points done.patches.items done.points) (arc_value done.delta) total
    unfolding tree_work
    tree_right done total w kept e =
        let old : Holds rule (sets_of ran.before) held points = subst (λ (r : Result (List Evaluated) Wrong). HoldsOn rule r held points) ran.was can.stands.1 in
        let same : w.holds.made ≡ w.new = let made : Made w.holds.made ≡ Made w.new = sym w.holds.gives ∙ w.gives in cc in
        let count : done.points ≡ len w.new = sym w.holds.count ∙ ap len same in
        let few = w.few in
        record {
          before = record { set = old.made; points = points_of ran.before + len old.made };
          after = record { set = w.new; points = points_of ran.after + len w.new };
          was = ap (worked rule place) ran.was ∙ ap (placed place (points_of ran.before)) old.gives;
          is = ap (worked rule place) ran.is ∙ ap (placed place (points_of ran.after)) w.gives;
          leads = w.leads;
          counts = counted_sum (points_of ran.after) (len w.new) done.points k total ran.counts (omega (arith, count, few)) e;
          patches = (ran.patches, w.long, w.few);
          stands = (ran.stands, subst (λ (r : Result (List Evaluated) Wrong). HoldsOn rule r done.patches.items done.points) (sym (ap (results_of m.new) (all_expressions-applied (plains_of qs) ∙ all_expressions-kept (plains_of ps) (plains_of qs) kept) ∙ ran.is)) w.holds);
        }

-- ---- the i-th of a list of operands

pub fit_at : (n : ℕ) (ps : List Plain) (i : ℕ) (d : Plain) → AllFit n (plains_of ps) → i < length ps → IsFit n (get_or ps i d)
fit_at n [] i d h l = absurd (omega arith)
fit_at n (p ∷ ps) zero d h l = h.0
fit_at n (p ∷ ps) (suc i) d h l = fit_at n ps i d h.1 (omega arith)

set_kept : (qs : List Plain) (i : ℕ) (q d : Plain) → forgotten q ≡ forgotten (get_or qs i d) → i < length qs → all_forgotten (plains_of (set qs i q)) ≡ all_forgotten (plains_of qs)
set_kept [] i q d e l = absurd (omega arith)
set_kept (p ∷ qs) zero q d e l = ap (λ (t : Plain). more t (all_forgotten (plains_of qs))) e
set_kept (p ∷ qs) (suc i) q d e l = ap (λ (t : Plains). more (forgotten p) t) (set_kept qs i q d e (omega arith))

pub count_plains : (ps : List Plain) → count_of (plains_of ps) ≡ length ps
count_plains [] = refl
count_plains (p ∷ ps) = let h = count_plains ps in omega (arith, h)

split_at : {X : Type 0} (xs : List X) (i : ℕ) (d : X) → i < length xs → take i xs ++ get_or xs i d ∷ drop (suc i) xs ≡ xs
split_at [] i d l = absurd (omega arith)
split_at (y ∷ xs) zero d l = refl
split_at (y ∷ xs) (suc i) d l = ap (λ t. y ∷ t) (split_at xs i d (omega arith))

-- P as they were, Q as they are, p the old one at i and q the new one
module _ (P Q : List Plain) (i : ℕ) (p q : Plain) (within : i < length P) (long : length Q ≡ length P) (old : p ≡ get_or P i p) (current : p ≡ get_or Q i p) where
  pub child_kept : all_forgotten (plains_of Q) ≡ all_forgotten (plains_of P) → forgotten q ≡ forgotten p → all_forgotten (plains_of (set Q i q)) ≡ all_forgotten (plains_of P)
  child_kept k e = set_kept Q i q p (e ∙ ap forgotten current) (omega (arith, within, long)) ∙ k

  module _ (news : List Changes) (m : Moves news) (can : AreRunnable news m (plains_of P)) where
    pub child_runnable : IsRunnable news m p
    child_runnable = subst (λ (t : Plain). IsRunnable news m t) (sym old) (runnable_at news m P i p can within)

    module _ (ds : List Changes) (k : ℕ) (ran : RanAll news m (take i P) (take i Q) ds k) where
      pub child_wrong : (halt : Halt) → RunsRight news p q (Err halt) → IfSome (wrong_in halt) (λ w. results_of m.new (all_expressions (plains_of P)) ≡ Err w)
      child_wrong halt right =
          wrong_all (wrong_in halt) (λ w. result_of m.new (expression p) ≡ Err w) (λ w. results_of m.new (all_expressions (plains_of P)) ≡ Err w)
          (λ w e. subst (λ (t : List Plain). results_of m.new (all_expressions (plains_of t)) ≡ Err w) (split_at P i p within)
          (results-wrong m.new (take i P) (drop (suc i) P) (get_or P i p) ran.after w ran.is (subst (λ (t : Plain). result_of m.new (expression t) ≡ Err w) old e)))
          (right m child_runnable)

      pub child_more : (one : Ran) (total : ℕ) → RunsRight news p q (Ok one) → total ≡ counted (k + one.points) → RanAll news m (take (i + 1) P) (take (i + 1) (set Q i q)) (ds ++ arc_value one.delta ∷ []) total
      child_more one total right e =
          let a : take i P ++ p ∷ [] ≡ take (i + 1) P = ap (λ (t : Plain). take i P ++ t ∷ []) old ∙ sym (take_more P i p within) in
          let b : take i Q ++ q ∷ [] ≡ take (i + 1) (set Q i q) = sym (take_set Q i q (omega (arith, within, long))) in
          subst (λ (t : List Plain). RanAll news m t (take (i + 1) (set Q i q)) (ds ++ arc_value one.delta ∷ []) total) a
          (subst (λ (t : List Plain). RanAll news m (take i P ++ p ∷ []) t (ds ++ arc_value one.delta ∷ []) total) b
          (ran_more news m (take i P) (take i Q) ds k p q (arc_value one.delta) one.points total ran (right m child_runnable) e))
