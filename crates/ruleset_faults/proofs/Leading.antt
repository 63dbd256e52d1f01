-- Which rules lead to which.
use Rattle.std.proofs.Common.{◌≡◌, refl, ℕ, zero, suc, ◌+◌, ◌<◌, ◌==◌, Bool, true, false, ◌||◌, List, [], ◌∷◌, ◌++◌, Option, Some, None, length, map, get_or, sym, ap, ◌∙◌, subst}
use Rattle.std.specs.Prelude.{filter_map, flat_map, position, IfSome, Vec, if◌then◌else◌}
use Rattle.std.specs.declared.alloc.Global.{Global}
use Rattle.std.specs.List.{list_any, cons_option}
use Rattle.std.specs.Option.{is_some}
use Rattle.std.proofs.lemmas.Bool.{eqb-true}
use Rattle.std.proofs.lemmas.List.Elements.{filter_map-append}
use Rattle.std.proofs.lemmas.List.Quantifiers.{position-Some}
use Rattle.vtl_syntax.specs.declared.ruleset.HierarchyRule.{HierarchyRule}
use Rattle.shortest_cycles.specs.Paths.{Graph, contains, targets_of, HasNoCycle}
use Rattle.shortest_cycles.specs.Cycles.{first_cycle}
use Rattle.shortest_cycles.proofs.FirstCycles.{finds_first}
use Rattle.script_graph.specs.Orders.{LeadsWithin, IsOrder}
use Rattle.script_graph.proofs.Orders.{order_acyclic}
use Rattle.ruleset_faults.specs.Items.{works_out, first_for, is_first, right_items, items_for, rules_for, graph_from, graph_of}

-- ---- what the items are worked out from

-- the first of the rules, and then the others
pub of_first : (found : List ℕ → Option ℕ) (item : List ℕ) (r : HierarchyRule) (rs : List HierarchyRule) → filter_map found (items_for (r ∷ rs) item) ≡ filter_map found (if works_out item r then right_items r else []) ++ filter_map found (items_for rs item)
of_first found item r rs = filter_map-append found (if works_out item r then right_items r else []) (items_for rs item)

-- ---- rules lead to rules

first_within : (rules : List HierarchyRule) (d : HierarchyRule) (item : List ℕ) (n : ℕ) → first_for rules item ≡ Some n → n < length rules
first_within rules d item n is = (position-Some (works_out item) rules n d is).0

-- one of them, where one is found
one_within : (rules : List HierarchyRule) (d : HierarchyRule) (item : List ℕ) (o : Option ℕ) (ns : List ℕ) (k : ℕ) → first_for rules item ≡ o → (contains ns k ≡ true → k < length rules) → contains (cons_option o ns) k ≡ true → k < length rules
one_within rules d item None ns k is others has = others has
one_within rules d item (Some n) ns k is others has = by_first (n == k) refl
  where
    by_first : (b : Bool) → (n == k) ≡ b → k < length rules
    by_first true same = subst (λ m. m < length rules) (eqb-true n k same) (first_within rules d item n is)
    by_first false other = others (subst (λ b. (b || contains ns k) ≡ true) other has)

found_within : (rules : List HierarchyRule) (d : HierarchyRule) (items : List (List ℕ)) (k : ℕ) → contains (filter_map (first_for rules) items) k ≡ true → k < length rules
found_within rules d [] k has = absurd (cc has)
found_within rules d (item ∷ items) k has = one_within rules d item (first_for rules item) (filter_map (first_for rules) items) k refl (found_within rules d items k) has

row_within : (rules : List HierarchyRule) (n : ℕ) (r : HierarchyRule) (k : ℕ) (b : Bool) → is_first rules n r ≡ b → contains (rules_for rules n r) k ≡ true → k < length rules
row_within rules n r k true is has = found_within rules r (items_for rules r.left) k (subst (λ (b : Bool). contains (if b then filter_map (first_for rules) (items_for rules r.left) else []) k ≡ true) is has)
row_within rules n r k false is has = absurd (cc (subst (λ (b : Bool). contains (if b then filter_map (first_for rules) (items_for rules r.left) else []) k ≡ true) is has))

from_within : (all : List HierarchyRule) (n : ℕ) (rs : List HierarchyRule) (i k : ℕ) → contains (targets_of (graph_from all n rs) i) k ≡ true → k < length all
from_within all n [] i k has = absurd (cc has)
from_within all n (r ∷ rs) zero k has = row_within all n r k (is_first all n r) refl has
from_within all n (r ∷ rs) (suc i) k has = from_within all (n + 1) rs i k has

length-graph : (all : List HierarchyRule) (n : ℕ) (rs : List HierarchyRule) → length (graph_from all n rs) ≡ length rs
length-graph all n [] = refl
length-graph all n (r ∷ rs) = ap suc (length-graph all (n + 1) rs)

pub leads_within : (rules : List HierarchyRule) → LeadsWithin (graph_of rules)
leads_within rules i k has = subst (λ n. k < n) (sym (length-graph rules 0 rules)) (from_within rules 0 rules i k has)

-- ---- where nothing depends on itself

none_found : (g : Graph) (o : Option (List ℕ)) → first_cycle g ≡ o → HasNoCycle g → o ≡ None
none_found g None is none = refl
none_found g (Some c) is none = let found = finds_first g c is in absurd (none found.start found.by found.shortest.cycle)

pub no_first : (g : Graph) → HasNoCycle g → first_cycle g ≡ None
no_first g none = none_found g (first_cycle g) refl none

-- an order tells that there is no cycle
pub acyclic_where : (g : Graph) (order : Option (Vec ℕ Global)) → is_some order ≡ true → IfSome order (λ numbers. IsOrder g numbers.items) → HasNoCycle g
acyclic_where g None some order = absurd (cc some)
acyclic_where g (Some numbers) some order = order_acyclic g numbers.items order
