-- The calls of a script can be replaced one after the other.
use Rattle.std.proofs.Common.{◌≡◌, ℕ, ◌+◌, ◌<◌, List, [], ◌∷◌, Option, Some, None, map, length, refl, sym, ap, ◌∙◌, subst, arith}
use Rattle.std.specs.Option.{option_map}
use Rattle.vtl_syntax.specs.declared.expr.Clause.TheBlock.{member-Expr}
use Rattle.vtl_syntax.specs.declared.expr.Expr.{Expr}
use Rattle.vtl_syntax.specs.declared.operator.DefinedOperator.{DefinedOperator}
use Rattle.vtl_syntax.specs.declared.ruleset.Ruleset.{Ruleset}
use Rattle.vtl_syntax.specs.declared.ruleset.Ruleset.TheVariants as kind
use Rattle.vtl_syntax.specs.declared.ruleset.DatapointRule.{DatapointRule}
use Rattle.vtl_syntax.specs.declared.ruleset.HierarchyRule.{HierarchyRule}
use Rattle.vtl_syntax.specs.declared.script.Statement.{Statement}
use Rattle.vtl_syntax.specs.declared.script.Script.{Script}
use Rattle.replaced_calls.specs.Replacing.{written}
use Rattle.replaced_calls.specs.Scripts.{statement_with, datapoint_with, hierarchy_with, ruleset_with, script_with}
use Rattle.replaced_calls.specs.Steps.{with_put}
use Rattle.replaced_calls.specs.ScriptSteps.{IsScriptStep, IsScriptChain}
use Rattle.replaced_calls.proofs.Chains.{Along, Chain, here, onward, leads_to}
use Rattle.replaced_calls.proofs.Fresh.{fresh}

-- ---- what has expressions in it

-- something is put in the place of a name in all of them
abbrev PutIn : Type 0 → Type 0
PutIn H = (Expr → Expr) → H → H

record StaysFresh (H : Type 0) (with' : PutIn H) (x : H) : Type 0 where
  bound : ℕ
  stays : (h : List ℕ) (e : Expr) → bound < length h → with' (λ t. with_put t h e) x ≡ x

expr_fresh : (x : Expr) → StaysFresh Expr (λ f. f) x
expr_fresh x = let f = fresh member-Expr x in record { bound = f.bound; stays = λ h e long. f.stays h e long }

statement_fresh : (x : Statement) → StaysFresh Statement statement_with x
statement_fresh x = let f = expr_fresh x.expr in record { bound = f.bound; stays = λ h e long i. record x { expr = f.stays h e long i } }

option_fresh : (x : Option Expr) → StaysFresh (Option Expr) option_map x
option_fresh None = record { bound = 0; stays = λ h e long. refl }
option_fresh (Some x) = let f = expr_fresh x in record { bound = f.bound; stays = λ h e long. ap Some (f.stays h e long) }

datapoint_fresh : (x : DatapointRule) → StaysFresh DatapointRule datapoint_with x
datapoint_fresh x =
    let f = option_fresh x.condition in
    let g = expr_fresh x.expr in
    record {
      bound = f.bound + g.bound;
      stays = λ h e long.
          let one : f.bound < length h = omega arith in
          let two : g.bound < length h = omega arith in
          λ i. record { name = x.name; condition = f.stays h e one i; expr = g.stays h e two i; fault = x.fault; place = x.place };
    }

hierarchy_fresh : (x : HierarchyRule) → StaysFresh HierarchyRule hierarchy_with x
hierarchy_fresh x = let f = option_fresh x.condition in record { bound = f.bound; stays = λ h e long i. record x { condition = f.stays h e long i } }

list_fresh : (H : Type 0) (with' : PutIn H) → ((x : H) → StaysFresh H with' x) → (xs : List H) → StaysFresh (List H) (λ f. map (with' f)) xs
list_fresh H with' each [] = record { bound = 0; stays = λ h e long. refl }
list_fresh H with' each (x ∷ xs) =
    let f = each x in
    let g = list_fresh H with' each xs in
    record {
      bound = f.bound + g.bound;
      stays = λ h e long.
          let one : f.bound < length h = omega arith in
          let two : g.bound < length h = omega arith in
          λ i. f.stays h e one i ∷ g.stays h e two i;
    }

ruleset_fresh : (x : Ruleset) → StaysFresh Ruleset ruleset_with x
ruleset_fresh (kind.Datapoint d) = let f = list_fresh DatapointRule datapoint_with datapoint_fresh d.rules in record { bound = f.bound; stays = λ h e long i. kind.Datapoint (record d { rules = f.stays h e long i }) }
ruleset_fresh (kind.Hierarchy d) = let f = list_fresh HierarchyRule hierarchy_with hierarchy_fresh d.rules in record { bound = f.bound; stays = λ h e long i. kind.Hierarchy (record d { rules = f.stays h e long i }) }

-- ---- chains of scripts

module _ (os : List DefinedOperator) (n : ℕ) where
  abbrev puts : List ℕ → Expr → Script → Script
  puts h e s = script_with (λ t. with_put t h e) os s

  abbrev Reaches : Script → Script → Type 0
  Reaches = Chain Script puts (IsScriptStep os)

  abbrev out : Expr → Expr
  out = written os n

  record IsAround (H : Type 0) (with' : PutIn H) (k : H → Script) : Type 0 where
    bound : ℕ
    goes_in : (h : List ℕ) (e : Expr) (x : H) → bound < length h → puts h e (k x) ≡ k (with' (λ t. with_put t h e) x)

  -- wherever it stands, a chain leads to it with all calls replaced
  abbrev Leads : (H : Type 0) (with' : PutIn H) → H → Type 0
  Leads H with' x = (k : H → Script) → IsAround H with' k → Reaches (k x) (k (with' out x))

  expr_leads : (x : Expr) → Leads Expr (λ f. f) x
  expr_leads x k r = leads_to Script puts (IsScriptStep os) os
      (λ around h w as' p o found. record { around = around; hole = h; name = w; arguments = as'; place = p; operator = o; found = found; call = refl; body = refl })
      n x k (record { bound = r.bound; goes_in = r.goes_in })

  statement_leads : (x : Statement) → Leads Statement statement_with x
  statement_leads x k r = expr_leads x.expr (λ e. k (record x { expr = e })) (record { bound = r.bound; goes_in = λ h e t long. r.goes_in h e (record x { expr = t }) long })

  option_leads : (x : Option Expr) → Leads (Option Expr) option_map x
  option_leads None k r = here Script puts (IsScriptStep os) (k None) (k None) refl
  option_leads (Some x) k r = expr_leads x (λ e. k (Some e)) (record { bound = r.bound; goes_in = λ h e t long. r.goes_in h e (Some t) long })

  datapoint_leads : (x : DatapointRule) → Leads DatapointRule datapoint_with x
  datapoint_leads x k r =
      let made : Option Expr → Expr → DatapointRule = λ c e. record { name = x.name; condition = c; expr = e; fault = x.fault; place = x.place } in
      let c = option_map out x.condition in
      let f = expr_fresh x.expr in
      let g = option_fresh c in
      onward Script puts (IsScriptStep os) (k x) (k (made c x.expr)) (k (datapoint_with out x))
      (option_leads x.condition (λ o. k (made o x.expr)) (record {
        bound = r.bound + f.bound;
        goes_in = λ h e o long.
            let one : r.bound < length h = omega arith in
            let two : f.bound < length h = omega arith in
            r.goes_in h e (made o x.expr) one ∙ ap (λ (t : Expr). k (made (option_map (λ u. with_put u h e) o) t)) (f.stays h e two);
      }))
      (expr_leads x.expr (λ t. k (made c t)) (record {
        bound = r.bound + g.bound;
        goes_in = λ h e t long.
            let one : r.bound < length h = omega arith in
            let two : g.bound < length h = omega arith in
            r.goes_in h e (made c t) one ∙ ap (λ (o : Option Expr). k (made o (with_put t h e))) (g.stays h e two);
      }))

  hierarchy_leads : (x : HierarchyRule) → Leads HierarchyRule hierarchy_with x
  hierarchy_leads x k r = option_leads x.condition (λ o. k (record x { condition = o })) (record { bound = r.bound; goes_in = λ h e o long. r.goes_in h e (record x { condition = o }) long })

  list_leads : (H : Type 0) (with' : PutIn H) → ((x : H) → StaysFresh H with' x) → ((x : H) → Leads H with' x) → (xs : List H) → Leads (List H) (λ f. map (with' f)) xs
  list_leads H with' stays leads [] k r = here Script puts (IsScriptStep os) (k []) (k []) refl
  list_leads H with' stays leads (x ∷ xs) k r =
      let y = with' out x in
      let f = list_fresh H with' stays xs in
      let g = stays y in
      onward Script puts (IsScriptStep os) (k (x ∷ xs)) (k (y ∷ xs)) (k (y ∷ map (with' out) xs))
      (leads x (λ t. k (t ∷ xs)) (record {
        bound = r.bound + f.bound;
        goes_in = λ h e t long.
            let one : r.bound < length h = omega arith in
            let two : f.bound < length h = omega arith in
            r.goes_in h e (t ∷ xs) one ∙ ap (λ (us : List H). k (with' (λ u. with_put u h e) t ∷ us)) (f.stays h e two);
      }))
      (list_leads H with' stays leads xs (λ ts. k (y ∷ ts)) (record {
        bound = r.bound + g.bound;
        goes_in = λ h e ts long.
            let one : r.bound < length h = omega arith in
            let two : g.bound < length h = omega arith in
            r.goes_in h e (y ∷ ts) one ∙ ap (λ (u : H). k (u ∷ map (with' (λ v. with_put v h e)) ts)) (g.stays h e two);
      }))

  ruleset_leads : (x : Ruleset) → Leads Ruleset ruleset_with x
  ruleset_leads (kind.Datapoint d) k r = list_leads DatapointRule datapoint_with datapoint_fresh datapoint_leads d.rules (λ rs. k (kind.Datapoint (record d { rules = rs }))) (record { bound = r.bound; goes_in = λ h e rs long. r.goes_in h e (kind.Datapoint (record d { rules = rs })) long })
  ruleset_leads (kind.Hierarchy d) k r = list_leads HierarchyRule hierarchy_with hierarchy_fresh hierarchy_leads d.rules (λ rs. k (kind.Hierarchy (record d { rules = rs }))) (record { bound = r.bound; goes_in = λ h e rs long. r.goes_in h e (kind.Hierarchy (record d { rules = rs })) long })

  as_chain : (a b : Script) (ss : List Script) → Along Script puts (IsScriptStep os) a ss b → IsScriptChain os a ss b
  as_chain a b [] s = s
  as_chain a b (x ∷ xs) s = (s.0, as_chain x b xs s.1)

  -- a script with these operators leads to itself with all calls in statements and rulesets replaced
  pub script_leads : (s : Script) → s.operators ≡ os → (ss : List Script) × IsScriptChain os s ss (script_with out os s)
  script_leads s same =
      let made : List Statement → List Ruleset → Script = λ xs rs. record { statements = xs; rulesets = rs; operators = os } in
      let xs = s.statements in
      let rs = s.rulesets in
      let ys = map (statement_with out) xs in
      let f = list_fresh Ruleset ruleset_with ruleset_fresh rs in
      let g = list_fresh Statement statement_with statement_fresh ys in
      let c = onward Script puts (IsScriptStep os) (made xs rs) (made ys rs) (script_with out os s)
      (list_leads Statement statement_with statement_fresh statement_leads xs (λ ts. made ts rs) (record { bound = f.bound; goes_in = λ h e ts long. ap (λ (us : List Ruleset). made (map (statement_with (λ u. with_put u h e)) ts) us) (f.stays h e long) }))
      (list_leads Ruleset ruleset_with ruleset_fresh ruleset_leads rs (λ ts. made ys ts) (record { bound = g.bound; goes_in = λ h e ts long. ap (λ (us : List Statement). made us (map (ruleset_with (λ u. with_put u h e)) ts)) (g.stays h e long) })) in
      let is : made xs rs ≡ s = λ i. record s { operators = sym same i } in
      subst (λ (t : Script). (ss : List Script) × IsScriptChain os t ss (script_with out os s)) is (c.0, as_chain (made xs rs) (script_with out os s) c.0 c.1)
