-- In whatever order the calls of a script are replaced, the written-out script is the same, and none is left in it.
use Rattle.std.proofs.Common.{◌≡◌, ℕ, List, [], ◌∷◌, None, length, refl, sym, ap, ◌∙◌, subst}
use Rattle.std.proofs.lemmas.List.{length-map}
use Rattle.vtl_syntax.specs.declared.expr.Expr.{Expr}
use Rattle.vtl_syntax.specs.declared.expr.Expr.TheVariants as tree
use Rattle.vtl_syntax.specs.declared.operator.DefinedOperator.{DefinedOperator}
use Rattle.vtl_syntax.specs.declared.script.Script.{Script}
use Rattle.operator_faults.specs.declared.calls.CallFault.TheVariants.{Unknown}
use Rattle.operator_faults.specs.Calls.{is_wrong}
use Rattle.operator_faults.specs.Faults.{first_fault}
use Rattle.tree_copies.specs.Made.{Calls, made, same_name}
use Rattle.replaced_calls.specs.Replacing.{opened, sorted, written}
use Rattle.replaced_calls.specs.Scripts.{script_with, sorted_operator, sorted_operators, sorted_script}
use Rattle.replaced_calls.specs.Steps.{body_for, with_put}
use Rattle.replaced_calls.specs.ScriptSteps.{IsScriptStep, IsScriptChain, without_operators}
use Rattle.replaced_calls.specs.ScriptLaws.{ScriptOrdersAgree, ScriptChainsExist, ScriptNoneLeft}
use Rattle.replaced_calls.specs.Laws.{IsEnough}
use Rattle.replaced_calls.proofs.Enough.{operators_end}
use Rattle.replaced_calls.proofs.Gone.{none_left}
use Rattle.replaced_calls.proofs.Written.{step_keeps}
use Rattle.replaced_calls.proofs.ScriptMaps.{script_twice, script_same, script_alike}
use Rattle.replaced_calls.proofs.ScriptsReached.{script_leads}
use Rattle.replaced_calls.proofs.Faultless.{IsFaultless, faultless}

-- ---- one call after the other

-- the script's expressions with all calls replaced, without definitions
abbrev replaced : List DefinedOperator → ℕ → Script → Script
replaced os n s = script_with (written os n) [] s

step_stays : (os : List DefinedOperator) (n : ℕ) → IsEnough os n → (a b : Script) → IsScriptStep os a b → replaced os n a ≡ replaced os n b
step_stays os n enough a b s =
    let call : Expr → Expr = λ (e : Expr). with_put e s.hole (tree.CallOf s.name s.arguments s.place) in
    let body : Expr → Expr = λ (e : Expr). with_put e s.hole (body_for s.operator s.arguments) in
    ap (replaced os n) s.call ∙ script_twice (written os n) call [] os s.around
    ∙ script_same (λ e. written os n (call e)) (λ e. written os n (body e))
    (λ e. step_keeps os n enough (call e) (body e) (record { around = e; hole = s.hole; name = s.name; arguments = s.arguments; place = s.place; operator = s.operator; found = s.found; call = refl; body = refl })) [] s.around
    ∙ sym (ap (replaced os n) s.body ∙ script_twice (written os n) body [] os s.around)

chain_stays : (os : List DefinedOperator) (n : ℕ) → IsEnough os n → (a : Script) (ss : List Script) (z : Script) → IsScriptChain os a ss z → replaced os n a ≡ replaced os n z
chain_stays os n enough a [] z s = ap (replaced os n) s
chain_stays os n enough a (x ∷ xs) z s = step_stays os n enough a x s.0 ∙ chain_stays os n enough x xs z s.1

-- as many calls as there are operators are enough
is_enough : (s : Script) → IsFaultless s → IsEnough (sorted_operators s.operators) (length (sorted_operators s.operators))
is_enough s f = subst (IsEnough (sorted_operators s.operators)) (sym (length-map s.operators (sorted_operator s.operators))) (operators_end s.operators f.acyclic)

pub script_orders_agree : ScriptOrdersAgree
script_orders_agree s none ss z chain gone =
    let qs = sorted_operators s.operators in
    let n = length qs in
    sym (ap without_operators (gone (opened qs n))) ∙ sym (chain_stays qs n (is_enough s (faultless s none)) (sorted_script s) ss z chain)

-- ---- none is left

-- whatever definitions are beside them
gone : (s : Script) → first_fault s ≡ None → (ps : List DefinedOperator) (call : Calls)
    → script_with (made same_name call) ps (script_with (written (sorted_operators s.operators) (length (sorted_operators s.operators))) ps (sorted_script s)) ≡ script_with (written (sorted_operators s.operators) (length (sorted_operators s.operators))) ps (sorted_script s)
gone s none ps call =
    let os = s.operators in
    let qs = sorted_operators os in
    let f = faultless s none in
    let out : Expr → Expr = λ (e : Expr). written qs (length qs) (sorted os e) in
    let long : length qs ≡ length os = length-map os (sorted_operator os) in
    let at_once : script_with (written qs (length qs)) ps (sorted_script s) ≡ script_with out ps s = script_twice (written qs (length qs)) (sorted os) ps qs s in
    ap (script_with (made same_name call) ps) at_once
    ∙ script_twice (made same_name call) out ps ps s
    ∙ script_alike (is_wrong Unknown os) (λ e. made same_name call (out e)) out
    (λ e all. subst (λ (n : ℕ). made same_name call (written qs n (sorted os e)) ≡ written qs n (sorted os e)) (sym long) (none_left os f.acyclic f.bodies e all call))
    ps s f.statements f.rulesets
    ∙ sym at_once

pub script_none_left : ScriptNoneLeft
script_none_left s none = (refl, gone s none [])

pub script_chains_exist : ScriptChainsExist
script_chains_exist s none =
    let qs = sorted_operators s.operators in
    let c = script_leads qs (length qs) (sorted_script s) refl in
    (c.0, script_with (written qs (length qs)) qs (sorted_script s), c.1, gone s none qs)
