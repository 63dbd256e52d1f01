-- Scripts that are answered.
use Rattle.std.proofs.Common.{◌≡◌, List, [], length, map, refl, ap, ◌∙◌, subst}
use Rattle.std.specs.Prelude.{Result, IfOk}
use Rattle.std.specs.declared.alloc.AllocError.{AllocError}
use Rattle.vtl_syntax.specs.declared.operator.DefinedOperator.{DefinedOperator}
use Rattle.vtl_syntax.specs.declared.script.Script.{Script}
use Rattle.tree_copies.specs.Made.{Names, Calls, made, same_name}
use Rattle.replaced_calls.specs.Replacing.{bound, opened, sorted_call}
use Rattle.replaced_calls.specs.Scripts.{script_with, sorted_script, calls_replaced}
use Rattle.defined_operators.specs.Writers.{operator_with}

-- without parameters, names stay
pub no_params : bound [] [] ≡ same_name
no_params = refl

pub script_answered : (r : Result Script AllocError) (x y : Script) → x ≡ y → IfOk r (λ m. m ≡ x) → IfOk r (λ m. m ≡ y)
script_answered r x y same h = subst (λ (z : Script). IfOk r (λ m. m ≡ z)) same h

pub sorted_answered : (r : Result Script AllocError) (s : Script) (ps qs ops : List DefinedOperator) → ps ≡ s.operators → qs ≡ s.operators → ops ≡ map (operator_with (made (bound [] []) (sorted_call ps))) qs
    → IfOk r (λ m. m ≡ script_with (made (bound [] []) (sorted_call ps)) ops s) → IfOk r (λ m. m ≡ sorted_script s)
sorted_answered r s ps qs ops same same' is h =
    script_answered r (script_with (made (bound [] []) (sorted_call ps)) ops s) (sorted_script s)
    (ap (λ (ks : List DefinedOperator). script_with (made (bound [] []) (sorted_call ps)) ks s) is
    ∙ ap (λ (ks : List DefinedOperator). script_with (made (bound [] []) (sorted_call ps)) (map (operator_with (made (bound [] []) (sorted_call ps))) ks) s) same'
    ∙ ap (λ (ks : List DefinedOperator). script_with (made (bound [] []) (sorted_call ks)) (map (operator_with (made (bound [] []) (sorted_call ks))) s.operators) s) same
    ∙ ap (λ (n : Names). script_with (made n (sorted_call s.operators)) (map (operator_with (made n (sorted_call s.operators))) s.operators) s) no_params) h

pub replaced_answered : (r : Result Script AllocError) (s : Script) (ps ops : List DefinedOperator) → ps ≡ s.operators → ops ≡ []
    → IfOk r (λ m. m ≡ script_with (made (bound [] []) (opened ps (length ps))) ops s) → IfOk r (λ m. m ≡ calls_replaced s)
replaced_answered r s ps ops same none h =
    script_answered r (script_with (made (bound [] []) (opened ps (length ps))) ops s) (calls_replaced s)
    (ap (λ (ks : List DefinedOperator). script_with (made (bound [] []) (opened ps (length ps))) ks s) none
    ∙ ap (λ (ks : List DefinedOperator). script_with (made (bound [] []) (opened ks (length ks))) [] s) same
    ∙ ap (λ (n : Names). script_with (made n (opened s.operators (length s.operators))) [] s) no_params) h
