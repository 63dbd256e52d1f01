-- What is written of a tree whose calls are replaced, at once or one after the other.
use Rattle.std.proofs.Common.{◌≡◌, ℕ, zero, suc, ◌+◌, Bool, true, false, List, [], ◌∷◌, Option, Some, None, map, refl, sym, ap, ◌∙◌, zero-add}
use Rattle.std.proofs.Math.Nat.{suc-add}
use Rattle.std.proofs.lemmas.Option.{slice_get-map}
use Rattle.std.specs.Prelude.{slice_get, position, unwrap_or, if◌then◌else◌}
use Rattle.std.specs.Option.{option_map, option_and_then}
use Rattle.vtl_values.specs.declared.place.Place.{Place}
use Rattle.vtl_syntax.specs.declared.expr.Expr.TheVariants as tree
use Rattle.vtl_syntax.specs.declared.expr.Clause.TheOpen.{Expr-F}
use Rattle.vtl_syntax.specs.declared.expr.Clause.{Clause, roll-Clause}
use Rattle.vtl_syntax.specs.declared.expr.Expr.{Expr, fold-roll-Expr}
use Rattle.vtl_syntax.specs.declared.expr.Groups.{Groups, roll-Groups}
use Rattle.vtl_syntax.specs.declared.expr.Item.{Item, roll-Item}
use Rattle.vtl_syntax.specs.declared.expr.JoinOperand.{JoinOperand, roll-JoinOperand}
use Rattle.vtl_syntax.specs.declared.expr.SubstrRange.{SubstrRange, roll-SubstrRange}
use Rattle.vtl_syntax.specs.declared.operator.DefinedOperator.{DefinedOperator}
use Rattle.vtl_syntax.specs.declared.words.Sort.{Sort}
use Rattle.vtl_syntax.specs.declared.operator.Param.{Param}
use Rattle.operator_faults.specs.Names.{same_word}
use Rattle.operator_faults.specs.Calls.{operator_of}
use Rattle.tree_copies.specs.Made.{Names, Calls, made_step, made, same_name, same_call}
use Rattle.tree_copies.proofs.Fused.{fused}
use Rattle.replaced_calls.specs.Replacing.{bound, opened, written}
use Rattle.replaced_calls.specs.Steps.{IsStep, IsChain, body_for, put_in, with_put}
use Rattle.replaced_calls.specs.Laws.{WritingsAdd, IsEnough, OrdersAgree}

-- ---- what is made of a name and of a call

pub makes-name : (name : Names) (call : Calls) (w : List ℕ) (p : Place) → made name call (tree.Name w p) ≡ name w p
makes-name name call w p = ap (made name call) (sym (tree.rolls-Name w p)) ∙ fold-roll-Expr Clause Expr Groups Item JoinOperand SubstrRange roll-Clause (made_step name call) roll-Groups roll-Item roll-JoinOperand roll-SubstrRange (Expr-F.Name w p)

pub makes-call : (name : Names) (call : Calls) (w : List ℕ) (as' : List Expr) (p : Place) → made name call (tree.CallOf w as' p) ≡ call w (map (made name call) as') p
makes-call name call w as' p = ap (made name call) (sym (tree.rolls-CallOf w as' p)) ∙ fold-roll-Expr Clause Expr Groups Item JoinOperand SubstrRange roll-Clause (made_step name call) roll-Groups roll-Item roll-JoinOperand roll-SubstrRange (Expr-F.CallOf w as' p)

pub makes-count : (name : Names) (call : Calls) (p : Place) → made name call (tree.CountAll p) ≡ tree.CountAll p
makes-count name call p = ap (made name call) (sym (tree.rolls-CountAll p)) ∙ fold-roll-Expr Clause Expr Groups Item JoinOperand SubstrRange roll-Clause (made_step name call) roll-Groups roll-Item roll-JoinOperand roll-SubstrRange (Expr-F.CountAll p) ∙ tree.rolls-CountAll p

pub makes-typed : (name : Names) (call : Calls) (s : Sort) (e : Expr) (p : Place) → made name call (tree.Typed s e p) ≡ tree.Typed s (made name call e) p
makes-typed name call s e p = ap (made name call) (sym (tree.rolls-Typed s e p)) ∙ fold-roll-Expr Clause Expr Groups Item JoinOperand SubstrRange roll-Clause (made_step name call) roll-Groups roll-Item roll-JoinOperand roll-SubstrRange (Expr-F.Typed s e p) ∙ tree.rolls-Typed s (made name call e) p

-- ---- what is found, or else stays

unwraps : (h : Expr → Expr) (o : Option Expr) (c : Expr) → h c ≡ c → h (unwrap_or o c) ≡ unwrap_or (option_map h o) c
unwraps h None c stays = stays
unwraps h (Some x) c stays = refl

taken : (h : Expr → Expr) (as' : List Expr) (c : Expr) → h c ≡ c → (i : Option ℕ) → h (unwrap_or (option_and_then (λ (j : ℕ). slice_get as' j) i) c) ≡ unwrap_or (option_and_then (λ (j : ℕ). slice_get (map h as') j) i) c
taken h as' c stays None = stays
taken h as' c stays (Some i) = unwraps h (slice_get as' i) c stays ∙ ap (λ (o : Option Expr). unwrap_or o c) (sym (slice_get-map h as' i))

-- what is made of an argument is the argument that was made
pub bound-map : (h : Expr → Expr) (ps : List Param) (as' : List Expr) (w : List ℕ) (p : Place) → h (tree.Name w p) ≡ tree.Name w p → h (bound ps as' w p) ≡ bound ps (map h as') w p
bound-map h ps as' w p stays = taken h as' (tree.Name w p) stays (position (λ (q : Param). same_word q.name w) ps)

at_found : (h : Expr → Expr) (f g : DefinedOperator → Expr) (c d : Expr) (o : Option DefinedOperator) → ((x : DefinedOperator) → h (f x) ≡ g x) → (o ≡ None → h c ≡ d) → h (unwrap_or (option_map f o) c) ≡ unwrap_or (option_map g o) d
at_found h f g c d None each none = none refl
at_found h f g c d (Some x) each none = each x

-- the call that becomes a body, or stays
abbrev pub opened_by : List DefinedOperator → ℕ → List ℕ → List Expr → Place → Option DefinedOperator → Expr
opened_by os n w as' p r = unwrap_or (option_map (λ (o : DefinedOperator). made (bound o.params as') (opened os n) o.body) r) (tree.CallOf w as' p)

pub opened-none : (os : List DefinedOperator) (n : ℕ) (w : List ℕ) (as' : List Expr) (p : Place) → operator_of os w ≡ None → opened os n w as' p ≡ tree.CallOf w as' p
opened-none os zero w as' p none = refl
opened-none os (suc n) w as' p none = ap (opened_by os n w as' p) none

-- ---- some levels, and then more

written-name : (os : List DefinedOperator) (n : ℕ) (w : List ℕ) (p : Place) → written os n (tree.Name w p) ≡ tree.Name w p
written-name os n w p = makes-name same_name (opened os n) w p

written-call : (os : List DefinedOperator) (n : ℕ) (w : List ℕ) (as' : List Expr) (p : Place) → written os n (tree.CallOf w as' p) ≡ opened os n w (map (written os n) as') p
written-call os n w as' p = makes-call same_name (opened os n) w as' p

calls-sum : (os : List DefinedOperator) (m n : ℕ) (w : List ℕ) (as' : List Expr) (p : Place) → written os n (opened os m w as' p) ≡ opened os (m + n) w (map (written os n) as') p
calls-sum os zero n w as' p = written-call os n w as' p ∙ ap (λ (k : ℕ). opened os k w (map (written os n) as') p) (sym (zero-add n))
calls-sum os (suc m) n w as' p =
    at_found (written os n)
    (λ o. made (bound o.params as') (opened os m) o.body)
    (λ o. made (bound o.params (map (written os n) as')) (opened os (m + n)) o.body)
    (tree.CallOf w as' p) (tree.CallOf w (map (written os n) as') p) (operator_of os w)
    (λ o. fused same_name (bound o.params as') (bound o.params (map (written os n) as')) (opened os n) (opened os m) (opened os (m + n))
    (λ v q. bound-map (written os n) o.params as' v q (written-name os n v q))
    (λ v bs q. calls-sum os m n v bs q)
    o.body)
    (λ none. written-call os n w as' p ∙ opened-none os n w (map (written os n) as') p none)
    ∙ ap (λ (k : ℕ). opened os k w (map (written os n) as') p) (sym (suc-add m n))

pub writings_sum : WritingsAdd
writings_sum os m n e = fused same_name same_name same_name (opened os n) (opened os m) (opened os (m + n)) (written-name os n) (calls-sum os m n) e

-- ---- one call after the other

body-opens : (os : List DefinedOperator) (n : ℕ) → IsEnough os n → (w : List ℕ) (as' : List Expr) (p : Place) (o : DefinedOperator) → operator_of os w ≡ Some o → written os n (body_for o as') ≡ written os n (tree.CallOf w as' p)
body-opens os n enough w as' p o found =
    let made_args = map (written os n) as' in
    fused same_name (bound o.params as') (bound o.params made_args) (opened os n) same_call (opened os n)
    (λ v q. bound-map (written os n) o.params as' v q (written-name os n v q))
    (λ v bs q. written-call os n v bs q)
    o.body
    ∙ sym (ap (opened_by os n w made_args p) found) ∙ enough w made_args p ∙ sym (written-call os n w as' p)

chosen : (h : Expr → Expr) (b : Bool) (e c : Expr) → h c ≡ c → h (if b then e else c) ≡ (if b then h e else c)
chosen h true e c stays = refl
chosen h false e c stays = stays

written-put : (os : List DefinedOperator) (n : ℕ) (around : Expr) (hole : List ℕ) (e : Expr) → written os n (with_put around hole e) ≡ made (put_in hole (written os n e)) (opened os n) around
written-put os n around hole e = fused same_name (put_in hole e) (put_in hole (written os n e)) (opened os n) same_call (opened os n)
    (λ w p. chosen (written os n) (same_word hole w) e (tree.Name w p) (written-name os n w p))
    (λ w as' p. written-call os n w as' p)
    around

pub step_keeps : (os : List DefinedOperator) (n : ℕ) → IsEnough os n → (a b : Expr) → IsStep os a b → written os n a ≡ written os n b
step_keeps os n enough a b s =
    ap (written os n) s.call ∙ written-put os n s.around s.hole (tree.CallOf s.name s.arguments s.place)
    ∙ ap (λ (x : Expr). made (put_in s.hole x) (opened os n) s.around) (sym (body-opens os n enough s.name s.arguments s.place s.operator s.found))
    ∙ sym (written-put os n s.around s.hole (body_for s.operator s.arguments)) ∙ ap (written os n) (sym s.body)

chain_keeps : (os : List DefinedOperator) (n : ℕ) → IsEnough os n → (a : Expr) (es : List Expr) (z : Expr) → IsChain os a es z → written os n a ≡ written os n z
chain_keeps os n enough a [] z s = ap (written os n) s
chain_keeps os n enough a (e ∷ es) z s = step_keeps os n enough a e s.0 ∙ chain_keeps os n enough e es z s.1

pub chain_ends : OrdersAgree
chain_ends os n enough a es z chain none = sym (none (opened os n)) ∙ sym (chain_keeps os n enough a es z chain)
