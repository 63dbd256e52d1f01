use Rattle.std.proofs.Common.{◌≡◌, ℕ, List, Result, Ok, Err, sym, ap, ◌∙◌}
use Rattle.std.specs.Result.{OnOk}
use Rattle.vtl_values.specs.declared.structure.Component.{Component}
use Rattle.data_set_trees.specs.declared.checked.script.CheckedStatement.{CheckedStatement}
use Rattle.statement_typing.specs.Names.{Known, StandsFor, from_result, naming_of}
use Rattle.script_typing.specs.declared.state.State.{State}
use Rattle.script_typing.specs.declared.state.State.TheVariants.{Has}
use Rattle.script_typing.specs.States.{with_result}
use Rattle.script_typing.proofs.typing.put_name.Goals as goal

on_ok : {T E : Type 0} (P Q : Type 0) (r : Result T E) → (P → Q) → OnOk r P → OnOk r Q
on_ok P Q (Ok x) f given = f given
on_ok P Q (Err e) f given = tt

-- from copies of the name and of the structure
put : (old new : Known) (number : ℕ) (copy : List ℕ) (state : State) (c : CheckedStatement) (structure : List Component) → copy ≡ c.name → structure ≡ c.structure → state ≡ Has c → StandsFor copy (from_result (record { number = number; structure = structure })) old new → naming_of new ≡ with_result number state (naming_of old)
put old new number copy state c structure named same is stands =
    (λ k. record { data_set = λ other. stands.naming other k; rulesets = stands.rulesets k })
    ∙ (λ k. with_result number (Has (record c { name = named k; structure = same k })) (naming_of old))
    ∙ ap (λ (s : State). with_result number s (naming_of old)) (sym is)

pub returns-in_ok-copy-in-Has-2 : goal.returns-in_ok-copy-in-Has-2
returns-in_ok-copy-in-Has-2 c =
    let old = c.args.names.now in
    let new = c.put.new.self in
    let copy = c.in_ok-copy-in-Has.field-0 in
    let structure = c.in_ok-copy-in-Has-2.field-0 in
    on_ok (StandsFor copy (from_result (record { number = c.args.number; structure = structure })) old new) (naming_of new ≡ with_result c.args.number c.args.state.now (naming_of old)) c.put.result
    (put old new c.args.number copy c.args.state.now c.in-Has.statement structure (c.in_ok-copy-in-Has.ensures {u = tt}) (c.in_ok-copy-in-Has-2.ensures {u = tt}) c.in-Has.is)
    c.put.ensures.ok
