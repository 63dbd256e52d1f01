-- Components are told apart by their names.
use Rattle.std.proofs.Common.{Bor, ℕ, List, refl}
use Rattle.std.proofs.lemmas.Cmp.{nat_list_eq_equiv}
use Rattle.vtl_values.specs.Texts.{same_text}
use Rattle.vtl_values.specs.declared.structure.Component.{Component}
use Rattle.clause_typing.proofs.Differing.{IsKeyed}

pub names_keyed : IsKeyed (λ (a b : Component). same_text a.name b.name) (λ (a b : Bor (List ℕ)). same_text a.now b.now) (λ c. c.name) (λ k. k.now)
names_keyed = record {
  test = same_text;
  items = λ a b. refl;
  keys = λ a b. refl;
  flips = nat_list_eq_equiv.symm;
}
