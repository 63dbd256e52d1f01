-- Texts of lines.
use Rattle.std.proofs.Common.{◌≡◌, ℕ, List, [], codes, None, Result, Ok, Err, refl, sym, ap, ◌∙◌}
use Rattle.std.specs.Str.{chars}
use Rattle.std.specs.Result.{IfOk}
use Rattle.std.specs.List.{slice_get}
use Rattle.data_set_trees.specs.checked.Scripts.{Script}
use Rattle.round_runs.specs.Eval.{name_in, name_of}

pub chars-none : chars (codes "") ≡ []
unfolding chars
chars-none = refl

-- a statement that isn't there has the empty name
pub named_none : {E : Type 0} (c : Script) (i : ℕ) (r : Result (List ℕ) E) → slice_get c.statements i ≡ None → IfOk r (λ w. w ≡ chars (codes "")) → IfOk r (λ w. w ≡ name_of c i)
named_none c i (Ok w) none is = is ∙ chars-none ∙ sym (ap name_in none)
named_none c i (Err e) none is = tt
