-- The measure of items that aren't summed.
use Rattle.std.specs.Prelude.{⊤, refl}
use Rattle.ordered_tree.specs.Measures.{MonoidLaws, FitLaws}
use Rattle.point_sets.specs.declared.measure.Unmeasured.{Unmeasured}

abbrev pub unmeasured : Unmeasured
unmeasured = record {}

pub unmeasured-monoid : MonoidLaws unmeasured (λ a b. unmeasured)
unmeasured-monoid = record { assoc = λ a b c. refl; left = λ a. refl; right = λ a. refl }

pub unmeasured-fits : FitLaws unmeasured (λ a b. unmeasured) (λ n m. ⊤)
unmeasured-fits = record { empty = tt; both = λ n m a b p q. tt }
