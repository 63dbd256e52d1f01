-- Choices between words or signs, as their tables tell them.
use Rattle.std.proofs.Common.{◌≡◌, List, [], ◌∷◌, inl, inr, refl}
use Rattle.vtl_grammar.specs.Marks.{Mark, kind_of}
use Rattle.vtl_grammar.specs.Rules.{Of}
use Rattle.vtl_grammar.specs.Words.{Words, one_among, chosen_among, one_of, chosen}
use Rattle.vtl_spelling.specs.Kinds.{one}
use Rattle.vtl_spelling.specs.Words.{written}
use Rattle.vtl_spelling.proofs.Values.{value_spelled, value_placeless}
use Rattle.vtl_spelling.proofs.Told.{Told, same_word}

among-told : {A : Type 0} (f : A → Mark) (x : A) (ys : List A) (v : Of (one_among f x ys))
    → (one (kind_of (f (chosen_among f x ys v))) ≡ value_spelled (one_among f x ys) v) × (chosen_among f x ys v ≡ chosen_among f x ys (value_placeless (one_among f x ys) v))
among-told f x [] p = (refl, refl)
among-told f x (y ∷ ys) (inl p) = (refl, refl)
among-told f x (y ∷ ys) (inr v) = among-told f y ys v

pub choice-told : {A : Type 0} (w : Words A) → Told (one_of w) (chosen w) (λ x. one (written w x)) same_word
choice-told w = record { tells = among-told w.marked w.first w.others }
