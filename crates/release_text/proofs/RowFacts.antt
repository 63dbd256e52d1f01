-- A writer for rows of any length writes a row as a writer by default does.
use Rattle.std.proofs.Common.{◌≡◌, ◌++◌, ◌+◌, ◌<◌, ◌∷◌, [], ℕ, List, Bool, Option, Some, None, length, get_or, map, take, refl, sym, ap, append_assoc, ◌∙◌}
use Rattle.std.proofs.lemmas.List.{flat_map_more, map_more}
use Rattle.std.specs.List.{flat_map}
use Rattle.std.specs.Io.KnownBytes.{Appends}
use Rattle.csv.specs.Writing.{escaped, field_text, fields_text, is_blank, row_text, with_flexible}
use Rattle.csv.specs.declared.writer.WriterBuilder.{WriterBuilder}

escaped-with_flexible : (cfg : WriterBuilder) (x : Bool) (field : List ℕ) → escaped (with_flexible cfg x) field ≡ escaped cfg field
unfolding escaped
escaped-with_flexible cfg x [] = refl
escaped-with_flexible cfg x (b ∷ rest) = rw (escaped-with_flexible cfg x rest)

field_text-with_flexible : (cfg : WriterBuilder) (x : Bool) (field : List ℕ) → field_text (with_flexible cfg x) field ≡ field_text cfg field
field_text-with_flexible cfg x field = rw (escaped-with_flexible cfg x field)

fields_text-with_flexible : (cfg : WriterBuilder) (x : Bool) (fields : List (List ℕ)) → fields_text (with_flexible cfg x) fields ≡ fields_text cfg fields
unfolding fields_text
fields_text-with_flexible cfg x [] = refl
fields_text-with_flexible cfg x (field ∷ rest) =
    rw (fields_text-with_flexible cfg x rest, escaped-with_flexible cfg x field)

is_blank-with_flexible : (cfg : WriterBuilder) (x : Bool) (fields : List (List ℕ)) → is_blank (with_flexible cfg x) fields ≡ is_blank cfg fields
unfolding is_blank
is_blank-with_flexible cfg x [] = refl
is_blank-with_flexible cfg x (field ∷ []) = rw (escaped-with_flexible cfg x field)
is_blank-with_flexible cfg x (field ∷ next ∷ rest) = refl

-- whether rows may differ in length says nothing of a row's text
pub row_text-with_flexible : (cfg : WriterBuilder) (x : Bool) (fields : List (List ℕ)) → row_text (with_flexible cfg x) fields ≡ row_text cfg fields
row_text-with_flexible cfg x [] = rw (is_blank-with_flexible cfg x [])
row_text-with_flexible cfg x (field ∷ rest) =
    rw (is_blank-with_flexible cfg x (field ∷ rest), fields_text-with_flexible cfg x rest, escaped-with_flexible cfg x field)

-- what stands after known bytes is known
pub known_after : (old new : Option (List ℕ)) (text more : List ℕ) → old ≡ Some text → Appends old new more → new ≡ Some (text ++ more)
known_after None new text more e f = cc
known_after (Some xs) None text more e f = absurd f
known_after (Some xs) (Some ys) text more e f = cc

-- one more text
pub texts_more : {X : Type 0} (f : X → List ℕ) (texts : List (List ℕ)) (xs : List X) (i : ℕ) (x : X) (t : List ℕ)
    → i < length xs → x ≡ get_or xs i x → t ≡ f x → (texts ++ map f (take i xs)) ++ t ∷ [] ≡ texts ++ map f (take (i + 1) xs)
texts_more f texts xs i x t lt is e =
    append_assoc texts (map f (take i xs)) (t ∷ [])
    ∙ ap (λ l. texts ++ l) (ap (λ s. map f (take i xs) ++ s ∷ []) (e ∙ ap f is) ∙ sym (map_more f xs i x lt))

-- one more piece of text
pub pieces_more : {X Y : Type 0} (g : Y → List ℕ) (v : X → Y) (text : List ℕ) (xs : List X) (i : ℕ) (x : X) (piece : List ℕ)
    → i < length xs → x ≡ get_or xs i x → piece ≡ g (v x) → (text ++ flat_map g (map v (take i xs))) ++ piece ≡ text ++ flat_map g (map v (take (i + 1) xs))
pieces_more g v text xs i x piece lt is e =
    ap (λ p. (text ++ flat_map g (map v (take i xs))) ++ p) (e ∙ ap (λ y. g (v y)) is)
    ∙ flat_map_more g text (map v (take i xs)) (v (get_or xs i x))
    ∙ ap (λ l. text ++ flat_map g l) (sym (map_more v xs i x lt))
