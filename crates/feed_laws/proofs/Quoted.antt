-- Records as csv writes them: they are texts, no line in them begins with `@`, and each ends a line.
use Rattle.std.proofs.Common.{◌≡◌, ◌==◌, ◌&&◌, ◌||◌, ℕ, ◌<◌, Bool, true, false, List, [], ◌∷◌, ◌++◌, map, inl, inr, refl, sym, ap, subst, ◌∙◌, arith, append-nil, if◌then◌else◌}
use Rattle.std.specs.List.{All, flat_map, list_any}
use Rattle.std.specs.Str.{IsUtf8, all_scalars}
use Rattle.std.proofs.Math.Utf8.{encodes, encode, scalar}
use Rattle.std.proofs.lemmas.Bool.{cases_Bool, eqb-true}
use Rattle.std.proofs.lemmas.List.Elements.{All-head, All-tail, All-map, All-weaker}
use Rattle.std.proofs.lemmas.Str.{IsUtf8-append, IsUtf8-nil, encode_ascii}
use Rattle.csv.specs.Writing.{default_writer, escaped, field_text, fields_text, is_blank, needs_quotes, quoted, row_text}
use Rattle.data_model.proofs.MapLemmas.{neither}
use Rattle.point_sets.specs.declared.revision.Action.{Action}
use Rattle.point_sets.specs.declared.revision.Action.TheVariants.{Put, Remove}
use Rattle.revision_files.specs.Blocks.{AT_SIGN, LINE_FEED, begins_with}
use Rattle.revision_files.specs.Columns.{ACTION}
use Rattle.feed_laws.specs.Written.{IsRecordText, record_text, starts_block, word_of}
use Rattle.feed_laws.proofs.Bytes.{any-encodes, is-PassesAscii, none, starts-encodes}

-- ---- lines that begin with `@`

-- no line in these bytes, after the first, begins with `@`; and if a line begins here, not this one
abbrev pub Quiet : Bool → List ℕ → Type 0
Quiet fresh bytes = starts_block fresh bytes ≡ false

quiet-fresh : (fresh : Bool) (ys : List ℕ) → begins_with AT_SIGN ys ≡ false → Quiet false ys → Quiet fresh ys
quiet-fresh fresh [] other h = refl
quiet-fresh fresh (y ∷ ys) other h = ap (λ b. (fresh && b) || starts_block (y == LINE_FEED) ys) other ∙ none fresh (starts_block (y == LINE_FEED) ys) ∙ h

pub quiet-append : (fresh : Bool) (xs ys : List ℕ) → Quiet fresh xs → begins_with AT_SIGN ys ≡ false → Quiet false ys → Quiet fresh (xs ++ ys)
quiet-append fresh [] ys h other k = quiet-fresh fresh ys other k
quiet-append fresh (x ∷ xs) ys h other k =
    let both = neither (fresh && (x == AT_SIGN)) (starts_block (x == LINE_FEED) xs) h in
    ap (λ b. b || starts_block (x == LINE_FEED) (xs ++ ys)) both.0 ∙ quiet-append (x == LINE_FEED) xs ys both.1 other k

-- a line of its own
pub quiet-line : (xs : List ℕ) → list_any (λ b. b == LINE_FEED) xs ≡ false → Quiet false xs
quiet-line [] h = refl
quiet-line (x ∷ xs) h =
    let both = neither (x == LINE_FEED) (list_any (λ b. b == LINE_FEED) xs) h in
    ap (λ b. starts_block b xs) both.0 ∙ quiet-line xs both.1

-- whether a line begins after these bytes
abbrev pub fresh_after : Bool → List ℕ → Bool
fresh_after fresh [] = fresh
fresh_after fresh (b ∷ bytes) = fresh_after (b == LINE_FEED) bytes

pub fresh-append : (fresh : Bool) (xs ys : List ℕ) → fresh_after fresh (xs ++ ys) ≡ fresh_after (fresh_after fresh xs) ys
fresh-append fresh [] ys = refl
fresh-append fresh (x ∷ xs) ys = fresh-append (x == LINE_FEED) xs ys

-- ---- fields between quotes

escaped-plain : (b : ℕ) (rest : List ℕ) → (b == 34) ≡ false → escaped default_writer (b ∷ rest) ≡ b ∷ escaped default_writer rest
unfolding escaped
escaped-plain b rest n = rw n refl

escaped-quote : (rest : List ℕ) → escaped default_writer (34 ∷ rest) ≡ 34 ∷ 34 ∷ escaped default_writer rest
unfolding escaped
escaped-quote rest = refl

starts-escaped : (fresh : Bool) (x : List ℕ) → starts_block fresh (escaped default_writer x) ≡ starts_block fresh x
unfolding escaped
starts-escaped fresh [] = refl
starts-escaped fresh (b ∷ rest) = elim (cases_Bool (b == 34)) [
  | inl same ↦ subst (λ z. starts_block fresh (escaped default_writer (z ∷ rest)) ≡ starts_block fresh (z ∷ rest)) (sym (eqb-true b 34 same))
      (ap (starts_block fresh) (escaped-quote rest) ∙ ap (λ t. (fresh && false) || t) (starts-escaped false rest))
  | inr other ↦ ap (starts_block fresh) (escaped-plain b rest other) ∙ ap (λ t. (fresh && (b == AT_SIGN)) || t) (starts-escaped (b == LINE_FEED) rest)
]

escaped-append : (xs ys : List ℕ) → escaped default_writer (xs ++ ys) ≡ escaped default_writer xs ++ escaped default_writer ys
unfolding escaped
escaped-append [] ys = refl
escaped-append (b ∷ xs) ys = elim (cases_Bool (b == 34)) [
  | inl same ↦ subst (λ z. escaped default_writer ((z ∷ xs) ++ ys) ≡ escaped default_writer (z ∷ xs) ++ escaped default_writer ys) (sym (eqb-true b 34 same))
      (escaped-quote (xs ++ ys) ∙ ap (λ (t : List ℕ). 34 ∷ 34 ∷ t) (escaped-append xs ys) ∙ ap (λ (t : List ℕ). t ++ escaped default_writer ys) (sym (escaped-quote xs)))
  | inr other ↦ escaped-plain b (xs ++ ys) other ∙ ap (λ (t : List ℕ). b ∷ t) (escaped-append xs ys) ∙ ap (λ (t : List ℕ). t ++ escaped default_writer ys) (sym (escaped-plain b xs other))
]

escaped-none : (xs : List ℕ) → list_any (λ b. b == 34) xs ≡ false → escaped default_writer xs ≡ xs
unfolding escaped
escaped-none [] h = refl
escaped-none (b ∷ xs) h =
    let both = neither (b == 34) (list_any (λ b. b == 34) xs) h in
    escaped-plain b xs both.0 ∙ ap (λ (t : List ℕ). b ∷ t) (escaped-none xs both.1)

-- ---- texts in UTF-8

utf8-one : (c : ℕ) → scalar c ≡ true → IsUtf8 (encode c)
utf8-one c is = (c ∷ [], (ap (λ b. b && true) is, append-nil (encode c)))

pub utf8-low : (c : ℕ) → scalar c ≡ true → c < 128 → IsUtf8 (c ∷ [])
utf8-low c is low = subst IsUtf8 (encode_ascii c low) (utf8-one c is)

pub utf8-text : (cs : List ℕ) → all_scalars cs ≡ true → IsUtf8 (encodes cs)
utf8-text cs is = (cs, (is, refl))

pub both_true : (a b : Bool) → (a && b) ≡ true → (a ≡ true) × (b ≡ true)
both_true true b e = (refl, e)
both_true false b e = cc

one-plain : (c : ℕ) → (c == 34) ≡ false → list_any (λ b. b == 34) (encode c) ≡ false
one-plain c other = ap (list_any (λ b. b == 34)) (sym (append-nil (encode c))) ∙ any-encodes (λ b. b == 34) (is-PassesAscii 34 (omega arith)) (c ∷ []) ∙ ap (λ b. b || false) other

utf8-escaped_one : (c : ℕ) → scalar c ≡ true → IsUtf8 (escaped default_writer (encode c))
unfolding escaped
utf8-escaped_one c is = elim (cases_Bool (c == 34)) [
  | inl same ↦ subst (λ z. IsUtf8 (escaped default_writer (encode z))) (sym (eqb-true c 34 same))
      (subst IsUtf8 (sym (ap (escaped default_writer) (encode_ascii 34 (omega arith)) ∙ escaped-quote [])) (IsUtf8-append (34 ∷ []) (34 ∷ []) (utf8-low 34 refl (omega arith)) (utf8-low 34 refl (omega arith))))
  | inr other ↦ subst IsUtf8 (sym (escaped-none (encode c) (one-plain c other))) (utf8-one c is)
]

utf8-escaped : (cs : List ℕ) → all_scalars cs ≡ true → IsUtf8 (escaped default_writer (encodes cs))
unfolding escaped
utf8-escaped [] is = IsUtf8-nil
utf8-escaped (c ∷ cs) is =
    let both = both_true (scalar c) (all_scalars cs) is in
    subst IsUtf8 (sym (escaped-append (encode c) (encodes cs))) (IsUtf8-append (escaped default_writer (encode c)) (escaped default_writer (encodes cs)) (utf8-escaped_one c both.0) (utf8-escaped cs both.1))

-- ---- records

-- bytes of a field
abbrev IsFieldBytes : List ℕ → Type 0
IsFieldBytes x = IsUtf8 (escaped default_writer x) × IsUtf8 x × Quiet false x

-- bytes that are a text in which no line after the first begins with `@`
abbrev IsPiece : List ℕ → Type 0
IsPiece bytes = IsUtf8 bytes × Quiet false bytes

text-bytes : (text : List ℕ) → IsRecordText text → IsFieldBytes (encodes text)
text-bytes text h = (utf8-escaped text h.characters, utf8-text text h.characters, starts-encodes false text ∙ h.lines)

join : (xs ys : List ℕ) → begins_with AT_SIGN ys ≡ false → IsPiece xs → IsPiece ys → IsPiece (xs ++ ys)
join xs ys other p q = (IsUtf8-append xs ys p.0 q.0, quiet-append false xs ys p.1 other q.1)

quote-piece : IsPiece (34 ∷ [])
quote-piece = (utf8-low 34 refl (omega arith), refl)

quoted-piece : (x : List ℕ) → IsFieldBytes x → IsPiece (quoted default_writer x)
quoted-piece x h =
    let inside = join (escaped default_writer x) (34 ∷ []) refl (h.0, starts-escaped false x ∙ h.2) quote-piece in
    (IsUtf8-append (34 ∷ []) (escaped default_writer x ++ 34 ∷ []) quote-piece.0 inside.0, inside.1)

field-piece : (x : List ℕ) → IsFieldBytes x → IsPiece (field_text default_writer x)
field-piece x h = elim (needs_quotes default_writer x) as (λ b. IsPiece (if b then quoted default_writer x else x)) [
  | true ↦ quoted-piece x h
  | false ↦ (h.1, h.2)
]

fields-begin : (xs : List (List ℕ)) → begins_with AT_SIGN (fields_text default_writer xs) ≡ false
unfolding fields_text
fields-begin [] = refl
fields-begin (x ∷ xs) = refl

fields-piece : (xs : List (List ℕ)) → All IsFieldBytes xs → IsPiece (fields_text default_writer xs)
unfolding fields_text
fields-piece [] h = (IsUtf8-nil, refl)
fields-piece (x ∷ xs) h =
    let rest = join (field_text default_writer x) (fields_text default_writer xs) (fields-begin xs) (field-piece x (All-head IsFieldBytes x xs h)) (fields-piece xs (All-tail IsFieldBytes x xs h)) in
    (IsUtf8-append (44 ∷ []) (field_text default_writer x ++ fields_text default_writer xs) (utf8-low 44 refl (omega arith)) rest.0, rest.1)

-- the end of a record
abbrev end_if : Bool → List ℕ
end_if b = (if b then 34 ∷ 34 ∷ [] else []) ++ 10 ∷ []

end-piece : (b : Bool) → IsPiece (end_if b) × (begins_with AT_SIGN (end_if b) ≡ false)
end-piece true = ((IsUtf8-append (34 ∷ []) (34 ∷ 10 ∷ []) quote-piece.0 (IsUtf8-append (34 ∷ []) (10 ∷ []) quote-piece.0 (utf8-low 10 refl (omega arith))), refl), refl)
end-piece false = ((utf8-low 10 refl (omega arith), refl), refl)

end-fresh : (fresh b : Bool) → fresh_after fresh (end_if b) ≡ true
end-fresh fresh true = refl
end-fresh fresh false = refl

row-piece : (x : List ℕ) (rest : List (List ℕ)) → IsFieldBytes x → All IsFieldBytes rest → IsPiece (row_text default_writer (x ∷ rest))
row-piece x rest h hs =
    let body = join (field_text default_writer x) (fields_text default_writer rest) (fields-begin rest) (field-piece x h) (fields-piece rest hs) in
    let last = end-piece (is_blank default_writer (x ∷ rest)) in
    join (field_text default_writer x ++ fields_text default_writer rest) (end_if (is_blank default_writer (x ∷ rest))) last.1 body last.0

row-fresh : (fresh : Bool) (x : List ℕ) (rest : List (List ℕ)) → fresh_after fresh (row_text default_writer (x ∷ rest)) ≡ true
row-fresh fresh x rest =
    let body : List ℕ = field_text default_writer x ++ fields_text default_writer rest in
    fresh-append fresh body (end_if (is_blank default_writer (x ∷ rest))) ∙ end-fresh (fresh_after fresh body) (is_blank default_writer (x ∷ rest))

-- a record that begins with a word of the format
pub record Begins (texts : List (List ℕ)) : Type 0 where
  pub word : List ℕ
  pub rest : List (List ℕ)
  pub is : texts ≡ word ∷ rest
  pub word_text : IsRecordText word
  pub rest_texts : All IsRecordText rest
  pub begins : begins_with AT_SIGN (record_text (word ∷ rest)) ≡ false

pub action-begins : (rest : List (List ℕ)) → All IsRecordText rest → Begins (ACTION ∷ rest)
unfolding encode
action-begins rest h = record { word = ACTION; rest = rest; is = refl; word_text = record { characters = refl; lines = refl }; rest_texts = h; begins = refl }

pub word-begins : (action : Action) (rest : List (List ℕ)) → All IsRecordText rest → Begins (word_of action ∷ rest)
unfolding encode
word-begins Put rest h = record { word = word_of Put; rest = rest; is = refl; word_text = record { characters = refl; lines = refl }; rest_texts = h; begins = refl }
word-begins Remove rest h = record { word = word_of Remove; rest = rest; is = refl; word_text = record { characters = refl; lines = refl }; rest_texts = h; begins = refl }

record-parts : (texts : List (List ℕ)) → Begins texts → IsPiece (record_text texts) × (begins_with AT_SIGN (record_text texts) ≡ false) × ((fresh : Bool) → fresh_after fresh (record_text texts) ≡ true)
record-parts texts b = subst (λ (ts : List (List ℕ)). IsPiece (record_text ts) × (begins_with AT_SIGN (record_text ts) ≡ false) × ((fresh : Bool) → fresh_after fresh (record_text ts) ≡ true)) (sym b.is) (
  row-piece (encodes b.word) (map encodes b.rest) (text-bytes b.word b.word_text) (All-map IsFieldBytes encodes b.rest (All-weaker IsRecordText (λ t. IsFieldBytes (encodes t)) text-bytes b.rest b.rest_texts)),
  b.begins,
  λ fresh. row-fresh fresh (encodes b.word) (map encodes b.rest),
)

-- ---- all records of a block

records-fresh : (fresh : Bool) (rs : List (List (List ℕ))) → fresh ≡ true → All Begins rs → fresh_after fresh (flat_map record_text rs) ≡ true
records-fresh fresh [] is h = is
records-fresh fresh (r ∷ rs) is h =
    fresh-append fresh (record_text r) (flat_map record_text rs)
    ∙ records-fresh (fresh_after fresh (record_text r)) rs ((record-parts r (All-head Begins r rs h)).2 fresh) (All-tail Begins r rs h)

begins-append : (xs ys : List ℕ) → begins_with AT_SIGN xs ≡ false → begins_with AT_SIGN ys ≡ false → begins_with AT_SIGN (xs ++ ys) ≡ false
begins-append [] ys h k = k
begins-append (x ∷ xs) ys h k = h

records-begin : (rs : List (List (List ℕ))) → All Begins rs → begins_with AT_SIGN (flat_map record_text rs) ≡ false
records-begin [] h = refl
records-begin (r ∷ rs) h = begins-append (record_text r) (flat_map record_text rs) (record-parts r (All-head Begins r rs h)).1 (records-begin rs (All-tail Begins r rs h))

records-piece : (rs : List (List (List ℕ))) → All Begins rs → IsPiece (flat_map record_text rs)
records-piece [] h = (IsUtf8-nil, refl)
records-piece (r ∷ rs) h = join (record_text r) (flat_map record_text rs) (records-begin rs (All-tail Begins r rs h)) (record-parts r (All-head Begins r rs h)).0 (records-piece rs (All-tail Begins r rs h))

-- a block: a text in which no line after the first begins with `@`, and which ends a line
pub record IsBlock (block : List ℕ) : Type 0 where
  pub text : IsUtf8 block
  pub quiet : Quiet false block
  pub ends_line : fresh_after false block ≡ true

pub block-is : (line : List ℕ) (rs : List (List (List ℕ))) → IsUtf8 line → list_any (λ b. b == LINE_FEED) line ≡ false → All Begins rs → IsBlock (line ++ LINE_FEED ∷ flat_map record_text rs)
block-is line rs text one h =
    let piece = records-piece rs h in
    let next : Quiet false (LINE_FEED ∷ flat_map record_text rs) = quiet-fresh true (flat_map record_text rs) (records-begin rs h) piece.1 in
    record {
      text = IsUtf8-append line (LINE_FEED ∷ flat_map record_text rs) text (IsUtf8-append (LINE_FEED ∷ []) (flat_map record_text rs) (utf8-low LINE_FEED refl (omega arith)) piece.0);
      quiet = quiet-append false line (LINE_FEED ∷ flat_map record_text rs) (quiet-line line one) refl next;
      ends_line = fresh-append false line (LINE_FEED ∷ flat_map record_text rs) ∙ records-fresh true rs refl h;
    }
