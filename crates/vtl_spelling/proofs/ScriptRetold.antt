-- Tokens of the kinds that spell a script are that script at other places.
use Rattle.std.proofs.Common.{◌≡◌, ℕ, ◌≤◌, List, [], ◌∷◌, ◌++◌, length, map, refl, sym, ap, subst, ◌∙◌, append_assoc}
use Rattle.std.proofs.lemmas.List.{length-map}
use Rattle.std.specs.List.{flat_map}
use Rattle.vtl_syntax.specs.declared.ruleset.Ruleset.{Ruleset}
use Rattle.vtl_syntax.specs.declared.operator.DefinedOperator.{DefinedOperator}
use Rattle.vtl_syntax.specs.declared.script.Statement.{Statement}
use Rattle.vtl_syntax.specs.declared.script.Script.{Script}
use Rattle.vtl_grammar.specs.Marks.{Tokens}
use Rattle.vtl_grammar.specs.Rules.{Counts, Of, Spells}
use Rattle.vtl_grammar.specs.Expressions.{IsPart}
use Rattle.vtl_grammar.specs.Scripts.{PieceKind, a_statement, a_ruleset, an_operator, limit_of, piece_rule, OfKind, piece_tree, Piece, of_kind, all_of_kind, IsPiece, IsPieces, AreFew, script_of}
use Rattle.vtl_spelling.specs.Kinds.{Kinds, ◌&◌}
use Rattle.vtl_spelling.specs.Rulesets.{ruleset_spelled}
use Rattle.vtl_spelling.specs.Operators.{operator_spelled}
use Rattle.vtl_spelling.specs.Scripts.{statement_spelled, script_spelled}
use Rattle.vtl_spelling.specs.Placeless.{IsSameButPlaces}
use Rattle.vtl_spelling.specs.Laws.{kinds_of}
use Rattle.vtl_spelling.proofs.Told.{ap_three}
use Rattle.vtl_spelling.proofs.Retold.{in_two, no_more, Retells}
use Rattle.vtl_spelling.proofs.PartRetold.{told-retold}
use Rattle.vtl_spelling.proofs.PiecesTold.{piece_spelled, piece_placeless, piece-told}

-- ---- one after the other

-- the tokens spell each of them, one after the other
abbrev pub SpellsEach : {A : Type 0} → (A → Tokens → Type 0) → List A → Tokens → Type 0
SpellsEach S [] us = us ≡ []
SpellsEach S (x ∷ xs) us = (a b : Tokens) × (us ≡ a ++ b) × S x a × SpellsEach S xs b

each-retold : {A : Type 0} (same : A → A) (kinds : A → Kinds) (S : A → Tokens → Type 0) → Retells same kinds S → Retells (λ xs. map same xs) (λ xs. flat_map kinds xs) (λ xs us. SpellsEach S xs us)
each-retold same kinds S each [] us ws s e = record { value = []; is_same = refl; said = no_more ws e }
each-retold same kinds S each (x ∷ xs) us ws (a, b, parts, s, ss) e =
    let two = in_two (kinds x) (flat_map kinds xs) ws e in
    let first = each x a two.left s two.left_kinds in
    let rest = each-retold same kinds S each xs b two.right ss two.right_kinds in
    record { value = first.value ∷ rest.value; is_same = (let f = first.is_same in let r = rest.is_same in cc); said = (two.left, two.right, two.parts, first.said, rest.said) }

-- what is the same is as long
same-length : {A : Type 0} (same : A → A) (xs ys : List A) → map same xs ≡ map same ys → length xs ≡ length ys
same-length same xs ys is = sym (length-map xs same) ∙ ap length is ∙ length-map ys same

-- ---- pieces, the operators first, then the rulesets, then the statements

in_order : List DefinedOperator → List Ruleset → List Statement → List Piece
in_order [] [] [] = []
in_order [] [] (s ∷ ss) = (a_statement, s) ∷ in_order [] [] ss
in_order [] (r ∷ rs) ss = (a_ruleset, r) ∷ in_order [] rs ss
in_order (o ∷ os) rs ss = (an_operator, o) ∷ in_order os rs ss

script_of-in_order : (os : List DefinedOperator) (rs : List Ruleset) (ss : List Statement) → script_of (in_order os rs ss) ≡ record { statements = ss; rulesets = rs; operators = os }
unfolding in_order
script_of-in_order [] [] [] = refl
script_of-in_order [] [] (s ∷ ss) = ap (λ (x : Script). more x) (script_of-in_order [] [] ss)
  where
    more : Script → Script
    more x = record { statements = s ∷ x.statements; rulesets = x.rulesets; operators = x.operators }
script_of-in_order [] (r ∷ rs) ss = ap (λ (x : Script). more x) (script_of-in_order [] rs ss)
  where
    more : Script → Script
    more x = record { statements = x.statements; rulesets = r ∷ x.rulesets; operators = x.operators }
script_of-in_order (o ∷ os) rs ss = ap (λ (x : Script). more x) (script_of-in_order os rs ss)
  where
    more : Script → Script
    more x = record { statements = x.statements; rulesets = x.rulesets; operators = o ∷ x.operators }

module _ (L : Counts) (d : ℕ) where
  abbrev IsOfKind : (k : PieceKind) → OfKind k → Tokens → Type 0
  IsOfKind k x us = (v : Of (piece_rule k)) × (x ≡ piece_tree k v) × Spells L (IsPart L d) (piece_rule k) v us

  -- the pieces of a kind by themselves
  one_more : (k : PieceKind) (p : Piece) (xs : List (OfKind k)) (a b : Tokens) → IsPiece L d p a → SpellsEach (IsOfKind k) xs b → (c : Tokens) × SpellsEach (IsOfKind k) (of_kind k p ++ xs) c
  one_more a_statement (a_statement, x) xs a b s rest = (a ++ b, (a, b, refl, s, rest))
  one_more a_ruleset (a_ruleset, x) xs a b s rest = (a ++ b, (a, b, refl, s, rest))
  one_more an_operator (an_operator, x) xs a b s rest = (a ++ b, (a, b, refl, s, rest))
  one_more _ _ xs a b s rest = (b, rest)

  apart : (k : PieceKind) (ps : List Piece) (us : Tokens) → IsPieces L d ps us → (c : Tokens) × SpellsEach (IsOfKind k) (all_of_kind k ps) c
  apart k [] us s = ([], refl)
  apart k (p ∷ ps) us (a, b, parts, s, rest) = let q = apart k ps b rest in one_more k p (all_of_kind k ps) a q.0 s q.1

  pieces-in_order : (os : List DefinedOperator) (rs : List Ruleset) (ss : List Statement) (us vs ws : Tokens) → SpellsEach (IsOfKind an_operator) os us → SpellsEach (IsOfKind a_ruleset) rs vs → SpellsEach (IsOfKind a_statement) ss ws → IsPieces L d (in_order os rs ss) (us ++ (vs ++ ws))
  unfolding in_order
  pieces-in_order [] [] [] us vs ws o r s = cc
  pieces-in_order [] [] (x ∷ ss) us vs ws o r (a, b, parts, s, rest) = (a, b, cc, s, pieces-in_order [] [] ss [] [] b refl refl rest)
  pieces-in_order [] (x ∷ rs) ss us vs ws o (a, b, parts, r, rest) s = (a, b ++ ws, ap (λ (ts : Tokens). ts ++ (vs ++ ws)) o ∙ ap (λ (ts : Tokens). ts ++ ws) parts ∙ append_assoc a b ws, r, pieces-in_order [] rs ss [] b ws refl rest s)
  pieces-in_order (x ∷ os) rs ss us vs ws (a, b, parts, o, rest) r s = (a, b ++ (vs ++ ws), ap (λ (ts : Tokens). ts ++ (vs ++ ws)) parts ∙ append_assoc a b (vs ++ ws), o, pieces-in_order os rs ss b vs ws rest r s)

  -- ---- other tokens of the same kinds

  kind-retold : (k : PieceKind) → Retells (λ xs. map (λ x. piece_placeless k x) xs) (λ xs. flat_map (λ x. piece_spelled k x) xs) (λ xs us. SpellsEach (IsOfKind k) xs us)
  kind-retold k = each-retold (λ x. piece_placeless k x) (λ x. piece_spelled k x) (IsOfKind k) (told-retold L d (piece_rule k) (λ v. piece_tree k v) (λ x. piece_spelled k x) (λ x. piece_placeless k x) (piece-told k))

  abbrev AreSame : PieceKind → List Piece → List Piece → Type 0
  AreSame k qs ps = map (λ x. piece_placeless k x) (all_of_kind k qs) ≡ map (λ x. piece_placeless k x) (all_of_kind k ps)

  still_few : (k : PieceKind) (qs ps : List Piece) → AreSame k qs ps → length (all_of_kind k ps) ≤ L (limit_of k) → length (all_of_kind k qs) ≤ L (limit_of k)
  still_few k qs ps same few = subst (λ (n : ℕ). n ≤ L (limit_of k)) (sym (same-length (λ x. piece_placeless k x) (all_of_kind k qs) (all_of_kind k ps) same)) few

  are_few : (qs ps : List Piece) → AreSame a_statement qs ps → AreSame a_ruleset qs ps → AreSame an_operator qs ps → AreFew L ps → AreFew L qs
  are_few qs ps s r o few a_statement = still_few a_statement qs ps s (few a_statement)
  are_few qs ps s r o few a_ruleset = still_few a_ruleset qs ps r (few a_ruleset)
  are_few qs ps s r o few an_operator = still_few an_operator qs ps o (few an_operator)

  pub pieces-retold : (ps : List Piece) (us ws : Tokens) → AreFew L ps → IsPieces L d ps us → kinds_of ws ≡ script_spelled (script_of ps) → (t : Script) × ((qs : List Piece) × (t ≡ script_of qs) × AreFew L qs × IsPieces L d qs ws) × IsSameButPlaces t (script_of ps)
  pieces-retold ps us ws few pieces kinds =
      let x : Script = script_of ps in
      let two = in_two (flat_map operator_spelled x.operators) (flat_map ruleset_spelled x.rulesets & flat_map statement_spelled x.statements) ws kinds in
      let more = in_two (flat_map ruleset_spelled x.rulesets) (flat_map statement_spelled x.statements) two.right two.right_kinds in
      let oa = apart an_operator ps us pieces in
      let ra = apart a_ruleset ps us pieces in
      let sa = apart a_statement ps us pieces in
      let o = kind-retold an_operator x.operators oa.0 two.left oa.1 two.left_kinds in
      let r = kind-retold a_ruleset x.rulesets ra.0 more.left ra.1 more.left_kinds in
      let s = kind-retold a_statement x.statements sa.0 more.right sa.1 more.right_kinds in
      let qs : List Piece = in_order o.value r.value s.value in
      let is = script_of-in_order o.value r.value s.value in (
        record { statements = s.value; rulesets = r.value; operators = o.value },
        (
          qs,
          sym is,
          are_few qs ps (ap (λ (y : Script). map (λ x. piece_placeless a_statement x) y.statements) is ∙ s.is_same) (ap (λ (y : Script). map (λ x. piece_placeless a_ruleset x) y.rulesets) is ∙ r.is_same) (ap (λ (y : Script). map (λ x. piece_placeless an_operator x) y.operators) is ∙ o.is_same) few,
          subst (λ (vs : Tokens). IsPieces L d qs vs) (sym (two.parts ∙ ap (λ (vs : Tokens). two.left ++ vs) more.parts)) (pieces-in_order o.value r.value s.value two.left more.left more.right o.said r.said s.said),
        ),
        ap_three (λ (xs : List Statement) (ys : List Ruleset) (zs : List DefinedOperator). made xs ys zs) s.is_same r.is_same o.is_same,
      )
    where
      made : List Statement → List Ruleset → List DefinedOperator → Script
      made xs ys zs = record { statements = xs; rulesets = ys; operators = zs }
