-- How a header is gone through.
use Rattle.std.proofs.Common.{◌≡◌, ℕ, ◌+◌, ◌<◌, Bool, true, false, List, [], ◌∷◌, ◌++◌, length, get_or, take, drop, map, Option, Some, None, is_some, cond, refl, sym, ap, subst, ◌∙◌, arith}
use Rattle.std.specs.Prelude.{◌&&◌, not, position, nat_lt}
use Rattle.std.specs.List.{list_all, list_any, position_or_len}
use Rattle.std.proofs.lemmas.List.{append-nil, map_more, take_more, take-append-drop}
use Rattle.std.proofs.lemmas.List.Folds.{list_all-append, list_all-map, list_all_at}
use Rattle.indexmap.specs.IndexSet.{insert_key}
use Rattle.vtl_values.specs.declared.structure.Component.{Component}
use Rattle.vtl_values.specs.Texts.{same_text}
use Rattle.revision_files.specs.declared.columns.Columns.{Columns}
use Rattle.revision_files.specs.Columns.{ACTION, column_of, columns_of, columns_with, is_among, names_of}
use Rattle.revision_files.specs.Texts.{is_of, wanted_of}
use Rattle.revision_files.proofs.Names.{is_of-false, is_of-push, is_of-same, known-fits, known-lacks, known-not_of, column_found}

and_false : (b : Bool) → (b && false) ≡ false
and_false true = refl
and_false false = refl

next_is_of : (wanted header : List (List ℕ)) (i : ℕ) (name : List ℕ) (good : Bool) → i < length header → get_or header i [] ≡ name → (not (is_among (take i header) name) && is_among wanted name) ≡ good → is_of wanted (take (i + 1) header) ≡ (is_of wanted (take i header) && good)
next_is_of wanted header i name good within at is =
    ap (is_of wanted) (take_more header i [] within ∙ ap (λ n. take i header ++ n ∷ []) at)
    ∙ (is_of-push wanted (take i header) name ∙ ap (λ b. is_of wanted (take i header) && b) is)

-- a name that isn't wanted, or that stands there already
pub header_fails : (wanted header : List (List ℕ)) (i : ℕ) (name : List ℕ) → i < length header → get_or header i [] ≡ name → (not (is_among (take i header) name) && is_among wanted name) ≡ false → is_of wanted header ≡ false
header_fails wanted header i name within at is =
    ap (is_of wanted) (sym (take-append-drop (i + 1) header))
    ∙ is_of-false wanted (take (i + 1) header) (drop (i + 1) header) (next_is_of wanted header i name false within at is ∙ and_false (is_of wanted (take i header)))

-- a name that is wanted and new
pub header_goes : (wanted header : List (List ℕ)) (i : ℕ) (name : List ℕ) → i < length header → get_or header i [] ≡ name → (not (is_among (take i header) name) && is_among wanted name) ≡ true → is_of wanted (take i header) ≡ true → is_of wanted (take (i + 1) header) ≡ true
header_goes wanted header i name within at is before = next_is_of wanted header i name true within at is ∙ ap (λ b. b && true) before

-- a new name goes last
pub keys-new : (keys : List (List ℕ)) (name : List ℕ) → is_among keys name ≡ false → insert_key same_text keys name ≡ keys ++ name ∷ []
keys-new keys name new = ap (λ b. cond b keys (keys ++ name ∷ [])) new

-- a component that the header lacks
pub component_lacks : (keys : List (List ℕ)) (components : List Component) (i : ℕ) (component : Component) → i < length components → component ≡ get_or components i component → is_among keys component.name ≡ false → list_all (is_among keys) (names_of components) ≡ false
component_lacks keys components i component within at lacks =
    list_all-map (is_among keys) (λ c. c.name) components
    ∙ list_all_at (λ c. is_among keys c.name) components i component within (ap (λ (c : Component). is_among keys c.name) (sym at) ∙ lacks)

-- a component that it has
pub component_there : (keys : List (List ℕ)) (components : List Component) (i : ℕ) (component : Component) → i < length components → component ≡ get_or components i component → is_among keys component.name ≡ true → list_all (is_among keys) (names_of (take i components)) ≡ true → list_all (is_among keys) (names_of (take (i + 1) components)) ≡ true
component_there keys components i component within at there before =
    ap (list_all (is_among keys)) (map_more (λ c. c.name) components i component within ∙ ap (λ (c : Component). names_of (take i components) ++ c.name ∷ []) (sym at))
    ∙ (list_all-append (is_among keys) (names_of (take i components)) (component.name ∷ []) ∙ (λ j. before j && (there j && true)))

pub component_columns-more : (keys : List (List ℕ)) (components : List Component) (i : ℕ) (component : Component) (columns : List ℕ) (column : ℕ) → i < length components → component ≡ get_or components i component → position (same_text component.name) keys ≡ Some column
    → columns ≡ map (column_of keys) (names_of (take i components)) → columns ++ column ∷ [] ≡ map (column_of keys) (names_of (take (i + 1) components))
component_columns-more keys components i component columns column within at is before =
    ap (λ cs. cs ++ column ∷ []) before
    ∙ (ap (λ c. map (column_of keys) (names_of (take i components)) ++ c ∷ []) (sym (column_found keys component.name column is))
    ∙ (sym (map-push (column_of keys) (names_of (take i components)) component.name)
    ∙ ap (map (column_of keys)) (sym (map_more (λ c. c.name) components i component within ∙ ap (λ (c : Component). names_of (take i components) ++ c.name ∷ []) (sym at)))))
  where
    map-push : (f : List ℕ → ℕ) (xs : List (List ℕ)) (x : List ℕ) → map f (xs ++ x ∷ []) ≡ map f xs ++ f x ∷ []
    map-push f [] x = refl
    map-push f (y ∷ xs) x = ap (λ rest. f y ∷ rest) (map-push f xs x)

-- a further name that is wanted
pub wanted_of-more : (components : List Component) (i : ℕ) (component : Component) → i < length components → component ≡ get_or components i component → wanted_of (take (i + 1) components) ≡ wanted_of (take i components) ++ component.name ∷ []
wanted_of-more components i component within at =
    ap (λ names. ACTION ∷ names) (map_more (λ c. c.name) components i component within ∙ ap (λ (c : Component). names_of (take i components) ++ c.name ∷ []) (sym at))

position-lacks : (p : List ℕ → Bool) (b : Bool) (n : ℕ) → is_some (cond b (Some n) None) ≡ false → b ≡ false
position-lacks p true n is = cc
position-lacks p false n is = refl

-- the columns of a known data set, from what its look-ups gave
pub known_by : (wanted : List (List ℕ)) (components : List Component) (header : List (List ℕ)) → ((name : List ℕ) → is_among wanted name ≡ is_among (wanted_of components) name) → is_of wanted header ≡ false → columns_of (Some components) header ≡ None
known_by wanted components header same none = known-not_of components header (sym (is_of-same wanted (wanted_of components) header same) ∙ none)

pub known_lacks_action : (components : List Component) (header : List (List ℕ)) → is_among header ACTION ≡ false → columns_of (Some components) header ≡ None
known_lacks_action components header lacks = known-lacks components header (ap (λ b. b && list_all (is_among header) (names_of components)) lacks)

pub known_lacks_component : (components : List Component) (header : List (List ℕ)) → list_all (is_among header) (names_of components) ≡ false → columns_of (Some components) header ≡ None
known_lacks_component components header lacks = known-lacks components header (ap (λ b. is_among header ACTION && b) lacks ∙ and_false (is_among header ACTION))

pub known_all : (wanted : List (List ℕ)) (components : List Component) (header : List (List ℕ)) (action : ℕ) → ((name : List ℕ) → is_among wanted name ≡ is_among (wanted_of components) name) → is_of wanted header ≡ true → is_among header ACTION ≡ true → position (same_text ACTION) header ≡ Some action → list_all (is_among header) (names_of components) ≡ true
    → columns_of (Some components) header ≡ Some (record { width = length header; action = action; fields = map (column_of header) (names_of components) })
known_all wanted components header action same each there at all =
    known-fits components header (sym (is_of-same wanted (wanted_of components) header same) ∙ each) (λ j. there j && all j)
    ∙ ap (λ n. Some (record { width = length header; action = n; fields = map (column_of header) (names_of components) })) (column_found header ACTION action at)
