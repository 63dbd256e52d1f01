-- What stands after rows and parts, told from the rows.
use Rattle.std.proofs.Common.{◌≡◌, ◌≢◌, ◌⊎◌, ℕ, ◌+◌, ◌<◌, List, [], ◌∷◌, ◌++◌, length, Option, Some, None, Bool, true, false, cond, nat_le, Result, Ok, Err, refl, sym, subst, ap, ◌∙◌, inl, inr, append_assoc, unwrap_or}
use Rattle.std.specs.Prelude.{IsSome, is_some}
use Rattle.std.specs.Result.{IsOkAnd, is_err, result_unwrap_or}
use Rattle.std.specs.List.{All, Any, fold}
use Rattle.std.specs.Ordering.{eq_by_cmp}
use Rattle.std.specs.FinMap.{get, insert, remove, len, empty, get-insert, get-remove}
use Rattle.std.proofs.lemmas.Bool.{cases_Bool, cases_eq, eq-eqb, ne_eqb}
use Rattle.std.proofs.lemmas.Grind.{flat_map-append}
use Rattle.std.proofs.lemmas.List.{append-nil, length-set, length-map}
use Rattle.std.proofs.lemmas.List.Elements.{All-contains, All-nil, All-push, All-weaker, Contains-append_left}
use Rattle.std.proofs.lemmas.List.Quantifiers.{Any-push}
use Rattle.vtl_values.specs.declared.structure.Component.{Component}
use Rattle.vtl_values.specs.declared.value.Value.{Value}
use Rattle.vtl_values.specs.Order.{key_cmp}
use Rattle.vtl_values.specs.Structures.{NamedStructures, number_of}
use Rattle.vtl_values.proofs.Values.{key_cmp-IsTotalOrder, key_cmp-IsAntisymmetric}
use Rattle.data_model.specs.Maps.{is_listed}
use Rattle.data_model.specs.Deltas.{Pair, LeadsAt}
use Rattle.data_model.specs.declared.TheConstants.{POINT_LIMIT}
use Rattle.data_model.proofs.DeltaLemmas.{LeadsAt-of_Leads}
use Rattle.data_model.proofs.DraftLemmas.{is_listed-last}
use Rattle.data_model.proofs.MapLemmas.{tied, tied_to_itself, neither}
use Rattle.point_sets.specs.DataSets.{DataSet}
use Rattle.point_sets.specs.declared.revision.Part.{Part}
use Rattle.point_sets.specs.declared.revision.RawRow.{RawRow}
use Rattle.point_sets.specs.declared.revision.Revision.{Revision}
use Rattle.revision_judge.specs.declared.cause.Cause.{Cause}
use Rattle.revision_judge.specs.declared.cause.Cause.TheVariants.{KeyTwice, NoSuchPoint, SetFull}
use Rattle.revision_judge.specs.declared.ruling.Refusal.{Refusal}
use Rattle.revision_judge.specs.declared.ruling.Ruling.TheVariants as ruling
use Rattle.revision_judge.specs.declared.ruling.Share.{Share}
use Rattle.revision_judge.specs.Steps.{◌>>=◌}
use Rattle.revision_judge.specs.Rows.{Ask, Put, Remove, Progress, at_first, in_new_part, asked, granted, grown, or_refused, refused_at, row_judged, rows_judged}
use Rattle.revision_judge.specs.Judging.{Judgement, Fit, Refused, Standing, before_parts, progress_at, and_part, sets_at, judgement_of, components_of, input, settled, judged, parts_judged, part_judged}
use Rattle.revision_judge.specs.Alone.{NamedByNone}
use Rattle.revision_judge.specs.Shares.{AreShares, IsShare, StandsForJudgement, with_shares}
use Rattle.revision_judge.proofs.Judgements.{WentOn, went-on, each_part, first-progress, progress-set, accepted-others}
use Rattle.revision_judge.proofs.StandingLemmas.{progress-here, progress-other}
use Rattle.revision_judge.proofs.ShareLemmas.{told-fit}
use Rattle.feed_laws.specs.Asked.{IsAsAsked, Names, Stands, key_asked, rows_for, rows_if}

-- what comes to stand at the key that is asked for
abbrev value_asked : Ask → Option (List Value)
value_asked (Put key rest) = Some rest
value_asked (Remove key) = None

-- the data set after it
abbrev done_to : DataSet → Ask → DataSet
done_to set (Put key rest) = insert set key rest
done_to set (Remove key) = remove set key

stands-value : (set : DataSet) (ask : Ask) → get set (key_asked ask) ≡ value_asked ask → Stands set ask
stands-value set (Put key rest) e = e
stands-value set (Remove key) e = e

value-stands : (set : DataSet) (ask : Ask) → Stands set ask → get set (key_asked ask) ≡ value_asked ask
value-stands set (Put key rest) e = e
value-stands set (Remove key) e = e

get-done : (set : DataSet) (ask : Ask) (q : List Value) → get (done_to set ask) q ≡ cond (eq_by_cmp key_cmp q (key_asked ask)) (value_asked ask) (get set q)
get-done set (Put key rest) q = get-insert key_cmp-IsTotalOrder set key rest q
get-done set (Remove key) q = get-remove key_cmp-IsTotalOrder set key q

-- ---- steps that went well

both-well : {A B E : Type 0} (r : Result A E) (next : A → Result B E) (y : B) → (r >>= next) ≡ Ok y → (x : A) × (r ≡ Ok x) × (next x ≡ Ok y)
both-well (Ok x) next y e = (x, refl, e)
both-well {A} {B} {E} (Err why) next y e = absurd (never e)
  where
    never : (let r : Result B E = Err why in r) ≡ Ok y → ⊥
    never e = let bad : true ≡ false = ap is_err e in cc

well-weaker : {A E : Type 0} (P Q : A → Type 0) → ((x : A) → P x → Q x) → (r : Result A E) → IsOkAnd r P → IsOkAnd r Q
well-weaker P Q f (Ok x) h = f x h
well-weaker P Q f (Err e) h = absurd h

-- ---- a row more

tested : (listed passed : Bool) (why : Cause) (next q : Progress) → cond listed (let r : Result Progress Cause = Err KeyTwice in r) (cond passed (Ok next) (Err why)) ≡ Ok q → (listed ≡ false) × (next ≡ q)
tested true passed why next q e = let bad : true ≡ false = ap is_err e in cc
tested false true why next q e = (refl, ap (λ (r : Result Progress Cause). result_unwrap_or r next) e)
tested false false why next q e = let bad : true ≡ false = ap is_err e in cc

granted-parts : (p q : Progress) (ask : Ask) → granted p ask ≡ Ok q → (is_listed key_cmp p.keys (key_asked ask) ≡ false) × (grown p (key_asked ask) (done_to p.set ask) ≡ q)
granted-parts p q (Put key rest) e = tested (is_listed key_cmp p.keys key) (nat_le (len (insert p.set key rest)) POINT_LIMIT) SetFull (grown p key (insert p.set key rest)) q e
granted-parts p q (Remove key) e = tested (is_listed key_cmp p.keys key) (is_some (get p.set key)) NoSuchPoint (grown p key (remove p.set key)) q e

-- a key that stands among others isn't one that doesn't
apart : (ks : List (List Value)) (key q : List Value) → is_listed key_cmp ks key ≡ false → is_listed key_cmp ks q ≡ true → eq_by_cmp key_cmp q key ≡ false
apart ks key q out inside = elim (cases_Bool (eq_by_cmp key_cmp q key)) [
  | inl yes' ↦ let bad : true ≡ false = sym inside ∙ ap (is_listed key_cmp ks) (tied key_cmp-IsTotalOrder key_cmp-IsAntisymmetric q key yes') ∙ out in cc
  | inr no' ↦ no'
]

Any-front : {X : Type 0} (P : X → Type 0) (xs : List X) (y : X) → Any P xs → Any P (xs ++ y ∷ [])
Any-front P xs y h = let at = Contains-append_left xs (y ∷ []) h.1 (h.0, h.2, h.3) in (at.0, h.1, at.1, at.2, h.4)

-- what was asked for stands, and its key is one of those so far
abbrev StandsSoFar : Progress → Ask → Type 0
StandsSoFar p ask = Stands p.set ask × (is_listed key_cmp p.keys (key_asked ask) ≡ true)

abbrev RowStands : List Component → Progress → RawRow → Type 0
RowStands components p row = IsOkAnd (asked components row) (StandsSoFar p)

-- what stands after these rows of a data set, whose keys are those that the rows name
record AreTold (components : List Component) (before : DataSet) (rows : List RawRow) (p : Progress) : Type 0 where
  stands : All (RowStands components p) rows
  listed : (key : List Value) → is_listed key_cmp p.keys key ≡ true → Any (Names components key) rows
  others : (key : List Value) → is_listed key_cmp p.keys key ≡ false → get p.set key ≡ get before key

module _ (components : List Component) (before : DataSet) where
  abbrev Told : List RawRow → Progress → Type 0
  Told = AreTold components before

  told-first : Told [] (at_first before)
  told-first = record { stands = All-nil (RowStands components (at_first before)); listed = λ key e. cc; others = λ key e. refl }

  told-new_part : (rows : List RawRow) (p : Progress) → Told rows p → Told rows (in_new_part p)
  told-new_part rows p h = record { stands = h.stands; listed = h.listed; others = h.others }

  module _ (rows : List RawRow) (p : Progress) (h : Told rows p) (row : RawRow) (ask : Ask) (is : asked components row ≡ Ok ask) (out : is_listed key_cmp p.keys (key_asked ask) ≡ false) where
    abbrev key : List Value
    key = key_asked ask

    abbrev then' : Progress
    then' = grown p key (done_to p.set ask)

    grown-listed : (q : List Value) → is_listed key_cmp then'.keys q ≡ true → (eq_by_cmp key_cmp q key ≡ true) ⊎ (is_listed key_cmp p.keys q ≡ true)
    grown-listed q e = elim (cases_Bool (eq_by_cmp key_cmp q key)) [
      | inl yes' ↦ inl yes'
      | inr no' ↦ inr (sym (is_listed-last key_cmp p.keys key q ∙ rw no' refl) ∙ e)
    ]

    still-stands : (a : Ask) → StandsSoFar p a → StandsSoFar then' a
    still-stands a s =
        let other = apart p.keys key (key_asked a) out s.1 in (
          stands-value then'.set a (get-done p.set ask (key_asked a) ∙ ap (λ b. cond b (value_asked ask) (get p.set (key_asked a))) other ∙ value-stands p.set a s.0),
          is_listed-last key_cmp p.keys key (key_asked a) ∙ rw (other, s.1) refl,
        )

    itself : eq_by_cmp key_cmp key key ≡ true
    itself = tied_to_itself key_cmp-IsTotalOrder key

    now-stands : StandsSoFar then' ask
    now-stands = (
      stands-value then'.set ask (get-done p.set ask key ∙ ap (λ b. cond b (value_asked ask) (get p.set key)) itself),
      is_listed-last key_cmp p.keys key key ∙ rw itself refl,
    )

    told-more : Told (rows ++ row ∷ []) then'
    told-more = record {
      stands = All-push (RowStands components then') rows row
          (All-weaker (RowStands components p) (RowStands components then') (λ r. well-weaker (StandsSoFar p) (StandsSoFar then') still-stands (asked components r)) rows h.stands)
          (subst (λ (r : Result Ask Cause). IsOkAnd r (StandsSoFar then')) (sym is) now-stands);
      listed = λ q e. elim (grown-listed q e) [
        | inl same ↦ Any-push (Names components q) rows row (subst (λ (r : Result Ask Cause). IsOkAnd r (λ a. key_asked a ≡ q)) (sym is) (sym (tied key_cmp-IsTotalOrder key_cmp-IsAntisymmetric q key same)))
        | inr old ↦ Any-front (Names components q) rows row (h.listed q old)
      ];
      others = λ q e.
          let both = neither (eq_by_cmp key_cmp q key) (is_listed key_cmp p.keys q) (sym (is_listed-last key_cmp p.keys key q) ∙ e) in
          get-done p.set ask q ∙ ap (λ b. cond b (value_asked ask) (get p.set q)) both.0 ∙ h.others q both.1;
    }

  told-row : (rows : List RawRow) (p q : Progress) (row : RawRow) → Told rows p → row_judged components p row ≡ Ok q → Told (rows ++ row ∷ []) q
  told-row rows p q row h e =
      let parts = both-well (asked components row) (granted p) q e in
      let well = granted-parts p q parts.0 parts.2 in
      subst (Told (rows ++ row ∷ [])) well.1 (told-more rows p h row parts.0 parts.1 well.0)

  -- ---- the rows of a part

  abbrev each_row : ℕ → Result Progress Refusal → RawRow → Result Progress Refusal
  each_row part so_far row = so_far >>= (λ p. or_refused (refused_at components part p row) (row_judged components p row))

  stuck : (part : ℕ) (rows : List RawRow) (refusal : Refusal) (q : Progress) → fold (each_row part) (Err refusal) rows ≡ Ok q → ⊥
  stuck part [] refusal q e = let bad : true ≡ false = ap is_err e in cc
  stuck part (row ∷ rows) refusal q e = stuck part rows refusal q e

  told-step : (part : ℕ) (done rows : List RawRow) (p : Progress) (row : RawRow) (q : Progress) → Told done p
      → ((t : Progress) → Told (done ++ row ∷ []) t → fold (each_row part) (Ok t) rows ≡ Ok q → Told ((done ++ row ∷ []) ++ rows) q)
      → (r : Result Progress Cause) → row_judged components p row ≡ r → fold (each_row part) (or_refused (refused_at components part p row) r) rows ≡ Ok q → Told ((done ++ row ∷ []) ++ rows) q
  told-step part done rows p row q h later (Ok t) is e = later t (told-row done p t row h is) e
  told-step part done rows p row q h later (Err cause) is e = absurd (stuck part rows (refused_at components part p row cause) q e)

  told-rows : (part : ℕ) (rows done : List RawRow) (p q : Progress) → Told done p → rows_judged components part p rows ≡ Ok q → Told (done ++ rows) q
  told-rows part [] done p q h e = rw (append-nil done) (subst (Told done) (ap (λ (r : Result Progress Refusal). result_unwrap_or r p) e) h)
  told-rows part (row ∷ rows) done p q h e = subst (λ (rs : List RawRow). Told rs q) (append_assoc done (row ∷ []) rows)
      (told-step part done rows p row q h (λ t k f. told-rows part rows (done ++ row ∷ []) t q k f) (row_judged components p row) refl e)

-- ---- the parts

module _ (structures : NamedStructures) (inputs : List DataSet) (n : ℕ) where
  abbrev rows_in : Part → List RawRow
  rows_in part = rows_if n part.rows (number_of structures part.set)

  abbrev ToldFor : List Part → Standing → Type 0
  ToldFor parts s = AreTold (components_of structures n) (input inputs n) (rows_for structures n parts) (progress_at s n)

  rows-more : (parts : List Part) (part : Part) → rows_for structures n (parts ++ part ∷ []) ≡ rows_for structures n parts ++ rows_in part
  rows-more parts part = flat_map-append rows_in parts (part ∷ []) ∙ ap (λ (rs : List RawRow). rows_for structures n parts ++ rs) (append-nil (rows_in part))

  rows-own : (part : Part) (m : ℕ) → number_of structures part.set ≡ Some m → m ≡ n → rows_in part ≡ part.rows
  rows-own part m is same = ap (rows_if n part.rows) is ∙ ap (λ (b : Bool). cond b part.rows []) (eq-eqb m n same)

  rows-other : (part : Part) (m : ℕ) → number_of structures part.set ≡ Some m → m ≢ n → rows_in part ≡ []
  rows-other part m is other = ap (rows_if n part.rows) is ∙ ap (λ (b : Bool). cond b part.rows []) (ne_eqb m n other)

  module _ (done : List Part) (s : Standing) (part : Part) (m : ℕ) (p : Progress) (named : number_of structures part.set ≡ Some m) (l : n < length s.sets) (h : ToldFor done s) where
    -- a part of this data set
    told-own : m ≡ n → rows_judged (components_of structures m) (s.parts + 1) (in_new_part (progress_at s m)) part.rows ≡ Ok p → ToldFor (done ++ part ∷ []) (and_part s m p)
    told-own same judged' =
        let rows' = subst (λ k. rows_judged (components_of structures k) (s.parts + 1) (in_new_part (progress_at s k)) part.rows ≡ Ok p) same judged' in
        let told = told-rows (components_of structures n) (input inputs n) (s.parts + 1) part.rows (rows_for structures n done) (in_new_part (progress_at s n)) p
        (told-new_part (components_of structures n) (input inputs n) (rows_for structures n done) (progress_at s n) h) rows' in
        let here : progress_at (and_part s m p) n ≡ p = subst (λ k. progress_at (and_part s k p) n ≡ p) (sym same) (progress-here s n p l) in
        subst (AreTold (components_of structures n) (input inputs n) (rows_for structures n (done ++ part ∷ []))) (sym here)
        (subst (λ (rs : List RawRow). AreTold (components_of structures n) (input inputs n) rs p) (sym (rows-more done part ∙ ap (λ (rs : List RawRow). rows_for structures n done ++ rs) (rows-own part m named same))) told)

    -- a part of another one
    told-other : m ≢ n → ToldFor (done ++ part ∷ []) (and_part s m p)
    told-other other =
        let none : rows_for structures n (done ++ part ∷ []) ≡ rows_for structures n done =
        rows-more done part ∙ ap (λ (rs : List RawRow). rows_for structures n done ++ rs) (rows-other part m named other) ∙ append-nil (rows_for structures n done) in
        subst (λ (rs : List RawRow). AreTold (components_of structures n) (input inputs n) rs (progress_at (and_part s m p) n)) (sym none)
        (subst (AreTold (components_of structures n) (input inputs n) (rows_for structures n done)) (sym (progress-other s m p n (λ e. other (sym e)))) h)

  told-part : (done : List Part) (s t : Standing) (part : Part) → n < length s.sets → ToldFor done s → WentOn structures s part t → ToldFor (done ++ part ∷ []) t
  told-part done s t part l h w = subst (ToldFor (done ++ part ∷ [])) w.leaves (elim (cases_eq w.number n) [
    | inl same ↦ told-own done s part w.number w.progress w.named l h same w.rows
    | inr other ↦ told-other done s part w.number w.progress w.named l h other
  ])

  stuck-parts : (parts : List Part) (refusal : Refusal) (t : Standing) → fold (each_part structures) (Err refusal) parts ≡ Ok t → ⊥
  stuck-parts [] refusal t e = let bad : true ≡ false = ap is_err e in cc
  stuck-parts (part ∷ parts) refusal t e = stuck-parts parts refusal t e

  part-long : (s t : Standing) (part : Part) → WentOn structures s part t → n < length s.sets → n < length t.sets
  part-long s t part w l = subst (λ k. n < k) (sym (length-set s.sets w.number w.progress) ∙ ap (λ (u : Standing). length u.sets) w.leaves) l

  parts-step : (parts done : List Part) (s : Standing) (part : Part) (t : Standing) → n < length s.sets → ToldFor done s
      → ((u : Standing) → n < length u.sets → ToldFor (done ++ part ∷ []) u → fold (each_part structures) (Ok u) parts ≡ Ok t → ToldFor ((done ++ part ∷ []) ++ parts) t)
      → (r : Result Standing Refusal) → part_judged structures s part ≡ r → fold (each_part structures) r parts ≡ Ok t → ToldFor ((done ++ part ∷ []) ++ parts) t
  parts-step parts done s part t l h later (Ok u) is e = let w = went-on structures s part u is in later u (part-long s u part w l) (told-part done s u part l h w) e
  parts-step parts done s part t l h later (Err refusal) is e = absurd (stuck-parts parts refusal t e)

  told-parts : (parts done : List Part) (s t : Standing) → n < length s.sets → ToldFor done s → fold (each_part structures) (Ok s) parts ≡ Ok t → ToldFor (done ++ parts) t
  told-parts [] done s t l h e = subst (λ (ps : List Part). ToldFor ps t) (sym (append-nil done)) (subst (ToldFor done) (ap (λ (r : Result Standing Refusal). result_unwrap_or r s) e) h)
  told-parts (part ∷ parts) done s t l h e = subst (λ (ps : List Part). ToldFor ps t) (append_assoc done (part ∷ []) parts)
      (parts-step parts done s part t l h (λ u k g f. told-parts parts (done ++ part ∷ []) u t k g f) (part_judged structures s part) refl e)

-- ---- a revision that fits

abbrev is_fit : Judgement → Bool
is_fit (Fit nexts) = true
is_fit (Refused refusal) = false

abbrev sets_in : Judgement → List DataSet
sets_in (Fit nexts) = nexts
sets_in (Refused refusal) = []

fit-sets : (r : Result Standing Refusal) (nexts : List DataSet) → judgement_of r ≡ Fit nexts → (s : Standing) × (r ≡ Ok s) × (sets_at s ≡ nexts)
fit-sets (Ok s) nexts e = (s, refl, ap sets_in e)
fit-sets (Err refusal) nexts e = let bad : false ≡ true = ap is_fit e in cc

none-of : {X : Type 0} (P : X → Type 0) (xs : List X) → Any P xs → All (λ x. ¬ (P x)) xs → ⊥
none-of P xs some none = All-contains (λ x. ¬ (P x)) xs some.1 none (some.0, some.2, some.3) some.4

as-asked : (components : List Component) (before : DataSet) (rows : List RawRow) (p : Progress) → AreTold components before rows p → IsAsAsked components rows before p.set
as-asked components before rows p h = record {
  stands = All-weaker (RowStands components p) (λ row. IsOkAnd (asked components row) (Stands p.set)) (λ row. well-weaker (StandsSoFar p) (Stands p.set) (λ ask s. s.0) (asked components row)) rows h.stands;
  named = λ key differs. elim (cases_Bool (is_listed key_cmp p.keys key)) [
    | inl yes' ↦ h.listed key yes'
    | inr no' ↦ absurd (differs (h.others key no'))
  ];
  others = λ key none. elim (cases_Bool (is_listed key_cmp p.keys key)) [
    | inl yes' ↦ absurd (none-of (Names components key) rows (h.listed key yes') none)
    | inr no' ↦ h.others key no'
  ];
}

module _ (structures : NamedStructures) (inputs : List DataSet) (revision : Revision) (nexts : List DataSet) (fits : judged structures inputs revision ≡ Fit nexts) where
  asked-told : (n : ℕ) → n < length inputs → IsAsAsked (components_of structures n) (rows_for structures n revision.parts) (input inputs n) (input nexts n)
  asked-told n l =
      let fit = fit-sets (parts_judged structures inputs revision.parts) nexts fits in
      let first = subst (AreTold (components_of structures n) (input inputs n) []) (sym (first-progress inputs n l)) (told-first (components_of structures n) (input inputs n)) in
      let told = told-parts structures inputs n revision.parts [] (before_parts inputs) fit.0 (subst (λ k. n < k) (sym (length-map inputs at_first)) l) first fit.1 in
      subst (IsAsAsked (components_of structures n) (rows_for structures n revision.parts) (input inputs n)) (progress-set fit.0 n ∙ ap (λ (xs : List DataSet). input xs n) fit.2)
      (as-asked (components_of structures n) (input inputs n) (rows_for structures n revision.parts) (progress_at fit.0 n) told)

  changed-at : (c : Option (Pair (List Value))) (x y : Option (List Value)) → LeadsAt c x y → IsSome c → y ≢ x
  changed-at None x y h some = λ same. cc
  changed-at (Some c) x y h some = λ same. h.2 (sym h.0 ∙ sym same ∙ h.1)

  share-told : (share : Share) → IsShare inputs nexts share → (key : List Value) → IsSome (get share.delta key) → Any (Names (components_of structures share.set) key) (rows_for structures share.set revision.parts)
  share-told share is key some = (asked-told share.set is.below).named key
      (changed-at (get share.delta key) (get (input inputs share.set) key) (get (input nexts share.set) key) (LeadsAt-of_Leads key_cmp-IsTotalOrder key_cmp-IsAntisymmetric share.delta (input inputs share.set) (input nexts share.set) is.leads key) some)

fit-told : (inputs : List DataSet) (shares : List Share) (judgement : Judgement) → StandsForJudgement inputs (ruling.Fit shares) judgement → (nexts : List DataSet) × (judgement ≡ Fit nexts) × AreShares inputs nexts shares
fit-told inputs shares (Fit nexts) h = (nexts, refl, h)
fit-told inputs shares (Refused refusal) h = absurd h

module _ (structures : NamedStructures) (inputs : List DataSet) (revision : Revision) (shares : List Share) (h : StandsForJudgement inputs (ruling.Fit shares) (judged structures inputs revision)) where
  fit : (nexts : List DataSet) × (judged structures inputs revision ≡ Fit nexts) × AreShares inputs nexts shares
  fit = fit-told inputs shares (judged structures inputs revision) h

  placed : fit.0 ≡ with_shares inputs shares
  placed = sym (ap (settled inputs) fit.1) ∙ told-fit structures inputs revision shares h

  pub keys-told : (n : ℕ) → n < length inputs → IsAsAsked (components_of structures n) (rows_for structures n revision.parts) (input inputs n) (input (with_shares inputs shares) n)
  keys-told n l = subst (λ (xs : List DataSet). IsAsAsked (components_of structures n) (rows_for structures n revision.parts) (input inputs n) (input xs n)) placed (asked-told structures inputs revision fit.0 fit.1 n l)

  pub sets-told : (n : ℕ) → NamedByNone structures n revision.parts → input (with_shares inputs shares) n ≡ input inputs n
  sets-told n none = subst (λ (xs : List DataSet). input xs n ≡ input inputs n) placed (ap (λ (found : Option DataSet). unwrap_or found empty) (accepted-others structures inputs revision fit.0 n fit.1 none))

  pub shares-told : All (λ share. (key : List Value) → IsSome (get share.delta key) → Any (Names (components_of structures share.set) key) (rows_for structures share.set revision.parts)) shares
  shares-told = All-weaker (IsShare inputs fit.0) (λ share. (key : List Value) → IsSome (get share.delta key) → Any (Names (components_of structures share.set) key) (rows_for structures share.set revision.parts))
      (share-told structures inputs revision fit.0 fit.1) shares fit.2.each
