-- The releases that are kept.
use Rattle.std.proofs.Common.{◌≡◌, inl, inr, ℕ, ◌+◌, ◌-◌, ◌<◌, ◌≤◌, List, [], ◌∷◌, ◌++◌, length, get_or, drop, Some, sym, ◌∙◌, ap, refl, arith, subst, length-append}
use Rattle.std.specs.List.{slice_get}
use Rattle.std.proofs.lemmas.Bool.{cases_lt}
use Rattle.std.proofs.lemmas.List.{length-drop, get_or-drop, get_or_push, get_or_append_left}
use Rattle.std.proofs.lemmas.Option.{slice_get-get_or}
use Rattle.release_text.specs.declared.release.Release.{Release}
use Rattle.round_journal.specs.declared.entry.What.{What}
use Rattle.round_journal.specs.declared.entry.What.TheVariants.{Published}
use Rattle.round_journal.specs.Journals.{State, Named, after_what, number}
use Rattle.round_journal.specs.Counts.{PrefixesInOrder}
use Rattle.round_journal.specs.Releases.{IsReleaseOf, IsRelease, IsReleaseAt, released, oldest_kept}
use Rattle.round_journal.proofs.ReleaseLemmas.{IsReleaseOf-stays}
use Rattle.round_core.specs.declared.limits.TheConstants.{EARLIER_LIMIT}
use Rattle.round_core.specs.Kept.{EarlierKept}

release_moves : (s : State) (m n : ℕ) (x y : Named) (r q : Release) → n ≡ m → y ≡ x → q ≡ r → IsReleaseOf s m x r → IsReleaseOf s n y q
release_moves s m n x y r q en ey eq h = record {
  number_is = ap (λ (z : Release). z.number) eq ∙ h.number_is ∙ sym en;
  prefix_is = ap (λ (z : Release). z.prefix) eq ∙ h.prefix_is ∙ ap (λ (z : Named). z.prefix) (sym ey);
  script_is = ap (λ (z : Release). z.script) eq ∙ h.script_is ∙ ap (λ (z : Named). z.script.number) (sym ey);
  pages_are = subst (λ (z : Named). q.pages ≡ Rattle.round_journal.specs.Releases.pages_on z.script.script (Rattle.round_journal.specs.Journals.inputs z.prefix s)) (sym ey) (ap (λ (z : Release). z.pages) eq ∙ h.pages_are);
}

-- ---- one release more

-- how many are given up for the next one
abbrev pub too_many : List Release → ℕ
too_many xs = length xs + 1 - EARLIER_LIMIT

pub earlier_published : (s : State) (n to : ℕ) (xs ys : List Release) (old : Release) → PrefixesInOrder s → EarlierKept s xs → IsRelease s old → ys ≡ drop (too_many xs) xs ++ old ∷ [] → EarlierKept (after_what s n (Published to)) ys
earlier_published s n to xs ys old p k r e =
    let w : What = Published to in
    let t : State = after_what s n w in
    let lim : EARLIER_LIMIT ≡ 63 = refl in
    let some = k.many in
    let gone = too_many xs in
    let front = drop gone xs in
    let front_long : length front ≡ length xs - gone = length-drop gone xs in
    let long : length ys ≡ length front + 1 = ap length e ∙ length-append front (old ∷ []) in
    let next : number t ≡ number s + 1 = length-append s.earlier (s.latest ∷ []) in record {
      many = omega (arith, lim, some, front_long, long, next);
      each = λ i d x l. elim (cases_lt i (length front)) [
        | inl before ↦
            let m = number s - length xs + (gone + i) in
            let place : number t - length ys + i ≡ m = omega (arith, lim, some, front_long, long, next, before) in
            let few : m < length s.earlier = omega (arith, lim, some, front_long, before) in
            release_moves t m (number t - length ys + i) (get_or s.earlier m x) (get_or t.earlier (number t - length ys + i) x) (get_or xs (gone + i) d) (get_or ys i d) place
            (ap (λ q. get_or t.earlier q x) place ∙ get_or_append_left s.earlier (s.latest ∷ []) x m few)
            (ap (λ (zs : List Release). get_or zs i d) e ∙ get_or_append_left front (old ∷ []) d i before ∙ get_or-drop gone xs i d)
            (IsReleaseOf-stays s n m w (get_or s.earlier m x) (get_or xs (gone + i) d) (p.earlier_below m x few) (k.each (gone + i) d x (omega (arith, lim, some, front_long, before))))
        | inr last ↦
            let here : length front ≡ i = omega (arith, last, l, long) in
            let place : number t - length ys + i ≡ number s = omega (arith, lim, some, front_long, long, next, here) in
            release_moves t (number s) (number t - length ys + i) s.latest (get_or t.earlier (number t - length ys + i) x) old (get_or ys i d) place
            (ap (λ q. get_or t.earlier q x) place ∙ get_or_push s.earlier s.latest x (number s) refl)
            (ap (λ (zs : List Release). get_or zs i d) e ∙ get_or_push front old d i here)
            (IsReleaseOf-stays s n (number s) w s.latest old (omega (arith, p.latest_below, p.to_below)) r)
      ];
    }

-- ---- a release that is asked for

pub at_latest : (s : State) (m : ℕ) (r : Release) → IsRelease s r → r.number ≡ m → IsReleaseAt s m r
at_latest s m r h e =
    let n : number s ≡ m = sym h.number_is ∙ e in
    let l : number s < length (released s) = let q = length-append s.earlier (s.latest ∷ []) in omega (arith, q) in
    record {
      named = s.latest;
      is_named = ap (slice_get (released s)) (sym n) ∙ slice_get-get_or (released s) (number s) s.latest l ∙ ap Some (get_or_push s.earlier s.latest s.latest (number s) refl);
      is_release = release_moves s (number s) m s.latest s.latest r r (sym n) refl refl h;
    }

pub at_earlier : (s : State) (xs : List Release) (m i : ℕ) (r : Release) → EarlierKept s xs → i < length xs → m ≡ number s - length xs + i → r ≡ get_or xs i r → IsReleaseAt s m r
at_earlier s xs m i r k l e er =
    let lim : EARLIER_LIMIT ≡ 63 = refl in
    let some = k.many in
    let few : m < length s.earlier = omega (arith, lim, some, l, e) in
    let below : m < length (released s) = let q = length-append s.earlier (s.latest ∷ []) in omega (arith, q, few) in
    let named = get_or s.earlier m s.latest in
    record {
      named = named;
      is_named = slice_get-get_or (released s) m s.latest below ∙ ap Some (get_or_append_left s.earlier (s.latest ∷ []) s.latest m few);
      is_release = release_moves s (number s - length xs + i) m (get_or s.earlier (number s - length xs + i) s.latest) named (get_or xs i r) r e (ap (λ q. get_or s.earlier q s.latest) e) er (k.each i r s.latest l);
    }

-- the number of the oldest that is kept
pub oldest_is : (s : State) (xs : List Release) → EarlierKept s xs → number s - length xs ≡ oldest_kept s
oldest_is s xs k = let lim : EARLIER_LIMIT ≡ 63 = refl in let some = k.many in omega (arith, lim, some)

pub earlier_few : (s : State) (xs : List Release) → EarlierKept s xs → length xs ≤ number s
earlier_few s xs k = let lim : EARLIER_LIMIT ≡ 63 = refl in let some = k.many in omega (arith, lim, some)

pub earlier_limit : (s : State) (xs : List Release) → EarlierKept s xs → length xs ≤ EARLIER_LIMIT
earlier_limit s xs k = let lim : EARLIER_LIMIT ≡ 63 = refl in let some = k.many in omega (arith, lim, some)
