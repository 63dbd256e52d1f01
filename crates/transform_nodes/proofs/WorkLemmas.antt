-- One operator's work.
use Rattle.std.proofs.Common.{◌≡◌, ℕ, zero, suc, ◌+◌, ◌<◌, ◌≤◌, List, [], ◌∷◌, ◌++◌, map, take, get_or, length, Err, refl, sym, ◌∙◌, ap, subst, arith}
use Rattle.std.specs.List.{All, AllZip}
use Rattle.std.specs.Arc.{arc_value}
use Rattle.std.specs.FinMap.{len, empty, len-empty}
use Rattle.std.proofs.lemmas.List.{get_or-map, length-map}
use Rattle.std.specs.declared.alloc.Global.{Global}
use Rattle.std.specs.declared.sync.Arc.{Arc}
use Rattle.std.specs.Option.{IfSome}
use Rattle.vtl_values.specs.declared.structure.Component.{Component}
use Rattle.vtl_values.specs.declared.place.Place.{Place}
use Rattle.vtl_values.specs.declared.value.Value.{Value}
use Rattle.vtl_values.specs.Order.{key_cmp}
use Rattle.vtl_values.proofs.Values.{key_cmp-IsTotalOrder, key_cmp-IsAntisymmetric}
use Rattle.data_model.specs.Answers.{IsRight}
use Rattle.data_model.specs.Deltas.{BeginsAt, Leads, apply, count_after}
use Rattle.data_model.specs.Outcomes.{Made, Range, TooMany}
use Rattle.data_model.specs.declared.TheConstants.{POINT_LIMIT}
use Rattle.data_model.proofs.DeltaLemmas.{len-apply-count}
use Rattle.point_sets.specs.DataSets.{DataSet}
use Rattle.point_sets.specs.Changes.{Changes}
use Rattle.point_sets.specs.declared.delta.Delta.{Delta}
use Rattle.operator_meaning.specs.Operators.{meaning_of, AreOperands}
use Rattle.operator_meaning.specs.Results.{RangeAt, ManyAt, placed}
use Rattle.operator_meaning.proofs.FitLemmas.{meaning_of-fits}
use Rattle.held_index.specs.Holdings.{Holding, holding_of, operand}
use Rattle.held_index.specs.Rules.{SetOutcome, answer_of, after_news, AreAsked}
use Rattle.held_index.specs.declared.stop.Stop.{Stop}
use Rattle.held_index.specs.declared.stop.Stop.TheVariants.{Range as StopRange, TooMany as StopTooMany, Memory as StopMemory}
use Rattle.held_index.specs.declared.want.Want.{Want}
use Rattle.transform_nodes.specs.Halts.{halted, wrong_in}
use Rattle.operator_rules.specs.Rules.{wanted_of}
use Rattle.transform_nodes.specs.Runs.{news_of, AllLeads, planned, IsPlannable, CanPlan, IsWork, IsWorked}
use Rattle.transform_nodes.specs.declared.operate.Worked.{Worked}
use Rattle.data_set_trees.specs.checked.Operators.{Operator}
use Rattle.operator_rules.proofs.WantLemmas.{wanted_below}

-- what is held of data sets is what is wanted of them
pub wants-held : (zs : List DataSet) (ws : List Want) → map (λ h. h.want) (map (holding_of zs) ws) ≡ ws
wants-held zs [] = refl
wants-held zs (w ∷ ws) = ap (λ (vs : List Want). w ∷ vs) (wants-held zs ws)

-- ---- patches

pub planned_more : (ws : List Want) (hs : List Holding) (ds : List Changes) (i : ℕ) (w : Want) (h : Holding) → length hs ≡ length ws → i < length ws → take (i + 1) (planned ws hs ds) ≡ take i (planned ws hs ds) ++ record (get_or hs i h) { content = apply (news_of (get_or ws i w).operand ds) (get_or hs i h).content } ∷ []
planned_more [] hs ds i w h e l = absurd (omega arith)
planned_more (v ∷ ws) [] ds i w h e l = absurd (omega arith)
planned_more (v ∷ ws) (k ∷ hs) ds zero w h e l = refl
planned_more (v ∷ ws) (k ∷ hs) ds (suc i) w h e l = let s : suc i + 1 ≡ suc (i + 1) = omega arith in rw s (ap (λ (t : List Holding). record k { content = apply (news_of v.operand ds) k.content } ∷ t) (planned_more ws hs ds i w h (omega arith) (omega arith)))

pub length-planned : (ws : List Want) (hs : List Holding) (ds : List Changes) → length hs ≡ length ws → length (planned ws hs ds) ≡ length ws
length-planned [] hs ds e = refl
length-planned (w ∷ ws) [] ds e = absurd (omega arith)
length-planned (w ∷ ws) (h ∷ hs) ds e = ap suc (length-planned ws hs ds (omega arith))

pub leads_at : (n : ℕ) (ds : List Changes) (zs ys : List DataSet) → AllLeads ds zs ys → n < length ds → Leads (news_of n ds) (operand n zs) (operand n ys)
leads_at n [] zs ys h l = absurd (omega arith)
leads_at n (d ∷ ds) [] ys h l = absurd h
leads_at n (d ∷ ds) (z ∷ zs) [] h l = absurd h
leads_at zero (d ∷ ds) (z ∷ zs) (y ∷ ys) h l = h.0
leads_at (suc n) (d ∷ ds) (z ∷ zs) (y ∷ ys) h l = leads_at n ds zs ys h.1 (omega arith)

few_at : (n : ℕ) (ts : List (List Component)) (ys : List DataSet) → AreOperands ts ys → len (operand n ys) ≤ POINT_LIMIT
few_at n [] [] h = let none = len-empty key_cmp (List Value) in omega (arith, none)
few_at n [] (y ∷ ys) h = absurd h
few_at n (t ∷ ts) [] h = absurd h
few_at zero (t ∷ ts) (y ∷ ys) h = h.0.few
few_at (suc n) (t ∷ ts) (y ∷ ys) h = few_at n ts ys h.1

-- what is planned is what is wanted of the operands after the news
planned_are : (ws : List Want) (ds : List Changes) (zs ys : List DataSet) → AllLeads ds zs ys → All (λ w. w.operand < length ds) ws → map (holding_of ys) ws ≡ planned ws (map (holding_of zs) ws) ds
planned_are [] ds zs ys h a = refl
planned_are (w ∷ ws) ds zs ys h a =
    let l = leads_at w.operand ds zs ys h (a 0 w (omega arith)) in
    let x = l.ends in
    let r = planned_are ws ds zs ys h (λ k d e. a (suc k) d (omega arith)) in
    (λ i. record { want = w; content = sym x i } ∷ r i)

pub news_at : (news : List (Arc Delta Global)) (n : ℕ) (d : Arc Delta Global) → n < length news → arc_value (get_or news n d) ≡ news_of n (map arc_value news)
news_at news n d h = sym (get_or-map arc_value news n d empty h)

-- the i-th want, what is held for it, and the news of the operand that it names
module _ (wants : List Want) (held : List Holding) (news : List (Arc Delta Global)) (i : ℕ) (w : Want) (h : Holding) (a : Arc Delta Global) (d : Changes) (within : i < length wants) (is_w : w ≡ get_or wants i w) (is_h : h ≡ get_or held i h) (is_a : a ≡ get_or news w.operand a) (is_d : d ≡ arc_value a) (below : All (λ v. v.operand < length news) wants) where
  news_there : news_of (get_or wants i w).operand (map arc_value news) ≡ d
  news_there =
      let b : w.operand < length news = subst (λ (v : Want). v.operand < length news) (sym is_w) (below i w within) in
      ap (λ (v : Want). news_of v.operand (map arc_value news)) (sym is_w) ∙ sym (is_d ∙ ap arc_value is_a ∙ news_at news w.operand a b)

  pub plannable_at : CanPlan wants held (map arc_value news) → IsPlannable d h.content
  plannable_at can = subst (λ (t : Changes). IsPlannable t h.content) news_there (subst (λ (x : Holding). IsPlannable (news_of (get_or wants i w).operand (map arc_value news)) x.content) (sym is_h) (can i w h within))

  pub planned_at : record h { content = apply d h.content } ≡ record (get_or held i h) { content = apply (news_of (get_or wants i w).operand (map arc_value news)) (get_or held i h).content }
  planned_at = ap (λ (t : Changes). record h { content = apply t h.content }) (sym news_there) ∙ ap (λ (x : Holding). record x { content = apply (news_of (get_or wants i w).operand (map arc_value news)) x.content }) is_h

-- ---- what a rule is asked, and what it answers

leads-begin : (ds : List Changes) (zs ys : List DataSet) → AllLeads ds zs ys → AllZip BeginsAt ds zs
leads-begin [] [] [] h = tt
leads-begin [] [] (y ∷ ys) h = absurd h
leads-begin [] (z ∷ zs) ys h = absurd h
leads-begin (d ∷ ds) [] ys h = absurd h
leads-begin (d ∷ ds) (z ∷ zs) [] h = absurd h
leads-begin (d ∷ ds) (z ∷ zs) (y ∷ ys) h = (h.0.begins, leads-begin ds zs ys h.1)

pub leads-after : (ds : List Changes) (zs ys : List DataSet) → AllLeads ds zs ys → after_news ds zs ≡ ys
leads-after [] [] [] h = refl
leads-after [] [] (y ∷ ys) h = absurd h
leads-after [] (z ∷ zs) ys h = absurd h
leads-after (d ∷ ds) [] ys h = absurd h
leads-after (d ∷ ds) (z ∷ zs) [] h = absurd h
leads-after (d ∷ ds) (z ∷ zs) (y ∷ ys) h = let a = h.0.ends in let b = leads-after ds zs ys h.1 in (λ i. a i ∷ b i)

pub record IsMade (o : SetOutcome) (x : DataSet) (d : Changes) : Type 0 where
  pub new : DataSet
  pub gives : o ≡ Made new
  pub leads : Leads d x new

made_answer : (o : SetOutcome) (x : DataSet) (d : Changes) → IsRight o x (Made d) → IsMade o x d
made_answer (Made y) x d h = record { new = y; gives = refl; leads = h }
made_answer (Range k) x d h = absurd h
made_answer TooMany x d h = absurd h

range_answer : (o : SetOutcome) (x : DataSet) (k : List Value) → IsRight o x (Range k) → o ≡ Range k
range_answer (Made y) x k h = absurd h
range_answer (Range j) x k h = ap Range (sym h)
range_answer TooMany x k h = absurd h

many_answer : (o : SetOutcome) (x : DataSet) → IsRight o x TooMany → o ≡ TooMany
many_answer (Made y) x h = absurd h
many_answer (Range j) x h = absurd h
many_answer TooMany x h = refl

module _ (rule : Operator) (held : List Holding) (news : List Changes) (before : ℕ) (zs ys : List DataSet) (work : IsWork rule held news before zs ys) where
  pub asked : AreAsked (AreOperands rule.operands) (meaning_of rule) (wanted_of rule) held news before zs work.holds.made
  asked = record {
    admitted = work.old_fit;
    admitted_after = subst (λ (xs : List DataSet). AreOperands rule.operands xs) (sym (leads-after news zs ys work.leads)) work.new_fit;
    begins = leads-begin news zs ys work.leads;
    held_is = work.holds.sets;
    result_is = work.holds.gives;
    count = work.holds.count;
  }

  pub can_plan : length news ≡ length rule.operands → CanPlan (wanted_of rule) held news
  can_plan long k w h l =
      let n : ℕ = (get_or (wanted_of rule) k w).operand in
      let below : n < length news = let b = wanted_below rule work.typed k w l in omega (arith, b, long) in
      let content : operand n zs ≡ (get_or held k h).content = ap (λ (x : Holding). x.content) (sym (get_or-map (holding_of zs) (wanted_of rule) k w h l) ∙ ap (λ (hs : List Holding). get_or hs k h) work.holds.sets) in
      let leads = leads_at n news zs ys work.leads below in
      subst (λ (x : DataSet). IsPlannable (news_of n news) x) content (record { begins = leads.begins; few = let few = few_at n rule.operands ys work.new_fit in let ends = ap len leads.ends in omega (arith, few, ends) })

  -- where the rule answers a delta, the work is right
  pub work_right : (w : Worked) (d : Changes) → length news ≡ length rule.operands → IsRight (meaning_of rule (after_news news zs)) work.holds.made (Made d)
      → arc_value w.delta ≡ d → w.patches.items ≡ planned (wanted_of rule) held news → w.points ≡ count_after before d → IsWorked rule held ys work.holds.made w
  work_right w d long right delta patches points =
      let m = made_answer (meaning_of rule ys) work.holds.made d (subst (λ (xs : List DataSet). IsRight (meaning_of rule xs) work.holds.made (Made d)) (leads-after news zs ys work.leads) right) in
      let leads = m.leads in
      let count : len m.new ≡ w.points = ap len (sym leads.ends) ∙ len-apply-count key_cmp-IsTotalOrder key_cmp-IsAntisymmetric d work.holds.made before leads.begins work.holds.count ∙ sym points in
      let fit = meaning_of-fits rule ys m.new work.typed work.new_fit m.gives in
      let few = fit.few in
      let wants : List Want = wanted_of rule in
      let below = wanted_below rule work.typed in
      let sets : map (holding_of ys) wants ≡ w.patches.items =
      planned_are wants news zs ys work.leads (λ k e l. let b = below k e l in omega (arith, b, long))
      ∙ ap (λ (hs : List Holding). planned wants hs news) work.holds.sets
      ∙ sym patches in
      let same = length-map wants (holding_of zs) in
      let many = ap length work.holds.sets in
      record {
        new = m.new;
        gives = m.gives;
        leads = subst (λ (t : Changes). Leads t work.holds.made m.new) (sym delta) leads;
        holds = record { sets = sets; made = m.new; gives = m.gives; count = count };
        long = ap length patches ∙ length-planned wants held news (sym many ∙ same) ∙ sym same ∙ many;
        few = omega (arith, few, count);
      }

  pub work_range : (place : Place) (k : List Value) (n : ℕ) → IsRight (meaning_of rule (after_news news zs)) work.holds.made (Range k) → placed place n (meaning_of rule ys) ≡ Err (RangeAt place k)
  work_range place k n right = ap (placed place n) (range_answer (meaning_of rule ys) work.holds.made k (subst (λ (xs : List DataSet). IsRight (meaning_of rule xs) work.holds.made (Range k)) (leads-after news zs ys work.leads) right))

  pub work_many : (place : Place) (n : ℕ) → IsRight (meaning_of rule (after_news news zs)) work.holds.made TooMany → placed place n (meaning_of rule ys) ≡ Err (ManyAt place)
  work_many place n right = ap (placed place n) (many_answer (meaning_of rule ys) work.holds.made (subst (λ (xs : List DataSet). IsRight (meaning_of rule xs) work.holds.made TooMany) (leads-after news zs ys work.leads) right))

  -- where it stops, the fault is that of its operator
  pub work_stop : (place : Place) (stop : Stop) → IfSome (answer_of (Err stop)) (IsRight (meaning_of rule (after_news news zs)) work.holds.made) → IfSome (wrong_in (halted place stop)) (λ w. (n : ℕ) → placed place n (meaning_of rule ys) ≡ Err w)
  work_stop place (StopRange key) right = λ n. work_range place (arc_value key) n right
  work_stop place StopTooMany right = λ n. work_many place n right
  work_stop place StopMemory right = tt
