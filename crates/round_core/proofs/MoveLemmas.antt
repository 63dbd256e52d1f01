-- How slots are kept as statements move on.
use Rattle.std.proofs.Common.{◌≡◌, ◌≢◌, inl, inr, ℕ, suc, ◌<◌, true, List, [], ◌∷◌, length, get_or, Option, sym, ◌∙◌, ap, refl, arith, subst, map}
use Rattle.std.specs.Arc.{arc_value}
use Rattle.std.specs.List.{All, AllZip}
use Rattle.std.specs.declared.sync.Arc.{Arc}
use Rattle.std.specs.declared.alloc.Global.{Global}
use Rattle.std.proofs.lemmas.Bool.{cases_eq}
use Rattle.point_sets.specs.DataSets.{DataSet}
use Rattle.point_sets.specs.Changes.{Changes}
use Rattle.data_set_trees.specs.declared.tree.Source.{Source}
use Rattle.data_set_trees.specs.declared.tree.Source.TheVariants.{Input, Result as ResultOf}
use Rattle.data_set_trees.specs.checked.Scripts.{Script}
use Rattle.operator_meaning.specs.Scripts.{with_at}
use Rattle.operator_meaning.proofs.ScriptLemmas.{with_at-same, with_at-other}
use Rattle.round_journal.specs.node.Node.{Node}
use Rattle.round_journal.specs.work.Settle.{Settle}
use Rattle.round_journal.specs.work.Settle.TheVariants.{Forget, Apply}
use Rattle.round_journal.specs.Journals.{Status, Waiting, Back, Spoiled, IsThere}
use Rattle.round_core.specs.declared.slot.Slot.{Slot}
use Rattle.round_core.specs.declared.slot.Stage.{Stage}
use Rattle.round_core.specs.declared.slot.Stage.TheVariants as stage
use Rattle.round_core.specs.Slots.{SameHome, settle_by}
use Rattle.round_core.specs.Kept.{Scene, IsHome, NewsKept, BackKept, StageKept, SlotKept}

abbrev pub with_status : Scene → (ℕ → Status) → Scene
with_status v f = record v { status = f }

home_moves : (c : Script) (xs : List DataSet) (i : ℕ) (old new : Slot) (settle : Settle) → SameHome old new → IsHome c xs i settle old.node → IsHome c xs i settle new.node
home_moves c xs i old new settle same h = subst (λ (node : Option Node). IsHome c xs i settle node) (sym same.node) h

back_moves : (v : Scene) (f : ℕ → Status) (j : ℕ) (old new : Slot) (z : Status) → f j ≡ v.status j → SameHome old new → BackKept v j old z → BackKept (with_status v f) j new z
back_moves v f j old new z e same k = record { place = e ∙ k.place; now = same.stamp ∙ k.now; home = home_moves v.script v.olds j old new Forget same k.home }

stage_moves : (v : Scene) (f : ℕ → Status) (j : ℕ) (old new : Slot) (st : Stage) → f j ≡ v.status j → SameHome old new → (v.status j ≡ Waiting → NewsKept v old.news.items old.sources → NewsKept (with_status v f) new.news.items new.sources) → StageKept v j old st → StageKept (with_status v f) j new st
stage_moves v f j old new stage.Waiting e same h k = record {
  place = e ∙ k.place;
  earlier = subst (λ m. m < v.round) (sym same.stamp) k.earlier;
  home = subst (λ m. IsHome v.script v.olds j (settle_by m v.published) new.node) (sym same.stamp) (home_moves v.script v.olds j old new (settle_by old.stamp v.published) same k.home);
  news = h k.place k.news;
}
stage_moves v f j old new stage.Out e same h k = (k.0, e ∙ k.1)
stage_moves v f j old new (stage.Right points pages) e same h k = (
  back_moves v f j old new Back e same k.0,
  record { has = k.1.has; state = k.1.state; points_are = k.1.points_are; pages_are = k.1.pages_are; pending = home_moves v.script v.news j old new Apply same k.1.pending },
)
stage_moves v f j old new (stage.Wrong kept told) e same h k = (back_moves v f j old new Back e same k.0, k.1, k.2)
stage_moves v f j old new stage.Spoiled e same h k = back_moves v f j old new Spoiled e same k

-- the slot of a statement that stays where it is, and may have other news
pub slot_moves : (v : Scene) (f : ℕ → Status) (j : ℕ) (old new : Slot) → f j ≡ v.status j → SameHome old new → new.stage ≡ old.stage → (v.status j ≡ Waiting → NewsKept v old.news.items old.sources → NewsKept (with_status v f) new.news.items new.sources) → SlotKept v true j old → SlotKept (with_status v f) true j new
slot_moves v f j old new e same es h k = record {
  sources = same.sources ∙ k.sources;
  place = subst (λ (st : Stage). StageKept (with_status v f) j new st) (sym es) (stage_moves v f j old new old.stage e same h k.place);
}

pub same_home : (slot : Slot) → SameHome slot slot
same_home slot = record { sources = refl; stamp = refl; node = refl }

-- what is there was there before a statement moved on, unless that came back
pub there_before : (c : Script) (ys : List DataSet) (i : ℕ) (x : Status) (f : ℕ → Status) (n : Source) → x ≢ Back → IsThere c (with_at i x f) ys n → IsThere c f ys n
there_before c ys i x f (Input n) h t = tt
there_before c ys i x f (ResultOf j) h t = elim (cases_eq i j) [
  | inl same ↦ absurd (h (sym (with_at-same i x f) ∙ ap (with_at i x f) same ∙ t.0))
  | inr apart ↦ (sym (with_at-other i x f j apart) ∙ t.0, t.1)
]

pub news_before : (v : Scene) (i : ℕ) (x : Status) (news : List (Arc Changes Global)) (sources : List Source) → x ≢ Back → NewsKept v news sources → NewsKept (with_status v (with_at i x v.status)) news sources
news_before v i x news sources h k = record {
  many = k.many;
  each = λ m d e l t. k.each m d e l (there_before v.script v.news i x v.status (get_or sources m e) h t);
}

-- the news of what is all there
zip_of : {B : Type 0} (R : Changes → B → Type 0) (ds : List (Arc Changes Global)) (ys : List B) → length ds ≡ length ys → ((k : ℕ) (d : Arc Changes Global) (e : B) → k < length ys → R (arc_value (get_or ds k d)) (get_or ys k e)) → AllZip R (map arc_value ds) ys
zip_of R [] [] l h = tt
zip_of R [] (y ∷ ys) l h = absurd (omega (arith, l))
zip_of R (d ∷ ds) [] l h = absurd (omega (arith, l))
zip_of R (d ∷ ds) (y ∷ ys) l h = (h 0 d y (omega arith), zip_of R ds ys (omega (arith, l)) (λ k d' e m. h (suc k) d' e (omega (arith, m))))

pub news_lead : (v : Scene) (news : List (Arc Changes Global)) (sources : List Source) → NewsKept v news sources → All (IsThere v.script v.status v.news) sources → Rattle.round_journal.specs.Nodes.AllLead v.script (map arc_value news) sources v.olds v.news
news_lead v news sources k there = zip_of _ news sources k.many (λ m d e l. k.each m d e l (there m e l))
