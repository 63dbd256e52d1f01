-- What the join makes of the points before and after.
use Rattle.std.proofs.Common.{◌≡◌, List, Option, OnOk, length, map, ap, subst, sym, ◌∙◌}
use Rattle.std.specs.Prelude.{flat_map}
use Rattle.std.specs.declared.alloc.Global.{Global}
use Rattle.std.specs.declared.sync.Arc.{Arc}
use Rattle.std.proofs.lemmas.List.{length-map}
use Rattle.vtl_values.specs.declared.value.Value.{Value}
use Rattle.data_model.specs.Drafts.{note_value}
use Rattle.point_sets.specs.Changes.{values_eq, values_of}
use Rattle.point_sets.specs.declared.point.Point.{Point}
use Rattle.held_index.specs.Drafts.{SetDraft}
use Rattle.operator_meaning.specs.joins.Joins.{joined_point}
use Rattle.cross_joins.specs.Rows.{RowValues, rows_in, shared_row}
use Rattle.cross_joins.proofs.notes.note_combination.Goals as goal

-- as many points as rows
many-points : (points : List (Option (Arc Point Global))) (rows : List RowValues) (f : RowValues → Option (List Value)) → map values_of points ≡ map f rows → length points ≡ length rows
many-points points rows f are = sym (length-map points values_of) ∙ ap length are ∙ length-map rows f

pub joined-requires : goal.joined-requires
joined-requires c =
    ap length c.deref.ensures.value ∙ many-points c.in_ok-points.points.before.items (rows_in c.args.combination.now) (λ r. r.before) c.in_ok-points.ensures.before
    ∙ length-map c.args.combination.now shared_row ∙ c.requires

pub joined-requires-2 : goal.joined-requires-2
joined-requires-2 c =
    ap length c.deref-2.ensures.value ∙ many-points c.in_ok-points.points.after.items (rows_in c.args.combination.now) (λ r. r.after) c.in_ok-points.ensures.after
    ∙ length-map c.args.combination.now shared_row ∙ c.requires

pub returns : goal.returns
returns c =
    let j = c.args.plan.now in
    let rows : List RowValues = rows_in c.args.combination.now in
    let at : c.in_ok-key.key ≡ flat_map (λ (r : RowValues). r.key) rows = c.in_ok-key.ensures ∙ c.in_ok-points.ensures.key in
    let old : values_of c.in_ok-old.old ≡ joined_point j (map (λ (r : RowValues). r.before) rows) =
    c.in_ok-old.ensures.value ∙ ap (joined_point j) (ap (λ (ps : List (Option (Arc Point Global))). map values_of ps) c.deref.ensures.value ∙ c.in_ok-points.ensures.before) in
    let new : values_of c.in_ok-new.new ≡ joined_point j (map (λ (r : RowValues). r.after) rows) =
    c.in_ok-new.ensures.value ∙ ap (joined_point j) (ap (λ (ps : List (Option (Arc Point Global))). map values_of ps) c.deref-2.ensures.value ∙ c.in_ok-points.ensures.after) in
    subst (λ (n : SetDraft). OnOk c.note.result (c.note.new.self ≡ n)) (λ i. note_value values_eq (at i) (old i) (new i) c.args.draft.now) c.note.ensures.ok
