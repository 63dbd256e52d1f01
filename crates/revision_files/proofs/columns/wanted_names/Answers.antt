use Rattle.std.proofs.Common.{◌≡◌, [], ◌∷◌, List, ℕ, sym, ap, ◌∙◌}
use Rattle.std.proofs.lemmas.Str.{chars-IsAscii}
use Rattle.indexmap.specs.IndexSet.{insert_key}
use Rattle.vtl_values.specs.Texts.{same_text}
use Rattle.revision_files.specs.Columns.{ACTION, is_among}
use Rattle.revision_files.specs.Texts.{wanted_of}
use Rattle.revision_files.proofs.Actions.{ascii_action}
use Rattle.revision_files.proofs.Headers.{wanted_of-more}
use Rattle.revision_files.proofs.Names.{wanted-more}
use Rattle.revision_files.proofs.columns.wanted_names.Goals as goal
use Rattle.std.proofs.Common.{take}

pub loop-component-init : goal.loop-component-init
loop-component-init c =
    let keys : c.insert_full.new.self.keys ≡ ACTION ∷ [] =
    c.in_ok-insert_full.ensures.keys
    ∙ (ap (λ before. insert_key same_text before c.in_ok-from_str.field-0) c.new-names.ensures.empty ∙ ap (λ name. name ∷ []) (c.in_ok-from_str.ensures ∙ chars-IsAscii ACTION ascii_action)) in
    λ name. ap (λ names. is_among names name) keys

pub loop-component-preserved : goal.loop-component-preserved
loop-component-preserved c =
    let before = wanted_of (take c.loop-component.component-index c.args.components.now) in
    let keys : c.insert_full-in-loop-component.new.self.keys ≡ insert_key same_text c.loop-component.names.keys c.component-item.result.name =
    c.in_ok-insert_full-2.ensures.keys ∙ ap (insert_key same_text c.loop-component.names.keys) c.in_ok-copy.ensures in
    λ name.
    ap (λ names. is_among names name) keys
    ∙ (wanted-more c.loop-component.names.keys before c.component-item.result.name c.loop-component.invariant name
    ∙ ap (λ names. is_among names name) (sym (wanted_of-more c.args.components.now c.loop-component.component-index c.component-item.result c.loop-component-test.true c.component-item.is)))
