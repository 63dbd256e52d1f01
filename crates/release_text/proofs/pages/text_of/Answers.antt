use Rattle.std.proofs.Common.{◌≡◌, ◌++◌, ◌∷◌, [], ◌∙◌, ℕ, List, ap, ap₂, codes, encode_utf8_all, subst, IfOk}
use Rattle.release_text.specs.Releases.{page_text, page_of}
use Rattle.release_text.specs.Tables.{table}
use Rattle.release_text.proofs.pages.text_of.Goals as goal

pub returns : goal.returns
unfolding page_text
returns c =
    let name : List ℕ = encode_utf8_all c.args.name.now in
    let rows : List ℕ = table c.args.structure.now c.args.set.now in
    let named : c.extend_from_slice.new.self.items ≡ codes "[" ++ name =
    c.in_ok-extend_from_slice.ensures.items ∙ ap₂ (λ (x y : List ℕ). x ++ y) (c.in_ok-push.ensures.items ∙ ap (λ (x : List ℕ). x ++ 91 ∷ []) c.new-text.ensures.items) (c.as_bytes.ensures.value ∙ c.as_str.ensures.bytes) in
    let line : c.extend_from_slice-2.new.self.items ≡ (codes "[" ++ name) ++ codes "]\n" = c.in_ok-extend_from_slice-2.ensures.items ∙ ap (λ (x : List ℕ). x ++ codes "]\n") named in
    let whole : c.extend_from_slice-2.new.self.items ++ rows ≡ page_text (page_of c.args.name.now c.args.structure.now c.args.set.now) =
    ap (λ (x : List ℕ). x ++ rows) line in
    subst (λ t. IfOk c.with_table.result (λ text. text.items ≡ t)) whole c.with_table.ensures
