use Rattle.std.proofs.Common.{◌≡◌, None, Bool, true, false, ap, sym, subst, ◌∙◌, refl, true≢false, if◌then◌else◌, List, ℕ}
use Rattle.std.proofs.lemmas.Str.{IsUtf8-from_is_utf8, is_utf8-from_IsUtf8}
use Rattle.std.specs.Str.{IsUtf8, is_utf8}
use Rattle.serde_json.specs.Read.{read}
use Rattle.structure_files.specs.declared.stop.Fault.TheVariants.{NotJson}
use Rattle.structure_files.specs.declared.stop.Path.TheVariants.{Whole}
use Rattle.structure_files.specs.Json.{json_of}
use Rattle.structure_files.specs.Refusals.{Refuses, or_refused}
use Rattle.structure_files.proofs.json.parsed.Goals as goal

not_json_by : (b : Bool) (bytes : List ℕ) → is_utf8 bytes ≡ b → (IsUtf8 bytes → read bytes ≡ None) → (if b then read bytes else None) ≡ None
not_json_by true bytes is none = none (IsUtf8-from_is_utf8 bytes is)
not_json_by false bytes is none = refl

not_json : (bytes : List ℕ) → (IsUtf8 bytes → read bytes ≡ None) → json_of bytes ≡ None
not_json bytes none = not_json_by (is_utf8 bytes) bytes refl none

pub returns-in-Ok-clause-ok : goal.returns-in-Ok-clause-ok
returns-in-Ok-clause-ok c = ap (λ b. if b then read c.args.bytes.now else None) (is_utf8-from_IsUtf8 c.args.bytes.now c.in-Ok.ensures.ok.0) ∙ c.in-Ok.ensures.ok.1

pub returns-in-Err-2-clause-err : goal.returns-in-Err-2-clause-err
returns-in-Err-2-clause-err c =
    subst (Refuses (or_refused (json_of c.args.bytes.now) NotJson Whole)) (sym c.at.ensures)
    (ap (λ o. or_refused o NotJson Whole) (not_json c.args.bytes.now (c.in-Err.ensures.err (λ memory. true≢false (sym (c.is_memory.ensures.1 memory) ∙ c.if-is_memory.false)))))
