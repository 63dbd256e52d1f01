use Rattle.std.proofs.Common.{◌≡◌, ◌≢◌, ◌++◌, ◌∙◌, ℕ, zero, suc, codes, refl, sym, append-nil}
use Rattle.std.specs.Prelude.{decimal}
use Rattle.outside.proofs.Writes.{extends_then}
use Rattle.release_text.specs.Releases.{script_said}
use Rattle.release_text.proofs.release.write_script.Goals as goal

said_of_a_later : (n : ℕ) → n ≢ 0 → script_said n ≡ codes " script " ++ decimal n
unfolding script_said
said_of_a_later zero some = absurd (some refl)
said_of_a_later (suc n) some = refl

pub returns-then-script-eq0 : goal.returns-then-script-eq0
unfolding script_said
returns-then-script-eq0 g c = λ start before wrote. rw (c.if-script-eq0.true, append-nil before) wrote

pub returns : goal.returns
returns g c = rw (said_of_a_later c.args.script c.if-script-eq0.false, ← (c.as_bytes.ensures.value ∙ c.format.ensures.text)) (extends_then _ _ c.put-written.ensures c.put.ensures)
