use Rattle.std.proofs.Common.{◌≡◌, ◌∙◌}
use Rattle.std.specs.Prelude.{decimal}
use Rattle.outside.proofs.Writes.{extends_then}
use Rattle.release_text.specs.Releases.{release_line}
use Rattle.release_text.proofs.release.write_line.Goals as goal

pub returns : goal.returns
unfolding release_line
returns g c =
    let number : c.as_bytes.result.now ≡ decimal c.args.number = c.as_bytes.ensures.value ∙ c.format.ensures.text in
    let prefix : c.as_bytes-2.result.now ≡ decimal c.args.prefix = c.as_bytes-2.ensures.value ∙ c.format-2.ensures.text in
    let numbers = extends_then _ _ (extends_then _ _ (extends_then _ _ c.put-written.ensures c.put-written-2.ensures) c.put-written-3.ensures) c.put-written-4.ensures in
    let run = extends_then _ _ (extends_then _ _ numbers c.write_script-written.ensures) c.put.ensures in
    rw (number, prefix) at run
