use Rattle.std.proofs.Common.{ℕ, ◌-◌, List, [], ap, ◌∙◌}
use Rattle.written_sizes.specs.declared.form.Form.{Form}
use Rattle.written_sizes.specs.declared.form.Tables.{Tables}
use Rattle.written_sizes.specs.declared.form.Share.TheVariants as share
use Rattle.written_sizes.specs.declared.measure.Measure.TheVariants as measure
use Rattle.written_sizes.specs.Arithmetic.{limited}
use Rattle.written_sizes.specs.Weights.{weight}
use Rattle.written_sizes.proofs.SeenLemmas.{levels_told}
use Rattle.written_sizes.proofs.outermost.levels_of.Goals as goal

pub returns : goal.returns
returns c =
    let os = c.args.operators.now in
    let o = c.args.outline.now in
    c.saturating_sub.ensures
    ∙ ap (λ (n : ℕ). n - 1) (c.weight.ensures ∙ ap (λ (fs : List Form). weight (limited measure.Levels) measure.Levels os fs [] share.Own o) (c.as_slice-forms.ensures ∙ ap (λ (t : Tables). t.levels) c.requires))
    ∙ levels_told os o
