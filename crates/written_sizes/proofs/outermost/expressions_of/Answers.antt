use Rattle.std.proofs.Common.{List, [], ap, ◌∙◌}
use Rattle.written_sizes.specs.declared.form.Form.{Form}
use Rattle.written_sizes.specs.declared.form.Tables.{Tables}
use Rattle.written_sizes.specs.declared.form.Share.TheVariants as share
use Rattle.written_sizes.specs.declared.measure.Measure.TheVariants as measure
use Rattle.written_sizes.specs.Arithmetic.{limited}
use Rattle.written_sizes.specs.Weights.{weight}
use Rattle.written_sizes.proofs.SeenLemmas.{expressions_told}
use Rattle.written_sizes.proofs.outermost.expressions_of.Goals as goal

pub returns : goal.returns
returns c =
    let os = c.args.operators.now in
    let o = c.args.outline.now in
    c.weight.ensures
    ∙ ap (λ (fs : List Form). weight (limited measure.Expressions) measure.Expressions os fs [] share.Own o) (c.as_slice-forms.ensures ∙ ap (λ (t : Tables). t.expressions) c.requires)
    ∙ expressions_told os o
