use Rattle.std.proofs.Common.{◌≡◌, ap, ◌∙◌}
use Rattle.std.specs.Prelude.{is_some}
use Rattle.std.specs.List.{list_all}
use Rattle.data_set_trees.specs.declared.clauses.frame.Frame.{Frame}
use Rattle.data_set_trees.specs.clauses.Clauses.{bare_number_of}
use Rattle.data_set_trees.specs.aggregates.Aggregates as meant
use Rattle.aggregate_typing.specs.Parts as own
use Rattle.aggregate_typing.proofs.OfParts.{unfit, no_boolean, fit_so_far}
use Rattle.aggregate_typing.proofs.parts.parts_typed.Goals as goal

pub returns-in_err-demands : goal.returns-in_err-demands
returns-in_err-demands c =
    let cs = c.args.components.now in
    let names = c.args.names.now in
    let known : c.are_known-known.result ≡ meant.are_known names cs = c.are_known-known.ensures ∙ ap (λ (f : Frame). list_all (λ name. is_some (bare_number_of f name)) names) c.in_ok-frame.ensures in
    unfit c.args.place names c.args.fit c.args.parts cs c.are_known-known.result known c.in_err-demands.field-0.0 c.from_residual-in_err-demands.result c.in_err-demands.ensures.err c.from_residual-in_err-demands.ensures.1

pub returns-in_err-having : goal.returns-in_err-having
returns-in_err-having c =
    let cs = c.args.components.now in
    let names = c.args.names.now in
    let known : c.are_known-known.result ≡ meant.are_known names cs = c.are_known-known.ensures ∙ ap (λ (f : Frame). list_all (λ name. is_some (bare_number_of f name)) names) c.in_ok-frame.ensures in
    no_boolean c.args.place names c.args.fit c.args.parts cs c.are_known-known.result known c.in_ok-demands.field-0 c.in_err-having.field-0.0 c.from_residual-in_err-having.result c.in_ok-demands.ensures.ok c.in_err-having.ensures.err c.from_residual-in_err-having.ensures.1

pub returns : goal.returns
returns c =
    let cs = c.args.components.now in
    let names = c.args.names.now in
    let known : c.are_known-known.result ≡ meant.are_known names cs = c.are_known-known.ensures ∙ ap (λ (f : Frame). list_all (λ name. is_some (bare_number_of f name)) names) c.in_ok-frame.ensures in
    let may : c.may_group-may.result ≡ meant.may_group names cs = c.may_group-may.ensures ∙ ap (λ (f : Frame). own.may_group f names) c.in_ok-frame.ensures in
    fit_so_far c.args.place names c.args.fit c.args.parts cs c.are_known-known.result known c.in_ok-demands.field-0 c.in_ok-having.having c.may_group-may.result c.joined.result
    c.in_ok-demands.ensures.ok c.in_ok-having.ensures.ok may c.joined.ensures
