use Rattle.std.proofs.Common.{◌≡◌, ◌≤◌, ℕ, List, length, take, drop, sym, ap, subst, ◌∙◌, arith}
use Rattle.std.specs.Str.{IsUtf8}
use Rattle.revision_files.specs.Blocks.{cut, cut_from}
use Rattle.revision_files.proofs.Cuts.{splits, splits_text}
use Rattle.revision_files.proofs.blocks.split_block.Goals as goal

pub split_at-requires : goal.split_at-requires
split_at-requires c = let within = (splits c.args.fresh c.args.text.now).within in omega (arith, within, c.block_start.ensures)

pub returns-clause-before : goal.returns-clause-before
returns-clause-before c = c.split_at.ensures.front ∙ (ap (λ n. take n c.args.text.now) c.block_start.ensures ∙ (splits c.args.fresh c.args.text.now).front)

pub returns-clause-blocks : goal.returns-clause-blocks
returns-clause-blocks c = ap (λ rest. (cut rest).blocks) (c.split_at.ensures.back ∙ ap (λ n. drop n c.args.text.now) c.block_start.ensures) ∙ (splits c.args.fresh c.args.text.now).blocks

pub returns-clause-starts : goal.returns-clause-starts
returns-clause-starts c = ap (λ rest. (cut rest).before) (c.split_at.ensures.back ∙ ap (λ n. drop n c.args.text.now) c.block_start.ensures) ∙ (splits c.args.fresh c.args.text.now).starts

pub returns-clause-text_before : goal.returns-clause-text_before
returns-clause-text_before c = λ text. subst IsUtf8 (sym (c.split_at.ensures.front ∙ ap (λ n. take n c.args.text.now) c.block_start.ensures)) (splits_text c.args.fresh c.args.text.now text).0

pub returns-clause-text_after : goal.returns-clause-text_after
returns-clause-text_after c = λ text. subst IsUtf8 (sym (c.split_at.ensures.back ∙ ap (λ n. drop n c.args.text.now) c.block_start.ensures)) (splits_text c.args.fresh c.args.text.now text).1
