use Rattle.std.proofs.Common.{◌≡◌, ◌∙◌, ap, sym, length, slice_get, Some}
use Rattle.vtl_values.specs.Structures.{structure_of}
use Rattle.vtl_values.proofs.StructureNames.{structure_of-take, GoesOn, one_more, all_copied}
use Rattle.vtl_values.proofs.structures.Structures.copy.Goals as goal

pub insert-requires : goal.insert-requires
insert-requires c =
    let at : slice_get c.args.self.now (length c.loop-name.copies) ≡ Some (c.in-Some.name.now, c.in-Some.structure.now) = ap (slice_get c.args.self.now) (sym c.len.ensures.len) ∙ sym c.in-Some.ensures.value in
    ap (structure_of c.loop-name.copies) c.in_ok-copy.ensures
    ∙ structure_of-take c.args.self.now c.loop-name.copies (c.in-Some.name.now, c.in-Some.structure.now) c.nth.ensures.names_once c.loop-name.invariant.so_far at

goes_on : (c : goal.In_ok-insert) → GoesOn c.args.self.now c.loop-name.copies c.insert.new.self
goes_on c =
    one_more c.args.self.now c.loop-name.copies c.insert.new.self (c.in_ok-copy.field-0, c.in_ok-copy-2.field-0) c.loop-name.invariant.so_far
    (ap (slice_get c.args.self.now) (sym c.len.ensures.len) ∙ sym c.in-Some.ensures.value ∙ sym (λ i. Some (c.in_ok-copy.ensures i, c.in_ok-copy-2.ensures i)))
    c.in_ok-insert.ensures.ok

pub loop-name-smaller : goal.loop-name-smaller
loop-name-smaller c = (goes_on c).further

pub loop-name-preserved : goal.loop-name-preserved
loop-name-preserved c = record { so_far = (goes_on c).so_far; within = (goes_on c).within }

pub returns : goal.returns
returns c = all_copied c.args.self.now c.loop-name.copies c.loop-name.invariant.so_far c.loop-name.invariant.within (ap (slice_get c.args.self.now) (sym c.len.ensures.len) ∙ sym c.in_default.ensures.value)
