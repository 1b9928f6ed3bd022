use Rattle.std.proofs.Common.{◌+◌, None, ◌∙◌, slice_get, rules}
use Rattle.style_file.proofs.Made.{all_made, eight_slots}
use Rattle.style_file.proofs.source.slots.Goals as goal

pub returns : goal.returns
returns c =
    let xs = c.args.rules.now in
    all_made _ (λ k. slice_get xs (c.args.from + k)) _ 8 None c.from_fn.ensures.items (λ i y q k. search rules) ∙ eight_slots xs c.args.from
