use Rattle.std.proofs.Common.{◌≡◌, ℕ, ◌-◌, List, Some, vec_items, vec_len, ap, ◌∙◌, arith, rules}
use Rattle.style.specs.declared.style.Property.{Property}
use Rattle.style_file.specs.Words.{then}
use Rattle.style_file.specs.Files.{cell_added, property_added}
use Rattle.style_file.specs.Said.{file_said, said_setting}
use Rattle.style_file.proofs.Lasts.{cell_enters}
use Rattle.style_file.proofs.file.StyleFile.add_cell.Goals as goal

pub returns : goal.returns
returns c =
    let f = file_said c.args.self.now in
    let x : Property × List ℕ = (c.in_ok-property.property, vec_items c.add_property.new.bytes) in
    let told : Some x ≡ property_added f.bytes (said_setting c.args.setting) = search rules in
    let i = vec_len c.args.self.now.marks - 1 in
    cell_enters f c.args.weight x c.in-Some.mark.now i c.enter.new.self (grind (arith, c.args.self.now.marks.ok.0, c.last_mut.ensures.variant)) (omega (arith, c.args.self.now.marks.ok.0)) (search rules) c.enter.ensures
    ∙ ap (λ o. then o (cell_added f c.args.weight)) told
