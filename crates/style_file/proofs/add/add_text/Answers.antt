use Rattle.std.proofs.Common.{vec_items, arith, rules}
use Rattle.style_file.specs.Words.{text_of}
use Rattle.style_file.proofs.Digits.{stands_behind}
use Rattle.style_file.proofs.add.add_text.Goals as goal

pub overflow_sub-result : goal.overflow_sub-result
overflow_sub-result c =
    grind (arith, (stands_behind (vec_items c.args.bytes.now) (vec_items c.append_text.new.bytes) (text_of c.args.word.now) (search rules)).0, c.len-start.ensures, c.len.ensures)
