use Rattle.std.proofs.Common.{◌≡◌, length, drop, Some}
use Rattle.style_file.specs.Reading.{lines, going_on}
use Rattle.style_file.specs.Said.{file_said}
use Rattle.style_file.proofs.file.StyleFile.add_lines.Given as goal

abbrev pub invariant-loop-i : goal.invariant-loop-i
invariant-loop-i l =
    going_on (length l.yielded) (Some (file_said l.self)) (drop (length l.yielded) (lines l.text)) ≡ going_on 0 (Some (file_said l.fn.self)) (lines l.text)
