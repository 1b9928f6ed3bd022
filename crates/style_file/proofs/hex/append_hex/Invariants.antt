use Rattle.std.proofs.Common.{◌≡◌, ◌++◌, drop, vec_items}
use Rattle.std.specs.Option.{option_map}
use Rattle.style_file.specs.Words.{hex_bytes}
use Rattle.style_file.proofs.Digits.{read_behind}
use Rattle.style_file.proofs.hex.append_hex.Given as goal

abbrev pub invariant-loop-high : goal.invariant-loop-high
invariant-loop-high l = read_behind (vec_items l.bytes) (drop l.high-index l.pairs) ≡ option_map (λ text. vec_items l.fn.bytes ++ text) (hex_bytes l.word)
