-- The digits of one more byte. Assumes nothing.
use Rattle.std.proofs.Common.{◌≡◌, ℕ, ◌+◌, ◌^◌, ◌-◌, ◌<◌, false, List, [], ◌++◌, length, get_or, take, sym, ap, ◌∙◌}
use Rattle.std.specs.Fmt.{digits, format_spec, padded_integral}
use Rattle.std.proofs.lemmas.Fmt.{hex_byte as two_digits}
use Rattle.std.proofs.lemmas.List.{flat_map_more, take_more}
use Rattle.bench.specs.Lines.{hex_byte, hex}

pub hex_more : (bs : List ℕ) (i : ℕ) → i < length bs → get_or bs i 0 < 256 → hex (take i bs) ++ padded_integral (format_spec 32 0 4 2 (2 ^ 64 - 1)) false [] (digits 16 false (get_or bs i 0)) ≡ hex (take (i + 1) bs)
hex_more bs i l f =
    ap (λ xs. hex (take i bs) ++ xs) (two_digits false (get_or bs i 0) f)
    ∙ flat_map_more hex_byte [] (take i bs) (get_or bs i 0)
    ∙ ap hex (sym (take_more bs i 0 l))
