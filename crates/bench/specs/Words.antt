-- The file that the program's words name.
use Rattle.std.specs.Prelude.{ℕ, Bool, false, cond, List, [], ◌∷◌, Some, None, codes, Option, ◌==◌}
use Rattle.std.specs.Str.{bytes_eq}

-- a word that begins with a dash names no file
abbrev pub is_dashed : List ℕ → Bool
is_dashed [] = false
is_dashed (b ∷ bs) = b == 45

abbrev pub is_records : List ℕ → Bool
is_records w = bytes_eq w (codes "--records")

abbrev pub named : List (List ℕ) → Option (List ℕ)
named [] = Some (codes "page.bin")
named (w ∷ []) = cond (is_dashed w) None (Some w)
named (w ∷ v ∷ ws) = None

-- a first word `--records` says no more than the program does without
abbrev pub chosen : List (List ℕ) → Option (List ℕ)
chosen [] = named []
chosen (w ∷ ws) = cond (is_records w) (named ws) (named (w ∷ ws))
