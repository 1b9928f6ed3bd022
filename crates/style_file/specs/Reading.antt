-- A style file: lines, each ended by a line feed or by the end of the file.
use Rattle.std.specs.Prelude.{ℕ, suc, List, [], ◌∷◌, Some, None, Ok, Err, Option, Result, ◌==◌}
use Rattle.std.specs.List.{slice_split}
use Rattle.text.specs.Infra.{words}
use Rattle.style_file.specs.Words.{then}
use Rattle.style_file.specs.Items.{item_of}
use Rattle.style_file.specs.Files.{File, no_items, added}

abbrev pub lines : List ℕ → List (List ℕ)
lines text = slice_split (λ b. b == 10) text

-- what a line says is added, if it is understood
abbrev pub line_added : File → List ℕ → Option File
line_added f l = then (item_of (words l)) (added f)

-- the file after a line and those behind it, or the number of the first that is not understood
abbrev pub going_on : (number : ℕ) → Option File → List (List ℕ) → Result File ℕ
going_on n None ls = Err n
going_on n (Some f) [] = Ok f
going_on n (Some f) (l ∷ ls) = going_on (suc n) (line_added f l) ls

-- lines are numbered from 1
abbrev pub file_of : List ℕ → Result File ℕ
file_of text = going_on 0 (Some no_items) (lines text)
