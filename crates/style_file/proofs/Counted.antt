-- The words of a line, by their places. Assumes nothing.
use Rattle.std.proofs.Common.{◌≡◌, ℕ, List, [], map, get_or, Bor}
use Rattle.std.proofs.lemmas.Bool.Decides.{nat_tests}
use lib.ListN.{length-map, get_or-map}

-- what the code would read past the last word
abbrev pub no_word : Bor (List ℕ)
no_word = record { ref_ptr = (0, 0); now = [] }

pub word_at : (ws : List (Bor (List ℕ))) (i : ℕ) → get_or (map (λ x. x.now) ws) i [] ≡ (get_or ws i no_word).now
word_at ws i = get_or-map (λ x. x.now) ws i no_word

pub ruleset counted = (word_at, length-map, nat_tests)
