-- ASCII white space and the splitting of a text at it, as the Infra standard and HTML have them.
use Rattle.std.specs.Prelude.{◌≡◌, ℕ, ◌<◌, Bool, true, false, cond, ◌||◌, List, [], ◌∷◌, ◌++◌, length, Some, None, Option, ◌==◌}
use Rattle.std.specs.List.{AllByRecursion, list_any}
use Rattle.std.specs.Str.{bytes_eq}
use Rattle.text.specs.declared.words.WordIter.{WordIter}

-- U+0009 TAB, U+000A LF, U+000C FF, U+000D CR or U+0020 SPACE
abbrev pub ascii_white_space : ℕ → Bool
ascii_white_space b = b == 0x09 || b == 0x0A || b == 0x0C || b == 0x0D || b == 0x20

-- ---- split on ASCII white space

-- a word: bytes, at least one, of which none is ASCII white space
abbrev pub Word : List ℕ → Type 0
Word w = (0 < length w) × AllByRecursion (λ b. ascii_white_space b ≡ false) w

-- a word ends here: nothing follows, or ASCII white space
abbrev pub Ends : List ℕ → Type 0
Ends [] = Unit {0}
Ends (b ∷ bs) = ascii_white_space b ≡ true

-- the text splits into the words: ASCII white space is skipped, and what is collected up to the next one is a word
pub data Splits : List ℕ → List (List ℕ) → Type 0 where
  nothing : Splits [] []
  skip : (b : ℕ) (bs : List ℕ) (ws : List (List ℕ)) → ascii_white_space b ≡ true → Splits bs ws → Splits (b ∷ bs) ws
  collect : (w rest bs : List ℕ) (ws : List (List ℕ)) → Word w → Ends rest → bs ≡ w ++ rest → Splits rest ws → Splits bs (w ∷ ws)

-- the bytes before the first word of a text are a word too, where there are any
abbrev pub led_by : List ℕ → List (List ℕ) → List (List ℕ)
led_by [] ws = ws
led_by (b ∷ w) ws = (b ∷ w) ∷ ws

-- the bytes up to the first ASCII white space, and the words that follow them
abbrev pub cut : List ℕ → List ℕ × List (List ℕ)
cut [] = ([], [])
cut (b ∷ bs) = let p = cut bs in cond (ascii_white_space b) ([], led_by p.0 p.1) (b ∷ p.0, p.1)

-- the words of the text, in order
abbrev pub words : List ℕ → List (List ℕ)
words bs = led_by (cut bs).0 (cut bs).1

-- a text splits into its words, and into no others
abbrev pub WordsAreRuns : Type 0
WordsAreRuns = (bs : List ℕ) → Splits bs (words bs) × ((ws : List (List ℕ)) → Splits bs ws → ws ≡ words bs)

-- the word is one of the words
abbrev pub one_of : List ℕ → List (List ℕ) → Bool
one_of w vs = list_any (λ v. bytes_eq v w) vs

-- ---- one word at a time

-- skip ASCII white space
abbrev pub skipped : List ℕ → List ℕ
skipped [] = []
skipped (b ∷ bs) = cond (ascii_white_space b) (skipped bs) (b ∷ bs)

-- collect what is not ASCII white space, and what is then left
abbrev pub collected : List ℕ → List ℕ
collected [] = []
collected (b ∷ bs) = cond (ascii_white_space b) [] (b ∷ collected bs)

abbrev pub left : List ℕ → List ℕ
left [] = []
left (b ∷ bs) = cond (ascii_white_space b) (b ∷ bs) (left bs)

abbrev pub collects : List ℕ → Option (List ℕ × List ℕ)
collects [] = None
collects (b ∷ bs) = Some (collected (b ∷ bs), left (b ∷ bs))

-- the first word and what follows it, where there is a word
abbrev pub first_word : List ℕ → Option (List ℕ × List ℕ)
first_word bs = collects (skipped bs)

-- the words of the text are its first word and then those of what follows it
abbrev pub led : Option (List ℕ × List ℕ) → List (List ℕ)
led None = []
led (Some p) = p.0 ∷ words p.1

abbrev pub FirstWordLeads : Type 0
FirstWordLeads = (bs : List ℕ) → words bs ≡ led (first_word bs)

-- the words that an iterator over a text's words has left
abbrev pub words_left : WordIter → List (List ℕ)
words_left s = words s.rest.now
