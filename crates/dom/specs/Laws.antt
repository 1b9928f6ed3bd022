-- What it is to be accepted, in the format's own words.
use Rattle.std.specs.Prelude.{◌≡◌, ℕ, true, List, [], length, Ok, Err, Result}
use Rattle.parts.specs.declared.Refusal.{Refusal}
use Rattle.parts.specs.declared.Refusal.TheVariants.{Cut}
use Rattle.dom.specs.Format.{Entry, encodings, well_formed}
use Rattle.dom.specs.Reading.{entries}

-- the page is the encodings of these records, one after the other, and they keep the rules
abbrev pub Holds : List ℕ → List Entry → Type 0
Holds page es = (well_formed es ≡ true) × (encodings es ≡ page)

-- accepted with their number exactly where the page holds some records
abbrev pub Accepts : List ℕ → Result ℕ Refusal → Type 0
Accepts page (Ok n) = (es : List Entry) × Holds page es × (length es ≡ n)
Accepts page (Err r) = (es : List Entry) → Holds page es → ⊥

-- a page holds no two lists of records
abbrev pub HeldOnce : Type 0
HeldOnce = (page : List ℕ) (es fs : List Entry) → Holds page es → Holds page fs → es ≡ fs

-- a page of no bytes is refused as cut, at place 0
abbrev pub NoBytesAreCut : Type 0
NoBytesAreCut = entries [] ≡ Err (Cut 0)
