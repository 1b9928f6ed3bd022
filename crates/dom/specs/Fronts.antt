-- Where the records of a page begin, one after another.
use Rattle.std.specs.Prelude.{◌≡◌, ℕ, zero, suc, ◌+◌, cond, List, [], ◌∷◌, map, drop, None, Option, Ok, Result}
use Rattle.parts.specs.declared.Spot.{Spot}
use Rattle.parts.specs.declared.Refusal.{Refusal}
use Rattle.dom.specs.Format.{Entry}
use Rattle.dom.specs.Reading.{whole, le4_at, entry_front}
use Rattle.dom.specs.Laws.{Holds}
use Rattle.dom.specs.Dom.{Located, locate}
use Rattle.dom.specs.Dom.Located.{located}
use Rattle.dom.specs.Asking.{spot, next_number, Valued, if_named}

-- a record's number and place, and the bytes of the page from its first one on
pub record Front : Type 0 where
  pub spot : Spot
  pub bytes : List ℕ

-- from a record on, up to the page's end or to a record that is not whole, which is the last; `skip` bytes still belong to the record before
unfoldable pub fronts_from : (skip number at : ℕ) → List ℕ → List Front
fronts_from skip n at [] = []
fronts_from zero n at (b ∷ bs) =
    record { spot = spot n at; bytes = b ∷ bs } ∷ cond (whole (b ∷ bs)) (fronts_from (le4_at (b ∷ bs) 0 + 3) (next_number n) (at + 1) bs) []
fronts_from (suc skip) n at (b ∷ bs) = fronts_from skip n (at + 1) bs

-- from the record at that spot on
abbrev pub fronts_at : List ℕ → Spot → List Front
fronts_at page s = fronts_from 0 s.number s.place (drop s.place page)

-- the first attribute of that name, of those with which the records go on
abbrev pub named_in : (name : List ℕ) → List Front → Option Valued
named_in name [] = None
named_in name (f ∷ fs) = if_named f.spot.number f.spot.place name (entry_front f.spot.place f.bytes) (named_in name fs)

-- ---- what stands there
abbrev pub read_at : Front → Spot × Result Entry Refusal
read_at f = (f.spot, entry_front f.spot.place f.bytes)

abbrev pub standing : Located → Spot × Result Entry Refusal
standing (located i at e) = (spot i at, Ok e)

-- the records of an accepted page are read there, all of them and in order, with their numbers and places
abbrev pub RecordsAreRead : List ℕ → List Front → Type 0
RecordsAreRead page fs = (es : List Entry) → Holds page es → map read_at fs ≡ map standing (locate 0 0 es)
