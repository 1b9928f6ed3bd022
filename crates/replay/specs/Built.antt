-- The bytes that a case's pieces stand for, and the answer to a page.
use Rattle.std.specs.Prelude.{ℕ, zero, suc, ◌+◌, List, [], ◌∷◌, ◌++◌, length, replicate, Ok, Err, Result}
use Rattle.parts.specs.declared.Refusal.{Refusal}
use Rattle.dom.specs.Format.{le2, le4}
use Rattle.parts.specs.Numbers.{number, place}
use Rattle.replay.specs.declared.case.Piece.{Piece}
use Rattle.replay.specs.declared.case.Piece.TheVariants.{Record, Raw, Text, Comments, Nest}
use Rattle.replay.specs.declared.case.Refused.{Refused}

-- a record of any kind, known or not
abbrev pub framed : (kind depth : ℕ) → List ℕ → List ℕ
framed k d p = le4 (4 + length p) ++ (le2 k ++ (le2 d ++ p))

abbrev pub comments : ℕ → List ℕ
comments zero = []
comments (suc n) = comments n ++ framed 4 1 []

-- elements p of namespace 1, each in the one before
abbrev pub nest : ℕ → List ℕ
nest zero = []
nest (suc n) = nest n ++ framed 2 (suc n) (1 ∷ 112 ∷ [])

abbrev pub built : Piece → List ℕ
built (Record k d p) = framed k d p.now
built (Raw bs) = bs.now
built (Text n) = framed 3 1 (replicate n 97)
built (Comments n) = comments n
built (Nest n) = nest n

-- a refusal by its number and its place
abbrev pub refused : Refusal → Refused
refused r = record { 0 = number r; 1 = place r }

abbrev pub answered : Result ℕ Refusal → Result ℕ Refused
answered (Ok n) = Ok n
answered (Err r) = Err (refused r)
