-- How a question goes on from record to record. Assumes nothing.
use Rattle.std.proofs.Common.{◌≡◌, ℕ, ◌+◌, ◌<◌, Bool, true, false, cond, eqb, List, [], ◌∷◌, length, drop, Some, None, Option, refl, ap, ◌∙◌, arith}
use Rattle.parts.specs.declared.Spot.{Spot}
use Rattle.dom.specs.declared.frame.Frame.{Frame}
use Rattle.dom.specs.Reading.{whole, le2_at, le4_at, frame_of, entry_front}
use Rattle.dom.specs.Asking.{spot, next_number, passed, node_from, past_of, if_named, attribute_from}
use Rattle.dom.proofs.Stepping.{whole_size, frame_cut, frame_whole}
use Rattle.dom.proofs.Going.{passing}

nodes_on : (n depth m at b : ℕ) (bs : List ℕ) → node_from (m + 3) n (at + 1) bs depth ≡ node_from 0 n (at + (m + 4)) (drop (m + 4) (b ∷ bs)) depth
unfolding node_from
nodes_on n depth = passing (λ k a q. node_from k n a q depth) None (λ k a. refl) (λ k a b q. refl)

-- ---- one record, whole

-- what the tests of one record choose
chosen : (w p : Bool) (x y : Option Spot) → w ≡ true → cond w (cond p x y) None ≡ cond p x y
chosen w p x y h = rw h

module _ (n at depth b : ℕ) (bs : List ℕ) where
  abbrev on : Option Spot
  on = node_from (le4_at (b ∷ bs) 0 + 3) (next_number n) (at + 1) bs depth

  abbrev here : Option Spot
  here = cond (eqb (le2_at (b ∷ bs) 6) depth) (Some (spot n at)) None

empty_cut : {T : Type 0} → whole [] ≡ true → T
empty_cut h = let z = whole_size [] h in absurd (omega arith)

pub node_here : (n at depth : ℕ) (bs : List ℕ) → whole bs ≡ true → passed bs depth ≡ false → node_from 0 n at bs depth ≡ cond (eqb (le2_at bs 6) depth) (Some (spot n at)) None
unfolding node_from
node_here n at depth [] h g = empty_cut h
node_here n at depth (b ∷ bs) h g =
    chosen (whole (b ∷ bs)) (passed (b ∷ bs) depth) (on n at depth b bs) (here n at depth b bs) h
    ∙ ap (λ t. cond t (on n at depth b bs) (here n at depth b bs)) g

pub node_passed : (n at depth : ℕ) (bs : List ℕ) → whole bs ≡ true → passed bs depth ≡ true → node_from 0 n at bs depth ≡ node_from 0 (next_number n) (at + (le4_at bs 0 + 4)) (drop (le4_at bs 0 + 4) bs) depth
unfolding node_from
node_passed n at depth [] h g = empty_cut h
node_passed n at depth (b ∷ bs) h g =
    chosen (whole (b ∷ bs)) (passed (b ∷ bs) depth) (on n at depth b bs) (here n at depth b bs) h
    ∙ ap (λ t. cond t (on n at depth b bs) (here n at depth b bs)) g
    ∙ nodes_on (next_number n) depth (le4_at (b ∷ bs) 0) at b bs

-- ---- the record after a spot
module _ (page : List ℕ) (s : Spot) where
  past_cut : whole (drop s.place page) ≡ false → past_of page s ≡ None
  past_cut h = rw h

  pub past_none : None ≡ frame_of (drop s.place page) → past_of page s ≡ None
  past_none h = past_cut (frame_cut (drop s.place page) h)

  pub past_framed : (f : Frame) → Some f ≡ frame_of (drop s.place page) → past_of page s ≡ Some (record { next = spot (next_number s.number) (s.place + f.size); depth = f.depth })
  past_framed f h = let w = frame_whole (drop s.place page) f h in rw (w.0, w.1)

-- ---- attributes
attributes_on : (n : ℕ) (name : List ℕ) (m at b : ℕ) (bs : List ℕ) → attribute_from (m + 3) n (at + 1) bs name ≡ attribute_from 0 n (at + (m + 4)) (drop (m + 4) (b ∷ bs)) name
unfolding attribute_from
attributes_on n name = passing (λ k a q. attribute_from k n a q name) None (λ k a. refl) (λ k a b q. refl)

pub attribute_step : (n at : ℕ) (bs name : List ℕ) → 0 < length bs → attribute_from 0 n at bs name ≡ if_named n at name (entry_front at bs) (attribute_from 0 (next_number n) (at + (le4_at bs 0 + 4)) (drop (le4_at bs 0 + 4) bs) name)
unfolding attribute_from
attribute_step n at [] name l = absurd (omega arith)
attribute_step n at (b ∷ bs) name l = ap (if_named n at name (entry_front at (b ∷ bs))) (attributes_on (next_number n) name (le4_at (b ∷ bs) 0) at b bs)
