-- What a record that was read shows: its parts with their places in the page.
use Rattle.std.specs.Prelude.{ℕ, ◌+◌, List, length, Ok, Err, Result}
use Rattle.parts.specs.declared.Namespace.{Namespace}
use Rattle.parts.specs.declared.Part.{Part as Borrowed}
use Rattle.parts.specs.declared.Record.{Record}
use Rattle.parts.specs.declared.Record.TheVariants.{Document, Element, Text, Comment, Doctype, ProcessingInstruction, Attribute}
use Rattle.parts.specs.declared.Refusal.{Refusal}
use Rattle.parts.specs.declared.Found.{Found}
use Rattle.dom.specs.Format.{Leaf, Body, Entry}
use Rattle.dom.specs.Format.Entry.{entry}

-- a part of the page: the place of its first byte, and its bytes
pub record Part : Type 0 where
  pub start : ℕ
  pub bytes : List ℕ

abbrev pub part : ℕ → List ℕ → Part
part start bytes = record { start = start; bytes = bytes }

pub data Shown : Type 0 where
  document comment doctype instruction : Shown
  element : Namespace → Part → Shown
  text : Part → Shown
  attribute : Part → Part → Shown

-- ---- of a value of the code
abbrev pub borrowed : Borrowed → Part
borrowed p = part p.start p.text.now

abbrev pub shown : Record → Shown
shown Document = document
shown (Element s n) = element s (borrowed n)
shown (Text t) = text (borrowed t)
shown Comment = comment
shown Doctype = doctype
shown ProcessingInstruction = instruction
shown (Attribute n v) = attribute (borrowed n) (borrowed v)

abbrev pub told : Result Record Refusal → Result Shown Refusal
told (Ok r) = Ok (shown r)
told (Err e) = Err e

-- ---- of a record of the format, at the place of its first byte: the payload stands behind eight bytes
abbrev pub leaf_at : ℕ → Leaf → List ℕ → Shown
leaf_at at Leaf.text p = text (part (at + 8) p)
leaf_at at Leaf.comment p = comment
leaf_at at Leaf.doctype p = doctype
leaf_at at Leaf.instruction p = instruction

abbrev pub body_at : ℕ → Body → Shown
body_at at (Body.document p) = document
body_at at (Body.element s n) = element s (part (at + 9) n)
body_at at (Body.leaf k p) = leaf_at at k p
body_at at (Body.attribute n v) = attribute (part (at + 9) n) (part (at + 9 + length n) v)

abbrev pub shown_at : ℕ → Result Body Refusal → Result Shown Refusal
shown_at at (Ok b) = Ok (body_at at b)
shown_at at (Err e) = Err e

-- ---- a record that was found at a place: what it shows, its depth, and the place after it
pub record Seen : Type 0 where
  pub shown : Shown
  pub depth : ℕ
  pub next : ℕ

abbrev pub seen : Result Found Refusal → Result Seen Refusal
seen (Ok f) = Ok (record { shown = shown f.record; depth = f.depth; next = f.next })
seen (Err e) = Err e

abbrev pub seen_at : (at next : ℕ) → Result Entry Refusal → Result Seen Refusal
seen_at at next (Ok (entry d b)) = Ok (record { shown = body_at at b; depth = d; next = next })
seen_at at next (Err e) = Err e
