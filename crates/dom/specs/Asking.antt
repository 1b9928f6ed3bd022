-- What is asked of a page, by the number and place of a record.
use Rattle.std.specs.Prelude.{◌≡◌, ℕ, zero, suc, ◌+◌, ◌-◌, ◌^◌, min, Bool, cond, ◌||◌, List, [], ◌∷◌, length, drop, Some, None, Ok, Err, Option, Result, ◌==◌, nat_lt}
use Rattle.std.specs.Str.{bytes_eq}
use Rattle.parts.specs.declared.Spot.{Spot}
use Rattle.parts.specs.declared.Named.{Named}
use Rattle.parts.specs.declared.Refusal.{Refusal}
use Rattle.dom.specs.Format.{Body, Entry}
use Rattle.dom.specs.Format.Entry.{entry}
use Rattle.dom.specs.Reading.{whole, le2_at, le4_at, entry_front}
use Rattle.dom.specs.Shown.{Part, part, Shown, Seen, borrowed, leaf_at}
use Rattle.dom.specs.Laws.{Holds}
use Rattle.dom.specs.Dom.{Dom, Element, Single, Attribute, tree}
use Rattle.dom.specs.Dom.Dom.{end, element, leaf}

-- ---- on the bytes

abbrev pub spot : (number place : ℕ) → Spot
spot n p = record { number = n; place = p }

-- the next record's number; the largest, which no page reaches, stays
abbrev pub next_number : ℕ → ℕ
next_number n = min (n + 1) (2 ^ 64 - 1)

-- an attribute, or a record deeper than that, is passed over
abbrev pub passed : List ℕ → ℕ → Bool
passed bs depth = le2_at bs 4 == 7 || nat_lt depth (le2_at bs 6)

-- the first record that is not passed over, if it lies at that depth; `skip` bytes still belong to the record before
unfoldable pub node_from : (skip number at : ℕ) → List ℕ → (depth : ℕ) → Option Spot
node_from skip n at [] depth = None
node_from zero n at (b ∷ bs) depth =
    cond (whole (b ∷ bs))
    (cond (passed (b ∷ bs) depth) (node_from (le4_at (b ∷ bs) 0 + 3) (next_number n) (at + 1) bs depth) (cond (le2_at (b ∷ bs) 6 == depth) (Some (spot n at)) None))
    None
node_from (suc skip) n at (b ∷ bs) depth = node_from skip n (at + 1) bs depth

-- from the record at that spot on
abbrev pub node_at : List ℕ → Spot → ℕ → Option Spot
node_at page s depth = node_from 0 s.number s.place (drop s.place page) depth

-- the record after that at the spot, and the depth of that
pub record Past : Type 0 where
  pub next : Spot
  pub depth : ℕ

abbrev pub past_of : List ℕ → Spot → Option Past
past_of page s =
    let bs = drop s.place page in
    cond (whole bs) (Some (record { next = spot (next_number s.number) (s.place + (le4_at bs 0 + 4)); depth = le2_at bs 6 })) None

-- from there on, at a depth so much below that
abbrev pub from_past : ℕ → List ℕ → Option Past → Option Spot
from_past more page None = None
from_past more page (Some p) = node_at page p.next (p.depth + more)

abbrev pub after_by : ℕ → List ℕ → Spot → Option Spot
after_by more page s = from_past more page (past_of page s)

-- an attribute's spot and value
pub record Valued : Type 0 where
  pub spot : Spot
  pub value : Part

abbrev pub valued : Named → Valued
valued a = record { spot = a.spot; value = borrowed a.value }

-- the record that was read is the attribute, or another one, or no attribute
abbrev pub if_named : (number at : ℕ) → (name : List ℕ) → Result Entry Refusal → Option Valued → Option Valued
if_named n at name (Ok (entry d (Body.document p))) other = None
if_named n at name (Ok (entry d (Body.element s e))) other = None
if_named n at name (Ok (entry d (Body.leaf k p))) other = None
if_named n at name (Ok (entry d (Body.attribute a v))) other = cond (bytes_eq a name) (Some (record { spot = spot n at; value = part (at + 9 + length a) v })) other
if_named n at name (Err r) other = None

-- the first attribute of that name, of those with which the records go on
unfoldable pub attribute_from : (skip number at : ℕ) → List ℕ → (name : List ℕ) → Option Valued
attribute_from skip n at [] name = None
attribute_from zero n at (b ∷ bs) name = if_named n at name (entry_front at (b ∷ bs)) (attribute_from (le4_at (b ∷ bs) 0 + 3) (next_number n) (at + 1) bs name)
attribute_from (suc skip) n at (b ∷ bs) name = attribute_from skip n (at + 1) bs name

abbrev pub attributes_past : List ℕ → List ℕ → Option Past → Option Valued
attributes_past page name None = None
attributes_past page name (Some p) = attribute_from 0 p.next.number p.next.place (drop p.next.place page) name

abbrev pub attribute_of : List ℕ → Spot → List ℕ → Option Valued
attribute_of page s name = attributes_past page name (past_of page s)

-- ---- on the tree

-- the spot of the first of some siblings
abbrev pub first_spot : Dom → Option Spot
first_spot end = None
first_spot (element e kids after) = Some (spot e.number e.place)
first_spot (leaf l after) = Some (spot l.number l.place)

-- the siblings `x`, from one of its nodes on, are part of the tree
pub data In (x : Dom) : Dom → Type 0 where
  here : In x x
  below : {e : Element} {kids after : Dom} → In x kids → In x (element e kids after)
  beside : {e : Element} {kids after : Dom} → In x after → In x (element e kids after)
  behind : {l : Single} {after : Dom} → In x after → In x (leaf l after)

abbrev pub children : Dom → Dom
children end = end
children (element e kids after) = kids
children (leaf l after) = end

abbrev pub following : Dom → Dom
following end = end
following (element e kids after) = after
following (leaf l after) = after

-- the answer is the first child, or the next sibling, of each node of the page's tree that stands at the spot
abbrev pub Answers : (Dom → Dom) → List ℕ → Spot → Option Spot → Type 0
Answers part_of page s r = (es : List Entry) → Holds page es → (x : Dom) → In x (tree es).nodes → first_spot x ≡ Some s → r ≡ first_spot (part_of x)

-- so much deeper: the children, or the siblings after the node
abbrev pub related : ℕ → Dom → Dom
related zero = following
related (suc more) = children

-- and of the Document, which stands at the page's start and has no siblings
abbrev pub AnswersRoot : (more : ℕ) → List ℕ → Spot → Option Spot → Type 0
AnswersRoot zero page s r = Unit {0}
AnswersRoot (suc more) page s r = (es : List Entry) → Holds page es → s ≡ spot 0 0 → r ≡ first_spot (tree es).nodes

-- the first attribute of that name
abbrev pub first_named : List ℕ → List Attribute → Option Valued
first_named name [] = None
first_named name (a ∷ rest) = cond (bytes_eq a.name.bytes name) (Some (record { spot = spot a.number a.place; value = a.value })) (first_named name rest)

abbrev pub attributes : Dom → List Attribute
attributes end = []
attributes (element e kids after) = e.attributes
attributes (leaf l after) = []

-- the answer is the first attribute of that name of each node of the page's tree that stands at the spot
abbrev pub AnswersAttribute : List ℕ → Spot → List ℕ → Option Valued → Type 0
AnswersAttribute page s name r = (es : List Entry) → Holds page es → (x : Dom) → In x (tree es).nodes → first_spot x ≡ Some s → r ≡ first_named name (attributes x)

-- ---- a record of the tree, read at its place
abbrev pub shown_leaf : Single → Shown
shown_leaf l = leaf_at l.place l.kind l.part.bytes

abbrev pub shows : Dom → Option Shown
shows end = None
shows (element e kids after) = Some (Shown.element e.space e.name)
shows (leaf l after) = Some (shown_leaf l)

abbrev pub shown_part : Result Seen Refusal → Option Shown
shown_part (Ok s) = Some s.shown
shown_part (Err r) = None

-- the record read at a place is the node of the page's tree that stands there
abbrev pub ReadsNode : List ℕ → ℕ → Result Seen Refusal → Type 0
ReadsNode page at r = (es : List Entry) → Holds page es → (x : Dom) → In x (tree es).nodes → (n : ℕ) → first_spot x ≡ Some (spot n at) → shown_part r ≡ shows x
