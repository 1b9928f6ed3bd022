-- What the bytes of a page say, record after record, and which refusal they get.
use Rattle.std.specs.Prelude.{ℕ, zero, suc, ◌+◌, ◌-◌, ◌*◌, Bool, cond, ◌&&◌, List, [], ◌∷◌, length, take, drop, Some, None, Ok, Err, Option, Result, ◌==◌, nat_le, nat_lt, slice_index}
use Rattle.parts.specs.declared.Kind.{Kind}
use Rattle.parts.specs.declared.Kind.TheVariants.{Document, Element, Text, Comment, Doctype, ProcessingInstruction, Attribute}
use Rattle.parts.specs.declared.Namespace.{Namespace}
use Rattle.parts.specs.declared.Refusal.{Refusal}
use Rattle.parts.specs.declared.Refusal.TheVariants.{Long, Cut, Kind as WrongKind, Depth as WrongDepth, Name as WrongName, Text as WrongText, Many}
use Rattle.text.specs.Rfc3629.{octets}
use Rattle.parts.specs.Codes.{kind_of, namespace_of}
use Rattle.dom.specs.Format.{Body, Entry, kind, order, deepest_of, kind_fits, depth_fits}
use Rattle.dom.specs.Format.Leaf.{text, comment, doctype, instruction}
use Rattle.dom.specs.Format.Body.{document, element, leaf, attribute}
use Rattle.dom.specs.Format.Entry.{entry}
use Rattle.dom.specs.declared.frame.Frame.{Frame}
use Rattle.dom.specs.declared.order.Order.{Order}
use Rattle.dom.specs.declared.order.Order.TheVariants.{After}

abbrev pub le2_at : List ℕ → ℕ → ℕ
le2_at bs k = slice_index bs k + slice_index bs (k + 1) * 256

abbrev pub le4_at : List ℕ → ℕ → ℕ
le4_at bs k = slice_index bs k + slice_index bs (k + 1) * 256 + slice_index bs (k + 2) * 65536 + slice_index bs (k + 3) * 16777216

-- the record that the bytes begin with is whole: its length field is there, counts kind and depth, and does not pass the end
abbrev pub whole : List ℕ → Bool
whole bs = nat_le 4 (length bs) && nat_le 4 (le4_at bs 0) && nat_le (le4_at bs 0) (length bs - 4)

abbrev pub frame_of : List ℕ → Option Frame
frame_of bs = cond (whole bs) (Some (record { kind = kind_of (le2_at bs 4); depth = le2_at bs 6; size = le4_at bs 0 + 4 })) None

-- ---- a record's payload, for the record at that place

abbrev pub named : ℕ → Option Namespace → List ℕ → Result Body Refusal
named at None n = Err (WrongName at)
named at (Some s) n = Ok (element s n)

-- a namespace byte and a name of one byte or more
abbrev pub name_space : List ℕ → Option Namespace
name_space p = cond (nat_le 2 (length p) && octets (drop 1 p)) (namespace_of (slice_index p 0)) None

abbrev pub element_of : ℕ → List ℕ → Result Body Refusal
element_of at p = named at (name_space p) (drop 1 p)

abbrev pub text_of : ℕ → List ℕ → Result Body Refusal
text_of at p = cond (octets p) (Ok (leaf text p)) (Err (WrongText at))

-- the length of the name, from 1, the name and the value
abbrev pub name_in : List ℕ → List ℕ
name_in p = take (slice_index p 0) (drop 1 p)

abbrev pub value_in : List ℕ → List ℕ
value_in p = drop (slice_index p 0 + 1) p

abbrev pub has_name : List ℕ → Bool
has_name p = nat_le 1 (slice_index p 0) && nat_le (slice_index p 0 + 1) (length p) && octets (name_in p)

abbrev pub attribute_of : ℕ → List ℕ → Result Body Refusal
attribute_of at p = cond (has_name p) (cond (octets (value_in p)) (Ok (attribute (name_in p) (value_in p))) (Err (WrongText at))) (Err (WrongName at))

abbrev pub body_of : ℕ → Kind → List ℕ → Result Body Refusal
body_of at Document p = Ok (document p)
body_of at Element p = element_of at p
body_of at Text p = text_of at p
body_of at Comment p = Ok (leaf comment p)
body_of at Doctype p = Ok (leaf doctype p)
body_of at ProcessingInstruction p = Ok (leaf instruction p)
body_of at Attribute p = attribute_of at p

-- ---- the record that the bytes begin with: its place, its number, and what the records before it allow

abbrev pub payload_of : List ℕ → List ℕ
payload_of bs = take (le4_at bs 0 - 4) (drop 8 bs)

abbrev pub with_depth : ℕ → Result Body Refusal → Result Entry Refusal
with_depth d (Ok b) = Ok (entry d b)
with_depth d (Err e) = Err e

-- kind, depth and payload are tested, in this order
unfoldable pub tested : Order → (at depth : ℕ) → List ℕ → Kind → Result Entry Refusal
tested o at d p k =
    cond (kind_fits o k) (cond (depth_fits o k d) (with_depth d (body_of at k p)) (Err (WrongDepth at))) (Err (WrongKind at))

abbrev pub of_kind : Order → (at depth : ℕ) → List ℕ → Option Kind → Result Entry Refusal
of_kind o at d p None = Err (WrongKind at)
of_kind o at d p (Some k) = tested o at d p k

unfoldable pub first_entry : Order → (number at : ℕ) → List ℕ → Result Entry Refusal
first_entry o number at bs =
    cond (nat_le 4096 number) (Err (Many at))
    (cond (whole bs) (of_kind o at (le2_at bs 6) (payload_of bs) (kind_of (le2_at bs 4))) (Err (Cut at)))

-- ---- the record at a place, whatever stands before it

abbrev pub read_as : (at depth : ℕ) → List ℕ → Option Kind → Result Entry Refusal
read_as at d p None = Err (WrongKind at)
read_as at d p (Some k) = with_depth d (body_of at k p)

unfoldable pub entry_front : (at : ℕ) → List ℕ → Result Entry Refusal
entry_front at bs = cond (whole bs) (read_as at (le2_at bs 6) (payload_of bs) (kind_of (le2_at bs 4))) (Err (Cut at))

abbrev pub entry_at : List ℕ → ℕ → Result Entry Refusal
entry_at page at = entry_front at (drop at page)

-- the place after it
abbrev pub next_place : List ℕ → ℕ → ℕ
next_place page at = at + (le4_at (drop at page) 0 + 4)

-- ---- all records of a page

abbrev pub followed : Entry → Result (List Entry) Refusal → Result (List Entry) Refusal
followed e (Ok es) = Ok (e ∷ es)
followed e (Err r) = Err r

abbrev pub and_then : Result Entry Refusal → (Entry → Result (List Entry) Refusal) → Result (List Entry) Refusal
and_then (Ok e) rest = followed e (rest e)
and_then (Err r) rest = Err r

-- the records from a place on, after those before (the latest first), where `skip` bytes still belong to the latest
unfoldable pub entries_from : (skip : ℕ) → List Entry → (at : ℕ) → List ℕ → Result (List Entry) Refusal
entries_from skip before at [] = Ok []
entries_from zero before at (b ∷ bs) =
    and_then (first_entry (order before) (length before) at (b ∷ bs)) (λ e. entries_from (le4_at (b ∷ bs) 0 + 3) (e ∷ before) (at + 1) bs)
entries_from (suc skip) before at (b ∷ bs) = entries_from skip before (at + 1) bs

-- the records of a page, or why it has none
abbrev pub entries : List ℕ → Result (List Entry) Refusal
entries page =
    cond (nat_lt 65536 (length page)) (Err Long)
    (cond (length page == 0) (Err (Cut 0)) (entries_from 0 [] 0 page))

abbrev pub counted : ℕ → Result (List Entry) Refusal → Result ℕ Refusal
counted n (Ok es) = Ok (n + length es)
counted n (Err r) = Err r

-- ---- how the check goes on

-- the order after one more record
abbrev pub after : Order → Kind → ℕ → Order
after o Document d = After (suc d) None
after o Element d = After (suc d) (Some (suc d))
after o Text d = After d None
after o Comment d = After d None
after o Doctype d = After d None
after o ProcessingInstruction d = After d None
after o Attribute d = After (deepest_of o) (Some d)

-- the order after a record that was tested, if it may stand there
abbrev pub onward : Order → Result Entry Refusal → Result Order Refusal
onward o (Ok (entry d b)) = Ok (after o (kind b) d)
onward o (Err r) = Err r
