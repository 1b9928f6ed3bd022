-- The record format: what the records of a page are, their bytes, and the rules that they keep.
use Rattle.std.specs.Prelude.{ℕ, suc, ◌+◌, ◌/◌, ◌%◌, Bool, true, false, not, ◌&&◌, List, [], ◌∷◌, ◌++◌, length, Some, None, Option, ◌==◌, nat_le}
use Rattle.text.specs.Rfc3629.{octets}
use Rattle.parts.specs.declared.Namespace.{Namespace}
use Rattle.parts.specs.declared.Kind.{Kind}
use Rattle.parts.specs.declared.Kind.TheVariants.{Document, Element, Text, Comment, Doctype, ProcessingInstruction, Attribute}
use Rattle.parts.specs.Codes.{kind_number, namespace_number}
use Rattle.dom.specs.declared.order.Order.{Order}
use Rattle.dom.specs.declared.order.Order.TheVariants.{Start, After}

-- ---- records

-- a node without children
pub data Leaf : Type 0 where
  text comment doctype instruction : Leaf

-- what a record says besides its depth; a payload that is not read is kept as it is
pub data Body : Type 0 where
  document : List ℕ → Body
  element : Namespace → List ℕ → Body
  leaf : Leaf → List ℕ → Body
  attribute : List ℕ → List ℕ → Body

pub data Entry : Type 0 where
  entry : (depth : ℕ) → Body → Entry

abbrev pub leaf_kind : Leaf → Kind
leaf_kind text = Text
leaf_kind comment = Comment
leaf_kind doctype = Doctype
leaf_kind instruction = ProcessingInstruction

abbrev pub kind : Body → Kind
kind (document p) = Document
kind (element s n) = Element
kind (leaf k p) = leaf_kind k
kind (attribute n v) = Attribute

-- ---- bytes

-- little-endian numbers
abbrev pub le2 : ℕ → List ℕ
le2 n = n % 256 ∷ n / 256 ∷ []

abbrev pub le4 : ℕ → List ℕ
le4 n = n % 256 ∷ n / 256 % 256 ∷ n / 65536 % 256 ∷ n / 16777216 ∷ []

abbrev pub payload : Body → List ℕ
payload (document p) = p
payload (element s n) = namespace_number s ∷ n
payload (leaf k p) = p
payload (attribute n v) = length n ∷ (n ++ v)

-- a length that counts what follows, the kind, the depth and the payload
abbrev pub encoded : Entry → List ℕ
encoded (entry d b) = le4 (4 + length (payload b)) ++ (le2 (kind_number (kind b)) ++ (le2 d ++ payload b))

abbrev pub encodings : List Entry → List ℕ
encodings [] = []
encodings (e ∷ es) = encoded e ++ encodings es

-- ---- rules. What stands before a record is listed with the latest first.

-- names have a byte, and are UTF-8 as texts and values are
abbrev pub sound : Body → Bool
sound (document p) = true
sound (element s n) = nat_le 1 (length n) && octets n
sound (leaf text p) = octets p
sound (leaf comment p) = true
sound (leaf doctype p) = true
sound (leaf instruction p) = true
sound (attribute n v) = (nat_le 1 (length n) && nat_le (length n) 255 && octets n) && octets v

-- how deep a node may lie: one below the node before it if that may have children, else beside it; an attribute is no node
abbrev pub deepest : List Entry → ℕ
deepest [] = 0
deepest (entry d (document p) ∷ before) = suc d
deepest (entry d (element s n) ∷ before) = suc d
deepest (entry d (leaf k p) ∷ before) = d
deepest (entry d (attribute n v) ∷ before) = deepest before

-- the depth of an attribute: it stands directly after its element, one deeper, or after another attribute of that element
abbrev pub attribute_depth : List Entry → Option ℕ
attribute_depth [] = None
attribute_depth (entry d (document p) ∷ before) = None
attribute_depth (entry d (element s n) ∷ before) = Some (suc d)
attribute_depth (entry d (leaf k p) ∷ before) = None
attribute_depth (entry d (attribute n v) ∷ before) = Some d

abbrev pub is : Option ℕ → ℕ → Bool
is None d = false
is (Some a) d = a == d

-- what the records before say of where the next may stand
abbrev pub order : List Entry → Order
order [] = Start
order (e ∷ before) = After (deepest (e ∷ before)) (attribute_depth (e ∷ before))

abbrev pub is_start : Order → Bool
is_start Start = true
is_start (After m a) = false

abbrev pub deepest_of : Order → ℕ
deepest_of Start = 0
deepest_of (After m a) = m

abbrev pub attributes_of : Order → Option ℕ
attributes_of Start = None
attributes_of (After m a) = a

-- the first record is the only Document
abbrev pub kind_fits : Order → Kind → Bool
kind_fits o Document = is_start o
kind_fits o Element = not (is_start o)
kind_fits o Text = not (is_start o)
kind_fits o Comment = not (is_start o)
kind_fits o Doctype = not (is_start o)
kind_fits o ProcessingInstruction = not (is_start o)
kind_fits o Attribute = not (is_start o)

abbrev pub node_fits : Order → ℕ → Bool
node_fits o d = nat_le 1 d && nat_le d (deepest_of o) && nat_le d 255

-- the Document alone lies at depth 0, and nothing deeper than 255
abbrev pub depth_fits : Order → Kind → ℕ → Bool
depth_fits o Document d = d == 0
depth_fits o Element d = node_fits o d
depth_fits o Text d = node_fits o d
depth_fits o Comment d = node_fits o d
depth_fits o Doctype d = node_fits o d
depth_fits o ProcessingInstruction d = node_fits o d
depth_fits o Attribute d = is (attributes_of o) d && nat_le d 255

-- the record may stand after those before it
abbrev pub fits : List Entry → Entry → Bool
fits before (entry d b) = kind_fits (order before) (kind b) && depth_fits (order before) (kind b) d && sound b

abbrev pub orderly : List Entry → List Entry → Bool
orderly before [] = true
orderly before (e ∷ es) = fits before e && orderly (e ∷ before) es

-- the records of a page
abbrev pub well_formed : List Entry → Bool
well_formed es = orderly [] es && nat_le 1 (length es) && nat_le (length es) 4096 && nat_le (length (encodings es)) 65536
