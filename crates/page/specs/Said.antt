-- The values of the code, as the definitions have them.
use Rattle.std.specs.Prelude.{Bool, true, false, List, Some, None, Option}
use Rattle.parts.specs.declared.Kind.{Kind}
use Rattle.parts.specs.declared.Kind.TheVariants.{Document, Element, Text, Comment, Doctype, ProcessingInstruction, Attribute}
use Rattle.page.specs.declared.front.Front.{Front as Borrowed}
use Rattle.page.specs.declared.front.Fronts.{Fronts}
use Rattle.page.specs.declared.node.Past.{Past as BorrowedPast}
use Rattle.dom.specs.Asking.{Past}
use Rattle.dom.specs.Fronts.{Front, fronts_from}

abbrev pub front_said : Borrowed → Front
front_said f = record { spot = f.spot; bytes = f.bytes.now }

-- from that one on
abbrev pub fronts_on : Borrowed → List Front
fronts_on f = fronts_from 0 f.spot.number f.spot.place f.bytes.now

-- those that are still to come
abbrev pub fronts_said : Fronts → List Front
fronts_said s = fronts_on s.next

abbrev pub past_said : BorrowedPast → Past
past_said p = record { next = p.next.spot; depth = p.depth }

-- the record is known to be an attribute
abbrev pub is_attribute : Option Kind → Bool
is_attribute None = false
is_attribute (Some Document) = false
is_attribute (Some Element) = false
is_attribute (Some Text) = false
is_attribute (Some Comment) = false
is_attribute (Some Doctype) = false
is_attribute (Some ProcessingInstruction) = false
is_attribute (Some Attribute) = true
