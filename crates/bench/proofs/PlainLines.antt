-- A record that is no element has the same line with and without styles. Assumes nothing.
use Rattle.std.proofs.Common.{◌≡◌, ℕ, List, refl}
use Rattle.parts.specs.declared.Namespace.{Namespace}
use Rattle.parts.specs.declared.Part.{Part}
use Rattle.parts.specs.declared.Record.{Record}
use Rattle.parts.specs.declared.Record.TheVariants.{Document, Element, Text, Comment, Doctype, ProcessingInstruction, Attribute}
use Rattle.parts.specs.declared.Spot.{Spot}
use Rattle.dom.specs.Shown.{shown}
use Rattle.style.specs.Source.{Meaning}
use Rattle.bench.specs.Lines.{line}
use Rattle.bench.specs.Styled.{Printed}

pub line_printed : (page : List ℕ) (source : Meaning) (sheet : List ℕ) (s : Spot) (d : ℕ) (r : Record) → ((n : Namespace) (p : Part) → r ≡ Element n p → ⊥) → Printed page source sheet s d (shown r) (line s.number d (shown r))
line_printed page source sheet s d Document h = refl
line_printed page source sheet s d (Element n p) h = absurd (h n p refl)
line_printed page source sheet s d (Text t) h = refl
line_printed page source sheet s d Comment h = refl
line_printed page source sheet s d Doctype h = refl
line_printed page source sheet s d ProcessingInstruction h = refl
line_printed page source sheet s d (Attribute n v) h = refl
