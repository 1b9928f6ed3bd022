-- What the program prints of a page with a style source: beside each element, the source's answer.
use Rattle.std.specs.Prelude.{◌≡◌, ℕ, ◌+◌, false, List, [], ◌∷◌, ◌++◌, Ok, Err, codes, decimal, Result}
use Rattle.parts.specs.declared.Refusal.{Refusal}
use Rattle.parts.specs.declared.Spot.{Spot}
use Rattle.dom.specs.Asking.{spot}
use Rattle.dom.specs.Format.{Entry}
use Rattle.dom.specs.Format.Entry.{entry}
use Rattle.dom.specs.Reading.{next_place}
use Rattle.dom.specs.Shown.{Shown, body_at}
use Rattle.dom.specs.Shown.Shown.{document, element, text, comment, doctype, instruction, attribute}
use Rattle.style.specs.declared.style.ComputedStyle.{ComputedStyle}
use Rattle.style.specs.Source.{Meaning, Told}
use Rattle.style.specs.Styles.{default_style}
use Rattle.bench.specs.Lines.{described, line, listed}
use Rattle.bench.specs.Cells.{cells_of, cells_text}

abbrev pub styled_line : (sheet : List ℕ) (number depth : ℕ) → Shown → ComputedStyle → List ℕ
styled_line sheet n d s style = decimal n ++ (codes " " ++ (decimal d ++ (codes " " ++ (described s ++ (codes " style=" ++ (cells_text false (cells_of sheet style) ++ codes "\n"))))))

module _ (page : List ℕ) (source : Meaning) (sheet : List ℕ) where
  -- the line of the record at that spot: an element's has the style that the source answers under the default style
  abbrev pub Printed : Spot → (depth : ℕ) → Shown → List ℕ → Type 0
  Printed s d document out = out ≡ line s.number d document
  Printed s d comment out = out ≡ line s.number d comment
  Printed s d doctype out = out ≡ line s.number d doctype
  Printed s d instruction out = out ≡ line s.number d instruction
  Printed s d (text t) out = out ≡ line s.number d (text t)
  Printed s d (attribute n v) out = out ≡ line s.number d (attribute n v)
  Printed s d (element space name) out =
      (style : ComputedStyle) × Told page s (source default_style) style × (out ≡ styled_line sheet s.number d (element space name) style)

  -- the lines of the records from that number and place on
  abbrev pub AllPrinted : (number at : ℕ) → List Entry → List ℕ → Type 0
  AllPrinted n at [] out = out ≡ []
  AllPrinted n at (entry d b ∷ es) out =
      (here : List ℕ) × (rest : List ℕ) × (out ≡ here ++ rest) × Printed (spot n at) d (body_at at b) here × AllPrinted (n + 1) (next_place page at) es rest

  -- and a last line, or the refusal alone
  abbrev pub StylesListed : Result (List Entry) Refusal → List ℕ → Type 0
  StylesListed (Ok es) out = (lines : List ℕ) × AllPrinted 0 0 es lines × (out ≡ lines ++ codes "end 0\n")
  StylesListed (Err r) out = out ≡ listed (Err r)
