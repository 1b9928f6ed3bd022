-- What the program prints of a page: a line a record, and a last line.
use Rattle.std.specs.Prelude.{ℕ, ◌+◌, ◌/◌, ◌%◌, cond, List, [], ◌∷◌, ◌++◌, Ok, Err, codes, decimal, Result, nat_lt}
use Rattle.std.specs.List.{flat_map}
use Rattle.parts.specs.declared.Refusal.{Refusal}
use Rattle.dom.specs.Format.{Entry}
use Rattle.dom.specs.Format.Entry.{entry}
use Rattle.parts.specs.Names.{namespace_name}
use Rattle.parts.specs.Numbers.{number, place}
use Rattle.dom.specs.Shown.{Shown, body_at}
use Rattle.dom.specs.Shown.Shown.{document, element, text, comment, doctype, instruction, attribute}

-- ---- lower-case hexadecimal
abbrev pub hex_digit : ℕ → ℕ
hex_digit n = cond (nat_lt n 10) (48 + n) (87 + n)

abbrev pub hex_byte : ℕ → List ℕ
hex_byte b = hex_digit (b / 16) ∷ hex_digit (b % 16) ∷ []

abbrev pub hex : List ℕ → List ℕ
hex bs = flat_map hex_byte bs

-- a dash for no bytes
abbrev pub hex_or_dash : List ℕ → List ℕ
hex_or_dash [] = codes "-"
hex_or_dash (b ∷ bs) = hex (b ∷ bs)

-- ---- a record: its kind and its fields
abbrev pub described : Shown → List ℕ
described document = codes "document"
described (element s n) = codes "element " ++ (namespace_name s ++ (codes " " ++ hex n.bytes))
described (text t) = codes "text " ++ hex_or_dash t.bytes
described comment = codes "comment"
described doctype = codes "doctype"
described instruction = codes "processing_instruction"
described (attribute n v) = codes "attribute " ++ (hex n.bytes ++ (codes " " ++ hex_or_dash v.bytes))

-- ---- lines
abbrev pub line : (number depth : ℕ) → Shown → List ℕ
line n d s = decimal n ++ (codes " " ++ (decimal d ++ (codes " " ++ (described s ++ codes "\n"))))

-- a line tells no place, so any place serves
abbrev pub lines : (number : ℕ) → List Entry → List ℕ
lines n [] = []
lines n (entry d b ∷ es) = line n d (body_at 0 b) ++ lines (n + 1) es

-- the lines of the records, or the refusal alone
abbrev pub listed : Result (List Entry) Refusal → List ℕ
listed (Ok es) = lines 0 es ++ codes "end 0\n"
listed (Err r) = codes "end " ++ (decimal (number r) ++ (codes " " ++ (decimal (place r) ++ codes " lowering\n")))
