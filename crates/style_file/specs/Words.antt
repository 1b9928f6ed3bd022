-- The words of a style file, and what each of them says.
use Rattle.std.specs.Prelude.{ℕ, ◌+◌, ◌-◌, ◌*◌, ◌^◌, Bool, true, false, cond, ◌&&◌, List, [], ◌∷◌, ℤ, pos, negsuc, Some, None, codes, Option, is_some, nat_le, nat_lt}
use Rattle.std.specs.Option.{option_map}
use Rattle.std.specs.Str.{bytes_eq}
use Rattle.text.specs.HtmlIntegers.{integer, in_i64}
use Rattle.text.specs.Superscripts.{all_digits}
use Rattle.style.specs.declared.values.Colour.{Colour}
use Rattle.style.specs.declared.values.WhiteSpace.{WhiteSpace}
use Rattle.style.specs.declared.values.WhiteSpace.TheVariants.{Normal, Pre, PreWrap}
use Rattle.style.specs.declared.rule.Tag.{Tag}
use Rattle.style.specs.declared.rule.Tag.TheVariants.{Name, Class, Id}
use Rattle.style.specs.declared.style.Property.{Property}
use Rattle.style.specs.Printing.{says, display_of}

-- where the first is there, what follows from it
abbrev pub then : {A B : Type 0} → Option A → (A → Option B) → Option B
then None f = None
then (Some x) f = f x

abbrev pub tag_of : List ℕ → Option Tag
tag_of w = says w (codes "name") Name (says w (codes "class") Class (says w (codes "id") Id None))

abbrev pub bit_of : List ℕ → Option Bool
bit_of w = says w (codes "0") false (says w (codes "1") true None)

abbrev pub white_space_of : List ℕ → Option WhiteSpace
white_space_of w = says w (codes "normal") Normal (says w (codes "pre") Pre (says w (codes "prewrap") PreWrap None))

-- ---- hexadecimal

abbrev pub nibble_of : ℕ → Option ℕ
nibble_of d =
    cond (nat_le 48 d && nat_le d 57) (Some (d - 48))
    (cond (nat_le 97 d && nat_le d 102) (Some (d - 97 + 10))
    (cond (nat_le 65 d && nat_le d 70) (Some (d - 65 + 10)) None))

-- a hexadecimal digit
abbrev pub is_nibble : ℕ → Bool
is_nibble d = is_some (nibble_of d)

abbrev pub byte_of : ℕ → ℕ → Option ℕ
byte_of high low = then (nibble_of high) (λ h. then (nibble_of low) (λ l. Some (h * 16 + l)))

-- six digits
abbrev pub colour_of : List ℕ → Option Colour
colour_of [] = None
colour_of (a ∷ []) = None
colour_of (a ∷ b ∷ []) = None
colour_of (a ∷ b ∷ c ∷ []) = None
colour_of (a ∷ b ∷ c ∷ d ∷ []) = None
colour_of (a ∷ b ∷ c ∷ d ∷ e ∷ []) = None
colour_of (a ∷ b ∷ c ∷ d ∷ e ∷ f ∷ []) = then (byte_of a b) (λ r. then (byte_of c d) (λ g. then (byte_of e f) (λ b. Some (record { r = r; g = g; b = b }))))
colour_of (a ∷ b ∷ c ∷ d ∷ e ∷ f ∷ g ∷ more) = None

-- a text: two digits a byte, or a dash for none
abbrev pub hex_bytes : List ℕ → Option (List ℕ)
hex_bytes [] = Some []
hex_bytes (a ∷ []) = None
hex_bytes (a ∷ b ∷ bs) = then (byte_of a b) (λ x. option_map (λ xs. x ∷ xs) (hex_bytes bs))

abbrev pub text_of : List ℕ → Option (List ℕ)
text_of w = cond (bytes_eq w (codes "-")) (Some []) (hex_bytes w)

-- ---- decimal: digits only, at least one
abbrev pub below_limit : ℕ → ℕ → Option ℕ
below_limit n m = cond (nat_lt m n) (Some m) None

abbrev pub natural : ℤ → Option ℕ
natural (pos n) = Some n
natural (negsuc n) = None

abbrev pub record_of : List ℕ → Option ℕ
record_of w = cond (all_digits w) (then (in_i64 (integer w)) natural) None

abbrev pub count_of : List ℕ → Option ℕ
count_of w = then (record_of w) (below_limit (2 ^ 16))

-- ---- a property and its value

-- a text is not yet read: it is the word that writes it
pub data Setting : Type 0 where
  plain : Property → Setting
  before after : List ℕ → Setting

abbrev pub property_of : (name value : List ℕ) → Option Property
property_of p v =
    cond (bytes_eq p (codes "colour")) (option_map (λ x. Property.Colour x) (colour_of v))
    (cond (bytes_eq p (codes "bg")) (option_map (λ x. Property.BgColour x) (colour_of v))
    (cond (bytes_eq p (codes "display")) (option_map (λ x. Property.Display x) (display_of v))
    (cond (bytes_eq p (codes "ws")) (option_map (λ x. Property.WhiteSpace x) (white_space_of v)) None)))

abbrev pub setting_of : (property value : List ℕ) → Option Setting
setting_of p v =
    says p (codes "before") (Setting.before v)
    (says p (codes "after") (Setting.after v)
    (option_map Setting.plain (property_of p v)))
