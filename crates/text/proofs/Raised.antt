-- Superscripts, digit by digit. Assumes nothing.
use Rattle.std.proofs.Common.{◌≡◌, ℕ, true, List, [], ◌∷◌, ◌++◌, sym, refl}
use Rattle.std.specs.List.{flat_map}
use Rattle.std.proofs.lemmas.Bool.{and_parts, cond-true}
use Rattle.text.specs.HtmlIntegers.{digit}
use Rattle.text.specs.Rfc3629.{encoded}
use Rattle.text.specs.Superscripts.{all_digits, superscript, superscript_text, superscript_bytes}

-- digits only: their superscripts one after another
pub bytes_are : (ds : List ℕ) → all_digits ds ≡ true → superscript_bytes ds ≡ flat_map superscript_text ds
bytes_are [] h = refl
bytes_are (d ∷ ds) h =
    let p = and_parts (digit d) (all_digits ds) h in
    (λ i. sym (cond-true (digit d) (encoded (superscript d)) [] p.0) i ++ bytes_are ds p.1 i)
