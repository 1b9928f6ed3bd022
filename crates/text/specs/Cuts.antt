-- A text cut where a run of bytes ends.
use Rattle.std.specs.Prelude.{◌≡◌, ℕ, Bool, List, take, drop}
use Rattle.std.specs.List.{position_or_len}

-- each answer that can be given is p's
abbrev pub AnswersAs : (ℕ → Bool → Type 0) → (ℕ → Bool) → Type 0
AnswersAs given p = (b : ℕ) (r : Bool) → given b r → r ≡ p b

-- the bytes before the first one that passes p, and the rest
abbrev pub IsCutBefore : (ℕ → Bool) → List ℕ → List ℕ → List ℕ → Type 0
IsCutBefore p text front back = (front ≡ take (position_or_len p text) text) × (back ≡ drop (position_or_len p text) text)
