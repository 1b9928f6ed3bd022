-- What a step of reading a style file answers.
use Rattle.std.specs.Prelude.{◌≡◌, ℕ, Some, None, Option, Ok, Err, Result}
use Rattle.style_file.specs.declared.file.Fault.{Fault}
use Rattle.style_file.specs.declared.file.Fault.TheVariants.{Line, Memory}
use Rattle.style_file.specs.declared.refusal.Refusal.{Refusal}
use Rattle.style_file.specs.declared.refusal.Refusal.TheVariants.{Misplaced, Memory as NoMemory}

-- what is expected, or a refusal where nothing is, unless memory ran out
abbrev pub Gives : {A B : Type 0} → (A → B) → Result A Refusal → Option B → Type 0
Gives view (Ok x) expected = Some (view x) ≡ expected
Gives view (Err e) expected = e ≡ Misplaced → None ≡ expected

-- a line that is refused, with its number
abbrev pub fault_at : Refusal → ℕ → Fault
fault_at Misplaced n = Line n
fault_at NoMemory n = Memory
