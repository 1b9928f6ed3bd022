-- The style source that a style file is.
use Rattle.std.specs.Prelude.{ℕ, ◌+◌, cond, List, [], ◌∷◌, length, Option, ◌==◌, slice_get}
use Rattle.style.specs.Source.{Meaning}
use Rattle.style.specs.Matching.{rules_mean}
use Rattle.style.specs.Marking.{marks_mean}
use Rattle.style_file.specs.declared.base.Base.{Base}
use Rattle.style_file.specs.declared.base.Base.TheVariants.{Marks, Rules}
use Rattle.style_file.specs.Files.{File}

abbrev pub base_mean : Base → Meaning
base_mean (Marks m) = marks_mean m.marks.now
base_mean (Rules r) = rules_mean r.bytes.now r.rules.now

-- marks, if there are any, or else rules
abbrev pub file_mean : File → Meaning
file_mean f = cond (length f.marks == 0) (rules_mean f.bytes f.rules) (marks_mean f.marks)

-- eight from that one on, each if it is there
abbrev pub slots_from : {A : Type 0} → List A → ℕ → List (Option A)
slots_from xs i =
    slice_get xs i ∷ slice_get xs (i + 1) ∷ slice_get xs (i + 2) ∷ slice_get xs (i + 3)
    ∷ slice_get xs (i + 4) ∷ slice_get xs (i + 5) ∷ slice_get xs (i + 6) ∷ slice_get xs (i + 7) ∷ []
