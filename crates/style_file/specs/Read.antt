-- What reading a style file answers.
use Rattle.std.specs.Prelude.{◌≡◌, ℕ, Ok, Err, Result}
use Rattle.style_file.specs.declared.file.StyleFile.{StyleFile}
use Rattle.style_file.specs.declared.file.Fault.{Fault}
use Rattle.style_file.specs.declared.file.Fault.TheVariants.{Line, Memory}
use Rattle.style_file.specs.Files.{File}
use Rattle.style_file.specs.Said.{file_said}

-- the file that the text writes, or its first line that is not understood, unless memory ran out
abbrev pub Reads : Result File ℕ → Result StyleFile Fault → Type 0
Reads x (Ok f) = x ≡ Ok (file_said f)
Reads x (Err (Line n)) = x ≡ Err n
Reads x (Err Memory) = Unit {0}

-- the same of a file to which a text's lines are added: what it then is
abbrev pub Adds : Result File ℕ → File → Result (Unit {0}) Fault → Type 0
Adds x f (Ok u) = x ≡ Ok f
Adds x f (Err (Line n)) = x ≡ Err n
Adds x f (Err Memory) = Unit {0}
