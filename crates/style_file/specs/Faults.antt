-- What is said where a style file is not read.
use Rattle.std.specs.Prelude.{ℕ, List, ◌++◌, codes, decimal}
use Rattle.style_file.specs.declared.file.Fault.{Fault}
use Rattle.style_file.specs.declared.file.Fault.TheVariants.{Line, Memory}

abbrev pub fault_text : Fault → List ℕ
fault_text (Line n) = codes "line " ++ (decimal n ++ codes " is not understood")
fault_text Memory = codes "out of memory"
