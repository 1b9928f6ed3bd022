-- Short names.
use Rattle.std.specs.Prelude.{ℕ, List, take}
use Rattle.style.specs.declared.name.Name.{Name}

abbrev pub name_bytes : Name → List ℕ
name_bytes n = take n.len n.bytes
