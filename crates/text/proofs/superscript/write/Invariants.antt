use Rattle.std.proofs.Common.{◌≡◌, length, take, drop}
use Rattle.std.specs.List.{flat_map}
use Rattle.std.proofs.lemmas.Iterator.{YieldsList}
use Rattle.text.specs.Superscripts.{superscript_text}
use Rattle.text.proofs.superscript.write.Given as goal

-- the bytes so far, and then what was there
abbrev pub invariant-loop-to : goal.invariant-loop-to
invariant-loop-to l =
    (goal.iterator-loop-to).can_next l.bytes
    × YieldsList (goal.iterator-loop-to).next_gives (λ b. b) l.initial.bytes (flat_map superscript_text l.text)
    × (l.to-index ≡ length l.yielded)
    × (take l.to-index l.out ≡ take l.to-index (flat_map superscript_text l.text))
    × (drop l.to-index l.out ≡ drop l.to-index l.initial.out)
