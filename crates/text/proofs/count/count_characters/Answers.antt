use Rattle.std.proofs.Common.{◌≡◌, ◌<◌, length, get_or, IsUtf8, sym, ap, ◌∙◌, subst, arith}
use Rattle.std.proofs.lemmas.List.{take_all}
use Rattle.std.proofs.lemmas.List.Sums.{count_by_more_yes, count_by_more_no}
use Rattle.text.specs.CodePoints.{first_octet, first_octets}
use Rattle.text.proofs.Octets.{first_octets_are}
use Rattle.text.proofs.count.count_characters.Goals as goal
use Rattle.text.proofs.count.count_characters.Goals.{then-is_first_octet, else-is_first_octet}

pub loop-b-preserved : goal.loop-b-preserved
loop-b-preserved c =
    let text = c.args.text.now in
    let i = c.loop-b.b-index in
    let value = c.as_bytes-b-items.ensures.value in
    let within : i < length text = omega (arith, ap length value) in
    let is : first_octet (get_or text i 0) ≡ c.is_first_octet.result = sym (c.is_first_octet.ensures ∙ ap (λ s. first_octet (get_or s i 0)) value) in
    elim c.if-is_first_octet.branch [
      | then-is_first_octet w ↦ let more = count_by_more_yes first_octet text i 0 within (is ∙ w.if-is_first_octet.true) in (omega (arith, w.count-is), omega (arith, w.count-is))
      | else-is_first_octet w ↦ let more = count_by_more_no first_octet text i 0 within (is ∙ w.if-is_first_octet.false) in (omega (arith, w.count-is), omega (arith, w.count-is))
    ]

pub returns : goal.returns
returns c =
    let text = c.args.text.now in
    let value = c.as_bytes-b-items.ensures.value in
    let count = c.loop-b.invariant.0 ∙ ap first_octets (take_all c.loop-b.b-index text (omega (arith, ap length value))) in
    record { octets = count; code_points = count ∙ first_octets_are text (subst IsUtf8 value c.as_bytes-b-items.ensures.utf8) }
