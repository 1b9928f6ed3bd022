use Rattle.std.proofs.Common.{◌++◌, ◌+◌, ◌/◌, length, drop, vec_items, sym, ap, ◌∙◌, arith, rules}
use Rattle.std.specs.Option.{option_map}
use Rattle.style_file.proofs.Digits.{read_behind, by_pairs, one_over, not_hex, byte_read}
use Rattle.style_file.proofs.hex.append_hex.Goals as goal

pub returns-then-not-is_empty : goal.returns-then-not-is_empty
returns-then-not-is_empty c = λ _. let w = c.args.word.now in ap (option_map (λ text. vec_items c.args.bytes.now ++ text)) (one_over (length w / 2) w (grind (arith, c.as_chunks.ensures.back_len)))

pub returns-then-not-is_hex : goal.returns-then-not-is_hex
returns-then-not-is_hex c = λ _. let w = c.args.word.now in ap (option_map (λ text. vec_items c.args.bytes.now ++ text)) (not_hex w (sym c.is_hex.ensures ∙ c.if-not-is_hex.true))

pub loop-high-init : goal.loop-high-init
loop-high-init c =
    let w = c.args.word.now in
    let done = vec_items c.args.bytes.now in
    ap (λ bytes. read_behind bytes c.as_chunks.result.0.now) c.in_ok-reserve.ensures.items
    ∙ ap (read_behind done) c.as_chunks.ensures.front
    ∙ ap (option_map (λ text. done ++ text)) (by_pairs (length w / 2) w (grind (arith, c.as_chunks.ensures.back_len)))

pub loop-high-preserved : goal.loop-high-preserved
loop-high-preserved c =
    let ps = c.as_chunks.result.0.now in
    let i = c.loop-high.high-index in
    ap (λ done. read_behind done (drop (i + 1) ps)) c.in_ok-push.ensures.items
    ∙ byte_read ps i (vec_items c.loop-high.bytes) c.in_ok-ok_or.field-0 c.loop-high-test.true (search rules)
    ∙ c.loop-high.invariant
