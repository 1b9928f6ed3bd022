use Rattle.std.proofs.Common.{◌≡◌, Err, ◌+◌, length, Some, ◌∙◌, sym, rules, tests}
use Rattle.std.proofs.lemmas.List.{length_push}
use Rattle.std.specs.Result.{IsErrAnd}
use Rattle.style_file.specs.Refusals.{fault_at}
use Rattle.style_file.specs.Said.{file_said}
use Rattle.style_file.specs.Reading.{lines, line_added}
use Rattle.style_file.proofs.Numbered.{NextLine, next_line, numbered_lines, line_read, line_refused, all_read}
use Rattle.style_file.proofs.file.StyleFile.add_lines.Goals as goal
use Rattle.style_file.proofs.file.StyleFile.add_lines.Goals.{After-next}

line_next : (c : After-next) → NextLine (lines c.args.text.now) (length c.loop-i.yielded) c.next.result
line_next c = next_line (lines c.args.text.now) (numbered_lines c.args.text.now c.split.ensures.rest c.split.ensures.done c.split.ensures.closure c.enumerate-i-items.ensures.source c.enumerate-i-items.ensures.count c.into_iter-i-iterator.ensures.into_iter_gives (λ x b q k. search (rules, tests))) c.loop-i.yielded _ _ _ c.loop-i.yielded_by c.next.ensures.steps

pub loop-i-preserved : goal.loop-i-preserved
loop-i-preserved c =
    let t = (line_next (goal.at.loop-i-preserved c).After-next).0 _ _ c.in-Some.is in
    let f = file_said c.loop-i.self in
    let told : Some (file_said c.add_line.new.self) ≡ line_added f c.in-Some.line.now = search rules in
    rw (length_push c.loop-i.yielded (c.in-Some.i, c.in-Some.line)) (line_read (lines c.args.text.now) (length c.loop-i.yielded) c.in-Some.i c.in-Some.line.now t f _ told ∙ c.loop-i.invariant)

pub returns-in_err-map_err : goal.returns-in_err-map_err
returns-in_err-map_err c =
    let t = (line_next (goal.at.returns-in_err-map_err c).After-next).0 _ _ c.in-Some.is in
    let told : IsErrAnd c.add_line.result (λ w. c.from_residual.result ≡ Err (fault_at w (c.in-Some.i + 1))) = search rules in
    line_refused (lines c.args.text.now) (length c.loop-i.yielded) c.in-Some.i c.in-Some.line.now t (file_said c.loop-i.self) (λ _. file_said c.add_line.new.self) _ _ _ c.add_line.result told c.add_line.ensures c.loop-i.invariant

pub returns : goal.returns
returns c = sym c.loop-i.invariant ∙ all_read (lines c.args.text.now) _ _ ((line_next (goal.at.returns c).After-next).1 c.in-None.is)
