use Rattle.std.proofs.Common.{suc, ◌++◌, string_bytes, sym, ap, ◌∙◌, append_assoc, append-nil, subst}
use Rattle.dom.specs.Reading.{entries}
use Rattle.page.specs.Said.{front_said, fronts_said}
use Rattle.dom.specs.Shown.{shown}
use Rattle.bench.specs.Lines.{line, lines}
use Rattle.bench.proofs.Records.{Stand, first, none_left, the_entries, no_refusal, lined}
use Rattle.bench.proofs.listing.write_records.Goals as goal

pub unreachable-requires : goal.unreachable-requires
unreachable-requires c =
    let e = the_entries (entries c.args.page.now) c.requires in
    let i = c.loop-front.invariant.left e.0 e.1 in
    let stand = subst (λ fs. Stand fs i.0 i.1 i.2) c.in-Some.ensures.steps i.3 in
    no_refusal (front_said c.in-Some.front) (fronts_said c.next.new.self) i.0 i.1 _ i.2 stand c.in_default.field-0 c.in_default.ensures

pub loop-front-preserved : goal.loop-front-preserved
loop-front-preserved c =
    let text = string_bytes c.loop-front.out in
    record {
      left = λ es h.
          let i = c.loop-front.invariant.left es h in
          let stand = subst (λ fs. Stand fs i.0 i.1 i.2) c.in-Some.ensures.steps i.3 in
          let f = front_said c.in-Some.front in
          let fs = fronts_said c.next.new.self in
          let head = first f fs i.0 i.1 i.2 stand in
          let l = lined f fs i.0 i.1 _ i.2 stand c.in-Ok.found c.in-Ok.ensures in (
            suc i.0,
            _,
            head.later,
            head.others,
            ap (λ b. b ++ lines (suc i.0) head.later) (c.in_ok-write.ensures.bytes ∙ ap (λ s. text ++ line s.number c.in-Ok.found.depth (shown c.in-Ok.found.record)) c.spot-number.ensures) ∙ append_assoc text _ _ ∙ ap (λ b. text ++ b) (sym l) ∙ i.4,
          );
    }

pub returns : goal.returns
returns c es h =
    let i = c.loop-front.invariant.left es h in
    let text = string_bytes c.loop-front.out in
    let none = none_left i.0 i.1 i.2 (subst (λ fs. Stand fs i.0 i.1 i.2) c.in-None.ensures.steps.0 i.3) in
    sym (append-nil text) ∙ ap (λ rest. text ++ lines i.0 rest) (sym none) ∙ i.4
