use Rattle.std.proofs.Common.{length, [], Ok, Err, sym, refl, ap, ◌∙◌, subst, add-zero, arith, rules}
use Rattle.std.proofs.lemmas.Result.{err_from_is_err_and}
use Rattle.std.proofs.lemmas.Bool.{le-ltb}
use Rattle.parts.specs.declared.Refusal.TheVariants.{Cut}
use Rattle.dom.specs.Reading.{counted}
use Rattle.dom.proofs.Records.{answered}
use Rattle.dom.proofs.Fronts.{checked, Numbered, started, turn, turned_away}
use Rattle.page.specs.Said.{front_said, fronts_said}
use Rattle.page.proofs.check.check.Goals as goal

pub returns-then-is_empty : goal.returns-then-is_empty
returns-then-is_empty c =
    let page = c.args.page.now in
    answered page (λ i. omega (arith, c.type_inv.page i)) (Err (Cut 0)) (rw (le-ltb 65536 (length page) c.if-page-gt-MAX_BYTES.false, ← c.if-is_empty.ensures))

pub loop-front-init : goal.loop-front-init
loop-front-init c =
    let s = started c.args.page.now (fronts_said c.into_iter-front-iterator.result) c.if-page-gt-MAX_BYTES.false (sym c.if-is_empty.ensures) (search rules) in
    ([], refl, s.0, s.1)

pub returns-in_err-order : goal.returns-in_err-order
returns-in_err-order c =
    let i = c.loop-front.invariant in
    let f = front_said c.in-Some.front in
    let fs = fronts_said c.next.new.self in
    let away = turned_away f fs c.loop-front.count i.0 c.loop-front.order c.in_err-order.field-0.0 i.1 c.in_err-order.ensures in
    let e = err_from_is_err_and c.from_residual.result c.from_residual.ensures.1 in
    answered c.args.page.now (λ j. omega (arith, c.type_inv.page j)) c.from_residual.result
    (e.1 ∙ ap Err e.2 ∙ sym away ∙ ap (λ xs. counted c.loop-front.count (checked i.0 xs)) (sym c.in-Some.ensures.steps) ∙ i.3)

pub overflow_add-count : goal.overflow_add-count
overflow_add-count c =
    let i = c.loop-front.invariant in
    let n = subst (Numbered c.loop-front.count) c.in-Some.ensures.steps i.2 in
    let t = turn (front_said c.in-Some.front) (fronts_said c.next.new.self) c.loop-front.count i.0 c.loop-front.order c.in_ok-order.order i.1 c.in_ok-order.ensures in
    omega (arith, n.0, t.few)

pub loop-front-preserved : goal.loop-front-preserved
loop-front-preserved c =
    let i = c.loop-front.invariant in
    let n = subst (Numbered c.loop-front.count) c.in-Some.ensures.steps i.2 in
    let t = turn (front_said c.in-Some.front) (fronts_said c.next.new.self) c.loop-front.count i.0 c.loop-front.order c.in_ok-order.order i.1 c.in_ok-order.ensures in
    (t.next, t.ordered, n.1, t.same ∙ ap (λ xs. counted c.loop-front.count (checked i.0 xs)) (sym c.in-Some.ensures.steps) ∙ i.3)

pub returns : goal.returns
returns c =
    let i = c.loop-front.invariant in
    answered c.args.page.now (λ j. omega (arith, c.type_inv.page j)) (Ok c.loop-front.count)
    (sym (ap (λ xs. counted c.loop-front.count (checked i.0 xs)) c.in-None.ensures.steps.0 ∙ ap Ok (add-zero c.loop-front.count)) ∙ i.3)
