use Rattle.std.proofs.Common.{◌≡◌, ◌+◌, ◌-◌, ◌*◌, ◌^◌, ◌≤◌, get_or, sym, ◌∙◌, arith, ltb-false, ltb-true}
use Rattle.text.proofs.Reading.{magnitude_none, magnitude_other, reads_more, reads_over, reads_stop, reads_all}
use Rattle.text.proofs.integer.magnitude.Goals as goal

pub returns-in_default : goal.returns-in_default
returns-in_default c = magnitude_none c.args.text.now (omega (arith, ltb-true))

pub returns-then-not-is_ascii_digit : goal.returns-then-not-is_ascii_digit
returns-then-not-is_ascii_digit c =
    magnitude_other c.args.text.now (omega (arith, ltb-false)) (sym c.is_ascii_digit.ensures.value ∙ c.if-not-is_ascii_digit.true)

pub returns-then-not-is_ascii_digit-2 : goal.returns-then-not-is_ascii_digit-2
returns-then-not-is_ascii_digit-2 c =
    reads_stop c.args.text.now c.loop-b.value c.loop-b.b-index (omega (arith, ltb-false))
    (sym c.is_ascii_digit.ensures.value ∙ c.if-not-is_ascii_digit.false) c.loop-b.invariant.0 c.loop-b-test.true
    (sym c.is_ascii_digit-in-loop-b.ensures.value ∙ c.if-not-is_ascii_digit-2.true) c.loop-b.invariant.1

pub returns-in_err-checked_mul : goal.returns-in_err-checked_mul
returns-in_err-checked_mul c =
    let s = c.args.text.now in
    let big : 2 ^ 64 ≤ c.loop-b.value * 10 + (get_or s c.loop-b.b-index 0 - 48) = omega (arith, c.in_err-checked_mul.ensures) in
    c.from_residual.ensures
    ∙ reads_over s c.loop-b.value c.loop-b.b-index (omega (arith, ltb-false))
    (sym c.is_ascii_digit.ensures.value ∙ c.if-not-is_ascii_digit.false) c.loop-b-test.true
    (sym c.is_ascii_digit-in-loop-b.ensures.value ∙ c.if-not-is_ascii_digit-2.false) big c.loop-b.invariant.1

pub returns-in_err-value : goal.returns-in_err-value
returns-in_err-value c =
    let s = c.args.text.now in
    let big : 2 ^ 64 ≤ c.loop-b.value * 10 + (get_or s c.loop-b.b-index 0 - 48) = omega (arith, c.in_err-value.ensures, c.in_ok-checked_mul.ensures, c.from.ensures) in
    c.from_residual-in_err-value.ensures
    ∙ reads_over s c.loop-b.value c.loop-b.b-index (omega (arith, ltb-false))
    (sym c.is_ascii_digit.ensures.value ∙ c.if-not-is_ascii_digit.false) c.loop-b-test.true
    (sym c.is_ascii_digit-in-loop-b.ensures.value ∙ c.if-not-is_ascii_digit-2.false) big c.loop-b.invariant.1

pub loop-b-preserved : goal.loop-b-preserved
loop-b-preserved c =
    let s = c.args.text.now in
    let e : c.in_ok-value.value ≡ c.loop-b.value * 10 + (get_or s c.loop-b.b-index 0 - 48) = omega (arith, c.in_ok-value.ensures, c.in_ok-checked_mul.ensures, c.from.ensures) in (
      omega (arith, c.in_ok-value.ensures),
      reads_more s c.loop-b.value c.loop-b.b-index c.in_ok-value.value c.loop-b-test.true
          (sym c.is_ascii_digit-in-loop-b.ensures.value ∙ c.if-not-is_ascii_digit-2.false) e c.loop-b.invariant.1,
    )

pub returns : goal.returns
returns c =
    reads_all c.args.text.now c.loop-b.value c.loop-b.b-index (omega (arith, ltb-false))
    (sym c.is_ascii_digit.ensures.value ∙ c.if-not-is_ascii_digit.false) c.loop-b.invariant.0 c.loop-b-test.false c.loop-b.invariant.1
