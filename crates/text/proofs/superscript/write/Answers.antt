use Rattle.std.proofs.Common.{◌≡◌, ℕ, ◌+◌, ◌^◌, ◌<◌, List, None, ◌++◌, length, get_or, set, take, drop, ap, sym, ◌∙◌, refl, rules, arith}
use Rattle.std.specs.List.{flat_map}
use Rattle.std.proofs.lemmas.Grind.{common_steps}
use Rattle.std.proofs.lemmas.Iterator.{YieldsList-from_slice}
use Rattle.std.proofs.lemmas.Iterator.Adapters.{YieldsList-from_flat_map, YieldsList-from_bytes}
use Rattle.std.proofs.lemmas.Iterator.Consumers.{YieldsList-so_far, YieldsList-turn, YieldsList-end}
use Rattle.std.proofs.lemmas.List.{length_push, length-map, length-take, set-get_or, take_all, take-append-drop}
use Rattle.text.specs.Superscripts.{superscript_text}
use Rattle.text.proofs.Raised.{bytes_are}
use Rattle.text.proofs.superscript.write.Goals as goal

put_next : (all held out : List ℕ) (n b : ℕ) → take n out ≡ take n all → drop n out ≡ drop n held → n < length all → n < length out → b ≡ get_or all n b → (take (n + 1) (set out n b) ≡ take (n + 1) all) × (drop (n + 1) (set out n b) ≡ drop (n + 1) held)
put_next all held out n b e f l k g = (grind (arith, common_steps), grind (arith, common_steps))

put_all : (all bytes held out : List ℕ) (n : ℕ) → n ≡ length all → bytes ≡ all → take n out ≡ take n all → drop n out ≡ drop n held → out ≡ bytes ++ drop (length bytes) held
put_all all bytes held out n z is e f =
    let l : n ≡ length bytes = omega (arith, z, ap length is) in
    sym (take-append-drop n out) ∙ (λ i. (e ∙ take_all n all (omega arith) ∙ sym is) i ++ f i) ∙ ap (λ k. bytes ++ drop k held) l

pub loop-to-init : goal.loop-to-init
loop-to-init c = (
  (((λ d. ((tt, record { at = λ xs t q x u y fo st. tt }), record { at = λ xs t q x u y fo st. λ j b. (tt, tt, (let k : length j.rest.now < 2 ^ 64 = search rules in k)) })), tt, search rules), search rules),
  YieldsList-from_flat_map _ _ _ (λ x. x) superscript_text _ (λ x u q k. (search rules, λ j b. YieldsList-from_bytes (superscript_text x.now) (search rules))) (YieldsList-from_slice c.args.text.now (search rules)) (search rules) (search rules) (search rules) (search rules),
  refl,
  refl,
  refl,
)

pub loop-to-preserved : goal.loop-to-preserved
loop-to-preserved c =
    let i = c.loop-to.invariant in
    let t = YieldsList-turn i.1 c.loop-to.yielded _ c.loop-to.yielded_by _ _ c.in-Some.byte c.in-Some.is c.next.ensures.steps in
    let put = put_next _ _ c.loop-to.out _ c.in-Some.byte i.3 i.4 (omega (arith, i.2, t.0)) (search rules) (t.1 ∙ ap (λ k. get_or (flat_map superscript_text c.args.text.now) k c.in-Some.byte) (sym i.2)) in
    (c.in-Some.ensures.goes.keeps, i.1, omega (arith, i.2, length_push c.loop-to.yielded c.in-Some.byte), put.0, put.1)

pub returns-after-loop-to : goal.returns-after-loop-to
returns-after-loop-to c =
    let i = c.loop-to.invariant in
    let is = bytes_are c.args.text.now c.requires.digits in
    let front = YieldsList-so_far i.1 c.loop-to.yielded _ c.loop-to.yielded_by in
    put_all _ _ _ _ _ (omega (arith, i.2, ap length front, length-map c.loop-to.yielded (λ x. x), length-take (length c.loop-to.yielded) (flat_map superscript_text c.args.text.now), ap length is, c.requires.room, c.loop-to-test.false, c.loop-to.auto.to-index-end)) is i.3 i.4

pub returns-in_default : goal.returns-in_default
returns-in_default c =
    let i = c.loop-to.invariant in
    let none : c.next.result ≡ None = search rules in
    let t = YieldsList-end i.1 c.loop-to.yielded _ c.loop-to.yielded_by _ _ none c.next.ensures.steps in
    set-get_or c.loop-to.out c.loop-to.to-index 0 ∙ put_all _ _ _ _ _ (i.2 ∙ t.1) (bytes_are c.args.text.now c.requires.digits) i.3 i.4
