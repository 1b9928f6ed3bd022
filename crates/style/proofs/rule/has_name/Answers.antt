use Rattle.std.proofs.Common.{false, Ok, Err, refl}
use Rattle.dom.specs.Shown.{shown}
use Rattle.style.proofs.Elements.{name_told, another}
use Rattle.style.proofs.rule.has_name.Goals as goal

pub returns-in_default : goal.returns-in_default
returns-in_default c = name_told c.args.element.page.now c.args.element.spot c.args.word.now (Err c.in_default.field-0) c.in_default.ensures.node false refl

pub returns-in-Element : goal.returns-in-Element
returns-in-Element c =
    name_told c.args.element.page.now c.args.element.spot c.args.word.now (Ok (record { shown = shown c.in-Ok.found.record; depth = c.in-Ok.found.depth; next = c.in-Ok.found.next })) c.in-Ok.ensures.node c.eq.result cc

pub returns-in_default-record : goal.returns-in_default-record
returns-in_default-record c =
    name_told c.args.element.page.now c.args.element.spot c.args.word.now (Ok (record { shown = shown c.in-Ok.found.record; depth = c.in-Ok.found.depth; next = c.in-Ok.found.next })) c.in-Ok.ensures.node false (another c.args.word.now c.in-Ok.found.record c.in_default-record.not-Element)
