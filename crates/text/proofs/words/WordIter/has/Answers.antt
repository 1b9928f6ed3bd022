use Rattle.std.proofs.Common.{refl, rules}
use borrow.Author.Tests.{tests}
use Rattle.std.specs.Str.{bytes_eq}
use Rattle.std.proofs.lemmas.Iterator.Consumers.{YieldsList-from_first}
use Rattle.std.proofs.lemmas.Iterator.Search.{any_from_yields_List}
use Rattle.text.specs.Infra.{words_left}
use Rattle.text.proofs.words.WordIter.has.Goals as goal

pub returns : goal.returns
returns c =
    any_from_yields_List (λ v. bytes_eq v c.args.word.now) c.any.new.self _ _ c.any.ensures.ran
    (YieldsList-from_first (λ x. x.now) words_left (words_left c.args.self) refl) (λ x b q k. search (rules, tests))
