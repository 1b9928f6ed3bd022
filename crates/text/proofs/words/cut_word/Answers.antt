use Rattle.std.proofs.Common.{rules}
use borrow.Author.Tests.{tests}
use Rattle.text.specs.Infra.{ascii_white_space}
use Rattle.text.proofs.Splitting.{cut_is}
use Rattle.text.proofs.words.cut_word.Goals as goal

pub returns : goal.returns
returns c =
    let cut = cut_is c.args.text.now _ _ (c.cut_run.ensures ascii_white_space (λ b r k. search (rules, tests))) in
    record { word = cut.0; rest = cut.1 }
