use Rattle.std.proofs.Common.{◌≡◌, ◌++◌, vec_items, subst, rules}
use Rattle.std.specs.Option.{option_map}
use Rattle.style.proofs.Spelling.{spelling}
use Rattle.style_file.specs.Refusals.{Gives}
use Rattle.style_file.specs.Words.{hex_bytes, text_of}
use Rattle.style_file.proofs.hex.append_text.Goals as goal

pub returns-in_default : goal.returns-in_default
returns-in_default c =
    let hex : hex_bytes c.args.word.now ≡ text_of c.args.word.now = search (rules, spelling) in
    subst (λ o. Gives (λ _. vec_items c.append_hex.new.bytes) c.append_hex.result (option_map (λ text. vec_items c.args.bytes.now ++ text) o)) hex c.append_hex.ensures
