-- The values of the code, as what they say.
use Rattle.std.specs.Prelude.{ℕ, List, map, vec_items}
use Rattle.style.specs.declared.house.HouseRule.{HouseRule}
use Rattle.style.specs.declared.style.Property.{Property}
use Rattle.style.specs.Names.{name_bytes}
use Rattle.style_file.specs.declared.file.StyleFile.{StyleFile}
use Rattle.style_file.specs.declared.item.Setting.{Setting as Borrowed}
use Rattle.style_file.specs.declared.item.Setting.TheVariants.{Plain, Before, After}
use Rattle.style_file.specs.declared.item.Item.{Item as BorrowedItem}
use Rattle.style_file.specs.declared.item.Item.TheVariants.{Nothing, Rule, Mark, Cell, House}
use Rattle.style_file.specs.Words.{Setting}
use Rattle.style_file.specs.Items.{Item}
use Rattle.style_file.specs.Files.{File}

abbrev pub said_setting : Borrowed → Setting
said_setting (Plain p) = Setting.plain p
said_setting (Before w) = Setting.before w.now
said_setting (After w) = Setting.after w.now

abbrev pub said : BorrowedItem → Item
said Nothing = Item.nothing
said (Rule r) = Item.rule r.tag r.word.now r.origin r.important (said_setting r.setting)
said (Mark n) = Item.mark n
said (Cell w s) = Item.cell w (said_setting s)
said (House n s) = Item.house n.now (said_setting s)

abbrev pub house_said : HouseRule → List ℕ × Property
house_said r = (name_bytes r.name, r.property)

abbrev pub file_said : StyleFile → File
file_said f = record { rules = vec_items f.rules; marks = vec_items f.marks; house = map house_said (vec_items f.house); bytes = vec_items f.bytes }
