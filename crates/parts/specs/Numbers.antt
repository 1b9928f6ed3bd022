-- Each refusal's number and place.
use Rattle.std.specs.Prelude.{ℕ}
use Rattle.parts.specs.declared.Refusal.{Refusal}
use Rattle.parts.specs.declared.Refusal.TheVariants.{Long, Cut, Kind, Depth, Name, Text, Many}

pub record Numbered : Type 0 where
  pub number : ℕ
  pub place : ℕ

abbrev pub numbered : Refusal → Numbered
numbered Long = record { number = 1; place = 0 }
numbered (Cut at) = record { number = 2; place = at }
numbered (Kind at) = record { number = 3; place = at }
numbered (Depth at) = record { number = 4; place = at }
numbered (Name at) = record { number = 5; place = at }
numbered (Text at) = record { number = 6; place = at }
numbered (Many at) = record { number = 7; place = at }

abbrev pub number : Refusal → ℕ
number r = (numbered r).number

abbrev pub place : Refusal → ℕ
place r = (numbered r).place
