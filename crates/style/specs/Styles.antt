-- A style, and how declarations enter it.
use Rattle.style.specs.declared.cell.Declaration.{Declaration}
use Rattle.style.specs.declared.values.Weight.{Weight}
use Rattle.style.specs.declared.style.ComputedStyle.{ComputedStyle}
use Rattle.style.specs.declared.style.Property.{Property}
use Rattle.style.specs.declared.style.Property.TheVariants.{Colour, BgColour, Display, WhiteSpace, Before, After}
use Rattle.style.specs.Cascade.{empty, entered}

-- nothing is declared
abbrev pub default_style : ComputedStyle
default_style = record { colour = empty; bg_colour = empty; display = empty; white_space = empty; content_before = empty; content_after = empty }

-- one declaration enters the cell of its property
abbrev pub with_property : ComputedStyle → Weight → Property → ComputedStyle
with_property s w (Colour v) = record s { colour = entered s.colour (record { weight = w; value = v }) }
with_property s w (BgColour v) = record s { bg_colour = entered s.bg_colour (record { weight = w; value = v }) }
with_property s w (Display v) = record s { display = entered s.display (record { weight = w; value = v }) }
with_property s w (WhiteSpace v) = record s { white_space = entered s.white_space (record { weight = w; value = v }) }
with_property s w (Before v) = record s { content_before = entered s.content_before (record { weight = w; value = v }) }
with_property s w (After v) = record s { content_after = entered s.content_after (record { weight = w; value = v }) }

abbrev pub with_declared : ComputedStyle → Declaration Property → ComputedStyle
with_declared s d = with_property s d.weight d.value
