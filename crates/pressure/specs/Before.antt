-- Sea level pressure as document 01 has it, before document 02 made the height correction exact.
use Rattle.std.specs.Prelude.{ℤ, ◌+ℤ◌}
use Rattle.number.specs.Round.{rounded}
use Rattle.quantity.specs.declared.BarometerUnit.{BarometerUnit}
use Rattle.pressure.specs.Pressure.{Barometer, scale, temperature, height, to_hectopascals}

-- "Height correction: (H + difference) times 0.133 hPa or 0.1 mm Hg, rounded to 0.1"
abbrev pub height_before : BarometerUnit → ℤ → ℤ → ℤ
height_before unit h difference = rounded (height unit h difference) 1000

-- "Sea level pressure: reading plus the three, times 1.3332 if in mm Hg, rounded to 0.1 hPa."
unfoldable pub sea_level_before : Barometer → ℤ → ℤ → ℤ
sea_level_before b reading t =
    to_hectopascals b.unit
    (reading +ℤ scale b reading +ℤ temperature b.coefficient t +ℤ height_before b.unit b.height b.difference)
