-- The one lent block: the settings' words, then six windows side by side.
use Rattle.std.specs.Prelude.{ℕ, ◌+◌, ◌*◌}
use Rattle.window.specs.Layout.{WINDOW}
use Rattle.cell.specs.Cells.{CHANNELS}

-- The mark of a store, which no memory holds by chance: the letters ZHITOMRC, a byte each, the last of which is this layout's.
abbrev pub MARK : ℕ
MARK = 0x5A48_4954_4F4D_5243

-- What a block without the mark answers, none of document 01's numbers: the block is no store.
abbrev pub NO_STORE : ℕ
NO_STORE = 255

-- Mark and unit, height, difference, temperature coefficient, psychrometer coefficient, number of points; then the points.
abbrev pub POINTS : ℕ
POINTS = 6

-- The number of the anemometer's points; then those.
abbrev pub RATES : ℕ
RATES = POINTS + 16

abbrev pub SETTINGS : ℕ
SETTINGS = RATES + 1 + 20

abbrev pub WORDS : ℕ
WORDS = SETTINGS + CHANNELS * WINDOW

-- Where a channel's window starts.
abbrev pub base : ℕ → ℕ
base c = SETTINGS + c * WINDOW
