-- What is on the wick of the wet bulb: the number of each state, as a message's byte and a cell hold it (document 02, W3).
use Rattle.std.specs.Prelude.{Bool, cond, ℕ, eqb, leb}
use Rattle.quantity.specs.declared.BulbState.{BulbState}
use Rattle.quantity.specs.declared.BulbState.TheVariants.{Water, Ice, Unknown}

-- 0 is water; "State 1 is ice"; "State 2 is unknown"
abbrev pub state_number : BulbState → ℕ
state_number Water = 0
state_number Ice = 1
state_number Unknown = 2

-- "4 now means a state above 2"
abbrev pub is_state : ℕ → Bool
is_state n = leb n 2

-- The state of a number. (A number above 2 is none, and what it stands in is refused or missing.)
abbrev pub state_of : ℕ → BulbState
state_of n = cond (eqb n 0) Water (cond (eqb n 1) Ice Unknown)
