-- What people read of a refusal: the sentences of docs/REFUSALS.md.
use Rattle.std.specs.Prelude.{cond, List, ◌++◌, ℕ, eqb, leb}
use Rattle.text.specs.Letters.{letters}
use Rattle.text.specs.Text.{decimal}
use Rattle.spoken.specs.Figures.{minutes, celsius}

-- ---- refusals that return nothing but their number

-- of a message or an entry
abbrev pub heard_text : ℕ → List ℕ
heard_text n =
    cond (eqb n 1) (letters "the message is not 16 bytes")
    (cond (eqb n 2) (letters "the channel is above 5")
    (cond (eqb n 3) (letters "a byte of the message that must be zero is not")
    (cond (eqb n 4) (letters "the state of the wet bulb is above 2")
    (cond (eqb n 5) (letters "the minute is above 16777215")
    (cond (eqb n 6) (letters "a value is infinite or not a number")
    (cond (eqb n 7) (letters "a value is outside its limits")
    (letters "the minute is that of the channel's newest reading")))))))

-- of settings and entries, of a record that is not there, and of a block that is no store
abbrev pub other_text : ℕ → List ℕ
other_text n =
    cond (eqb n 9) (letters "a setting is outside its limits")
    (cond (eqb n 10) (letters "the barometer's certificate breaks its rules")
    (cond (eqb n 23) (letters "a dial is above 9999, or the seconds are not 1 to 600")
    (cond (eqb n 24) (letters "the rate is outside the anemometer's certificate, or there is none")
    (cond (eqb n 25) (letters "the anemometer's certificate breaks its rules")
    (cond (eqb n 254) (letters "there is no such record")
    (cond (eqb n 255) (letters "the store was never opened")
    (letters "no refusal has the number " ++ decimal n)))))))

-- of a question
abbrev pub asked_text : ℕ → List ℕ
asked_text n =
    cond (eqb n 13) (letters "the wet bulb is above the dry bulb, with water on it")
    (cond (eqb n 14) (letters "there are no three hours before the minute")
    (cond (eqb n 15) (letters "the vapour pressure is below 0.19 hPa")
    (cond (eqb n 20) (letters "the wet bulb is above 0.0" ++ (celsius ++ letters ", and not with water on it"))
    (cond (eqb n 21) (letters "the wet bulb's state is unknown, and the dry bulb not within -9.9 to 0.0" ++ celsius)
    (cond (eqb n 22) (letters "the vapour pressure is above saturation over water at the dry bulb")
    (other_text n))))))

-- ---- those that return more

abbrev pub channel_text : ℕ → List ℕ
channel_text c =
    cond (eqb c 0) (letters "the barometer")
    (cond (eqb c 1) (letters "the wheelhouse thermometer")
    (cond (eqb c 2) (letters "the apparent wind")
    (cond (eqb c 3) (letters "the ship's motion")
    (cond (eqb c 4) (letters "the dry bulb")
    (cond (eqb c 5) (letters "the wet bulb")
    (letters "channel " ++ decimal c))))))

-- 11 with its channel and minute, 12 with its minute, 16 with an index, 17 with bytes, 18 with a place, 19 with minutes
abbrev pub more_text : ℕ → ℕ → ℕ → List ℕ
more_text n first second =
    cond (eqb n 11) (channel_text first ++ (letters " has no reading at minute " ++ decimal second))
    (cond (eqb n 12) (letters "the barometer at minute " ++ (decimal first ++ letters " is outside its certificate"))
    (cond (eqb n 16) (letters "record " ++ (decimal first ++ letters ", counted from 0, breaks the rules of the file, or is one too many"))
    (cond (eqb n 17) (letters "the buffer is too short: " ++ (decimal first ++ letters " bytes are needed"))
    (cond (eqb n 18) (letters "the file is broken at byte " ++ decimal first)
    (cond (eqb n 19) (letters "the minute is " ++ (minutes first ++ letters " earlier than the channel's newest reading"))
    (asked_text n))))))

-- Any refusal, by its number and what it also returns, in this order.
abbrev pub refusal_text : ℕ → ℕ → ℕ → List ℕ
refusal_text n first second = cond (leb n 8) (cond (eqb n 0) (letters "nothing is refused") (heard_text n)) (more_text n first second)
