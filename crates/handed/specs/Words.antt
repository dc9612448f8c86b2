-- Records lent as words of 32 bits, seven a record: kind, minute, and five figures with their sign (two's complement).
use Rattle.std.specs.Prelude.{◌≡◌, cond, List, [], ◌∷◌, ℕ, zero, suc, ◌*◌, ◌/◌, ltb, length, get_or, drop}
use Rattle.octets.specs.Bytes.{signed32, word_of}
use Rattle.watchfile.specs.Format.{blank, figures, body_figures}
use Rattle.watchfile.specs.declared.Body.{Body}
use Rattle.watchfile.specs.declared.Figures.{Figures}
use Rattle.watchfile.specs.declared.Record.{Record}
use Rattle.handed.specs.Handed.{record_of}

-- The figures at the start of words.
abbrev pub figures_in : List ℕ → Figures
figures_in w = figures (get_or w 0 0) (get_or w 1 0) (signed32 (get_or w 2 0)) (signed32 (get_or w 3 0)) (signed32 (get_or w 4 0)) (signed32 (get_or w 5 0)) (signed32 (get_or w 6 0))

-- How many records words hold, and each: a blank one where there are not so many.
abbrev pub held : List ℕ → ℕ
held w = length w / 7

abbrev pub record_at : List ℕ → ℕ → Record
record_at w i = cond (ltb i (held w)) (record_of (figures_in (drop (7 * i) w))) blank

-- All of them.
unfoldable pub records_from : List ℕ → ℕ → ℕ → List Record
records_from w i zero = []
records_from w i (suc n) = record_at w i ∷ records_from w (suc i) n

abbrev pub records_in : List ℕ → List Record
records_in w = records_from w 0 (held w)

-- The words of a record.
abbrev pub words_of : Figures → List ℕ
words_of f =
    f.kind ∷ f.minute ∷ word_of f.first.v ∷ word_of f.second.v ∷ word_of f.third.v ∷ word_of f.fourth.v ∷ word_of f.fifth.v ∷ []

-- w are the words of a record, and it comes back from them.
pub record AreWords (b : Body) (minute : ℕ) (w : List ℕ) : Type 0 where
  pub exact : w ≡ words_of (body_figures minute b)
  pub back : record_at w 0 ≡ record { minute = minute; body = b }
