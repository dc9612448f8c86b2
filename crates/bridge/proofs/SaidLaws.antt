-- A sentence that is said stands there whole, with zeros behind it. Assumes nothing.
use mathlib.Core.Path.{◌≡◌}
use mathlib.Core.List.{List, ◌++◌}
use Prim.Native.Nat.{ℕ, ◌<◌}
use native.Mathlib.Omega.{arith}
use lib.ListN.{length, drop, replicate}
use Rattle.text.proofs.PutLaws.{put_front}
use Rattle.bridge.specs.Sentences.{SENTENCE, Says}

-- A SENTENCE THAT FITS, AS ALL DO (proofs/FitLaws of `spoken`), STANDS THERE WHOLE, WITH ZEROS BEHIND IT, AND ITS LENGTH IS TOLD.
pub said_whole : (sentence after : List ℕ) (r : ℕ) → length sentence < SENTENCE → Says sentence after r
    → (after ≡ sentence ++ drop (length sentence) (replicate SENTENCE 0)) × (r ≡ length sentence)
said_whole sentence after r fits said = put_front said (omega (arith, fits))
