-- The laws of the block: what a channel's window that is replaced leaves of the rest. Assumes nothing.
use mathlib.Core.Path.{◌≡◌, sym, ap, ◌∙◌}
use mathlib.Core.List.{List, ◌++◌}
use Prim.Native.Nat.{ℕ, ◌+◌, ◌-◌, ◌≤◌, ◌<◌}
use native.Mathlib.Decide.{dec_lt}
use native.Mathlib.Omega.{arith}
use lib.ListN.{take, drop, length, length-append, length-take, length-drop, take-append-drop}
use lib.Seq.{length-take-le, take-append-le, drop-append-le, take_at, drop_at, drop-drop, drop-append-add}
use Rattle.window.specs.Layout.{WINDOW}
use Rattle.cell.specs.Cells.{CHANNELS}
use Rattle.block.specs.Layout.{SETTINGS, WORDS, base}
use Rattle.block.specs.Words.{window_of, replaced}

pub window_long : (s : List ℕ) (c : ℕ) → length s ≡ WORDS → c < CHANNELS → length (window_of c s) ≡ WINDOW
window_long s c e l = simp (length-take, length-drop) (omega arith)

-- the end less the start, as the code computes them
pub span : (c : ℕ) → base c + WINDOW - base c ≡ WINDOW
span c = omega arith

-- a part of the first of two lists, and of the second
front_only : (p q : List ℕ) (b n : ℕ) → b + n ≤ length p → take n (drop b (p ++ q)) ≡ take n (drop b p)
front_only p q b n h =
    ap (take n) (drop-append-le b p q (omega arith)) ∙ take-append-le n (drop b p) q (simp length-drop (omega arith))

past : (p q : List ℕ) (n k : ℕ) → length p ≡ n → drop (n + k) (p ++ q) ≡ drop k q
past p q n k e = rw (← e) (drop-append-add p q k)

module _ (s : List ℕ) (c : ℕ) (w : List ℕ) (e : length s ≡ WORDS) (lc : c < CHANNELS) (lw : length w ≡ WINDOW) where
  front : length (take (base c) s) ≡ base c
  front = length-take-le (base c) s (omega arith)

  pub replaced_long : length (replaced s c w) ≡ WORDS
  replaced_long = simp (length-append, length-drop) (omega (arith, front))

  -- the channel's own window is the new one
  pub here : window_of c (replaced s c w) ≡ w
  here =
      ap (take WINDOW) (drop_at (take (base c) s) (w ++ drop WINDOW (drop (base c) s)) (base c) front)
      ∙ take_at w (drop WINDOW (drop (base c) s)) WINDOW lw

  -- what lies before it stays
  pub lower : (b n : ℕ) → b + n ≤ base c → take n (drop b (replaced s c w)) ≡ take n (drop b s)
  lower b n h =
      front_only (take (base c) s) (w ++ drop WINDOW (drop (base c) s)) b n (omega (arith, front))
      ∙ sym (front_only (take (base c) s) (drop (base c) s) b n (omega (arith, front)))
      ∙ ap (λ (l : List ℕ). take n (drop b l)) (take-append-drop (base c) s)

  -- and what lies after it
  upper : (b n k : ℕ) → b ≡ base c + (WINDOW + k) → take n (drop b (replaced s c w)) ≡ take n (drop b s)
  upper b n k h =
      rw h
      (ap (take n)
      (past (take (base c) s) (w ++ drop WINDOW (drop (base c) s)) (base c) (WINDOW + k) front
      ∙ past w (drop WINDOW (drop (base c) s)) WINDOW k lw
      ∙ drop-drop k WINDOW (drop (base c) s)
      ∙ drop-drop (WINDOW + k) (base c) s))

  -- every other channel's window stays
  pub beside : (d : ℕ) → (d ≡ c → ⊥) → window_of d (replaced s c w) ≡ window_of d s
  beside d ne = go (dec_lt d c)
    where
      go : Dec (d < c) → window_of d (replaced s c w) ≡ window_of d s
      go (yes l) = lower (base d) WINDOW (omega arith)
      go (no l) = upper (base d) WINDOW (base d - (base c + WINDOW)) (over (λ q. ne q) (omega arith))
        where
          over : (d ≡ c → ⊥) → c ≤ d → base d ≡ base c + (WINDOW + (base d - (base c + WINDOW)))
          over ne g = omega arith

  -- and so do the settings
  pub settings_stay : take SETTINGS (replaced s c w) ≡ take SETTINGS s
  settings_stay = lower 0 SETTINGS (omega arith)
