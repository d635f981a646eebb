-- Bytes written at a place of a buffer, where they fit; else the buffer stays as it is. Assumes nothing.
use Rattle.std.specs.Prelude.{ℕ, ◌+◌, ◌≡◌, Bool, List, eqb, leb, length}
use Rattle.lists.specs.Cases.{pick}
use Rattle.lists.specs.Pieces.{over}

-- k bytes at a place lie within the buffer
abbrev pub fits : List ℕ → ℕ → ℕ → Bool
fits l at k = leb (at + k) (length l)

unfoldable pub written : List ℕ → ℕ → List ℕ → List ℕ
written l at ys = pick (fits l at (length ys)) (over l at ys) l

-- the place behind them; where they do not fit, their own
unfoldable pub past : List ℕ → ℕ → ℕ → ℕ
past l at k = pick (fits l at k) (at + k) at

-- what a put leaves in the buffer, and the place that it returns
pub record Wrote (l : List ℕ) (at : ℕ) (ys after : List ℕ) (next : ℕ) : Type 0 where
  pub bytes : after ≡ written l at ys
  pub place : next ≡ past l at (length ys)

-- all of a buffer, where it is as long as the bytes
unfoldable pub copied : List ℕ → List ℕ → List ℕ
copied ys l = pick (eqb (length ys) (length l)) ys l
