-- Laws of the pairs of a list of bytes, below a limit, of slot values, and of how many slots there is room for. Assumes nothing.
use Rattle.std.proofs.Common.{◌≡◌, ℕ, suc, ◌+◌, ◌-◌, ◌*◌, ◌<◌, ◌≤◌, Bool, true, false, ◌&&◌, eqb, ltb, leb, List, [], ◌∷◌, length, get_or, take, drop, sym, refl, ap, ◌∙◌, le_of_suc-le-suc, not-suc-le-zero, add-one, arith, length-drop, length-take, length-take-le, drop-cons, get_or-take, ltb-true, le-ltb, lt-ltb, eq-eqb, ne_eqb, le-leb, leb-true}
use mathlib.Core.Bool.{and-false}
use native.Mathlib.Numerals.{add-two}
use borrow.Author.Tests.{lt-leb}
use Rattle.lists.specs.Cases.{pick}
use Rattle.lists.specs.Bytes.{pair_at}
use Rattle.lists.proofs.Booleans.{and_left, and_right, and_yes, and-no-left}
use Rattle.slots.specs.Slots.{is_offset, words, words_from, falling, opening, slots_at}

module _ (lim : ℕ) (p : List ℕ) (at : ℕ) (le : lim ≤ length p) where
  -- one pair at a time
  pub words_step : at + 1 < lim → words_from lim p at ≡ pair_at p at ∷ words_from lim p (at + 2)
  unfolding words words_from
  words_step h =
      let n : length (take lim p) ≡ lim = length-take-le lim p le in
      let h0 : at < length (take lim p) = omega arith in
      let h1 : suc at < length (take lim p) = omega arith in
      let a0 : get_or (take lim p) at 0 ≡ get_or p at 0 = get_or-take lim p at 0 (omega arith) in
      let a1 : get_or (take lim p) (suc at) 0 ≡ get_or p (suc at) 0 = get_or-take lim p (suc at) 0 (omega arith) in
      rw (drop-cons (take lim p) at 0 h0, drop-cons (take lim p) (suc at) 0 h1, a0, a1, add-one, add-two) refl

  pub words-here : (w : ℕ) → at + 1 < lim → w ≡ pair_at p at → words_from lim p at ≡ w ∷ words_from lim p (at + 2)
  words-here w h e = words_step h ∙ ap (λ (k : ℕ). k ∷ words_from lim p (at + 2)) (sym e)

short : (l : List ℕ) → length l ≤ 1 → words l ≡ []
unfolding words
short [] h = refl
short (a ∷ []) h = refl
short (a ∷ b ∷ l) h = absurd (not-suc-le-zero (le_of_suc-le-suc h))

words-half : (l : List ℕ) → 2 * length (words l) ≤ length l
unfolding words
words-half [] = omega arith
words-half (a ∷ []) = omega arith
words-half (a ∷ b ∷ l) = let h : 2 * length (words l) ≤ length l = words-half l in omega arith

module _ (lim : ℕ) (p : List ℕ) (at : ℕ) where
  length-below : length (drop at (take lim p)) ≤ lim - at
  length-below = simp (length-drop, length-take) (omega arith)

  pub words-end : lim ≤ at + 1 → words_from lim p at ≡ []
  unfolding words_from
  words-end h = short (drop at (take lim p)) (omega (arith, length-below))

  pub words-past : length p ≤ at + 1 → words_from lim p at ≡ []
  unfolding words_from
  words-past h = short (drop at (take lim p)) (let e : length (drop at (take lim p)) ≤ length p - at = simp (length-drop, length-take) (omega arith) in omega arith)

  -- two bytes to a pair
  pub words-fit : 2 * length (words_from lim p at) ≤ lim - at
  unfolding words_from
  words-fit = omega (arith, length-below, words-half (drop at (take lim p)))

module _ (w : ℕ) (o : is_offset w ≡ true) where
  pub offset-low : 0x20 ≤ w
  unfolding is_offset
  offset-low = leb-true 0x20 w (and_left (leb 0x20 w) (ltb w 0xFF0) o)

  pub offset-high : w < 0xFF0
  unfolding is_offset
  offset-high = ltb-true w 0xFF0 (and_right (leb 0x20 w) (ltb w 0xFF0) o)

  pub offset-pos : w ≡ 0 → ⊥
  offset-pos z = omega (arith, offset-low)

pub offset-yes : (w : ℕ) → 0x20 ≤ w → w < 0xFF0 → is_offset w ≡ true
unfolding is_offset
offset-yes w a b = and_yes (leb 0x20 w) (ltb w 0xFF0) (le-leb 0x20 w a) (lt-ltb w 0xFF0 b)

pub offset-small : (w : ℕ) → w < 0x20 → is_offset w ≡ false
unfolding is_offset
offset-small w h = and-no-left (leb 0x20 w) (ltb w 0xFF0) (lt-leb 0x20 w h)

-- one more pair, by the tests in their order
pub falling-zero : (prev w : ℕ) (ws : List ℕ) → w ≡ 0 → falling prev (w ∷ ws) ≡ 0 ∷ falling prev ws
unfolding falling
falling-zero prev w ws e = rw (eq-eqb w 0 e) refl

pub falling-live : (prev w : ℕ) (ws : List ℕ) → is_offset w ≡ true → w < prev → falling prev (w ∷ ws) ≡ w ∷ falling w ws
unfolding falling
falling-live prev w ws o l = rw (ne_eqb w 0 (offset-pos w o), o, lt-ltb w prev l) refl

pub falling-other : (prev w : ℕ) (ws : List ℕ) → (w ≡ 0 → ⊥) → is_offset w ≡ false → falling prev (w ∷ ws) ≡ []
unfolding falling
falling-other prev w ws n o = rw (ne_eqb w 0 n, o) refl

pub falling-above : (prev w : ℕ) (ws : List ℕ) → (w ≡ 0 → ⊥) → prev ≤ w → falling prev (w ∷ ws) ≡ []
unfolding falling
falling-above prev w ws n l = rw (ne_eqb w 0 n, le-ltb w prev l, and-false) refl

-- a run has no more slots than the limit has room for
falling-few : (prev : ℕ) (ws : List ℕ) → length (falling prev ws) ≤ length ws
unfolding falling
falling-few prev [] = omega arith
falling-few prev (w ∷ ws) = go (eqb w 0) (is_offset w && ltb w prev) (falling-few prev ws) (falling-few w ws)
  where
    go : (b d : Bool) → length (falling prev ws) ≤ length ws → length (falling w ws) ≤ length ws → length (pick b (0 ∷ falling prev ws) (pick d (w ∷ falling w ws) [])) ≤ suc (length ws)
    go true d h k = omega arith
    go false true h k = omega arith
    go false false h k = omega arith

opening-few : (ws : List ℕ) → length (opening ws) ≤ length ws
unfolding opening
opening-few [] = omega arith
opening-few (w ∷ ws) = go (is_offset w) (falling-few w ws)
  where
    go : (b : Bool) → length (falling w ws) ≤ length ws → length (pick b (w ∷ falling w ws) []) ≤ suc (length ws)
    go true h = omega arith
    go false h = omega arith

pub slots-few : (lim : ℕ) (p : List ℕ) (at : ℕ) → 2 * length (slots_at lim p at) ≤ lim - at
unfolding slots_at
slots-few lim p at = omega (arith, opening-few (words_from lim p at), words-fit lim p at)
