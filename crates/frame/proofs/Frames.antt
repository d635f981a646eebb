-- Which lines are frames, by the tests that the code makes. Assumes nothing.
use Prim.Native.Nat.{ℕ, ◌+◌, ◌*◌, ◌/◌, ◌%◌, ◌≤◌, ◌<◌}
use lib.Seq.{take_all, drop-cons, drop-length, get_or-take, length-take-le}
use mathlib.Core.Path.{◌≡◌, refl, sym, ap, ap₂, ◌∙◌}
use mathlib.Core.Bool.{Bool, true, false}
use mathlib.Core.List.{List, [], ◌∷◌}
use native.Mathlib.Omega.{arith}
use borrow.Author.Tests.{ltb-true, lt-ltb, eqb-true, eq-eqb, le-leb, lt-leb}
use lib.Dec.{eqb}
use lib.ListN.{length, get_or, take, drop}
use Rattle.lists.specs.Cases.{pick}
use Rattle.lists.specs.Bytes.{byte_at}
use Rattle.lists.specs.Pieces.{fold, over}
use Rattle.lists.proofs.Booleans.{and_yes, and-not-both, and_left, and_right}
use Rattle.lists.proofs.Fold.{fold_more}
use Rattle.lists.proofs.Over.{front_at, front-take}
use Rattle.numbers.specs.Numbers.{and_byte, big_endian, two_bytes}
use Rattle.numbers.proofs.Widths.{two-big}
use Rattle.digits.specs.Digits.{value_at, digit_values, values_into, worst_of, all_digits, spelled, hexed, paired_into}
use Rattle.digits.proofs.Values.{worst-above, values-yes}
use Rattle.digits.proofs.Spelling.{spelled_at_lem, spelled-length, values_length, values-at, pairs-spell, hexed-length, spelled-hexed, hexed-digits}
use Rattle.frame.specs.Frames.{least_frame, frame_most, anchor_count, is_frame, good_of, frame_of, frame_in, frame_bytes}
use Rattle.frame.specs.declared.reading.Frame.{Frame}
use Rattle.std.specs.Int.{from_be_bytes}
use Rattle.std.proofs.Common.{w16, w64, Some, None}

-- the page number by its eight bytes
big-none : (l : List ℕ) → big_endian (take 0 l) ≡ 0
unfolding big_endian fold
big-none l = refl

big-more : (l : List ℕ) (i : ℕ) → i < length l → big_endian (take (i + 1) l) ≡ big_endian (take i l) * 256 + byte_at l i
unfolding big_endian
big-more l i h = fold_more and_byte 0 l i 0 h

pub big-eight : (l : List ℕ) → 8 ≤ length l
    → from_be_bytes w64 (byte_at l 0 ∷ byte_at l 1 ∷ byte_at l 2 ∷ byte_at l 3 ∷ byte_at l 4 ∷ byte_at l 5 ∷ byte_at l 6 ∷ byte_at l 7 ∷ []) ≡ big_endian (take 8 l)
big-eight l h =
    let e0 = big-none l in
    let e1 = big-more l 0 (omega arith) in
    let e2 = big-more l 1 (omega arith) in
    let e3 = big-more l 2 (omega arith) in
    let e4 = big-more l 3 (omega arith) in
    let e5 = big-more l 4 (omega arith) in
    let e6 = big-more l 5 (omega arith) in
    let e7 = big-more l 6 (omega arith) in
    let e8 = big-more l 7 (omega arith) in
    omega arith

-- and the limit by its two
pub big-two : (l : List ℕ) → 12 ≤ length l → from_be_bytes w16 (byte_at l 10 ∷ byte_at l 11 ∷ []) ≡ big_endian (drop 10 (take 12 l))
big-two l h =
    let m : List ℕ = take 12 l in
    let long : length m ≡ 12 = length-take-le 12 l h in
    let two : from_be_bytes w16 (byte_at l 10 ∷ byte_at l 11 ∷ []) ≡ two_bytes (byte_at l 11) (byte_at l 10) = omega arith in
    two
    ∙ sym (two-big (byte_at l 11) (byte_at l 10))
    ∙ ap₂ (λ (a b : ℕ). big_endian (a ∷ b ∷ [])) (sym (get_or-take 12 l 10 0 (omega arith))) (sym (get_or-take 12 l 11 0 (omega arith)))
    ∙ ap (λ (r : List ℕ). big_endian (get_or m 10 0 ∷ get_or m 11 0 ∷ r)) (sym (ap (λ (n : ℕ). drop n m) (sym long) ∙ drop-length m))
    ∙ ap (λ (r : List ℕ). big_endian (get_or m 10 0 ∷ r)) (sym (drop-cons m 11 0 (omega arith)))
    ∙ ap big_endian (sym (drop-cons m 10 0 (omega arith)))

module _ (line : List ℕ) where
  -- n is a byte
  pub count-byte : worst_of line < 16 → 26 ≤ length line → anchor_count line < 256
  count-byte h k =
      omega (arith, spelled_at_lem line 12 (omega arith), worst-above line 24 h (omega arith), worst-above line 25 h (omega arith))

  no-frame : (worst_of line < 16 → length line ≡ 2 * (least_frame + anchor_count line) → ⊥) → is_frame line ≡ false
  unfolding is_frame
  no-frame f = and-not-both (all_digits line) (eqb (length line) (2 * (least_frame + anchor_count line))) (λ p q. f (ltb-true (worst_of line) 16 p) (eqb-true _ _ q))

  pub frame-short : length line < 2 * least_frame → is_frame line ≡ false
  frame-short h = no-frame (λ p q. omega arith)

  pub frame-long : 2 * frame_most < length line → is_frame line ≡ false
  frame-long h = no-frame (λ p q. omega (arith, count-byte p (omega arith)))

  pub frame-digits : 16 ≤ worst_of line → is_frame line ≡ false
  frame-digits h = no-frame (λ p q. omega arith)

  pub frame-count : (length line ≡ 2 * (least_frame + anchor_count line) → ⊥) → is_frame line ≡ false
  frame-count h = no-frame (λ p q. h q)

  pub frame-yes : worst_of line < 16 → length line ≡ 2 * (least_frame + anchor_count line) → is_frame line ≡ true
  unfolding is_frame
  frame-yes h e = and_yes (all_digits line) (eqb (length line) (2 * (least_frame + anchor_count line))) (lt-ltb (worst_of line) 16 h) (eq-eqb _ _ e)

  frame-facts : is_frame line ≡ true → (worst_of line < 16) × (length line ≡ 2 * (least_frame + anchor_count line))
  unfolding is_frame
  frame-facts e =
      let b = eqb (length line) (2 * (least_frame + anchor_count line)) in
      (ltb-true (worst_of line) 16 (and_left (all_digits line) b e), eqb-true _ _ (and_right (all_digits line) b e))

  pub frame-bytes : is_frame line ≡ true → length (spelled line) ≡ least_frame + anchor_count line
  frame-bytes e = spelled-length line ∙ omega (arith, (frame-facts e).1)

  pub frame_small : is_frame line ≡ true → anchor_count line < 256
  frame_small e = let f = frame-facts e in count-byte f.0 (omega arith)

  -- what is answered, and what is written
  pub answer-no : is_frame line ≡ false → None ≡ frame_of line
  unfolding frame_of
  answer-no e = rw e

  pub answer-yes : (bytes : List ℕ) → worst_of line < 16 → length line ≡ 2 * (least_frame + anchor_count line)
      → Some (good_of (over bytes 0 (spelled line)) (anchor_count line)) ≡ frame_of line
  unfolding frame_of
  answer-yes bytes h e =
      let n : length (spelled line) ≡ length line / 2 = spelled-length line in
      rw (frame-yes h e)
      (rw (
        front-take bytes (spelled line) 8 (omega arith),
        front_at bytes (spelled line) 0 8 (omega arith),
        front_at bytes (spelled line) 0 9 (omega arith),
        front-take bytes (spelled line) 12 (omega arith),
      ))

  pub small : (m : ℕ) → m < frame_most → None ≡ frame_in m line
  unfolding frame_in
  small m h = rw (lt-leb frame_most m h)

  pub large : (m : ℕ) → frame_most ≤ m → frame_of line ≡ frame_in m line
  unfolding frame_in
  large m h = rw (le-leb frame_most m h)

  module _ (bytes : List ℕ) where
    pub bytes_small : length bytes < frame_most → bytes ≡ frame_bytes line bytes
    unfolding frame_bytes
    bytes_small h = rw (lt-leb frame_most (length bytes) h)

    pub bytes-no : frame_most ≤ length bytes → is_frame line ≡ false → bytes ≡ frame_bytes line bytes
    unfolding frame_bytes
    bytes-no h e = rw (le-leb frame_most (length bytes) h, e)

    pub bytes-yes : frame_most ≤ length bytes → is_frame line ≡ true → over bytes 0 (spelled line) ≡ frame_bytes line bytes
    unfolding frame_bytes
    bytes-yes h e = rw (le-leb frame_most (length bytes) h, e)

-- a line that is no frame, where a frame would fit
pub not-read : (line bytes : List ℕ) → frame_most ≤ length bytes → is_frame line ≡ false → (None ≡ frame_in (length bytes) line) × (bytes ≡ frame_bytes line bytes)
not-read line bytes h e = (answer-no line e ∙ large line (length bytes) h, bytes-no line bytes h e)

-- the values of the line's characters, at the front of a buffer: n, and the bytes that they spell
module _ (line room values : List ℕ) (h : length line ≤ length room) (e : values ≡ values_into line room) (w : worst_of line < 16) where
  values-are : values ≡ over room 0 (digit_values line)
  values-are = e ∙ sym (values-yes line room h).1

  value-is : (k : ℕ) → k < length line → byte_at values k ≡ value_at line k
  value-is k b = ap (λ (l : List ℕ). byte_at l k) values-are ∙ front_at room (digit_values line) 0 k (omega (arith, values_length line)) ∙ values-at line k b

  pub count_of : 26 ≤ length line → (byte_at values 24 * 16 + byte_at values 25) % 256 ≡ anchor_count line
  count_of k = omega (arith, spelled_at_lem line 12 (omega arith), value-is 24 (omega arith), value-is 25 (omega arith), worst-above line 24 w (omega arith), worst-above line 25 w (omega arith))

  pub pairs_of : (m : ℕ) (bytes : List ℕ) → m ≡ length line → length line / 2 ≤ length bytes → paired_into (take m values) bytes ≡ over bytes 0 (spelled line)
  pairs_of m bytes f b =
      let n : length (digit_values line) ≡ length line = values_length line in
      let all : take m values ≡ digit_values line =
      ap (take m) values-are ∙ front-take room (digit_values line) m (omega arith) ∙ take_all m (digit_values line) (omega arith) in
      ap (λ (l : List ℕ). paired_into l bytes) all ∙ pairs-spell line w bytes b

-- from the answer back to the line
nothing-no : (b : Bool) (f : Frame) → pick b (Some f) None ≡ None → b ≡ false
nothing-no true f e = cc
nothing-no false f e = refl

pub frame-nothing : (line : List ℕ) → frame_of line ≡ None → is_frame line ≡ false
unfolding frame_of
frame-nothing line e = nothing-no (is_frame line) _ e

-- a frame's fields are those of the line's bytes
some-yes : (b : Bool) (f g : Frame) → pick b (Some g) None ≡ Some f → (b ≡ true) × (f ≡ g)
some-yes true f g e = (refl, cc)
some-yes false f g e = cc

pub frame-good : (line : List ℕ) (f : Frame) → frame_of line ≡ Some f → (is_frame line ≡ true) × (f ≡ good_of (spelled line) (anchor_count line))
unfolding frame_of
frame-good line f e = some-yes (is_frame line) f _ e

-- The bytes of a frame, written as hexadecimal, are read back: thirteen bytes, as many anchors as the last of them says, and 4,096.
pub frame-hexed : (bytes : List ℕ) → ((k : ℕ) → k < length bytes → byte_at bytes k < 256) → length bytes ≡ least_frame + byte_at bytes 12
    → frame_of (hexed bytes) ≡ Some (good_of bytes (byte_at bytes 12))
unfolding frame_of
frame-hexed bytes b h =
    let back : spelled (hexed bytes) ≡ bytes = spelled-hexed bytes b in
    let n : anchor_count (hexed bytes) ≡ byte_at bytes 12 = ap (λ (l : List ℕ). byte_at l 12) back in
    let yes : is_frame (hexed bytes) ≡ true = frame-yes (hexed bytes) (hexed-digits bytes b) (omega (arith, hexed-length bytes)) in
    rw yes (ap₂ (λ (l : List ℕ) (i : ℕ). Some (good_of l i)) back n)
