-- Laws of the sectors of a page: lists of one piece for each sector, all 512 bytes of a sector, and a page of which one sector is written over.
-- Assumes nothing.
use Prim.Native.Nat.{ℕ, zero, suc, ◌+◌, ◌-◌, ◌*◌, ◌≤◌, ◌<◌, min}
use mathlib.Core.Path.{◌≡◌, refl, sym, ap, ◌∙◌}
use mathlib.Core.List.{List, ◌++◌}
use mathlib.Core.Logic.{⊎_elim}
use native.Mathlib.Nat.{eq-or-lt_of_le, le_of_suc-le-suc, not-suc-le-zero}
use native.Mathlib.Decide.{dec_lt}
use native.Mathlib.Omega.{arith}
use lib.ListN.{length, get_or, take, drop, length-append, length-take, length-drop, get_or-append}
use lib.Seq.{get_or-append-add, ext_get_or, get_or-take, get_or-drop, take-take, take-add, take_all, drop-drop}
use Rattle.lists.specs.Pieces.{joined, over}
use Rattle.lists.proofs.Over.{over-here, over-before, over-after}
use Rattle.summary.specs.Page.{sector_end, data_of, part}
use Rattle.summary.specs.State.{sector_at}

-- ---- the data of a sector

-- of a list that is long enough
pub part_length : (l : List ℕ) (s : ℕ) → 4080 ≤ length l → length (part s l) ≡ sector_end s - s * 512
unfolding part
part_length l s h = simp (length-take, length-drop) (omega arith)

pub part_at : (l : List ℕ) (s i : ℕ) → i < sector_end s - s * 512 → get_or (part s l) i 0 ≡ get_or l (s * 512 + i) 0
unfolding part
part_at l s i h = get_or-take (sector_end s - s * 512) (drop (s * 512) l) i 0 h ∙ get_or-drop (s * 512) l i 0

-- one piece for each sector, as long as the sector
pub record Sized (f : ℕ → List ℕ) : Type 0 where
  pub at : (s : ℕ) → s < 8 → length (f s) ≡ sector_end s - s * 512

pub sized-length : (f : ℕ → List ℕ) (n : ℕ) → Sized f → n ≤ 8 → length (joined f n) ≡ min (n * 512) 4080
unfolding joined
sized-length f zero z h = refl
sized-length f (suc n) z h =
    length-append (joined f n) (f n) ∙ omega (arith, sized-length f n z (omega arith), z.at n (omega arith))

-- byte i of piece s is byte s * 512 + i of the whole
pub joined_at :
    (f : ℕ → List ℕ) → Sized f → (n s i : ℕ) → s < n → n ≤ 8 → i < sector_end s - s * 512 → get_or (joined f n) (s * 512 + i) 0 ≡ get_or (f s) i 0
unfolding joined
joined_at f z zero s i h m k = absurd (not-suc-le-zero h)
joined_at f z (suc n) s i h m k =
    let long : length (joined f n) ≡ min (n * 512) 4080 = sized-length f n z (omega arith) in
    ⊎_elim
    (λ e.
    let q : s * 512 + i ≡ length (joined f n) + i = omega (arith, ap (λ (x : ℕ). x * 512) e) in
    ap (λ (x : ℕ). get_or (joined f n ++ f n) x 0) q ∙ get_or-append-add (joined f n) (f n) i 0 ∙ ap (λ (x : ℕ). get_or (f x) i 0) (sym e))
    (λ l. get_or-append (joined f n) (f n) 0 (s * 512 + i) (omega arith) ∙ joined_at f z n s i l (omega arith) k)
    (eq-or-lt_of_le (le_of_suc-le-suc h))

-- and sector s of the whole is piece s
pub joined-part : (f : ℕ → List ℕ) → Sized f → (s : ℕ) → s < 8 → part s (joined f 8) ≡ f s
unfolding part
joined-part f z s h =
    let n : ℕ = sector_end s - s * 512 in
    let l : List ℕ = joined f 8 in
    let long : length (take n (drop (s * 512) l)) ≡ n = simp (length-take, length-drop) (omega (arith, sized-length f 8 z (omega arith))) in
    ext_get_or 0 (take n (drop (s * 512) l)) (f s) (long ∙ sym (z.at s h))
    (λ i q.
    let k : i < n = omega (arith, long) in
    get_or-take n (drop (s * 512) l) i 0 k ∙ get_or-drop (s * 512) l i 0 ∙ joined_at f z 8 s i h (omega arith) k)

-- ---- all 512 bytes of a sector

pub sector-size : (l : List ℕ) (s : ℕ) → length l ≡ 4096 → s < 8 → length (sector_at s l) ≡ 512
unfolding sector_at
sector-size l s h k = simp (length-take, length-drop) (omega arith)

-- the data are the first of them
pub sector-data : (l : List ℕ) (s : ℕ) → data_of s (sector_at s l) ≡ part s l
unfolding sector_at part
sector-data l s = take-take (sector_end s - s * 512) 512 (drop (s * 512) l) (omega arith)

-- shifted bytes are data alone
pub sector-part : (l : List ℕ) (s : ℕ) → length l ≡ 4080 → s < 8 → sector_at s l ≡ part s l
unfolding sector_at
sector-part l s h k =
    let few : length (take 512 (drop (s * 512) l)) ≤ sector_end s - s * 512 = simp (length-take, length-drop) (omega arith) in
    sym (take_all (sector_end s - s * 512) (take 512 (drop (s * 512) l)) few) ∙ sector-data l s

-- the last 16 of sector 7's are the trailer
pub trailer-of : (l : List ℕ) → length l ≡ 4096 → drop 4080 l ≡ drop 496 (sector_at 7 l)
unfolding sector_at
trailer-of l h = sym (ap (drop 496) (take_all 512 (drop 3584 l) (omega (arith, length-drop 3584 l))) ∙ drop-drop 496 3584 l)

-- the eight of a page, or of a page's shifted bytes, are all of it
sectors-joined : (l : List ℕ) (n : ℕ) → joined (λ s. sector_at s l) n ≡ take (n * 512) l
unfolding joined sector_at
sectors-joined l zero = refl
sectors-joined l (suc n) =
    let to : n * 512 + 512 ≡ suc n * 512 = omega arith in
    ap (λ (x : List ℕ). x ++ take 512 (drop (n * 512) l)) (sectors-joined l n)
    ∙ sym (take-add (n * 512) 512 l)
    ∙ ap (λ (k : ℕ). take k l) to

pub sectors-whole : (l : List ℕ) → length l ≤ 4096 → l ≡ joined (λ s. sector_at s l) 8
sectors-whole l h = sym (sectors-joined l 8 ∙ take_all 4096 l h)

-- ---- a page, or a page's shifted bytes, written over from where sector s begins

module _ (l new : List ℕ) (s : ℕ) (room : s * 512 + length new ≤ length l) where
  abbrev written : List ℕ
  written = over l (s * 512) new

  piece-here : (n : ℕ) → n ≤ length new → take n (drop (s * 512) written) ≡ take n new
  piece-here n h = sym (take-take n (length new) (drop (s * 512) written) h) ∙ ap (take n) (over-here l new (s * 512) room)

  piece-other : length new ≤ 512 → (t n : ℕ) → n ≤ 512 → (t ≡ s → ⊥) → take n (drop (t * 512) written) ≡ take n (drop (t * 512) l)
  piece-other few t n h ne = go (dec_lt t s)
    where
      go : Dec (t < s) → take n (drop (t * 512) written) ≡ take n (drop (t * 512) l)
      go (yes q) = over-before l new (s * 512) room (t * 512) n (omega arith)
      go (no q) = ap (take n) (over-after l new (s * 512) room (t * 512) (omega arith))

  -- its data are those of the new bytes, and the other seven keep theirs
  pub part-here : sector_end s - s * 512 ≤ length new → part s written ≡ data_of s new
  unfolding part
  part-here h = piece-here (sector_end s - s * 512) h

  pub part-other : length new ≤ 512 → (t : ℕ) → (t ≡ s → ⊥) → part t written ≡ part t l
  unfolding part
  part-other few t ne = piece-other few t (sector_end t - t * 512) (omega arith) ne

  -- so with all 512 bytes of a sector
  pub sector-here : length new ≡ 512 → sector_at s written ≡ new
  unfolding sector_at
  sector-here e = piece-here 512 (omega arith) ∙ take_all 512 new (omega arith)

  pub sector-other : length new ≤ 512 → (t : ℕ) → (t ≡ s → ⊥) → sector_at t written ≡ sector_at t l
  unfolding sector_at
  sector-other few t ne = piece-other few t 512 (omega arith) ne

-- a stored page, of which all 512 bytes of sector s are
module _ (l new : List ℕ) (s : ℕ) (hs : s < 8) (hp : length l ≡ 4096) (hn : length new ≡ 512) where
  pub page-room : s * 512 + length new ≤ length l
  page-room = omega arith

  pub page-data : part s (over l (s * 512) new) ≡ data_of s new
  page-data = part-here l new s page-room (omega arith)
