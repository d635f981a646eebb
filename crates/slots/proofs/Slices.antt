-- Laws of a part of a page read as slots, two bytes each. Assumes nothing.
use Rattle.std.proofs.Common.{◌≡◌, ℕ, zero, suc, ◌+◌, ◌-◌, ◌*◌, ◌/◌, ◌<◌, ◌≤◌, List, [], ◌∷◌, map, length, get_or, take, drop, refl, sym, ap, ◌∙◌, le_of_suc-le-suc, not-suc-le-zero, arith, get_or-drop, get_or-take, length-drop, length-take-le}
use Rattle.std.specs.Simd.{first_chunks}
use Rattle.lists.specs.Bytes.{less, plain_of, byte_at, pair_at}
use Rattle.lists.specs.Pieces.{each}
use Rattle.lists.proofs.Each.{each_all, each-length, each_at}
use Rattle.lists.proofs.Plain.{plain_at}
use Rattle.slots.specs.Slots.{slot_value}

two_off : (xs : List ℕ) → 2 ≤ length xs → slot_value (take 2 xs) ≡ pair_at xs 0
two_off [] h = absurd (not-suc-le-zero h)
two_off (a ∷ []) h = absurd (not-suc-le-zero (le_of_suc-le-suc h))
two_off (a ∷ b ∷ xs) h = refl

pair-drop : (j i : ℕ) (xs : List ℕ) → pair_at (drop j xs) i ≡ pair_at xs (j + i)
pair-drop j i xs =
    let f : j + (i + 1) ≡ j + i + 1 = omega arith in
    let a : get_or (drop j xs) i 0 ≡ get_or xs (j + i) 0 = get_or-drop j xs i 0 in
    let b : get_or (drop j xs) (i + 1) 0 ≡ get_or xs (j + i + 1) 0 = get_or-drop j xs (i + 1) 0 ∙ ap (λ (k : ℕ). get_or xs k 0) f in
    omega arith

-- the slot in place i
pub slot-in : (k i : ℕ) (xs d : List ℕ) → i < k → 2 * k ≤ length xs → slot_value (get_or (first_chunks 2 k xs) i d) ≡ pair_at xs (2 * i)
slot-in zero i xs d h l = absurd (not-suc-le-zero h)
slot-in (suc k) zero xs d h l = two_off xs (omega arith)
slot-in (suc k) (suc i) xs d h l =
    let f : 2 + 2 * i ≡ 2 * suc i = omega arith in
    slot-in k i (drop 2 xs) d (omega arith) (omega (arith, length-drop 2 xs)) ∙ pair-drop 2 (2 * i) xs ∙ ap (pair_at xs) f

pub slots-long : (k : ℕ) (xs : List ℕ) → length (first_chunks 2 k xs) ≡ k
slots-long zero xs = refl
slots-long (suc k) xs = ap (λ (n : ℕ). suc n) (slots-long k (drop 2 xs))

map-long : (l : List (List ℕ)) → length (map slot_value l) ≡ length l
map-long [] = refl
map-long (x ∷ l) = ap (λ (n : ℕ). suc n) (map-long l)

map-in : (l : List (List ℕ)) (i : ℕ) (d : List ℕ) → i < length l → get_or (map slot_value l) i 0 ≡ slot_value (get_or l i d)
map-in [] i d h = absurd (not-suc-le-zero h)
map-in (x ∷ l) zero d h = refl
map-in (x ∷ l) (suc i) d h = map-in l i d (le_of_suc-le-suc h)

pair-take : (m i : ℕ) (xs : List ℕ) → i + 1 < m → pair_at (take m xs) i ≡ pair_at xs i
pair-take m i xs h =
    let a : get_or (take m xs) i 0 ≡ get_or xs i 0 = get_or-take m xs i 0 (omega arith) in
    let b : get_or (take m xs) (i + 1) 0 ≡ get_or xs (i + 1) 0 = get_or-take m xs (i + 1) 0 h in
    omega arith

-- the slots of a part, by their places in the whole
pub slots-part :
    (plain : List ℕ) (start k m : ℕ)
    → start + 2 * k ≤ length plain
    → m ≡ 2 * k
    → map slot_value (first_chunks 2 k (take m (drop start plain))) ≡ each (λ j. pair_at plain (start + 2 * j)) k
slots-part plain start k m h e =
    let long : length (take m (drop start plain)) ≡ m = length-take-le m (drop start plain) (omega (arith, length-drop start plain)) in
    let many : length (first_chunks 2 k (take m (drop start plain))) ≡ k = slots-long k (take m (drop start plain)) in
    each_all (λ j. pair_at plain (start + 2 * j)) k (map slot_value (first_chunks 2 k (take m (drop start plain))))
    (map-long (first_chunks 2 k (take m (drop start plain))) ∙ many)
    (λ j l.
    map-in (first_chunks 2 k (take m (drop start plain))) j [] (omega arith) ∙ slot-in k j (take m (drop start plain)) [] l (omega arith)
    ∙ pair-take m (2 * j) (drop start plain) (omega arith)
    ∙ pair-drop start (2 * j) plain)

-- a slot where it stands is the one of its place
pub slot-there :
    (plain : List ℕ) (start count : ℕ) (slots : List (List ℕ)) (k : ℕ) (d : List ℕ)
    → map slot_value slots ≡ each (λ j. pair_at plain (start + 2 * j)) count
    → k < length slots
    → slot_value (get_or slots k d) ≡ pair_at plain (start + 2 * k)
slot-there plain start count slots k d e h =
    let n : length slots ≡ count = sym (map-long slots) ∙ ap length e ∙ each-length (λ j. pair_at plain (start + 2 * j)) count in
    sym (map-in slots k d h) ∙ ap (λ (l : List ℕ). get_or l k 0) e ∙ each_at (λ j. pair_at plain (start + 2 * j)) count k 0 (omega arith)

-- the bytes of a slot in place i
two-bytes : (xs : List ℕ) → 2 ≤ length xs → (byte_at (take 2 xs) 0 ≡ byte_at xs 0) × (byte_at (take 2 xs) 1 ≡ byte_at xs 1)
two-bytes [] h = absurd (not-suc-le-zero h)
two-bytes (a ∷ []) h = absurd (not-suc-le-zero (le_of_suc-le-suc h))
two-bytes (a ∷ b ∷ xs) h = (refl, refl)

bytes-in : (k i : ℕ) (xs d : List ℕ) → i < k → 2 * k ≤ length xs → (byte_at (get_or (first_chunks 2 k xs) i d) 0 ≡ byte_at xs (2 * i)) × (byte_at (get_or (first_chunks 2 k xs) i d) 1 ≡ byte_at xs (2 * i + 1))
bytes-in zero i xs d h l = absurd (not-suc-le-zero h)
bytes-in (suc k) zero xs d h l = two-bytes xs (omega arith)
bytes-in (suc k) (suc i) xs d h l =
    let f : 2 + 2 * i ≡ 2 * suc i = omega arith in
    let g : 2 + (2 * i + 1) ≡ 2 * suc i + 1 = omega arith in
    let b = bytes-in k i (drop 2 xs) d (omega arith) (omega (arith, length-drop 2 xs)) in
    (b.0 ∙ get_or-drop 2 xs (2 * i) 0 ∙ ap (byte_at xs) f, b.1 ∙ get_or-drop 2 xs (2 * i + 1) 0 ∙ ap (byte_at xs) g)

-- the slots of a part that ends at a limit, where they stand
module _ (lim : ℕ) (xs : List ℕ) (from : ℕ) (le : lim ≤ length xs) (h : from ≤ lim) (slots : List (List ℕ)) where
  abbrev pub between : List ℕ
  between = take (lim - from) (drop from xs)

  between-long : length between ≡ lim - from
  between-long = length-take-le (lim - from) (drop from xs) (omega (arith, length-drop from xs))

  module _ (e : slots ≡ first_chunks 2 (length between / 2) between) (i : ℕ) where
    many : length slots ≡ length between / 2
    many = ap length e ∙ slots-long (length between / 2) between

    pub slot-room : i < length slots → from + 2 * i + 1 < lim
    slot-room l = omega (arith, many, between-long)

    pub slots-over : length slots ≤ i → lim ≤ from + 2 * i + 1
    slots-over l = omega (arith, many, between-long)

    pub slot-behind : (d : List ℕ) → i < length slots → slot_value (get_or slots i d) ≡ pair_at xs (from + 2 * i)
    slot-behind d l =
        ap (λ (s : List (List ℕ)). slot_value (get_or s i d)) e
        ∙ slot-in (length between / 2) i between d (omega (arith, many)) (omega arith)
        ∙ pair-take (lim - from) (2 * i) (drop from xs) (omega (arith, slot-room l))
        ∙ pair-drop from (2 * i) xs

    byte-there : (j : ℕ) → j < lim - from → byte_at between j ≡ byte_at xs (from + j)
    byte-there j k = get_or-take (lim - from) (drop from xs) j 0 k ∙ get_or-drop from xs j 0

    -- a slot of shifted bytes
    pub shifted-there : (bv w : ℕ) (d : List ℕ) → i < length slots → w ≡ less (byte_at (get_or slots i d) 0) bv + 256 * less (byte_at (get_or slots i d) 1) bv → w ≡ pair_at (plain_of bv xs) (from + 2 * i)
    shifted-there bv w d l q =
        let b = bytes-in (length between / 2) i between d (omega (arith, many)) (omega arith) in
        let r = slot-room l in
        let f : from + (2 * i + 1) ≡ from + 2 * i + 1 = omega arith in
        let x : byte_at (get_or slots i d) 0 ≡ byte_at xs (from + 2 * i) = ap (λ (s : List (List ℕ)). byte_at (get_or s i d) 0) e ∙ b.0 ∙ byte-there (2 * i) (omega arith) in
        let y : byte_at (get_or slots i d) 1 ≡ byte_at xs (from + 2 * i + 1) = ap (λ (s : List (List ℕ)). byte_at (get_or s i d) 1) e ∙ b.1 ∙ byte-there (2 * i + 1) (omega arith) ∙ ap (byte_at xs) f in
        let u : byte_at (plain_of bv xs) (from + 2 * i) ≡ less (byte_at (get_or slots i d) 0) bv = plain_at bv xs (from + 2 * i) (omega arith) ∙ ap (λ (n : ℕ). less n bv) (sym x) in
        let v : byte_at (plain_of bv xs) (from + 2 * i + 1) ≡ less (byte_at (get_or slots i d) 1) bv = plain_at bv xs (from + 2 * i + 1) (omega arith) ∙ ap (λ (n : ℕ). less n bv) (sym y) in
        q ∙ sym (ap (λ (n : ℕ). n + 256 * byte_at (plain_of bv xs) (from + 2 * i + 1)) u ∙ ap (λ (n : ℕ). less (byte_at (get_or slots i d) 0) bv + 256 * n) v)
