-- What the scan and the prelude search find are directories: their slots lie within the bytes and fall strictly. Assumes nothing.
use Prim.Native.Nat.{ℕ, zero, suc, ◌+◌, ◌-◌, ◌*◌, ◌/◌, ◌≤◌, ◌<◌, min}
use mathlib.Core.Path.{◌≡◌, refl, sym, ap, ◌∙◌, subst}
use mathlib.Core.List.{List, [], ◌∷◌, ◌++◌}
use mathlib.Core.Bool.{Bool, true, false, ◌&&◌}
use native.Mathlib.Omega.{arith}
use lib.ListN.{length, take}
use lib.Seq.{take-append-le, take-length}
use lib.Dec.{ltb, leb, eqb}
use borrow.Author.Tests.{leb-true, leb-false, ltb-true, eqb-true}
use Rattle.lists.specs.Cases.{pick}
use Rattle.lists.specs.Bytes.{pair_at}
use Rattle.lists.specs.Pieces.{each}
use Rattle.lists.proofs.Booleans.{and_left, and_right}
use Rattle.lists.proofs.Each.{each-length, each-ext}
use Rattle.slots.specs.Slots.{is_offset, words_from, falling, opening, slots_at, onto_trimmed, trim, live_of, array_start_of, scan_from, scanned_directory}
use Rattle.slots.specs.declared.scans.Scan.{Scan}
use Rattle.std.proofs.Common.{Some}
use Rattle.slots.proofs.Words.{words_step, words-end, offset-low, offset-high, slots-few}
use Rattle.slots.proofs.Limits.{scanned-past}
use Rattle.slots.proofs.Best.{scanned-best}
use Rattle.preludes.specs.Preludes.{data_end, declared_slots, run_of, whole, prelude_of}
use Rattle.preludes.specs.Starts.{Place, Tells}
use Rattle.preludes.specs.declared.search.Prelude.TheVariants as prelude
use Rattle.preludes.proofs.Starts.{prelude-tells}
use Rattle.directory.specs.Directory.{slots_of, Falls, Sound}

-- strictly falling
falls-cons : (prev w : ℕ) (l : List ℕ) → is_offset w ≡ true → w < prev → Falls w l → Falls prev (w ∷ l)
falls-cons prev zero l o k f = let h : 0x20 ≤ 0 = offset-low 0 o in absurd (omega arith)
falls-cons prev (suc w) l o k f = (k, f)

falling-falls : (prev : ℕ) (ws : List ℕ) → Falls prev (falling prev ws)
unfolding falling
falling-falls prev [] = tt
falling-falls prev (w ∷ ws) = go (eqb w 0) (is_offset w && ltb w prev) refl (falling-falls prev ws) (falling-falls w ws)
  where
    go : (b d : Bool) → (is_offset w && ltb w prev) ≡ d → Falls prev (falling prev ws) → Falls w (falling w ws) → Falls prev (pick b (0 ∷ falling prev ws) (pick d (w ∷ falling w ws) []))
    go true d q h k = h
    go false true q h k = falls-cons prev w (falling w ws) (and_left (is_offset w) (ltb w prev) q) (ltb-true w prev (and_right (is_offset w) (ltb w prev) q)) k
    go false false q h k = tt

opening-falls : (ws : List ℕ) → Falls 0xFF0 (opening ws)
unfolding opening
opening-falls [] = tt
opening-falls (w ∷ ws) = go (is_offset w) refl
  where
    go : (b : Bool) → is_offset w ≡ b → Falls 0xFF0 (pick b (w ∷ falling w ws) [])
    go true q = falls-cons 0xFF0 w (falling w ws) q (offset-high w q) (falling-falls w ws)
    go false q = tt

trim-falls : (prev : ℕ) (l : List ℕ) → Falls prev l → Falls prev (trim l)
unfolding trim onto_trimmed
trim-falls prev [] f = tt
trim-falls prev (zero ∷ l) f = go (trim l) (trim-falls prev l f)
  where
    go : (t : List ℕ) → Falls prev t → Falls prev (onto_trimmed 0 t)
    go [] h = tt
    go (y ∷ t) h = h
trim-falls prev (suc x ∷ l) f = (f.0, trim-falls (suc x) l f.1)

-- what is verdict_taken of a list is its front
falling-front : (prev : ℕ) (ws : List ℕ) → falling prev ws ≡ take (length (falling prev ws)) ws
unfolding falling
falling-front prev [] = refl
falling-front prev (w ∷ ws) = go (eqb w 0) refl (is_offset w && ltb w prev) (falling-front prev ws) (falling-front w ws)
  where
    go : (b : Bool) → eqb w 0 ≡ b → (d : Bool) → falling prev ws ≡ take (length (falling prev ws)) ws → falling w ws ≡ take (length (falling w ws)) ws → pick b (0 ∷ falling prev ws) (pick d (w ∷ falling w ws) []) ≡ take (length (pick b (0 ∷ falling prev ws) (pick d (w ∷ falling w ws) []))) (w ∷ ws)
    go true q d h k = ap (λ (x : ℕ). x ∷ falling prev ws) (sym (eqb-true w 0 q)) ∙ ap (λ (l : List ℕ). w ∷ l) h
    go false q true h k = ap (λ (l : List ℕ). w ∷ l) k
    go false q false h k = refl

opening-front : (ws : List ℕ) → opening ws ≡ take (length (opening ws)) ws
unfolding opening
opening-front [] = refl
opening-front (w ∷ ws) = go (is_offset w)
  where
    go : (b : Bool) → pick b (w ∷ falling w ws) [] ≡ take (length (pick b (w ∷ falling w ws) [])) (w ∷ ws)
    go true = ap (λ (l : List ℕ). w ∷ l) (falling-front w ws)
    go false = refl

trim-front : (l : List ℕ) → trim l ≡ take (length (trim l)) l
unfolding trim onto_trimmed
trim-front [] = refl
trim-front (zero ∷ l) = go (trim l) (trim-front l)
  where
    go : (t : List ℕ) → t ≡ take (length t) l → onto_trimmed 0 t ≡ take (length (onto_trimmed 0 t)) (0 ∷ l)
    go [] h = refl
    go (y ∷ t) h = ap (λ (k : List ℕ). 0 ∷ k) h
trim-front (suc x ∷ l) = ap (λ (k : List ℕ). suc x ∷ k) (trim-front l)

trim-few : (l : List ℕ) → length (trim l) ≤ length l
unfolding trim onto_trimmed
trim-few [] = omega arith
trim-few (zero ∷ l) = go (trim l) (trim-few l)
  where
    go : (t : List ℕ) → length t ≤ length l → length (onto_trimmed 0 t) ≤ suc (length l)
    go [] h = omega arith
    go (y ∷ t) h = omega arith
trim-few (suc x ∷ l) = let h : length (trim l) ≤ length l = trim-few l in omega arith

live-few : (l : List ℕ) → live_of l ≤ length (trim l)
unfolding trim onto_trimmed live_of
live-few [] = omega arith
live-few (zero ∷ l) = go (trim l) (live-few l)
  where
    go : (t : List ℕ) → live_of l ≤ length t → live_of l ≤ length (onto_trimmed 0 t)
    go [] h = h
    go (y ∷ t) h = omega arith
live-few (suc x ∷ l) = let h : live_of l ≤ length (trim l) = live-few l in omega arith

-- `each` from its front
module _ (f : ℕ → ℕ) where
  each_first : (n : ℕ) → each f (suc n) ≡ f 0 ∷ each (λ k. f (suc k)) n
  unfolding each
  each_first zero = refl
  each_first (suc n) = ap (λ (l : List ℕ). l ++ (f (suc n) ∷ [])) (each_first n)

  take-each : (k n : ℕ) → k ≤ n → take k (each f n) ≡ each f k
  unfolding each
  take-each k zero h = let z : k ≡ 0 = omega arith in rw z refl
  take-each k (suc n) h = go (leb k n) refl (λ l. take-each k n l)
    where
      go : (b : Bool) → leb k n ≡ b → (k ≤ n → take k (each f n) ≡ each f k) → take k (each f n ++ (f n ∷ [])) ≡ each f k
      go true q ih =
          let l : k ≤ n = leb-true k n q in
          let m : k ≤ length (each f n) = rw each-length l in
          take-append-le k (each f n) (f n ∷ []) m ∙ ih l
      go false q ih =
          let z : k ≡ suc n = let l : n < k = leb-false k n q in omega arith in
          let e : length (each f (suc n)) ≡ k = each-length f (suc n) ∙ sym z in
          subst (λ (x : ℕ). take x (each f (suc n)) ≡ each f k) e (take-length (each f (suc n)) ∙ ap (each f) (sym z))

words-slots : (m lim : ℕ) (plain : List ℕ) (at : ℕ) → lim ≤ length plain → at + 2 * m ≤ lim → lim ≤ at + 2 * m + 1 → words_from lim plain at ≡ slots_of plain at m
words-slots zero lim plain at le h k = words-end lim plain at (omega arith) ∙ unfold each in refl
words-slots (suc m) lim plain at le h k =
    let e : at + 2 * 0 ≡ at = omega arith in
    words_step lim plain at le (omega arith) ∙ ap (λ (l : List ℕ). pair_at plain at ∷ l) (words-slots m lim plain (at + 2) le (omega arith) (omega arith))
    ∙ ap (λ (x : ℕ). pair_at plain x ∷ slots_of plain (at + 2) m) (sym e)
    ∙ ap (λ (l : List ℕ). pair_at plain (at + 2 * 0) ∷ l) (each-ext (λ j. pair_at plain (at + 2 + 2 * j)) (λ j. pair_at plain (at + 2 * suc j)) m (λ j l. let z : at + 2 + 2 * j ≡ at + 2 * suc j = omega arith in ap (pair_at plain) z))
    ∙ sym (each_first (λ j. pair_at plain (at + 2 * j)) m)

-- the front of a run of slots, at its place
module _ (lim : ℕ) (plain : List ℕ) (at : ℕ) (le : lim ≤ length plain) where
  slots-are : slots_at lim plain at ≡ slots_of plain at (length (slots_at lim plain at))
  unfolding slots_at
  slots-are = go (leb at lim) refl
    where
      go : (b : Bool) → leb at lim ≡ b → opening (words_from lim plain at) ≡ slots_of plain at (length (opening (words_from lim plain at)))
      go true q =
          let h : at ≤ lim = leb-true at lim q in
          let m : ℕ = (lim - at) / 2 in
          let e : words_from lim plain at ≡ slots_of plain at m = words-slots m lim plain at le (omega arith) (omega arith) in
          let n : 2 * length (opening (words_from lim plain at)) ≤ lim - at = unfold slots_at in slots-few lim plain at in
          let k : length (opening (words_from lim plain at)) ≤ m = omega arith in
          opening-front (words_from lim plain at) ∙ ap (take (length (opening (words_from lim plain at)))) e ∙ take-each (λ j. pair_at plain (at + 2 * j)) (length (opening (words_from lim plain at))) m k
      go false q =
          let h : lim < at = leb-false at lim q in
          let e : words_from lim plain at ≡ [] = words-end lim plain at (omega arith) in
          rw e (unfold opening each in refl)

  slots-falls : Falls 0xFF0 (slots_at lim plain at)
  unfolding slots_at
  slots-falls = opening-falls (words_from lim plain at)

  -- k slots of a run that has n
  front-sound : (n : ℕ) (l : List ℕ) → slots_at lim plain at ≡ slots_of plain at n → l ≡ take (length l) (slots_at lim plain at) → length l ≤ n → 0 < length l → 2 * n ≤ lim - at → Falls 0xFF0 l → Sound plain at (length l)
  front-sound n l e f k pos w d = record {
    within = omega arith;
    falls = subst (Falls 0xFF0) (f ∙ ap (take (length l)) e ∙ take-each (λ j. pair_at plain (at + 2 * j)) (length l) n k) d;
  }

  trimmed-sound : 0 < length (trim (slots_at lim plain at)) → Sound plain at (length (trim (slots_at lim plain at)))
  trimmed-sound pos =
      front-sound (length (slots_at lim plain at)) (trim (slots_at lim plain at)) slots-are (trim-front (slots_at lim plain at)) (trim-few (slots_at lim plain at)) pos (slots-few lim plain at) (trim-falls 0xFF0 (slots_at lim plain at) slots-falls)

  whole-sound : 0 < length (slots_at lim plain at) → Sound plain at (length (slots_at lim plain at))
  whole-sound pos =
      front-sound (length (slots_at lim plain at)) (slots_at lim plain at) slots-are (sym (take-length (slots_at lim plain at))) (omega arith) pos (slots-few lim plain at) slots-falls

scan-sound : (lim : ℕ) (plain : List ℕ) (s : ℕ) (d : Scan) → lim ≤ length plain → d ≡ scan_from lim plain s → 4 ≤ d.live → Sound plain d.start d.slots
unfolding scan_from
scan-sound lim plain s d le e h =
    let l : List ℕ = slots_at lim plain (array_start_of lim plain s) in
    let v : d.live ≡ live_of l = ap (λ (x : Scan). x.live) e in
    let pos : 0 < length (trim l) = omega (arith, live-few l) in
    subst (λ (x : Scan). Sound plain x.start x.slots) (sym e) (trimmed-sound lim plain (array_start_of lim plain s) le pos)

-- the scan's directory
pub scanned-sound : (lim : ℕ) (plain : List ℕ) (d : Scan) → scanned_directory lim plain ≡ Some d → Sound plain d.start d.slots
scanned-sound lim plain d q = go (leb (length plain) lim) refl
  where
    at : (m : ℕ) → m ≤ length plain → scanned_directory m plain ≡ Some d → Sound plain d.start d.slots
    at m le e = let b = scanned-best m plain d e in scan-sound m plain b.0.from d le b.0.is-scan b.1

    go : (b : Bool) → leb (length plain) lim ≡ b → Sound plain d.start d.slots
    go true h = at (length plain) (omega arith) (scanned-past lim plain (leb-true (length plain) lim h) ∙ q)
    go false h = let l : lim < length plain = leb-false (length plain) lim h in at lim (omega arith) q

-- and it has no more slots than pairs below the limit
scan-few : (lim : ℕ) (plain : List ℕ) (s : ℕ) (d : Scan) → d ≡ scan_from lim plain s → 2 * d.slots ≤ lim
unfolding scan_from
scan-few lim plain s d e =
    let l : List ℕ = slots_at lim plain (array_start_of lim plain s) in
    let v : d.slots ≡ length (trim l) = ap (λ (x : Scan). x.slots) e in
    omega (arith, trim-few l, slots-few lim plain (array_start_of lim plain s))

pub scanned-few : (lim : ℕ) (plain : List ℕ) (d : Scan) → scanned_directory lim plain ≡ Some d → 2 * d.slots ≤ lim
scanned-few lim plain d q = let b = scanned-best lim plain d q in scan-few lim plain b.0.from d b.0.is-scan

-- the one prelude
filled : (plain : List ℕ) (n s : ℕ) → whole n (run_of (declared_slots plain n s)) ≡ true → Sound plain s n
unfolding whole declared_slots
filled plain n s w =
    let end : ℕ = min (s + 2 * n) (data_end plain) in
    let l : List ℕ = slots_at end plain s in
    let v : 1 ≤ live_of l = leb-true 1 (live_of l) (and_left (leb 1 (live_of l)) (eqb (length l) n) w) in
    let pos : 0 < length l = omega (arith, live-few l, trim-few l) in
    subst (λ (x : ℕ). Sound plain s x) (eqb-true (length l) n (and_right (leb 1 (live_of l)) (eqb (length l) n) w)) (whole-sound end plain s (omega arith) pos)

pub prelude-sound : (lim : ℕ) (plain : List ℕ) (n s : ℕ) → prelude_of lim plain n ≡ prelude.One s → Sound plain s n
unfolding Tells
prelude-sound lim plain n s q = let t : Tells (Place lim plain n) plain n (prelude.One s) = subst (Tells (Place lim plain n) plain n) q (prelude-tells lim plain n) in filled plain n s t.0.fills
