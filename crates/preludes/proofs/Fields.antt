-- Laws of the prelude search. Assumes nothing.
use Prim.Native.Nat.{ℕ, zero, suc, ◌+◌, ◌-◌, ◌*◌, ◌≤◌, ◌<◌, min}
use mathlib.Core.Path.{◌≡◌, refl, sym, ap, ◌∙◌}
use mathlib.Core.List.{List}
use mathlib.Core.Bool.{Bool, true, false, ◌||◌, false≢true, and-false}
use native.Mathlib.Omega.{arith}
use native.Mathlib.Numerals.{add-one}
use native.Mathlib.Nat.{add-zero, add-suc}
use lib.ListN.{length}
use lib.Dec.{ltb, leb, eqb}
use borrow.Author.Tests.{eq-eqb, ne_eqb, le-leb, lt-leb, leb-true, leb-false}
use Rattle.lists.specs.Cases.{pick}
use Rattle.lists.specs.Bytes.{pair_at}
use Rattle.slots.specs.Slots.{slots_at}
use Rattle.slots.proofs.Words.{slots-few}
use Rattle.preludes.specs.Preludes.{data_end, declared_slots, run_of, whole, longer, first_noted, noted, gap_noted, field_noted, prelude_of, several}
use Rattle.preludes.specs.declared.search.Run.{Run}
use Rattle.preludes.specs.declared.search.Prelude.{Prelude}
use Rattle.preludes.specs.declared.search.Prelude.TheVariants.{Missing, Truncated, One, Several}
use Rattle.preludes.proofs.Runs.{no_run, slots-past}

-- the two tests of a run
module _ (n : ℕ) (r : Run) where
  pub not-whole : r.live ≡ 0 → false ≡ whole n r
  unfolding whole
  not-whole z = rw (lt-leb 1 r.live (omega arith)) refl

  pub maybe-whole : (r.live ≡ 0 → ⊥) → eqb r.taken n ≡ whole n r
  unfolding whole
  maybe-whole z = rw (le-leb 1 r.live (omega arith)) refl

  pub not-longer : r.live < 4 → false ≡ longer n r
  unfolding longer
  not-longer z = rw (lt-leb 4 r.live z) refl

  pub maybe-longer : 4 ≤ r.live → ltb n r.taken ≡ longer n r
  unfolding longer
  maybe-longer z = rw (le-leb 4 r.live z) refl

-- one run, by what was seen before it
module _ (n start : ℕ) (r : Run) (seen : Prelude) where
  pub first-whole : (found : ℕ) → whole n r ≡ true → One start ≡ first_noted n start r found seen
  first-whole found w = rw w refl

  pub first-cut : (found : ℕ) → whole n r ≡ false → longer found r ≡ true → Truncated r.taken (start + 2 * r.taken) ≡ first_noted n start r found seen
  first-cut found w l = rw (w, l) refl

  pub first-none : (found : ℕ) → whole n r ≡ false → longer found r ≡ false → seen ≡ first_noted n start r found seen
  first-none found w l = rw (w, l) refl

  pub noted-missing : (o : Prelude) → seen ≡ Missing → o ≡ first_noted n start r 0 seen → o ≡ noted n start r seen
  unfolding noted
  noted-missing o q e = rw q (rw q at e)

  pub noted-cut : (o : Prelude) (found stop : ℕ) → seen ≡ Truncated found stop → o ≡ first_noted n start r found (Truncated found stop) → o ≡ noted n start r seen
  unfolding noted
  noted-cut o found stop q e = rw q e

  module _ (s : ℕ) (q : seen ≡ One s) where
    pub noted-same : start ≡ s → One s ≡ noted n start r seen
    unfolding noted
    noted-same e = rw (q, eq-eqb start s e, and-false) refl

    pub noted-second : whole n r ≡ true → (start ≡ s → ⊥) → Several ≡ noted n start r seen
    unfolding noted
    noted-second w k = rw (q, w, ne_eqb start s k) refl

    pub noted-not : whole n r ≡ false → One s ≡ noted n start r seen
    unfolding noted
    noted-not w = rw (q, w) refl

  pub noted-several : seen ≡ Several → Several ≡ noted n start r seen
  unfolding noted
  noted-several q = rw q refl

noted-empty : (n start : ℕ) (seen : Prelude) → noted n start no_run seen ≡ seen
unfolding noted whole longer
noted-empty n start Missing = refl
noted-empty n start (Truncated found stop) = refl
noted-empty n start (One s) = refl
noted-empty n start Several = refl

-- the slots of a prelude
pub declared-at :
    (p : List ℕ) (n start end : ℕ) (r : Run) → end ≡ min (start + 2 * n) (data_end p) → r ≡ run_of (slots_at end p start) → r ≡ run_of (declared_slots p n start)
unfolding declared_slots
declared-at p n start end r e q = q ∙ ap (λ (k : ℕ). run_of (slots_at k p start)) e

declared-none : (p : List ℕ) (n start : ℕ) → data_end p ≤ start + 1 → run_of (declared_slots p n start) ≡ no_run
unfolding declared_slots
declared-none p n start h = sym (slots-past (min (start + 2 * n) (data_end p)) p start (omega arith))

pub declared-few : (p : List ℕ) (n start : ℕ) → length (declared_slots p n start) ≤ n
unfolding declared_slots
declared-few p n start = omega (arith, slots-few (min (start + 2 * n) (data_end p)) p start)

pub taken-few : (p : List ℕ) (n start : ℕ) (r : Run) → r ≡ run_of (declared_slots p n start) → r.taken ≤ n
taken-few p n start r e = let h : r.taken ≡ length (declared_slots p n start) = ap (λ (x : Run). x.taken) e in omega (arith, declared-few p n start)

-- the gaps of a field, one at a time
pub gaps_noted : List ℕ → ℕ → ℕ → ℕ → Prelude → Prelude
gaps_noted p n field zero seen = seen
gaps_noted p n field (suc k) seen = gap_noted p n field (4 + 2 * k) (gaps_noted p n field k seen)

module _ (p : List ℕ) (n field gap : ℕ) (seen : Prelude) where
  pub gap_other : (w : ℕ) → (gap ≡ 4 → ⊥) → w ≡ pair_at p (field + 4) → (w ≡ 0 → ⊥) → seen ≡ gap_noted p n field gap seen
  unfolding gap_noted
  gap_other w g e z = rw (← e, ne_eqb gap 4 g, ne_eqb w 0 z) refl

  module _ (r : Run) (o : Prelude) (f : r ≡ run_of (declared_slots p n (field + gap))) (q : o ≡ noted n (field + gap) r seen) where
    noted-there : o ≡ noted n (field + gap) (run_of (declared_slots p n (field + gap))) seen
    noted-there = q ∙ ap (λ (x : Run). noted n (field + gap) x seen) f

    pub gap-four : gap ≡ 4 → o ≡ gap_noted p n field gap seen
    unfolding gap_noted
    gap-four g = rw (eq-eqb gap 4 g) noted-there

    pub gap-six : (w : ℕ) → (gap ≡ 4 → ⊥) → w ≡ pair_at p (field + 4) → w ≡ 0 → o ≡ gap_noted p n field gap seen
    unfolding gap_noted
    gap-six w g e z = rw (← e, ne_eqb gap 4 g, eq-eqb w 0 z) noted-there

  -- behind the data there is nothing to note
  gap-past : data_end p ≤ field + gap + 1 → gap_noted p n field gap seen ≡ seen
  unfolding gap_noted
  gap-past h = go (eqb gap 4 || eqb (pair_at p (field + 4)) 0)
    where
      there : noted n (field + gap) (run_of (declared_slots p n (field + gap))) seen ≡ seen
      there = ap (λ (x : Run). noted n (field + gap) x seen) (declared-none p n (field + gap) h) ∙ noted-empty n (field + gap) seen

      go : (b : Bool) → pick b (noted n (field + gap) (run_of (declared_slots p n (field + gap))) seen) seen ≡ seen
      go true = there
      go false = refl

-- once several, always
several-is : (seen : Prelude) → several seen ≡ true → seen ≡ Several
several-is Missing e = absurd (false≢true e)
several-is (Truncated found stop) e = absurd (false≢true e)
several-is (One s) e = absurd (false≢true e)
several-is Several e = refl

gap-several : (p : List ℕ) (n field gap : ℕ) → gap_noted p n field gap Several ≡ Several
unfolding gap_noted noted
gap-several p n field gap = go (eqb gap 4 || eqb (pair_at p (field + 4)) 0)
  where
    go : (b : Bool) → pick b Several Several ≡ Several
    go true = refl
    go false = refl

-- what changes nothing at both gaps changes nothing at a field
field-stays : (p : List ℕ) (n field : ℕ) (seen : Prelude) → gap_noted p n field 4 seen ≡ seen → gap_noted p n field 6 seen ≡ seen → field_noted p n field seen ≡ seen
unfolding field_noted
field-stays p n field seen e f = ap (λ (x : Prelude). pick (eqb (pair_at p field) n) x seen) (ap (gap_noted p n field 6) e ∙ f) ∙ go (eqb (pair_at p field) n)
  where
    go : (b : Bool) → pick b seen seen ≡ seen
    go true = refl
    go false = refl

-- fields that change nothing
fields-stay : (p : List ℕ) (n f more : ℕ) (seen : Prelude) → ((k : ℕ) → f ≤ k → field_noted p n k seen ≡ seen) → prelude_of f p n ≡ seen → prelude_of (f + more) p n ≡ seen
unfolding prelude_of
fields-stay p n f zero seen h e = rw add-zero e
fields-stay p n f (suc more) seen h e = rw add-suc (ap (field_noted p n (f + more)) (fields-stay p n f more seen h e) ∙ h (f + more) (omega arith))

module _ (p : List ℕ) (n f w : ℕ) (e : w ≡ pair_at p f) where
  pub field-other : (seen : Prelude) → seen ≡ prelude_of f p n → (w ≡ n → ⊥) → seen ≡ prelude_of (f + 1) p n
  unfolding prelude_of field_noted
  field-other seen q k = rw (add-one, ← e, ne_eqb w n k) q

  module _ (g : w ≡ n) where
    field-gaps : prelude_of (f + 1) p n ≡ gaps_noted p n f 2 (prelude_of f p n)
    unfolding prelude_of field_noted gaps_noted
    field-gaps = rw (add-one, ← e, eq-eqb w n g) refl

    pub field-done : (k : ℕ) (seen : Prelude) → k ≤ 2 → 2 ≤ k → seen ≡ gaps_noted p n f k (prelude_of f p n) → seen ≡ prelude_of (f + 1) p n
    field-done k seen h l q =
        let z : k ≡ 2 = omega arith in
        q ∙ ap (λ (x : ℕ). gaps_noted p n f x (prelude_of f p n)) z ∙ sym field-gaps

    pub gap_more : (k : ℕ) (seen o : Prelude) → seen ≡ gaps_noted p n f k (prelude_of f p n) → o ≡ gap_noted p n f (4 + 2 * k) seen → o ≡ gaps_noted p n f (k + 1) (prelude_of f p n)
    unfolding gaps_noted
    gap_more k seen o q r = rw add-one (r ∙ ap (gap_noted p n f (4 + 2 * k)) q)

    at-two : (k more : ℕ) → gaps_noted p n f k (prelude_of f p n) ≡ Several → gaps_noted p n f (k + more) (prelude_of f p n) ≡ Several
    unfolding gaps_noted
    at-two k zero q = rw add-zero q
    at-two k (suc more) q = rw add-suc (ap (gap_noted p n f (4 + 2 * (k + more))) (at-two k more q) ∙ gap-several p n f (4 + 2 * (k + more)))

    pub left-early : (lim k : ℕ) (seen o : Prelude) → f < lim → k < 2 → seen ≡ gaps_noted p n f k (prelude_of f p n) → o ≡ gap_noted p n f (4 + 2 * k) seen → several o ≡ true → o ≡ prelude_of lim p n
    left-early lim k seen o h l q r s =
        let os : o ≡ Several = several-is o s in
        let a : gaps_noted p n f (k + 1) (prelude_of f p n) ≡ Several = sym (gap_more k seen o q r) ∙ os in
        let two : k + 1 + (2 - (k + 1)) ≡ 2 = omega arith in
        let b : gaps_noted p n f 2 (prelude_of f p n) ≡ Several = rw two at (at-two (k + 1) (2 - (k + 1)) a) in
        let all : f + 1 + (lim - (f + 1)) ≡ lim = omega arith in
        let d : prelude_of lim p n ≡ Several = rw all at (fields-stay p n (f + 1) (lim - (f + 1)) Several (λ x y. field-stays p n x Several (gap-several p n x 4) (gap-several p n x 6)) (field-gaps ∙ b)) in
        os ∙ sym d

pub prelude-none : (p : List ℕ) (n : ℕ) → Missing ≡ prelude_of 0 p n
unfolding prelude_of
prelude-none p n = refl

pub gaps-none : (p : List ℕ) (n f : ℕ) (seen : Prelude) → seen ≡ prelude_of f p n → seen ≡ gaps_noted p n f 0 (prelude_of f p n)
unfolding gaps_noted
gaps-none p n f seen q = q

-- the fields that have a pair behind them are all that count
pub fields-all : (p : List ℕ) (n lim fields : ℕ) (seen : Prelude) → fields ≡ min lim (data_end p - 5) → seen ≡ prelude_of fields p n → seen ≡ prelude_of lim p n
fields-all p n lim fields seen e q = go (leb lim fields) refl
  where
    past : (k : ℕ) (x : Prelude) → data_end p ≤ k + 5 → field_noted p n k x ≡ x
    past k x h = field-stays p n k x (gap-past p n k 4 x (omega arith)) (gap-past p n k 6 x (omega arith))

    go : (b : Bool) → leb lim fields ≡ b → seen ≡ prelude_of lim p n
    go true h =
        let l : lim ≤ fields = leb-true lim fields h in
        let z : fields ≡ lim = omega arith in
        q ∙ ap (λ (x : ℕ). prelude_of x p n) z
    go false h =
        let l : fields < lim = leb-false lim fields h in
        let z : fields + (lim - fields) ≡ lim = omega arith in
        sym (rw z at (fields-stay p n fields (lim - fields) seen (λ k m. past k seen (omega arith)) (sym q)))

-- the two ways out of `is_longer`
pub ruleset keeping = (not-longer, maybe-longer)
