-- What the prelude search finds, of all fields and gaps: the starts that fit, and the longest array that breaks off. Assumes nothing.
use Prim.Native.Nat.{ℕ, zero, suc, ◌+◌, ◌*◌, ◌≤◌, ◌<◌}
use mathlib.Core.Path.{◌≡◌, refl, sym, ap, subst, ◌∙◌}
use mathlib.Core.List.{List}
use mathlib.Core.Logic.{◌⊎◌, inl, inr, ⊎_elim}
use mathlib.Core.Bool.{Bool, true, false, ◌&&◌, not, false≢true}
use native.Mathlib.Omega.{arith}
use native.Mathlib.Nat.{not-suc-le-zero, eq-or-lt_of_le, le_of_suc-le-suc}
use lib.ListN.{length}
use lib.Dec.{ltb, leb, eqb}
use borrow.Author.Tests.{eqb-true, eqb-false, leb-true, leb-false, ltb-true, ltb-false}
use Rattle.lists.specs.Cases.{pick}
use Rattle.lists.specs.Bytes.{pair_at}
use Rattle.lists.proofs.Booleans.{and_left, and_right}
use Rattle.slots.specs.Slots.{live_of}
use Rattle.preludes.specs.Preludes.{declared_slots, run_of, whole, longer, first_noted, noted, gap_noted, field_noted, prelude_of}
use Rattle.preludes.specs.Starts.{Place, Before, Fits, Longest, Tells, PreludeTells}
use Rattle.preludes.specs.declared.search.Prelude.{Prelude}
use Rattle.preludes.specs.declared.search.Prelude.TheVariants.{Missing, Truncated, One, Several}
use Rattle.preludes.proofs.Fields.{maybe-whole, maybe-longer, declared-few}
use Rattle.preludes.proofs.Broken.{live-few, declared-breaks}

-- the array at a start, by the two tests
module _ (p : List ℕ) (n start : ℕ) where
  abbrev slots : List ℕ
  slots = declared_slots p n start

  cut_short : whole n (run_of slots) ≡ false → 4 ≤ live_of slots → length slots < n
  cut_short w l =
      let ne : length slots ≡ n → ⊥ = eqb-false (length slots) n (maybe-whole n (run_of slots) (λ z. omega arith) ∙ w) in
      omega (arith, ne, declared-few p n start)

  longer-live : (found : ℕ) → longer found (run_of slots) ≡ true → 4 ≤ live_of slots
  unfolding longer
  longer-live found e = leb-true 4 (live_of slots) (and_left (leb 4 (live_of slots)) (ltb found (length slots)) e)

  longer-more : (found : ℕ) → longer found (run_of slots) ≡ true → found < length slots
  unfolding longer
  longer-more found e = ltb-true found (length slots) (and_right (leb 4 (live_of slots)) (ltb found (length slots)) e)

  not-longer : (found : ℕ) → longer found (run_of slots) ≡ false → 4 ≤ live_of slots → length slots ≤ found
  not-longer found e l = ltb-false found (length slots) (maybe-longer found (run_of slots) l ∙ e)

  few-live : longer 0 (run_of slots) ≡ false → live_of slots < 4
  few-live e = go (leb 4 (live_of slots)) refl
    where
      go : (b : Bool) → leb 4 (live_of slots) ≡ b → live_of slots < 4
      go true q = let l : 4 ≤ live_of slots = leb-true 4 (live_of slots) q in absurd (omega (arith, l, live-few slots, not-longer 0 e l))
      go false q = leb-false 4 (live_of slots) q

-- the same places say the same
module _ (p : List ℕ) (n : ℕ) (P Q : ℕ → ℕ → Type 0) (keeps : (f g : ℕ) → P f g → Q f g) where
  fits_kept : (s : ℕ) → Fits P p n s → Fits Q p n s
  fits_kept s h = record { field = h.field; gap = h.gap; place = keeps h.field h.gap h.place; there = h.there; fills = h.fills }

module _ (p : List ℕ) (n : ℕ) (P Q : ℕ → ℕ → Type 0) (f : (x y : ℕ) → P x y → Q x y) (g : (x y : ℕ) → Q x y → P x y) where
  tells-same : (seen : Prelude) → Tells P p n seen → Tells Q p n seen
  unfolding Tells
  tells-same Missing h = (λ s q. h.0 s (fits_kept p n Q P g s q), λ x y q. h.1 x y (g x y q))
  tells-same (Truncated found stop) h =
      let l : Longest P p n found stop = h.1 in (
        λ s q. h.0 s (fits_kept p n Q P g s q),
        record {
          field = l.field;
          gap = l.gap;
          place = f l.field l.gap l.place;
          breaks = l.breaks;
          none-longer = λ x y q. l.none-longer x y (g x y q);
          earlier-shorter = λ x y q. l.earlier-shorter x y (g x y q);
        },
      )
  tells-same (One a) h = (fits_kept p n P Q f a h.0, λ s q. h.1 s (fits_kept p n Q P g s q))
  tells-same Several h = (h.0, (h.1.0, (fits_kept p n P Q f h.0 h.1.1.0, fits_kept p n P Q f h.1.0 h.1.1.1, h.1.1.2)))

before-not : (f g field gap : ℕ) → Before f g field gap → Before field gap f g → ⊥
before-not f g field gap (inl h) (inl k) = omega arith
before-not f g field gap (inl h) (inr k) = omega (arith, k.0)
before-not f g field gap (inr h) (inl k) = omega (arith, h.0)
before-not f g field gap (inr h) (inr k) = omega (arith, h.1, k.1)

before_self : (f g field gap : ℕ) → (f ≡ field) × (g ≡ gap) → Before f g field gap → ⊥
before_self f g field gap e (inl h) = omega (arith, e.0)
before_self f g field gap e (inr h) = omega (arith, e.1, h.1)

-- one more place, behind all that were seen
module _ (p : List ℕ) (n : ℕ) (P Q : ℕ → ℕ → Type 0) (field gap : ℕ) (keeps : (f g : ℕ) → P f g → Q f g) (splits : (f g : ℕ) → Q f g → P f g ⊎ ((f ≡ field) × (g ≡ gap))) (new : Q field gap) (after : (f g : ℕ) → P f g → Before f g field gap) where
  abbrev start : ℕ
  start = field + gap

  abbrev here : List ℕ
  here = declared_slots p n start

  abbrev full : Bool
  full = whole n (run_of here)

  -- none of some places has all of its slots; all before are shorter than this one
  abbrev None : (ℕ → ℕ → Type 0) → Type 0
  None At = (s : ℕ) → Fits At p n s → ⊥

  abbrev Shorter : Type 0
  Shorter = (f g : ℕ) → P f g → 4 ≤ live_of (declared_slots p n (f + g)) → length (declared_slots p n (f + g)) < length here

  fits-split : (s : ℕ) → Fits Q p n s → Fits P p n s ⊎ ((s ≡ start) × (full ≡ true))
  fits-split s h =
      ⊎_elim (λ q. inl (record { field = h.field; gap = h.gap; place = q; there = h.there; fills = h.fills }))
      (λ e. let z : s ≡ start = omega (arith, h.there, e.0, e.1) in inr (z, ap (λ (k : ℕ). whole n (run_of (declared_slots p n k))) (sym z) ∙ h.fills))
      (splits h.field h.gap h.place)

  fits-new : full ≡ true → Fits Q p n start
  fits-new e = record { field = field; gap = gap; place = new; there = refl; fills = e }

  none-fits : full ≡ false → None P → None Q
  none-fits e h s q = ⊎_elim (h s) (λ k. false≢true (sym e ∙ k.1)) (fits-split s q)

  -- what holds of the arrays before and of this one holds of all
  all-arrays : (A : ℕ → Type 0) → ((f g : ℕ) → P f g → A (f + g)) → A start → (f g : ℕ) → Q f g → A (f + g)
  all-arrays A old this f g q = ⊎_elim (old f g) (λ e. let z : start ≡ f + g = omega (arith, e.0, e.1) in subst A z this) (splits f g q)

  -- this one is the longest, if every other is shorter
  longest-new : full ≡ false → 4 ≤ live_of here → Shorter → Longest Q p n (length here) (start + 2 * length here)
  longest-new e live less = record {
    field = field;
    gap = gap;
    place = new;
    breaks = declared-breaks p n start live (cut_short p n start e live);
    none-longer =
        all-arrays (λ (k : ℕ). 4 ≤ live_of (declared_slots p n k) → length (declared_slots p n k) ≤ length here)
        (λ f g q l. let k : length (declared_slots p n (f + g)) < length here = less f g q l in omega arith) (λ l. omega arith);
    earlier-shorter = λ f g q b. ⊎_elim (less f g) (λ e. absurd (before_self f g field gap e b)) (splits f g q);
  }

  longest-kept : (found stop : ℕ) → longer found (run_of here) ≡ false → Longest P p n found stop → Longest Q p n found stop
  longest-kept found stop e l = record {
    field = l.field;
    gap = l.gap;
    place = keeps l.field l.gap l.place;
    breaks = l.breaks;
    none-longer =
        all-arrays (λ (k : ℕ). 4 ≤ live_of (declared_slots p n k) → length (declared_slots p n k) ≤ found) l.none-longer
        (not-longer p n start found e);
    earlier-shorter =
        λ f g q b. ⊎_elim (λ k. l.earlier-shorter f g k b) (λ e. absurd (not-before f g e b (after l.field l.gap l.place))) (splits f g q);
  }
    where
      not-before : (f g : ℕ) → (f ≡ field) × (g ≡ gap) → Before f g l.field l.gap → Before l.field l.gap field gap → ⊥
      not-before f g e b a =
          let same : Before l.field l.gap f gap = subst (λ (k : ℕ). Before l.field l.gap k gap) (sym e.0) a in
          before-not f g l.field l.gap b (subst (λ (k : ℕ). Before l.field l.gap f k) (sym e.1) same)

  tells_first :
      (seen : Prelude) (found : ℕ) → None P → (longer found (run_of here) ≡ true → Shorter)
      → (longer found (run_of here) ≡ false → None Q → Tells Q p n seen) → Tells Q p n (first_noted n start (run_of here) found seen)
  unfolding Tells
  tells_first seen found none less back = go full refl (longer found (run_of here)) refl
    where
      go :
          (b : Bool) → full ≡ b → (l : Bool) → longer found (run_of here) ≡ l
          → Tells Q p n (pick b (One start) (pick l (Truncated (length here) (start + 2 * length here)) seen))
      go true e l k = (fits-new e, λ s q. ⊎_elim (λ x. absurd (none s x)) (λ x. x.0) (fits-split s q))
      go false e true k = (none-fits e none, longest-new e (longer-live p n start found k) (less k))
      go false e false k = back k (none-fits e none)

  tells-one : (a : ℕ) → Fits P p n a → ((s : ℕ) → Fits P p n s → s ≡ a) → Tells Q p n (pick (full && not (eqb start a)) Several (One a))
  unfolding Tells
  tells-one a pa only = go full refl (eqb start a) refl
    where
      kept : Fits Q p n a
      kept = fits_kept p n P Q keeps a pa

      go : (b : Bool) → full ≡ b → (d : Bool) → eqb start a ≡ d → Tells Q p n (pick (b && not d) Several (One a))
      go true e true f = (kept, λ s q. ⊎_elim (only s) (λ k. k.0 ∙ eqb-true start a f) (fits-split s q))
      go true e false f = (start, (a, (fits-new e, kept, eqb-false start a f)))
      go false e d f = (kept, λ s q. ⊎_elim (only s) (λ k. absurd (false≢true (sym e ∙ k.1))) (fits-split s q))

  tells-noted : (seen : Prelude) → Tells P p n seen → Tells Q p n (noted n start (run_of here) seen)
  unfolding Tells noted
  tells-noted Missing h =
      tells_first Missing 0 h.0 (λ k f g q l. let few : live_of (declared_slots p n (f + g)) < 4 = h.1 f g q in absurd (omega arith))
      (λ k none. (none, all-arrays (λ (x : ℕ). live_of (declared_slots p n x) < 4) h.1 (few-live p n start k)))
  tells-noted (Truncated found stop) h =
      let l : Longest P p n found stop = h.1 in
      tells_first (Truncated found stop) found h.0 (λ k f g q x. omega (arith, l.none-longer f g q x, longer-more p n start found k))
      (λ k none. (none, longest-kept found stop k l))
  tells-noted (One a) h = tells-one a h.0 h.1
  tells-noted Several h = (h.0, (h.1.0, (fits_kept p n P Q keeps h.0 h.1.1.0, fits_kept p n P Q keeps h.1.0 h.1.1.1, h.1.1.2)))

module _ (p : List ℕ) (n f : ℕ) where
  -- the places below f, and that of gap 4 at f
  Half : ℕ → ℕ → Type 0
  Half x y = Place f p n x y ⊎ ((x ≡ f) × (y ≡ 4))

  later : (x y : ℕ) → Place f p n x y → Place (suc f) p n x y
  later x y h = record { below = omega (arith, h.below); holds = h.holds; gapped = h.gapped }

  earlier : (x y : ℕ) → Place (suc f) p n x y → x < f → Place f p n x y
  earlier x y h k = record { below = k; holds = h.holds; gapped = h.gapped }

  not-held : (pair_at p f ≡ n → ⊥) → (x y : ℕ) → Place (suc f) p n x y → Place f p n x y
  not-held k x y h = ⊎_elim (λ e. absurd (k (ap (pair_at p) (sym e) ∙ h.holds))) (earlier x y h) (eq-or-lt_of_le (le_of_suc-le-suc h.below))

  module _ (held : pair_at p f ≡ n) where
    half-four : (seen : Prelude) → Tells (Place f p n) p n seen → Tells Half p n (gap_noted p n f 4 seen)
    unfolding gap_noted Half
    half-four seen h = tells-noted p n (Place f p n) Half f 4 (λ x y q. inl q) (λ x y q. q) (inr (refl, refl)) (λ x y q. inl q.below) seen h

    all-four : (x y : ℕ) → Half x y → Place (suc f) p n x y
    unfolding Half
    all-four x y q = ⊎_elim (later x y) (λ e. record { below = omega (arith, e.0); holds = ap (pair_at p) e.0 ∙ held; gapped = inl e.1 }) q

    -- a place of the fields up to f: below f, of gap 4, or of gap 6
    three : (x y : ℕ) → Place (suc f) p n x y → Half x y ⊎ ((x ≡ f) × (y ≡ 6) × (pair_at p (f + 4) ≡ 0))
    unfolding Half
    three x y h =
        ⊎_elim (λ e. ⊎_elim (λ g. inl (inr (e, g))) (λ g. inr (e, g.0, ap (λ (k : ℕ). pair_at p (k + 4)) (sym e) ∙ g.1)) h.gapped)
        (λ k. inl (inl (earlier x y h k))) (eq-or-lt_of_le (le_of_suc-le-suc h.below))

    before-six : (x y : ℕ) → Half x y → Before x y f 6
    unfolding Half
    before-six x y q = ⊎_elim (λ h. inl h.below) (λ e. inr (e.0, omega (arith, e.1))) q

    full-six : (seen : Prelude) → Tells Half p n seen → Tells (Place (suc f) p n) p n (gap_noted p n f 6 seen)
    unfolding gap_noted
    full-six seen h = go (eqb (pair_at p (f + 4)) 0) refl
      where
        go : (b : Bool) → eqb (pair_at p (f + 4)) 0 ≡ b → Tells (Place (suc f) p n) p n (pick b (noted n (f + 6) (run_of (declared_slots p n (f + 6))) seen) seen)
        go true e =
            tells-noted p n Half (Place (suc f) p n) f 6 all-four (λ x y q. ⊎_elim (λ k. inl k) (λ k. inr (k.0, k.1)) (three x y q))
            (record { below = omega arith; holds = held; gapped = inr (refl, eqb-true (pair_at p (f + 4)) 0 e) }) before-six seen h
        go false e =
            tells-same p n Half (Place (suc f) p n) all-four
            (λ x y q. ⊎_elim (λ k. k) (λ k. absurd (eqb-false (pair_at p (f + 4)) 0 e k.2)) (three x y q)) seen h

  field-tells : (seen : Prelude) → Tells (Place f p n) p n seen → Tells (Place (suc f) p n) p n (field_noted p n f seen)
  unfolding field_noted
  field-tells seen h = go (eqb (pair_at p f) n) refl
    where
      go : (b : Bool) → eqb (pair_at p f) n ≡ b → Tells (Place (suc f) p n) p n (pick b (gap_noted p n f 6 (gap_noted p n f 4 seen)) seen)
      go true e = let held : pair_at p f ≡ n = eqb-true (pair_at p f) n e in full-six held (gap_noted p n f 4 seen) (half-four held seen h)
      go false e = tells-same p n (Place f p n) (Place (suc f) p n) later (not-held (eqb-false (pair_at p f) n e)) seen h

-- the theorem
pub prelude-tells : (lim : ℕ) (p : List ℕ) (n : ℕ) → Tells (Place lim p n) p n (prelude_of lim p n)
unfolding prelude_of Tells
prelude-tells zero p n = (λ s h. not-suc-le-zero h.place.below, λ f g h. absurd (not-suc-le-zero h.below))
prelude-tells (suc f) p n = field-tells p n f (prelude_of f p n) (prelude-tells f p n)

pub prelude-means : PreludeTells
prelude-means = record { tells = prelude-tells }
