-- The cases of a decoding, one law to a case: what it is, and what it leaves in out. Assumes nothing.
use Rattle.std.proofs.Common.{Option, Some, None, Result, Ok, Err, ◌≡◌, ℕ, Bool, true, false, eqb, List, length, sym, refl, ap, ◌∙◌, eq-eqb, ne_eqb, eqb-true}
use native.Mathlib.Decide.{ℕ_discrete}
use Rattle.lists.specs.Cases.{pick}
use Rattle.answers.specs.Answers.{Answer}
use Rattle.answers.specs.Settings.{limit_fits}
use Rattle.answers.specs.declared.kinds.Refusal.{Refusal}
use Rattle.answers.specs.declared.kinds.Refusal.TheVariants.{WrongPageLength, WrongBufferLength, LimitOutOfRange}
use Rattle.answers.specs.declared.settings.Options.{Options}
use Rattle.sector.specs.declared.fits.Fit.{Fit}
use Rattle.page.specs.Trailer.{row_count_of}
use Rattle.page.specs.Integrity.{is_unallocated, written_integrity}
use Rattle.page.proofs.Verdicts.{on-written}
use Rattle.summary.specs.Page.{fits_of, bytes_of, page_scan_of, scanned}
use Rattle.summary.proofs.Sectors.{summary-length}
use Rattle.choice.specs.declared.Refused.{Refused}
use Rattle.choice.specs.Rules.{refusal, unless_refused}
use Rattle.verdict.specs.declared.Decoding.{Decoding}
use Rattle.verdict.specs.Verdict.{unallocated_of, verdict_by, verdict_of}
use Rattle.verdict.proofs.DecisionCases.{verdict-refused}
use Rattle.decode.specs.Decode.{entry_answer, entry_checked, early_of, early_by}

-- ---- lengths and limit

pub entry-right :
    (n m k lim : ℕ) → None ≡ entry_answer n m k lim → (n ≡ 4096) × (m ≡ 4096) × (k ≡ 4080) × (limit_fits lim ≡ true)
unfolding entry_answer
entry-right n m k lim = go (eqb n 4096) refl (eqb m 4096) refl (eqb k 4080) refl (limit_fits lim) refl
  where
    go :
        (a : Bool)
        → eqb n 4096 ≡ a
        → (b : Bool)
        → eqb m 4096 ≡ b
        → (c : Bool)
        → eqb k 4080 ≡ c
        → (d : Bool)
        → limit_fits lim ≡ d
        → None
        ≡ pick a
        (pick b (pick c (pick d None (Some (LimitOutOfRange lim))) (Some (WrongBufferLength k))) (Some (WrongBufferLength m)))
        (Some (WrongPageLength n))
        → (n ≡ 4096) × (m ≡ 4096) × (k ≡ 4080) × (limit_fits lim ≡ true)
    go true p true q true r true f h = (eqb-true n 4096 p, eqb-true m 4096 q, eqb-true k 4080 r, f)
    go true p true q true r false f h = absurd cc
    go true p true q false r d f h = absurd cc
    go true p false q c r d f h = absurd cc
    go false p b q c r d f h = absurd cc

own-entry :
    (number m lim : ℕ) (stored : List ℕ) → entry_answer (length stored) m 4080 lim ≡ entry_answer (length stored) m (length (bytes_of number stored)) lim
unfolding entry_answer
own-entry number m lim stored = go (ℕ_discrete (length stored) 4096)
  where
    go :
        Dec (length stored ≡ 4096) → entry_answer (length stored) m 4080 lim ≡ entry_answer (length stored) m (length (bytes_of number stored)) lim
    go (yes e) = ap (λ (k : ℕ). entry_answer (length stored) m k lim) (sym (summary-length number stored e))
    go (no n) = rw (ne_eqb (length stored) 4096 n)

-- ---- a page that was written

pub verdict-written :
    (number : ℕ) (stored : List ℕ) (fits : List Fit) (xs anchors : List ℕ) (o : Options)
    → is_unallocated stored ≡ false
    → verdict_of number stored fits xs anchors o ≡ verdict_by number (written_integrity number stored) (row_count_of stored) fits xs anchors o
unfolding verdict_of
verdict-written number stored fits xs anchors o z =
    ap (λ (y : Answer). verdict_by number y (row_count_of stored) fits xs anchors o) (on-written number stored z)

-- ---- what is answered before anything is decided

module _ (stored : List ℕ) (m k lim : ℕ) where
  pub early-refused : (x : Refusal) → Some x ≡ entry_answer (length stored) m k lim → Err x ≡ early_of stored m k lim
  unfolding early_of
  early-refused x e = rw (← e)

  pub early-zeros : None ≡ entry_answer (length stored) m k lim → is_unallocated stored ≡ true → Ok true ≡ early_of stored m k lim
  unfolding early_of
  early-zeros e z = rw (← e, z)

  pub early-none : None ≡ entry_answer (length stored) m k lim → is_unallocated stored ≡ false → Ok false ≡ early_of stored m k lim
  unfolding early_of
  early-none e z = rw (← e, z)

  -- the lengths and the limit are right, and zeros says whether the page is unallocated
  pub record IsLeft (zeros : Bool) : Type 0 where
    pub accepted : None ≡ entry_answer (length stored) m k lim
    pub seen : is_unallocated stored ≡ zeros

  pub early-left : (y : Bool) → Ok y ≡ early_of stored m k lim → IsLeft y
  unfolding early_of
  early-left y h = go (entry_answer (length stored) m k lim) refl h
    where
      go : (x : Answer) → entry_answer (length stored) m k lim ≡ x → Ok y ≡ early_by x (is_unallocated stored) → IsLeft y
      go None p f = record { accepted = sym p; seen = cc }
      go (Some x) p f = absurd cc

  -- so that the lengths are right
  module _ (y : Bool) (h : Ok y ≡ early_of stored m k lim) where
    pub left-stored : length stored ≡ 4096
    left-stored = (entry-right _ _ _ _ (early-left y h).accepted).0

    pub left-out : m ≡ 4096
    left-out = (entry-right _ _ _ _ (early-left y h).accepted).1

    pub left-shifted : k ≡ 4080
    left-shifted = (entry-right _ _ _ _ (early-left y h).accepted).2

pub ruleset entering = (entry-right, early-refused, early-zeros, early-none)

-- a page's own summary has 4,080 bytes
pub own-early :
    (number m lim : ℕ) (stored : List ℕ) → early_of stored m 4080 lim ≡ early_of stored m (length (bytes_of number stored)) lim
unfolding early_of
own-early number m lim stored = ap (λ (x : Answer). early_by x (is_unallocated stored)) (own-entry number m lim stored)

-- ---- what is decided, and what out holds; w is what is decided of a written page

module _ (w : Result Decoding Refused) (stored xs : List ℕ) (m lim : ℕ) where
  pub checked-refused : (x : Refusal) → Err x ≡ early_of stored m (length xs) lim → entry_checked stored xs m lim w ≡ Err (refusal x)
  unfolding early_of entry_checked
  checked-refused x = go (entry_answer (length stored) m (length xs) lim) (is_unallocated stored)
    where
      go : (y : Answer) (b : Bool) → Err x ≡ early_by y b → unless_refused y (pick b (Ok unallocated_of) w) ≡ Err (refusal x)
      go None b f = absurd cc
      go (Some y) b f = cc

  module _ (y : Bool) (h : Ok y ≡ early_of stored m (length xs) lim) where
    pub checked-zeros : y ≡ true → entry_checked stored xs m lim w ≡ Ok unallocated_of
    unfolding entry_checked
    checked-zeros e =
        let l = early-left stored m (length xs) lim y h in
        rw (← l.accepted, l.seen ∙ e)

    pub checked-page : y ≡ false → entry_checked stored xs m lim w ≡ w
    unfolding entry_checked
    checked-page e =
        let l = early-left stored m (length xs) lim y h in
        rw (← l.accepted, l.seen ∙ e)

module _ (stored : List ℕ) (m k lim : ℕ) (y : Bool) (h : Ok y ≡ early_of stored m k lim) where
  pub zeros-here : y ≡ true → is_unallocated stored ≡ true
  zeros-here e = (early-left stored m k lim y h).seen ∙ e

  pub written-here : y ≡ false → is_unallocated stored ≡ false
  written-here e = (early-left stored m k lim y h).seen ∙ e

-- by its own scan
module _ (number : ℕ) (stored : List ℕ) (w : Result Decoding Refused) (m lim : ℕ) where
  pub own-refused : (x : Refusal) → Err x ≡ early_of stored m 4080 lim → entry_checked stored (bytes_of number stored) m lim w ≡ Err (refusal x)
  own-refused x h = checked-refused w stored (bytes_of number stored) m lim x (h ∙ own-early number m lim stored)

  module _ (y : Bool) (h : Ok y ≡ early_of stored m 4080 lim) where
    pub own-zeros : y ≡ true → entry_checked stored (bytes_of number stored) m lim w ≡ Ok unallocated_of
    own-zeros e = checked-zeros w stored (bytes_of number stored) m lim y (h ∙ own-early number m lim stored) e

    pub own-page : y ≡ false → entry_checked stored (bytes_of number stored) m lim w ≡ w
    own-page e = checked-page w stored (bytes_of number stored) m lim y (h ∙ own-early number m lim stored) e

-- what is scanned into room of the right length is the page's own summary
module _ (number : ℕ) (stored : List ℕ) (n : length stored ≡ 4096) where
  pub scan-fits : (k : ℕ) → k ≡ 4080 → page_scan_of number stored k ≡ Ok (fits_of number stored)
  unfolding page_scan_of
  scan-fits k e = rw (eq-eqb (length stored) 4096 n, eq-eqb k 4080 e)

  pub scan-bytes : (buffer : List ℕ) → length buffer ≡ 4080 → scanned number stored buffer ≡ bytes_of number stored
  unfolding scanned
  scan-bytes buffer e = rw (eq-eqb (length stored) 4096 n, eq-eqb (length buffer) 4080 e)

-- what a decoding from a summary ends by, and one by its own scan
pub ruleset ending = (checked-refused, checked-zeros, checked-page, zeros-here, written-here, left-stored, left-out, left-shifted, verdict-written)

pub ruleset owning = (own-refused, own-zeros, own-page, zeros-here, written-here, left-stored, left-out, scan-fits, scan-bytes, verdict-written, verdict-refused)
