-- DEMAND 3, on replacement: the kept summary is that of the final page, and on any summary one sector alone changes. Assumes nothing.
use Prim.Native.Nat.{ℕ, ◌+◌, ◌-◌, ◌*◌, ◌≤◌, ◌<◌}
use mathlib.Core.Path.{◌≡◌, sym, ap, ◌∙◌, subst}
use mathlib.Core.List.{List, [], ◌∷◌}
use mathlib.Core.Logic.{◌⊎◌, inl, inr, ⊎_elim}
use native.Mathlib.Decide.{ℕ_discrete, dec_lt}
use native.Mathlib.Omega.{arith}
use lib.ListN.{length, get_or, set, drop, length-set}
use lib.Seq.{get_or-set_same, get_or-set_other, ext_get_or, take_all, length-take-le}
use Rattle.std.specs.Prelude.{Some, None, Result}
use Rattle.std.specs.Result.{result_unwrap_or}
use Rattle.lists.specs.Pieces.{over}
use Rattle.lists.proofs.Over.{over-length, over-after}
use Rattle.lists.proofs.Each.{each-length, each_at}
use Rattle.lists.proofs.Joined.{joined-ext}
use Rattle.answers.specs.Answers.{Answer}
use Rattle.answers.specs.declared.kinds.Refusal.{Refusal}
use Rattle.answers.specs.declared.kinds.Refusal.TheVariants.{WrongPageLength, WrongBufferLength, BadReplacement}
use Rattle.sector.specs.Byte.{offset_of}
use Rattle.sector.specs.Fit.{fit_of, sector_of}
use Rattle.sector.specs.Scan.{blank_fit, blank_fits}
use Rattle.sector.specs.declared.fits.Fit.{Fit}
use Rattle.sector.proofs.Shifts.{sector-length}
use Rattle.summary.specs.Page.{sector_end, data_of, part, fit_at, bytes_at, fits_of, bytes_of, checked, page_scan_of, scanned}
use Rattle.summary.specs.Replace.{sector_answer, replace_answer, replaced, stored_after, shifted_after}
use Rattle.summary.specs.State.{State, Replacement, at_scan, after, after_all, Fresh, Whole, Taken, OneSector, sector_at}
use Rattle.summary.proofs.Parts.{part-here, part-other, sector-here, sector-other, sector-data, sector-part, sectors-whole, trailer-of, page-room}
use Rattle.summary.proofs.Sectors.{summary-length, summary-part}
use Rattle.summary.proofs.Outcomes.{checked-page, checked-room, checked-good, sector-above, sector-resized, sector-taken, scan-answer, scan-buffer, replace-answer, replace-stored, replace-shifted}

-- what a replacement that is accepted makes of a state
abbrev put : ℕ → State → Replacement → State
put number t r =
    record {
      stored = over t.stored (r.sector * 512) r.new;
      shifted = over t.shifted (r.sector * 512) (sector_of (offset_of number r.sector) (data_of r.sector r.new));
      fits = set t.fits r.sector (fit_of (offset_of number r.sector) (data_of r.sector r.new));
    }

module _ (number : ℕ) (t : State) (r : Replacement) where
  abbrev answer_to : Answer
  answer_to = replace_answer r.sector r.new (length t.stored) (length t.shifted)

  -- the state afterwards, by the answer
  pub taken-after : Taken t r → after number t r ≡ put number t r
  unfolding after
  taken-after k =
      let w : None ≡ answer_to = sector-taken r.sector r.new k.within k.sized ∙ checked-good _ _ (sector_answer r.sector r.new) k.whole k.buffer in
      sym
      (λ i. record {
        stored = replace-stored number r.sector r.new t.stored t.shifted t.fits None w i;
        shifted = replace-shifted number r.sector r.new t.stored t.shifted t.fits None w i;
        fits = result_unwrap_or (replace-answer number r.sector r.new t.stored t.shifted t.fits None w i) t.fits;
      })

  refused : (x : Refusal) → Some x ≡ answer_to → after number t r ≡ t
  unfolding after stored_after shifted_after replaced
  refused x w = rw (← w)

  -- a replacement is taken, or changes nothing
  pub taken-or-same : Taken t r ⊎ (after number t r ≡ t)
  taken-or-same = whole (ℕ_discrete (length t.stored) 4096)
    where
      s : ℕ
      s = r.sector

      size : length t.stored ≡ 4096 → length t.shifted ≡ 4080 → s < 8 → Dec (length r.new ≡ 512) → Taken t r ⊎ (after number t r ≡ t)
      size a b h (yes e) = inl (record { whole = a; buffer = b; within = h; sized = e })
      size a b h (no ne) = inr (refused (BadReplacement s) (sector-resized s r.new h ne ∙ checked-good _ _ (sector_answer s r.new) a b))

      within : length t.stored ≡ 4096 → length t.shifted ≡ 4080 → Dec (s < 8) → Taken t r ⊎ (after number t r ≡ t)
      within a b (yes h) = size a b h (ℕ_discrete (length r.new) 512)
      within a b (no h) = inr (refused (BadReplacement s) (sector-above s r.new (omega arith) ∙ checked-good _ _ (sector_answer s r.new) a b))

      buffer : length t.stored ≡ 4096 → Dec (length t.shifted ≡ 4080) → Taken t r ⊎ (after number t r ≡ t)
      buffer a (yes b) = within a b (dec_lt s 8)
      buffer a (no b) = inr (refused (WrongBufferLength (length t.shifted)) (checked-room (length t.stored) (length t.shifted) (sector_answer s r.new) a b))

      whole : Dec (length t.stored ≡ 4096) → Taken t r ⊎ (after number t r ≡ t)
      whole (yes a) = buffer a (ℕ_discrete (length t.shifted) 4080)
      whole (no a) = inr (refused (WrongPageLength (length t.stored)) (checked-page (length t.stored) (length t.shifted) (sector_answer s r.new) a))

  -- ON ANY SUMMARY, also another page's: one sector alone changes, and it becomes that of the new bytes
  module _ (k : Taken t r) (h : length t.fits ≡ 8) where
    s : ℕ
    s = r.sector

    new-data : List ℕ
    new-data = data_of s r.new

    ys : List ℕ
    ys = sector_of (offset_of number s) new-data

    long : length ys ≡ sector_end s - s * 512
    unfolding ys new-data s
    long = sector-length (offset_of number s) (data_of s r.new) ∙ length-take-le (sector_end s - s * 512) r.new (omega (arith, k.sized))

    bytes-room : s * 512 + length ys ≤ length t.shifted
    unfolding s
    bytes-room = omega (arith, long, k.within, k.buffer)

    stored-room : s * 512 + length r.new ≤ length t.stored
    unfolding s
    stored-room = page-room t.stored r.new r.sector k.within k.whole k.sized

    -- the trailer is the end of sector 7
    trailer-new : s ≡ 7 → drop 4080 (over t.stored (s * 512) r.new) ≡ drop 496 r.new
    unfolding s
    trailer-new e =
        let page : List ℕ = over t.stored (s * 512) r.new in
        trailer-of page (over-length t.stored r.new (s * 512) stored-room ∙ k.whole)
        ∙ ap (drop 496) (ap (λ (j : ℕ). sector_at j page) (sym e) ∙ sector-here t.stored r.new s stored-room k.sized)

    put_one : OneSector number r t (put number t r)
    unfolding ys new-data s
    put_one =
        record {
          fit-new = get_or-set_same t.fits s (fit_of (offset_of number s) new-data) blank_fit (omega (arith, k.within));
          shifted-new = part-here t.shifted ys s bytes-room (omega (arith, long)) ∙ take_all (sector_end s - s * 512) ys (omega (arith, long));
          stored-new = sector-here t.stored r.new s stored-room k.sized;
          trailer-new = trailer-new;
          fits_kept = λ j ne. get_or-set_other t.fits s j (fit_of (offset_of number s) new-data) blank_fit ne;
          shifted-kept = λ j q ne. part-other t.shifted ys s bytes-room (omega (arith, long)) j ne;
          stored-kept = λ j q ne. sector-other t.stored r.new s stored-room (omega (arith, k.sized)) j ne;
          trailer-kept = λ q. over-after t.stored r.new (s * 512) stored-room 4080 (omega (arith, q, k.sized));
          lengths-kept =
              record {
                page = over-length t.stored r.new (s * 512) stored-room ∙ k.whole;
                bytes = over-length t.shifted ys (s * 512) bytes-room ∙ k.buffer;
                eight = length-set t.fits s _ ∙ h;
              };
        }

    pub one-sector : OneSector number r t (after number t r)
    one-sector = subst (OneSector number r t) (sym (taken-after k)) put_one

-- sector k of the summary is that of the page
pub record FreshAt (number : ℕ) (t : State) (k : ℕ) : Type 0 where
  pub bytes : part k t.shifted ≡ bytes_at number t.stored k
  pub fit : get_or t.fits k blank_fit ≡ fit_at number t.stored k

-- a summary is fresh where each of its sectors is
module _ (number : ℕ) (t : State) where
  pub fresh-each : Fresh number t → (k : ℕ) → k < 8 → FreshAt number t k
  fresh-each f k h =
      record {
        bytes = ap (part k) f.bytes ∙ summary-part number t.stored f.whole k h;
        fit = ap (λ (l : List Fit). get_or l k blank_fit) f.kept ∙ each_at (fit_at number t.stored) 8 k blank_fit h;
      }

  pub fresh-all : Whole t → ((k : ℕ) → k < 8 → FreshAt number t k) → Fresh number t
  fresh-all w a =
      record {
        whole = w.page;
        bytes = sectors-whole t.shifted (omega (arith, w.bytes)) ∙ joined-ext _ _ 8 (λ k h. sector-part t.shifted k w.bytes h ∙ (a k h).bytes);
        kept =
            ext_get_or blank_fit t.fits (fits_of number t.stored) (w.eight ∙ sym (each-length (fit_at number t.stored) 8))
            (λ k h. let q : k < 8 = omega (arith, w.eight) in (a k q).fit ∙ sym (each_at (fit_at number t.stored) 8 k blank_fit q));
      }

-- the sector that is replaced becomes fresh, and the others stay so
module _ (number : ℕ) (r : Replacement) (t u : State) (c : OneSector number r t u) where
  new-fresh : FreshAt number u r.sector
  unfolding bytes_at fit_at
  new-fresh =
      let same : data_of r.sector r.new ≡ part r.sector u.stored = ap (data_of r.sector) (sym c.stored-new) ∙ sector-data u.stored r.sector in
      record { bytes = c.shifted-new ∙ ap (sector_of (offset_of number r.sector)) same; fit = c.fit-new ∙ ap (fit_of (offset_of number r.sector)) same }

  pub still-fresh : (k : ℕ) → k < 8 → (k ≡ r.sector) ⊎ FreshAt number t k → FreshAt number u k
  unfolding bytes_at fit_at
  still-fresh k h (inl e) = subst (FreshAt number u) (sym e) new-fresh
  still-fresh k h (inr f) = go (ℕ_discrete k r.sector)
    where
      go : Dec (k ≡ r.sector) → FreshAt number u k
      go (yes e) = subst (FreshAt number u) (sym e) new-fresh
      go (no ne) =
          let same : part k t.stored ≡ part k u.stored = sym (sector-data t.stored k) ∙ ap (data_of k) (sym (c.stored-kept k h ne)) ∙ sector-data u.stored k in
          record {
            bytes = c.shifted-kept k h ne ∙ f.bytes ∙ ap (sector_of (offset_of number k)) same;
            fit = c.fits_kept k ne ∙ f.fit ∙ ap (fit_of (offset_of number k)) same;
          }

pub fresh-whole : (number : ℕ) (t : State) → Fresh number t → Whole t
fresh-whole number t f =
    record {
      page = f.whole;
      bytes = ap length f.bytes ∙ summary-length number t.stored f.whole;
      eight = ap length f.kept ∙ each-length (fit_at number t.stored) 8;
    }

-- a fresh summary stays fresh
pub fresh-after : (number : ℕ) (t : State) (r : Replacement) → Fresh number t → Fresh number (after number t r)
fresh-after number t r f = ⊎_elim taken (λ e. subst (Fresh number) (sym e) f) (taken-or-same number t r)
  where
    taken : Taken t r → Fresh number (after number t r)
    taken k =
        let c : OneSector number r t (after number t r) = one-sector number t r k (fresh-whole number t f).eight in
        fresh-all number (after number t r) c.lengths-kept (λ j h. still-fresh number r t (after number t r) c j h (inr (fresh-each number t f j h)))

pub fresh-after-all : (number : ℕ) (rs : List Replacement) (t : State) → Fresh number t → Fresh number (after_all number t rs)
unfolding after_all
fresh-after-all number [] t f = f
fresh-after-all number (r ∷ rs) t f = fresh-after-all number rs (after number t r) (fresh-after number t r f)

-- a scan makes a fresh summary, and what is fresh is what a scan of its page makes
module _ (number : ℕ) (stored buffer : List ℕ) (hp : length stored ≡ 4096) (hb : length buffer ≡ 4080) where
  accepts : None ≡ checked (length stored) (length buffer) None
  accepts = checked-good (length stored) (length buffer) None hp hb

  scan-bytes : scanned number stored buffer ≡ bytes_of number stored
  scan-bytes = sym (scan-buffer number stored buffer None accepts)

  scan-fits : result_unwrap_or (page_scan_of number stored (length buffer)) blank_fits ≡ fits_of number stored
  scan-fits = sym (ap (λ (r : Result (List Fit) Refusal). result_unwrap_or r blank_fits) (scan-answer number stored buffer None accepts))

  pub fresh-scan : Fresh number (at_scan number stored buffer)
  fresh-scan = record { whole = hp; bytes = scan-bytes; kept = scan-fits }

pub fresh-is : (number : ℕ) (t : State) (buffer : List ℕ) → Fresh number t → length buffer ≡ 4080 → t ≡ at_scan number t.stored buffer
fresh-is number t buffer f hb =
    let b : t.shifted ≡ scanned number t.stored buffer = f.bytes ∙ sym (scan-bytes number t.stored buffer f.whole hb) in
    let k : t.fits ≡ result_unwrap_or (page_scan_of number t.stored (length buffer)) blank_fits = f.kept ∙ sym (scan-fits number t.stored buffer f.whole hb) in
    λ i. record { stored = t.stored; shifted = b i; fits = k i }

-- AFTER A SCAN AND ANY REPLACEMENTS under one page number, repeats and refused ones included, the kept summary is what a scan of the final page makes
pub scan-then-replace :
    (number : ℕ) (stored buffer : List ℕ) (rs : List Replacement)
    → length stored ≡ 4096
    → length buffer ≡ 4080
    → (other : List ℕ)
    → length other ≡ 4080
    → after_all number (at_scan number stored buffer) rs ≡ at_scan number (after_all number (at_scan number stored buffer) rs).stored other
scan-then-replace number stored buffer rs hp hb other ho =
    fresh-is number (after_all number (at_scan number stored buffer) rs) other (fresh-after-all number rs (at_scan number stored buffer) (fresh-scan number stored buffer hp hb)) ho
