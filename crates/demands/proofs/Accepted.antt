-- WHAT IS ACCEPTED, proved. Assumes nothing.
use Prim.Native.Nat.{ℕ, ◌+◌, ◌-◌, ◌*◌, ◌/◌, ◌%◌, ◌<◌}
use mathlib.Core.Path.{◌≡◌, refl, sym, ap, ◌∙◌, subst}
use mathlib.Core.Bool.{true}
use mathlib.Core.List.{List}
use native.Mathlib.Omega.{arith}
use lib.ListN.{length}
use Rattle.lists.specs.Bytes.{byte_at}
use Rattle.lists.specs.Counts.{all_same}
use Rattle.lists.proofs.Each.{each_at}
use Rattle.lists.proofs.Same.{same-each}
use Rattle.std.specs.Prelude.{None, Result, Ok, IsOkAnd}
use Rattle.answers.specs.Settings.{keystream, limit_fits}
use Rattle.answers.specs.Tables.{empty}
use Rattle.answers.specs.Warns.{Warnings}
use Rattle.answers.specs.declared.settings.Options.{Options}
use Rattle.answers.specs.declared.trust.Confidence.{Confidence}
use Rattle.answers.specs.declared.trust.Confidence.TheVariants as confidence
use Rattle.answers.specs.declared.trust.Source.{Source}
use Rattle.answers.specs.declared.trust.Source.TheVariants as source
use Rattle.sector.specs.Byte.{offset_of}
use Rattle.sector.specs.Fit.{confident_of}
use Rattle.sector.specs.Scan.{blank_fit}
use Rattle.sector.specs.declared.fits.Fit.{Fit}
use Rattle.page.specs.Trailer.{row_count_of}
use Rattle.summary.specs.Page.{sector_end, part, fit_at, bytes_at, fits_of, bytes_of}
use Rattle.summary.proofs.Parts.{part_length, part_at, joined_at}
use Rattle.summary.proofs.Sectors.{bytes-sized, summary-length, summary-exact}
use Rattle.choice.specs.declared.Choice.{Choice}
use Rattle.choice.specs.declared.Refused.{Refused}
use Rattle.choice.specs.Rules.{choice_of}
use Rattle.meanings.specs.Sources.{SoleVerified, Marked, ByRowCount}
use Rattle.meanings.proofs.Sources.{choice-means}
use Rattle.verdict.specs.declared.Decoding.{Decoding}
use Rattle.verdict.specs.Sectors.{entry, sector_warnings}
use Rattle.demands.specs.Demand2.{read_page}
use Rattle.demands.specs.Accepted.{GoodPage, Confident, ReadAs, OneValue, Keyed, Accepts}
use Rattle.demands.proofs.Refusals.{ok-here}
use Rattle.demands.proofs.StoredBytes.{summary-bytes}
use Rattle.demands.proofs.KeyedSectors.{sector-keyed}
use Rattle.demands.proofs.SoundPages.{page-sure, page-lenient}

module _ (number : ℕ) (stored : List ℕ) (bv : ℕ) (whole : length stored ≡ 4096) where
  -- ---- a page that was written with bv

  module _ (keyed : Keyed number stored bv) where
    keyed-at : (s i : ℕ) → s < 8 → i < sector_end s - s * 512 → byte_at (bytes_of number stored) (s * 512 + i) ≡ bv
    unfolding bytes_at
    keyed-at s i h k =
        let long : length (part s stored) ≡ sector_end s - s * 512 = part_length stored s (omega arith) in
        joined_at (bytes_at number stored) (bytes-sized number stored whole) 8 s i h (omega arith) k
        ∙ sector-keyed (offset_of number s) bv (keyed.step s) (part s stored) keyed.byte (keyed.small s h) (omega arith)
        (λ j q. part_at stored s j (omega arith) ∙ keyed.at s j h (omega arith)) i (omega arith)

    one_value : OneValue number stored bv
    one_value =
        record {
          at =
              λ k h.
              let e : k / 512 * 512 + k % 512 ≡ k = omega arith in
              subst (λ (j : ℕ). byte_at (bytes_of number stored) j ≡ bv) e (keyed-at (k / 512) (k % 512) (omega arith) (omega arith));
        }

  -- ---- of one value: every sector is exact

  module _ (one : OneValue number stored bv) where
    exact-at : (s : ℕ) → s < 8 → all_same (part s (bytes_of number stored)) ≡ true
    exact-at s h =
        let long : length (part s (bytes_of number stored)) ≡ sector_end s - s * 512 =
        part_length (bytes_of number stored) s (omega (arith, summary-length number stored whole)) in
        same-each bv (part s (bytes_of number stored))
        (λ i k. part_at (bytes_of number stored) s i (omega arith) ∙ one.at (s * 512 + i) (omega arith))

    confident : Confident (fits_of number stored)
    confident =
        record {
          at =
              λ s h.
              let is : entry (fits_of number stored) s ≡ fit_at number stored s = each_at (fit_at number stored) 8 s blank_fit h in
              ap confident_of is ∙ exact-confident (fit_at number stored s) (sym (summary-exact number stored whole s h) ∙ exact-at s h);
        }
      where
        exact-confident : (f : Fit) → f.exact ≡ true → confident_of f ≡ true
        exact-confident f e = rw e

-- ---- the page is read

module _
    (number : ℕ)
    (stored anchors : List ℕ)
    (o : Options)
    (bv : ℕ)
    (sound : GoodPage number stored)
    (within : limit_fits o.search_limit ≡ true)
  where
    abbrev shifted : List ℕ
    shifted = bytes_of number stored

    abbrev n : ℕ
    n = row_count_of stored

    abbrev c : Result Choice Refused
    c = choice_of number shifted anchors n o

    abbrev r : Result Decoding Refused
    r = read_page number stored anchors o 4096

    abbrev fits : List Fit
    fits = fits_of number stored

    -- a decoding that has the choice, and the choice's marks
    accepted :
        (x : Choice) (s : Source) (k : Confidence) (ws : Warnings)
        → r ≡ Ok (record { choice = x; fits = fits; warnings = ws })
        → Marked x s k None
        → x.bv ≡ bv
        → ReadAs r bv s k ws
    accepted x s k ws e m v =
        record {
          read = record { choice = x; fits = fits; warnings = ws };
          answered = e;
          value = v;
          from = m.from;
          trusted = m.trusted;
          warned = refl;
        }

    read-exact : n ≡ 0 → OneValue number stored bv → ReadAs r bv source.ExactSectors confidence.Calibrated empty
    read-exact none one =
        let long : length shifted ≡ 4080 = summary-length number stored sound.whole in
        let small : bv < 256 = subst (λ (v : ℕ). v < 256) (one.at 0 (omega arith)) ((summary-bytes number stored sound.whole).at 0 (omega arith)) in
        let made =
        choice-means.all-exact number shifted anchors o bv long within small
        (λ s h. (exact-at number stored bv sound.whole one s h, one.at (s * 512) (omega arith))) in
        let same : choice_of number shifted anchors 0 o ≡ c = ap (λ (m : ℕ). choice_of number shifted anchors m o) (sym none) in
        let w = ok-here (choice_of number shifted anchors 0 o) made in
        let m : Marked w.0 source.ExactSectors confidence.Calibrated None = w.2.0.marked in
        accepted w.0 source.ExactSectors confidence.Calibrated empty
        (page-sure number stored anchors o sound within w.0 (sym same ∙ w.1) m.warned (confident number stored bv sound.whole one)) m w.2.1

    module _ (sole : SoleVerified o.search_limit shifted anchors n o.min_trailer_count bv) where
      taken : IsOkAnd c (λ x. ByRowCount number shifted anchors n o x × (x.bv ≡ bv))
      taken =
          (choice-means.made number shifted anchors n o).row_count
          (record { long = summary-length number stored sound.whole; within = within; bytes = summary-bytes number stored sound.whole }) bv sole

      read-verified : Confident fits → ReadAs r bv source.TrailerRowCount confidence.Verified empty
      read-verified sure =
          let w = ok-here c taken in
          let m : Marked w.0 source.TrailerRowCount confidence.Verified None = w.2.0.marked in
          accepted w.0 source.TrailerRowCount confidence.Verified empty (page-sure number stored anchors o sound within w.0 w.1 m.warned sure) m w.2.1

      read-let-through : keystream o ≡ true → ReadAs r bv source.TrailerRowCount confidence.Verified (sector_warnings number fits empty 8)
      read-let-through l =
          let w = ok-here c taken in
          let m : Marked w.0 source.TrailerRowCount confidence.Verified None = w.2.0.marked in
          accepted w.0 source.TrailerRowCount confidence.Verified (sector_warnings number fits empty 8)
          (page-lenient number stored anchors o sound within w.0 w.1 m.warned l) m w.2.1

pub accepts : Accepts
accepts =
    record {
      keyed = one_value;
      exact = read-exact;
      verified = λ number stored anchors o bv sound within sure sole. read-verified number stored anchors o bv sound within sole sure;
      let_through = λ number stored anchors o bv sound within l sole. read-let-through number stored anchors o bv sound within sole l;
    }
