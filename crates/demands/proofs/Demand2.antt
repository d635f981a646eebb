-- DEMAND 2, proved. Assumes nothing.
use Prim.Native.Nat.{ℕ, ◌+◌, ◌-◌, ◌*◌, ◌%◌, ◌≤◌, ◌<◌}
use mathlib.Core.Path.{◌≡◌, sym, ap, ap₂, ◌∙◌, subst}
use mathlib.Core.Bool.{true, false, ◌&&◌}
use Rattle.std.specs.Prelude.{Some, Result, Ok}
use mathlib.Core.List.{List}
use native.Mathlib.Omega.{arith}
use lib.ListN.{length, get_or, take, drop, length-append, length-drop}
use lib.Seq.{take_at, drop_at, get_or-drop}
use borrow.Author.Tests.{eq-eqb}
use Rattle.lists.specs.Bytes.{less, plain_of, AllBytes}
use Rattle.lists.specs.Counts.{count}
use Rattle.lists.proofs.Each.{each_at}
use Rattle.lists.proofs.AllBytes.{count-plain}
use Rattle.lists.proofs.Plain.{plain-length}
use Rattle.answers.specs.Settings.{limit_fits}
use Rattle.answers.proofs.Limits.{limit-within}
use Rattle.answers.specs.declared.settings.Options.{Options}
use Rattle.answers.specs.declared.trust.Evidence.TheVariants as evidence
use Rattle.answers.specs.declared.trust.Source.TheVariants as source
use Rattle.sector.specs.Byte.{offset_of, shifted_of}
use Rattle.sector.specs.Fit.{modal_at, fit_of, sector_of}
use Rattle.sector.specs.Scan.{blank_fit}
use Rattle.sector.specs.declared.fits.Fit.{Fit}
use Rattle.sector.proofs.Meaning.{fit-step, fit-here, fit-most, fit-first, fit-runner, fit-exact, fit-tied, tied-range, tied-runner, runner-tied}
use Rattle.page.specs.Trailer.{row_count_of}
use Rattle.page.specs.Integrity.{is_unallocated}
use Rattle.summary.specs.Page.{sector_end, part, fit_at, fits_of, bytes_of}
use Rattle.summary.proofs.Sectors.{summary-length, summary-at}
use Rattle.slots.specs.Slots.{row_count_matches, page_matches}
use Rattle.slots.proofs.Pages.{matches-data}
use Rattle.votes.specs.Votes.{candidate_of, assessment_of}
use Rattle.votes.specs.declared.Candidate.{Candidate}
use Rattle.votes.specs.declared.Assessment.{Assessment}
use Rattle.votes.proofs.Meaning.{counts-at}
use Rattle.choice.specs.declared.Choice.{Choice}
use Rattle.choice.specs.declared.Refused.{Refused}
use Rattle.groups.specs.declared.Group.TheVariants.{Others}
use Rattle.groups.specs.Groups.{group, most_of}
use Rattle.choice.specs.Rules.{choice_of}
use Rattle.choice.specs.Supplied.{supplied_of}
use Rattle.meanings.specs.Sources.{ByRowCount}
use Rattle.meanings.proofs.Sources.{choice-means}
use Rattle.meanings.proofs.Taken.{Chosen, chosen-stands}
use Rattle.verdict.specs.declared.Decoding.{Decoding}
use Rattle.verdict.specs.Sectors.{entry, refit_of}
use Rattle.decode.specs.Decode.{plain_page, written_of}
use Rattle.demands.specs.Demand2.{BestFit, Recovered, Evident, Recovers, last_of, read_page, read_with, left_in}
use Rattle.demands.proofs.StoredBytes.{back-shifted, plain_byte, summary-bytes, refit-fresh}
use Rattle.demands.proofs.Masses.{last-mass}
use Rattle.demands.proofs.Shapes.{Whole, decoding-whole, supplied-whole}

best-fit : (offset : ℕ) (l : List ℕ) → BestFit offset l (fit_of offset l)
unfolding sector_of
best-fit offset l =
    let here : modal_at offset l (fit_of offset l).step ≡ (fit_of offset l).peak = fit-here offset l in
    record {
      byte = fit-step offset l;
      most = λ k h. omega (arith, fit-most offset l k h);
      first = λ k h. omega (arith, fit-first offset l k h);
      peak = sym here;
      runner = sym (fit-runner offset l);
      exact = fit-exact offset l;
      tied = fit-tied offset l;
      tied-range = tied-range offset l;
      tied-runner = tied-runner offset l;
      runner-tied = runner-tied offset l;
    }

module _
    (number : ℕ)
    (stored out : List ℕ)
    (m lim : ℕ)
    (c : Result Choice Refused)
    (r : Result Decoding Refused)
    (w : Whole stored (bytes_of number stored) m lim c (refit_of (fits_of number stored) (bytes_of number stored)) r)
    (all : AllBytes stored)
    (used : is_unallocated stored ≡ false)
    (d : Decoding)
    (good : r ≡ Ok d)
  where
    abbrev shifted : List ℕ
    shifted = bytes_of number stored

    abbrev bv : ℕ
    bv = d.choice.bv

    abbrev written : List ℕ
    written = written_of (Ok d) stored shifted out

    long : length stored ≡ 4096
    long = (w.lengths d good).0

    plain-long : length (plain_of bv shifted) ≡ 4080
    plain-long = plain-length bv shifted ∙ (w.lengths d good).1.1

    written_is : written ≡ plain_page bv shifted stored
    unfolding written_of
    written_is = rw used

    taken_is : take 4080 written ≡ plain_of bv shifted
    taken_is = ap (take 4080) written_is ∙ take_at (plain_of bv shifted) (drop 4080 stored) 4080 plain-long

    fits-are : d.fits ≡ fits_of number stored
    fits-are = (w.accepted used d good).1 ∙ refit-fresh number stored long

    fit_is : (s : ℕ) → s < 8 → entry d.fits s ≡ fit_at number stored s
    fit_is s h = ap (λ (f : List Fit). entry f s) fits-are ∙ each_at (fit_at number stored) 8 s blank_fit h

    byte-is :
        (s i : ℕ)
        → s < 8
        → i < sector_end s - s * 512
        → get_or stored (s * 512 + i) 0 ≡ (get_or written (s * 512 + i) 0 + offset_of number s + i * (fit_at number stored s).step + bv) % 256
    byte-is s i h k =
        let at : ℕ = s * 512 + i in
        let step : ℕ = (fit_at number stored s).step in
        let e : get_or written at 0 ≡ less (shifted_of (get_or stored at 0) (offset_of number s) i step) bv =
        ap (λ (l : List ℕ). get_or l at 0) written_is
        ∙ plain_byte bv shifted (drop 4080 stored) at (omega (arith, summary-length number stored long))
        ∙ ap (λ (v : ℕ). less v bv) (summary-at number stored long s i h k) in
        back-shifted (get_or stored at 0) (offset_of number s) i step bv (all.at at (omega (arith, long)))
        ∙ ap (λ (v : ℕ). (v + offset_of number s + i * step + bv) % 256) (sym e)

    recovered : Recovered number stored d written
    unfolding fit_at
    recovered =
        record {
          bytes =
              λ s i h k.
              byte-is s i h k
              ∙ ap (λ (f : Fit). (get_or written (s * 512 + i) 0 + offset_of number s + i * f.step + bv) % 256) (sym (fit_is s h));
          trailer = ap (drop 4080) written_is ∙ drop_at (plain_of bv shifted) (drop 4080 stored) 4080 plain-long;
          whole =
              ap length written_is
              ∙ length-append (plain_of bv shifted) (drop 4080 stored)
              ∙ omega (arith, plain-long, length-drop 4080 stored, long);
          fits = fits-are;
          best = λ s h. subst (BestFit (offset_of number s) (part s stored)) (sym (fit_is s h)) (best-fit (offset_of number s) (part s stored));
        }

module _
    (number : ℕ)
    (stored anchors : List ℕ)
    (o : Options)
    (out : List ℕ)
    (all : AllBytes stored)
    (used : is_unallocated stored ≡ false)
    (d : Decoding)
    (good : read_page number stored anchors o (length out) ≡ Ok d)
  where
    abbrev n : ℕ
    n = row_count_of stored

    abbrev lim : ℕ
    lim = o.search_limit

    abbrev summary : List ℕ
    summary = bytes_of number stored

    abbrev a : Assessment
    a = assessment_of lim summary anchors n o.min_trailer_count

    abbrev c : Choice
    c = d.choice

    w : Whole stored summary (length out) lim (choice_of number summary anchors n o) (refit_of (fits_of number stored) summary) (read_page number stored anchors o (length out))
    w = decoding-whole number stored (fits_of number stored) summary o (length out) anchors

    abbrev written-page : List ℕ
    written-page = left_in out number stored (Ok d)

    read-recovered : Recovered number stored d written-page
    read-recovered = recovered number stored out (length out) lim (choice_of number summary anchors n o) (read_page number stored anchors o (length out)) w all used d good

    ruled : choice_of number summary anchors n o ≡ Ok c
    ruled = (w.accepted used d good).0

    summarized : AllBytes summary
    summarized = summary-bytes number stored (w.lengths d good).0

    chosen : Chosen lim summary anchors n o.min_trailer_count c
    chosen = chosen-stands number summary anchors n o summarized c ruled

    abbrev taken : Candidate
    taken = candidate_of lim summary anchors n o.min_trailer_count c.bv

    zeros-are : taken.zeros ≡ count 0 (take 4080 written-page)
    unfolding candidate_of
    zeros-are =
        counts-at summary c.bv chosen.byte
        ∙ sym (count-plain c.bv summary chosen.byte summarized)
        ∙ ap (count 0)
        (sym (taken_is number stored out (length out) lim (choice_of number summary anchors n o) (read_page number stored anchors o (length out)) w all used d good))

    page-is : written-page ≡ plain_page c.bv summary stored
    page-is = written_is number stored out (length out) lim (choice_of number summary anchors n o) (read_page number stored anchors o (length out)) w all used d good

    row-count-is : row_count_of written-page ≡ n
    row-count-is =
        sym (get_or-drop 4080 written-page 0 0) ∙ ap (λ (l : List ℕ). get_or l 0 0) read-recovered.trailer ∙ get_or-drop 4080 stored 0 0

    -- the source says that the data written pass the test; the trailer behind them plays no part in it
    written-passes :
        c.source ≡ source.TrailerRowCount
        → (0 < row_count_of written-page) × (page_matches lim written-page o.min_trailer_count ≡ true)
    unfolding page_matches
    written-passes h =
        let within : limit_fits lim ≡ true = w.limit d good in
        let most : lim ≤ 2048 = (limit-within lim within).1 in
        let said : ByRowCount number summary anchors n o c = (choice-means.said number summary anchors n o summarized).row_count c ruled h in
        let plain : List ℕ = plain_of c.bv summary in
        let long : length plain ≡ 4080 = plain-length c.bv summary ∙ (w.lengths d good).1.1 in
        let passes : row_count_matches lim plain n o.min_trailer_count ≡ true = said.sole.passes in (
          omega (arith, row-count-is, said.sole.rows),
          ap₂ ◌&&◌ (eq-eqb (length written-page) 4096 read-recovered.whole)
              (ap₂ ◌&&◌ within
              (ap₂ (λ (p : List ℕ) (k : ℕ). row_count_matches lim p k o.min_trailer_count) page-is row-count-is
              ∙ matches-data plain (drop 4080 stored) lim n o.min_trailer_count (omega arith)
              ∙ passes)),
        )

    read-evident : Evident number stored anchors o d written-page
    unfolding candidate_of
    read-evident =
        record {
          choice = ruled;
          byte = chosen.byte;
          passes = written-passes;
          mass =
              ap last_of chosen.grounds
              ∙ last-mass a taken
              ∙ ap (λ (z : ℕ). Some (evidence.ZeroMass z (z - most_of (group (Others c.bv) a)))) zeros-are;
        }

pub recovers : Recovers
recovers =
    record {
      read = λ number stored anchors o out all used d good. (
        read-recovered number stored anchors o out all used d good,
        read-evident number stored anchors o out all used d good,
      );
      supplied =
          λ number bv stored o out all used d good.
          let w = supplied-whole number stored (fits_of number stored) (bytes_of number stored) o (length out) bv in (
            recovered number stored out (length out) o.search_limit (supplied_of number bv (bytes_of number stored) (row_count_of stored) o) (read_with number bv stored o (length out)) w
                all used d good,
            (w.accepted used d good).0,
          );
    }
