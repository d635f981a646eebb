-- DEMAND 3, proved. Assumes nothing.
use Prim.Native.Nat.{ℕ, ◌*◌}
use mathlib.Core.Path.{◌≡◌, refl, ap, ap₂, ◌∙◌}
use mathlib.Core.List.{List, [], ◌∷◌}
use lib.ListN.{length}
use Rattle.lists.specs.Pieces.{over}
use Rattle.sector.specs.declared.fits.Fit.{Fit}
use Rattle.summary.specs.Page.{fits_of, bytes_of}
use Rattle.summary.specs.Replace.{if_replaced, stored_after}
use Rattle.summary.specs.State.{State, Replacement, Fresh, at_scan, after, after_all}
use Rattle.summary.proofs.Sectors.{summary-length}
use Rattle.summary.proofs.WholePages.{whole-page}
use Rattle.summary.proofs.Replacements.{fresh-scan, fresh-after, fresh-after-all, fresh-is, one-sector}
use Rattle.decode.specs.Decode.{decoding_of, supplied_decoding_of, written_of}
use Rattle.demands.specs.Demand3.{edited_by, edited, ReadAfresh, KeptFresh}

-- what is fresh is read afresh
read-afresh : (number : ℕ) (t : State) (stored : List ℕ) → Fresh number t → t.stored ≡ stored → ReadAfresh number t stored
read-afresh number t stored f e =
    let fits : t.fits ≡ fits_of number stored = f.kept ∙ ap (fits_of number) e in
    let bytes : t.shifted ≡ bytes_of number stored = f.bytes ∙ ap (bytes_of number) e in
    record {
      page = e;
      summary = λ buffer h. fresh-is number t buffer f h ∙ ap (λ (l : List ℕ). at_scan number l buffer) e;
      decoding =
          λ anchors o m.
          ap₂ (λ (g : List Fit) (l : List ℕ). decoding_of number t.stored g l anchors o m) fits bytes
          ∙ ap (λ (s : List ℕ). decoding_of number s (fits_of number stored) (bytes_of number stored) anchors o m) e;
      supplied =
          λ bv o m.
          ap₂ (λ (g : List Fit) (l : List ℕ). supplied_decoding_of number bv t.stored g l o m) fits bytes
          ∙ ap (λ (s : List ℕ). supplied_decoding_of number bv s (fits_of number stored) (bytes_of number stored) o m) e;
      written = λ d out. ap₂ (λ (s l : List ℕ). written_of d s l out) e bytes;
    }

-- the stored page of a fresh state is edited as one without a summary
stored-after : (number : ℕ) (t : State) (r : Replacement) → Fresh number t → (after number t r).stored ≡ edited_by t.stored r
unfolding after stored_after edited_by
stored-after number t r f =
    let room : length t.shifted ≡ 4080 = ap length f.bytes ∙ summary-length number t.stored f.whole in
    ap₂ (λ (n m : ℕ). if_replaced r.sector r.new n m (over t.stored (r.sector * 512) r.new) t.stored) f.whole room

stored-after-all : (number : ℕ) (rs : List Replacement) (t : State) → Fresh number t → (after_all number t rs).stored ≡ edited t.stored rs
unfolding after_all edited
stored-after-all number [] t f = refl
stored-after-all number (r ∷ rs) t f =
    stored-after-all number rs (after number t r) (fresh-after number t r f) ∙ ap (λ (l : List ℕ). edited l rs) (stored-after number t r f)

pub kept_fresh : KeptFresh
kept_fresh =
    record {
      afresh =
          λ number stored buffer rs hp hb.
          let f : Fresh number (at_scan number stored buffer) = fresh-scan number stored buffer hp hb in
          read-afresh number (after_all number (at_scan number stored buffer) rs) (edited stored rs)
          (fresh-after-all number rs (at_scan number stored buffer) f)
          (stored-after-all number rs (at_scan number stored buffer) f);
      others = one-sector;
      exchanged = whole-page;
    }
