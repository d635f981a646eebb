-- Laws of a call: the answer buffer is too short, what is lent as fits is none, or the answer is told. Assumes nothing.
use Prim.Native.Nat.{ℕ, ◌≤◌, ◌<◌}
use mathlib.Core.Path.{◌≡◌, refl, sym, ap, ap₂, ◌∙◌}
use mathlib.Core.Bool.{Bool, true, false, ◌&&◌}
use mathlib.Core.List.{List, []}
use native.Mathlib.Omega.{arith}
use borrow.Author.Tests.{lt-leb, le-leb}
use lib.ListN.{length}
use Rattle.std.specs.Prelude.{Result}
use Rattle.lists.specs.Cases.{pick}
use Rattle.lists.proofs.Over.{over_none}
use Rattle.answers.specs.declared.kinds.Refusal.{Refusal}
use Rattle.sector.specs.declared.fits.Fit.{Fit}
use Rattle.summary.specs.Page.{page_scan_of, scanned}
use Rattle.summary.specs.Replace.{replaced, stored_after, shifted_after}
use Rattle.decode.specs.Decode.{written_of}
use Rattle.choice.specs.declared.Refused.{Refused}
use Rattle.verdict.specs.declared.Decoding.{Decoding}
use Rattle.numbers.specs.Writes.{Wrote}
use Rattle.numbers.proofs.Stored.{wrote-same, wrote-over}
use Rattle.fields.specs.Fields.{Field, size_of, layout_bytes}
use Rattle.fields.proofs.Puts.{layout-short}
use Rattle.parts.specs.Parts.{fits_size, fits_fields}
use Rattle.parts.specs.Lent.{is_lent, fits_in}
use Rattle.parts.proofs.Sizes.{fits-size}
use Rattle.layout.specs.Layouts.{scan_size, scan_bytes, replacement_bytes, decoding_size, decoding_bytes}
use Rattle.layout.specs.Sizes.{told-size, replacement-size, decoding-size}
use Rattle.lumeviqo.specs.Calls.{has_room, told_if, ScanCall, ReplaceCall, DecodingCall}

-- ---- the answer buffer

nothing : (l : List ℕ) → Wrote l 0 [] l 0
nothing l = wrote-over (omega arith) (sym (over_none l 0)) refl

told-short : {l : List ℕ} {n : ℕ} (fs : List Field) (lent : Bool) → size_of fs ≡ n → length l < n → Wrote l 0 (told_if lent (layout_bytes fs)) l 0
told-short fs true e h = layout-short fs e (omega arith)
told-short {l} fs false e h = nothing l

told-not : (l bytes : List ℕ) (lent : Bool) → lent ≡ false → Wrote l 0 (told_if lent bytes) l 0
told-not l bytes lent e = wrote-same (rw e) (nothing l)

told-made : {l ys after : List ℕ} {r : ℕ} (bytes : List ℕ) (lent : Bool) → lent ≡ true → ys ≡ bytes → Wrote l 0 ys after r → Wrote l 0 (told_if lent bytes) after r
told-made bytes lent e f w = wrote-same (rw e f) w

-- ---- another buffer, which holds y and may come to hold x

module _ (n : ℕ) (answer : List ℕ) (lent : Bool) (x y : List ℕ) where
  kept-short : length answer < n → y ≡ pick (has_room n answer && lent) x y
  kept-short h = rw (lt-leb n (length answer) h)

  kept-not : n ≤ length answer → lent ≡ false → y ≡ pick (has_room n answer && lent) x y
  kept-not h e = rw (le-leb n (length answer) h, e)

  given : {z : List ℕ} → n ≤ length answer → lent ≡ true → z ≡ x → z ≡ pick (has_room n answer && lent) x y
  given h e f = rw (le-leb n (length answer) h, e) f

-- ---- scan

module _ {number : ℕ} {stored shifted answer : List ℕ} where
  pub scan-short : length answer < scan_size → ScanCall number stored shifted shifted answer answer 0
  scan-short h =
      record { told = told-short _ true (told-size fits_fields fits_size fits-size (page_scan_of number stored (length shifted))) h; bytes = rw (lt-leb scan_size (length answer) h) }

  pub scan-made :
      {shifted' answer' : List ℕ} {r : ℕ} (found : Result (List Fit) Refusal)
      → scan_size ≤ length answer
      → found ≡ page_scan_of number stored (length shifted)
      → shifted' ≡ scanned number stored shifted
      → Wrote answer 0 (scan_bytes found) answer' r
      → ScanCall number stored shifted shifted' answer answer' r
  scan-made found h e s w = record { told = wrote-same (ap scan_bytes e) w; bytes = rw (le-leb scan_size (length answer) h) s }

-- ---- replacement

module _ {number sector : ℕ} {new fits stored shifted answer : List ℕ} where
  pub replace-short : length answer < scan_size → ReplaceCall number sector new fits stored stored shifted shifted answer answer 0
  replace-short h =
      record {
        told = told-short _ (is_lent fits) (replacement-size (fits_in fits) (replaced number sector new (length stored) (length shifted) (fits_in fits))) h;
        page = kept-short scan_size answer (is_lent fits) _ stored h;
        bytes = kept-short scan_size answer (is_lent fits) _ shifted h;
      }

  pub replace-not :
      scan_size ≤ length answer → is_lent fits ≡ false → ReplaceCall number sector new fits stored stored shifted shifted answer answer 0
  replace-not h e =
      record {
        told = told-not answer _ (is_lent fits) e;
        page = kept-not scan_size answer (is_lent fits) _ stored h e;
        bytes = kept-not scan_size answer (is_lent fits) _ shifted h e;
      }

  pub replace-made :
      {stored' shifted' answer' : List ℕ} {r : ℕ} (lent : List Fit) (made : Result (List Fit) Refusal)
      → scan_size ≤ length answer
      → is_lent fits ≡ true
      → lent ≡ fits_in fits
      → made ≡ replaced number sector new (length stored) (length shifted) lent
      → stored' ≡ stored_after sector new stored (length shifted)
      → shifted' ≡ shifted_after number sector new (length stored) shifted
      → Wrote answer 0 (replacement_bytes lent made) answer' r
      → ReplaceCall number sector new fits stored stored' shifted shifted' answer answer' r
  replace-made lent made h e g f p s w =
      record {
        told = told-made _ (is_lent fits) e (ap₂ replacement_bytes g (f ∙ ap (replaced number sector new (length stored) (length shifted)) g)) w;
        page = given scan_size answer (is_lent fits) _ stored h e p;
        bytes = given scan_size answer (is_lent fits) _ shifted h e s;
      }

-- ---- decodings

module _ {lent : Bool} {d : Result Decoding Refused} {stored shifted out answer : List ℕ} where
  pub decoding-short : length answer < decoding_size → DecodingCall lent d stored shifted out out answer answer 0
  decoding-short h =
      record { told = told-short _ lent (decoding-size d) h; plain = kept-short decoding_size answer lent _ out h }

  pub decoding-not : decoding_size ≤ length answer → lent ≡ false → DecodingCall lent d stored shifted out out answer answer 0
  decoding-not h e = record { told = told-not answer _ lent e; plain = kept-not decoding_size answer lent _ out h e }

  pub decoding-made :
      {out' answer' : List ℕ} {r : ℕ} (found : Result Decoding Refused)
      → decoding_size ≤ length answer
      → lent ≡ true
      → found ≡ d
      → out' ≡ written_of found stored shifted out
      → Wrote answer 0 (decoding_bytes found) answer' r
      → DecodingCall lent d stored shifted out out' answer answer' r
  decoding-made found h e f p w =
      record {
        told = told-made _ lent e (ap decoding_bytes f) w;
        plain = given decoding_size answer lent _ out h e (p ∙ ap (λ (x : Result Decoding Refused). written_of x stored shifted out) f);
      }
