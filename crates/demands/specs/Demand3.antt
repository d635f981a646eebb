-- DEMAND 3: after any sequence of replacements, repeats and refused ones included, the kept summary, and the decodings made from it with the
-- same anchors and options, are those of the final page read afresh; on an alien summary a replacement changes nothing of the other seven
-- sectors; and all eight sectors of another page make page and summary that page's. The contracts of `decode_summary` and `decode_page` are
-- the two sides of the first. Assumes nothing.
use Rattle.std.specs.Prelude.{ℕ, ◌*◌, ◌≡◌, Result, List, [], ◌∷◌, length}
use Rattle.lists.specs.Pieces.{over}
use Rattle.answers.specs.declared.settings.Options.{Options}
use Rattle.summary.specs.Replace.{if_replaced}
use Rattle.summary.specs.State.{State, Replacement, Whole, AllEight, Taken, OneSector, at_scan, after, after_all, sectors_from}
use Rattle.choice.specs.declared.Refused.{Refused}
use Rattle.verdict.specs.declared.Decoding.{Decoding}
use Rattle.decode.specs.Decode.{decoding_of, supplied_decoding_of, written_of}
use Rattle.demands.specs.Demand2.{read_page, read_with, left_in}

-- ---- a page of which sectors are replaced, one after the other, with no summary beside it

-- "It writes them into the lent stored page", and of sector 7 "496 are data and 16 become the trailer"; one that is refused beside a page and a
-- buffer of the right lengths changes nothing
unfoldable pub edited_by : List ℕ → Replacement → List ℕ
edited_by stored r = if_replaced r.sector r.new 4096 4080 (over stored (r.sector * 512) r.new) stored

unfoldable pub edited : List ℕ → List Replacement → List ℕ
edited stored [] = stored
edited stored (r ∷ rs) = edited (edited_by stored r) rs

-- ---- the demand

-- a kept state t beside a page read afresh, whatever anchors, options, search limit among them, bv and out
pub record ReadAfresh (number : ℕ) (t : State) (stored : List ℕ) : Type 0 where
  pub page : t.stored ≡ stored
  pub summary : (buffer : List ℕ) → length buffer ≡ 4080 → t ≡ at_scan number stored buffer
  pub decoding :
      (anchors : List ℕ) (o : Options) (m : ℕ)
      → decoding_of number t.stored t.fits t.shifted anchors o m ≡ read_page number stored anchors o m
  pub supplied :
      (bv : ℕ) (o : Options) (m : ℕ)
      → supplied_decoding_of number bv t.stored t.fits t.shifted o m ≡ read_with number bv stored o m
  pub written : (r : Result Decoding Refused) (out : List ℕ) → written_of r t.stored t.shifted out ≡ left_in out number stored r

pub record KeptFresh : Type 0 where
  -- after a scan and any replacements under one page number
  pub afresh :
      (number : ℕ) (stored buffer : List ℕ) (rs : List Replacement)
      → length stored ≡ 4096
      → length buffer ≡ 4080
      → ReadAfresh number (after_all number (at_scan number stored buffer) rs) (edited stored rs)
  -- on any summary, also another page's
  pub others : (number : ℕ) (t : State) (r : Replacement) → Taken t r → length t.fits ≡ 8 → OneSector number r t (after number t r)
  -- and all eight sectors of another page, in any order, repeats included, make page and summary that page's
  pub exchanged :
      (number : ℕ) (t : State) (other order buffer : List ℕ)
      → Whole t
      → AllEight other order
      → length buffer ≡ 4080
      → after_all number t (sectors_from other order) ≡ at_scan number other buffer
