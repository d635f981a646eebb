-- Anchors are a set: "in the anchor list (any order and length, repeats change nothing)". Lists with the same members give the same choice and the same
-- decoding; members that are no candidates play no part. A supplied bv asks no anchors. Assumes nothing.
use Rattle.std.specs.Prelude.{ℕ, ◌<◌, ◌≡◌, true, List, ◌++◌}
use Rattle.lists.specs.Counts.{is_in}
use Rattle.answers.specs.declared.settings.Options.{Options}
use Rattle.sector.specs.declared.fits.Fit.{Fit}
use Rattle.summary.specs.Page.{bytes_of}
use Rattle.choice.specs.Rules.{choice_of}
use Rattle.meanings.specs.Values.{stands_for}
use Rattle.decode.specs.Decode.{decoding_of}
use Rattle.demands.specs.Demand2.{read_page}

-- every byte is in both lists or in neither; every candidate is
pub record SameMembers (a b : List ℕ) : Type 0 where
  pub both : (v : ℕ) → v < 256 → is_in v a ≡ is_in v b

pub record SameCandidates (shifted a b : List ℕ) : Type 0 where
  pub both : (v : ℕ) → v < 256 → stands_for shifted v ≡ true → is_in v a ≡ is_in v b

pub record AnchorsAreASet : Type 0 where
  pub choice :
      (number : ℕ) (shifted a b : List ℕ) (n : ℕ) (o : Options)
      → SameCandidates shifted a b
      → choice_of number shifted a n o ≡ choice_of number shifted b n o
  -- from any summary
  pub decoding :
      (number : ℕ) (stored : List ℕ) (fits : List Fit) (shifted a b : List ℕ) (o : Options) (m : ℕ)
      → SameCandidates shifted a b
      → decoding_of number stored fits shifted a o m ≡ decoding_of number stored fits shifted b o m
  -- by its own scan
  pub read :
      (number : ℕ) (stored a b : List ℕ) (o : Options) (m : ℕ)
      → SameCandidates (bytes_of number stored) a b
      → read_page number stored a o m ≡ read_page number stored b o m
  -- lists with the same members have the same candidates of any page, and these have the same members
  pub members : (shifted a b : List ℕ) → SameMembers a b → SameCandidates shifted a b
  pub order : (a b : List ℕ) → SameMembers (a ++ b) (b ++ a)
  pub repeats : (a : List ℕ) → SameMembers (a ++ a) a
