-- What a choice of bv means, in words of the page: by what its source rests on, why it is refused, and among which values it is disputed. v is
-- a value of bv, n the stored row count, t the least that is tested, lim the search limit. Assumes nothing.
use Rattle.std.specs.Prelude.{ℕ, ◌≤◌, ◌<◌, ◌≡◌, Bool, true, false, not, ◌&&◌, ◌||◌, Option, Some, None, unwrap_or, Result, Ok, IsOkAnd, IsErrAnd, List, ◌⊎◌, eqb, ltb, leb, length, get_or}
use Rattle.lists.specs.Cases.{pick, flag}
use Rattle.lists.specs.Bytes.{plain_of, AllBytes}
use Rattle.lists.specs.Counts.{how_many, is_in}
use Rattle.lists.specs.Pieces.{each}
use Rattle.answers.specs.Tables.{empty}
use Rattle.answers.specs.Answers.{Bvs, number_of}
use Rattle.answers.specs.Settings.{keystream, limit_fits}
use Rattle.answers.specs.declared.kinds.Refusal.{Refusal}
use Rattle.answers.specs.declared.kinds.Refusal.TheVariants.{WrongBufferLength, AmbiguousCalibration, KeystreamUnverified, LimitOutOfRange}
use Rattle.answers.specs.declared.trust.Source.{Source}
use Rattle.answers.specs.declared.trust.Source.TheVariants as source
use Rattle.answers.specs.declared.trust.Confidence.{Confidence}
use Rattle.answers.specs.declared.trust.Confidence.TheVariants as confidence
use Rattle.answers.specs.declared.notices.WarningKind.{WarningKind}
use Rattle.answers.specs.declared.notices.WarningKind.TheVariants as warning
use Rattle.answers.specs.declared.settings.Options.{Options}
use Rattle.slots.specs.Slots.{row_count_matches}
use Rattle.votes.specs.Votes.{counts_of, top_of, is_verified}
use Rattle.groups.specs.Groups.{above}
use Rattle.choice.specs.declared.Choice.{Choice}
use Rattle.choice.specs.declared.Refused.{Refused}
use Rattle.choice.specs.Rules.{refused_answer, choice_of}
use Rattle.meanings.specs.Values.{is_exact, exact_value, exact_sectors, votes_for, zeros_with, stands_for}

-- ---- candidates

-- v is a candidate; v is a candidate other than bv
pub record Stands (shifted : List ℕ) (v : ℕ) : Type 0 where
  pub byte : v < 256
  pub candidate : stands_for shifted v ≡ true

pub record Other (shifted : List ℕ) (bv v : ℕ) : Type 0 where
  pub stands : Stands shifted v
  pub differs : v ≡ bv → ⊥

-- how many candidates are verified
unfoldable pub verified_number : ℕ → List ℕ → ℕ → ℕ → ℕ
verified_number lim shifted n t = how_many (λ v. stands_for shifted v && is_verified lim shifted n t v) 256

pub record NoneVerified (lim : ℕ) (shifted : List ℕ) (n t : ℕ) : Type 0 where
  pub none : (v : ℕ) → Stands shifted v → is_verified lim shifted n t v ≡ false

abbrev pub top_value : List ℕ → ℕ
top_value shifted = top_of (counts_of shifted)

-- ---- what is disputed

-- "two or more votes, or anchored and top": what makes another candidate a rival
unfoldable pub is_strong : List ℕ → List ℕ → ℕ → Bool
is_strong shifted anchors v = leb 2 (votes_for shifted v) || (is_in v anchors && eqb v (top_value shifted))

-- "Two or more verified: ambiguous among them. One verified: .. ambiguous among rivals and it. .. Two or more voted values: ambiguous among them".
-- These are the values in each case; there is a dispute where they are two or more
unfoldable pub is_disputed : ℕ → List ℕ → List ℕ → ℕ → ℕ → ℕ → Bool
is_disputed lim shifted anchors n t v =
    stands_for shifted v
    && pick (leb 2 (verified_number lim shifted n t)) (is_verified lim shifted n t v)
    (pick (eqb (verified_number lim shifted n t) 1) (is_verified lim shifted n t v || is_strong shifted anchors v) (ltb 0 (votes_for shifted v)))

unfoldable pub disputed_number : ℕ → List ℕ → List ℕ → ℕ → ℕ → ℕ
disputed_number lim shifted anchors n t = how_many (is_disputed lim shifted anchors n t) 256

-- "the greatest by votes, verified, anchored, count, and then the smallest bv": v comes before w
unfoldable pub comes_before : ℕ → List ℕ → List ℕ → ℕ → ℕ → ℕ → ℕ → Bool
comes_before lim shifted anchors n t v w =
    above (votes_for shifted v) (votes_for shifted w)
    (above (flag (is_verified lim shifted n t v)) (flag (is_verified lim shifted n t w))
    (above (flag (is_in v anchors)) (flag (is_in w anchors)) (above (zeros_with shifted v) (zeros_with shifted w) (ltb v w))))

-- the value in place i of a table, 0 where there is none
abbrev pub value_at : Bvs → ℕ → ℕ
value_at table i = unwrap_or (get_or table.items i None) 0

-- the values of a table; each place has one, and they are, ascending and each once, just those that pass a test
abbrev pub list_of : Bvs → List ℕ
list_of table = each (value_at table) table.len

pub record Lists (p : ℕ → Bool) (table : Bvs) : Type 0 where
  pub number : table.len ≡ how_many p 256
  pub held : (i : ℕ) → i < table.len → get_or table.items i None ≡ Some (value_at table i)
  pub within : (i : ℕ) → i < table.len → value_at table i < 256
  pub ascending : (i j : ℕ) → i < j → j < table.len → value_at table i < value_at table j
  pub just : (v : ℕ) → v < 256 → is_in v (list_of table) ≡ p v

-- ---- what decides

-- rule 1. "With no rival it is taken": the data written with bv pass the row_count test, no other candidate's do, and none is a rival
pub record SoleVerified (lim : ℕ) (shifted anchors : List ℕ) (n t bv : ℕ) : Type 0 where
  pub stands : Stands shifted bv
  pub rows : 0 < n
  pub passes : row_count_matches lim (plain_of bv shifted) n t ≡ true
  pub alone : (v : ℕ) → Other shifted bv v → is_verified lim shifted n t v ≡ false
  pub unvoted : (v : ℕ) → Other shifted bv v → votes_for shifted v < 2
  pub unanchored : (v : ℕ) → Other shifted bv v → v ≡ top_value shifted → is_in v anchors ≡ false

-- rule 2. "One voted value with two votes or more": two or more sectors are exact, and each votes for bv
pub record Agreed (lim : ℕ) (shifted : List ℕ) (n t bv : ℕ) : Type 0 where
  pub unverified : NoneVerified lim shifted n t
  pub two : 2 ≤ exact_sectors shifted
  pub all : (s : ℕ) → s < 8 → is_exact shifted s ≡ true → exact_value shifted s ≡ bv

-- rule 3. "One vote in all, for the top, anchored, no other candidate voted or anchored": the one vote is v's, so no other value has one
pub record Corroborates (shifted anchors : List ℕ) (v : ℕ) : Type 0 where
  pub one : exact_sectors shifted ≡ 1
  pub vote : votes_for shifted v ≡ 1
  pub top : v ≡ top_value shifted
  pub anchored : is_in v anchors ≡ true
  pub alone : (w : ℕ) → Other shifted v w → is_in w anchors ≡ false

-- rule 4. "Otherwise": no candidate is verified, one sector at most is exact, and the top is not corroborated
pub record Undecided (lim : ℕ) (shifted anchors : List ℕ) (n t : ℕ) : Type 0 where
  pub unverified : NoneVerified lim shifted n t
  pub few : exact_sectors shifted ≤ 1
  pub uncorroborated : Corroborates shifted anchors (top_value shifted) → ⊥

-- the rules are asked for 4,080 bytes, and a limit in its range
pub record Asked (lim : ℕ) (shifted : List ℕ) : Type 0 where
  pub long : length shifted ≡ 4080
  pub within : limit_fits lim ≡ true
  pub bytes : AllBytes shifted

-- ---- what a choice can be

-- how an accepted choice is marked, and a refused one
pub record Marked (c : Choice) (s : Source) (k : Confidence) (w : Option WarningKind) : Type 0 where
  pub from : c.source ≡ s
  pub trusted : c.confidence ≡ k
  pub warned : c.warned ≡ w

abbrev pub RefusedWith : Refused → Refusal → Type 0
RefusedWith e x = e.refusal ≡ x

module _ (number : ℕ) (shifted anchors : List ℕ) (n : ℕ) (o : Options) where
  abbrev t : ℕ
  t = o.min_trailer_count

  abbrev lim : ℕ
  lim = o.search_limit

  module _ (c : Choice) where
    -- source 1
    pub record ByRowCount : Type 0 where
      pub marked : Marked c source.TrailerRowCount confidence.Verified None
      pub unlisted : c.others ≡ empty
      pub within : limit_fits lim ≡ true
      pub sole : SoleVerified lim shifted anchors n t c.bv

    -- source 2
    pub record ByExactSectors : Type 0 where
      pub marked : Marked c source.ExactSectors confidence.Calibrated None
      pub unlisted : c.others ≡ empty
      pub within : limit_fits lim ≡ true
      pub stands : Stands shifted c.bv
      pub agreed : Agreed lim shifted n t c.bv
      pub votes : votes_for shifted c.bv ≡ exact_sectors shifted

    -- source 5
    pub record ByCorroboration : Type 0 where
      pub marked : Marked c source.Corroborated confidence.Corroborated None
      pub unlisted : c.others ≡ empty
      pub within : limit_fits lim ≡ true
      pub stands : Stands shifted c.bv
      pub unverified : NoneVerified lim shifted n t
      pub corroborates : Corroborates shifted anchors c.bv

    -- source 3 with warning 5: a dispute let through. bv is the disputed value that comes before every other, and the others stand beside it
    pub record ByRank : Type 0 where
      pub marked : Marked c source.Histogram confidence.Unverified (Some (warning.AmbiguousCalibration c.bv))
      pub within : limit_fits lim ≡ true
      pub lenient : keystream o ≡ true
      pub stands : Stands shifted c.bv
      pub dispute : 2 ≤ disputed_number lim shifted anchors n t
      pub disputed : is_disputed lim shifted anchors n t c.bv ≡ true
      pub first :
          (v : ℕ)
          → Other shifted c.bv v
          → is_disputed lim shifted anchors n t v ≡ true
          → comes_before lim shifted anchors n t c.bv v ≡ true
      pub most : (v : ℕ) → Other shifted c.bv v → is_disputed lim shifted anchors n t v ≡ true → votes_for shifted v ≤ votes_for shifted c.bv
      pub others : Lists (λ v. is_disputed lim shifted anchors n t v && not (eqb v c.bv)) c.others

    -- source 3 with warning 6: the top, let through
    pub record ByTop : Type 0 where
      pub marked : Marked c source.Histogram confidence.Unverified (Some (warning.UnverifiedKeystream c.bv))
      pub unlisted : c.others ≡ empty
      pub within : limit_fits lim ≡ true
      pub lenient : keystream o ≡ true
      pub stands : Stands shifted c.bv
      pub top : c.bv ≡ top_value shifted
      pub undecided : Undecided lim shifted anchors n t

  module _ (e : Refused) where
    -- answer 5, with what is disputed beside it
    pub record Ambiguous : Type 0 where
      pub marked : RefusedWith e (AmbiguousCalibration number)
      pub within : limit_fits lim ≡ true
      pub strict : keystream o ≡ false
      pub dispute : 2 ≤ disputed_number lim shifted anchors n t
      pub listed : Lists (is_disputed lim shifted anchors n t) e.candidates

    -- answer 6, of the top
    pub record Unverified : Type 0 where
      pub marked : RefusedWith e (KeystreamUnverified number (top_value shifted))
      pub unlisted : e.candidates ≡ empty
      pub within : limit_fits lim ≡ true
      pub strict : keystream o ≡ false
      pub undecided : Undecided lim shifted anchors n t

    -- answer 20, and answer 2
    pub record OutOfRange : Type 0 where
      pub marked : RefusedWith e (LimitOutOfRange lim)
      pub unlisted : e.candidates ≡ empty
      pub long : length shifted ≡ 4080
      pub outside : limit_fits lim ≡ false

    pub record WrongLength : Type 0 where
      pub marked : RefusedWith e (WrongBufferLength (length shifted))
      pub unlisted : e.candidates ≡ empty
      pub wrong : length shifted ≡ 4080 → ⊥

  module _ (r : Result Choice Refused) where
    -- one of these
    pub data Meaning : Type 0 where
      row_count : IsOkAnd r ByRowCount → Meaning
      exact-sectors : IsOkAnd r ByExactSectors → Meaning
      corroborated : IsOkAnd r ByCorroboration → Meaning
      ranked : IsOkAnd r ByRank → Meaning
      topmost : IsOkAnd r ByTop → Meaning
      ambiguous : IsErrAnd r Ambiguous → Meaning
      unverified : IsErrAnd r Unverified → Meaning
      out_of_range : IsErrAnd r OutOfRange → Meaning
      wrong-length : IsErrAnd r WrongLength → Meaning

    -- what its source, or its answer, says of the page
    pub record Said : Type 0 where
      pub row_count : (c : Choice) → r ≡ Ok c → c.source ≡ source.TrailerRowCount → ByRowCount c
      pub exact-sectors : (c : Choice) → r ≡ Ok c → c.source ≡ source.ExactSectors → ByExactSectors c
      pub corroborated : (c : Choice) → r ≡ Ok c → c.source ≡ source.Corroborated → ByCorroboration c
      pub histogram : (c : Choice) → r ≡ Ok c → c.source ≡ source.Histogram → ByRank c ⊎ ByTop c
      pub ambiguous : number_of (refused_answer r) ≡ 5 → IsErrAnd r Ambiguous
      pub unverified : number_of (refused_answer r) ≡ 6 → IsErrAnd r Unverified
      pub out_of_range : number_of (refused_answer r) ≡ 20 → IsErrAnd r OutOfRange
      pub wrong-length : number_of (refused_answer r) ≡ 2 → IsErrAnd r WrongLength

    -- which page has which choice
    pub record Made : Type 0 where
      pub row_count : Asked lim shifted → (bv : ℕ) → SoleVerified lim shifted anchors n t bv → IsOkAnd r (λ c. ByRowCount c × (c.bv ≡ bv))
      pub exact-sectors : Asked lim shifted → (bv : ℕ) → Agreed lim shifted n t bv → IsOkAnd r (λ c. ByExactSectors c × (c.bv ≡ bv))
      pub corroborated :
          Asked lim shifted
          → (bv : ℕ)
          → NoneVerified lim shifted n t
          → Corroborates shifted anchors bv
          → IsOkAnd r (λ c. ByCorroboration c × (c.bv ≡ bv))
      pub ranked : Asked lim shifted → 2 ≤ disputed_number lim shifted anchors n t → keystream o ≡ true → IsOkAnd r ByRank
      pub ambiguous : Asked lim shifted → 2 ≤ disputed_number lim shifted anchors n t → keystream o ≡ false → IsErrAnd r Ambiguous
      pub topmost : Asked lim shifted → Undecided lim shifted anchors n t → keystream o ≡ true → IsOkAnd r ByTop
      pub unverified : Asked lim shifted → Undecided lim shifted anchors n t → keystream o ≡ false → IsErrAnd r Unverified
      pub out_of_range : length shifted ≡ 4080 → limit_fits lim ≡ false → IsErrAnd r OutOfRange
      pub wrong-length : (length shifted ≡ 4080 → ⊥) → IsErrAnd r WrongLength

-- ---- the theorems

pub record ChoiceMeans : Type 0 where
  -- every choice is one of the nine; so its marks say what holds of the page, and what holds of the page decides it
  pub every :
      (number : ℕ) (shifted anchors : List ℕ) (n : ℕ) (o : Options)
      → AllBytes shifted
      → Meaning number shifted anchors n o (choice_of number shifted anchors n o)
  pub said :
      (number : ℕ) (shifted anchors : List ℕ) (n : ℕ) (o : Options)
      → AllBytes shifted
      → Said number shifted anchors n o (choice_of number shifted anchors n o)
  pub made :
      (number : ℕ) (shifted anchors : List ℕ) (n : ℕ) (o : Options)
      → Made number shifted anchors n o (choice_of number shifted anchors n o)
  -- eight exact sectors that vote for one value, and no row count: it is taken, whatever the anchors and the options, where the limit is in its range
  pub all-exact :
      (number : ℕ) (shifted anchors : List ℕ) (o : Options) (bv : ℕ)
      → length shifted ≡ 4080
      → limit_fits o.search_limit ≡ true
      → bv < 256
      → ((s : ℕ) → s < 8 → (is_exact shifted s ≡ true) × (exact_value shifted s ≡ bv))
      → IsOkAnd (choice_of number shifted anchors 0 o) (λ c. ByExactSectors number shifted anchors 0 o c × (c.bv ≡ bv))
