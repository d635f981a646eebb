-- Anchors are a set, proved. Assumes nothing.
use Prim.Native.Nat.{ℕ, zero, suc, ◌<◌}
use mathlib.Core.Path.{◌≡◌, refl, sym, ap, ap₂, ◌∙◌}
use mathlib.Core.Bool.{Bool, true, false, ◌||◌}
use mathlib.Core.List.{List, [], ◌∷◌, ◌++◌}
use native.Mathlib.Omega.{arith}
use lib.Dec.{eqb}
use Rattle.lists.specs.Cases.{pick}
use Rattle.lists.specs.Counts.{is_in}
use Rattle.lists.specs.Pieces.{among}
use Rattle.std.specs.Prelude.{Result}
use Rattle.std.proofs.Math.Bool.{or_comm, or_self}
use Rattle.answers.specs.Answers.{Answer}
use Rattle.answers.specs.Settings.{keystream}
use Rattle.answers.specs.Tables.{empty}
use Rattle.answers.specs.Warns.{Warnings}
use Rattle.answers.specs.declared.settings.Options.{Options}
use Rattle.sector.specs.declared.fits.Fit.{Fit}
use Rattle.page.specs.Trailer.{row_count_of}
use Rattle.page.specs.Integrity.{integrity_of}
use Rattle.summary.specs.Page.{fits_of, bytes_of}
use Rattle.votes.specs.Votes.{counts_of, ballots, is_candidate, candidate_of, candidates_below, assessment_of}
use Rattle.choice.specs.declared.Choice.{Choice}
use Rattle.choice.specs.declared.Refused.{Refused}
use Rattle.choice.specs.Rules.{unless_refused, choice_of}
use Rattle.meanings.specs.Values.{stands_for}
use Rattle.verdict.specs.Sectors.{refit_of}
use Rattle.verdict.specs.Verdict.{warning_noted, settled_of, integrity_warning, integrity_left, verdict_by, verdict_of}
use Rattle.decode.specs.Decode.{entry_checked, decoding_of}
use Rattle.demands.specs.Anchors.{SameCandidates, AnchorsAreASet}

-- a value is in two lists one after the other if it is in one of them
in-append : (v : ℕ) (a b : List ℕ) → is_in v (a ++ b) ≡ (is_in v a || is_in v b)
unfolding is_in
in-append v [] b = refl
in-append v (x ∷ a) b = go (eqb v x) (in-append v a b)
  where
    go : (c : Bool) → is_in v (a ++ b) ≡ (is_in v a || is_in v b) → pick c true (is_in v (a ++ b)) ≡ (pick c true (is_in v a) || is_in v b)
    go true h = refl
    go false h = h

-- `among` asks its function of those alone that pass
among-ext :
    {A : Type 0} (p : ℕ → Bool) (f g : ℕ → A) (n : ℕ) → ((k : ℕ) → k < n → p k ≡ true → f k ≡ g k) → among p f n ≡ among p g n
unfolding among
among-ext p f g zero h = refl
among-ext p f g (suc n) h =
    ap₂ (λ l m. l ++ m) (among-ext p f g n (λ k l q. h k (omega arith) q)) (one (p n) (λ q. h n (omega arith) q))
  where
    one : (b : Bool) → (b ≡ true → f n ≡ g n) → pick b (f n ∷ []) [] ≡ pick b (g n ∷ []) []
    one true e = ap (λ x. x ∷ []) (e refl)
    one false e = refl

module _ (lim : ℕ) (shifted : List ℕ) (n t : ℕ) (a b : List ℕ) (s : SameCandidates shifted a b) where
  same-candidate : (v : ℕ) → v < 256 → stands_for shifted v ≡ true → candidate_of lim shifted a n t v ≡ candidate_of lim shifted b n t v
  unfolding candidate_of
  same-candidate v h q = rw (s.both v h q)

  same-candidates : candidates_below lim shifted a n t 256 ≡ candidates_below lim shifted b n t 256
  unfolding candidates_below stands_for
  same-candidates =
      among-ext (is_candidate (counts_of shifted) (counts_of (ballots shifted))) (candidate_of lim shifted a n t) (candidate_of lim shifted b n t) 256 same-candidate

  same-assessment : assessment_of lim shifted a n t ≡ assessment_of lim shifted b n t
  unfolding assessment_of
  same-assessment = rw same-candidates

same-choice :
    (number : ℕ) (shifted a b : List ℕ) (n : ℕ) (o : Options)
    → SameCandidates shifted a b
    → choice_of number shifted a n o ≡ choice_of number shifted b n o
unfolding choice_of
same-choice number shifted a b n o s = rw (same-assessment o.search_limit shifted n o.min_trailer_count a b s)

module _ (number n : ℕ) (fits : List Fit) (shifted a b : List ℕ) (o : Options) (s : SameCandidates shifted a b) where
  same-verdict : (x : Answer) → verdict_by number x n fits shifted a o ≡ verdict_by number x n fits shifted b o
  unfolding verdict_by
  same-verdict x =
      let ws : Warnings = warning_noted number (integrity_warning x) empty in
      ap (λ (c : Result Choice Refused). unless_refused (integrity_left x o) (settled_of number (keystream o) (refit_of fits shifted) c ws))
      (same-choice number shifted a b n o s)

same-decoding :
    (number : ℕ) (stored : List ℕ) (fits : List Fit) (shifted a b : List ℕ) (o : Options) (m : ℕ)
    → SameCandidates shifted a b
    → decoding_of number stored fits shifted a o m ≡ decoding_of number stored fits shifted b o m
unfolding decoding_of verdict_of
same-decoding number stored fits shifted a b o m s =
    ap (entry_checked stored shifted m o.search_limit) (same-verdict number (row_count_of stored) fits shifted a b o s (integrity_of number stored))

pub anchors-are-a-set : AnchorsAreASet
anchors-are-a-set =
    record {
      choice = same-choice;
      decoding = same-decoding;
      read = λ number stored a b o m s. same-decoding number stored (fits_of number stored) (bytes_of number stored) a b o m s;
      members = λ shifted a b s. record { both = λ v h q. s.both v h };
      order = λ a b. record { both = λ v h. in-append v a b ∙ or_comm (is_in v a) (is_in v b) ∙ sym (in-append v b a) };
      repeats = λ a. record { both = λ v h. in-append v a a ∙ or_self (is_in v a) };
    }
