-- What a choice says of its page, and what a page makes of its choice: from the nine that every choice is one of. Assumes nothing.
use Prim.Native.Nat.{ℕ, ◌≤◌}
use mathlib.Core.Path.{◌≡◌, refl, sym, ap, ◌∙◌, subst}
use mathlib.Core.Bool.{true, false}
use mathlib.Core.List.{List}
use mathlib.Core.Logic.{◌⊎◌, inl, inr}
use native.Mathlib.Omega.{arith}
use borrow.Author.Tests.{eq-eqb}
use lib.Dec.{eqb}
use lib.ListN.{length}
use Rattle.lists.proofs.Booleans.{and_yes}
use Rattle.lists.proofs.Picks.{never_both}
use Rattle.std.specs.Prelude.{Result, Ok, Err, IsOkAnd, IsErrAnd}
use Rattle.answers.specs.Answers.{number_of, refusal_number}
use Rattle.answers.specs.Settings.{keystream, limit_fits}
use Rattle.answers.specs.Trust.{source_number}
use Rattle.answers.specs.declared.kinds.Refusal.{Refusal}
use Rattle.answers.specs.declared.trust.Source.{Source}
use Rattle.answers.specs.declared.trust.Source.TheVariants as source
use Rattle.answers.specs.declared.settings.Options.{Options}
use Rattle.votes.specs.Votes.{is_verified}
use Rattle.choice.specs.declared.Choice.{Choice}
use Rattle.choice.specs.declared.Refused.{Refused}
use Rattle.choice.specs.Rules.{refused_answer, choice_of}
use Rattle.choice.proofs.ChoiceCases.{asked-length, asked-limit, choice-refused}
use Rattle.meanings.specs.Values.{is_exact, stands_for}
use Rattle.meanings.specs.Sources.{verified_number, NoneVerified, top_value, disputed_number, SoleVerified, Agreed, Corroborates, Undecided}
use Rattle.meanings.specs.Sources.{Asked, ByRowCount, ByExactSectors, ByCorroboration, ByRank, Ambiguous, ByTop, Unverified, OutOfRange, WrongLength}
use Rattle.meanings.specs.Sources.{Meaning, Said, Made, ChoiceMeans}
use Rattle.meanings.proofs.Passing.{First}
use Rattle.meanings.proofs.Voting.{all-agree}
use Rattle.meanings.proofs.Outcomes.{every-choice}
use Rattle.meanings.proofs.AllExact.{exact-asked, exact-agreed}
use Rattle.meanings.proofs.Deciding.{none_number, sole-verified, sole-is, sole-number, sole-undisputed, one-undisputed, agreed-undisputed, exact-at}

-- ---- the cases

module _ (number : ℕ) (shifted anchors : List ℕ) (n : ℕ) (o : Options) where
  abbrev Means : Result Choice Refused → Type 0
  Means = Meaning number shifted anchors n o

  -- of an accepted choice, by its source
  by-source :
      (P : Type 0) (c : Choice)
      → Means (Ok c)
      → (ByRowCount number shifted anchors n o c → P)
      → (ByExactSectors number shifted anchors n o c → P)
      → (ByCorroboration number shifted anchors n o c → P)
      → (ByRank number shifted anchors n o c → P)
      → (ByTop number shifted anchors n o c → P)
      → P
  by-source P c (Meaning.row_count m) f g h i j = f m
  by-source P c (Meaning.exact-sectors m) f g h i j = g m
  by-source P c (Meaning.corroborated m) f g h i j = h m
  by-source P c (Meaning.ranked m) f g h i j = i m
  by-source P c (Meaning.topmost m) f g h i j = j m
  by-source P c (Meaning.ambiguous m) f g h i j = absurd m
  by-source P c (Meaning.unverified m) f g h i j = absurd m
  by-source P c (Meaning.out_of_range m) f g h i j = absurd m
  by-source P c (Meaning.wrong-length m) f g h i j = absurd m

  -- of a refused one, by its refusal
  by_answer :
      (P : Type 0) (e : Refused)
      → Means (Err e)
      → (Ambiguous number shifted anchors n o e → P)
      → (Unverified number shifted anchors n o e → P)
      → (OutOfRange number shifted anchors n o e → P)
      → (WrongLength number shifted anchors n o e → P)
      → P
  by_answer P e (Meaning.row_count m) f g h i = absurd m
  by_answer P e (Meaning.exact-sectors m) f g h i = absurd m
  by_answer P e (Meaning.corroborated m) f g h i = absurd m
  by_answer P e (Meaning.ranked m) f g h i = absurd m
  by_answer P e (Meaning.topmost m) f g h i = absurd m
  by_answer P e (Meaning.ambiguous m) f g h i = f m
  by_answer P e (Meaning.unverified m) f g h i = g m
  by_answer P e (Meaning.out_of_range m) f g h i = h m
  by_answer P e (Meaning.wrong-length m) f g h i = i m

-- ---- what the marks say

-- two sources, and two refusals, have different numbers
other-source : {P : Type 0} (c : Choice) {s r : Source} → c.source ≡ s → c.source ≡ r → eqb (source_number s) (source_number r) ≡ false → P
other-source c {s = s} {r = r} e f h = absurd (never_both h (eq-eqb (source_number s) (source_number r) (ap source_number (sym e ∙ f))))

other-answer : {P : Type 0} (e : Refused) {x : Refusal} {k : ℕ} → e.refusal ≡ x → refusal_number e.refusal ≡ k → eqb (refusal_number x) k ≡ false → P
other-answer e {x = x} {k = k} m f h = absurd (never_both h (eq-eqb (refusal_number x) k (ap refusal_number (sym m) ∙ f)))

module _ (number : ℕ) (shifted anchors : List ℕ) (n : ℕ) (o : Options) where
  module _ (c : Choice) (m : Meaning number shifted anchors n o (Ok c)) where
    row-count-said : c.source ≡ source.TrailerRowCount → ByRowCount number shifted anchors n o c
    row-count-said e =
        by-source number shifted anchors n o _ c m (λ q. q) (λ q. other-source c q.marked.from e refl) (λ q. other-source c q.marked.from e refl)
        (λ q. other-source c q.marked.from e refl) (λ q. other-source c q.marked.from e refl)

    exact-said : c.source ≡ source.ExactSectors → ByExactSectors number shifted anchors n o c
    exact-said e =
        by-source number shifted anchors n o _ c m (λ q. other-source c q.marked.from e refl) (λ q. q) (λ q. other-source c q.marked.from e refl)
        (λ q. other-source c q.marked.from e refl) (λ q. other-source c q.marked.from e refl)

    corroborated-said : c.source ≡ source.Corroborated → ByCorroboration number shifted anchors n o c
    corroborated-said e =
        by-source number shifted anchors n o _ c m (λ q. other-source c q.marked.from e refl) (λ q. other-source c q.marked.from e refl) (λ q. q)
        (λ q. other-source c q.marked.from e refl) (λ q. other-source c q.marked.from e refl)

    histogram-said : c.source ≡ source.Histogram → ByRank number shifted anchors n o c ⊎ ByTop number shifted anchors n o c
    histogram-said e =
        by-source number shifted anchors n o _ c m (λ q. other-source c q.marked.from e refl) (λ q. other-source c q.marked.from e refl)
        (λ q. other-source c q.marked.from e refl) inl inr

  ambiguous-said :
      (r : Result Choice Refused)
      → Meaning number shifted anchors n o r
      → number_of (refused_answer r) ≡ 5
      → IsErrAnd r (Ambiguous number shifted anchors n o)
  ambiguous-said (Ok c) m k = absurd (omega arith)
  ambiguous-said (Err e) m k =
      by_answer number shifted anchors n o _ e m (λ q. q) (λ q. other-answer e q.marked k refl) (λ q. other-answer e q.marked k refl)
      (λ q. other-answer e q.marked k refl)

  unverified-said :
      (r : Result Choice Refused)
      → Meaning number shifted anchors n o r
      → number_of (refused_answer r) ≡ 6
      → IsErrAnd r (Unverified number shifted anchors n o)
  unverified-said (Ok c) m k = absurd (omega arith)
  unverified-said (Err e) m k =
      by_answer number shifted anchors n o _ e m (λ q. other-answer e q.marked k refl) (λ q. q) (λ q. other-answer e q.marked k refl)
      (λ q. other-answer e q.marked k refl)

  limit-said :
      (r : Result Choice Refused)
      → Meaning number shifted anchors n o r
      → number_of (refused_answer r) ≡ 20
      → IsErrAnd r (OutOfRange number shifted anchors n o)
  limit-said (Ok c) m k = absurd (omega arith)
  limit-said (Err e) m k =
      by_answer number shifted anchors n o _ e m (λ q. other-answer e q.marked k refl) (λ q. other-answer e q.marked k refl) (λ q. q)
      (λ q. other-answer e q.marked k refl)

  length-said :
      (r : Result Choice Refused)
      → Meaning number shifted anchors n o r
      → number_of (refused_answer r) ≡ 2
      → IsErrAnd r (WrongLength number shifted anchors n o)
  length-said (Ok c) m k = absurd (omega arith)
  length-said (Err e) m k =
      by_answer number shifted anchors n o _ e m (λ q. other-answer e q.marked k refl) (λ q. other-answer e q.marked k refl)
      (λ q. other-answer e q.marked k refl) (λ q. q)

  pub said-by : (r : Result Choice Refused) → Meaning number shifted anchors n o r → Said number shifted anchors n o r
  said-by r m =
      record {
        row_count = λ c e. row-count-said c (subst (Meaning number shifted anchors n o) e m);
        exact-sectors = λ c e. exact-said c (subst (Meaning number shifted anchors n o) e m);
        corroborated = λ c e. corroborated-said c (subst (Meaning number shifted anchors n o) e m);
        histogram = λ c e. histogram-said c (subst (Meaning number shifted anchors n o) e m);
        ambiguous = ambiguous-said r m;
        unverified = unverified-said r m;
        out_of_range = limit-said r m;
        wrong-length = length-said r m;
      }

-- ---- what the page makes of the choice

module _ (number : ℕ) (shifted anchors : List ℕ) (n : ℕ) (o : Options) (r : Result Choice Refused)
    (m : Meaning number shifted anchors n o r) (asked : Asked o.search_limit shifted) where
  abbrev t : ℕ
  t = o.min_trailer_count

  abbrev lim : ℕ
  lim = o.search_limit

  abbrev verified : ℕ
  verified = verified_number lim shifted n t

  abbrev disputed : ℕ
  disputed = disputed_number lim shifted anchors n t

  none : NoneVerified lim shifted n t → verified ≡ 0
  none q = none_number lim shifted anchors n t q

  -- what each case leaves of the others
  settled :
      (P : Result Choice Refused → Type 0)
      → ((c : Choice) → ByRowCount number shifted anchors n o c → verified ≡ 1 → disputed ≤ 1 → P (Ok c))
      → ((c : Choice) → ByExactSectors number shifted anchors n o c → verified ≡ 0 → disputed ≤ 1 → P (Ok c))
      → ((c : Choice) → ByCorroboration number shifted anchors n o c → verified ≡ 0 → disputed ≤ 1 → P (Ok c))
      → ((c : Choice) → ByRank number shifted anchors n o c → P (Ok c))
      → ((e : Refused) → Ambiguous number shifted anchors n o e → P (Err e))
      → ((c : Choice) → ByTop number shifted anchors n o c → verified ≡ 0 → disputed ≤ 1 → P (Ok c))
      → ((e : Refused) → Unverified number shifted anchors n o e → verified ≡ 0 → disputed ≤ 1 → P (Err e))
      → P r
  settled P row exact one ranked ambiguous topmost unverified = go r m
    where
      go : (r : Result Choice Refused) → Meaning number shifted anchors n o r → P r
      go (Ok c) m =
          by-source number shifted anchors n o (P (Ok c)) c m
          (λ q. row c q (sole-number lim shifted anchors n t c.bv q.sole) (sole-undisputed lim shifted anchors n t c.bv q.sole))
          (λ q. exact c q (none q.agreed.unverified) (agreed-undisputed lim shifted anchors n t (none q.agreed.unverified) c.bv q.votes))
          (λ q. one c q (none q.unverified) (one-undisputed lim shifted anchors n t (none q.unverified) (omega (arith, q.corroborates.one))))
          (λ q. ranked c q)
          (λ q.
          topmost c q (none q.undecided.unverified) (one-undisputed lim shifted anchors n t (none q.undecided.unverified) q.undecided.few))
      go (Err e) m =
          by_answer number shifted anchors n o (P (Err e)) e m (λ q. ambiguous e q)
          (λ q.
          unverified e q (none q.undecided.unverified) (one-undisputed lim shifted anchors n t (none q.undecided.unverified) q.undecided.few))
          (λ q. absurd (never_both q.outside asked.within)) (λ q. absurd (q.wrong asked.long))

  sole-taken : (bv : ℕ) → SoleVerified lim shifted anchors n t bv → IsOkAnd r (λ c. ByRowCount number shifted anchors n o c × (c.bv ≡ bv))
  sole-taken bv q =
      let one : verified ≡ 1 = sole-number lim shifted anchors n t bv q in
      let few : disputed ≤ 1 = sole-undisputed lim shifted anchors n t bv q in
      settled (λ r. IsOkAnd r (λ c. ByRowCount number shifted anchors n o c × (c.bv ≡ bv))) (λ c r v d. (r, same c r)) (λ c r v d. absurd (omega arith))
      (λ c r v d. absurd (omega arith))
      (λ c r. absurd (omega (arith, r.dispute)))
      (λ c r. absurd (omega (arith, r.dispute)))
      (λ c r v d. absurd (omega arith))
      (λ c r v d. absurd (omega arith))
    where
      same : (c : Choice) → ByRowCount number shifted anchors n o c → c.bv ≡ bv
      same c r =
          sole-is lim shifted anchors n t bv q c.bv r.sole.stands.byte
          (and_yes (stands_for shifted c.bv) (is_verified lim shifted n t c.bv) r.sole.stands.candidate
          (sole-verified lim shifted anchors n t c.bv r.sole))

  agreed-taken : (bv : ℕ) → Agreed lim shifted n t bv → IsOkAnd r (λ c. ByExactSectors number shifted anchors n o c × (c.bv ≡ bv))
  agreed-taken bv q =
      let none : verified ≡ 0 = none_number lim shifted anchors n t q.unverified in
      let few : disputed ≤ 1 = agreed-undisputed lim shifted anchors n t none bv (all-agree shifted bv q.all) in
      settled (λ r. IsOkAnd r (λ c. ByExactSectors number shifted anchors n o c × (c.bv ≡ bv))) (λ c r v d. absurd (omega arith)) (λ c r v d. (r, same c r))
      (λ c r v d. absurd (omega (arith, r.corroborates.one, q.two)))
      (λ c r. absurd (omega (arith, r.dispute)))
      (λ c r. absurd (omega (arith, r.dispute)))
      (λ c r v d. absurd (omega (arith, r.undecided.few, q.two)))
      (λ c r v d. absurd (omega (arith, r.undecided.few, q.two)))
    where
      same : (c : Choice) → ByExactSectors number shifted anchors n o c → c.bv ≡ bv
      same c r =
          let s : First (λ s. s) (is_exact shifted) 0 8 = exact-at shifted (omega (arith, q.two)) in
          sym (r.agreed.all s.at s.below s.passes) ∙ q.all s.at s.below s.passes

  corroborated-taken :
      (bv : ℕ)
      → NoneVerified lim shifted n t
      → Corroborates shifted anchors bv
      → IsOkAnd r (λ c. ByCorroboration number shifted anchors n o c × (c.bv ≡ bv))
  corroborated-taken bv u q =
      let none : verified ≡ 0 = none_number lim shifted anchors n t u in
      let few : disputed ≤ 1 = one-undisputed lim shifted anchors n t none (omega (arith, q.one)) in
      let top : Corroborates shifted anchors (top_value shifted) = subst (Corroborates shifted anchors) q.top q in
      settled (λ r. IsOkAnd r (λ c. ByCorroboration number shifted anchors n o c × (c.bv ≡ bv))) (λ c r v d. absurd (omega arith))
      (λ c r v d. absurd (omega (arith, r.agreed.two, q.one)))
      (λ c r v d. (r, r.corroborates.top ∙ sym q.top))
      (λ c r. absurd (omega (arith, r.dispute)))
      (λ c r. absurd (omega (arith, r.dispute)))
      (λ c r v d. absurd (r.undecided.uncorroborated top))
      (λ c r v d. absurd (r.undecided.uncorroborated top))

  dispute-ranked : 2 ≤ disputed → keystream o ≡ true → IsOkAnd r (ByRank number shifted anchors n o)
  dispute-ranked h k =
      settled (λ r. IsOkAnd r (ByRank number shifted anchors n o)) (λ c r v d. absurd (omega arith)) (λ c r v d. absurd (omega arith)) (λ c r v d. absurd (omega arith))
      (λ c r. r)
      (λ c r. absurd (never_both r.strict k))
      (λ c r v d. absurd (omega arith))
      (λ c r v d. absurd (omega arith))

  dispute-refused : 2 ≤ disputed → keystream o ≡ false → IsErrAnd r (Ambiguous number shifted anchors n o)
  dispute-refused h k =
      settled (λ r. IsErrAnd r (Ambiguous number shifted anchors n o)) (λ c r v d. absurd (omega arith)) (λ c r v d. absurd (omega arith)) (λ c r v d. absurd (omega arith))
      (λ c r. absurd (never_both k r.lenient))
      (λ c r. r)
      (λ c r v d. absurd (omega arith))
      (λ c r v d. absurd (omega arith))

  module _ (q : Undecided lim shifted anchors n t) where
    none_left : verified ≡ 0
    none_left = none_number lim shifted anchors n t q.unverified

    few-left : disputed ≤ 1
    few-left = one-undisputed lim shifted anchors n t none_left q.few

    not-by-one : (c : Choice) → ByCorroboration number shifted anchors n o c → ⊥
    not-by-one c r = q.uncorroborated (subst (Corroborates shifted anchors) r.corroborates.top r.corroborates)

    undecided-topmost : keystream o ≡ true → IsOkAnd r (ByTop number shifted anchors n o)
    undecided-topmost k =
        settled (λ r. IsOkAnd r (ByTop number shifted anchors n o)) (λ c r v d. absurd (omega (arith, none_left)))
        (λ c r v d. absurd (omega (arith, r.agreed.two, q.few)))
        (λ c r v d. absurd (not-by-one c r))
        (λ c r. absurd (omega (arith, r.dispute, few-left)))
        (λ c r. absurd (omega (arith, r.dispute, few-left)))
        (λ c r v d. r)
        (λ c r v d. absurd (never_both r.strict k))

    undecided-refused : keystream o ≡ false → IsErrAnd r (Unverified number shifted anchors n o)
    undecided-refused k =
        settled (λ r. IsErrAnd r (Unverified number shifted anchors n o)) (λ c r v d. absurd (omega (arith, none_left)))
        (λ c r v d. absurd (omega (arith, r.agreed.two, q.few)))
        (λ c r v d. absurd (not-by-one c r))
        (λ c r. absurd (omega (arith, r.dispute, few-left)))
        (λ c r. absurd (omega (arith, r.dispute, few-left)))
        (λ c r v d. absurd (never_both k r.lenient))
        (λ c r v d. r)

module _ (number : ℕ) (shifted anchors : List ℕ) (n : ℕ) (o : Options) where
  length-refused :
      (length shifted ≡ 4080 → ⊥) → IsErrAnd (choice_of number shifted anchors n o) (WrongLength number shifted anchors n o)
  length-refused h =
      subst (λ (r : Result Choice Refused). IsErrAnd r (WrongLength number shifted anchors n o)) (sym (choice-refused number shifted anchors n o _ (asked-length (length shifted) o.search_limit h)))
      (record { marked = refl; unlisted = refl; wrong = h })

  limit-refused :
      length shifted ≡ 4080
      → limit_fits o.search_limit ≡ false
      → IsErrAnd (choice_of number shifted anchors n o) (OutOfRange number shifted anchors n o)
  limit-refused l w =
      subst (λ (r : Result Choice Refused). IsErrAnd r (OutOfRange number shifted anchors n o)) (sym (choice-refused number shifted anchors n o _ (asked-limit (length shifted) o.search_limit l w)))
      (record { marked = refl; unlisted = refl; long = l; outside = w })

  pub made_by : Made number shifted anchors n o (choice_of number shifted anchors n o)
  made_by =
      record {
        row_count = λ k. sole-taken number shifted anchors n o _ (is k) k;
        exact-sectors = λ k. agreed-taken number shifted anchors n o _ (is k) k;
        corroborated = λ k. corroborated-taken number shifted anchors n o _ (is k) k;
        ranked = λ k. dispute-ranked number shifted anchors n o _ (is k) k;
        ambiguous = λ k. dispute-refused number shifted anchors n o _ (is k) k;
        topmost = λ k. undecided-topmost number shifted anchors n o _ (is k) k;
        unverified = λ k. undecided-refused number shifted anchors n o _ (is k) k;
        out_of_range = limit-refused;
        wrong-length = length-refused;
      }
    where
      is : Asked o.search_limit shifted → Meaning number shifted anchors n o (choice_of number shifted anchors n o)
      is k = every-choice number shifted anchors n o k.bytes

-- ---- the theorems

pub choice-means : ChoiceMeans
choice-means =
    record {
      every = every-choice;
      said = λ number shifted anchors n o bytes. said-by number shifted anchors n o _ (every-choice number shifted anchors n o bytes);
      made = made_by;
      all-exact =
          λ number shifted anchors o bv long within small exact.
          (made_by number shifted anchors 0 o).exact-sectors (exact-asked shifted bv long small exact o.search_limit within) bv
          (exact-agreed shifted bv long small exact o.search_limit o.min_trailer_count);
    }
