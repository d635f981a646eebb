-- Laws of what the parse decides, and that what it lists is a directory. Assumes nothing.
use Prim.Native.Nat.{ℕ, ◌+◌, ◌*◌, ◌≤◌, ◌<◌}
use Rattle.std.proofs.Common.{map, Option, Some, None, Result, Ok, Err, IfSome, IfOk}
use mathlib.Core.Path.{◌≡◌, refl, sym, ap, ◌∙◌}
use mathlib.Core.List.{List, [], ◌∷◌}
use mathlib.Core.Bool.{Bool, true, false}
use lib.Dec.{ltb, eqb}
use lib.ListN.{length, get_or}
use borrow.Author.Tests.{eq-eqb, ne_eqb, lt-ltb, le-ltb}
use Rattle.lists.specs.Cases.{pick}
use Rattle.lists.specs.Pieces.{keep}
use Rattle.lists.specs.Bytes.{byte_at, plain_of}
use Rattle.slots.specs.Slots.{slot_value, scanned_directory}
use Rattle.slots.specs.declared.scans.Scan.{Scan}
use Rattle.preludes.specs.Preludes.{prelude_of}
use Rattle.preludes.specs.declared.search.Prelude.{Prelude}
use Rattle.preludes.specs.declared.search.Prelude.TheVariants as prelude
use Rattle.slots.proofs.Pages.{plain-zero}
use Rattle.answers.specs.Settings.{limit_fits}
use Rattle.answers.specs.declared.kinds.Refusal.{Refusal}
use Rattle.answers.specs.declared.notices.WarningKind.{WarningKind}
use Rattle.answers.specs.declared.notices.WarningKind.TheVariants as warning
use Rattle.directory.specs.Directory.{slots_of, is_inside, inside_of, first_of, Sound}
use Rattle.directory.specs.Decisions.{Decision, numbered, listed_of, few_of, unconfirmed_of, many_of}
use Rattle.directory.specs.Decisions.{found_of, inside_checked_by, listed_checked, inside_checked, decision_of, page_decision}
use Rattle.directory.specs.declared.verdicts.Unlisted.{Unlisted}
use Rattle.directory.specs.declared.verdicts.Unlisted.TheVariants.{WrongLength, LimitOutOfRange, OffsetInside}
use Rattle.directory.specs.declared.verdicts.Listed.{Listed}
use Rattle.directory.specs.declared.verdicts.Decided.{Decided}
use Rattle.directory.proofs.Found.{scanned-sound, prelude-sound}

-- a plain page is scanned at bv = 0
pub scanned-plain : (lim : ℕ) (xs : List ℕ) → ((i : ℕ) → get_or xs i 0 < 256) → (r : Option Scan) → r ≡ scanned_directory lim (plain_of 0 xs) → r ≡ scanned_directory lim xs
scanned-plain lim xs bytes r e = e ∙ ap (scanned_directory lim) (plain-zero xs (λ i h. bytes i))

-- by the row count
module _ (lim : ℕ) (plain : List ℕ) (n : ℕ) (lenient : Bool) where
  pub found-zero : n ≡ 0 → unconfirmed_of (scanned_directory lim plain) lenient false None ≡ found_of lim plain n lenient
  unfolding found_of
  found-zero z = rw (eq-eqb n 0 z) refl

  pub found-few : (n ≡ 0 → ⊥) → n < 4 → few_of (prelude_of lim plain n) n lenient ≡ found_of lim plain n lenient
  unfolding found_of
  found-few k h = rw (ne_eqb n 0 k, lt-ltb n 4 h) refl

  pub found-many : (n ≡ 0 → ⊥) → 4 ≤ n → many_of (prelude_of lim plain n) n (scanned_directory lim plain) lenient ≡ found_of lim plain n lenient
  unfolding found_of
  found-many k h = rw (ne_eqb n 0 k, le-ltb n 4 h) refl

-- a page, and what is none
module _ (lim : ℕ) (plain : List ℕ) (lenient : Bool) where
  pub decided-short : (length plain ≡ 4096 → ⊥) → Err (WrongLength (length plain)) ≡ decision_of lim plain lenient
  unfolding decision_of
  decided-short k = rw (ne_eqb (length plain) 4096 k) refl

  pub decided-out : length plain ≡ 4096 → limit_fits lim ≡ false → Err (LimitOutOfRange lim) ≡ decision_of lim plain lenient
  unfolding decision_of
  decided-out k f = rw (eq-eqb (length plain) 4096 k, f) refl

  pub decided-page :
      (n : ℕ)
      → length plain ≡ 4096
      → limit_fits lim ≡ true
      → n ≡ byte_at plain 0xFF0
      → inside_checked plain lenient (found_of lim plain n lenient) ≡ decision_of lim plain lenient
  unfolding decision_of
  decided-page n k f e = rw (eq-eqb (length plain) 4096 k, f, e) refl

-- offsets inside, by the first of them
module _ (lenient : Bool) (d : Decided) (end : ℕ) (l : List ℕ) where
  pub checked-none : None ≡ first_of l → Ok d ≡ inside_checked_by lenient d end l
  checked-none e = go l e
    where
      go : (l : List ℕ) → None ≡ first_of l → Ok d ≡ inside_checked_by lenient d end l
      go [] e = refl
      go (v ∷ l) e = cc

  pub checked_refused : (v : ℕ) → Some v ≡ first_of l → lenient ≡ false → Err (OffsetInside v end) ≡ inside_checked_by lenient d end l
  checked_refused v e s = rw s (go l e)
    where
      go : (l : List ℕ) → Some v ≡ first_of l → Err (OffsetInside v end) ≡ inside_checked_by false d end l
      go [] e = cc
      go (w ∷ l) e = cc

  pub checked-dropped :
      (v n : ℕ)
      → Some v ≡ first_of l
      → n ≡ length l
      → lenient ≡ true
      → Ok (record { listed = d.listed; first = d.first; second = d.second; third = Some (warning.SlotOffsetsInDirectory n) }) ≡ inside_checked_by lenient d end l
  checked-dropped v n e m s = rw s (go l e m)
    where
      go : (l : List ℕ) → Some v ≡ first_of l → n ≡ length l → Ok (record { listed = d.listed; first = d.first; second = d.second; third = Some (warning.SlotOffsetsInDirectory n) }) ≡ inside_checked_by true d end l
      go [] e m = cc
      go (w ∷ l) e m = ap (λ (k : ℕ). Ok (record { listed = d.listed; first = d.first; second = d.second; third = Some (warning.SlotOffsetsInDirectory k) })) m

-- of the slots of what is listed, where they stand
pub inside-checks :
    (plain : List ℕ) (lenient : Bool) (d : Decided) (l : Listed) (slots : List (List ℕ))
    → d.listed ≡ Some l
    → map slot_value slots ≡ slots_of plain l.start l.count
    → let end : ℕ = l.start + 2 * l.count in
    inside_checked_by lenient d end (keep (is_inside l.start end) (map slot_value slots)) ≡ inside_checked plain lenient (Ok d)
unfolding inside_of
inside-checks plain lenient d l slots o e =
    let end : ℕ = l.start + 2 * l.count in
    ap (λ (offsets : List ℕ). inside_checked_by lenient d end (keep (is_inside l.start end) offsets)) e ∙ sym (ap (listed_checked plain lenient d) o)

-- a refusal stays
pub refused-stays : (plain : List ℕ) (lenient : Bool) (d : Decision) (r : Unlisted) → d ≡ Err r → d ≡ inside_checked plain lenient d
refused-stays plain lenient d r e = rw e refl

-- what holds of each directory that the search finds holds of what is listed
abbrev pub HoldsOf : (ℕ → ℕ → Type 0) → Option Listed → Type 0
HoldsOf P o = IfSome o (λ l. P l.start l.count)

abbrev pub ListedAs : (ℕ → ℕ → Type 0) → Decision → Type 0
ListedAs P d = HoldsOf P (listed_of d)

module _ (lim : ℕ) (plain : List ℕ) (P : ℕ → ℕ → Type 0) (scanned : (d : Scan) → scanned_directory lim plain ≡ Some d → P d.start d.slots) where
  unconfirmed-holds : (f : Option Scan) → f ≡ scanned_directory lim plain → (lenient counted : Bool) (before : Option WarningKind) → ListedAs P (unconfirmed_of f lenient counted before)
  unconfirmed-holds (Some d) e true counted before = scanned d (sym e)
  unconfirmed-holds (Some d) e false counted before = tt
  unconfirmed-holds None e true true before = tt
  unconfirmed-holds None e true false before = tt
  unconfirmed-holds None e false true before = tt
  unconfirmed-holds None e false false before = tt

  module _ (n : ℕ) (declared : (s : ℕ) → prelude_of lim plain n ≡ prelude.One s → P s n) where
    few-holds : (q : Prelude) → q ≡ prelude_of lim plain n → (lenient : Bool) → ListedAs P (few_of q n lenient)
    few-holds prelude.Missing e true = tt
    few-holds prelude.Missing e false = tt
    few-holds (prelude.Truncated found stop) e true = tt
    few-holds (prelude.Truncated found stop) e false = tt
    few-holds (prelude.One s) e true = declared s (sym e)
    few-holds (prelude.One s) e false = tt
    few-holds prelude.Several e true = tt
    few-holds prelude.Several e false = tt

    many-holds : (q : Prelude) → q ≡ prelude_of lim plain n → (lenient : Bool) → ListedAs P (many_of q n (scanned_directory lim plain) lenient)
    many-holds prelude.Missing e lenient = unconfirmed-holds (scanned_directory lim plain) refl lenient true None
    many-holds (prelude.Truncated found stop) e true = unconfirmed-holds (scanned_directory lim plain) refl true true (Some (warning.SlotDirectoryTruncated found n))
    many-holds (prelude.Truncated found stop) e false = tt
    many-holds (prelude.One s) e lenient = declared s (sym e)
    many-holds prelude.Several e true = unconfirmed-holds (scanned_directory lim plain) refl true true (Some warning.AmbiguousSlotDirectory)
    many-holds prelude.Several e false = tt

    pub found-holds : (lenient : Bool) → ListedAs P (found_of lim plain n lenient)
    unfolding found_of
    found-holds lenient = go (eqb n 0) (ltb n 4)
      where
        go : (b c : Bool) → ListedAs P (pick b (unconfirmed_of (scanned_directory lim plain) lenient false None) (pick c (few_of (prelude_of lim plain n) n lenient) (many_of (prelude_of lim plain n) n (scanned_directory lim plain) lenient)))
        go true c = unconfirmed-holds (scanned_directory lim plain) refl lenient false None
        go false true = few-holds (prelude_of lim plain n) refl lenient
        go false false = many-holds (prelude_of lim plain n) refl lenient

module _ (lim : ℕ) (plain : List ℕ) (P : ℕ → ℕ → Type 0) where
  checked-holds : (d : Decided) → HoldsOf P d.listed → (lenient : Bool) (end : ℕ) (l : List ℕ) → ListedAs P (inside_checked_by lenient d end l)
  checked-holds d s lenient end [] = s
  checked-holds d s true end (v ∷ l) = s
  checked-holds d s false end (v ∷ l) = tt

  listed-holds : (d : Decided) → HoldsOf P d.listed → (lenient : Bool) (o : Option Listed) → ListedAs P (listed_checked plain lenient d o)
  listed-holds d s lenient None = s
  listed-holds d s lenient (Some l) = checked-holds d s lenient (l.start + 2 * l.count) (inside_of plain l.start l.count)

  inside-holds : (d : Decision) → ListedAs P d → (lenient : Bool) → ListedAs P (inside_checked plain lenient d)
  inside-holds (Ok d) s lenient = listed-holds d s lenient d.listed
  inside-holds (Err r) s lenient = tt

  -- something is looked for only where the limit fits
  pub decided-holds :
      (lenient : Bool)
      → (limit_fits lim ≡ true → ListedAs P (found_of lim plain (byte_at plain 0xFF0) lenient))
      → ListedAs P (decision_of lim plain lenient)
  unfolding decision_of
  decided-holds lenient found = go (eqb (length plain) 4096) (limit_fits lim) refl
    where
      d : Decision
      d = found_of lim plain (byte_at plain 0xFF0) lenient

      go :
          (b c : Bool)
          → limit_fits lim ≡ c
          → ListedAs P (pick b (pick c (inside_checked plain lenient d) (Err (LimitOutOfRange lim))) (Err (WrongLength (length plain))))
      go true true f = inside-holds d (found f) lenient
      go true false f = tt
      go false c f = tt

-- what is listed is sound
pub found-sound : (lim : ℕ) (plain : List ℕ) (n : ℕ) (lenient : Bool) → ListedAs (Sound plain) (found_of lim plain n lenient)
found-sound lim plain n lenient = found-holds lim plain (Sound plain) (scanned-sound lim plain) n (prelude-sound lim plain n) lenient

pub decided-sound : (lim : ℕ) (plain : List ℕ) (lenient : Bool) → ListedAs (Sound plain) (decision_of lim plain lenient)
decided-sound lim plain lenient = decided-holds lim plain (Sound plain) lenient (λ f. found-sound lim plain (byte_at plain 0xFF0) lenient)

-- what the decision with the page's number comes from
pub numbered-ok : (number : ℕ) (d : Decision) (e : Decided) → Ok e ≡ numbered number d → d ≡ Ok e
numbered-ok number (Ok d) e q = let same : d ≡ e = cc in ap (λ (x : Decided). Ok x) same
numbered-ok number (Err u) e q = cc

pub numbered-err : (number : ℕ) (d : Decision) (x : Refusal) → Err x ≡ numbered number d → listed_of d ≡ None
numbered-err number (Ok d) x q = cc
numbered-err number (Err u) x q = refl

-- and so what is listed of a page is sound
numbered-sound : (number : ℕ) (plain : List ℕ) (d : Decision) → ListedAs (Sound plain) d → IfOk (numbered number d) (λ d. HoldsOf (Sound plain) d.listed)
numbered-sound number plain (Ok d) s = s
numbered-sound number plain (Err u) s = tt

pub page-sound : (lim number : ℕ) (plain : List ℕ) (lenient : Bool) (p : Result Decided Refusal) → p ≡ page_decision lim number plain lenient → IfOk p (λ d. HoldsOf (Sound plain) d.listed)
page-sound lim number plain lenient p e = rw e (numbered-sound number plain (decision_of lim plain lenient) (decided-sound lim plain lenient))

-- the way out of `find` below the row count 4
pub few-decided : (lim : ℕ) (plain : List ℕ) (n : ℕ) (lenient : Bool) (p : Prelude) (r : Decision) → n < 4 → (n ≡ 0 → ⊥) → p ≡ prelude_of lim plain n → r ≡ few_of p n lenient → r ≡ found_of lim plain n lenient
few-decided lim plain n lenient p r h k f e = e ∙ ap (λ (x : Prelude). few_of x n lenient) f ∙ found-few lim plain n lenient k h

pub ruleset finding = (few-decided, found-zero, found-many)

-- the way out of `decide` for what is no page
pub short-decided : (lim : ℕ) (plain : List ℕ) (lenient : Bool) (r : Decision) → r ≡ Err (WrongLength (length plain)) → (length plain ≡ 4096 → ⊥) → r ≡ decision_of lim plain lenient
short-decided lim plain lenient r e k = e ∙ decided-short lim plain lenient k

pub ruleset deciding = (short-decided, decided-out)
