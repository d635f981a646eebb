-- One sector more among the votes. Assumes nothing.
use Prim.Native.Nat.{ℕ, ◌+◌, ◌-◌, ◌*◌, ◌≤◌, ◌<◌}
use mathlib.Core.Path.{◌≡◌, refl, sym, ap, ◌∙◌, subst, subst₂}
use mathlib.Core.Bool.{Bool, true, false}
use mathlib.Core.List.{List, [], ◌∷◌, ◌++◌}
use native.Mathlib.Omega.{arith}
use borrow.Author.Tests.{eq-eqb, ne_eqb}
use lib.ListN.{length, get_or, set, take, drop, replicate, length-append, length-set}
use Rattle.lists.specs.Bytes.{byte_at}
use Rattle.lists.specs.Counts.{count, all_same, Tallies}
use Rattle.lists.specs.Pieces.{each, among}
use Rattle.lists.proofs.Count.{tallies-none, tallies-more, tallies-le, tallies-all}
use Rattle.lists.proofs.Each.{each_at}
use Rattle.lists.proofs.Many.{many-le}
use Rattle.lists.proofs.Among.{among_none, among-yes, among-no, among-length}
use Rattle.summary.specs.Page.{part, sector_end}
use Rattle.votes.specs.declared.polls.Poll.{Poll}
use Rattle.votes.specs.declared.polls.Ballots.{Ballots}
use Rattle.votes.specs.Votes.{counts_of, ballots, poll_of}
use Rattle.votes.specs.CountTables.{ballots_of}

-- the votes of the first n sectors
abbrev exact : List ℕ → ℕ → Bool
exact shifted s = all_same (part s shifted)

abbrev first : List ℕ → ℕ → ℕ
first shifted s = byte_at shifted (s * 512)

abbrev pub ballots_to : List ℕ → ℕ → List ℕ
ballots_to shifted n = among (λ s. exact shifted s) (λ s. first shifted s) n

-- what is known after s sectors
pub record Polls (shifted : List ℕ) (s : ℕ) (votes : List ℕ) (total : ℕ) : Type 0 where
  pub long : length votes ≡ 256
  pub tallies : Tallies 256 votes (ballots_to shifted s)
  pub number : total ≡ length (ballots_to shifted s)

pub exact-here : (shifted : List ℕ) (s e : ℕ) (r : Bool) → e ≡ sector_end s → r ≡ all_same (take (e - s * 512) (drop (s * 512) shifted)) → all_same (part s shifted) ≡ r
unfolding part
exact-here shifted s e r he hr = sym (hr ∙ ap (λ (k : ℕ). all_same (take (k - s * 512) (drop (s * 512) shifted))) he)

pub polls-none : (shifted : List ℕ) → Polls shifted 0 (replicate 256 0) 0
polls-none shifted =
    record {
      long = refl;
      tallies = subst (Tallies 256 (replicate 256 0)) (sym (among_none (exact shifted) (first shifted))) (tallies-none 256);
      number = ap length (sym (among_none (exact shifted) (first shifted)));
    }

module _ (shifted : List ℕ) (s : ℕ) (votes : List ℕ) (total : ℕ) (p : Polls shifted s votes total) where
  few : length (ballots_to shifted s) ≤ s
  few = omega (arith, among-length (exact shifted) (first shifted) s, many-le (exact shifted) s)

  pub polls-le : (v : ℕ) → v < 256 → byte_at votes v ≤ s
  polls-le v h = omega (arith, tallies-le 256 votes (ballots_to shifted s) p.tallies v h, few)

  pub polls-few : total ≤ s
  polls-few = omega (arith, p.number, few)

  pub polls-no : all_same (part s shifted) ≡ false → Polls shifted (s + 1) votes total
  polls-no h =
      let e : ballots_to shifted (s + 1) ≡ ballots_to shifted s = among-no (exact shifted) (first shifted) s h in
      record { long = p.long; tallies = subst (Tallies 256 votes) (sym e) p.tallies; number = p.number ∙ ap length (sym e) }

  pub polls-yes :
      (v : ℕ)
      → all_same (part s shifted) ≡ true
      → v ≡ byte_at shifted (s * 512)
      → v < 256
      → Polls shifted (s + 1) (set votes v (get_or votes v 0 + 1)) (total + 1)
  polls-yes v h ev hv =
      let e : ballots_to shifted (s + 1) ≡ ballots_to shifted s ++ (v ∷ []) =
      among-yes (exact shifted) (first shifted) s h ∙ ap (λ (x : ℕ). ballots_to shifted s ++ (x ∷ [])) (sym ev) in
      record {
        long = length-set votes v (get_or votes v 0 + 1) ∙ p.long;
        tallies =
            subst (Tallies 256 (set votes v (get_or votes v 0 + 1))) (sym e)
            (tallies-more 256 votes (ballots_to shifted s) p.tallies v (omega (arith, p.long)));
        number = omega (arith, p.number, ap length e, length-append (ballots_to shifted s) (v ∷ []));
      }

-- the same at equal tables
pub polls-as : (shifted : List ℕ) (s : ℕ) {v v' : List ℕ} {n n' : ℕ} → v' ≡ v → n' ≡ n → Polls shifted s v n → Polls shifted s v' n'
polls-as shifted s p q l = subst₂ (λ (x : List ℕ) (y : ℕ). Polls shifted s x y) (sym p) (sym q) l

pub polls-all :
    (shifted : List ℕ) (s : ℕ) (votes : List ℕ) (total : ℕ)
    → s ≡ 8
    → Polls shifted s votes total
    → ◌≡◌ {A = Ballots} (record { votes = votes; total = total }) (ballots_of shifted)
unfolding ballots_of ballots counts_of
polls-all shifted s votes total e p =
    let b : ballots_to shifted s ≡ ballots_to shifted 8 = ap (ballots_to shifted) e in
    let q : votes ≡ each (λ v. count v (ballots_to shifted 8)) 256 =
    tallies-all 256 votes (ballots_to shifted s) p.tallies p.long ∙ ap (λ (l : List ℕ). each (λ v. count v l) 256) b in
    let n : total ≡ length (ballots_to shifted 8) = p.number ∙ ap length b in
    λ i. record { votes = q i; total = n i }

-- the votes for one value
module _ (shifted : List ℕ) (bv : ℕ) where
  pub poll-not : (length shifted ≡ 4080 → ⊥) → poll_of shifted bv ≡ record { votes = 0; total = 0 }
  unfolding poll_of
  poll-not h = rw (ne_eqb (length shifted) 4080 h)

  pub poll-is : length shifted ≡ 4080 → poll_of shifted bv ≡ record { votes = count bv (ballots shifted); total = length (ballots shifted) }
  unfolding poll_of
  poll-is h = rw (eq-eqb (length shifted) 4080 h)

  pub poll-made :
      (b : Ballots)
      → length shifted ≡ 4080
      → bv < 256
      → b ≡ ballots_of shifted
      → ◌≡◌ {A = Poll} (record { votes = get_or b.votes bv 0; total = b.total }) (poll_of shifted bv)
  unfolding ballots_of counts_of
  poll-made b h k e = rw e (rw (each_at (λ v. count v (ballots shifted)) 256 bv 0 k) (sym (poll-is h)))
