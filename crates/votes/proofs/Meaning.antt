-- What the candidates and the top are: the candidates' values are, in ascending order and each once, those that are voted for, and those that
-- occur and that fewer than four values beat; no value beats the top. Assumes nothing.
use Prim.Native.Nat.{ℕ, zero, suc, ◌<◌}
use mathlib.Core.Path.{◌≡◌, refl, sym, ap, ap₂, ◌∙◌, subst}
use mathlib.Core.Bool.{Bool, true, false, ◌&&◌, ◌||◌}
use mathlib.Core.List.{List, [], ◌∷◌, ◌++◌, map, append-nil}
use native.Mathlib.Decide.{ℕ_discrete}
use native.Mathlib.Omega.{arith}
use borrow.Author.Tests.{eq-eqb, ne_eqb, lt-ltb, le-ltb}
use lib.Dec.{eqb, ltb}
use lib.ListN.{length, length-append, get_or-append}
use lib.Seq.{get_or_at}
use Rattle.lists.specs.Cases.{pick}
use Rattle.lists.specs.Bytes.{byte_at, AllBytes}
use Rattle.lists.specs.Counts.{count, how_many, is_in}
use Rattle.lists.specs.Pieces.{among}
use Rattle.lists.proofs.Booleans.{or_nothing, or_yes_right}
use Rattle.lists.proofs.Picks.{pick-test}
use Rattle.lists.proofs.Count.{count-here}
use Rattle.lists.proofs.Each.{each_at}
use Rattle.lists.proofs.Many.{many-zero}
use Rattle.lists.proofs.Greatest.{greatest-above}
use Rattle.votes.specs.declared.Candidate.{Candidate}
use Rattle.votes.specs.Votes.{counts_of, ballots, beats, top_of, is_common, is_candidate, candidate_of, candidates_below}
use Rattle.votes.specs.Eight.{bvs_in}
use Rattle.votes.proofs.Tests.{lt-cases}
use Rattle.votes.proofs.Keys.{key_at, beats-key, top-met}

-- numbers below n in ascending order, each once
pub record Rises (n : ℕ) (l : List ℕ) : Type 0 where
  pub within : (i : ℕ) → i < length l → byte_at l i < n
  pub strictly : (i j : ℕ) → i < j → j < length l → byte_at l i < byte_at l j

module _ (n : ℕ) (l : List ℕ) where
  early : (i : ℕ) → i < length l → byte_at (l ++ (n ∷ [])) i ≡ byte_at l i
  early i h = get_or-append l (n ∷ []) 0 i h

  late : (i : ℕ) → i ≡ length l → byte_at (l ++ (n ∷ [])) i ≡ n
  late i e = get_or_at l n [] 0 i (sym e)

  rises-more : Rises n l → Rises (suc n) (l ++ (n ∷ []))
  rises-more r =
      record { within = λ i h. at i h (ℕ_discrete i (length l)); strictly = λ i j q h. two i j q h (ℕ_discrete j (length l)) }
    where
      at : (i : ℕ) → i < length (l ++ (n ∷ [])) → Dec (i ≡ length l) → byte_at (l ++ (n ∷ [])) i < suc n
      at i h (yes e) = omega (arith, late i e)
      at i h (no ne) =
          let k : i < length l = omega (arith, length-append l (n ∷ [])) in
          omega (arith, early i k, r.within i k)

      two : (i j : ℕ) → i < j → j < length (l ++ (n ∷ [])) → Dec (j ≡ length l) → byte_at (l ++ (n ∷ [])) i < byte_at (l ++ (n ∷ [])) j
      two i j q h (yes e) =
          let k : i < length l = omega arith in
          omega (arith, late j e, early i k, r.within i k)
      two i j q h (no ne) =
          let k : j < length l = omega (arith, length-append l (n ∷ [])) in
          omega (arith, early j k, early i (omega arith), r.strictly i j q k)

  rises-later : Rises n l → Rises (suc n) l
  rises-later r = record { within = λ i h. omega (arith, r.within i h); strictly = r.strictly }

in-last : (v : ℕ) (l : List ℕ) (n : ℕ) → is_in v (l ++ (n ∷ [])) ≡ (is_in v l || eqb v n)
unfolding is_in
in-last v [] n = pick-test (eqb v n)
in-last v (x ∷ l) n = go (eqb v x) (in-last v l n)
  where
    go : (b : Bool) → is_in v (l ++ (n ∷ [])) ≡ (is_in v l || eqb v n) → pick b true (is_in v (l ++ (n ∷ []))) ≡ (pick b true (is_in v l) || eqb v n)
    go true e = refl
    go false e = e

-- the numbers below n that pass a test: they rise, and they are just those
module _ (p : ℕ → Bool) where
  pub among-rises : (n : ℕ) → Rises n (among p (λ v. v) n)
  unfolding among
  among-rises zero = record { within = λ i h. absurd (omega arith); strictly = λ i j q h. absurd (omega arith) }
  among-rises (suc n) = go (p n) (among-rises n)
    where
      go : (b : Bool) → Rises n (among p (λ v. v) n) → Rises (suc n) (among p (λ v. v) n ++ pick b (n ∷ []) [])
      go true r = rises-more n (among p (λ v. v) n) r
      go false r = subst (Rises (suc n)) (sym (append-nil (among p (λ v. v) n))) (rises-later n (among p (λ v. v) n) r)

  module _ (n v : ℕ) where
    other : (v ≡ n → ⊥) → (ltb v n && p v) ≡ (ltb v (suc n) && p v)
    other ne =
        lt-cases ((ltb v n && p v) ≡ (ltb v (suc n) && p v)) v n
        (λ h. ap (λ (b : Bool). b && p v) (lt-ltb v n h ∙ sym (lt-ltb v (suc n) (omega arith))))
        (λ h. ap (λ (b : Bool). b && p v) (le-ltb v n h ∙ sym (le-ltb v (suc n) (omega arith))))

    same : (b : Bool) → p n ≡ b → v ≡ n → b ≡ (ltb v (suc n) && p v)
    same b q e = sym q ∙ ap p (sym e) ∙ ap (λ (x : Bool). x && p v) (sym (lt-ltb v (suc n) (omega arith)))

    before : is_in v (among p (λ v. v) n) ≡ (ltb v n && p v) → v ≡ n → is_in v (among p (λ v. v) n) ≡ false
    before ih e = ih ∙ ap (λ (b : Bool). b && p v) (le-ltb v n (omega arith))

    has_more :
        (b : Bool)
        → p n ≡ b
        → is_in v (among p (λ v. v) n) ≡ (ltb v n && p v)
        → Dec (v ≡ n)
        → is_in v (among p (λ v. v) n ++ pick b (n ∷ []) []) ≡ (ltb v (suc n) && p v)
    has_more true q ih (yes e) = in-last v (among p (λ v. v) n) n ∙ ap₂ ◌||◌ (before ih e) (eq-eqb v n e) ∙ same true q e
    has_more true q ih (no ne) =
        in-last v (among p (λ v. v) n) n ∙ ap₂ ◌||◌ ih (ne_eqb v n ne) ∙ or_nothing (ltb v n && p v) ∙ other ne
    has_more false q ih (yes e) = ap (is_in v) (append-nil (among p (λ v. v) n)) ∙ before ih e ∙ same false q e
    has_more false q ih (no ne) = ap (is_in v) (append-nil (among p (λ v. v) n)) ∙ ih ∙ other ne

  pub among-has : (n v : ℕ) → is_in v (among p (λ v. v) n) ≡ (ltb v n && p v)
  unfolding among is_in
  among-has zero v = sym (ap (λ (b : Bool). b && p v) (le-ltb v 0 (omega arith)))
  among-has (suc n) v = has_more n v (p n) refl (among-has n v) (ℕ_discrete v n)

module _ (g : Candidate → ℕ) where
  map-append : (l m : List Candidate) → map g (l ++ m) ≡ map g l ++ map g m
  map-append [] m = refl
  map-append (x ∷ l) m = ap (λ (t : List ℕ). g x ∷ t) (map-append l m)

  map-one : (b : Bool) (x : Candidate) → map g (pick b (x ∷ []) []) ≡ pick b (g x ∷ []) []
  map-one true x = refl
  map-one false x = refl

  pub map-among : (p : ℕ → Bool) (f : ℕ → Candidate) (n : ℕ) → map g (among p f n) ≡ among p (λ v. g (f v)) n
  unfolding among
  map-among p f zero = refl
  map-among p f (suc n) =
      map-append (among p f n) (pick (p n) (f n ∷ []) [])
      ∙ ap₂ (λ (l m : List ℕ). l ++ m) (map-among p f n) (map-one (p n) (f n))

module _ (lim : ℕ) (shifted anchors : List ℕ) (n t bound : ℕ) where
  values-are : bvs_in (candidates_below lim shifted anchors n t bound) ≡ among (is_candidate (counts_of shifted) (counts_of (ballots shifted))) (λ v. v) bound
  unfolding candidates_below candidate_of
  values-are = map-among (λ (c : Candidate). c.bv) (is_candidate (counts_of shifted) (counts_of (ballots shifted))) (candidate_of lim shifted anchors n t) bound

  pub candidates-rise : Rises bound (bvs_in (candidates_below lim shifted anchors n t bound))
  candidates-rise = subst (Rises bound) (sym values-are) (among-rises (is_candidate (counts_of shifted) (counts_of (ballots shifted))) bound)

  pub candidates-just :
      (v : ℕ)
      → v < bound
      → is_in v (bvs_in (candidates_below lim shifted anchors n t bound)) ≡ is_candidate (counts_of shifted) (counts_of (ballots shifted)) v
  candidates-just v h =
      ap (is_in v) values-are
      ∙ among-has (is_candidate (counts_of shifted) (counts_of (ballots shifted))) bound v
      ∙ ap (λ (b : Bool). b && is_candidate (counts_of shifted) (counts_of (ballots shifted)) v) (lt-ltb v bound h)

  -- "all voted values and the four commonest": voted for, or it occurs and fewer than four values beat it
  pub candidates-are :
      (v : ℕ)
      → v < bound
      → is_in v (bvs_in (candidates_below lim shifted anchors n t bound))
      ≡ (ltb 0 (byte_at (counts_of (ballots shifted)) v)
      || (ltb 0 (byte_at (counts_of shifted) v) && ltb (how_many (λ w. beats (counts_of shifted) w v) 256) 4))
  unfolding is_candidate is_common
  candidates-are v h = candidates-just v h

-- no value beats the top; and where a value occurs, the top occurs and is a candidate
module _ (counts : List ℕ) where
  pub top_byte : top_of counts < 256
  top_byte = top-met counts (top_of counts < 256) (λ k h q e. omega arith)

  pub top-unbeaten : (w : ℕ) → w < 256 → beats counts w (top_of counts) ≡ false
  top-unbeaten w hw =
      top-met counts (beats counts w (top_of counts) ≡ false)
      (λ k h q e.
      ap (beats counts w) e
      ∙ beats-key counts w k hw h
      ∙ le-ltb (key_at counts k) (key_at counts w) (omega (arith, greatest-above (key_at counts) 256 w hw)))

  pub top_common : (v : ℕ) → v < 256 → 0 < byte_at counts v → is_common counts (top_of counts) ≡ true
  unfolding is_common
  top_common v h k =
      let few : how_many (λ w. beats counts w (top_of counts)) 256 ≡ 0 = many-zero (λ w. beats counts w (top_of counts)) 256 top-unbeaten in
      let occurs : 0 < byte_at counts (top_of counts) =
      top-met counts (0 < byte_at counts (top_of counts))
      (λ m l q e. omega (arith, ap (byte_at counts) e, greatest-above (key_at counts) 256 v h)) in
      ap₂ ◌&&◌ (lt-ltb 0 (byte_at counts (top_of counts)) occurs) (lt-ltb (how_many (λ w. beats counts w (top_of counts)) 256) 4 (omega (arith, few)))

-- the table of counts has each value's count; and of some bytes the top is a candidate
pub counts-at : (l : List ℕ) (v : ℕ) → v < 256 → byte_at (counts_of l) v ≡ count v l
unfolding counts_of
counts-at l v h = each_at (λ v. count v l) 256 v 0 h

pub top-candidate :
    (shifted votes : List ℕ)
    → 0 < length shifted
    → AllBytes shifted
    → is_candidate (counts_of shifted) votes (top_of (counts_of shifted)) ≡ true
unfolding is_candidate
top-candidate [] votes h b = absurd (omega arith)
top-candidate (x ∷ xs) votes h b =
    let small : x < 256 = b.at 0 h in
    or_yes_right (ltb 0 (byte_at votes (top_of (counts_of (x ∷ xs))))) (is_common (counts_of (x ∷ xs)) (top_of (counts_of (x ∷ xs))))
    (top_common (counts_of (x ∷ xs)) x small (omega (arith, counts-at (x ∷ xs) x small, count-here x xs)))
