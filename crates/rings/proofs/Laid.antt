-- Laws of a ring that is laid twice, and of a table of eight such rings. Assumes nothing.
use Rattle.std.proofs.Common.{◌≡◌, ℕ, ◌+◌, ◌*◌, ◌/◌, ◌%◌, ◌<◌, ◌≤◌, List, length, set, sym, refl, ap, ◌∙◌, arith, length-set, get_or-set_other, get_or-set_same, below_more}
use native.Mathlib.Decide.{ℕ_discrete}
use Rattle.lists.specs.Bytes.{byte_at}
use Rattle.rings.specs.Table.{if_room, Laid}
use Rattle.rings.proofs.Rooms.{room-all}

-- ---- one ring

module _ (f : ℕ → ℕ) (before : List ℕ) (to : ℕ) where
  pub laid_none : Laid f before to 0 before
  laid_none = record { size = refl; low = λ v h. absurd (omega arith); high = λ v h. absurd (omega arith); under = λ i h. refl }

  module _ (n : ℕ) (t : List ℕ) (x : ℕ) (w : Laid f before to n t) (h : n < 256) (room : to + 512 ≤ length t) (e : x ≡ f n) where
    abbrev after : List ℕ
    after = set (set t (to + n) x) (to + 256 + n) x

    other : (i : ℕ) → (i ≡ to + n → ⊥) → (i ≡ to + 256 + n → ⊥) → byte_at after i ≡ byte_at t i
    other i p q = get_or-set_other (set t (to + n) x) (to + 256 + n) i x 0 q ∙ get_or-set_other t (to + n) i x 0 p

    pub laid_more : Laid f before to (n + 1) after
    laid_more =
        record {
          size = length-set (set t (to + n) x) (to + 256 + n) x ∙ length-set t (to + n) x ∙ w.size;
          low =
              below_more (λ v. byte_at after (to + v) ≡ f v) n (λ v k. other (to + v) (λ q. omega arith) (λ q. omega arith) ∙ w.low v k)
              (get_or-set_other (set t (to + n) x) (to + 256 + n) (to + n) x 0 (λ q. omega arith) ∙ get_or-set_same t (to + n) x 0 (omega arith) ∙ e);
          high =
              below_more (λ v. byte_at after (to + 256 + v) ≡ f v) n (λ v k. other (to + 256 + v) (λ q. omega arith) (λ q. omega arith) ∙ w.high v k)
              (get_or-set_same (set t (to + n) x) (to + 256 + n) x 0 (omega (arith, length-set t (to + n) x)) ∙ e);
          under = λ i k. other i (λ q. omega arith) (λ q. omega arith) ∙ w.under i k;
        }

-- ---- eight rings

-- the first n of the rings F 0, F 1 and so on stand one behind the other, each twice
pub record Rings (F : ℕ → ℕ → ℕ) (n : ℕ) (t : List ℕ) : Type 0 where
  pub size : length t ≡ 4096
  pub at : (i : ℕ) → i < n * 512 → byte_at t i ≡ F (i / 512) (i % 256)

module _ (F : ℕ → ℕ → ℕ) where
  pub rings-none : (t : List ℕ) → length t ≡ 4096 → Rings F 0 t
  rings-none t e = record { size = e; at = λ i h. absurd (omega arith) }

  pub rings-more : (n : ℕ) (t t' : List ℕ) → Rings F n t → Laid (F n) t (n * 512) 256 t' → Rings F (n + 1) t'
  rings-more n t t' s w = record { size = w.size ∙ s.size; at = λ i h. go i h (ℕ_discrete (i / 256) (n * 2)) (ℕ_discrete (i / 256) (n * 2 + 1)) }
    where
      in-ring : (i : ℕ) → i / 512 ≡ n → F n (i % 256) ≡ F (i / 512) (i % 256)
      in-ring i e = ap (λ (r : ℕ). F r (i % 256)) (sym e)

      go : (i : ℕ) → i < (n + 1) * 512 → Dec (i / 256 ≡ n * 2) → Dec (i / 256 ≡ n * 2 + 1) → byte_at t' i ≡ F (i / 512) (i % 256)
      go i h (yes e) d =
          let place : i ≡ n * 512 + i % 256 = omega arith in
          ap (byte_at t') place ∙ w.low (i % 256) (omega arith) ∙ in-ring i (omega arith)
      go i h (no p) (yes e) =
          let place : i ≡ n * 512 + 256 + i % 256 = omega arith in
          ap (byte_at t') place ∙ w.high (i % 256) (omega arith) ∙ in-ring i (omega arith)
      go i h (no p) (no q) = let k : i < n * 512 = omega arith in w.under i k ∙ s.at i k

  pub rings-all : (out : List ℕ) (n : ℕ) (t : List ℕ) → length out ≡ 4096 → n ≡ 8 → Rings F n t → t ≡ if_room out (λ i. F (i / 512) (i % 256))
  rings-all out n t e k s = room-all out (λ i. F (i / 512) (i % 256)) t e s.size (λ i h. s.at i (omega arith))
