-- Laws of rings that are counted from the bytes of a sector, sixteen bytes after sixteen. Assumes nothing.
use Rattle.std.proofs.Common.{◌≡◌, ℕ, zero, suc, get_or, drop, get_or-drop, get_or-take, ◌+◌, ◌*◌, ◌/◌, ◌%◌, ◌<◌, Bool, true, false, eqb, List, length, replicate, sym, ap, ◌∙◌, add-mul, zero-mul, arith}
use lib.ListN.{length-replicate}
use Rattle.std.specs.Simd.{first_chunks}
use Rattle.lists.specs.Cases.{flag}
use Rattle.lists.specs.Bytes.{less, byte_at}
use Rattle.lists.proofs.Many.{many-none, many_more}
use Rattle.lists.proofs.Zeros.{zeros-at}
use Rattle.sector.specs.Byte.{shifted_of}
use Rattle.sector.proofs.Bytes.{less-once}
use Rattle.rings.specs.Class.{class_count}
use Rattle.rings.specs.Table.{tallied_at, tallied, noted_in, Noted}
use Rattle.rings.proofs.Rooms.{room-all}

-- ---- the count of a class

module _ (l : List ℕ) (q r o k : ℕ) where
  class-none : (v : ℕ) → class_count l q r o k 0 v ≡ 0
  unfolding class_count
  class-none v = many-none _

  class-more : (n v : ℕ) → class_count l q r o k (n + 1) v ≡ class_count l q r o k n v + flag (eqb v (shifted_of (byte_at l (q * n + r)) o n k))
  unfolding class_count
  class-more n v = many_more _ n

-- ---- sixteen bytes after sixteen

pub chunk-at : (n : ℕ) (l d : List ℕ) (j r : ℕ) → j < n → r < 16 → byte_at (get_or (first_chunks 16 n l) j d) r ≡ byte_at l (j * 16 + r)
chunk-at zero l d j r h q = absurd (omega arith)
chunk-at (suc n) l d zero r h q = get_or-take 16 l r 0 q ∙ ap (byte_at l) (omega arith)
chunk-at (suc n) l d (suc j) r h q =
    chunk-at n (drop 16 l) d j r (omega arith) q ∙ get_or-drop 16 l (j * 16 + r) 0 ∙ ap (byte_at l) (omega arith)

-- ---- the table of the counts

-- those of the first j bytes of each class; what the next bytes are to be shifted by is s
pub record Counted (l : List ℕ) (o k j s : ℕ) (t : List ℕ) : Type 0 where
  pub size : length t ≡ 4096
  pub off : s ≡ (o + j * k) % 256
  pub at : (r v : ℕ) → r < 16 → v < 256 → byte_at t (r * 256 + v) ≡ class_count l 16 r o k j v % 256

noted-count : (x n : ℕ) (b : Bool) → x ≡ n % 256 → noted_in x b ≡ (n + flag b) % 256
noted-count x n true e = omega arith
noted-count x n false e = omega arith

module _ (l : List ℕ) (o k : ℕ) where
  pub counted_none : (n : ℕ) (t : List ℕ) → o < 256 → t ≡ replicate n 0 → n ≡ 4096 → Counted l o k 0 o t
  counted_none n t h z e =
      record {
        size = ap length z ∙ length-replicate n 0 ∙ e;
        off = omega (arith, zero-mul k);
        at = λ r v hr hv. ap (λ (t : List ℕ). byte_at t (r * 256 + v)) z ∙ zeros-at n (r * 256 + v) ∙ sym (ap (λ (c : ℕ). c % 256) (class-none l 16 r o k v));
      }

  pub counted-more :
      (j s s' : ℕ) (block t t' : List ℕ)
      → Counted l o k j s t
      → s' ≡ (s + k) % 256
      → ((r : ℕ) → r < 16 → byte_at block r ≡ byte_at l (j * 16 + r))
      → Noted block s t 16 t'
      → Counted l o k (j + 1) s' t'
  unfolding shifted_of
  counted-more j s s' block t t' c e here w = record { size = w.size ∙ c.size; off = omega (arith, add-mul j 1 k); at = at }
    where
      shifted : (r : ℕ) → r < 16 → less (byte_at block r) s ≡ less (less (byte_at l (16 * j + r)) o) (j * k)
      shifted r hr =
          let place : j * 16 + r ≡ 16 * j + r = omega arith in
          less-once (byte_at block r) o (j * k) s c.off ∙ ap (λ (b : ℕ). less (less b o) (j * k)) (here r hr ∙ ap (byte_at l) place)

      at : (r v : ℕ) → r < 16 → v < 256 → byte_at t' (r * 256 + v) ≡ class_count l 16 r o k (j + 1) v % 256
      at r v hr hv =
          w.new r v hr hv
          ∙ noted-count _ (class_count l 16 r o k j v) (eqb v (less (byte_at block r) s)) (c.at r v hr hv)
          ∙ ap (λ (b : ℕ). (class_count l 16 r o k j v + flag (eqb v b)) % 256) (shifted r hr)
          ∙ ap (λ (n : ℕ). n % 256) (sym (class-more l 16 r o k j v))

  pub counted-all : (j s : ℕ) (out t : List ℕ) → length out ≡ 4096 → j ≡ length l / 16 → Counted l o k j s t → t ≡ tallied l o k out
  unfolding tallied
  counted-all j s out t e q c = room-all out (tallied_at l o k) t e c.size at
    where
      at : (i : ℕ) → i < 4096 → byte_at t i ≡ tallied_at l o k i
      at i h =
          let place : i ≡ i / 256 * 256 + i % 256 = omega arith in
          ap (byte_at t) place
          ∙ c.at (i / 256) (i % 256) (omega arith) (omega arith)
          ∙ ap (λ (n : ℕ). class_count l 16 (i / 256) o k n (i % 256) % 256) q
