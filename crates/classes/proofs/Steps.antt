-- Laws of a table of 256 counts that is filled for some steps at a time. Assumes nothing.
use Prim.Native.Nat.{ℕ, ◌+◌, ◌%◌, ◌<◌}
use mathlib.Core.Path.{◌≡◌, sym, ap, ◌∙◌, subst}
use mathlib.Core.List.{List}
use native.Mathlib.Decide.{ℕ_discrete}
use native.Mathlib.Omega.{arith}
use lib.ListN.{length, set, length-set}
use lib.Seq.{get_or-set_same, get_or-set_other}
use Rattle.lists.specs.Bytes.{byte_at}
use Rattle.lists.specs.Pieces.{each}
use Rattle.lists.proofs.Each.{each_all}
use Rattle.classes.specs.Steps.{Fills, step_peak}

-- a place that is right, or becomes so
put_right :
    (f : ℕ → ℕ) (t : List ℕ) (i x k : ℕ)
    → i < length t
    → x ≡ f i
    → ((k ≡ i → ⊥) → byte_at t k ≡ f k)
    → byte_at (set t i x) k ≡ f k
put_right f t i x k h e other = go (ℕ_discrete k i)
  where
    go : Dec (k ≡ i) → byte_at (set t i x) k ≡ f k
    go (yes q) = ap (byte_at (set t i x)) q ∙ get_or-set_same t i x 0 h ∙ e ∙ ap f (sym q)
    go (no ne) = get_or-set_other t i k x 0 (λ q. ne (omega arith)) ∙ other ne

-- the four steps that are s modulo 64
pub fills-four :
    (f : ℕ → ℕ) (t : List ℕ) (s a b c d : ℕ)
    → s < 64
    → length t ≡ 256
    → a ≡ f s
    → b ≡ f (s + 64)
    → c ≡ f (s + 128)
    → d ≡ f (s + 192)
    → Fills f 64 s t (set (set (set (set t s a) (s + 64) b) (s + 128) c) (s + 192) d)
fills-four f t s a b c d hs size fa fb fc fd =
    record {
      size = length-set t₃ (s + 192) d ∙ size₃;
      new = λ k h e.
          put_right f t₃ (s + 192) d k (omega (arith, size₃)) fd
          (λ n₃. put_right f t₂ (s + 128) c k (omega (arith, size₂)) fc
          (λ n₂. put_right f t₁ (s + 64) b k (omega (arith, size₁)) fb
          (λ n₁. put_right f t s a k (omega arith) fa (λ n₀. absurd (n₀ (omega arith))))));
      old = λ k h ne.
          get_or-set_other t₃ (s + 192) k d 0 (λ q. ne (omega arith))
          ∙ get_or-set_other t₂ (s + 128) k c 0 (λ q. ne (omega arith))
          ∙ get_or-set_other t₁ (s + 64) k b 0 (λ q. ne (omega arith))
          ∙ get_or-set_other t s k a 0 (λ q. ne (omega arith));
    }
  where
    t₁ : List ℕ
    t₁ = set t s a

    t₂ : List ℕ
    t₂ = set t₁ (s + 64) b

    t₃ : List ℕ
    t₃ = set t₂ (s + 128) c

    size₁ : length t₁ ≡ length t
    size₁ = length-set t s a

    size₂ : length t₂ ≡ length t
    size₂ = length-set t₁ (s + 64) b ∙ size₁

    size₃ : length t₃ ≡ length t
    size₃ = length-set t₂ (s + 128) c ∙ size₂

-- the eight that are s modulo 32
fills-both : (f : ℕ → ℕ) (s : ℕ) (a b c : List ℕ) → s < 32 → Fills f 64 s a b → Fills f 64 (s + 32) b c → Fills f 32 s a c
fills-both f s a b c hs u w =
    record {
      size = w.size ∙ u.size;
      new = λ k h e. new k h e (ℕ_discrete (k % 64) s);
      old = λ k h ne. w.old k h (λ q. ne (omega arith)) ∙ u.old k h (λ q. ne (omega arith));
    }
  where
    new : (k : ℕ) → k < 256 → k % 32 ≡ s → Dec (k % 64 ≡ s) → byte_at c k ≡ f k
    new k h e (yes q) = w.old k h (λ p. omega arith) ∙ u.new k h q
    new k h e (no ne) = w.new k h (omega arith)

pub fills-eight :
    (s : ℕ) (t rings : List ℕ) {a b c : List ℕ}
    → s < 32
    → t ≡ rings
    → Fills (step_peak t) 64 s a b
    → Fills (step_peak t) 64 (s + 32) b c
    → Fills (step_peak rings) 32 s a c
fills-eight s t rings {a} {b} {c} h e u w = subst (λ (r : List ℕ). Fills (step_peak r) 32 s a c) e (fills-both (step_peak t) s a b c h u w)

-- all that are below n modulo 16
pub record Known (f : ℕ → ℕ) (n : ℕ) (t : List ℕ) : Type 0 where
  pub size : length t ≡ 256
  pub at : (k : ℕ) → k < 256 → k % 16 < n → byte_at t k ≡ f k

pub known-none : (f : ℕ → ℕ) (t : List ℕ) → length t ≡ 256 → Known f 0 t
known-none f t size = record { size = size; at = λ k h q. absurd (omega arith) }

pub known_more :
    (f g h : ℕ → ℕ) (m : ℕ) (a b c : List ℕ)
    → m < 16
    → Known f m a
    → Fills g 32 m a b
    → ((k : ℕ) → k < 256 → k % 32 ≡ m → g k ≡ f k)
    → Fills h 32 (m + 16) b c
    → ((k : ℕ) → k < 256 → k % 32 ≡ m + 16 → h k ≡ f k)
    → Known f (m + 1) c
known_more f g h m a b c hm known u near w far =
    record { size = w.size ∙ u.size ∙ known.size; at = λ k hk q. at k hk q (ℕ_discrete (k % 32) m) (ℕ_discrete (k % 32) (m + 16)) }
  where
    at : (k : ℕ) → k < 256 → k % 16 < m + 1 → Dec (k % 32 ≡ m) → Dec (k % 32 ≡ m + 16) → byte_at c k ≡ f k
    at k hk q (yes e) (yes d) = absurd (omega arith)
    at k hk q (yes e) (no n) = w.old k hk n ∙ u.new k hk e ∙ near k hk e
    at k hk q (no n) (yes d) = w.new k hk d ∙ far k hk d
    at k hk q (no n) (no p) = w.old k hk p ∙ u.old k hk n ∙ known.at k hk (omega arith)

pub known-all : (f : ℕ → ℕ) (n : ℕ) (t : List ℕ) → n ≡ 16 → Known f n t → t ≡ each f 256
known-all f n t e known = each_all f 256 t known.size (λ k h. known.at k h (omega arith))
