-- Laws of bytes noted, each in the ring of its class. Assumes nothing.
use Rattle.std.proofs.Common.{◌≡◌, ℕ, ◌+◌, ◌*◌, ◌%◌, ◌<◌, ◌≤◌, eqb, List, length, set, sym, refl, ap, ◌∙◌, subst, arith, length-set, get_or-set_other, get_or-set_same}
use native.Mathlib.Decide.{ℕ_discrete}
use Rattle.lists.specs.Bytes.{less, byte_at}
use Rattle.lists.proofs.Picks.{pick-eq, pick-ne}
use Rattle.rings.specs.Table.{noted_in, Noted}

module _ (l : List ℕ) (shift : ℕ) (before : List ℕ) where
  pub note-none : Noted l shift before 0 before
  note-none = record { size = refl; new = λ r v h. absurd (omega arith); old = λ r v h k. refl }

  module _ (n : ℕ) (t : List ℕ) (x y : ℕ) (w : Noted l shift before n t) (room : n * 256 + 256 ≤ length t) (h : x < 256)
      (e : x ≡ less (byte_at l n) shift) (more : y ≡ (byte_at t (n * 256 + x) + 1) % 256) where
    abbrev after : List ℕ
    after = set t (n * 256 + x) y

    here : (v : ℕ) → v < 256 → Dec (v ≡ x) → byte_at after (n * 256 + v) ≡ noted_in (byte_at before (n * 256 + v)) (eqb v (less (byte_at l n) shift))
    here v hv (yes q) =
        ap (λ (v : ℕ). byte_at after (n * 256 + v)) q
        ∙ get_or-set_same t (n * 256 + x) y 0 (omega arith)
        ∙ more
        ∙ ap (λ (c : ℕ). (c + 1) % 256) (w.old n x (omega arith) h ∙ ap (λ (v : ℕ). byte_at before (n * 256 + v)) (sym q))
        ∙ pick-eq _ _ v (less (byte_at l n) shift) (q ∙ e)
    here v hv (no ne) =
        get_or-set_other t (n * 256 + x) (n * 256 + v) y 0 (λ q. ne (omega arith))
        ∙ w.old n v (omega arith) hv
        ∙ pick-ne _ _ v (less (byte_at l n) shift) (λ q. ne (q ∙ sym e))

    there : (r v : ℕ) → v < 256 → (r ≡ n → ⊥) → byte_at after (r * 256 + v) ≡ byte_at t (r * 256 + v)
    there r v hv ne = get_or-set_other t (n * 256 + x) (r * 256 + v) y 0 (λ q. ne (omega arith))

    pub note-more : Noted l shift before (n + 1) after
    note-more =
        record {
          size = length-set t (n * 256 + x) y ∙ w.size;
          new = λ r v k hv. new r v k hv (ℕ_discrete r n);
          old = λ r v k hv. there r v hv (λ q. omega arith) ∙ w.old r v (omega arith) hv;
        }
      where
        new :
            (r v : ℕ)
            → r < n + 1
            → v < 256
            → Dec (r ≡ n)
            → byte_at after (r * 256 + v) ≡ noted_in (byte_at before (r * 256 + v)) (eqb v (less (byte_at l r) shift))
        new r v k hv (yes q) =
            subst (λ (r : ℕ). byte_at after (r * 256 + v) ≡ noted_in (byte_at before (r * 256 + v)) (eqb v (less (byte_at l r) shift))) (sym q)
            (here v hv (ℕ_discrete v x))
        new r v k hv (no ne) = there r v hv ne ∙ w.new r v (omega arith) hv
