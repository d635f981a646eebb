-- The bytes of a summary and of the plaintext, and the way back to the stored bytes. Assumes nothing.
use Prim.Native.Nat.{ℕ, ◌+◌, ◌*◌, ◌/◌, ◌%◌, ◌<◌}
use mathlib.Core.Path.{◌≡◌, sym, ◌∙◌, subst}
use mathlib.Core.List.{List, ◌++◌}
use native.Mathlib.Omega.{arith}
use lib.ListN.{length, get_or, get_or-append}
use Rattle.lists.specs.Bytes.{less, plain_of, AllBytes}
use Rattle.lists.proofs.Plain.{less-byte, less-add, plain-length, plain_at}
use Rattle.lists.proofs.Each.{each_at, each-ext}
use Rattle.sector.specs.Byte.{offset_of, shifted_of}
use Rattle.sector.specs.Scan.{blank_fit}
use Rattle.sector.proofs.Bytes.{shifted-byte}
use Rattle.summary.specs.Page.{fit_at, fits_of, bytes_of}
use Rattle.summary.proofs.Sectors.{summary-length, summary-at, summary-exact}
use Rattle.verdict.specs.Sectors.{entry, refit_at, refit_of}

-- the way back, one difference at a time
regroup : (u o m bv x y b : ℕ) → (u + bv) % 256 ≡ x → (x + m) % 256 ≡ y → (y + o) % 256 ≡ b → b ≡ (u + o + m + bv) % 256
regroup u o m bv x y b number q r = omega arith

pub back-shifted : (b o i k bv : ℕ) → b < 256 → b ≡ (less (shifted_of b o i k) bv + o + i * k + bv) % 256
unfolding shifted_of
back-shifted b o i k bv h =
    let y : ℕ = less b o in
    let x : ℕ = less y (i * k) in
    regroup (less x bv) o (i * k) bv x y b (less-add x bv (less-byte y (i * k))) (less-add y (i * k) (less-byte b o)) (less-add b o h)

-- a byte of the plaintext, with the trailer behind it
pub plain_byte : (bv : ℕ) (shifted rest : List ℕ) (k : ℕ) → k < length shifted → get_or (plain_of bv shifted ++ rest) k 0 ≡ less (get_or shifted k 0) bv
plain_byte bv shifted rest k h = get_or-append (plain_of bv shifted) rest 0 k (subst (λ (n : ℕ). k < n) (sym (plain-length bv shifted)) h) ∙ plain_at bv shifted k h

module _ (number : ℕ) (stored : List ℕ) (hp : length stored ≡ 4096) where
  -- shifted bytes are bytes
  pub summary-bytes : AllBytes (bytes_of number stored)
  summary-bytes =
      record {
        at =
            λ k h.
            let s : ℕ = k / 512 in
            let i : ℕ = k % 512 in
            let q : k < 4080 = omega (arith, summary-length number stored hp) in
            let e : s * 512 + i ≡ k = omega arith in
            let step : ℕ = (fit_at number stored s).step in
            let at : get_or (bytes_of number stored) (s * 512 + i) 0 ≡ shifted_of (get_or stored (s * 512 + i) 0) (offset_of number s) i step =
            summary-at number stored hp s i (omega arith) (omega arith) in
            subst (λ (n : ℕ). get_or (bytes_of number stored) n 0 < 256) e
            (subst (λ (v : ℕ). v < 256) (sym at) (shifted-byte (get_or stored (s * 512 + i) 0) (offset_of number s) i step));
      }

  -- of a fresh summary the fits of the answer are the scan's own
  refit-at : (s : ℕ) → s < 8 → refit_at (fits_of number stored) (bytes_of number stored) s ≡ fit_at number stored s
  refit-at s h =
      let e : entry (fits_of number stored) s ≡ fit_at number stored s = each_at (fit_at number stored) 8 s blank_fit h in
      λ i. record { step = (e i).step; peak = (e i).peak; runner_up = (e i).runner_up; exact = summary-exact number stored hp s h i; tied = (e i).tied }

  pub refit-fresh : refit_of (fits_of number stored) (bytes_of number stored) ≡ fits_of number stored
  unfolding refit_of
  refit-fresh = each-ext (refit_at (fits_of number stored) (bytes_of number stored)) (fit_at number stored) 8 refit-at
