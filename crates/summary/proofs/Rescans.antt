-- Laws of sectors scanned anew: one sector more, all eight, a single one. Assumes nothing.
use Prim.Native.Nat.{ℕ, zero, suc, ◌+◌, ◌-◌, ◌*◌, ◌≤◌, ◌<◌, min}
use mathlib.Core.Path.{◌≡◌, refl, sym, ap, ap₂, ◌∙◌}
use mathlib.Core.List.{List, [], ◌∷◌, ◌++◌}
use native.Mathlib.Nat.{add-zero, zero-add}
use native.Mathlib.Numerals.{add-one}
use native.Mathlib.Omega.{arith}
use lib.ListN.{length, take, drop, set, length-set, length-take, length-drop}
use lib.Seq.{take-suc-set, take_all}
use Rattle.lists.specs.Pieces.{each, joined, over}
use Rattle.lists.proofs.Over.{over-length, over-up-to, lent-over}
use Rattle.sector.specs.Byte.{offset_of}
use Rattle.sector.specs.Fit.{fit_of, sector_of}
use Rattle.sector.specs.Scan.{sector_fit, sector_out}
use Rattle.sector.specs.declared.fits.Fit.{Fit}
use Rattle.summary.specs.Page.{sector_end, data_of, part, fit_at, bytes_at, fits_of, bytes_of}
use Rattle.summary.specs.Rescan.{refitted, reshifted}
use Rattle.summary.proofs.Parts.{page-data}
use Rattle.summary.proofs.Sectors.{bytes-length, fit-scans, bytes-scan}

module _ (number : ℕ) (stored : List ℕ) (first : ℕ) where
  module _ (fits : List Fit) where
    pub refitted-none : fits ≡ refitted number stored first fits 0
    unfolding refitted
    refitted-none = refl

    pub refitted-more : (n : ℕ) → set (refitted number stored first fits n) (first + n) (fit_at number stored (first + n)) ≡ refitted number stored first fits (n + 1)
    unfolding refitted
    refitted-more n = rw add-one

    pub refitted-length : (n : ℕ) → length (refitted number stored first fits n) ≡ length fits
    unfolding refitted
    refitted-length zero = refl
    refitted-length (suc n) = length-set (refitted number stored first fits n) (first + n) _ ∙ refitted-length n

  module _ (shifted : List ℕ) where
    pub reshifted-none : shifted ≡ reshifted number stored first shifted 0
    unfolding reshifted
    reshifted-none = refl

    pub reshifted-more : (n : ℕ) → over (reshifted number stored first shifted n) ((first + n) * 512) (bytes_at number stored (first + n)) ≡ reshifted number stored first shifted (n + 1)
    unfolding reshifted
    reshifted-more n = rw add-one

    pub reshifted-length : (n : ℕ) → length stored ≡ 4096 → length shifted ≡ 4080 → first + n ≤ 8 → length (reshifted number stored first shifted n) ≡ 4080
    unfolding reshifted
    reshifted-length zero hp hm h = hm
    reshifted-length (suc n) hp hm h =
        let ih : length (reshifted number stored first shifted n) ≡ 4080 = reshifted-length n hp hm (omega arith) in
        over-length (reshifted number stored first shifted n) (bytes_at number stored (first + n)) ((first + n) * 512) (omega (arith, bytes-length number stored hp (first + n))) ∙ ih

-- the fits and the shifted bytes after n sectors
pub record Rescanned (number : ℕ) (stored : List ℕ) (first : ℕ) (fits₀ : List Fit) (shifted₀ : List ℕ) (n : ℕ) (fits : List Fit) (shifted : List ℕ) : Type 0 where
  pub fits-now : fits ≡ refitted number stored first fits₀ n
  pub shifted-now : shifted ≡ reshifted number stored first shifted₀ n
  pub long : length shifted ≡ 4080

module _ (number : ℕ) (stored : List ℕ) (first : ℕ) (fits₀ : List Fit) (shifted₀ : List ℕ) where
  pub rescanned-none : length shifted₀ ≡ 4080 → Rescanned number stored first fits₀ shifted₀ 0 fits₀ shifted₀
  rescanned-none h = record { fits-now = refitted-none number stored first fits₀; shifted-now = reshifted-none number stored first shifted₀; long = h }

  -- one sector more: its fit set, its part come back from its scan
  module _ (n : ℕ) (fits : List Fit) (shifted : List ℕ) (r : Rescanned number stored first fits₀ shifted₀ n fits shifted) (hp : length stored ≡ 4096) (hs : first + n < 8) (o e : ℕ) (ho : o ≡ offset_of number (first + n)) (he : e ≡ sector_end (first + n)) where
    abbrev lent : List ℕ → List ℕ
    lent l = take (e - (first + n) * 512) (drop ((first + n) * 512) l)

    room : length (lent shifted) ≡ e - (first + n) * 512
    room = simp (length-take, length-drop) (omega (arith, he, r.long))

    pub rescanned-more :
        (fit : Fit) (ys : List ℕ)
        → fit ≡ sector_fit o (lent stored) (length (lent shifted))
        → ys ≡ sector_out o (lent stored) (lent shifted)
        → Rescanned number stored first fits₀ shifted₀ (n + 1) (set fits (first + n) fit)
        (take ((first + n) * 512) shifted ++ (ys ++ drop (e - (first + n) * 512) (drop ((first + n) * 512) shifted)))
    rescanned-more fit ys hf hy =
        let zs : List ℕ = bytes_at number stored (first + n) in
        let long : length zs ≡ sector_end (first + n) - (first + n) * 512 = bytes-length number stored hp (first + n) in
        let put : take ((first + n) * 512) shifted ++ (ys ++ drop (e - (first + n) * 512) (drop ((first + n) * 512) shifted)) ≡ over shifted ((first + n) * 512) zs =
        lent-over shifted ys zs ((first + n) * 512) (e - (first + n) * 512) (bytes-scan number stored hp (first + n) o e ho he (lent shifted) hs room ys hy) (omega (arith, he)) in
        record {
          fits-now =
              ap₂ (λ (x : List Fit) (f : Fit). set x (first + n) f) r.fits-now (fit-scans number stored hp (first + n) o e ho he (lent shifted) hs room fit hf)
              ∙ refitted-more number stored first fits₀ n;
          shifted-now = put ∙ ap (λ (x : List ℕ). over x ((first + n) * 512) zs) r.shifted-now ∙ reshifted-more number stored first shifted₀ n;
          long = ap length put ∙ over-length shifted zs ((first + n) * 512) (omega (arith, long, r.long)) ∙ r.long;
        }

-- all eight: a summary of the page, whatever was there
module _ (number : ℕ) (stored : List ℕ) where
  front_fits : (fits : List Fit) (n : ℕ) → n ≤ length fits → take n (refitted number stored 0 fits n) ≡ each (fit_at number stored) n
  unfolding refitted each
  front_fits fits zero h = refl
  front_fits fits (suc n) h =
      let s : 0 + n ≡ n = zero-add n in
      let more : n < length (refitted number stored 0 fits n) = omega (arith, refitted-length number stored 0 fits n) in
      ap (λ (k : ℕ). take (suc n) (set (refitted number stored 0 fits n) k (fit_at number stored k))) s
      ∙ take-suc-set (refitted number stored 0 fits n) n (fit_at number stored n) more
      ∙ ap (λ (l : List Fit). l ++ (fit_at number stored n ∷ [])) (front_fits fits n (omega arith))

  pub refitted-all : (fits : List Fit) → length fits ≡ 8 → refitted number stored 0 fits 8 ≡ fits_of number stored
  refitted-all fits h =
      sym (take_all 8 (refitted number stored 0 fits 8) (omega (arith, refitted-length number stored 0 fits 8))) ∙ front_fits fits 8 (omega arith)

  module _ (hp : length stored ≡ 4096) (shifted : List ℕ) (hm : length shifted ≡ 4080) where
    front_bytes : (n : ℕ) → n ≤ 8 → take (min (n * 512) 4080) (reshifted number stored 0 shifted n) ≡ joined (bytes_at number stored) n
    unfolding reshifted joined
    front_bytes zero h = refl
    front_bytes (suc n) h =
        let s : 0 + n ≡ n = zero-add n in
        let l : List ℕ = reshifted number stored 0 shifted n in
        let ys : List ℕ = bytes_at number stored n in
        let long : length l ≡ 4080 = reshifted-length number stored 0 shifted n hp hm (omega arith) in
        let here : length ys ≡ sector_end n - n * 512 = bytes-length number stored hp n in
        let to : min (suc n * 512) 4080 ≡ n * 512 + length ys = omega arith in
        let from : n * 512 ≡ min (n * 512) 4080 = omega arith in
        ap₂ (λ (m k : ℕ). take m (over l (k * 512) (bytes_at number stored k))) to s
        ∙ over-up-to l ys (n * 512) (omega arith)
        ∙ ap (λ (t : List ℕ). t ++ ys) (ap (λ (m : ℕ). take m l) from ∙ front_bytes n (omega arith))

    pub reshifted-all : reshifted number stored 0 shifted 8 ≡ bytes_of number stored
    reshifted-all =
        sym (take_all 4080 (reshifted number stored 0 shifted 8) (omega (arith, reshifted-length number stored 0 shifted 8 hp hm (omega arith)))) ∙ front_bytes 8 (omega arith)

-- a single one, of a page that has just been written over there
module _ (number : ℕ) (stored new : List ℕ) (s : ℕ) (hs : s < 8) (hp : length stored ≡ 4096) (hn : length new ≡ 512) where
  pub refitted-one : (fits : List Fit) → refitted number (over stored (s * 512) new) s fits 1 ≡ set fits s (fit_of (offset_of number s) (data_of s new))
  unfolding refitted fit_at
  refitted-one fits =
      ap (λ (k : ℕ). set fits k (fit_of (offset_of number k) (part k (over stored (s * 512) new)))) (add-zero s)
      ∙ ap (λ (l : List ℕ). set fits s (fit_of (offset_of number s) l)) (page-data stored new s hs hp hn)

  pub reshifted-one : (shifted : List ℕ) → reshifted number (over stored (s * 512) new) s shifted 1 ≡ over shifted (s * 512) (sector_of (offset_of number s) (data_of s new))
  unfolding reshifted bytes_at
  reshifted-one shifted =
      ap (λ (k : ℕ). over shifted (k * 512) (sector_of (offset_of number k) (part k (over stored (s * 512) new)))) (add-zero s)
      ∙ ap (λ (l : List ℕ). over shifted (s * 512) (sector_of (offset_of number s) l)) (page-data stored new s hs hp hn)
