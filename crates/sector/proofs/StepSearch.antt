-- The fit that a table of the 256 modal counts gives is that of the sector. Assumes nothing.
use Rattle.std.proofs.Common.{◌≡◌, ℕ, ◌<◌, Bool, eqb, List, length, get_or, sym, ap, ◌∙◌, ap₂, arith}
use Rattle.lists.specs.Cases.{pick}
use Rattle.lists.specs.Counts.{all_same}
use Rattle.lists.specs.Pieces.{each}
use Rattle.lists.proofs.Each.{each_at}
use Rattle.lists.proofs.Greatest.{greatest-ext}
use Rattle.lists.proofs.Least.{least-ext}
use Rattle.lists.proofs.Many.{many-ext}
use Rattle.sector.specs.Fit.{shifted_list, modal_of, modal_at, top_place, second, ties, step_of, peak_of, fit_from, fit_of, table_fit}
use Rattle.sector.specs.declared.fits.Fit.{Fit}
use Rattle.sector.proofs.Shifts.{shift-length}
use Rattle.sector.proofs.Sorted.{top-here}
use Rattle.sector.proofs.Leads.{Leads, leads-most, leads-place, leads-next}
use Rattle.sector.proofs.Ties.{Tied, tied_is}
use Rattle.sector.proofs.Exact.{exact-shifted}

-- what leads, what comes second and how many tie depend on the numbers alone
module _ (f g : ℕ → ℕ) (n : ℕ) (same : (k : ℕ) → k < n → f k ≡ g k) where
  top-ext : top_place f n ≡ top_place g n
  unfolding top_place
  top-ext = least-ext _ _ n (λ k h. ap₂ eqb (same k h) (greatest-ext f g n same))

  second-ext : second f n ≡ second g n
  unfolding second
  second-ext = greatest-ext _ _ n (λ k h. ap₂ (λ (s x : ℕ). pick (eqb k s) 0 x) top-ext (same k h))

  ties-ext : ties f n ≡ ties g n
  unfolding ties
  ties-ext = many-ext _ _ n (λ k h. ap₂ eqb (same k h) (greatest-ext f g n same))

fit-ext : (f g : ℕ → ℕ) (exact exact' : Bool) → ((k : ℕ) → k < 256 → f k ≡ g k) → exact ≡ exact' → fit_from f exact ≡ fit_from g exact'
fit-ext f g exact exact' same e =
    λ i. record {
      step = top-ext f g 256 same i;
      peak = greatest-ext f g 256 same i;
      runner_up = second-ext f g 256 same i;
      exact = e i;
      tied = ties-ext f g 256 same i;
    }

-- what the search over 256 numbers ends with
pub searched-fit :
    (counts : List ℕ) (n step peak runner tied : ℕ)
    → Leads (λ k. get_or counts k 0) 256 step peak runner
    → Tied (λ k. get_or counts k 0) 256 peak tied
    → ◌≡◌ {A = Fit} (record { step = step; peak = peak; runner_up = runner; exact = eqb peak n; tied = tied }) (table_fit counts n)
unfolding table_fit
searched-fit counts n step peak runner tied leads ties =
    let f : ℕ → ℕ = λ k. get_or counts k 0 in
    λ i. record {
      step = leads-place f 256 step peak runner leads (omega arith) i;
      peak = leads-most f 256 step peak runner leads i;
      runner_up = leads-next f 256 step peak runner leads (omega arith) i;
      exact = eqb (leads-most f 256 step peak runner leads i) n;
      tied = tied_is f 256 peak tied ties i;
    }

-- all bytes of a sector are equal where as many agree as it has
peak-exact : (o : ℕ) (l : List ℕ) → eqb (peak_of (modal_at o l)) (length l) ≡ all_same (shifted_list o (step_of (modal_at o l)) l)
unfolding modal_at
peak-exact o l =
    let step : ℕ = step_of (modal_at o l) in
    let here : modal_of (shifted_list o step l) ≡ peak_of (modal_at o l) = top-here (modal_at o l) 256 (omega arith) in
    ap₂ eqb (sym here) (sym (shift-length o step 0 l)) ∙ exact-shifted o step l

pub table-fit : (o : ℕ) (l : List ℕ) → table_fit (each (modal_at o l) 256) (length l) ≡ fit_of o l
unfolding table_fit fit_of
table-fit o l =
    let f : ℕ → ℕ = modal_at o l in
    let g : ℕ → ℕ = λ k. get_or (each f 256) k 0 in
    let same : (k : ℕ) → k < 256 → g k ≡ f k = λ k h. each_at f 256 k 0 h in
    fit-ext g f _ _ same (ap (λ (p : ℕ). eqb p (length l)) (greatest-ext g f 256 same) ∙ peak-exact o l)
