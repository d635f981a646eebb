-- `put_sector` meets its contract: the stored page is written over in its sector, and that sector is scanned again.
use Prim.Native.Nat.{ℕ, ◌+◌, ◌-◌, ◌*◌}
use mathlib.Core.Path.{◌≡◌, ap, ◌∙◌}
use mathlib.Core.List.{List, ◌++◌}
use native.Mathlib.Omega.{arith}
use lib.ListN.{length, take, drop}
use Rattle.numbers.proofs.Copies.{copied-part}
use Rattle.summary.specs.Rescan.{refitted, reshifted}
use Rattle.summary.proofs.Rescans.{refitted-one, reshifted-one}
use Rattle.summary.proofs.replacing.put_sector.Goals as goal

pub returns : goal.returns
returns c =
    let a = c.args in
    let p = c.requires in
    let s = a.sector in
    let new = a.new.now in
    let stored = a.stored.now in
    let w : ℕ = s * 512 + 512 - s * 512 in
    let k : w ≡ length new = omega (arith, p.1) in
    let put =
    ap (λ (y : List ℕ). take (s * 512) stored ++ (y ++ drop w (drop (s * 512) stored))) c.copy.ensures
    ∙ copied-part new stored (s * 512) w w (omega (arith, p.1, p.2, p.0)) k k in
    let scan = c.rescan.ensures in
    record {
      value = scan.value ∙ ap (λ (x : List ℕ). refitted a.number x s a.fits 1) put ∙ refitted-one a.number stored new s p.0 p.2 p.1 a.fits;
      stored_after = put;
      shifted_after =
          scan.shifted_after
          ∙ ap (λ (x : List ℕ). reshifted a.number x s a.shifted.now 1) put
          ∙ reshifted-one a.number stored new s p.0 p.2 p.1 a.shifted.now;
    }
