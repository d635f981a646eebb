-- `peaks` meets its contract: the greatest sums at the values that were seen and at those a quarter, a half and three quarters on.
use Rattle.std.proofs.Common.{◌≡◌, ap, ◌∙◌, arith, rules}
use Rattle.rings.specs.Peak.{no_peaks, peaks_of}
use Rattle.rings.specs.Quad.{greater_of}
use Rattle.rings.proofs.PeakSearch.{peaks_to, peaks-none, peaks-more, peaks-done, peaks-other}
use Rattle.rings.proofs.quads.peaks.Goals as goal

pub returns-then-eight-ne4096 : goal.returns-then-eight-ne4096
returns-then-eight-ne4096 c = let e : c.default.result ≡ no_peaks = search rules in e ∙ peaks-other _ _ (search rules)

pub loop-v-init : goal.loop-v-init
loop-v-init c = let e : c.default-best.result ≡ no_peaks = search rules in e ∙ peaks-none _ _

pub loop-v-preserved : goal.loop-v-preserved
loop-v-preserved c =
    let l = c.loop-v in
    c.greater-best.ensures
    ∙ ap (greater_of l.best) c.tops.ensures
    ∙ peaks-more _ _ l.v (search rules) l.invariant
    c.pair_at-p.ensures
    c.pair_at-q.ensures
    c.pair_at-r.ensures
    c.pair_at-u.ensures

pub returns : goal.returns
returns c =
    let l = c.loop-v in
    let w = c.from-s in
    let t = c.args.eight.now in
    l.invariant ∙ ap (peaks_to t w.result) (omega arith) ∙ peaks-done t w.result (search rules) ∙ ap (peaks_of t) w.ensures
