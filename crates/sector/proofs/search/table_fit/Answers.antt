-- `table_fit` meets its contract: after each step, what leads, what comes second, and how many lead.
use Rattle.std.proofs.Common.{◌≡◌, ℕ, ◌<◌, ◌≤◌, max, ◌+◌, eqb, get_or, refl, ◌∙◌, subst, ap, arith}
use Rattle.sector.proofs.Leads.{Leads, leads-none, leads-up, leads-stay, leads-as}
use Rattle.sector.proofs.Ties.{Tied, tied-none, tied-up, tied-more, tied-stay, tied-le, tied-as}
use Rattle.sector.proofs.StepSearch.{searched-fit}
use Rattle.sector.proofs.search.table_fit.Goals as goal

pub loop-step-init : goal.loop-step-init
loop-step-init c = (leads-none _, tied-none _)

pub overflow_add-tied : goal.overflow_add-tied
overflow_add-tied c =
    let l = c.loop-step in
    omega (arith, tied-le _ l.step l.best l.tied l.invariant.1)

-- after one number more, in the values that the branches leave
module _ (f : ℕ → ℕ) {n place most next : ℕ} (l : Leads f n place most next) (s p r : ℕ) where
  leads-more : most < f n → s ≡ n → p ≡ f n → r ≡ most → Leads f (n + 1) s p r
  leads-more h a b e = leads-as f (n + 1) a b e (leads-up f n place most next l h)

  leads-keep : f n ≤ most → s ≡ place → p ≡ most → r ≡ max next (f n) → Leads f (n + 1) s p r
  leads-keep h a b e = leads-as f (n + 1) a b refl (leads-stay f n place most next l r h e)

module _ (f : ℕ → ℕ) {n most tied : ℕ} (l : Tied f n most tied) (p t : ℕ) where
  tied-anew : most < f n → p ≡ f n → t ≡ 1 → Tied f (n + 1) p t
  tied-anew h a b = tied-as f (n + 1) a b (tied-up f n most tied l h)

  tied-count : f n ≡ most → p ≡ most → t ≡ tied + 1 → Tied f (n + 1) p t
  tied-count h a b = tied-as f (n + 1) a b (tied-more f n most tied l h)

  tied-keep : f n < most → p ≡ most → t ≡ tied → Tied f (n + 1) p t
  tied-keep h a b = tied-as f (n + 1) a b (tied-stay f n most tied l h)

pub loop-step-preserved : goal.loop-step-preserved
loop-step-preserved c =
    let f : ℕ → ℕ = λ k. get_or c.args.counts k 0 in
    let leads = c.loop-step.invariant.0 in
    let tied = c.loop-step.invariant.1 in
    let to = c.if-peak-best in (
      grind (arith, leads-more f leads to.best_step to.best to.runner_up, leads-keep f leads to.best_step to.best to.runner_up),
      grind (arith, tied-anew f tied to.best to.tied, tied-count f tied to.best to.tied, tied-keep f tied to.best to.tied),
    )

pub returns : goal.returns
returns c =
    let a = c.args in
    let l = c.loop-step in
    let f : ℕ → ℕ = λ k. get_or a.counts k 0 in
    let e : l.step ≡ 256 = omega arith in
    ap (λ (p : ℕ). record { step = l.best_step; peak = l.best; runner_up = l.runner_up; exact = eqb p a.n; tied = l.tied }) c.from.ensures
    ∙ searched-fit a.counts a.n l.best_step l.best l.runner_up l.tied
    (subst (λ (n : ℕ). Leads f n l.best_step l.best l.runner_up) e l.invariant.0)
    (subst (λ (n : ℕ). Tied f n l.best l.tied) e l.invariant.1)
