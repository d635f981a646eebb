-- `check_inside` meets its contract, by whether an offset points inside and by the leniency.
use Rattle.std.proofs.Common.{sym, ap, ◌∙◌}
use Rattle.directory.specs.Directory.{last_live}
use Rattle.directory.proofs.Inside.{first-inside}
use Rattle.directory.proofs.LastLive.{last-first, last-past}
use Rattle.directory.proofs.Decisions.{checked-none, checked_refused, checked-dropped, inside-checks}
use Rattle.directory.proofs.verdicts.check_inside.Goals as goal

pub returns-then-end-last_live : goal.returns-then-end-last_live
returns-then-end-last_live c =
    let a = c.args in
    last-past a.plain.now a.lenient a.d c.in-Some.listed c.last_live.result c.in-Some.is (rw c.in-Some.is at c.requires) (c.last_live.ensures ∙ last-first _ ∙ ap last_live (c.slots_at-slots.ensures.slots (rw c.in-Some.is at c.requires).within)) c.if-end-last_live.true

pub returns-in_default-first_inside : goal.returns-in_default-first_inside
returns-in_default-first_inside c =
    let a = c.args in
    checked-none a.lenient a.d _ _ (sym c.in_default-first_inside.is ∙ c.first_inside.ensures ∙ first-inside _ _)
    ∙ inside-checks a.plain.now a.lenient a.d c.in-Some.listed _ c.in-Some.is (c.slots_at-slots.ensures.slots (rw c.in-Some.is at c.requires).within)

pub returns-then-not-lenient : goal.returns-then-not-lenient
returns-then-not-lenient c =
    let a = c.args in
    checked_refused a.lenient a.d _ _ c.in-Some-first_inside.offset (sym c.in-Some-first_inside.is ∙ c.first_inside.ensures ∙ first-inside _ _) c.if-not-lenient.true
    ∙ inside-checks a.plain.now a.lenient a.d c.in-Some.listed _ c.in-Some.is (c.slots_at-slots.ensures.slots (rw c.in-Some.is at c.requires).within)

pub returns : goal.returns
returns c =
    let a = c.args in
    checked-dropped a.lenient a.d _ _ c.in-Some-first_inside.offset c.count_inside.result (sym c.in-Some-first_inside.is ∙ c.first_inside.ensures ∙ first-inside _ _) c.count_inside.ensures c.if-not-lenient.false
    ∙ inside-checks a.plain.now a.lenient a.d c.in-Some.listed _ c.in-Some.is (c.slots_at-slots.ensures.slots (rw c.in-Some.is at c.requires).within)
