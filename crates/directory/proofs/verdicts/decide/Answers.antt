-- `decide` meets its contract: the length, the limit, where the directory is, the offsets inside it.
use Rattle.std.proofs.Common.{◌≡◌, refl, sym, ap, ◌∙◌, arith, rules}
use Rattle.directory.specs.Directory.{Sound}
use Rattle.directory.specs.Decisions.{inside_checked}
use Rattle.directory.proofs.Decisions.{ListedAs, decided-page, found-sound, refused-stays}
use Rattle.directory.proofs.verdicts.decide.Goals as goal

pub returns-in_err-d : goal.returns-in_err-d
returns-in_err-d c =
    let a = c.args in
    let e : c.from_residual.result ≡ c.find.result = search rules in
    e ∙ refused-stays a.plain.now a.lenient c.find.result _ c.in_err-d.was
    ∙ ap (inside_checked a.plain.now a.lenient) c.find.ensures
    ∙ decided-page a.limit a.plain.now a.lenient _ (omega arith) (sym c.limit_fits.ensures ∙ c.if-not-limit_fits.false) refl

pub check_inside-requires : goal.check_inside-requires
check_inside-requires c =
    let a = c.args in
    let s : ListedAs (Sound a.plain.now) c.find.result = rw c.find.ensures (found-sound a.limit a.plain.now _ a.lenient) in
    rw c.in_ok-d.was at s

pub returns : goal.returns
returns c =
    let a = c.args in
    c.check_inside.ensures
    ∙ ap (inside_checked a.plain.now a.lenient) (sym c.in_ok-d.was ∙ c.find.ensures)
    ∙ decided-page a.limit a.plain.now a.lenient _ (omega arith) (sym c.limit_fits.ensures ∙ c.if-not-limit_fits.false) refl
