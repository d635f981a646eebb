-- The evidence for a candidate ends with its zero mass. Assumes nothing.
use Prim.Native.Nat.{◌-◌}
use mathlib.Core.Path.{◌≡◌, refl}
use mathlib.Core.Bool.{Bool, true, false}
use lib.Dec.{ltb}
use Rattle.std.specs.Prelude.{Some}
use Rattle.answers.specs.Tables.{empty, with_item, with_if}
use Rattle.answers.specs.declared.trust.Evidence.{Evidence}
use Rattle.answers.specs.declared.trust.Evidence.TheVariants as evidence
use Rattle.votes.specs.declared.Candidate.{Candidate}
use Rattle.votes.specs.declared.Assessment.{Assessment}
use Rattle.groups.specs.declared.Group.TheVariants.{Others}
use Rattle.groups.specs.Groups.{group, most_of}
use Rattle.choice.specs.Rules.{grounds_of}
use Rattle.demands.specs.Demand2.{last_of}

last-four : (a b c : Bool) (x y z e : Evidence) → last_of (with_item (with_if c (with_if b (with_if a empty x) y) z) e) ≡ Some e
unfolding with_item
last-four true true true x y z e = refl
last-four true true false x y z e = refl
last-four true false true x y z e = refl
last-four true false false x y z e = refl
last-four false true true x y z e = refl
last-four false true false x y z e = refl
last-four false false true x y z e = refl
last-four false false false x y z e = refl

pub last-mass :
    (a : Assessment) (c : Candidate)
    → last_of (grounds_of a c) ≡ Some (evidence.ZeroMass c.zeros (c.zeros - most_of (group (Others c.bv) a)))
unfolding grounds_of
last-mass a c = last-four c.verified (ltb 0 c.votes) c.anchored _ _ _ _
