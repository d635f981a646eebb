-- `put_listed` meets its contract: its puts are its fields.
use Rattle.lists.specs.Cases.{flag}
use mathlib.Core.Path.{ap}
use Rattle.fields.specs.Fields.{field_bytes}
use Rattle.fields.proofs.Puts.{put-none, put-field, put-known}
use Rattle.parse_layout.specs.FromPage.{listed_fields}
use Rattle.parse_layout.proofs.put_listed.Goals as goal

-- the puts, from the last back
pub returns : goal.returns
unfolding listed_fields field_bytes
returns c =
    put-field c.put-at.ensures
    (put-field c.put_low-at.ensures
    (put-known c.requires c.put_low-at-2.ensures
    (put-field c.put_low-at-3.ensures
    (put-known (ap flag c.is_some-is_declared.ensures) c.put-at-2.ensures
    (put-known c.unwrap_or-declared.ensures c.put_low.ensures put-none)))))
