-- Zeros at once are a warning's fields where there is room for all of them; where there is none, the buffer is as it was.
use Rattle.std.proofs.Common.{refl, rules}
use Rattle.numbers.specs.Numbers.{little_bytes}
use Rattle.numbers.proofs.Stored.{wrote-same}
use Rattle.fields.specs.Fields.{field_bytes, size_of, layout_bytes}
use Rattle.fields.proofs.Puts.{put-none, put_whole}
use Rattle.parts.specs.Parts.{no_warning}
use Rattle.parts.proofs.Blanks.{wrote-moved, put-stayed}
use Rattle.parts.proofs.Sizes.{no-warning-size}
use Rattle.parts.proofs.entries.WarningEntry.put_blank.Goals as goal

pub returns-then-end-at : goal.returns-then-end-at
unfolding little_bytes field_bytes size_of layout_bytes
returns-then-end-at c =
    let room = wrote-moved c.put_zeros-end.ensures c.if-end-at.true in
    put_whole {m = 0} no_warning refl no-warning-size put-none (wrote-same refl c.put_zeros-end.ensures) room

pub returns : goal.returns
returns c = put-stayed c.put_zeros-end.ensures c.if-end-at.false (search rules)
