-- The parts are put one behind the other; beside a refusal, its candidates and one field of zeros.
use Rattle.numbers.proofs.Stored.{wrote-same}
use Rattle.fields.specs.Fields.{field_bytes}
use Rattle.fields.proofs.Puts.{put-none, put-field, put_then}
use Rattle.parts.specs.Parts.{bvs_fields, fits_fields, warnings_fields}
use Rattle.parts.proofs.Zeros.{zeros-little}
use Rattle.layout.specs.Layouts.{decoded_fields, refused_fields}
use Rattle.layout.proofs.decodings.ResultDecodingRefusedLayout.put.Goals as goal

pub returns-in-Ok : goal.returns-in-Ok
unfolding decoded_fields fits_fields warnings_fields
returns-in-Ok c = rw c.in-Ok.is (put_then c.put_answer-at.ensures (put_then c.put_choice-at.ensures (put_then c.put_entries-at.ensures c.put_entry_list.ensures)))

pub returns-in-Err : goal.returns-in-Err
unfolding refused_fields bvs_fields field_bytes
returns-in-Err c =
    rw c.in-Err.is
    (put_then c.put_answer-at-in-Err.ensures (put_then c.put_entry_list-at.ensures (put-field (wrote-same (zeros-little _) c.put_zeros.ensures) put-none)))
