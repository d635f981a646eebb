-- The parts are put one behind the other.
use Rattle.fields.proofs.Puts.{put_then}
use Rattle.parts.specs.Parts.{fits_fields}
use Rattle.layout.specs.Layouts.{replacement_fields}
use Rattle.layout.proofs.summaries.ReplacementLayout.put.Goals as goal

pub returns : goal.returns
unfolding replacement_fields fits_fields
returns c = rw (← c.err.ensures.value, ← c.unwrap_or.ensures) (put_then c.put_answer-at.ensures c.put_entries.ensures)
