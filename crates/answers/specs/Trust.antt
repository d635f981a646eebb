-- Document 01, "The program" and "Choosing bv": source, confidence and evidence by number. Assumes nothing.
use Rattle.std.specs.Prelude.{ℕ, List, [], ◌∷◌}
use Rattle.answers.specs.declared.trust.Source.{Source}
use Rattle.answers.specs.declared.trust.Source.TheVariants as source
use Rattle.answers.specs.declared.trust.Confidence.{Confidence}
use Rattle.answers.specs.declared.trust.Confidence.TheVariants as confidence
use Rattle.answers.specs.declared.trust.Evidence.{Evidence}
use Rattle.answers.specs.declared.trust.Evidence.TheVariants as evidence
use Rattle.answers.specs.declared.tables.Table.{Table}

-- "1 to 6: trailer, exact, histogram, supplied, corroborated, unallocated"
abbrev pub source_number : Source → ℕ
source_number source.TrailerRowCount = 1
source_number source.ExactSectors = 2
source_number source.Histogram = 3
source_number source.Supplied = 4
source_number source.Corroborated = 5
source_number source.Unallocated = 6

-- "1 to 5: unallocated, unverified, corroborated, calibrated, verified"
abbrev pub confidence_number : Confidence → ℕ
confidence_number confidence.Unallocated = 1
confidence_number confidence.Unverified = 2
confidence_number confidence.Corroborated = 3
confidence_number confidence.Calibrated = 4
confidence_number confidence.Verified = 5

-- in the order in which evidence is listed
abbrev pub evidence_number : Evidence → ℕ
evidence_number evidence.TrailerRowCount = 1
evidence_number (evidence.ExactSectors count dissent) = 2
evidence_number evidence.BlockAnchor = 3
evidence_number (evidence.ZeroMass zeros lead) = 4
evidence_number evidence.Unallocated = 5

abbrev pub evidence_values : Evidence → List ℕ
evidence_values evidence.TrailerRowCount = []
evidence_values (evidence.ExactSectors count dissent) = count ∷ dissent ∷ []
evidence_values evidence.BlockAnchor = []
evidence_values (evidence.ZeroMass zeros lead) = zeros ∷ lead ∷ []
evidence_values evidence.Unallocated = []

-- the evidence for a bv
abbrev pub Grounds : Type 0
Grounds = Table Evidence 4
