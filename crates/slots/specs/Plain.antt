-- private: no part of the rules. The bytes that a search reads. Assumes nothing.
use Rattle.std.specs.Prelude.{ℕ, List}
use Rattle.lists.specs.Bytes.{plain_of}
use Rattle.slots.specs.declared.values.Plain.{Plain}

abbrev pub text : Plain → List ℕ
text p = plain_of p.bv p.bytes.now
