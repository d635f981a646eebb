-- A table is put item by item: what a loop over its items knows at its start, after a turn and at its end. Assumes nothing.
use Rattle.std.proofs.Common.{ℕ, ◌+◌, ◌<◌, ◌≡◌, List, length, get_or, sym, subst}
use Rattle.std.proofs.lemmas.Option.{slice_get_read}
use Rattle.fields.specs.Fields.{Field, Put}
use Rattle.fields.proofs.Tables.{table_none, table_more, table_done}
use Rattle.parts.specs.Parts.{table_fields}

module _ {A : Type 0} (f : A → List Field) (blank : List Field) (items : List A) {l : List ℕ} {a : ℕ} where
  pub items_none : Put l a (table_fields f blank items 0) l a
  unfolding table_fields
  items_none = table_none _

  pub items_more :
      {o after : List ℕ} {p next i n : ℕ} (x : A)
      → n ≡ length items
      → i < n
      → x ≡ get_or items i x
      → Put l a (table_fields f blank items i) o p
      → Put o p (f (get_or items i x)) after next
      → Put l a (table_fields f blank items (i + 1)) after next
  unfolding table_fields
  items_more {o} {after} {p} {next} {i} {n} x e h is before put =
      table_more _ before (rw (slice_get_read items n i x e h is) (subst (λ (y : A). Put o p (f y) after next) (sym is) put))

  pub items_done : {after : List ℕ} {next i : ℕ} (n : ℕ) → Put l a (table_fields f blank items i) after next → i ≡ n → Put l a (table_fields f blank items n) after next
  unfolding table_fields
  items_done n = table_done _ n
