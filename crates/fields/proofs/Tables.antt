-- A table is put entry by entry: what its loop knows at its start, after a turn and at its end, whatever the entries are. Assumes nothing.
use Prim.Native.Nat.{ℕ, ◌+◌}
use mathlib.Core.Path.{◌≡◌, sym, subst}
use mathlib.Core.List.{List}
use Rattle.lists.specs.Pieces.{joined}
use Rattle.lists.proofs.Joined.{joined-none, joined-more}
use Rattle.fields.specs.Fields.{Field, Put}
use Rattle.fields.proofs.Puts.{put-none, put_then}

module _ (f : ℕ → List Field) {l : List ℕ} {a : ℕ} where
  pub table_none : Put l a (joined f 0) l a
  table_none = subst (λ (fs : List Field). Put l a fs l a) (sym (joined-none f)) put-none

  pub table_more : {o after : List ℕ} {p next n : ℕ} → Put l a (joined f n) o p → Put o p (f n) after next → Put l a (joined f (n + 1)) after next
  table_more {o} {after} {p} {next} {n} q r = subst (λ (fs : List Field). Put l a fs after next) (sym (joined-more f n)) (put_then q r)

  pub table_done : {after : List ℕ} {next i : ℕ} (n : ℕ) → Put l a (joined f i) after next → i ≡ n → Put l a (joined f n) after next
  table_done {after} {next} {i} n q e = subst (λ (k : ℕ). Put l a (joined f k) after next) e q
