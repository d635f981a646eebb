-- A list in a table of n places. Assumes nothing.
use Rattle.std.specs.Prelude.{ℕ, ◌+◌, Bool, Option, Some, None, leb, set, replicate}
use Rattle.lists.specs.Cases.{pick}
use Rattle.answers.specs.declared.tables.Table.{Table}

abbrev pub empty : {A : Type 0} {n : ℕ} → Table A n
empty {n = n} = record { items = replicate n None; len = 0 }

-- one value more; a full table stays as it is
unfoldable pub with_item : {A : Type 0} {n : ℕ} → Table A n → A → Table A n
with_item {n = n} t x = pick (leb n t.len) t (record { items = set t.items t.len (Some x); len = t.len + 1 })

-- the same, where there is a value
abbrev pub with_any : {A : Type 0} {n : ℕ} → Table A n → Option A → Table A n
with_any t None = t
with_any t (Some x) = with_item t x

-- the same, where a test passed
abbrev pub with_if : {A : Type 0} {n : ℕ} → Bool → Table A n → A → Table A n
with_if test t x = pick test (with_item t x) t
