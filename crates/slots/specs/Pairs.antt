-- No part of the rules: what is looked for first, since nearly every search ends there. Assumes nothing.
use Rattle.std.specs.Prelude.{ℕ, zero, suc, ◌+◌, Bool, false, ◌&&◌, ◌||◌, List, ◌==◌}
use Rattle.lists.specs.Bytes.{byte_at}

-- a and then b at one of the positions 0, .., n - 1
unfoldable pub has_pair : ℕ → ℕ → List ℕ → ℕ → Bool
has_pair a b plain zero = false
has_pair a b plain (suc i) = has_pair a b plain i || (byte_at plain i == a && byte_at plain (i + 1) == b)
