-- Document 01, "The program": the lines of an input, and what a program that answers lines puts out for it, over any reply. Assumes nothing.
use Rattle.std.specs.Prelude.{ℕ, suc, ◌≤◌, ◌<◌, ◌≡◌, List, [], ◌∷◌, ◌++◌, map, eqb, length, take}
use Rattle.lists.specs.Cases.{pick}

-- the lines of an input of which `begun` was read before: "A line ends at a newline or the end of input; nothing after the last newline is none"
unfoldable pub lines_from : List ℕ → List ℕ → List (List ℕ)
lines_from begun [] = pick (eqb (length begun) 0) [] (begun ∷ [])
lines_from begun (c ∷ input) = pick (eqb 10 c) (begun ∷ lines_from [] input) (lines_from (begun ++ (c ∷ [])) input)

abbrev pub lines_of : List ℕ → List (List ℕ)
lines_of input = lines_from [] input

-- lists one after the other
unfoldable pub flat : List (List ℕ) → List ℕ
flat [] = []
flat (l ∷ ls) = l ++ flat ls

-- the replies to the lines, one after the other
unfoldable pub output_from : (List ℕ → List ℕ) → List ℕ → List ℕ → List ℕ
output_from reply begun input = flat (map reply (lines_from begun input))

abbrev pub output_of : (List ℕ → List ℕ) → List ℕ → List ℕ
output_of reply input = output_from reply [] input

-- how many characters stand before the first newline: all, where there is none
unfoldable pub up_to : List ℕ → ℕ
up_to [] = 0
up_to (c ∷ l) = pick (eqb 10 c) 0 (suc (up_to l))

-- what the end of input puts out: the reply to an unfinished line, unless that is empty
unfoldable pub last_reply : (List ℕ → List ℕ) → List ℕ → List ℕ
last_reply reply begun = pick (eqb (length begun) 0) [] (reply begun)

-- a reply depends on the first `room` characters of a line alone, so that these are all that is to be kept of one, and has at most `most` characters
pub record Bounded (room most : ℕ) (reply : List ℕ → List ℕ) : Type 0 where
  pub some : 0 < room
  pub front : (l : List ℕ) → reply (take room l) ≡ reply l
  pub short : (l : List ℕ) → length (reply l) ≤ most
