-- Laws of where the rows start, as they are listed from the directory's far end into a lent buffer. Assumes nothing.
use Prim.Native.Nat.{ℕ, zero, suc, ◌+◌, ◌-◌, ◌*◌, ◌≤◌, ◌<◌}
use mathlib.Core.Path.{◌≡◌, refl, sym, ap, ◌∙◌}
use mathlib.Core.List.{List, [], ◌∷◌}
use mathlib.Core.Bool.{Bool, true, false}
use native.Mathlib.Omega.{arith}
use lib.ListN.{length, take, drop, get_or, set, length-take, length-drop}
use lib.Seq.{take_all, drop-drop, get_or-take, get_or-drop}
use Rattle.lists.specs.Bytes.{byte_at, pair_at}
use Rattle.lists.specs.Pieces.{over}
use Rattle.lists.proofs.Over.{over-length}
use Rattle.lists.proofs.Filled.{fill_none, front-more, fill-all}
use Rattle.std.proofs.Common.{Ok, Err}
use Rattle.answers.specs.declared.kinds.Refusal.{Refusal}
use Rattle.directory.specs.declared.verdicts.Decided.{Decided}
use Rattle.directory.specs.Directory.{slots_of, Falls}
use Rattle.directory.specs.Decisions.{page_decision}
use Rattle.rows.specs.Rows.{is_kept, rows_at, from_end}
use Rattle.rows.specs.RowAnswers.{rows_in, rows_of, starts_in, StartsWritten, StartsListed}
use Rattle.rows.proofs.FarEnd.{rows_end, end_kept, end-not}
use Rattle.rows.proofs.RowAnswers.{rows-decided, rows-refused, after-refused, counted-rows}

-- what holds when `len` rows are listed, with k slots to go: those to come are the other rows
pub record Listing (plain : List ℕ) (start count stop k len : ℕ) : Type 0 where
  pub within : len + k ≤ count
  pub ends : stop ≡ start + 2 * count
  pub few : len ≤ length (rows_at plain start count)
  pub rest : drop len (rows_at plain start count) ≡ from_end plain start stop k

pub list-none : (plain : List ℕ) (start count : ℕ) → Falls 0xFF0 (slots_of plain start count) → Listing plain start count (start + 2 * count) count 0
list-none plain start count d = record { within = omega arith; ends = refl; few = omega arith; rest = rows_end plain start count d }

module _ (plain : List ℕ) (start count stop k len : ℕ) (g : Listing plain start count stop k len) where
  abbrev rows : List ℕ
  rows = rows_at plain start count

  module _ (v : ℕ) (h : 0 < k) (e : v ≡ pair_at plain (start + 2 * (k - 1))) where
    pub list-skip : is_kept start stop v ≡ false → Listing plain start count stop (k - 1) len
    list-skip q =
        record { within = omega (arith, g.within); ends = g.ends; few = g.few; rest = g.rest ∙ end-not plain start stop v k h e q }

    module _ (q : is_kept start stop v ≡ true) where
      next : drop len rows ≡ v ∷ from_end plain start stop (k - 1)
      next = g.rest ∙ end_kept plain start stop v k h e q

      -- the next row is v
      pub list-below : len < length rows
      list-below = let n : length (drop len rows) ≡ suc (length (from_end plain start stop (k - 1))) = ap length next in omega (arith, length-drop len rows)

      pub list_at : byte_at rows len ≡ v
      list_at =
          let z : len + 0 ≡ len = omega arith in
          ap (byte_at rows) (sym z) ∙ sym (get_or-drop len rows 0 0) ∙ ap (λ (l : List ℕ). byte_at l 0) next

      pub list-more : Listing plain start count stop (k - 1) (len + 1)
      list-more =
          record {
            within = omega (arith, g.within);
            ends = g.ends;
            few = omega (arith, list-below);
            rest = sym (drop-drop 1 len rows) ∙ ap (drop 1) next;
          }

  pub list_all : k ≤ 0 → len ≡ length rows
  unfolding from_end
  list_all h =
      let z : k ≡ 0 = omega arith in
      let n : length (drop len rows) ≡ length (from_end plain start stop 0) = ap length g.rest ∙ ap (λ (j : ℕ). length (from_end plain start stop j)) z in
      omega (arith, n, length-drop len rows, g.few)

-- ---- the buffer: the first rows, as many as have room

module _ (rows l : List ℕ) where
  abbrev src : List ℕ
  src = take (length l) rows

  pub starts_none : l ≡ over l 0 (take 0 src)
  starts_none = fill_none l src 0

  module _ (out : List ℕ) (len : ℕ) (o : out ≡ over l 0 (take len src)) where
    pub starts-long : length out ≡ length l
    starts-long = ap length o ∙ over-length l (take len src) 0 (omega (arith, length-take len src, length-take (length l) rows))

    pub starts-put : (v : ℕ) → len < length rows → byte_at rows len ≡ v → len < length out → set out len v ≡ over l 0 (take (len + 1) src)
    starts-put v h e r =
        let k : len < length l = omega (arith, starts-long) in
        let x : v ≡ get_or src len 0 = sym (get_or-take (length l) rows len 0 k ∙ e) in
        ap (λ (t : List ℕ). set t len v) o
        ∙ ap (set (over l 0 (take len src)) len) x
        ∙ front-more l src 0 len k (omega (arith, length-take (length l) rows))

    pub starts-full : length out ≤ len → out ≡ over l 0 (take (len + 1) src)
    starts-full r =
        let n : length src ≤ len = omega (arith, length-take (length l) rows, starts-long) in
        o ∙ ap (over l 0) (take_all len src n ∙ sym (take_all (len + 1) src (omega arith)))

    pub starts-done : len ≡ length rows → out ≡ starts_in rows l
    starts-done e = o ∙ fill-all l src 0 len (omega (arith, length-take (length l) rows))

-- no rows are listed
take-none : (n : ℕ) → take {A = ℕ} n [] ≡ []
take-none zero = refl
take-none (suc n) = refl

pub nothing-listed : (l : List ℕ) → StartsListed [] l l 0
nothing-listed l = record { many = refl; written = starts_none [] l ∙ ap (over l 0) (sym (take-none (length l))) }

-- the whole, of what is decided
module _ (lim number : ℕ) (plain : List ℕ) (lenient : Bool) (l : List ℕ) where
  pub starts-decided :
      (out : List ℕ) (d : Decided) (n : ℕ)
      → Ok d ≡ page_decision lim number plain lenient
      → StartsListed (rows_in plain d.listed) l out n
      → StartsWritten lim number plain lenient l out (Ok n)
  starts-decided out d n e w =
      record {
        counted = counted-rows lim number plain lenient d n e w.many;
        written = w.written ∙ ap (λ (rows : List ℕ). starts_in rows l) (rows-decided lim number plain lenient d e);
      }

  pub starts-refused : (x : Refusal) → Err x ≡ page_decision lim number plain lenient → StartsWritten lim number plain lenient l l (Err x)
  starts-refused x e =
      record {
        counted = after-refused lim number plain lenient (Ok (length (rows_of lim plain lenient))) x e;
        written = (nothing-listed l).written ∙ ap (λ (rows : List ℕ). starts_in rows l) (rows-refused lim number plain lenient x e);
      }
