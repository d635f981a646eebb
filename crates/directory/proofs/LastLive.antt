-- Laws of the last live slot: offsets fall, so it is the least, and where it lies past the end of the directory all do. Assumes nothing.
use Prim.Native.Nat.{ℕ, zero, suc, ◌+◌, ◌*◌, ◌≤◌, ◌<◌}
use Rattle.std.proofs.Common.{Some, Ok, not, cond, Option, map, option_map, reverse, unwrap_or, ◌==◌, length}
use Rattle.std.specs.List.{find}
use Rattle.std.proofs.lemmas.List.{reverse-append}
use mathlib.Core.Path.{◌≡◌, refl, sym, ap, ◌∙◌}
use mathlib.Core.List.{List, [], ◌∷◌, ◌++◌, reverse_aux}
use mathlib.Core.Bool.{Bool, true, false, and-false}
use native.Mathlib.Omega.{arith}
use lib.Dec.{eqb}
use borrow.Author.Tests.{eqb-true, eqb-false, lt-ltb, le-ltb}
use Rattle.lists.specs.Cases.{pick}
use Rattle.lists.specs.Bytes.{byte_at}
use Rattle.lists.specs.Pieces.{each, keep}
use Rattle.lists.proofs.Each.{each_all}
use Rattle.directory.specs.Directory.{slots_of, is_inside, inside_of, last_live, Falls, Sound}
use Rattle.directory.specs.Decisions.{inside_checked_by, listed_checked, inside_checked}
use Rattle.slots.specs.Slots.{slot_value}
use Rattle.directory.proofs.Inside.{find-mapped}
use Rattle.directory.specs.declared.verdicts.Listed.{Listed}
use Rattle.directory.specs.declared.verdicts.Decided.{Decided}

last-zero : (l : List ℕ) (b : Bool) → eqb (last_live l) 0 ≡ b → pick b 0 (last_live l) ≡ last_live l
last-zero l true e = sym (eqb-true (last_live l) 0 e)
last-zero l false e = refl

-- read from the far end
last-append : (l : List ℕ) (v : ℕ) → last_live (l ++ (v ∷ [])) ≡ pick (eqb v 0) (last_live l) v
unfolding last_live
last-append [] v = go (eqb v 0) refl
  where
    go : (b : Bool) → eqb v 0 ≡ b → v ≡ pick b 0 v
    go true e = eqb-true v 0 e
    go false e = refl
last-append (x ∷ l) v = ap (λ (n : ℕ). pick (eqb n 0) x n) (last-append l v) ∙ go (eqb v 0) refl
  where
    go : (b : Bool) → eqb v 0 ≡ b → pick (eqb (pick b (last_live l) v) 0) x (pick b (last_live l) v) ≡ pick b (pick (eqb (last_live l) 0) x (last_live l)) v
    go true e = refl
    go false e = rw e refl

-- so it is the first from the far end
first-end : (f : ℕ → ℕ) (n : ℕ) → unwrap_or (find (λ v. not (v == 0)) (reverse (each f n))) 0 ≡ last_live (each f n)
unfolding each
first-end f zero = unfold last_live in refl
first-end f (suc n) = rw (reverse-append (each f n) (f n ∷ []), last-append (each f n) (f n)) (go (eqb (f n) 0) (first-end f n))
  where
    go : (b : Bool) → unwrap_or (find (λ v. not (v == 0)) (reverse (each f n))) 0 ≡ last_live (each f n) → unwrap_or (cond (not b) (Some (f n)) (find (λ v. not (v == 0)) (reverse (each f n)))) 0 ≡ pick b (last_live (each f n)) (f n)
    go true e = e
    go false e = refl

map-onto : (l acc : List (List ℕ)) → map slot_value (reverse_aux l acc) ≡ reverse_aux (map slot_value l) (map slot_value acc)
map-onto [] acc = refl
map-onto (x ∷ l) acc = map-onto l (x ∷ acc)

pub last-first : (l : List (List ℕ)) → unwrap_or (option_map slot_value (find (λ s. not (slot_value s == 0)) (reverse l))) 0 ≡ last_live (map slot_value l)
last-first l =
    let m : List ℕ = map slot_value l in
    let e : m ≡ each (byte_at m) (length m) = each_all (byte_at m) (length m) m refl (λ k h. refl) in
    ap (λ (x : Option ℕ). unwrap_or x 0) (find-mapped (λ v. not (v == 0)) (reverse l))
    ∙ ap (λ (x : List ℕ). unwrap_or (find (λ v. not (v == 0)) x) 0) (map-onto l [] ∙ ap reverse e) ∙ first-end (byte_at m) (length m) ∙ ap last_live (sym e)

-- the last of falling slots is the least
last-below : (prev : ℕ) (l : List ℕ) → 0 < prev → Falls prev l → last_live l < prev
unfolding last_live
last-below prev [] h d = h
last-below prev (zero ∷ l) h d = rw (last-zero l (eqb (last_live l) 0) refl) (last-below prev l h d)
last-below prev (suc x ∷ l) h d = go (eqb (last_live l) 0) (last-below (suc x) l (omega arith) d.1)
  where
    go : (b : Bool) → last_live l < suc x → pick b (suc x) (last_live l) < prev
    go true k = d.0
    go false k = let a : suc x < prev = d.0 in omega arith

outside : (start stop v : ℕ) → (0 < v → stop ≤ v) → is_inside start stop v ≡ false
unfolding is_inside
outside start stop zero h = refl
outside start stop (suc v) h =
    let n : stop ≤ suc v = h (omega arith) in
    rw (lt-ltb 0 (suc v) (omega arith), le-ltb (suc v) stop n, and-false) refl

all-deleted : (start stop : ℕ) (l : List ℕ) → last_live l ≡ 0 → keep (is_inside start stop) l ≡ []
unfolding keep last_live
all-deleted start stop [] e = refl
all-deleted start stop (x ∷ l) e = go (eqb (last_live l) 0) refl e (all-deleted start stop l)
  where
    go :
        (b : Bool)
        → eqb (last_live l) 0 ≡ b
        → pick b x (last_live l) ≡ 0
        → (last_live l ≡ 0 → keep (is_inside start stop) l ≡ [])
        → pick (is_inside start stop x) (x ∷ keep (is_inside start stop) l) (keep (is_inside start stop) l) ≡ []
    go true q z rest = rw (outside start stop x (λ k. absurd (omega arith))) (rest (eqb-true (last_live l) 0 q))
    go false q z rest = absurd (eqb-false (last_live l) 0 q z)

-- so where it is not before the end none is inside
none_inside : (start stop prev : ℕ) (l : List ℕ) → 0 < prev → Falls prev l → stop ≤ last_live l → keep (is_inside start stop) l ≡ []
unfolding keep last_live
none_inside start stop prev [] p d h = refl
none_inside start stop prev (zero ∷ l) p d h =
    rw (outside start stop 0 (λ k. absurd (omega arith)))
    (none_inside start stop prev l p d (rw (last-zero l (eqb (last_live l) 0) refl) at h))
none_inside start stop prev (suc x ∷ l) p d h =
    go (eqb (last_live l) 0) refl h (last-below (suc x) l (omega arith) d.1) (none_inside start stop (suc x) l (omega arith) d.1)
  where
    go :
        (b : Bool)
        → eqb (last_live l) 0 ≡ b
        → stop ≤ pick b (suc x) (last_live l)
        → last_live l < suc x
        → (stop ≤ last_live l → keep (is_inside start stop) l ≡ [])
        → pick (is_inside start stop (suc x)) (suc x ∷ keep (is_inside start stop) l) (keep (is_inside start stop) l) ≡ []
    go true q k below rest = rw (outside start stop (suc x) (λ n. k)) (all-deleted start stop l (eqb-true (last_live l) 0 q))
    go false q k below rest = rw (outside start stop (suc x) (λ n. omega arith)) (rest k)

pub last-past :
    (plain : List ℕ) (lenient : Bool) (d : Decided) (l : Listed) (last : ℕ)
    → d.listed ≡ Some l
    → Sound plain l.start l.count
    → last ≡ last_live (slots_of plain l.start l.count)
    → l.start + 2 * l.count ≤ last
    → Ok d ≡ inside_checked plain lenient (Ok d)
unfolding inside_of
last-past plain lenient d l last o s e h =
    let end : ℕ = l.start + 2 * l.count in
    let none : keep (is_inside l.start end) (slots_of plain l.start l.count) ≡ [] =
    none_inside l.start end 0xFF0 (slots_of plain l.start l.count) (omega arith) s.falls (omega (arith, e)) in
    sym (ap (listed_checked plain lenient d) o ∙ ap (inside_checked_by lenient d end) none)
