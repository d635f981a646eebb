-- The table of the values of a group of candidates: it has each of them once, ascending. Assumes nothing.
use Prim.Native.Nat.{ℕ, ◌+◌, ◌≤◌, ◌<◌}
use mathlib.Core.Path.{◌≡◌, refl, sym, ap, ap₂, ◌∙◌, subst}
use mathlib.Core.Bool.{Bool, ◌&&◌}
use mathlib.Core.List.{List, [], ◌∷◌, ◌++◌, append_assoc, append-nil}
use native.Mathlib.Decide.{ℕ_discrete}
use native.Mathlib.Omega.{arith}
use borrow.Author.Tests.{lt-ltb}
use lib.ListN.{length, get_or, set, length-append, length-set}
use lib.Seq.{get_or-set_same, get_or-set_other}
use Rattle.lists.specs.Counts.{how_many, is_in}
use Rattle.lists.specs.Pieces.{among, fold}
use Rattle.lists.proofs.Among.{among-length}
use Rattle.lists.proofs.Each.{each_none, each_more, each-ext, each_at}
use Rattle.lists.proofs.Picks.{pick-gt}
use Rattle.std.specs.Prelude.{Option, Some, None, unwrap_or}
use Rattle.answers.specs.Tables.{empty, with_item}
use Rattle.answers.specs.Answers.{Bvs}
use Rattle.votes.specs.Votes.{candidate_of}
use Rattle.votes.specs.Eight.{bvs_in}
use Rattle.votes.specs.declared.Candidate.{Candidate}
use Rattle.votes.proofs.Meaning.{Rises, among-rises, among-has, map-among}
use Rattle.groups.specs.Groups.{and_bv, bvs_of}
use Rattle.meanings.specs.Sources.{value_at, list_of, Lists}
use Rattle.meanings.proofs.Standing.{made}

-- a table that holds a list
record Holding (table : Bvs) (l : List ℕ) : Type 0 where
  number : table.len ≡ length l
  room : length table.items ≡ 8
  held : (i : ℕ) → i < table.len → get_or table.items i None ≡ Some (value_at table i)
  list : list_of table ≡ l

holding-none : Holding empty []
holding-none = record { number = refl; room = refl; held = λ i q. absurd (omega arith); list = each_none _ }

holding-more : (table : Bvs) (l : List ℕ) (v : ℕ) → Holding table l → length l < 8 → Holding (with_item table v) (l ++ (v ∷ []))
unfolding with_item
holding-more table l v h k =
    subst (λ (r : Bvs). Holding r (l ++ (v ∷ [])))
    (pick-gt table next 8 table.len (omega (arith, h.number)))
    (record {
      number = omega (arith, h.number, length-append l (v ∷ []));
      room = length-set table.items table.len (Some v) ∙ h.room;
      held = λ i q. holds i q (ℕ_discrete i table.len);
      list =
          each_more (value_at next) table.len
          ∙ ap₂ (λ (x : List ℕ) (y : ℕ). x ++ (y ∷ []))
          (each-ext (value_at next) (value_at table) table.len (λ i q. old-value i (λ e. omega arith)) ∙ h.list)
          (ap (λ (o : Option ℕ). unwrap_or o 0) (new table.len refl));
    })
  where
    next : Bvs
    next = record { items = set table.items table.len (Some v); len = table.len + 1 }

    old : (i : ℕ) → (i ≡ table.len → ⊥) → get_or next.items i None ≡ get_or table.items i None
    old i ne = get_or-set_other table.items table.len i (Some v) None ne

    old-value : (i : ℕ) → (i ≡ table.len → ⊥) → value_at next i ≡ value_at table i
    old-value i ne = ap (λ (o : Option ℕ). unwrap_or o 0) (old i ne)

    new : (i : ℕ) → i ≡ table.len → get_or next.items i None ≡ Some v
    new i e = ap (λ (j : ℕ). get_or next.items j None) e ∙ get_or-set_same table.items table.len (Some v) None (omega (arith, h.number, h.room))

    holds : (i : ℕ) → i < table.len + 1 → Dec (i ≡ table.len) → get_or next.items i None ≡ Some (value_at next i)
    holds i q (yes e) = new i e ∙ ap Some (sym (ap (λ (o : Option ℕ). unwrap_or o 0) (new i e)))
    holds i q (no ne) = old i ne ∙ h.held i (omega arith) ∙ ap Some (sym (old-value i ne))

holding-all :
    (l : List Candidate) (front : List ℕ) (table : Bvs) → Holding table front → length front + length l ≤ 8 → Holding (fold and_bv table l) (front ++ bvs_in l)
unfolding fold
holding-all [] front table h k = subst (Holding table) (sym (append-nil front)) h
holding-all (c ∷ l) front table h k =
    let next : Holding (with_item table c.bv) (front ++ (c.bv ∷ [])) = holding-more table front c.bv h (omega arith) in
    subst (Holding (fold and_bv (with_item table c.bv) l)) (append_assoc front (c.bv ∷ []) (bvs_in l))
    (holding-all l (front ++ (c.bv ∷ [])) (with_item table c.bv) next (omega (arith, length-append front (c.bv ∷ []))))

-- a table that holds those that pass a test lists them
lists-held : (p : ℕ → Bool) (table : Bvs) → Holding table (among p (λ v. v) 256) → Lists p table
lists-held p table h =
    record {
      number = size;
      held = h.held;
      within = λ i q. omega (arith, at i q, rise.within i (omega (arith, h.number)));
      ascending = λ i j q k. omega (arith, at i (omega arith), at j k, rise.strictly i j q (omega (arith, h.number)));
      just = λ v q. ap (is_in v) h.list ∙ among-has p 256 v ∙ ap (λ (b : Bool). b && p v) (lt-ltb v 256 q);
    }
  where
    rise : Rises 256 (among p (λ v. v) 256)
    rise = among-rises p 256

    size : table.len ≡ how_many p 256
    size = h.number ∙ among-length p (λ v. v) 256

    at : (i : ℕ) → i < table.len → value_at table i ≡ get_or (among p (λ v. v) 256) i 0
    at i q = sym (each_at (value_at table) table.len i 0 q) ∙ ap (λ (l : List ℕ). get_or l i 0) h.list

module _ (lim : ℕ) (shifted anchors : List ℕ) (n t : ℕ) (p : ℕ → Bool) where
  values-made : bvs_in (among p (made lim shifted anchors n t) 256) ≡ among p (λ v. v) 256
  unfolding candidate_of
  values-made = map-among (λ (c : Candidate). c.bv) p (made lim shifted anchors n t) 256

  pub group-lists : how_many p 256 ≤ 8 → Lists p (bvs_of (among p (made lim shifted anchors n t) 256))
  unfolding bvs_of
  group-lists h =
      let l : List Candidate = among p (made lim shifted anchors n t) 256 in
      lists-held p (fold and_bv empty l)
      (subst (Holding (fold and_bv empty l)) values-made
      (holding-all l [] empty holding-none (omega (arith, among-length p (made lim shifted anchors n t) 256))))
