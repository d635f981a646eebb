-- Steps one after the other, and THE THEOREM: however the input is cut into blocks, what is put out is the output of the whole. Assumes nothing.
use Prim.Native.Nat.{ℕ, zero, suc, ◌+◌, ◌%◌, ◌^◌, ◌≤◌}
use mathlib.Core.Path.{◌≡◌, refl, sym, ap, subst, ◌∙◌}
use mathlib.Core.List.{List, [], ◌∷◌, ◌++◌, append-nil, append_assoc}
use native.Mathlib.Nat.{mod-mod, mod-add-mod}
use native.Mathlib.Omega.{arith}
use lib.ListN.{length, take, drop, length-append, drop_of_length-le}
use lib.Seq.{length-take-le}
use Rattle.lines.specs.Input.{output_from, output_of, flat, last_reply}
use Rattle.lines.specs.Steps.{Stepped}
use Rattle.lines.specs.declared.next.Step.{Step}
use Rattle.lines.specs.Runs.{Run, sent_count, Passed, Written}
use Rattle.lines.proofs.Output.{output-last}

-- ---- the theorem

module _ (reply : List ℕ → List ℕ) where
  run-from : {kept rest : List ℕ} {blocks outs : List (List ℕ)} → Run reply kept rest blocks outs → flat outs ≡ output_from reply kept (rest ++ flat blocks)
  unfolding flat
  run-from (Run.ends {kept}) = append-nil (last_reply reply kept) ∙ sym (output-last reply kept)
  run-from (Run.reads r) = run-from r
  run-from (Run.steps {out = out} {blocks = blocks} s r) = ap (λ (l : List ℕ). out ++ l) (run-from r) ∙ sym (s.same (flat blocks))

  pub run-output : {blocks outs : List (List ℕ)} → Run reply [] [] blocks outs → flat outs ≡ output_of reply (flat blocks)
  run-output r = run-from r

  -- so a program that wrote a whole run wrote as much as the output of its input has
  pub written-output : {sent : ℕ} (w : Written reply sent) → sent % 2 ^ 64 ≡ length (output_of reply (flat w.blocks)) % 2 ^ 64
  written-output w = w.count ∙ ap (λ (l : List ℕ). length l % 2 ^ 64) (run-output w.run)

-- ---- the count

counted-more : (d a n b w c m : ℕ) → b % d ≡ (a + n) % d → c ≡ (b + w) % d → m ≡ n + w → c % d ≡ (a + m) % d
counted-more d a n b w c m e f g =
    let r : a + n + w ≡ a + m = omega arith in
    ap (λ (x : ℕ). x % d) f
    ∙ mod-mod (b + w) d
    ∙ sym (mod-add-mod b d w)
    ∙ ap (λ (x : ℕ). (x + w) % d) e
    ∙ mod-add-mod (a + n) d w
    ∙ ap (λ (x : ℕ). x % d) r

flat_append : (a b : List (List ℕ)) → flat (a ++ b) ≡ flat a ++ flat b
unfolding flat
flat_append [] b = refl
flat_append (l ∷ a) b = ap (λ (x : List ℕ). l ++ x) (flat_append a b) ∙ sym (append_assoc l (flat a) (flat b))

-- ---- the steps of a block

-- the invariant of their loop
pub record Passing (reply : List ℕ → List ℕ) (line₀ : List ℕ) (kept : ℕ) (block out₀ : List ℕ) (sent₀ : ℕ) (line : List ℕ) (len : ℕ) (out : List ℕ) (from sent : ℕ) : Type 0 where
  pub passed : Passed reply (take kept line₀) block (take len line) (drop from block) sent₀ sent
  pub held : len ≤ length line
  pub room : length line ≡ length line₀
  pub size : length out ≡ length out₀

module _ (reply : List ℕ → List ℕ) (line₀ : List ℕ) (kept : ℕ) (block out₀ : List ℕ) (sent₀ : ℕ) where
  pub passing-none : kept ≤ length line₀ → Passing reply line₀ kept block out₀ sent₀ line₀ kept out₀ 0 sent₀
  passing-none h =
      record {
        passed = record { out = []; steps = record { same = λ later. refl }; count = omega arith };
        held = h;
        room = refl;
        size = refl;
      }

  module _ (line : List ℕ) (len : ℕ) (out : List ℕ) (from sent : ℕ) (p : Passing reply line₀ kept block out₀ sent₀ line len out from sent) where
    pub passing_step : {most : ℕ} (line' out' : List ℕ) (s : Step) (sent' : ℕ) → length line' ≡ length line → length out' ≡ length out
        → sent' ≡ sent_count sent s.waiting → Stepped reply most line len block from line' out' s
        → Passing reply line₀ kept block out₀ sent₀ line' s.kept out' s.from sent'
    passing_step line' out' s sent' same size more w =
        let o : List ℕ = p.passed.out in
        let q : List ℕ = take s.waiting out' in
        let n : length (o ++ q) ≡ length o + s.waiting = length-append o q ∙ ap (λ (i : ℕ). length o + i) (length-take-le s.waiting out' w.fits) in
        record {
          passed = record {
            out = o ++ q;
            steps = record {
              same = λ later.
                  p.passed.steps.same later
                  ∙ ap (λ (l : List ℕ). o ++ l) (w.done.same later)
                  ∙ sym (append_assoc o q (output_from reply (take s.kept line') (drop s.from block ++ later)));
            };
            count = counted-more (2 ^ 64) sent₀ (length o) sent s.waiting sent' (length (o ++ q)) p.passed.count more n;
          };
          held = w.held;
          room = same ∙ p.room;
          size = size ∙ p.size;
        }

    pub passed-all : length block ≤ from → Passed reply (take kept line₀) block (take len line) [] sent₀ sent
    passed-all h = subst (λ (r : List ℕ). Passed reply (take kept line₀) block (take len line) r sent₀ sent) (drop_of_length-le block {i = from} h) p.passed

-- a block by its number of characters
take_own : (n : ℕ) (l : List ℕ) → take n l ≡ take (length (take n l)) l
take_own zero l = refl
take_own (suc n) [] = refl
take_own (suc n) (c ∷ l) = ap (λ (x : List ℕ). c ∷ x) (take_own n l)

pub passed-front : {reply : List ℕ → List ℕ} {kept kept' rest : List ℕ} {sent sent' : ℕ} (l : List ℕ) (n g : ℕ) → g ≡ length (take n l)
    → Passed reply kept (take n l) kept' rest sent sent' → Passed reply kept (take g l) kept' rest sent sent'
passed-front {reply} {kept} {kept'} {rest} {sent} {sent'} l n g e p =
    subst (λ (x : List ℕ). Passed reply kept x kept' rest sent sent') (take_own n l ∙ ap (λ (i : ℕ). take i l) (sym e)) p

-- ---- block after block

-- the invariant of a program's loop: a run from here on makes a run of the whole
pub record Underway (reply : List ℕ → List ℕ) (kept : List ℕ) (sent : ℕ) : Type 0 where
  pub blocks : List (List ℕ)
  pub outs : List (List ℕ)
  pub run : (later put : List (List ℕ)) → Run reply kept [] later put → Run reply [] [] (blocks ++ later) (outs ++ put)
  pub count : sent % 2 ^ 64 ≡ length (flat outs) % 2 ^ 64

pub underway-none : (reply : List ℕ → List ℕ) (line : List ℕ) → Underway reply (take 0 line) 0
unfolding flat
underway-none reply line = record { blocks = []; outs = []; run = λ later put r. r; count = refl }

module _ {reply : List ℕ → List ℕ} {kept : List ℕ} {sent : ℕ} (u : Underway reply kept sent) where
  -- more that was put out, and what was written then
  put_count : (out : List ℕ) (sent' : ℕ) → sent' % 2 ^ 64 ≡ (sent + length out) % 2 ^ 64 → sent' % 2 ^ 64 ≡ length (flat (u.outs ++ (out ∷ []))) % 2 ^ 64
  unfolding flat
  put_count out sent' e =
      let n : length (flat u.outs) + length out ≡ length (flat (u.outs ++ (out ∷ []))) =
      sym (length-append (flat u.outs) out)
      ∙ ap (λ (l : List ℕ). length (flat u.outs ++ l)) (sym (append-nil out))
      ∙ ap length (sym (flat_append u.outs (out ∷ []))) in
      e
      ∙ sym (mod-add-mod sent (2 ^ 64) (length out))
      ∙ ap (λ (x : ℕ). (x + length out) % 2 ^ 64) u.count
      ∙ mod-add-mod (length (flat u.outs)) (2 ^ 64) (length out)
      ∙ ap (λ (x : ℕ). x % 2 ^ 64) n

  pub underway-more : {block kept' : List ℕ} {sent' : ℕ} → Passed reply kept block kept' [] sent sent' → Underway reply kept' sent'
  underway-more {block} {kept'} {sent'} p =
      record {
        blocks = u.blocks ++ (block ∷ []);
        outs = u.outs ++ (p.out ∷ []);
        run = λ later put r. rw (append_assoc u.blocks (block ∷ []) later, append_assoc u.outs (p.out ∷ []) put) (u.run (block ∷ later) (p.out ∷ put) (Run.reads (Run.steps p.steps r)));
        count = put_count p.out sent' p.count;
      }

  pub underway-end : (sent' : ℕ) → sent' ≡ sent_count sent (length (last_reply reply kept)) → Written reply sent'
  underway-end sent' e =
      record {
        blocks = u.blocks ++ [];
        outs = u.outs ++ (last_reply reply kept ∷ []);
        run = u.run [] (last_reply reply kept ∷ []) Run.ends;
        count = put_count (last_reply reply kept) sent' (ap (λ (x : ℕ). x % 2 ^ 64) e ∙ mod-mod (sent + length (last_reply reply kept)) (2 ^ 64));
      }

-- what the end of input put out, by the number of its characters
pub last-count : (sent n r : ℕ) (out last : List ℕ) → n ≤ length out → take n out ≡ last → r ≡ sent_count sent n → r ≡ sent_count sent (length last)
last-count sent n r out last h e f = let m : n ≡ length last = sym (length-take-le n out h) ∙ ap length e in f ∙ ap (sent_count sent) m
