-- Laws of the parse's table of slots, and of its answer. Assumes nothing.
use Rattle.std.proofs.Common.{◌≡◌, ℕ, suc, ◌+◌, ◌-◌, ◌*◌, ◌<◌, Bool, Result, Ok, Err, List, [], ◌∷◌, ◌++◌, length, set, replicate, refl, sym, ap, ◌∙◌, append_assoc, arith, length-append}
use lib.Seq.{set_at}
use Rattle.lists.specs.Bytes.{pair_at}
use Rattle.lists.proofs.Each.{each_more, each-length}
use Rattle.answers.specs.Answers.{Answer, answer_in}
use Rattle.answers.specs.declared.kinds.Refusal.{Refusal}
use Rattle.directory.specs.Directory.{slots_of}
use Rattle.directory.specs.Decisions.{page_decision}
use Rattle.directory.specs.declared.verdicts.Decided.{Decided}
use Rattle.slotted.specs.Parses.{table_of, parsed_by, parsed_of}

-- the table, slot by slot
table-put : (l t : List ℕ) (k v : ℕ) → length l ≡ k → k < 1024 → t ≡ table_of l → set t k v ≡ table_of (l ++ (v ∷ []))
table-put l t k v n h q =
    let m : 1024 - length l ≡ suc (1024 - (k + 1)) = omega arith in
    let n' : 1024 - (k + 1) ≡ 1024 - length (l ++ (v ∷ [])) = omega (arith, length-append l (v ∷ [])) in
    let room : List ℕ = replicate (1024 - (k + 1)) 0 in
    let a : t ≡ l ++ (0 ∷ room) = q ∙ ap (λ (x : ℕ). l ++ replicate x 0) m in
    ap (λ (x : List ℕ). set x k v) a ∙ set_at l 0 room v k n ∙ sym (append_assoc l (v ∷ []) room)
    ∙ ap (λ (x : ℕ). (l ++ (v ∷ [])) ++ replicate x 0) n'

pub table_more : (plain : List ℕ) (start k v : ℕ) (t : List ℕ) → k < 1024 → v ≡ pair_at plain (start + 2 * k) → t ≡ table_of (slots_of plain start k) → set t k v ≡ table_of (slots_of plain start (k + 1))
table_more plain start k v t h e q =
    let f : ℕ → ℕ = λ j. pair_at plain (start + 2 * j) in
    table-put (slots_of plain start k) t k v (each-length f k) h q ∙ ap (λ (x : ℕ). table_of (slots_of plain start k ++ (x ∷ []))) e ∙ ap table_of (sym (each_more f k))

-- the answer is the decision's
module _ (lim number : ℕ) (plain : List ℕ) (lenient : Bool) (d : Result Decided Refusal) (e : d ≡ page_decision lim number plain lenient) where
  pub answer-is : (a : Answer) → a ≡ answer_in d → a ≡ answer_in (parsed_of lim number plain lenient)
  unfolding parsed_of
  answer-is a ea = ea ∙ same d ∙ ap (λ (x : Result Decided Refusal). answer_in (parsed_by number plain x)) e
    where
      same : (x : Result Decided Refusal) → answer_in x ≡ answer_in (parsed_by number plain x)
      same (Ok x) = refl
      same (Err r) = refl
