-- A parse as a whole: what is put from the page, part behind part, is its layout. Assumes nothing.
use Rattle.std.proofs.Common.{Option, Some, None, Result, Ok, Err, IfOk, IfSome, is_some, unwrap_or, option_map, refl}
use Rattle.std.specs.Result.{result_unwrap_or}
use Prim.Native.Nat.{ℕ, ◌+◌, ◌-◌, ◌*◌, ◌≤◌, ◌<◌}
use mathlib.Core.Path.{◌≡◌, sym, ap, ap₂, subst, ◌∙◌}
use mathlib.Core.Bool.{Bool}
use mathlib.Core.List.{List, [], ◌∷◌, ◌++◌, append_assoc}
use native.Mathlib.Omega.{arith}
use lib.ListN.{length, take, drop}
use Rattle.lists.specs.Bytes.{byte_at}
use Rattle.lists.specs.Pieces.{each, joined}
use Rattle.answers.specs.Tables.{empty}
use Rattle.answers.specs.Answers.{Answer, answer_in}
use Rattle.answers.specs.declared.kinds.Refusal.{Refusal}
use Rattle.answers.specs.declared.notices.Warning.{Warning}
use Rattle.directory.specs.Directory.{slots_of}
use Rattle.slotted.specs.Locations.{located_of}
use Rattle.slotted.specs.Parses.{table_of, directory_with, parsed_of, SaysParsed, SaysTheParse}
use Rattle.directory.specs.declared.verdicts.Listed.{Listed}
use Rattle.slotted.specs.declared.locations.Located.{Located}
use Rattle.slotted.specs.declared.directories.SlotDirectory.{SlotDirectory}
use Rattle.slotted.specs.declared.directories.Parsed.{Parsed}
use Rattle.slotted.proofs.Meaning.{located-parse}
use Rattle.numbers.specs.Writes.{Wrote}
use Rattle.numbers.proofs.Stored.{wrote-same}
use Rattle.fields.specs.Fields.{Field, little, layout_bytes, Put}
use Rattle.fields.proofs.Puts.{put_then, put_whole, layout-put}
use Rattle.parts.specs.Parts.{answer_fields, warnings_fields, table_fields, slots_size, slots_fields}
use Rattle.parts.proofs.Sizes.{answer-size, slots-size}
use Rattle.parse_layout.specs.ParseLayouts.{directory_fields, no_directory, told_fields, nothing_parsed, parse_fields, parse_size, parse_bytes}
use Rattle.parse_layout.specs.FromPage.{listed_fields, found_fields, listed_or_zeros, padded_slots, given_fields}
use Rattle.parse_layout.proofs.Sizes.{listed-size, found-size, listed-long, parse-size}
use Rattle.parse_layout.proofs.Slots.{slots-padded}

-- the directory and its slots
pub found-written :
    (plain : List ℕ) (found : Bool) (l : Listed) {out first after : List ℕ} {at p next : ℕ}
    → l.start + 2 * l.count ≤ length plain
    → l.count ≤ 1024
    → ((i : ℕ) → byte_at plain i < 256)
    → Put out at (listed_fields found l) first p
    → Wrote first p (padded_slots (take (l.start + 2 * l.count - l.start) (drop l.start plain))) after next
    → at + (10 + slots_size) ≤ length out
    → Wrote out at (layout_bytes (found_fields plain found l)) after next
unfolding found_fields
found-written plain found l {out} {first} {after} {at} {p} {next} within few bytes q w room =
    let table : List ℕ = table_of (slots_of plain l.start l.count) in
    let n : l.start + 2 * l.count - l.start ≡ 2 * l.count = omega arith in
    let same = slots-padded plain l.start l.count few (take (l.start + 2 * l.count - l.start) (drop l.start plain)) bytes within
    (ap (λ (k : ℕ). take k (drop l.start plain)) n) in
    layout-put (found-size plain found l) (put_whole (slots_fields table) (listed-size found l) (slots-size table) q (wrote-same same w) room) room

-- the first three places of a table of warnings
first-three : (items : List (Option Warning)) → warnings_fields (take 3 items) 3 ≡ warnings_fields items 3
unfolding warnings_fields table_fields joined
first-three [] = refl
first-three (a ∷ []) = refl
first-three (a ∷ b ∷ []) = refl
first-three (a ∷ b ∷ c ∷ l) = refl

-- the directory of a parse, as the small value says it
abbrev directory_told : Option SlotDirectory → List Field
directory_told o = directory_fields (is_some o) (unwrap_or o no_directory) ++ slots_fields (unwrap_or o no_directory).slots

told-is : (plain : List ℕ) (o : Option Listed) → listed_or_zeros plain o ≡ directory_told (option_map (λ d. directory_with (slots_of plain d.start d.count) d) o)
unfolding found_fields listed_fields directory_fields each
told-is plain None = refl
told-is plain (Some l) = refl

-- the fields of a parse, as the small value says them
abbrev said_fields : List ℕ → Answer → Located → List Field
said_fields plain x l = (answer_fields x ++ listed_or_zeros plain l.listed) ++ given_fields l.warnings

-- where the page is refused it says nothing
abbrev pub nothing_located : Located
nothing_located = record { listed = None; warnings = empty }

parsed-is : (plain : List ℕ) (x : Answer) (l : Located) (p : Parsed) → SaysParsed plain l p → said_fields plain x l ≡ told_fields x p
unfolding told_fields given_fields
parsed-is plain x l p s =
    ap₂ (λ (u v : List Field). u ++ v)
    (ap (λ (u : List Field). answer_fields x ++ u) (told-is plain l.listed ∙ ap directory_told s.directory)
    ∙ sym (append_assoc (answer_fields x) (directory_fields (is_some p.directory) (unwrap_or p.directory no_directory)) (slots_fields (unwrap_or p.directory no_directory).slots)))
    (ap₂ (λ (n : ℕ) (fs : List Field). little 2 n ∷ fs) s.warnings (ap (λ (items : List (Option Warning)). warnings_fields items 3) s.first_three ∙ first-three p.warnings.items))

says-nothing : (plain : List ℕ) → SaysParsed plain nothing_located nothing_parsed
says-nothing plain = record { directory = refl; warnings = refl; first_three = refl; no_other = refl }

said-is :
    (plain : List ℕ) (l : Result Located Refusal) (p : Result Parsed Refusal)
    → SaysTheParse plain l p
    → said_fields plain (answer_in l) (result_unwrap_or l nothing_located) ≡ parse_fields p
said-is plain (Ok l) (Ok p) s = parsed-is plain None l p s
said-is plain (Ok l) (Err y) s = absurd s
said-is plain (Err x) (Ok p) s = absurd s
said-is plain (Err x) (Err y) s =
    parsed-is plain (Some x) nothing_located nothing_parsed (says-nothing plain) ∙ ap (λ (r : Refusal). told_fields (Some r) nothing_parsed) s

-- what is listed is sound, or there is nothing
pub sound-said : (l : Result Located Refusal) (P : Listed → Type 0) → IfOk l (λ l. IfSome l.listed P) → IfSome (result_unwrap_or l nothing_located).listed P
sound-said (Ok l) P h = h
sound-said (Err x) P h = tt

pub parse-written :
    (lim number : ℕ) (plain : List ℕ) (lenient : Bool) (small : byte_at plain 0xFF0 < 256) (r : Result Located Refusal) (e : r ≡ located_of lim number plain lenient)
    (x : Answer) (l : Located) (ex : x ≡ answer_in r) (el : l ≡ result_unwrap_or r nothing_located)
    {out first second after : List ℕ} {p q next : ℕ}
    → Put out 0 (answer_fields x) first p
    → Wrote first p (layout_bytes (listed_or_zeros plain l.listed)) second q
    → Put second q (given_fields l.warnings) after next
    → parse_size ≤ length out
    → Wrote out 0 (parse_bytes (parsed_of lim number plain lenient)) after next
parse-written lim number plain lenient small r e x l ex el {out} {first} {second} {after} {p} {q} {next} a d g room =
    let parsed : Result Parsed Refusal = parsed_of lim number plain lenient in
    let same : said_fields plain x l ≡ parse_fields parsed =
    ap₂ (λ (x : Answer) (l : Located). said_fields plain x l) ex el ∙ said-is plain r parsed (located-parse lim number plain lenient small r e) in
    layout-put (parse-size parsed)
    (subst (λ (fs : List Field). Put out 0 fs after next) same
    (put_then
    (put_whole (listed_or_zeros plain l.listed) (answer-size x) (listed-long plain l.listed) a d (omega (arith, room)))
    g))
    (omega (arith, room))
