-- The header of a file: its text is read as what it says, and only that text.
use Rattle.std.proofs.Common.{◌≡◌, ℕ, ◌^◌, ◌<◌, ◌≤◌, Bool, true, false, cond, List, [], ◌∷◌, ◌++◌, drop, Option, None, Some, refl, ap, ◌∙◌, sym, subst, arith, inl, inr, decimal, append_assoc}
use Rattle.std.specs.List.{join_with_byte}
use Rattle.std.specs.Prelude.{◌&&◌, ◌||◌, ◌==◌, nat_eq, nat_le, bytes_eq, codes, is_some, unwrap_or, option_and_then}
use Rattle.std.proofs.lemmas.Bool.{cases_Bool, cases_lt, and_parts, and_from, ne_eqb, eq-eqb, eqb-true, leb-true}
use Rattle.std.proofs.lemmas.List.Elements.{All-nil, All-append}
use Rattle.std.proofs.lemmas.List.Splits.{slice_split_at, slice_split_none, join_with_byte-slice_split}
use Rattle.std.proofs.lemmas.List.Sums.{count_by-le-length}
use Rattle.std.proofs.lemmas.List.{length-drop}
use Rattle.std.proofs.lemmas.Slice.Eq.{bytes_eq-Decides}
use Rattle.ded_io.specs.Written.{◌⧺◌}
use Rattle.syn_event.specs.Numbering.{Numbering, original_tasks, original_entries, is_original_task, is_original_entry}
use Rattle.syn_event.specs.DeclaredTasks.{text_of}
use Rattle.seq_file.specs.declared.errors.SeqError.{SeqError}
use Rattle.seq_file.specs.declared.errors.SeqError.TheVariants.{OtherProgram}
use Rattle.seq_file.specs.text_lines.Capped.{capped}
use Rattle.seq_file.specs.Short.{IsShort}
use Rattle.seq_file.specs.Files.{header_line, is_header_of, fault_of_header, header_fault}
use Rattle.seq_file.specs.Lists.{list_header_line, list_header_fault}
use Rattle.seq_file.specs.text_lines.Lines.{is_blank, is_line_end, words_of, cut, first_line}
use Rattle.seq_file.specs.Lines.{Header, is_capital, is_name_part, name_goes_on, is_upper_name, upper_name, header_with, header_of_format, with_three}
use Rattle.common_lemmas.specs.Following.{every, begins}
use Rattle.seq_file.specs.text_lines.Numerals.{is_digit, count}
use Rattle.seq_file.proofs.text_lines.Capping.{capped-small, capped-large}
use Rattle.seq_file.proofs.text_lines.Marking.{IsFreeOf, free-cons, free-one, free-prefix, decimal-free, cut-at_mark, cut-parts, first-line_cut}
use Rattle.seq_file.proofs.text_lines.Spelling.{count-of_decimal, word-of_count}
use Rattle.common_lemmas.proofs.Truth.{clash}

-- a number within 32 bits is not the cap
pub same-number : (m k : ℕ) → k < 2 ^ 32 → nat_eq (capped m) k ≡ nat_eq m k
same-number m k h = elim (cases_lt m (2 ^ 32)) [
  | inl lt ↦ ap (λ t. nat_eq t k) (capped-small m (omega (arith, lt)))
  | inr ge ↦
      ap (λ t. nat_eq t k) (capped-large m ge)
      ∙ ne_eqb (2 ^ 32) k (λ e. absurd (omega (arith, e, h)))
      ∙ sym (ne_eqb m k (λ e. absurd (omega (arith, e, h, ge))))
]

pub same-number_as : (n m k : ℕ) → k < 2 ^ 32 → n ≡ capped m → nat_eq n k ≡ nat_eq m k
same-number_as n m k h e = ap (λ t. nat_eq t k) e ∙ same-number m k h

pub ruleset same_numbers = (same-number_as)

pub tasks-small : (numbers : Numbering) → IsShort numbers → original_tasks numbers < 2 ^ 64
tasks-small numbers short =
    omega (arith, count_by-le-length is_original_task (drop 1 numbers.tasks), length-drop 1 numbers.tasks, short.tasks)

entries-small : (numbers : Numbering) → IsShort numbers → original_entries numbers < 2 ^ 64
entries-small numbers short = omega (arith, count_by-le-length is_original_entry numbers.entries, short.entries)

-- a name's bytes are no lower than the digits
part-low : (b : ℕ) → is_name_part b ≡ true → 48 ≤ b
part-low b h = elim (cases_Bool (is_capital b)) [
  | inl e ↦ omega (arith, leb-true 65 b (and_parts (nat_le 65 b) (nat_le b 90) e).0)
  | inr e ↦ leb-true 48 b (and_parts (nat_le 48 b) (nat_le b 57) (sym (ap (λ t. t || is_digit b) e) ∙ h)).0
]

goes-low : (b : ℕ) (rest : List ℕ) → name_goes_on b rest ≡ true → 48 ≤ b
goes-low b rest h = elim (cases_Bool (is_name_part b)) [
  | inl e ↦ part-low b e
  | inr e ↦ omega (arith, eqb-true b 95 (and_parts (b == 95) (begins is_name_part rest) (sym (ap (λ t. t || ((b == 95) && begins is_name_part rest)) e) ∙ h)).0)
]

rest-free : (m : ℕ) (text : List ℕ) → m < 48 → every name_goes_on text ≡ true → IsFreeOf m text
rest-free m [] low h = All-nil (λ x. (x == m) ≡ false)
rest-free m (b ∷ rest) low h =
    let both = and_parts (name_goes_on b rest) (every name_goes_on rest) h in
    let high : 48 ≤ b = goes-low b rest both.0 in
    free-cons m b rest (ne_eqb b m (λ e. absurd (omega (arith, e, low, high)))) (rest-free m rest low both.1)

pub name-free : (m : ℕ) (name : List ℕ) → m < 48 → is_upper_name name ≡ true → IsFreeOf m name
name-free m [] low h = clash h
name-free m (b ∷ rest) low h =
    let both = and_parts (is_capital b) (every name_goes_on rest) h in
    let high : 65 ≤ b = leb-true 65 b (and_parts (nat_le 65 b) (nat_le b 90) both.0).0 in
    free-cons m b rest (ne_eqb b m (λ e. absurd (omega (arith, e, low, high)))) (rest-free m rest low both.1)

-- a header without its line feed, in the format of this number
abbrev header_text : List ℕ → List ℕ → ℕ → ℕ → List ℕ
header_text number main tasks entries = codes "ded-seq " ++ (number ++ (32 ∷ (main ++ (32 ∷ (decimal tasks ++ (32 ∷ decimal entries))))))

-- no blank and no line feed stand in the number of a format
record IsFormat (number : List ℕ) : Type 0 where
  words : IsFreeOf 32 number
  lines : IsFreeOf 10 number

first-format : IsFormat (codes "1")
first-format = record { words = free-one 32 49 refl; lines = free-one 10 49 refl }

second-format : IsFormat (codes "2")
second-format = record { words = free-one 32 50 refl; lines = free-one 10 50 refl }

three-parts : (a b c rest : List ℕ) → (a ++ (32 ∷ (b ++ (32 ∷ (c ++ (10 ∷ [])))))) ++ rest ≡ (a ++ (32 ∷ (b ++ (32 ∷ c)))) ++ (10 ∷ rest)
three-parts a b c rest =
    append_assoc a (32 ∷ (b ++ (32 ∷ (c ++ (10 ∷ []))))) rest
    ∙ ap (λ t. a ++ (32 ∷ t)) (append_assoc b (32 ∷ (c ++ (10 ∷ []))) rest ∙ ap (λ t. b ++ (32 ∷ t)) (append_assoc c (10 ∷ []) rest))
    ∙ sym (append_assoc a (32 ∷ (b ++ (32 ∷ c))) (10 ∷ rest) ∙ ap (λ t. a ++ (32 ∷ t)) (append_assoc b (32 ∷ c) (10 ∷ rest)))

pub header-line : (names : List (List ℕ)) (numbers : Numbering) (rest : List ℕ) →
    header_line names numbers ++ rest ≡ header_text (codes "1") (text_of names numbers.main) (original_tasks numbers) (original_entries numbers) ++ (10 ∷ rest)
unfolding ◌⧺◌
header-line names numbers rest =
    ap (λ t. codes "ded-seq 1 " ++ t) (three-parts (text_of names numbers.main) (decimal (original_tasks numbers)) (decimal (original_entries numbers)) rest)

pub list_header-line : (names : List (List ℕ)) (numbers : Numbering) (rest : List ℕ) →
    list_header_line names numbers ++ rest ≡ header_text (codes "2") (text_of names numbers.main) (original_tasks numbers) (original_entries numbers) ++ (10 ∷ rest)
unfolding ◌⧺◌
list_header-line names numbers rest =
    ap (λ t. codes "ded-seq 2 " ++ t) (three-parts (text_of names numbers.main) (decimal (original_tasks numbers)) (decimal (original_entries numbers)) rest)

header-words : (number main : List ℕ) (t e : ℕ) → IsFormat number → is_upper_name main ≡ true → t < 2 ^ 64 → e < 2 ^ 64 →
    words_of (header_text number main t e) ≡ codes "ded-seq" ∷ number ∷ main ∷ decimal t ∷ decimal e ∷ []
header-words number main t e format hm ht he =
    ap (λ w. codes "ded-seq" ∷ w) (slice_split_at is_blank number 32 (main ++ (32 ∷ (decimal t ++ (32 ∷ decimal e)))) format.words refl)
    ∙ ap (λ w. codes "ded-seq" ∷ number ∷ w) (slice_split_at is_blank main 32 (decimal t ++ (32 ∷ decimal e)) (name-free 32 main (omega arith) hm) refl)
    ∙ ap (λ w. codes "ded-seq" ∷ number ∷ main ∷ w) (slice_split_at is_blank (decimal t) 32 (decimal e) (decimal-free 32 t (omega arith) ht) refl)
    ∙ ap (λ w. codes "ded-seq" ∷ number ∷ main ∷ decimal t ∷ w) (slice_split_none is_blank (decimal e) (decimal-free 32 e (omega arith) he))

header-read : (number main : List ℕ) (t e : ℕ) → IsFormat number → is_upper_name main ≡ true → t < 2 ^ 64 → e < 2 ^ 64 →
    header_of_format number (words_of (header_text number main t e)) ≡ Some (header_with main t e)
header-read number main t e format hm ht he =
    ap (header_of_format number) (header-words number main t e format hm ht he)
    ∙ ap (λ b. cond b (with_three header_with (upper_name main) (count (decimal t)) (count (decimal e))) None) ((bytes_eq-Decides number number).1 refl)
    ∙ ap (λ u. with_three header_with u (count (decimal t)) (count (decimal e))) (ap (λ b. cond b (Some main) None) hm)
    ∙ ap (λ u. with_three header_with (Some main) u (count (decimal e))) (count-of_decimal t ht)
    ∙ ap (λ u. with_three header_with (Some main) (Some t) u) (count-of_decimal e he)

header-free : (number main : List ℕ) (t e : ℕ) → IsFormat number → is_upper_name main ≡ true → t < 2 ^ 64 → e < 2 ^ 64 → IsFreeOf 10 (header_text number main t e)
header-free number main t e format hm ht he =
    let p : ℕ → Type 0 = λ b. (b == 10) ≡ false in
    let counts : List ℕ = decimal t ++ (32 ∷ decimal e) in
    let numbers : IsFreeOf 10 (32 ∷ counts) =
    free-cons 10 32 counts refl (All-append p (decimal t) (32 ∷ decimal e) (decimal-free 10 t (omega arith) ht) (free-cons 10 32 (decimal e) refl (decimal-free 10 e (omega arith) he))) in
    let named : IsFreeOf 10 (main ++ (32 ∷ counts)) = All-append p main (32 ∷ counts) (name-free 10 main (omega arith) hm) numbers in
    let whole : IsFreeOf 10 (number ++ (32 ∷ (main ++ (32 ∷ counts)))) =
    All-append p number (32 ∷ (main ++ (32 ∷ counts))) format.lines (free-cons 10 32 (main ++ (32 ∷ counts)) refl named) in
    free-prefix 10 (codes "ded-seq ") (number ++ (32 ∷ (main ++ (32 ∷ counts)))) refl whole

-- the fault of a first line in the format of this number
abbrev format_fault : List ℕ → List (List ℕ) → Numbering → List ℕ → Option SeqError
format_fault number names numbers bytes =
    fault_of_header (text_of names numbers.main) (original_tasks numbers) (original_entries numbers)
    (option_and_then (λ line. header_of_format number (words_of line)) (first_line bytes))

format-sound : (number : List ℕ) → IsFormat number → (names : List (List ℕ)) (numbers : Numbering) → IsShort numbers → is_upper_name (text_of names numbers.main) ≡ true →
    (bytes rest : List ℕ) → bytes ≡ header_text number (text_of names numbers.main) (original_tasks numbers) (original_entries numbers) ++ (10 ∷ rest) →
    format_fault number names numbers bytes ≡ None
format-sound number format names numbers short hm bytes rest h =
    let main : List ℕ = text_of names numbers.main in
    let t : ℕ = original_tasks numbers in
    let e : ℕ = original_entries numbers in
    let ht : t < 2 ^ 64 = tasks-small numbers short in
    let he : e < 2 ^ 64 = entries-small numbers short in
    let cuts : cut is_line_end bytes ≡ Some (header_text number main t e, rest) =
    ap (cut is_line_end) h ∙ cut-at_mark 10 (header_text number main t e) rest (header-free number main t e format hm ht he) in
    ap (λ o. fault_of_header main t e (option_and_then (λ line. header_of_format number (words_of line)) o)) (first-line_cut bytes (header_text number main t e) rest cuts)
    ∙ ap (fault_of_header main t e) (header-read number main t e format hm ht he)
    ∙ ap (λ b. cond b None (Some (OtherProgram 1)))
    (and_from (bytes_eq main main) (nat_eq t t && nat_eq e e) ((bytes_eq-Decides main main).1 refl) (and_from (nat_eq t t) (nat_eq e e) (eq-eqb t t refl) (eq-eqb e e refl)))

-- A file that begins with the header of the program has no fault there.
pub header-sound : (names : List (List ℕ)) (numbers : Numbering) → IsShort numbers → is_upper_name (text_of names numbers.main) ≡ true → (bytes rest : List ℕ) → bytes ≡ header_line names numbers ++ rest → header_fault names numbers bytes ≡ None
header-sound names numbers short hm bytes rest h = format-sound (codes "1") first-format names numbers short hm bytes rest (h ∙ header-line names numbers rest)

-- and its first line ends there
pub list_header-cut : (names : List (List ℕ)) (numbers : Numbering) → IsShort numbers → is_upper_name (text_of names numbers.main) ≡ true →
    (bytes rest : List ℕ) → bytes ≡ list_header_line names numbers ++ rest → (line : List ℕ) × (cut is_line_end bytes ≡ Some (line, rest))
list_header-cut names numbers short hm bytes rest h =
    let line : List ℕ = header_text (codes "2") (text_of names numbers.main) (original_tasks numbers) (original_entries numbers) in (
      line,
      ap (cut is_line_end) (h ∙ list_header-line names numbers rest)
          ∙ cut-at_mark 10 line rest (header-free (codes "2") (text_of names numbers.main) (original_tasks numbers) (original_entries numbers) second-format hm (tasks-small numbers short) (entries-small numbers short)),
    )

pub list_header-sound : (names : List (List ℕ)) (numbers : Numbering) → IsShort numbers → is_upper_name (text_of names numbers.main) ≡ true →
    (bytes rest : List ℕ) → bytes ≡ list_header_line names numbers ++ rest → list_header_fault names numbers bytes ≡ None
list_header-sound names numbers short hm bytes rest h = format-sound (codes "2") second-format names numbers short hm bytes rest (h ∙ list_header-line names numbers rest)

header-case : (o : Option (List ℕ)) (p q : Option ℕ) (header : Header) → with_three header_with o p q ≡ Some header → (o ≡ Some header.main) × (p ≡ Some header.tasks) × (q ≡ Some header.entries)
header-case None p q header h = clash (ap is_some h)
header-case (Some m) None q header h = clash (ap is_some h)
header-case (Some m) (Some t) None header h = clash (ap is_some h)
header-case (Some m) (Some t) (Some e) header h =
    let same : header_with m t e ≡ header = ap (λ o. unwrap_or o header) h in
    (ap (λ x. Some x.main) same, ap (λ x. Some x.tasks) same, ap (λ x. Some x.entries) same)

upper-is : (word name : List ℕ) → upper_name word ≡ Some name → word ≡ name
upper-is word name h = elim (cases_Bool (is_upper_name word)) [
  | inl e ↦ ap (λ o. unwrap_or o []) (sym (ap (λ b. cond b (Some word) None) e) ∙ h)
  | inr e ↦ clash (ap is_some (sym (ap (λ b. cond b (Some word) None) e) ∙ h))
]

header-written : (number : List ℕ) (words : List (List ℕ)) (header : Header) → header_of_format number words ≡ Some header → header.tasks < 2 ^ 64 → header.entries < 2 ^ 64 →
    join_with_byte 32 words ≡ header_text number header.main header.tasks header.entries
header-written number [] header h ht he = clash (ap is_some h)
header-written number (f ∷ []) header h ht he = clash (ap is_some h)
header-written number (f ∷ v ∷ []) header h ht he = clash (ap is_some h)
header-written number (f ∷ v ∷ m ∷ []) header h ht he = clash (ap is_some h)
header-written number (f ∷ v ∷ m ∷ t ∷ []) header h ht he = clash (ap is_some h)
header-written number (f ∷ v ∷ m ∷ t ∷ e ∷ []) header h ht he =
    let test : Bool = bytes_eq f (codes "ded-seq") && bytes_eq v number in
    let read : Option Header = with_three header_with (upper_name m) (count t) (count e) in
    elim (cases_Bool test) [
      | inl yes' ↦
          let both = and_parts (bytes_eq f (codes "ded-seq")) (bytes_eq v number) yes' in
          let (hm, hp, hq) = header-case (upper_name m) (count t) (count e) header (sym (ap (λ b. cond b read None) yes') ∙ h) in
          ap (λ x. x ++ (32 ∷ (v ++ (32 ∷ (m ++ (32 ∷ (t ++ (32 ∷ e)))))))) ((bytes_eq-Decides f (codes "ded-seq")).0 both.0)
          ∙ ap (λ x. codes "ded-seq " ++ (x ++ (32 ∷ (m ++ (32 ∷ (t ++ (32 ∷ e))))))) ((bytes_eq-Decides v number).0 both.1)
          ∙ ap (λ x. codes "ded-seq " ++ (number ++ (32 ∷ (x ++ (32 ∷ (t ++ (32 ∷ e))))))) (upper-is m header.main hm)
          ∙ ap (λ x. codes "ded-seq " ++ (number ++ (32 ∷ (header.main ++ (32 ∷ (x ++ (32 ∷ e))))))) (word-of_count t header.tasks hp ht)
          ∙ ap (λ x. codes "ded-seq " ++ (number ++ (32 ∷ (header.main ++ (32 ∷ (decimal header.tasks ++ (32 ∷ x))))))) (word-of_count e header.entries hq he)
      | inr no' ↦ clash (ap is_some (sym (ap (λ b. cond b read None) no') ∙ h))
    ]
header-written number (f ∷ v ∷ m ∷ t ∷ e ∷ more ∷ rest) header h ht he = clash (ap is_some h)

sound-case : (main : List ℕ) (t e : ℕ) (o : Option Header) → fault_of_header main t e o ≡ None → (header : Header) × (o ≡ Some header) × (is_header_of main t e header ≡ true)
sound-case main t e None h = clash (sym (ap is_some h))
sound-case main t e (Some header) h = elim (cases_Bool (is_header_of main t e header)) [
  | inl yes' ↦ (header, refl, yes')
  | inr no' ↦ clash (sym (ap is_some (sym (ap (λ b. cond b None (Some (OtherProgram 1))) no') ∙ h)))
]

format-begins : (number : List ℕ) (names : List (List ℕ)) (numbers : Numbering) → IsShort numbers → (bytes line rest : List ℕ) → cut is_line_end bytes ≡ Some (line, rest) → format_fault number names numbers bytes ≡ None →
    bytes ≡ header_text number (text_of names numbers.main) (original_tasks numbers) (original_entries numbers) ++ (10 ∷ rest)
format-begins number names numbers short bytes line rest cuts sound =
    let main : List ℕ = text_of names numbers.main in
    let t : ℕ = original_tasks numbers in
    let e : ℕ = original_entries numbers in
    let reads : List ℕ → Option Header = λ line. header_of_format number (words_of line) in
    let (header, read, same) = sound-case main t e (reads line) (sym (ap (λ o. fault_of_header main t e (option_and_then reads o)) (first-line_cut bytes line rest cuts)) ∙ sound) in
    let parts = and_parts (bytes_eq header.main main) (nat_eq header.tasks t && nat_eq header.entries e) same in
    let counts = and_parts (nat_eq header.tasks t) (nat_eq header.entries e) parts.1 in
    let em : header.main ≡ main = (bytes_eq-Decides header.main main).0 parts.0 in
    let et : header.tasks ≡ t = eqb-true header.tasks t counts.0 in
    let ee : header.entries ≡ e = eqb-true header.entries e counts.1 in
    let ht : header.tasks < 2 ^ 64 = subst (λ n. n < 2 ^ 64) (sym et) (tasks-small numbers short) in
    let he : header.entries < 2 ^ 64 = subst (λ n. n < 2 ^ 64) (sym ee) (entries-small numbers short) in
    cut-parts 10 bytes line rest cuts
    ∙ ap (λ l. l ++ (10 ∷ rest))
    (sym (join_with_byte-slice_split 32 line) ∙ header-written number (words_of line) header read ht he
    ∙ ap (λ x. header_text number x header.tasks header.entries) em ∙ ap (λ x. header_text number main x header.entries) et ∙ ap (λ x. header_text number main t x) ee)

-- A file whose first line has no fault begins with the header of the program.
pub header-begins : (names : List (List ℕ)) (numbers : Numbering) → IsShort numbers → (bytes line rest : List ℕ) → cut is_line_end bytes ≡ Some (line, rest) → header_fault names numbers bytes ≡ None → bytes ≡ header_line names numbers ++ rest
header-begins names numbers short bytes line rest cuts sound = format-begins (codes "1") names numbers short bytes line rest cuts sound ∙ sym (header-line names numbers rest)

pub list_header-begins : (names : List (List ℕ)) (numbers : Numbering) → IsShort numbers → (bytes line rest : List ℕ) → cut is_line_end bytes ≡ Some (line, rest) →
    list_header_fault names numbers bytes ≡ None → bytes ≡ list_header_line names numbers ++ rest
list_header-begins names numbers short bytes line rest cuts sound = format-begins (codes "2") names numbers short bytes line rest cuts sound ∙ sym (list_header-line names numbers rest)
