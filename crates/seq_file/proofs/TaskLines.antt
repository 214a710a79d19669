-- The line that begins the list of a task: its text is read as what it says, and only that text.
use Rattle.std.proofs.Common.{◌≡◌, ℕ, ◌^◌, ◌<◌, Bool, true, false, cond, List, [], ◌∷◌, ◌++◌, Option, None, Some, refl, ap, ◌∙◌, sym, arith, inl, inr, decimal, append_assoc}
use Rattle.std.specs.List.{join_with_byte}
use Rattle.std.specs.Prelude.{◌&&◌, ◌==◌, bytes_eq, codes, is_some, option_and_then}
use Rattle.std.specs.Option.{option_map_or}
use Rattle.std.proofs.lemmas.Bool.{cases_Bool, and_parts, eq-eqb, eqb-true}
use Rattle.std.proofs.lemmas.List.Elements.{All-append}
use Rattle.std.proofs.lemmas.List.Splits.{slice_split_at, slice_split_none, join_with_byte-slice_split}
use Rattle.std.proofs.lemmas.Slice.Eq.{bytes_eq-Decides}
use Rattle.ded_io.specs.Written.{◌⧺◌}
use Rattle.seq_file.specs.text_lines.Lines.{is_blank, is_line_end, words_of, cut, first_line}
use Rattle.seq_file.specs.text_lines.Numerals.{natural, is_natural, value_behind}
use Rattle.seq_file.proofs.text_lines.Capping.{natural-digits}
use Rattle.seq_file.proofs.text_lines.Marking.{IsFreeOf, free-cons, free-prefix, digits-free, decimal-free, cut-at_mark, first-line_cut}
use Rattle.seq_file.proofs.text_lines.Spelling.{natural-of_decimal, word-of_natural}
use Rattle.seq_file.specs.Lists.{task_line, writes_number, asked_by_words, asked_by_line, begins_list}
use Rattle.common_lemmas.proofs.Truth.{clash}

-- the line without its line feed
abbrev pub task_text : ℕ → List ℕ → List ℕ
task_text task word = codes "task " ++ (decimal task ++ (32 ∷ word))

pub task-line : (task : ℕ) (word rest : List ℕ) → task_line task word ++ rest ≡ task_text task word ++ (10 ∷ rest)
unfolding ◌⧺◌
task-line task word rest =
    ap (λ t. codes "task " ++ t)
    (append_assoc (decimal task) (32 ∷ (word ++ (10 ∷ []))) rest
    ∙ ap (λ t. decimal task ++ (32 ∷ t)) (append_assoc word (10 ∷ []) rest)
    ∙ sym (append_assoc (decimal task) (32 ∷ word) (10 ∷ rest)))

-- a word that writes a number has no mark below the digits
natural-is : (word : List ℕ) (n : ℕ) → natural word ≡ Some n → is_natural word ≡ true
unfolding natural
natural-is word n h = elim (cases_Bool (is_natural word)) [
  | inl e ↦ e
  | inr e ↦ clash (ap is_some (sym (ap (λ t. cond t (Some (value_behind 0 word)) None) e) ∙ h))
]

natural-free : (m : ℕ) (word : List ℕ) (n : ℕ) → m < 48 → natural word ≡ Some n → IsFreeOf m word
natural-free m word n low h = digits-free m word low (natural-digits word (natural-is word n h))

task-free : (task : ℕ) (word : List ℕ) (n : ℕ) → task < 2 ^ 64 → natural word ≡ Some n → IsFreeOf 10 (task_text task word)
task-free task word n small h =
    free-prefix 10 (codes "task ") (decimal task ++ (32 ∷ word)) refl
    (All-append (λ b. (b == 10) ≡ false) (decimal task) (32 ∷ word) (decimal-free 10 task (omega arith) small) (free-cons 10 32 word refl (natural-free 10 word n (omega arith) h)))

pub task-cut : (task : ℕ) (word rest : List ℕ) (n : ℕ) → task < 2 ^ 64 → natural word ≡ Some n →
    cut is_line_end (task_line task word ++ rest) ≡ Some (task_text task word, rest)
task-cut task word rest n small h =
    ap (cut is_line_end) (task-line task word rest) ∙ cut-at_mark 10 (task_text task word) rest (task-free task word n small h)

pub task-asks : (task : ℕ) (word : List ℕ) (n : ℕ) → task < 2 ^ 64 → natural word ≡ Some n → asked_by_line task (task_text task word) ≡ Some n
task-asks task word n small h =
    ap (asked_by_words task)
    (ap (λ w. codes "task" ∷ w)
    (slice_split_at is_blank (decimal task) 32 word (decimal-free 32 task (omega arith) small) refl
    ∙ ap (λ w. decimal task ∷ w) (slice_split_none is_blank word (natural-free 32 word n (omega arith) h))))
    ∙ ap (λ o. cond (option_map_or (λ m. m == task) o false) (natural word) None) (natural-of_decimal task small)
    ∙ ap (λ b. cond b (natural word) None) (eq-eqb task task refl)
    ∙ h

pub asked-there : (task : ℕ) (word rest : List ℕ) (n : ℕ) → task < 2 ^ 64 → natural word ≡ Some n →
    option_and_then (asked_by_line task) (first_line (task_line task word ++ rest)) ≡ Some n
asked-there task word rest n small h =
    ap (option_and_then (asked_by_line task)) (first-line_cut (task_line task word ++ rest) (task_text task word) rest (task-cut task word rest n small h))
    ∙ task-asks task word n small h

pub begins-there : (task : ℕ) (word rest : List ℕ) (n : ℕ) → task < 2 ^ 64 → natural word ≡ Some n → begins_list task (task_line task word ++ rest) ≡ true
begins-there task word rest n small h = ap is_some (asked-there task word rest n small h)

number-by : (task : ℕ) (word : List ℕ) (o : Option ℕ) → natural word ≡ o → task < 2 ^ 64 → option_map_or (λ m. m == task) o false ≡ true → word ≡ decimal task
number-by task word None e small h = clash h
number-by task word (Some m) e small h = word-of_natural word task (e ∙ ap Some (eqb-true m task h)) small

asked-words : (task : ℕ) (words : List (List ℕ)) (n : ℕ) → task < 2 ^ 64 → asked_by_words task words ≡ Some n →
    (word : List ℕ) × (join_with_byte 32 words ≡ task_text task word) × (natural word ≡ Some n)
asked-words task [] n small h = clash (ap is_some h)
asked-words task (w ∷ []) n small h = clash (ap is_some h)
asked-words task (w ∷ k ∷ []) n small h = clash (ap is_some h)
asked-words task (w ∷ k ∷ c ∷ []) n small h =
    let test : Bool = bytes_eq w (codes "task") && writes_number task k in
    elim (cases_Bool test) [
      | inl yes' ↦
          let both = and_parts (bytes_eq w (codes "task")) (writes_number task k) yes' in (
            c,
            ap (λ x. x ++ (32 ∷ (k ++ (32 ∷ c)))) ((bytes_eq-Decides w (codes "task")).0 both.0)
                ∙ ap (λ x. codes "task " ++ (x ++ (32 ∷ c))) (number-by task k (natural k) refl small both.1),
            sym (ap (λ b. cond b (natural c) None) yes') ∙ h,
          )
      | inr no' ↦ clash (ap is_some (sym (ap (λ b. cond b (natural c) None) no') ∙ h))
    ]
asked-words task (w ∷ k ∷ c ∷ more ∷ rest) n small h = clash (ap is_some h)

-- A line that begins the list of a task is its text.
pub asked-written : (task : ℕ) (line : List ℕ) (n : ℕ) → task < 2 ^ 64 → asked_by_line task line ≡ Some n →
    (word : List ℕ) × (line ≡ task_text task word) × (natural word ≡ Some n)
asked-written task line n small h =
    let (word, joined, asks) = asked-words task (words_of line) n small h in
    (word, sym (join_with_byte-slice_split 32 line) ∙ joined, asks)
