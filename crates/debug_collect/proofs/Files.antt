-- The sequence file by what the recorder has written, line by line.
use Rattle.std.proofs.Common.{◌≡◌, ℕ, List, [], ◌∷◌, ◌++◌, codes, decimal, drop, sym, ap, ◌∙◌, append_assoc}
use Rattle.std.proofs.lemmas.List.{append-nil}
use Rattle.std.specs.List.{slice_split}
use Rattle.ded_io.specs.Written.{◌⧺◌, each_text}
use Rattle.ded_io.proofs.Writes.{joined}
use Rattle.syn_event.specs.DeclaredTasks.{text_of}
use Rattle.syn_event.specs.Numbering.{Numbering, original_tasks, original_entries}
use Rattle.seq_file.specs.Files.{header_line}
use Rattle.seq_file.specs.text_lines.Lines.{is_line_end}
use Rattle.collect_model.specs.Lines.{header_text}
use Rattle.debug_run.specs.texts.OutputText.{but_last, finished_lines}
use Rattle.debug_run.proofs.texts.Outputting.{some_piece, but_last-cons}
use Rattle.collect_runs.specs.files.Files.{ended_line}
use Rattle.debug_collect.specs.Recorded.{event_lines}

-- ---- the header

six-joined : (a b c d e f end : List ℕ) → (a ++ b ++ c ++ d ++ e ++ f) ++ end ≡ a ⧺ (b ⧺ (c ⧺ (d ⧺ (e ⧺ (f ⧺ end)))))
unfolding ◌⧺◌
six-joined a b c d e f end =
    append_assoc (a ++ b ++ c ++ d ++ e) f end
    ∙ append_assoc (a ++ b ++ c ++ d) e (f ++ end)
    ∙ append_assoc (a ++ b ++ c) d (e ++ (f ++ end))
    ∙ append_assoc (a ++ b) c (d ++ (e ++ (f ++ end)))
    ∙ append_assoc a b (c ++ (d ++ (e ++ (f ++ end))))

-- the header with its line feed is the first line of a sequence file
pub header-ended : (names : List (List ℕ)) (numbers : Numbering) → header_text names numbers ++ 10 ∷ [] ≡ header_line names numbers
header-ended names numbers =
    six-joined (codes "ded-seq 1 ") (text_of names numbers.main) (codes " ") (decimal (original_tasks numbers)) (codes " ") (decimal (original_entries numbers)) (10 ∷ [])

-- the file from its parts
pub file-made : (names : List (List ℕ)) (numbers : Numbering) (events end text one two three : List ℕ) → text ≡ header_text names numbers → one ≡ text ++ 10 ∷ [] → two ≡ one ++ events → three ≡ two ++ end →
    three ≡ header_line names numbers ⧺ (events ⧺ end)
file-made names numbers events end text one two three is_text is_one is_two is_three =
    is_three
    ∙ ap (λ l. l ++ end) (is_two ∙ ap (λ l. l ++ events) (is_one ∙ ap (λ l. l ++ 10 ∷ []) is_text ∙ header-ended names numbers))
    ∙ append_assoc (header_line names numbers) events end
    ∙ ap (λ l. header_line names numbers ++ l) (sym (joined events end))
    ∙ sym (joined (header_line names numbers) (events ⧺ end))

-- ---- lines

-- a finished line in front of what follows
first-finished : (output line behind : List ℕ) → slice_split is_line_end output ≡ line ∷ slice_split is_line_end behind → finished_lines output ≡ line ∷ finished_lines behind
first-finished output line behind cut = ap but_last cut ∙ but_last-cons line (slice_split is_line_end behind) (some_piece behind)

none-finished : (output : List ℕ) → slice_split is_line_end output ≡ output ∷ [] → finished_lines output ≡ []
none-finished output cut = ap but_last cut

-- one line more is put behind others
pub line-put : (start file last output line behind : List ℕ) → slice_split is_line_end output ≡ line ∷ slice_split is_line_end behind →
    file ++ each_text ended_line (finished_lines output) ≡ start → last ≡ (file ++ line) ++ 10 ∷ [] → last ++ each_text ended_line (finished_lines behind) ≡ start
line-put start file last output line behind cut so_far put =
    ap (λ l. l ++ each_text ended_line (finished_lines behind)) put
    ∙ append_assoc (file ++ line) (10 ∷ []) (each_text ended_line (finished_lines behind))
    ∙ append_assoc file line (10 ∷ each_text ended_line (finished_lines behind))
    ∙ ap (λ l. file ++ l) (sym (joined (ended_line line) (each_text ended_line (finished_lines behind)) ∙ ap (λ l. l ++ each_text ended_line (finished_lines behind)) (joined line (codes "\n"))
    ∙ append_assoc line (10 ∷ []) (each_text ended_line (finished_lines behind))))
    ∙ ap (λ ls. file ++ each_text ended_line ls) (sym (first-finished output line behind cut))
    ∙ so_far

-- all were put
pub lines-put : (start file output : List ℕ) → slice_split is_line_end output ≡ output ∷ [] → file ++ each_text ended_line (finished_lines output) ≡ start → file ≡ start
lines-put start file output cut so_far = sym (append-nil file) ∙ ap (λ ls. file ++ each_text ended_line ls) (sym (none-finished output cut)) ∙ so_far

-- the lines of events stand behind the first
pub events-behind : (output line behind : List ℕ) → slice_split is_line_end output ≡ line ∷ slice_split is_line_end behind → event_lines output ≡ finished_lines behind
events-behind output line behind cut = ap (drop 1) (first-finished output line behind cut)

pub no-events : (output : List ℕ) → slice_split is_line_end output ≡ output ∷ [] → event_lines output ≡ []
no-events output cut = ap (drop 1) (none-finished output cut)
