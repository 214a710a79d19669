-- The pieces of lines make up the lines of a sequence file.
use Rattle.std.proofs.Common.{◌≡◌, ℕ, suc, List, [], ◌∷◌, ◌++◌, append-nil, append_assoc, refl, ap, ap₂, ◌∙◌}
use Rattle.std.specs.Prelude.{ℤ, pos, negsuc, codes, decimal}
use Rattle.std.specs.List.{concat, flat_map}
use Rattle.std.specs.Fmt.{signed_decimal}
use Rattle.event_machine.specs.declared.Event.{Event}
use Rattle.event_machine.specs.declared.Event.TheVariants.{R, E, S, D, C, T, F, X, B, Z}
use Rattle.ded_io.specs.Written.{◌⧺◌, each_text}
use Rattle.ada_value.specs.Texts.{integer_text}
use Rattle.syn_event.specs.EventText.{event_text}
use Rattle.syn_event.specs.Numbering.{Numbering, original_tasks, original_entries}
use Rattle.syn_event.specs.DeclaredTasks.{text_of}
use Rattle.seq_file.specs.Files.{header_line, event_line}
use Rattle.task_model.specs.Steps.{line_end}
use Rattle.run_laws.specs.collecting.Notes.{line}
use Rattle.collect_model.specs.Lines.{header_text}
use Rattle.collect_runs.specs.lines.Pieces.{call_front, front, lines_with}
use Rattle.collect_runs.specs.lines.Laws.{RecordsAreTexts, RecordsAreFiles}

integer-same : (z : ℤ) → integer_text z ++ [] ≡ signed_decimal z
integer-same (pos n) = append-nil (decimal n)
integer-same (negsuc n) = append-nil (codes "-" ++ decimal (suc n))

-- ---- events

call-same : (letter : List ℕ) (c e : ℕ) (i : ℤ) → concat (call_front letter c e i) ≡ letter ++ (codes " " ++ (decimal c ++ (codes " " ++ (decimal e ++ (codes " " ++ signed_decimal i)))))
call-same letter c e i = ap (λ (x : List ℕ). letter ++ (codes " " ++ (decimal c ++ (codes " " ++ (decimal e ++ (codes " " ++ x)))))) (integer-same i)

front-same : (e : Event) → concat (front e) ≡ event_text e
unfolding ◌⧺◌
front-same (R c e i) = call-same (codes "R") c e i
front-same (E a) = ap (λ (x : List ℕ). codes "E " ++ x) (append-nil (decimal a))
front-same (S a) = ap (λ (x : List ℕ). codes "S " ++ x) (append-nil (decimal a))
front-same (D a k) = ap (λ (x : List ℕ). codes "D " ++ (decimal a ++ (codes " " ++ x))) (append-nil (decimal k))
front-same (C c e i) = call-same (codes "C") c e i
front-same (T c e i) = call-same (codes "T") c e i
front-same (F c e i) = call-same (codes "F") c e i
front-same (X a) = ap (λ (x : List ℕ). codes "X " ++ x) (append-nil (decimal a))
front-same (B t x) = ap (λ (y : List ℕ). codes "B " ++ (decimal t ++ (codes " " ++ y))) (append-nil (decimal x))
front-same Z = refl

line-same : (header : List ℕ) (e : Event) → line (lines_with header) e ≡ event_line e
unfolding ◌⧺◌
line-same header e = ap (λ (x : List ℕ). x ++ line_end) (front-same e)

pub lines-same : (header : List ℕ) (events : List Event) → flat_map (line (lines_with header)) events ≡ each_text event_line events
unfolding ◌⧺◌
lines-same header [] = refl
lines-same header (e ∷ events) = ap₂ (λ (x y : List ℕ). x ++ y) (line-same header e) (lines-same header events)

-- ---- the header

header-same : (names : List (List ℕ)) (numbers : Numbering) → header_text names numbers ++ line_end ≡ header_line names numbers
unfolding ◌⧺◌
header-same names numbers =
    let main : List ℕ = text_of names numbers.main in
    let tasks : List ℕ = decimal (original_tasks numbers) in
    let entries : List ℕ = decimal (original_entries numbers) in
    let start : List ℕ = codes "ded-seq 1 " in
    let blank : List ℕ = codes " " in
    append_assoc ((((start ++ main) ++ blank) ++ tasks) ++ blank) entries line_end
    ∙ append_assoc (((start ++ main) ++ blank) ++ tasks) blank (entries ++ line_end)
    ∙ append_assoc ((start ++ main) ++ blank) tasks (blank ++ (entries ++ line_end))
    ∙ append_assoc (start ++ main) blank (tasks ++ (blank ++ (entries ++ line_end)))
    ∙ append_assoc start main (blank ++ (tasks ++ (blank ++ (entries ++ line_end))))

pub records_are_texts : RecordsAreTexts
unfolding ◌⧺◌
records_are_texts names numbers events = ap₂ (λ (x y : List ℕ). x ++ y) (header-same names numbers) (lines-same (header_text names numbers) events)

pub records_are_files : RecordsAreFiles
records_are_files names numbers events fit = record { text = records_are_texts names numbers events; fit = fit }
