-- The file by the finished lines of a recorder is the text of the events that it has recorded.
use Rattle.std.proofs.Common.{◌≡◌, ℕ, Bool, true, false, List, [], ◌∷◌, ◌++◌, map, drop, append-nil, append_assoc, refl, sym, ap, ap₂, ◌∙◌, subst}
use Rattle.std.specs.Prelude.{codes}
use Rattle.std.specs.List.{concat, flat_map, slice_split}
use Rattle.std.proofs.lemmas.List.Splits.{slice_split_at, slice_split_none}
use Rattle.common_lemmas.proofs.Lists.{never_empty, first_same, rest_same}
use Rattle.ded_io.specs.Written.{◌⧺◌, each_text}
use Rattle.event_machine.specs.declared.Event.{Event}
use Rattle.event_machine.specs.declared.Event.TheVariants.{Z}
use Rattle.ada_tree.specs.PlainProgram.{PProgram}
use Rattle.syn_event.specs.Numbering.{Numbering}
use Rattle.task_model.specs.Steps.{line_end}
use Rattle.seq_file.specs.text_lines.Lines.{is_line_end}
use Rattle.seq_file.specs.Files.{SeqText, header_line, event_line}
use Rattle.run_laws.specs.collecting.Notes.{line, text}
use Rattle.run_laws.specs.collecting.Laws.{Unwritten, Written, with_end}
use Rattle.normal_laws.specs.runs.forms.Normalisable.{numbers_of}
use Rattle.normal_laws.specs.existence.Laws.{IsLegalOriginal}
use Rattle.collect_model.specs.Lines.{header_text}
use Rattle.collect_runs.specs.lines.Pieces.{front, lines_with}
use Rattle.collect_runs.specs.originals.Laws.{lines_for}
use Rattle.collect_runs.specs.files.Files.{HasLines, ended_line, end_line, file_of_lines}
use Rattle.collect_runs.specs.files.Laws.{RecordsMakeFiles}
use Rattle.collect_runs.proofs.lines.Texts.{lines-same}
use Rattle.collect_runs.proofs.files.Marks.{IsLine, line-front, front-line, header-line}

-- the lines of events, each without its end
abbrev bare_lines : List Event → List (List ℕ)
bare_lines events = map (λ (e : Event). concat (front e)) events

-- ---- cut at the line feeds

events-cut : (header part : List ℕ) → IsLine part → (events : List Event) → slice_split is_line_end (flat_map (line (lines_with header)) events ++ part) ≡ bare_lines events ++ part ∷ []
events-cut header part h [] = slice_split_none is_line_end part h
events-cut header part h (e ∷ events) =
    let bare : List ℕ = concat (front e) in
    let more : List ℕ = flat_map (line (lines_with header)) events in
    ap (slice_split is_line_end) (append_assoc (bare ++ line_end) more part ∙ append_assoc bare line_end (more ++ part))
    ∙ slice_split_at is_line_end bare 10 (more ++ part) (front-line e) refl
    ∙ ap (λ ls. bare ∷ ls) (events-cut header part h events)

text-cut : (header part : List ℕ) → IsLine header → IsLine part → (events : List Event) → slice_split is_line_end (text (lines_with header) events ++ part) ≡ header ∷ (bare_lines events ++ part ∷ [])
text-cut header part g h events =
    let more : List ℕ = flat_map (line (lines_with header)) events in
    ap (slice_split is_line_end) (append_assoc (header ++ line_end) more part ∙ append_assoc header line_end (more ++ part))
    ∙ slice_split_at is_line_end header 10 (more ++ part) g refl
    ∙ ap (λ ls. header ∷ ls) (events-cut header part h events)

-- the lists in front of two last members
fronts-same : {A : Type 0} (xs ys : List A) (x y : A) → xs ++ x ∷ [] ≡ ys ++ y ∷ [] → xs ≡ ys
fronts-same [] [] x y e = refl
fronts-same [] (z ∷ ys) x y e = never_empty ys y [] (sym (rest_same e))
fronts-same (w ∷ xs) [] x y e = never_empty xs x [] (rest_same e)
fronts-same (w ∷ xs) (z ∷ ys) x y e = ap₂ (λ (a : _) rest. a ∷ rest) (first_same e) (fronts-same xs ys x y (rest_same e))

-- ---- joined again

events-joined : (events : List Event) → each_text ended_line (bare_lines events) ≡ flat_map (line (lines_with [])) events
unfolding ◌⧺◌
events-joined [] = refl
events-joined (e ∷ events) = ap (λ l. (concat (front e) ++ line_end) ++ l) (events-joined events)

events-ended : (names : List (List ℕ)) (numbers : Numbering) (events : List Event) (ended : Bool) → SeqText names numbers events ++ end_line ended ≡ SeqText names numbers (with_end events ended)
unfolding ◌⧺◌
events-ended names numbers events false = append-nil (SeqText names numbers events) ∙ ap (λ es. SeqText names numbers es) (sym (append-nil events))
events-ended names numbers events true = append_assoc (header_line names numbers) (each_text event_line events) (codes "Z\n") ∙ ap (λ l. header_line names numbers ++ l) (go events)
  where
    go : (es : List Event) → each_text event_line es ++ codes "Z\n" ≡ each_text event_line (es ++ Z ∷ [])
    go [] = refl
    go (e ∷ es) = append_assoc (event_line e) (each_text event_line es) (codes "Z\n") ∙ ap (λ l. event_line e ++ l) (go es)

file-joined : (names : List (List ℕ)) (numbers : Numbering) (events : List Event) (ended : Bool) →
    header_line names numbers ⧺ (each_text ended_line (bare_lines events) ⧺ end_line ended) ≡ SeqText names numbers (with_end events ended)
unfolding ◌⧺◌
file-joined names numbers events ended =
    sym (append_assoc (header_line names numbers) (each_text ended_line (bare_lines events)) (end_line ended))
    ∙ ap (λ l. (header_line names numbers ++ l) ++ end_line ended) (events-joined events ∙ lines-same [] events)
    ∙ events-ended names numbers events ended

-- ---- by what was written

module _ (p : PProgram) (legal : IsLegalOriginal p) (output : List ℕ) (events : List Event) (lines : List (List ℕ)) (rest : List ℕ) (cut : HasLines output lines rest) (ended : Bool) where
  abbrev Goal : Type 0
  Goal = file_of_lines p.names (numbers_of p) lines ended ≡ SeqText p.names (numbers_of p) (with_end events ended)

  -- by the lines of events
  by-lines : drop 1 lines ≡ bare_lines events → Goal
  by-lines e = ap (λ ls. header_line p.names (numbers_of p) ⧺ (each_text ended_line ls ⧺ end_line ended)) e ∙ file-joined p.names (numbers_of p) events ended

  unwritten : output ≡ [] → events ≡ [] → Goal
  unwritten none empty =
      by-lines (ap (drop 1) (fronts-same lines [] rest [] (sym cut ∙ ap (slice_split is_line_end) none)) ∙ ap bare_lines (sym empty))

  written : (part : List ℕ) → output ≡ text (lines_for p) events ++ part → IsLine part → Goal
  written part is h =
      by-lines (ap (drop 1) (fronts-same lines (header_text p.names (numbers_of p) ∷ bare_lines events) rest part
      (sym cut ∙ ap (slice_split is_line_end) is ∙ text-cut (header_text p.names (numbers_of p)) part (header-line p legal) h events)))

pub records_make_files : RecordsMakeFiles
records_make_files p legal output events (Unwritten none empty) lines rest cut ended = unwritten p legal output events lines rest cut ended none empty
records_make_files p legal output events (Written part is (e, more, front_of)) lines rest cut ended =
    written p legal output events lines rest cut ended part is (line-front part more (subst IsLine (sym front_of) (front-line e)))
