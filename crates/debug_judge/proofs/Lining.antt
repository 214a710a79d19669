-- The lines of a sequence that are read one after the other, as far as the judge is given their events.
use Rattle.std.proofs.Common.{◌≡◌, ℕ, ◌+◌, Bool, true, false, cond, List, [], ◌∷◌, ◌++◌, length, Option, Some, None, refl, sym, ap, ◌∙◌, subst, arith, inl, inr, append_assoc, append-nil, length-append}
use Rattle.std.specs.Prelude.{All, ◌||◌, option_and_then, unwrap_or}
use Rattle.std.proofs.lemmas.Bool.{cases_Bool}
use Rattle.std.proofs.lemmas.List.Elements.{All-take}
use Rattle.std.proofs.Math.Seq.{take-append_seam}
use Rattle.ded_io.specs.Written.{◌⧺◌, each_text}
use Rattle.event_machine.specs.declared.Event.{Event}
use Rattle.event_machine.specs.Tallies.{HasNoEnd}
use Rattle.seq_file.specs.text_lines.Lines.{first_line}
use Rattle.syn_event.specs.Numbering.{Numbering}
use Rattle.syn_event.specs.EventText.{event_text}
use Rattle.seq_file.specs.declared.errors.SeqError.{SeqError}
use Rattle.seq_file.specs.declared.errors.SeqError.TheVariants.{BadNumber, TooMany, Memory}
use Rattle.seq_file.specs.declared.stepping.SeqLines.{SeqLines}
use Rattle.seq_file.specs.Files.{most_events, header_line, event_line, SeqText, is_end, has_ended, NothingFollowsEnd, IsReadBehind, HasFirstFault, fault_of_event, line_fault, open_fault}
use Rattle.seq_file.specs.Known.{is_known}
use Rattle.seq_file.specs.Lines.{event_of_line}
use Rattle.seq_file.specs.Stepping.{StandsBehind, IsRefusedBehind}
use Rattle.task_model.specs.Machine.{ProgramWithInputs}
use Rattle.feasible.proofs.Fronts.{no_end_front}
use Rattle.debug_judge.specs.declared.judged_events.LinesVerdict.{LinesVerdict}
use Rattle.debug_judge.specs.JudgedLines.{IsFoundOf, behind_last}
use Rattle.debug_judge.proofs.Giving.{nothing_follows}

-- so many lines were read, and this is found of their events
pub record IsJudgedTo (setup : ProgramWithInputs) (numbers : Numbering) (bound : ℕ) (bytes : List ℕ) (n : ℕ) (lines : SeqLines) (found : LinesVerdict) : Type 0 where
  pub events : List Event
  pub read : StandsBehind bytes numbers setup.program.names events lines
  pub found_of : IsFoundOf setup numbers bound events found
  pub so_far : length events ≡ n

-- ---- events with one more

not_empty : (A : Type 0) (xs : List Event) (y : Event) → xs ++ y ∷ [] ≡ [] → A
not_empty A xs y h = absurd (omega (arith, ap length h, length-append xs (y ∷ [])))

-- where nothing follows the end, it is not among the events before another
front_goes_on : (xs : List Event) (y : Event) → NothingFollowsEnd (xs ++ y ∷ []) → NothingFollowsEnd xs × (has_ended xs ≡ false)
front_goes_on [] y h = (tt, refl)
front_goes_on (x ∷ xs) y h =
    let rest = front_goes_on xs y h.1 in (
      (λ ends. not_empty (xs ≡ []) xs y (h.0 ends), rest.0),
      elim (cases_Bool (is_end x)) [
        | inl ends ↦ not_empty (has_ended (x ∷ xs) ≡ false) xs y (h.0 ends)
        | inr goes ↦ ap (λ (b : Bool). b || has_ended xs) goes ∙ rest.1
      ],
    )

pub no_end_before : (xs : List Event) (y : Event) → NothingFollowsEnd (xs ++ y ∷ []) → HasNoEnd xs
no_end_before xs y h =
    subst HasNoEnd (take-append_seam xs (y ∷ []))
    (no_end_front (xs ++ y ∷ []) (length xs) (omega (arith, length-append xs (y ∷ []))) (nothing_follows (xs ++ y ∷ []) h))

front_known : (numbers : Numbering) (xs : List Event) (y : Event) → All (λ event. is_known numbers event ≡ true) (xs ++ y ∷ []) → All (λ event. is_known numbers event ≡ true) xs
front_known numbers xs y h =
    subst (All (λ event. is_known numbers event ≡ true)) (take-append_seam xs (y ∷ [])) (All-take (λ event. is_known numbers event ≡ true) (length xs) (xs ++ y ∷ []) h)

-- the lines of events, and one line more
lines_more : (xs : List Event) (y : Event) → each_text event_line (xs ++ y ∷ []) ≡ each_text event_line xs ++ event_line y
unfolding ◌⧺◌
lines_more [] y = append-nil (event_line y)
lines_more (x ∷ xs) y = ap (λ t. event_line x ++ t) (lines_more xs y) ∙ sym (append_assoc (event_line x) (each_text event_line xs) (event_line y))

text_more : (names : List (List ℕ)) (numbers : Numbering) (xs : List Event) (y : Event) (rest : List ℕ) → SeqText names numbers (xs ++ y ∷ []) ++ rest ≡ SeqText names numbers xs ++ (event_line y ++ rest)
unfolding ◌⧺◌
text_more names numbers xs y rest =
    let h : List ℕ = header_line names numbers in
    let before : List ℕ = each_text event_line xs in
    ap (λ t. (h ++ t) ++ rest) (lines_more xs y)
    ∙ append_assoc h (before ++ event_line y) rest
    ∙ ap (λ t. h ++ t) (append_assoc before (event_line y) rest)
    ∙ sym (append_assoc h before (event_line y ++ rest))

line_is_some : (y : Event) (rest : List ℕ) → event_line y ++ rest ≡ [] → ⊥
unfolding ◌⧺◌
line_is_some y rest h = omega (arith, ap length h, length-append (event_text y ++ 10 ∷ []) rest, length-append (event_text y) (10 ∷ []))

-- ---- behind the last event that a sequence may have

-- there is one more
pub one_too_many : (bytes : List ℕ) (numbers : Numbering) (names : List (List ℕ)) (events : List Event) (e : Event) (rest : List ℕ) → IsReadBehind bytes numbers names (events ++ e ∷ []) rest → length events ≡ most_events →
    HasFirstFault bytes numbers names (TooMany most_events)
one_too_many bytes numbers names events e rest read most =
    let front = front_goes_on events e read.end in
    inr (record {
      events = events;
      rest = event_line e ++ rest;
      text = read.text ∙ text_more names numbers events e rest;
      fit = record { known = front_known numbers events e read.known; end = front.0; few = omega arith };
      more = line_is_some e rest;
      fault =
          ap (λ (b : Bool). line_fault numbers b (length events) (event_line e ++ rest)) front.1
          ∙ ap (λ (n : ℕ). line_fault numbers false n (event_line e ++ rest)) most;
    })

-- an event that is not read has one of two faults
too_many_behind : (numbers : Numbering) (line : ℕ) (o : Option Event) (error : SeqError) → fault_of_event numbers line o ≡ Some error → TooMany most_events ≡ behind_last error
too_many_behind numbers line None error h = ap (λ (x : Option SeqError). behind_last (unwrap_or x Memory)) h
too_many_behind numbers line (Some e) error h = elim (cases_Bool (is_known numbers e)) [
  | inl known ↦ ap (λ (x : Option SeqError). behind_last (unwrap_or x Memory)) (sym (ap (λ (b : Bool). cond b None (Some (BadNumber line))) known) ∙ h)
  | inr unknown ↦ ap (λ (x : Option SeqError). behind_last (unwrap_or x Memory)) (sym (ap (λ (b : Bool). cond b None (Some (BadNumber line))) unknown) ∙ h)
]

last_fault : (numbers : Numbering) (ended : Bool) (rest : List ℕ) (error : SeqError) → open_fault numbers ended most_events rest ≡ Some error → line_fault numbers ended most_events rest ≡ Some (behind_last error)
last_fault numbers true rest error h = ap (λ (x : Option SeqError). Some (behind_last (unwrap_or x Memory))) h
last_fault numbers false rest error h = ap (λ (x : SeqError). Some x) (too_many_behind numbers (most_events + 2) (option_and_then event_of_line (first_line rest)) error h)

-- the next line is bad whatever the number of events
pub bad_behind_last : (bytes : List ℕ) (numbers : Numbering) (names : List (List ℕ)) (events : List Event) (error : SeqError) → IsRefusedBehind bytes numbers names events error → length events ≡ most_events →
    HasFirstFault bytes numbers names (behind_last error)
bad_behind_last bytes numbers names events error refused most = inr (record {
  events = events;
  rest = refused.rest;
  text = refused.read.text;
  fit = record { known = refused.read.known; end = refused.read.end; few = omega arith };
  more = refused.more;
  fault =
      ap (λ (n : ℕ). line_fault numbers (has_ended events) n refused.rest) most
      ∙ last_fault numbers (has_ended events) refused.rest error (sym (ap (λ (n : ℕ). open_fault numbers (has_ended events) n refused.rest) most) ∙ refused.fault);
})
