-- The run loop: where it stands after each turn, and what it has come to as it leaves.
use Rattle.std.proofs.Common.{◌≡◌, ℕ, zero, suc, ◌+◌, ◌-◌, ◌<◌, ◌≤◌, List, [], ◌++◌, ap, sym, subst, ◌∙◌, refl, arith, add-one, zero-add, suc-add, append-nil, append_assoc, Option, Some, None}
use Rattle.std.specs.Prelude.{option_to_list, unwrap_or}
use Rattle.ded_io.specs.Counts.{Rose}
use Rattle.ded_io.specs.Written.{Began, appended}
use Rattle.ded_io.proofs.Writes.{appended-appended, appended-nil, began_then, joined}
use Rattle.ded_io.proofs.Members.{each_text-append}
use Rattle.event_machine.specs.declared.Action.{Action}
use Rattle.event_machine.specs.declared.Event.{Event}
use Rattle.syn_event.specs.Numbering.{Numbering}
use Rattle.task_model.specs.Machine.{MachineState, after, event_of}
use Rattle.task_model.specs.declared.picked_runs.report.RunEnd.{RunEnd}
use Rattle.task_model.specs.declared.picked_runs.report.RunEnd.TheVariants.{Turns}
use Rattle.interp.specs.declared.report.RunError.{RunError}
use Rattle.interp.specs.declared.report.RunError.TheVariants.{Memory, Sink}
use Rattle.task_model.specs.picked_runs.Picked.{Position, start_position, halted, picked_action, with_action, turned_by, turned, after_turns, picked, run_end}
use Rattle.task_model.specs.picked_runs.Lines.{lines_of, event_line}
use Rattle.interp.specs.inner.Chosen.{IsPicked, IsBroken}
use Rattle.interp.specs.CutOff.{IsCutOff}

-- After n turns, in each of which an action was made, the code's values are those of the picked run.
pub record Reached {C : Type 0} (word : C → ℕ) (next : C → C) (n : ℕ) (numbers : Numbering) (m0 : MachineState) (c0 : C) (m : MachineState) (c : C) (told0 told : Option (List ℕ)) : Type 0 where
  pub machine : m ≡ (picked word next n m0 c0).machine
  pub chooser : c ≡ (picked word next n m0 c0).chooser
  pub made : (picked word next n m0 c0).made ≡ n
  pub lines : told ≡ appended told0 (lines_of numbers (picked word next n m0 c0).events)

-- before the first turn
pub reached_none : {C : Type 0} (word : C → ℕ) (next : C → C) (numbers : Numbering) (m0 : MachineState) (c0 : C) (told0 : Option (List ℕ)) → Reached word next 0 numbers m0 c0 m0 c0 told0 told0
reached_none word next numbers m0 c0 told0 = record { machine = refl; chooser = refl; made = refl; lines = sym (appended-nil told0) }

-- the lines of events one behind the other
lines_of-append : (numbers : Numbering) (es fs : List Event) → lines_of numbers (es ++ fs) ≡ lines_of numbers es ++ lines_of numbers fs
lines_of-append numbers es fs = each_text-append Event (event_line numbers) es fs ∙ joined (lines_of numbers es) (lines_of numbers fs)

-- a turn at which the run goes on
turn_on : {C : Type 0} (word : C → ℕ) (next : C → C) (p : Position C) (o : Option RunEnd) → o ≡ None → turned_by word next p o ≡ with_action next p (picked_action p.machine (word p.chooser))
turn_on word next p o e = ap (λ x. turned_by word next p x) e

-- a turn at which it has ended by itself
turn_off : {C : Type 0} (word : C → ℕ) (next : C → C) (p : Position C) (o : Option RunEnd) (end : RunEnd) → o ≡ Some end → turned_by word next p o ≡ p
turn_off word next p o end e = ap (λ x. turned_by word next p x) e

-- the position behind one more turn
next_position : {C : Type 0} (word : C → ℕ) (next : C → C) (n : ℕ) (numbers : Numbering) (m0 : MachineState) (c0 : C) (m : MachineState) (c c' : C) (action : Action) (told0 told : Option (List ℕ)) →
    Reached word next n numbers m0 c0 m c told0 told → IsPicked word next m c c' action →
    picked word next (suc n) m0 c0 ≡ with_action next (picked word next n m0 c0) action
next_position word next n numbers m0 c0 m c c' action told0 told at turn =
    let p : Position _ = picked word next n m0 c0 in
    let off : halted p.machine ≡ None = ap (λ x. halted x) (sym at.machine) ∙ turn.goes_on in
    let same : action ≡ picked_action p.machine (word p.chooser)
    = turn.picked ∙ ap (λ x. picked_action x (word c)) at.machine ∙ ap (λ x. picked_action p.machine (word x)) at.chooser in
    turn_on word next p (halted p.machine) off ∙ ap (λ a. with_action next p a) (sym same)

-- one more turn
pub reached_more : {C : Type 0} (word : C → ℕ) (next : C → C) (n : ℕ) (numbers : Numbering) (m0 : MachineState) (c0 : C) (m m' : MachineState) (c c' : C) (action : Action) (told0 told told' : Option (List ℕ)) →
    Reached word next n numbers m0 c0 m c told0 told → IsPicked word next m c c' action → m' ≡ after m action →
    told' ≡ appended told (lines_of numbers (option_to_list (event_of m action))) →
    Reached word next (n + 1) numbers m0 c0 m' c' told0 told'
reached_more word next n numbers m0 c0 m m' c c' action told0 told told' at turn made line =
    let p : Position _ = picked word next n m0 c0 in
    let step : picked word next (suc n) m0 c0 ≡ with_action next p action = next_position word next n numbers m0 c0 m c c' action told0 told at turn in
    let q : Reached word next (suc n) numbers m0 c0 m' c' told0 told' = record {
      machine = made ∙ ap (λ x. after x action) at.machine ∙ ap (λ (x : Position _). x.machine) (sym step);
      chooser = turn.chooser ∙ ap next at.chooser ∙ ap (λ (x : Position _). x.chooser) (sym step);
      made = ap (λ (x : Position _). x.made) step ∙ ap (λ k. k + 1) at.made ∙ add-one n;
      lines =
          line
          ∙ ap (λ t. appended t (lines_of numbers (option_to_list (event_of m action)))) at.lines
          ∙ appended-appended told0 (lines_of numbers p.events) (lines_of numbers (option_to_list (event_of m action)))
          ∙ ap (λ x. appended told0 (lines_of numbers p.events ++ lines_of numbers (option_to_list (event_of x action)))) at.machine
          ∙ ap (λ x. appended told0 x) (sym (lines_of-append numbers p.events (option_to_list (event_of p.machine action))))
          ∙ ap (λ (x : Position _). appended told0 (lines_of numbers x.events)) (sym step);
    } in
    subst (λ k. Reached word next k numbers m0 c0 m' c' told0 told') (sym (add-one n)) q

-- further turns of a run that has ended by itself change nothing
pub after_turns-halted : {C : Type 0} (word : C → ℕ) (next : C → C) (k : ℕ) (p : Position C) (end : RunEnd) → halted p.machine ≡ Some end → after_turns word next k p ≡ p
after_turns-halted word next zero p end h = refl
after_turns-halted word next (suc k) p end h =
    ap (λ q. turned word next q) (after_turns-halted word next k p end h) ∙ turn_off word next p (halted p.machine) end h

-- turns one behind the other
after_turns-add : {C : Type 0} (word : C → ℕ) (next : C → C) (k n : ℕ) (p : Position C) → after_turns word next (k + n) p ≡ after_turns word next k (after_turns word next n p)
after_turns-add word next zero n p = ap (λ x. after_turns word next x p) (zero-add n)
after_turns-add word next (suc k) n p =
    ap (λ x. after_turns word next x p) (suc-add k n) ∙ ap (λ q. turned word next q) (after_turns-add word next k n p)

picked-upto : {C : Type 0} (word : C → ℕ) (next : C → C) (i n : ℕ) (m0 : MachineState) (c0 : C) → i ≤ n → picked word next n m0 c0 ≡ after_turns word next (n - i) (picked word next i m0 c0)
picked-upto word next i n m0 c0 le =
    let e : n ≡ (n - i) + i = omega arith in
    ap (λ x. after_turns word next x (start_position m0 c0)) e ∙ after_turns-add word next (n - i) i (start_position m0 c0)

-- a run that has ended by itself before its turns were spent
pub picked-halted : {C : Type 0} (word : C → ℕ) (next : C → C) (i n : ℕ) (numbers : Numbering) (m0 : MachineState) (c0 : C) (m : MachineState) (c : C) (told0 told : Option (List ℕ)) (end : RunEnd) →
    Reached word next i numbers m0 c0 m c told0 told → i ≤ n → halted m ≡ Some end → picked word next n m0 c0 ≡ picked word next i m0 c0
picked-halted word next i n numbers m0 c0 m c told0 told end at le h =
    picked-upto word next i n m0 c0 le
    ∙ after_turns-halted word next (n - i) (picked word next i m0 c0) end (ap (λ x. halted x) (sym at.machine) ∙ h)

-- what a turn adds to the events
turned_events : {C : Type 0} (word : C → ℕ) (next : C → C) (p : Position C) (o : Option RunEnd) → (rest : List Event) × ((turned_by word next p o).events ≡ p.events ++ rest)
turned_events word next p (Some end) = ([], sym (append-nil p.events))
turned_events word next p None = (option_to_list (event_of p.machine (picked_action p.machine (word p.chooser))), refl)

-- more turns only add events
more_events : {C : Type 0} (word : C → ℕ) (next : C → C) (k : ℕ) (p : Position C) → (rest : List Event) × ((after_turns word next k p).events ≡ p.events ++ rest)
more_events word next zero p = ([], sym (append-nil p.events))
more_events word next (suc k) p =
    let (es, e) = more_events word next k p in
    let (fs, f) = turned_events word next (after_turns word next k p) (halted (after_turns word next k p).machine) in
    (es ++ fs, f ∙ ap (λ x. x ++ fs) e ∙ append_assoc p.events es fs)

picked_events : {C : Type 0} (word : C → ℕ) (next : C → C) (i n : ℕ) (m0 : MachineState) (c0 : C) → i ≤ n →
    (rest : List Event) × ((picked word next n m0 c0).events ≡ (picked word next i m0 c0).events ++ rest)
picked_events word next i n m0 c0 le =
    let (rest, e) = more_events word next (n - i) (picked word next i m0 c0) in
    (rest, ap (λ (x : Position _). x.events) (picked-upto word next i n m0 c0 le) ∙ e)

-- a front of the lines of a front of the events is a front of all lines
began_more : (numbers : Numbering) (told0 told : Option (List ℕ)) (es rest all : List Event) → all ≡ es ++ rest → Began told0 told (lines_of numbers es) → Began told0 told (lines_of numbers all)
began_more numbers told0 told es rest all e (front, behind, is_front, is_new) = (
  front,
  behind ++ lines_of numbers rest,
  ap (λ x. lines_of numbers x) e ∙ lines_of-append numbers es rest ∙ ap (λ x. x ++ lines_of numbers rest) is_front ∙ append_assoc front behind (lines_of numbers rest),
  is_new,
)

-- the run is cut off between two turns, for want of memory
pub cut_between : {C : Type 0} (word : C → ℕ) (next : C → C) (i n : ℕ) (numbers : Numbering) (m0 : MachineState) (c0 : C) (m m' : MachineState) (c : C) (told0 told told' : Option (List ℕ)) (faults faults' : ℕ) →
    Reached word next i numbers m0 c0 m c told0 told → i ≤ n → m' ≡ m → told' ≡ told → faults' ≡ faults → IsCutOff word next n numbers m0 c0 m' told0 told' faults faults' Memory
cut_between word next i n numbers m0 c0 m m' c told0 told told' faults faults' at le same_machine same_told same_faults =
    let (rest, e) = picked_events word next i n m0 c0 le in
    record {
      actions = i;
      within = le;
      made = at.made;
      machine = same_machine ∙ at.machine;
      own_lines = (same_told ∙ at.lines, same_faults);
      lines = (
        lines_of numbers (picked word next i m0 c0).events,
        lines_of numbers rest,
        ap (λ x. lines_of numbers x) e ∙ lines_of-append numbers (picked word next i m0 c0).events rest,
        same_told ∙ at.lines,
      );
    }

-- a front of a line behind the lines of earlier events
at_line : (told0 told told' : Option (List ℕ)) (earlier line : List ℕ) → told ≡ appended told0 earlier → Began told told' line →
    (front : List ℕ) × (rest : List ℕ) × (line ≡ front ++ rest) × (told' ≡ appended told0 (earlier ++ front))
at_line told0 told told' earlier line before (front, rest, is_front, is_new) =
    (front, rest, is_front, is_new ∙ ap (λ t. appended t front) before ∙ appended-appended told0 earlier front)

-- the run is cut off by a write that failed
cut_at_line : {C : Type 0} (word : C → ℕ) (next : C → C) (i n : ℕ) (numbers : Numbering) (m0 : MachineState) (c0 : C) (m m' : MachineState) (c c' : C) (action : Action) (told0 told told' : Option (List ℕ)) (faults faults' : ℕ) →
    Reached word next i numbers m0 c0 m c told0 told → IsPicked word next m c c' action → m' ≡ after m action → Began told told' (lines_of numbers (option_to_list (event_of m action))) → Rose faults faults' → i < n →
    IsCutOff word next n numbers m0 c0 m' told0 told' faults faults' Sink
cut_at_line word next i n numbers m0 c0 m m' c c' action told0 told told' faults faults' at turn made begun rose less =
    let p : Position _ = picked word next i m0 c0 in
    let step : picked word next (suc i) m0 c0 ≡ with_action next p action = next_position word next i numbers m0 c0 m c c' action told0 told at turn in
    let (rest, e) = picked_events word next (suc i) n m0 c0 (omega arith) in
    let es : List Event = p.events ++ option_to_list (event_of p.machine action) in
    let line : List ℕ = lines_of numbers (option_to_list (event_of p.machine action)) in
    let begun_line : Began told told' line = subst (λ x. Began told told' (lines_of numbers (option_to_list (event_of x action)))) at.machine begun in
    let lines : Began told0 told' (lines_of numbers (picked word next n m0 c0).events) =
    began_more numbers told0 told' es rest (picked word next n m0 c0).events
    (e ∙ ap (λ (x : Position _). x.events ++ rest) step)
    (subst (λ x. Began told0 told' x) (sym (lines_of-append numbers p.events (option_to_list (event_of p.machine action))))
    (began_then told0 told told' (lines_of numbers p.events) line at.lines begun_line)) in
    let (front, behind, is_front, is_new) = at_line told0 told told' (lines_of numbers p.events) line at.lines begun_line in
    record {
      actions = suc i;
      within = omega arith;
      made = ap (λ (x : Position _). x.made) step ∙ ap (λ k. k + 1) at.made ∙ add-one i;
      machine = made ∙ ap (λ x. after x action) at.machine ∙ ap (λ (x : Position _). x.machine) (sym step);
      own_lines = (
        record {
          earlier = i;
          last = sym (add-one i);
          front = front;
          rest = behind;
          lines =
              ap (λ (x : Position _). lines_of numbers x.events) step ∙ lines_of-append numbers p.events (option_to_list (event_of p.machine action))
              ∙ ap (λ x. lines_of numbers p.events ++ x) is_front;
          written = is_new;
        },
        rose,
      );
      lines = lines;
    }

-- the run is cut off in a turn
pub cut_within : {C : Type 0} (word : C → ℕ) (next : C → C) (i n : ℕ) (numbers : Numbering) (m0 : MachineState) (c0 : C) (m m' : MachineState) (c c' : C) (action : Action) (told0 told told' : Option (List ℕ)) (faults0 faults faults' : ℕ) (error : RunError) →
    Reached word next i numbers m0 c0 m c told0 told → IsPicked word next m c c' action → IsBroken numbers m action m' told told' faults faults' error → faults ≡ faults0 → i < n →
    IsCutOff word next n numbers m0 c0 m' told0 told' faults0 faults' error
cut_within word next i n numbers m0 c0 m m' c c' action told0 told told' faults0 faults faults' Memory at turn broken still less =
    cut_between word next i n numbers m0 c0 m m' c told0 told told' faults0 faults' at (omega arith) broken.0 broken.1 (broken.2 ∙ still)
cut_within word next i n numbers m0 c0 m m' c c' action told0 told told' faults0 faults faults' Sink at turn broken still less =
    cut_at_line word next i n numbers m0 c0 m m' c c' action told0 told told' faults0 faults' at turn broken.0 broken.1 (subst (λ f. Rose f faults') still broken.2) less

-- What the code answers, as the run has ended by itself in turn i of n: the values of the run of n turns.
pub record Stopped {C : Type 0} (word : C → ℕ) (next : C → C) (n : ℕ) (numbers : Numbering) (m0 : MachineState) (c0 : C) (m : MachineState) (c : C) (told0 told : Option (List ℕ)) (made : ℕ) (end : RunEnd) : Type 0 where
  pub machine : m ≡ (picked word next n m0 c0).machine
  pub chooser : c ≡ (picked word next n m0 c0).chooser
  pub made_is : made ≡ (picked word next n m0 c0).made
  pub end_is : end ≡ run_end (picked word next n m0 c0)
  pub lines : told ≡ appended told0 (lines_of numbers (picked word next n m0 c0).events)

pub stopped : {C : Type 0} (word : C → ℕ) (next : C → C) (i n : ℕ) (numbers : Numbering) (m0 : MachineState) (c0 : C) (m : MachineState) (c c' : C) (told0 told : Option (List ℕ)) (end : RunEnd) →
    Reached word next i numbers m0 c0 m c told0 told → i ≤ n → halted m ≡ Some end → c' ≡ c → Stopped word next n numbers m0 c0 m c' told0 told i end
stopped word next i n numbers m0 c0 m c c' told0 told end at le h same =
    let all : picked word next n m0 c0 ≡ picked word next i m0 c0 = picked-halted word next i n numbers m0 c0 m c told0 told end at le h in
    record {
      machine = at.machine ∙ ap (λ (x : Position _). x.machine) (sym all);
      chooser = same ∙ at.chooser ∙ ap (λ (x : Position _). x.chooser) (sym all);
      made_is = sym at.made ∙ ap (λ (x : Position _). x.made) (sym all);
      end_is =
          sym (ap (λ x. unwrap_or x Turns) (ap (λ x. halted x) (sym at.machine) ∙ h)) ∙ ap (λ (x : Position _). run_end x) (sym all);
      lines = at.lines ∙ ap (λ (x : Position _). appended told0 (lines_of numbers x.events)) (sym all);
    }
