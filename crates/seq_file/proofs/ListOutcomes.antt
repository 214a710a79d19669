-- What comes of a file by tasks: lists, or its first fault, and never two of these.
use Rattle.std.proofs.Common.{◌≡◌, ℕ, zero, suc, ◌+◌, ◌-◌, ◌^◌, ◌<◌, ◌≤◌, Bool, true, false, cond, List, [], ◌∷◌, ◌++◌, length, None, Some, Option, Result, Ok, Err, refl, ap, ◌∙◌, sym, arith, decimal, All, inl, inr, append-nil}
use Rattle.std.specs.Prelude.{◌&&◌, ◌==◌, not, unwrap_or, option_and_then}
use Rattle.std.proofs.lemmas.Bool.{lt-ltb, le-ltb}
use Rattle.std.proofs.lemmas.List.Elements.{All-head, All-tail}
use Rattle.std.proofs.lemmas.List.Sums.{sum_by-cons}
use Rattle.event_machine.specs.declared.Event.{Event}
use Rattle.syn_event.specs.Numbering.{Numbering}
use Rattle.syn_event.specs.DeclaredTasks.{text_of}
use Rattle.seq_file.specs.text_lines.Lines.{first_line}
use Rattle.seq_file.specs.text_lines.Numerals.{natural}
use Rattle.seq_file.proofs.text_lines.Marking.{right_of}
use Rattle.seq_file.proofs.text_lines.Spelling.{natural-of_decimal}
use Rattle.seq_file.specs.declared.errors.SeqError.{SeqError}
use Rattle.seq_file.specs.declared.errors.SeqError.TheVariants.{BadLine, AfterEnd}
use Rattle.seq_file.specs.Short.{IsShort}
use Rattle.seq_file.specs.Lines.{is_upper_name}
use Rattle.seq_file.specs.Files.{is_end, has_ended}
use Rattle.seq_file.specs.Lists.{most_listed, task_line, lists_text, list_count, listed, list_header_line, ListText, IsListFit, ListReads, list_header_fault, asked_by_line, begins_list, next_list_fault, next_event_fault, last_ended, line_behind, IsBehindLists, IsInList, FailsBehindLists, FailsInList, HasFirstListFault}
use Rattle.seq_file.proofs.Filing.{lines}
use Rattle.seq_file.proofs.Heading.{list_header-sound, list_header-cut, tasks-small}
use Rattle.seq_file.proofs.TaskLines.{task-cut, asked-there, begins-there}
use Rattle.seq_file.proofs.ListTexts.{text-behind, lists-cons}
use Rattle.seq_file.proofs.ListTaking.{fail_or, event_at, behind_line, with_events, take_events, beyond, beyond-is, events-taken}
use Rattle.common_lemmas.proofs.Truth.{clash}

abbrev with_lists : List (List Event) → Result (List (List Event)) SeqError → Result (List (List Event)) SeqError
with_lists lists (Ok more) = Ok (lists ++ more)
with_lists lists (Err error) = Err error

abbrev result_or : List (List Event) → Result (List (List Event)) SeqError → List (List Event)
result_or other (Ok lists) = lists
result_or other (Err error) = other

abbrev error_or : SeqError → Result (List (List Event)) SeqError → SeqError
error_or other (Ok lists) = other
error_or other (Err error) = error

abbrev failed : Result (List (List Event)) SeqError → Bool
failed (Ok lists) = false
failed (Err error) = true

abbrev then_lists : Result (List Event × List ℕ) SeqError → (List Event → List ℕ → Result (List (List Event)) SeqError) → Result (List (List Event)) SeqError
then_lists (Ok (events, rest)) go = go events rest
then_lists (Err error) go = Err error

abbrev asked_at : ℕ → List ℕ → ℕ
asked_at task rest = unwrap_or (option_and_then (asked_by_line task) (first_line rest)) 0

-- so many lists more, the first that of this task
abbrev take_lists : Numbering → ℕ → ℕ → Bool → ℕ → ℕ → List ℕ → Result (List (List Event)) SeqError
take_lists numbers zero task ended before line rest = fail_or (next_list_fault (list_count numbers) task ended line rest) (Ok [])
take_lists numbers (suc more) task ended before line rest =
    fail_or (next_list_fault (list_count numbers) task ended line rest)
    (then_lists (take_events numbers task (asked_at task rest) false before (line + 1) (behind_line rest))
    (λ events behind. with_lists (events ∷ []) (take_lists numbers more (task + 1) (has_ended events) (before + length events) (line + length events + 1) behind)))

with-both : (x : List Event) (xs : List (List Event)) (r : Result (List (List Event)) SeqError) → with_lists (x ∷ []) (with_lists xs r) ≡ with_lists (x ∷ xs) r
with-both x xs (Ok more) = refl
with-both x xs (Err error) = refl

with-none : (r : Result (List (List Event)) SeqError) → r ≡ with_lists [] r
with-none (Ok more) = refl
with-none (Err error) = refl

-- a task with a list has a number of 64 bits
task-small : (numbers : Numbering) → IsShort numbers → (task : ℕ) → task < list_count numbers → task < 2 ^ 64
task-small numbers short task h = omega (arith, h, tasks-small numbers short)

head-sound : (numbers : Numbering) → IsShort numbers → (task line : ℕ) (ended : Bool) (word rest : List ℕ) (n : ℕ) → natural word ≡ Some n →
    task < list_count numbers →
    next_list_fault (list_count numbers) task ended line (task_line task word ++ rest) ≡ None
head-sound numbers short task line ended word rest n asks next =
    let text : List ℕ = task_line task word ++ rest in
    let other : Option SeqError = cond (ended && not (length text == 0)) (Some (AfterEnd line)) (Some (BadLine line)) in
    ap (λ b. cond b (cond (begins_list task text) None other) (cond (length text == 0) None (Some (AfterEnd line)))) (lt-ltb task (list_count numbers) next)
    ∙ ap (λ b. cond b None other) (begins-there task word rest n (task-small numbers short task next) asks)

asked-is : (numbers : Numbering) → IsShort numbers → (task : ℕ) (word rest : List ℕ) (n : ℕ) → natural word ≡ Some n → task < list_count numbers →
    asked_at task (task_line task word ++ rest) ≡ n
asked-is numbers short task word rest n asks next = ap (λ o. unwrap_or o 0) (asked-there task word rest n (task-small numbers short task next) asks)

head-behind : (numbers : Numbering) → IsShort numbers → (task : ℕ) (word rest : List ℕ) (n : ℕ) → natural word ≡ Some n → task < list_count numbers →
    behind_line (task_line task word ++ rest) ≡ rest
head-behind numbers short task word rest n asks next = ap right_of (task-cut task word rest n (task-small numbers short task next) asks)

-- where a list begins, its events are taken, and then what is left
list-begun : (numbers : Numbering) → IsShort numbers → (more task before line : ℕ) (ended : Bool) (word rest : List ℕ) (n : ℕ) → natural word ≡ Some n →
    task < list_count numbers →
    take_lists numbers (suc more) task ended before line (task_line task word ++ rest)
    ≡ then_lists (take_events numbers task n false before (line + 1) rest)
    (λ events behind. with_lists (events ∷ []) (take_lists numbers more (task + 1) (has_ended events) (before + length events) (line + length events + 1) behind))
list-begun numbers short more task before line ended word rest n asks next =
    let text : List ℕ = task_line task word ++ rest in
    let go : List Event → List ℕ → Result (List (List Event)) SeqError
    = λ events behind. with_lists (events ∷ []) (take_lists numbers more (task + 1) (has_ended events) (before + length events) (line + length events + 1) behind) in
    ap (λ o. fail_or o (then_lists (take_events numbers task (asked_at task text) false before (line + 1) (behind_line text)) go)) (head-sound numbers short task line ended word rest n asks next)
    ∙ ap (λ k. then_lists (take_events numbers task k false before (line + 1) (behind_line text)) go) (asked-is numbers short task word rest n asks next)
    ∙ ap (λ t. then_lists (take_events numbers task n false before (line + 1) t) go) (head-behind numbers short task word rest n asks next)

-- a whole list is taken
list-taken : (numbers : Numbering) → IsShort numbers → (task before line : ℕ) (events : List Event) (rest : List ℕ) → IsListFit numbers events →
    before + length events ≤ most_listed →
    take_events numbers task (length events) false before line (lines events ++ rest) ≡ Ok (events, rest)
list-taken numbers short task before line events rest fit few =
    let all : length events ≡ beyond events 0 = omega (arith, beyond-is events 0) in
    ap (λ n. take_events numbers task n false before line (lines events ++ rest)) all
    ∙ events-taken numbers short task 0 false before line (before + length events) (line + length events) events rest fit.known fit.end (λ e. clash e) few refl refl
    ∙ ap (λ t. Ok (t, rest)) (append-nil events)

-- whole lists that may stand in a file are taken, and then what is left
lists-taken : (numbers : Numbering) → IsShort numbers → (more task before line t b l : ℕ) (ended : Bool) (lists : List (List Event)) (rest : List ℕ) →
    task + length lists ≤ list_count numbers → All (IsListFit numbers) lists →
    before + listed lists ≤ most_listed → t ≡ task + length lists → b ≡ before + listed lists → l ≡ line + length lists + listed lists →
    take_lists numbers (beyond lists more) task ended before line (lists_text task lists ++ rest) ≡ with_lists lists (take_lists numbers more t (last_ended ended lists) b l rest)
lists-taken numbers short more task before line t b l ended [] rest count each few et eb el =
    let st : task ≡ t = omega (arith, et) in
    let sb : before ≡ b = omega (arith, eb) in
    let sl : line ≡ l = omega (arith, el) in
    ap (λ n. take_lists numbers more n ended before line rest) st
    ∙ ap (λ n. take_lists numbers more t ended n line rest) sb
    ∙ ap (λ n. take_lists numbers more t ended b n rest) sl
    ∙ with-none (take_lists numbers more t ended b l rest)
lists-taken numbers short more task before line t b l ended (events ∷ lists) rest count each few et eb el =
    let behind : List ℕ = lists_text (task + 1) lists ++ rest in
    let fit : IsListFit numbers events = All-head (IsListFit numbers) events lists each in
    let total : listed (events ∷ lists) ≡ length events + listed lists = sum_by-cons length events lists in
    let next : task < list_count numbers = omega (arith, count) in
    let fits : before + length events ≤ most_listed = omega (arith, few, total) in
    let small : length events < 2 ^ 64 = omega (arith, few, total) in
    let others : ℕ = beyond lists more in
    let word : List ℕ = decimal (length events) in
    let go : List Event → List ℕ → Result (List (List Event)) SeqError
    = λ taken left. with_lists (taken ∷ []) (take_lists numbers others (task + 1) (has_ended taken) (before + length taken) (line + length taken + 1) left) in
    let count' : task + 1 + length lists ≤ list_count numbers = omega (arith, count) in
    let few' : before + length events + listed lists ≤ most_listed = omega (arith, few, total) in
    let et' : t ≡ task + 1 + length lists = omega (arith, et) in
    let eb' : b ≡ before + length events + listed lists = omega (arith, eb, total) in
    let el' : l ≡ line + length events + 1 + length lists + listed lists = omega (arith, el, total) in
    ap (take_lists numbers (suc others) task ended before line) (lists-cons task events lists rest)
    ∙ list-begun numbers short others task before line ended word (lines events ++ behind) (length events) (natural-of_decimal (length events) small) next
    ∙ ap (λ r. then_lists r go) (list-taken numbers short task before (line + 1) events behind fit fits)
    ∙ ap (with_lists (events ∷ []))
    (lists-taken numbers short more (task + 1) (before + length events) (line + length events + 1) t b l (has_ended events) lists rest count' (All-tail (IsListFit numbers) events lists each) few' et' eb' el')
    ∙ with-both events lists (take_lists numbers more t (last_ended (has_ended events) lists) b l rest)

-- What comes of a file: its lists, or its first fault.
abbrev outcome : List (List ℕ) → Numbering → List ℕ → Result (List (List Event)) SeqError
outcome names numbers bytes = fail_or (list_header_fault names numbers bytes) (take_lists numbers (list_count numbers) 0 false 0 2 (behind_line bytes))

-- behind whole lists comes what is left
outcome-behind : (names : List (List ℕ)) (numbers : Numbering) → IsShort numbers → is_upper_name (text_of names numbers.main) ≡ true →
    (bytes : List ℕ) (lists : List (List Event)) (rest : List ℕ) → IsBehindLists bytes numbers names lists rest →
    outcome names numbers bytes ≡ with_lists lists (take_lists numbers (list_count numbers - length lists) (length lists) (last_ended false lists) (listed lists) (line_behind lists) rest)
outcome-behind names numbers short hm bytes lists rest at =
    let left : ℕ = list_count numbers - length lists in
    let text : List ℕ = lists_text 0 lists ++ rest in
    let whole : bytes ≡ list_header_line names numbers ++ text = at.text ∙ text-behind names numbers lists rest in
    let (line, cuts) = list_header-cut names numbers short hm bytes text whole in
    let all : list_count numbers ≡ beyond lists left = omega (arith, at.count, beyond-is lists left) in
    let count : 0 + length lists ≤ list_count numbers = omega (arith, at.count) in
    let few : 0 + listed lists ≤ most_listed = omega (arith, at.few) in
    let et : length lists ≡ 0 + length lists = omega arith in
    let eb : listed lists ≡ 0 + listed lists = omega arith in
    let el : line_behind lists ≡ 2 + length lists + listed lists = omega arith in
    ap (λ o. fail_or o (take_lists numbers (list_count numbers) 0 false 0 2 (behind_line bytes))) (list_header-sound names numbers short hm bytes text whole)
    ∙ ap (take_lists numbers (list_count numbers) 0 false 0 2) (ap right_of cuts)
    ∙ ap (λ n. take_lists numbers n 0 false 0 2 text) all
    ∙ lists-taken numbers short left 0 0 2 (length lists) (listed lists) (line_behind lists) false lists rest count at.each few et eb el

lists-stop : (numbers : Numbering) (more task before line : ℕ) (ended : Bool) (rest : List ℕ) (error : SeqError) →
    next_list_fault (list_count numbers) task ended line rest ≡ Some error → take_lists numbers more task ended before line rest ≡ Err error
lists-stop numbers zero task before line ended rest error h = ap (λ o. fail_or o (Ok [])) h
lists-stop numbers (suc more) task before line ended rest error h =
    ap (λ o. fail_or o (then_lists (take_events numbers task (asked_at task rest) false before (line + 1) (behind_line rest))
    (λ events behind. with_lists (events ∷ []) (take_lists numbers more (task + 1) (has_ended events) (before + length events) (line + length events + 1) behind)))) h

lists-end : (numbers : Numbering) (more task before line : ℕ) (ended : Bool) (rest : List ℕ) → more ≡ 0 →
    next_list_fault (list_count numbers) task ended line rest ≡ None → take_lists numbers more task ended before line rest ≡ Ok []
lists-end numbers zero task before line ended rest none h = ap (λ o. fail_or o (Ok [])) h
lists-end numbers (suc more) task before line ended rest none h = absurd (omega (arith, none))

-- nothing is left behind the last list
none-left : (numbers : Numbering) (task line : ℕ) (ended : Bool) → task ≡ list_count numbers → next_list_fault (list_count numbers) task ended line [] ≡ None
none-left numbers task line ended same =
    ap (λ b. cond b (cond (begins_list task []) None (cond (ended && false) (Some (AfterEnd line)) (Some (BadLine line)))) None)
    (le-ltb task (list_count numbers) (omega (arith, same)))

reads-outcome : (names : List (List ℕ)) (numbers : Numbering) → IsShort numbers → is_upper_name (text_of names numbers.main) ≡ true →
    (bytes : List ℕ) (lists : List (List Event)) → ListReads bytes numbers names lists →
    outcome names numbers bytes ≡ Ok lists
reads-outcome names numbers short hm bytes lists reads =
    let at : IsBehindLists bytes numbers names lists [] = record {
      text = reads.text ∙ sym (append-nil (ListText names numbers lists));
      count = omega (arith, reads.fit.count);
      each = reads.fit.each;
      few = reads.fit.few;
    } in
    let none : list_count numbers - length lists ≡ 0 = omega (arith, reads.fit.count) in
    outcome-behind names numbers short hm bytes lists [] at
    ∙ ap (with_lists lists)
    (lists-end numbers (list_count numbers - length lists) (length lists) (listed lists) (line_behind lists) (last_ended false lists) [] none
    (none-left numbers (length lists) (line_behind lists) (last_ended false lists) reads.fit.count))
    ∙ ap Ok (append-nil lists)

behind-outcome : (names : List (List ℕ)) (numbers : Numbering) → IsShort numbers → is_upper_name (text_of names numbers.main) ≡ true →
    (bytes : List ℕ) (error : SeqError) → FailsBehindLists bytes numbers names error →
    outcome names numbers bytes ≡ Err error
behind-outcome names numbers short hm bytes error fails =
    let lists = fails.lists in
    outcome-behind names numbers short hm bytes lists fails.rest fails.at
    ∙ ap (with_lists lists)
    (lists-stop numbers (list_count numbers - length lists) (length lists) (listed lists) (line_behind lists) (last_ended false lists) fails.rest error fails.fault)

events-stop : (numbers : Numbering) (left task before line : ℕ) (ended : Bool) (rest : List ℕ) (error : SeqError) →
    next_event_fault numbers task ended before line rest ≡ Some error → take_events numbers task (suc left) ended before line rest ≡ Err error
events-stop numbers left task before line ended rest error h =
    ap (λ o. fail_or o (with_events (event_at rest ∷ []) (take_events numbers task left (is_end (event_at rest)) (before + 1) (line + 1) (behind_line rest)))) h

list-stop : (numbers : Numbering) → IsShort numbers →
    (more task before line : ℕ) (ended : Bool) (list : List ℕ) (asked : ℕ) (events : List Event) (rest : List ℕ) (error : SeqError) →
    task < list_count numbers →
    IsInList numbers task before list asked events rest → next_event_fault numbers task (has_ended events) (before + length events) (line + length events + 1) rest ≡ Some error →
    take_lists numbers (suc more) task ended before line list ≡ Err error
list-stop numbers short more task before line ended list asked events rest error next at fault =
    let left : ℕ = asked - length events - 1 in
    let whole : asked ≡ beyond events (suc left) = omega (arith, at.more, beyond-is events (suc left)) in
    let el : line + length events + 1 ≡ line + 1 + length events = omega arith in
    let go : List Event → List ℕ → Result (List (List Event)) SeqError
    = λ taken behind. with_lists (taken ∷ []) (take_lists numbers more (task + 1) (has_ended taken) (before + length taken) (line + length taken + 1) behind) in
    ap (take_lists numbers (suc more) task ended before line) at.text
    ∙ list-begun numbers short more task before line ended at.word (lines events ++ rest) asked at.asks next
    ∙ ap (λ r. then_lists r go)
    (ap (λ n. take_events numbers task n false before (line + 1) (lines events ++ rest)) whole
    ∙ events-taken numbers short task (suc left) false before (line + 1) (before + length events) (line + length events + 1) events rest at.fit.known at.fit.end (λ e. clash e) at.few refl el
    ∙ ap (with_events events) (events-stop numbers left task (before + length events) (line + length events + 1) (has_ended events) rest error fault))

within-outcome : (names : List (List ℕ)) (numbers : Numbering) → IsShort numbers → is_upper_name (text_of names numbers.main) ≡ true →
    (bytes : List ℕ) (error : SeqError) → FailsInList bytes numbers names error →
    outcome names numbers bytes ≡ Err error
within-outcome names numbers short hm bytes error fails =
    let lists = fails.lists in
    let more : ℕ = list_count numbers - length lists - 1 in
    let some : list_count numbers - length lists ≡ suc more = omega (arith, fails.next) in
    outcome-behind names numbers short hm bytes lists fails.list fails.behind
    ∙ ap (with_lists lists)
    (ap (λ n. take_lists numbers n (length lists) (last_ended false lists) (listed lists) (line_behind lists) fails.list) some
    ∙ list-stop numbers short more (length lists) (listed lists) (line_behind lists) (last_ended false lists) fails.list fails.asked fails.events fails.rest error fails.next fails.at fails.fault)

fault-outcome : (names : List (List ℕ)) (numbers : Numbering) → IsShort numbers → is_upper_name (text_of names numbers.main) ≡ true →
    (bytes : List ℕ) (error : SeqError) → HasFirstListFault bytes numbers names error →
    outcome names numbers bytes ≡ Err error
fault-outcome names numbers short hm bytes error (inl fault) =
    ap (λ o. fail_or o (take_lists numbers (list_count numbers) 0 false 0 2 (behind_line bytes))) fault
fault-outcome names numbers short hm bytes error (inr (inl fails)) = behind-outcome names numbers short hm bytes error fails
fault-outcome names numbers short hm bytes error (inr (inr fails)) = within-outcome names numbers short hm bytes error fails

-- A file by tasks has one list of lists.
pub lists-unique : (names : List (List ℕ)) (numbers : Numbering) → IsShort numbers → is_upper_name (text_of names numbers.main) ≡ true →
    (bytes : List ℕ) (xs ys : List (List Event)) →
    ListReads bytes numbers names xs → ListReads bytes numbers names ys → xs ≡ ys
lists-unique names numbers short hm bytes xs ys rx ry =
    ap (result_or []) (sym (reads-outcome names numbers short hm bytes xs rx) ∙ reads-outcome names numbers short hm bytes ys ry)

-- It has no first fault.
pub lists-no_fault : (names : List (List ℕ)) (numbers : Numbering) → IsShort numbers → is_upper_name (text_of names numbers.main) ≡ true →
    (bytes : List ℕ) (xs : List (List Event)) (error : SeqError) →
    ListReads bytes numbers names xs → HasFirstListFault bytes numbers names error → ⊥
lists-no_fault names numbers short hm bytes xs error reads fault =
    clash (ap failed (sym (reads-outcome names numbers short hm bytes xs reads) ∙ fault-outcome names numbers short hm bytes error fault))

-- A file has one first fault.
pub list_fault-unique : (names : List (List ℕ)) (numbers : Numbering) → IsShort numbers → is_upper_name (text_of names numbers.main) ≡ true →
    (bytes : List ℕ) (e f : SeqError) →
    HasFirstListFault bytes numbers names e → HasFirstListFault bytes numbers names f → e ≡ f
list_fault-unique names numbers short hm bytes e f he hf =
    ap (error_or e) (sym (fault-outcome names numbers short hm bytes e he) ∙ fault-outcome names numbers short hm bytes f hf)
