-- The text of lists, in plain pieces and with one list more.
use Rattle.std.proofs.Common.{◌≡◌, ℕ, ◌+◌, true, false, List, [], ◌∷◌, ◌++◌, length, refl, ap, ◌∙◌, sym, arith, decimal, append_assoc, append-nil}
use Rattle.ded_io.specs.Written.{◌⧺◌}
use Rattle.event_machine.specs.declared.Event.{Event}
use Rattle.syn_event.specs.Numbering.{Numbering}
use Rattle.seq_file.specs.Files.{SeqText}
use Rattle.seq_file.specs.Lists.{is_in_lists, task_line, list_text, lists_text, list_header_line, ListText}
use Rattle.seq_file.proofs.Filing.{lines}

pub text-behind : (names : List (List ℕ)) (numbers : Numbering) (lists : List (List Event)) (rest : List ℕ) →
    ListText names numbers lists ++ rest ≡ list_header_line names numbers ++ (lists_text 0 lists ++ rest)
unfolding ◌⧺◌
text-behind names numbers lists rest = append_assoc (list_header_line names numbers) (lists_text 0 lists) rest

pub list-joined : (task : ℕ) (events : List Event) (rest : List ℕ) →
    list_text task events ++ rest ≡ task_line task (decimal (length events)) ++ (lines events ++ rest)
unfolding ◌⧺◌
list-joined task events rest = append_assoc (task_line task (decimal (length events))) (lines events) rest

pub lists-cons : (task : ℕ) (events : List Event) (lists : List (List Event)) (rest : List ℕ) →
    lists_text task (events ∷ lists) ++ rest ≡ task_line task (decimal (length events)) ++ (lines events ++ (lists_text (task + 1) lists ++ rest))
unfolding ◌⧺◌
lists-cons task events lists rest =
    append_assoc (list_text task events) (lists_text (task + 1) lists) rest ∙ list-joined task events (lists_text (task + 1) lists ++ rest)

-- the lists of the tasks from one on, and those behind them
pub lists-append : (task : ℕ) (xs ys : List (List Event)) → lists_text task (xs ++ ys) ≡ lists_text task xs ++ lists_text (task + length xs) ys
unfolding ◌⧺◌
lists-append task [] ys = ap (λ n. lists_text n ys) (let e : task ≡ task + 0 = omega arith in e)
lists-append task (x ∷ xs) ys =
    let same : task + 1 + length xs ≡ task + length (x ∷ xs) = omega arith in
    ap (λ t. list_text task x ++ t) (lists-append (task + 1) xs ys ∙ ap (λ n. lists_text (task + 1) xs ++ lists_text n ys) same)
    ∙ sym (append_assoc (list_text task x) (lists_text (task + 1) xs) (lists_text (task + length (x ∷ xs)) ys))

pub list-one : (task : ℕ) (events : List Event) → lists_text task (events ∷ []) ≡ list_text task events
unfolding ◌⧺◌
list-one task events = append-nil (list_text task events)

lists-push : (task : ℕ) (lists : List (List Event)) (events : List Event) →
    lists_text task (lists ++ (events ∷ [])) ≡ lists_text task lists ++ list_text (task + length lists) events
lists-push task lists events =
    lists-append task lists (events ∷ []) ∙ ap (λ t. lists_text task lists ++ t) (list-one (task + length lists) events)

-- one list more
pub text-push : (names : List (List ℕ)) (numbers : Numbering) (lists : List (List Event)) (events : List Event) (rest : List ℕ) →
    ListText names numbers lists ++ (list_text (length lists) events ++ rest) ≡ ListText names numbers (lists ++ (events ∷ [])) ++ rest
text-push names numbers lists events rest =
    let here : 0 + length lists ≡ length lists = omega arith in
    text-behind names numbers lists (list_text (length lists) events ++ rest)
    ∙ ap (λ t. list_header_line names numbers ++ t)
    (sym (append_assoc (lists_text 0 lists) (list_text (length lists) events) rest)
    ∙ ap (λ n. (lists_text 0 lists ++ list_text n events) ++ rest) (sym here)
    ∙ ap (λ t. t ++ rest) (sym (lists-push 0 lists events)))
    ∙ sym (text-behind names numbers (lists ++ (events ∷ [])) rest)

-- how the bytes of either kind of file begin
pub lists-begin : (names : List (List ℕ)) (numbers : Numbering) (lists : List (List Event)) → is_in_lists (ListText names numbers lists) ≡ true
unfolding ◌⧺◌
lists-begin names numbers lists = refl

pub events-begin : (names : List (List ℕ)) (numbers : Numbering) (events : List Event) → is_in_lists (SeqText names numbers events) ≡ false
unfolding ◌⧺◌
events-begin names numbers events = refl
