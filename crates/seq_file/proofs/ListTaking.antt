-- A file by tasks taken apart from its front: what comes of it is one answer, which each way to read the file agrees with.
use Rattle.std.proofs.Common.{◌≡◌, ℕ, zero, suc, ◌+◌, ◌<◌, ◌≤◌, Bool, true, false, cond, List, [], ◌∷◌, ◌++◌, length, None, Some, Option, Result, Ok, Err, refl, ap, ◌∙◌, sym, arith, length-append}
use Rattle.std.specs.Prelude.{◌||◌, ◌&&◌, ◌==◌, nat_lt, unwrap_or, option_and_then}
use Rattle.std.proofs.lemmas.Bool.{lt-ltb, ne_eqb}
use Rattle.std.proofs.lemmas.List.Elements.{All-head, All-tail}
use Rattle.event_machine.specs.declared.Event.{Event}
use Rattle.event_machine.specs.declared.Event.TheVariants.{Z}
use Rattle.syn_event.specs.EventText.{event_text}
use Rattle.syn_event.specs.Numbering.{Numbering}
use Rattle.seq_file.specs.text_lines.Lines.{is_line_end, first_line, cut}
use Rattle.seq_file.proofs.text_lines.Marking.{right_of, first-line_cut}
use Rattle.seq_file.specs.declared.errors.SeqError.{SeqError}
use Rattle.seq_file.specs.declared.errors.SeqError.TheVariants.{BadNumber, BadLine, AfterEnd, TooMany}
use Rattle.seq_file.specs.Short.{IsShort}
use Rattle.seq_file.specs.Known.{is_known}
use Rattle.seq_file.specs.Lines.{event_of_line}
use Rattle.seq_file.specs.Files.{is_end, has_ended, NothingFollowsEnd, fault_of_event}
use Rattle.seq_file.specs.Lists.{most_listed, list_count, begins_list, next_event_fault}
use Rattle.seq_file.proofs.Filing.{lines, AreKnown, lines-cons, line-cut}
use Rattle.seq_file.proofs.Wording.{event-read}
use Rattle.common_lemmas.proofs.Lists.{never_empty}
use Rattle.common_lemmas.proofs.Truth.{or_none}

-- ---- one list

-- a fault stops
abbrev pub fail_or : {X : Type 0} → Option SeqError → Result X SeqError → Result X SeqError
fail_or (Some error) r = Err error
fail_or None r = r

abbrev pub event_at : List ℕ → Event
event_at rest = unwrap_or (option_and_then event_of_line (first_line rest)) Z

abbrev pub behind_line : List ℕ → List ℕ
behind_line rest = right_of (cut is_line_end rest)

abbrev pub with_events : List Event → Result (List Event × List ℕ) SeqError → Result (List Event × List ℕ) SeqError
with_events events (Ok (more, rest)) = Ok (events ++ more, rest)
with_events events (Err error) = Err error

-- the events of a list of which so many are left
abbrev pub take_events : Numbering → ℕ → ℕ → Bool → ℕ → ℕ → List ℕ → Result (List Event × List ℕ) SeqError
take_events numbers task zero ended before line rest = Ok ([], rest)
take_events numbers task (suc left) ended before line rest =
    fail_or (next_event_fault numbers task ended before line rest)
    (with_events (event_at rest ∷ []) (take_events numbers task left (is_end (event_at rest)) (before + 1) (line + 1) (behind_line rest)))

-- so many more than the members of a list
abbrev pub beyond : {X : Type 0} → List X → ℕ → ℕ
beyond [] n = n
beyond (x ∷ xs) n = suc (beyond xs n)

pub beyond-is : {X : Type 0} (xs : List X) (n : ℕ) → beyond xs n ≡ length xs + n
beyond-is [] n = omega arith
beyond-is (x ∷ xs) n = omega (arith, beyond-is xs n)

with-both : (x : Event) (xs : List Event) (r : Result (List Event × List ℕ) SeqError) → with_events (x ∷ []) (with_events xs r) ≡ with_events (x ∷ xs) r
with-both x xs (Ok (more, rest)) = refl
with-both x xs (Err error) = refl

with-none : (r : Result (List Event × List ℕ) SeqError) → r ≡ with_events [] r
with-none (Ok (more, rest)) = refl
with-none (Err error) = refl

going-on : (ended : Bool) → (ended ≡ true → ⊥) → ended ≡ false
going-on true h = absurd (h refl)
going-on false h = refl

-- a line is not empty
text-some : (events : List Event) (event : Event) (rest : List ℕ) → (length (lines (event ∷ events) ++ rest) == 0) ≡ false
text-some events event rest =
    ne_eqb (length (lines (event ∷ events) ++ rest)) 0
    (λ e. absurd (omega (arith, e, ap length (lines-cons event events rest), length-append (event_text event) (10 ∷ (lines events ++ rest)))))

event-sound : (numbers : Numbering) → IsShort numbers → (task before line : ℕ) (ended : Bool) (x : Event) (xs : List Event) (rest : List ℕ) →
    is_known numbers x ≡ true → ended ≡ false → before < most_listed →
    next_event_fault numbers task ended before line (lines (x ∷ xs) ++ rest) ≡ None
event-sound numbers short task before line ended x xs rest known going few =
    let text : List ℕ = lines (x ∷ xs) ++ rest in
    let behind : Option SeqError = cond (nat_lt (task + 1) (list_count numbers) && begins_list (task + 1) text) (Some (BadLine line)) (Some (AfterEnd line)) in
    let here : Option SeqError = fault_of_event numbers line (option_and_then event_of_line (first_line text)) in
    ap (λ b. cond b (Some (BadLine line)) (cond ended behind (cond (nat_lt before most_listed) here (Some (TooMany most_listed))))) (text-some xs x rest)
    ∙ ap (λ b. cond b behind (cond (nat_lt before most_listed) here (Some (TooMany most_listed)))) going
    ∙ ap (λ b. cond b here (Some (TooMany most_listed))) (lt-ltb before most_listed few)
    ∙ ap (λ o. fault_of_event numbers line (option_and_then event_of_line o)) (first-line_cut text (event_text x) (lines xs ++ rest) (line-cut numbers short x xs rest known))
    ∙ ap (fault_of_event numbers line) (event-read numbers short x known)
    ∙ ap (λ b. cond b None (Some (BadNumber line))) known

event-there : (numbers : Numbering) → IsShort numbers → (x : Event) (xs : List Event) (rest : List ℕ) → is_known numbers x ≡ true →
    event_at (lines (x ∷ xs) ++ rest) ≡ x
event-there numbers short x xs rest known =
    ap (λ o. unwrap_or (option_and_then event_of_line o) Z) (first-line_cut (lines (x ∷ xs) ++ rest) (event_text x) (lines xs ++ rest) (line-cut numbers short x xs rest known))
    ∙ ap (λ o. unwrap_or o Z) (event-read numbers short x known)

-- events that may stand in a list are taken, and then what is left
pub events-taken : (numbers : Numbering) → IsShort numbers → (task left : ℕ) (ended : Bool) (before line b l : ℕ) (xs : List Event) (rest : List ℕ) →
    AreKnown numbers xs → NothingFollowsEnd xs → (ended ≡ true → xs ≡ []) →
    before + length xs ≤ most_listed → b ≡ before + length xs → l ≡ line + length xs →
    take_events numbers task (beyond xs left) ended before line (lines xs ++ rest) ≡ with_events xs (take_events numbers task left (ended || has_ended xs) b l rest)
events-taken numbers short task left ended before line b l [] rest known end stop few eb el =
    let sb : before ≡ b = omega (arith, eb) in
    let sl : line ≡ l = omega (arith, el) in
    ap (λ t. take_events numbers task left ended t line rest) sb
    ∙ ap (λ t. take_events numbers task left ended b t rest) sl
    ∙ ap (λ t. take_events numbers task left t b l rest) (or_none ended)
    ∙ with-none (take_events numbers task left (ended || false) b l rest)
events-taken numbers short task left ended before line b l (x ∷ xs) rest known end stop few eb el =
    let P : Event → Type 0 = λ event. is_known numbers event ≡ true in
    let knows : is_known numbers x ≡ true = All-head P x xs known in
    let going : ended ≡ false = going-on ended (λ e. never_empty [] x xs (stop e)) in
    let text : List ℕ = lines (x ∷ xs) ++ rest in
    let behind : behind_line text ≡ lines xs ++ rest = ap right_of (line-cut numbers short x xs rest knows) in
    let few' : before + 1 + length xs ≤ most_listed = omega (arith, few) in
    let eb' : b ≡ before + 1 + length xs = omega (arith, eb) in
    let el' : l ≡ line + 1 + length xs = omega (arith, el) in
    let more : ℕ = beyond xs left in
    ap (λ o. fail_or o (with_events (event_at text ∷ []) (take_events numbers task more (is_end (event_at text)) (before + 1) (line + 1) (behind_line text))))
    (event-sound numbers short task before line ended x xs rest knows going (omega (arith, few)))
    ∙ ap (λ e. with_events (e ∷ []) (take_events numbers task more (is_end e) (before + 1) (line + 1) (behind_line text))) (event-there numbers short x xs rest knows)
    ∙ ap (λ t. with_events (x ∷ []) (take_events numbers task more (is_end x) (before + 1) (line + 1) t)) behind
    ∙ ap (with_events (x ∷ [])) (events-taken numbers short task left (is_end x) (before + 1) (line + 1) b l xs rest (All-tail P x xs known) end.1 end.0 few' eb' el')
    ∙ with-both x xs (take_events numbers task left (is_end x || has_ended xs) b l rest)
    ∙ ap (λ e. with_events (x ∷ xs) (take_events numbers task left (e || has_ended (x ∷ xs)) b l rest)) (sym going)
