-- A file read event by event: what was read so far, and that one file has one list of events or one first fault.
use Rattle.std.proofs.Common.{◌≡◌, ◌≢◌, ℕ, ◌+◌, ◌<◌, Bool, true, false, cond, List, [], ◌∷◌, ◌++◌, length, drop, None, Some, refl, ap, ◌∙◌, sym, subst, arith, ◌⊎◌, inl, inr, append_assoc, append-nil, length-append, All}
use Rattle.std.specs.Prelude.{◌||◌, is_some, unwrap_or, option_and_then}
use Rattle.std.proofs.lemmas.Bool.{cases_Bool, lt-ltb}
use Rattle.std.proofs.lemmas.List.Elements.{All-nil, All-head, All-tail, All-push}
use Rattle.std.proofs.Math.Seq.{drop-append_seam}
use Rattle.ded_io.specs.Written.{◌⧺◌, each_text}
use Rattle.event_machine.specs.declared.Event.{Event}
use Rattle.event_machine.specs.declared.Event.TheVariants.{Z}
use Rattle.syn_event.specs.EventText.{event_text}
use Rattle.syn_event.specs.Numbering.{Numbering}
use Rattle.syn_event.specs.DeclaredTasks.{text_of}
use Rattle.seq_file.specs.declared.errors.SeqError.{SeqError}
use Rattle.seq_file.specs.declared.errors.SeqError.TheVariants.{BadNumber, TooMany, Memory}
use Rattle.seq_file.specs.Short.{IsShort}
use Rattle.seq_file.specs.Files.{most_events, header_line, event_line, SeqText, is_end, has_ended, NothingFollowsEnd, AreFit, IsReadBehind, SeqReads, header_fault, fault_of_event, line_fault, FailsBehind, HasFirstFault}
use Rattle.seq_file.specs.Known.{is_known}
use Rattle.seq_file.specs.text_lines.Lines.{is_line_end, first_line, cut}
use Rattle.seq_file.specs.Lines.{event_of_line, is_upper_name}
use Rattle.seq_file.specs.inner.NextEvents.{IsNextEvent, IsEventLine, IsBehindHeader}
use Rattle.seq_file.proofs.Heading.{header-sound, header-begins}
use Rattle.seq_file.proofs.text_lines.Marking.{left_of, right_of, cut-at_mark, cut-parts, first-line_cut}
use Rattle.seq_file.proofs.Wording.{event-read, event-free, event-written}
use Rattle.common_lemmas.proofs.Lists.{never_empty}
use Rattle.common_lemmas.proofs.Truth.{clash, or_false}

abbrev pub lines : List Event → List ℕ
lines events = each_text event_line events

abbrev pub AreKnown : Numbering → List Event → Type 0
AreKnown numbers events = All (λ event. is_known numbers event ≡ true) events

-- the text of a file in plain pieces
text-joined : (names : List (List ℕ)) (numbers : Numbering) (events : List Event) → SeqText names numbers events ≡ header_line names numbers ++ lines events
unfolding ◌⧺◌
text-joined names numbers events = refl

pub lines-cons : (event : Event) (events : List Event) (rest : List ℕ) → lines (event ∷ events) ++ rest ≡ event_text event ++ (10 ∷ (lines events ++ rest))
unfolding ◌⧺◌
lines-cons event events rest =
    append_assoc (event_text event ++ (10 ∷ [])) (lines events) rest ∙ append_assoc (event_text event) (10 ∷ []) (lines events ++ rest)

pub lines-append : (xs ys : List Event) → lines (xs ++ ys) ≡ lines xs ++ lines ys
unfolding ◌⧺◌
lines-append [] ys = refl
lines-append (x ∷ xs) ys =
    ap (λ t. event_line x ++ t) (lines-append xs ys) ∙ sym (append_assoc (event_line x) (lines xs) (lines ys))

lines-nil : (events : List Event) → lines events ++ [] ≡ [] → events ≡ []
lines-nil [] h = refl
lines-nil (event ∷ events) h = never_empty (event_text event) 10 (lines events ++ []) (sym (lines-cons event events []) ∙ h)

-- the first line of the lines of events
pub line-cut : (numbers : Numbering) → IsShort numbers → (event : Event) (events : List Event) (rest : List ℕ) → is_known numbers event ≡ true → cut is_line_end (lines (event ∷ events) ++ rest) ≡ Some (event_text event, lines events ++ rest)
line-cut numbers short event events rest known =
    ap (cut is_line_end) (lines-cons event events rest) ∙ cut-at_mark 10 (event_text event) (lines events ++ rest) (event-free numbers short event known)

line-sound : (numbers : Numbering) → IsShort numbers → (event : Event) (events : List Event) (rest : List ℕ) (count : ℕ) → is_known numbers event ≡ true → count < most_events → line_fault numbers false count (lines (event ∷ events) ++ rest) ≡ None
line-sound numbers short event events rest count known few =
    let text : List ℕ = lines (event ∷ events) ++ rest in
    ap (λ b. cond b (fault_of_event numbers (count + 2) (option_and_then event_of_line (first_line text))) (Some (TooMany most_events))) (lt-ltb count most_events few)
    ∙ ap (λ o. fault_of_event numbers (count + 2) (option_and_then event_of_line o)) (first-line_cut text (event_text event) (lines events ++ rest) (line-cut numbers short event events rest known))
    ∙ ap (fault_of_event numbers (count + 2)) (event-read numbers short event known)
    ∙ ap (λ b. cond b None (Some (BadNumber (count + 2)))) known

-- one of two splits of a text into lines of events and a rest goes on where the other stops
record GoesOn (shorter longer : List Event) (rest behind : List ℕ) : Type 0 where
  more : List Event
  events : longer ≡ shorter ++ more
  text : rest ≡ lines more ++ behind

compare : (numbers : Numbering) → IsShort numbers → (xs ys : List Event) (r s : List ℕ) → AreKnown numbers xs → AreKnown numbers ys → lines xs ++ r ≡ lines ys ++ s → GoesOn xs ys r s ⊎ GoesOn ys xs s r
compare numbers short [] ys r s kx ky h = inl record { more = ys; events = refl; text = h }
compare numbers short (x ∷ xs) [] r s kx ky h = inr record { more = x ∷ xs; events = refl; text = sym h }
compare numbers short (x ∷ xs) (y ∷ ys) r s kx ky h =
    let P : Event → Type 0 = λ event. is_known numbers event ≡ true in
    let knows : is_known numbers x ≡ true = All-head P x xs kx in
    let knows' : is_known numbers y ≡ true = All-head P y ys ky in
    let same : Some (event_text x, lines xs ++ r) ≡ Some (event_text y, lines ys ++ s) =
    sym (line-cut numbers short x xs r knows) ∙ ap (cut is_line_end) h ∙ line-cut numbers short y ys s knows' in
    let texts : event_text x ≡ event_text y = ap left_of same in
    let rests : lines xs ++ r ≡ lines ys ++ s = ap right_of same in
    let equal : x ≡ y = ap (λ o. unwrap_or o Z) (sym (event-read numbers short x knows) ∙ ap event_of_line texts ∙ event-read numbers short y knows') in
    elim (compare numbers short xs ys r s (All-tail P x xs kx) (All-tail P y ys ky) rests) [
      | inl on ↦ inl record { more = on.more; events = ap (λ t. t ∷ ys) (sym equal) ∙ ap (λ t. x ∷ t) on.events; text = on.text }
      | inr on ↦ inr record { more = on.more; events = ap (λ t. t ∷ xs) equal ∙ ap (λ t. y ∷ t) on.events; text = on.text }
    ]

-- an event with one behind it is not the end
not-ended : (xs : List Event) (y : Event) (ys : List Event) → NothingFollowsEnd (xs ++ (y ∷ ys)) → has_ended xs ≡ false
not-ended [] y ys h = refl
not-ended (x ∷ xs) y ys h = elim (cases_Bool (is_end x)) [
  | inl e ↦ never_empty xs y ys (h.0 e)
  | inr e ↦ ap (λ t. t || has_ended xs) e ∙ not-ended xs y ys h.1
]

known-there : (numbers : Numbering) (xs : List Event) (y : Event) (ys : List Event) → AreKnown numbers (xs ++ (y ∷ ys)) → is_known numbers y ≡ true
known-there numbers [] y ys h = All-head (λ event. is_known numbers event ≡ true) y ys h
known-there numbers (x ∷ xs) y ys h = known-there numbers xs y ys (All-tail (λ event. is_known numbers event ≡ true) x (xs ++ (y ∷ ys)) h)

goes-on_by : (numbers : Numbering) → IsShort numbers → (xs all : List Event) (rest behind : List ℕ) → AreFit numbers all → (more : List Event) → all ≡ xs ++ more → rest ≡ lines more ++ behind → (all ≡ xs) ⊎ (line_fault numbers (has_ended xs) (length xs) rest ≡ None)
goes-on_by numbers short xs all rest behind fit [] e h = inl (e ∙ append-nil xs)
goes-on_by numbers short xs all rest behind fit (y ∷ ys) e h =
    let known : is_known numbers y ≡ true = known-there numbers xs y ys (subst (AreKnown numbers) e fit.known) in
    let few : length xs < most_events = omega (arith, fit.few, ap length e, length-append xs (y ∷ ys)) in
    inr (ap (λ b. line_fault numbers b (length xs) rest) (not-ended xs y ys (subst NothingFollowsEnd e fit.end))
    ∙ ap (line_fault numbers false (length xs)) h
    ∙ line-sound numbers short y ys behind (length xs) known few)

-- where fit events go on, no line has a fault
goes-on_sound : (numbers : Numbering) → IsShort numbers → (xs all : List Event) (rest behind : List ℕ) → AreFit numbers all → GoesOn xs all rest behind → (all ≡ xs) ⊎ (line_fault numbers (has_ended xs) (length xs) rest ≡ None)
goes-on_sound numbers short xs all rest behind fit on = goes-on_by numbers short xs all rest behind fit on.more on.events on.text

-- the lines behind the header
behind-header : (names : List (List ℕ)) (numbers : Numbering) (bytes : List ℕ) (xs ys : List Event) (r s : List ℕ) → bytes ≡ SeqText names numbers xs ++ r → bytes ≡ SeqText names numbers ys ++ s → lines xs ++ r ≡ lines ys ++ s
behind-header names numbers bytes xs ys r s hx hy =
    let h : List ℕ = header_line names numbers in
    let px : bytes ≡ h ++ (lines xs ++ r) = hx ∙ ap (λ t. t ++ r) (text-joined names numbers xs) ∙ append_assoc h (lines xs) r in
    let py : bytes ≡ h ++ (lines ys ++ s) = hy ∙ ap (λ t. t ++ s) (text-joined names numbers ys) ∙ append_assoc h (lines ys) s in
    sym (drop-append_seam h (lines xs ++ r)) ∙ ap (drop (length h)) (sym px ∙ py) ∙ drop-append_seam h (lines ys ++ s)

-- a file of events, as one with nothing behind them
reads-all : (names : List (List ℕ)) (numbers : Numbering) (bytes : List ℕ) (events : List Event) → SeqReads bytes numbers names events → bytes ≡ SeqText names numbers events ++ []
reads-all names numbers bytes events reads = reads.text ∙ sym (append-nil (SeqText names numbers events))

-- A file has one list of events.
pub reads-unique : (names : List (List ℕ)) (numbers : Numbering) → IsShort numbers → (bytes : List ℕ) (xs ys : List Event) → SeqReads bytes numbers names xs → SeqReads bytes numbers names ys → xs ≡ ys
reads-unique names numbers short bytes xs ys rx ry =
    elim (compare numbers short xs ys [] [] rx.fit.known ry.fit.known (behind-header names numbers bytes xs ys [] [] (reads-all names numbers bytes xs rx) (reads-all names numbers bytes ys ry))) [
      | inl on ↦ sym (on.events ∙ ap (λ t. xs ++ t) (lines-nil on.more (sym on.text)) ∙ append-nil xs)
      | inr on ↦ on.events ∙ ap (λ t. ys ++ t) (lines-nil on.more (sym on.text)) ∙ append-nil ys
    ]

rest-nil : (more : List Event) (rest : List ℕ) → lines more ++ rest ≡ [] → rest ≡ []
rest-nil [] rest h = h
rest-nil (event ∷ events) rest h = never_empty (event_text event) 10 (lines events ++ rest) (sym (lines-cons event events rest) ∙ h)

more-nil : (xs all more : List Event) → all ≡ xs ++ more → all ≡ xs → more ≡ []
more-nil xs all [] e same = refl
more-nil xs all (y ∷ ys) e same = absurd (omega (arith, ap length (sym e ∙ same), length-append xs (y ∷ ys)))

-- A file of events has no bad line behind its header.
pub reads-no_failure : (names : List (List ℕ)) (numbers : Numbering) → IsShort numbers → (bytes : List ℕ) (xs : List Event) (error : SeqError) → SeqReads bytes numbers names xs → FailsBehind bytes numbers names error → ⊥
reads-no_failure names numbers short bytes xs error reads fails =
    elim (compare numbers short xs fails.events [] fails.rest reads.fit.known fails.fit.known (behind-header names numbers bytes xs fails.events [] fails.rest (reads-all names numbers bytes xs reads) fails.text)) [
      | inl on ↦ fails.more (rest-nil on.more fails.rest (sym on.text))
      | inr on ↦ elim (goes-on_sound numbers short fails.events xs fails.rest [] reads.fit on) [
        | inl same ↦ fails.more (on.text ∙ ap (λ t. lines t ++ []) (more-nil fails.events xs on.more on.events same))
        | inr sound ↦ clash (ap is_some (sym sound ∙ fails.fault))
      ]
    ]

failure-by : (names : List (List ℕ)) (numbers : Numbering) → IsShort numbers → (bytes : List ℕ) (e f : SeqError) (a : FailsBehind bytes numbers names e) (b : FailsBehind bytes numbers names f) → GoesOn a.events b.events a.rest b.rest → e ≡ f
failure-by names numbers short bytes e f a b on =
    elim (goes-on_sound numbers short a.events b.events a.rest b.rest b.fit on) [
      | inl same ↦
          let rests : a.rest ≡ b.rest = on.text ∙ ap (λ t. lines t ++ b.rest) (more-nil a.events b.events on.more on.events same) in
          ap (λ o. unwrap_or o Memory) (sym a.fault ∙ ap (λ t. line_fault numbers (has_ended a.events) (length a.events) t) rests ∙ ap (λ t. line_fault numbers (has_ended t) (length t) b.rest) (sym same) ∙ b.fault)
      | inr sound ↦ clash (ap is_some (sym sound ∙ a.fault))
    ]

-- A file has one first fault behind its header.
pub failure-unique : (names : List (List ℕ)) (numbers : Numbering) → IsShort numbers → (bytes : List ℕ) (e f : SeqError) → FailsBehind bytes numbers names e → FailsBehind bytes numbers names f → e ≡ f
failure-unique names numbers short bytes e f a b =
    elim (compare numbers short a.events b.events a.rest b.rest a.fit.known b.fit.known (behind-header names numbers bytes a.events b.events a.rest b.rest a.text b.text)) [
      | inl on ↦ failure-by names numbers short bytes e f a b on
      | inr on ↦ sym (failure-by names numbers short bytes f e b a on)
    ]

begins-sound : (names : List (List ℕ)) (numbers : Numbering) → IsShort numbers → is_upper_name (text_of names numbers.main) ≡ true → (bytes : List ℕ) (events : List Event) (rest : List ℕ) → bytes ≡ SeqText names numbers events ++ rest → header_fault names numbers bytes ≡ None
begins-sound names numbers short hm bytes events rest h =
    header-sound names numbers short hm bytes (lines events ++ rest)
    (h ∙ ap (λ t. t ++ rest) (text-joined names numbers events) ∙ append_assoc (header_line names numbers) (lines events) rest)

-- A file of events has no first fault.
pub reads-no_fault : (names : List (List ℕ)) (numbers : Numbering) → IsShort numbers → is_upper_name (text_of names numbers.main) ≡ true → (bytes : List ℕ) (events : List Event) (error : SeqError) → SeqReads bytes numbers names events → HasFirstFault bytes numbers names error → ⊥
reads-no_fault names numbers short hm bytes events error reads (inl fault) =
    clash (ap is_some (sym (begins-sound names numbers short hm bytes events [] (reads-all names numbers bytes events reads)) ∙ fault))
reads-no_fault names numbers short hm bytes events error reads (inr fails) = reads-no_failure names numbers short bytes events error reads fails

-- A file has one first fault.
pub fault-unique : (names : List (List ℕ)) (numbers : Numbering) → IsShort numbers → is_upper_name (text_of names numbers.main) ≡ true → (bytes : List ℕ) (e f : SeqError) → HasFirstFault bytes numbers names e → HasFirstFault bytes numbers names f → e ≡ f
fault-unique names numbers short hm bytes e f (inl a) (inl b) = ap (λ o. unwrap_or o Memory) (sym a ∙ b)
fault-unique names numbers short hm bytes e f (inl a) (inr b) = clash (ap is_some (sym (begins-sound names numbers short hm bytes b.events b.rest b.text) ∙ a))
fault-unique names numbers short hm bytes e f (inr a) (inl b) = clash (ap is_some (sym (begins-sound names numbers short hm bytes a.events a.rest a.text) ∙ b))
fault-unique names numbers short hm bytes e f (inr a) (inr b) = failure-unique names numbers short bytes e f a b

-- The file is read up to a rest: it begins with the text of these events.
pub record IsReadTo (bytes : List ℕ) (numbers : Numbering) (names : List (List ℕ)) (events : List Event) (rest : List ℕ) (ended : Bool) : Type 0 where
  pub text : bytes ≡ SeqText names numbers events ++ rest
  pub fit : AreFit numbers events
  pub ends : ended ≡ has_ended events

pub none-fit : (numbers : Numbering) → AreFit numbers []
none-fit numbers = record { known = All-nil (λ event. is_known numbers event ≡ true); end = tt; few = omega arith }

pub read-start : (bytes : List ℕ) (numbers : Numbering) (names : List (List ℕ)) (rest : List ℕ) → IsShort numbers → IsBehindHeader names numbers bytes rest → IsReadTo bytes numbers names [] rest false
read-start bytes numbers names rest short header = record {
  text =
      header-begins names numbers short bytes header.line rest header.cuts header.sound
      ∙ ap (λ t. t ++ rest) (sym (text-joined names numbers [] ∙ append-nil (header_line names numbers)));
  fit = none-fit numbers;
  ends = refl;
}

pub push-follows : (xs : List Event) (y : Event) → NothingFollowsEnd xs → has_ended xs ≡ false → NothingFollowsEnd (xs ++ (y ∷ []))
push-follows [] y h no' = (λ e. refl, tt)
push-follows (x ∷ xs) y h no' = elim (cases_Bool (is_end x)) [
  | inl e ↦ clash (sym (sym (ap (λ t. t || has_ended xs) e) ∙ no'))
  | inr e ↦ (λ yes'. clash (sym e ∙ yes'), push-follows xs y h.1 (sym (ap (λ t. t || has_ended xs) e) ∙ no'))
]

pub push-ended : (xs : List Event) (y : Event) → has_ended xs ≡ false → has_ended (xs ++ (y ∷ [])) ≡ is_end y
push-ended [] y no' = or_false (is_end y)
push-ended (x ∷ xs) y no' = elim (cases_Bool (is_end x)) [
  | inl e ↦ clash (sym (sym (ap (λ t. t || has_ended xs) e) ∙ no'))
  | inr e ↦ ap (λ t. t || has_ended (xs ++ (y ∷ []))) e ∙ push-ended xs y (sym (ap (λ t. t || has_ended xs) e) ∙ no')
]

-- one more line read
pub read-line : (bytes : List ℕ) (numbers : Numbering) (names : List (List ℕ)) (events : List Event) (rest behind : List ℕ) (event : Event) → IsShort numbers → IsReadBehind bytes numbers names events rest → has_ended events ≡ false →
    IsEventLine numbers rest event behind → IsReadBehind bytes numbers names (events ++ (event ∷ [])) behind
read-line bytes numbers names events rest behind event short to going next =
    let one : rest ≡ lines (event ∷ []) ++ behind =
    cut-parts 10 rest next.line behind next.cuts
    ∙ ap (λ t. t ++ (10 ∷ behind)) (event-written numbers short next.line event next.writes next.known)
    ∙ sym (lines-cons event [] behind) in
    let h : List ℕ = header_line names numbers in
    record {
      text =
          to.text ∙ ap (λ t. t ++ rest) (text-joined names numbers events)
          ∙ ap (λ t. (h ++ lines events) ++ t) one
          ∙ sym (append_assoc (h ++ lines events) (lines (event ∷ [])) behind)
          ∙ ap (λ t. t ++ behind) (append_assoc h (lines events) (lines (event ∷ [])) ∙ ap (λ t. h ++ t) (sym (lines-append events (event ∷ []))) ∙ sym (text-joined names numbers (events ++ (event ∷ []))));
      known = All-push (λ e. is_known numbers e ≡ true) events event to.known next.known;
      end = push-follows events event to.end going;
    }

pub read-more : (bytes : List ℕ) (numbers : Numbering) (names : List (List ℕ)) (events : List Event) (rest behind : List ℕ) (ended : Bool) (event : Event) → IsShort numbers → IsReadTo bytes numbers names events rest ended → IsNextEvent numbers ended (length events) rest event behind → IsReadTo bytes numbers names (events ++ (event ∷ [])) behind (is_end event)
read-more bytes numbers names events rest behind ended event short to next =
    let going : has_ended events ≡ false = sym to.ends ∙ next.going in
    let on : IsReadBehind bytes numbers names (events ++ (event ∷ [])) behind =
    read-line bytes numbers names events rest behind event short record { text = to.text; known = to.fit.known; end = to.fit.end } going
    record { line = next.line; cuts = next.cuts; writes = next.writes; known = next.known } in
    record {
      text = on.text;
      fit = record { known = on.known; end = on.end; few = omega (arith, next.few, length-append events (event ∷ [])) };
      ends = sym (push-ended events event going);
    }

pub read-end : (bytes : List ℕ) (numbers : Numbering) (names : List (List ℕ)) (events : List Event) (rest : List ℕ) (ended : Bool) → IsReadTo bytes numbers names events rest ended → rest ≡ [] → SeqReads bytes numbers names events
read-end bytes numbers names events rest ended to none = record {
  text = to.text ∙ ap (λ t. SeqText names numbers events ++ t) none ∙ append-nil (SeqText names numbers events);
  fit = to.fit;
}

pub read-fault : (bytes : List ℕ) (numbers : Numbering) (names : List (List ℕ)) (events : List Event) (rest : List ℕ) (ended : Bool) (error : SeqError) → IsReadTo bytes numbers names events rest ended → rest ≢ [] → line_fault numbers ended (length events) rest ≡ Some error → HasFirstFault bytes numbers names error
read-fault bytes numbers names events rest ended error to more fault = inr record {
  events = events;
  rest = rest;
  text = to.text;
  fit = to.fit;
  more = more;
  fault = ap (λ b. line_fault numbers b (length events) rest) (sym to.ends) ∙ fault;
}

-- the next line takes bytes
pub next-shorter : (numbers : Numbering) (ended : Bool) (count : ℕ) (rest behind : List ℕ) (event : Event) → IsNextEvent numbers ended count rest event behind → length behind < length rest
next-shorter numbers ended count rest behind event next =
    omega (arith, ap length (cut-parts 10 rest next.line behind next.cuts), length-append next.line (10 ∷ behind))
