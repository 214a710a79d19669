-- A file read list by list: what was read so far, and what comes of the next list.
use Rattle.std.proofs.Common.{◌≡◌, ◌≢◌, ℕ, ◌+◌, ◌-◌, ◌^◌, ◌<◌, ◌≤◌, Bool, true, false, cond, List, [], ◌∷◌, ◌++◌, length, None, Some, Option, refl, ap, ◌∙◌, sym, subst, arith, decimal, ◌⊎◌, inl, inr, append_assoc, append-nil, length-append}
use Rattle.std.specs.Prelude.{◌&&◌, ◌==◌, not}
use Rattle.std.proofs.lemmas.Bool.{le-ltb, lt-ltb}
use Rattle.std.proofs.lemmas.List.Elements.{All-nil, All-push}
use Rattle.std.proofs.lemmas.List.Sums.{sum_by_push}
use Rattle.event_machine.specs.declared.Event.{Event}
use Rattle.syn_event.specs.Numbering.{Numbering}
use Rattle.seq_file.specs.text_lines.Capped.{capped}
use Rattle.seq_file.specs.text_lines.Numerals.{natural}
use Rattle.seq_file.proofs.text_lines.Marking.{cut-parts}
use Rattle.seq_file.proofs.text_lines.Spelling.{word-of_natural}
use Rattle.seq_file.specs.declared.errors.SeqError.{SeqError}
use Rattle.seq_file.specs.declared.errors.SeqError.TheVariants.{BadLine, OtherProgram, BadNumber, AfterEnd, TooMany, Memory}
use Rattle.seq_file.specs.declared.list_reading.Place.{Place}
use Rattle.seq_file.specs.Short.{IsShort}
use Rattle.seq_file.specs.Known.{is_known}
use Rattle.seq_file.specs.Files.{has_ended}
use Rattle.seq_file.specs.Lists.{most_listed, task_line, list_count, listed, list_header_line, ListText, IsListFit, ListReads, begins_list, next_list_fault, next_event_fault, last_ended, line_behind, IsBehindLists, IsInList, HasFirstListFault}
use Rattle.seq_file.specs.inner.NextEvents.{IsEventLine}
use Rattle.seq_file.specs.inner.NextLists.{IsBehindListHeader, IsListHead, IsNextListed, IsNextList, FailsAtList}
use Rattle.seq_file.proofs.Filing.{lines, lines-cons, lines-append, push-follows, push-ended}
use Rattle.seq_file.proofs.Heading.{list_header-begins}
use Rattle.seq_file.proofs.ListTexts.{text-behind, text-push, list-joined}
use Rattle.seq_file.proofs.TaskLines.{task-line, asked-written}
use Rattle.seq_file.proofs.Wording.{event-written}
use Rattle.common_lemmas.proofs.Truth.{clash}

-- ---- within a list

-- The list of a task is read up to a place: its line, which asks for so many events, and these ones, so that so many are left, up to the cap.
pub record IsReadInList (numbers : Numbering) (task : ℕ) (start : Place) (events : List Event) (place : Place) (left : ℕ) : Type 0 where
  pub word : List ℕ
  pub asked : ℕ
  pub text : start.rest.now ≡ task_line task word ++ (lines events ++ place.rest.now)
  pub asks : natural word ≡ Some asked
  pub cap : capped asked ≡ length events + left
  pub fit : IsListFit numbers events
  pub few : start.events + length events ≤ most_listed
  pub line : place.line ≡ start.line + length events + 1
  pub count : place.events ≡ start.events + length events
  pub ended : place.ended ≡ has_ended events
  pub room : place.line + length place.rest.now ≤ start.line + length start.rest.now

cut-length : (rest line behind : List ℕ) → rest ≡ line ++ (10 ∷ behind) → length behind + 1 ≤ length rest
cut-length rest line behind h = omega (arith, ap length h, length-append line (10 ∷ behind))

none-fit : (numbers : Numbering) → IsListFit numbers []
none-fit numbers = record { known = All-nil (λ event. is_known numbers event ≡ true); end = tt }

-- behind the line of the list
pub inside-start : (numbers : Numbering) (task : ℕ) (start place : Place) (asked : ℕ) → task < 2 ^ 64 →
    IsListHead task start.rest.now asked place.rest.now → start.events ≤ most_listed →
    place.line ≡ start.line + 1 → place.events ≡ start.events → place.ended ≡ false → IsReadInList numbers task start [] place asked
inside-start numbers task start place asked small head few el ec ee =
    let (word, written, asks) = asked-written task head.line head.number small head.asks in
    let parts : start.rest.now ≡ head.line ++ (10 ∷ place.rest.now) = cut-parts 10 start.rest.now head.line place.rest.now head.cuts in
    record {
      word = word;
      asked = head.number;
      text = parts ∙ ap (λ t. t ++ (10 ∷ place.rest.now)) written ∙ sym (task-line task word place.rest.now);
      asks = asks;
      cap = omega (arith, head.cap);
      fit = none-fit numbers;
      few = omega (arith, few);
      line = omega (arith, el);
      count = omega (arith, ec);
      ended = ee;
      room = omega (arith, el, cut-length start.rest.now head.line place.rest.now parts);
    }

-- one event more
pub inside-more : (numbers : Numbering) → IsShort numbers →
    (task : ℕ) (start place next : Place) (events : List Event) (event : Event) (left less : ℕ) → IsReadInList numbers task start events place left →
    IsNextListed numbers place event next →
    left ≡ less + 1 → IsReadInList numbers task start (events ++ (event ∷ [])) next less
inside-more numbers short task start place next events event left less to listed el =
    let line : IsEventLine numbers place.rest.now event next.rest.now = listed.next in
    let going : has_ended events ≡ false = sym to.ended ∙ listed.going in
    let parts : place.rest.now ≡ line.line ++ (10 ∷ next.rest.now) = cut-parts 10 place.rest.now line.line next.rest.now line.cuts in
    let one : place.rest.now ≡ lines (event ∷ []) ++ next.rest.now =
    parts ∙ ap (λ t. t ++ (10 ∷ next.rest.now)) (event-written numbers short line.line event line.writes line.known) ∙ sym (lines-cons event [] next.rest.now) in
    let more : length (events ++ (event ∷ [])) ≡ length events + 1 = omega (arith, length-append events (event ∷ [])) in
    record {
      word = to.word;
      asked = to.asked;
      text =
          to.text
          ∙ ap (λ t. task_line task to.word ++ (lines events ++ t)) one
          ∙ ap (λ t. task_line task to.word ++ t) (sym (append_assoc (lines events) (lines (event ∷ [])) next.rest.now) ∙ ap (λ t. t ++ next.rest.now) (sym (lines-append events (event ∷ []))));
      asks = to.asks;
      cap = omega (arith, to.cap, more, el);
      fit = record {
        known = All-push (λ e. is_known numbers e ≡ true) events event to.fit.known line.known;
        end = push-follows events event to.fit.end going;
      };
      few = omega (arith, more, to.count, listed.few);
      line = omega (arith, more, listed.line, to.line);
      count = omega (arith, more, listed.events, to.count);
      ended = listed.ended ∙ sym (push-ended events event going);
      room = omega (arith, listed.line, to.room, cut-length place.rest.now line.line next.rest.now parts);
    }

capped-exact : (n k : ℕ) → capped n ≡ k → k < 2 ^ 32 → n ≡ k
unfolding capped
capped-exact n k h small = omega (arith, h, small)

capped-more : (n k : ℕ) → k < capped n → k < n
unfolding capped
capped-more n k h = omega (arith, h)

-- the whole list
pub inside-end : (numbers : Numbering) (task : ℕ) (start place : Place) (events : List Event) (left : ℕ) →
    IsReadInList numbers task start events place left → left ≡ 0 → IsNextList numbers task start events place
inside-end numbers task start place events left to none =
    let exact : to.asked ≡ length events = capped-exact to.asked (length events) (omega (arith, to.cap, none)) (omega (arith, to.few)) in
    let word : to.word ≡ decimal (length events) = word-of_natural to.word (length events) (to.asks ∙ ap Some exact) (omega (arith, to.few)) in
    record {
      text = to.text ∙ ap (λ t. task_line task t ++ (lines events ++ place.rest.now)) word ∙ sym (list-joined task events place.rest.now);
      fit = to.fit;
      few = to.few;
      line = to.line;
      count = to.count;
      ended = to.ended;
      room = to.room;
    }

-- the fault of the next line, or of the file's early end
pub inside-fault : (numbers : Numbering) (task : ℕ) (start place : Place) (events : List Event) (left : ℕ) (error : SeqError) →
    IsReadInList numbers task start events place left → 0 < left →
    next_event_fault numbers task place.ended place.events place.line place.rest.now ≡ Some error → FailsAtList numbers task start error
inside-fault numbers task start place events left error to some fault = inr record {
  asked = to.asked;
  events = events;
  rest = place.rest.now;
  at = record {
    word = to.word;
    text = to.text;
    asks = to.asks;
    more = capped-more to.asked (length events) (omega (arith, to.cap, some));
    fit = to.fit;
    few = to.few;
  };
  fault =
      ap (λ b. next_event_fault numbers task b (start.events + length events) (start.line + length events + 1) place.rest.now) (sym to.ended)
      ∙ ap (λ n. next_event_fault numbers task place.ended n (start.line + length events + 1) place.rest.now) (sym to.count)
      ∙ ap (λ n. next_event_fault numbers task place.ended place.events n place.rest.now) (sym to.line)
      ∙ fault;
}

some-either : (b : Bool) (x y : SeqError) → cond b (Some x) (Some y) ≡ Some (cond b x y)
some-either true x y = refl
some-either false x y = refl

-- another line than the list's
pub head-fault : (numbers : Numbering) (task : ℕ) (place : Place) (error : SeqError) → task < list_count numbers → begins_list task place.rest.now ≡ false →
    error ≡ cond (place.ended && not (length place.rest.now == 0)) (AfterEnd place.line) (BadLine place.line) → FailsAtList numbers task place error
head-fault numbers task place error next other is_error =
    let behind : Bool = place.ended && not (length place.rest.now == 0) in
    let fault : Option SeqError = cond behind (Some (AfterEnd place.line)) (Some (BadLine place.line)) in
    inl (ap (λ b. cond b (cond (begins_list task place.rest.now) None fault) (cond (length place.rest.now == 0) None (Some (AfterEnd place.line)))) (lt-ltb task (list_count numbers) next)
    ∙ ap (λ b. cond b None fault) other
    ∙ some-either behind (AfterEnd place.line) (BadLine place.line)
    ∙ ap Some (sym is_error))

-- ---- list by list

-- The file is read up to a place: its header, and these lists.
pub record AreRead (bytes : List ℕ) (numbers : Numbering) (names : List (List ℕ)) (lists : List (List Event)) (place : Place) : Type 0 where
  pub at : IsBehindLists bytes numbers names lists place.rest.now
  pub line : place.line ≡ line_behind lists
  pub count : place.events ≡ listed lists
  pub ended : place.ended ≡ last_ended false lists
  pub room : place.line + length place.rest.now < 2 ^ 32

-- behind the header
pub lists-start : (bytes : List ℕ) (numbers : Numbering) (names : List (List ℕ)) (place : Place) → IsShort numbers → length bytes < 2 ^ 32 - 1 →
    IsBehindListHeader names numbers bytes place.rest.now →
    place.line ≡ 2 → place.events ≡ 0 → place.ended ≡ false → AreRead bytes numbers names [] place
lists-start bytes numbers names place short room header el ec ee =
    let whole : bytes ≡ list_header_line names numbers ++ place.rest.now = list_header-begins names numbers short bytes header.line place.rest.now header.cuts header.sound in
    record {
      at = record {
        text = whole ∙ sym (text-behind names numbers [] place.rest.now);
        count = omega arith;
        each = All-nil (IsListFit numbers);
        few = omega arith;
      };
      line = el;
      count = ec;
      ended = ee;
      room = omega (arith, el, room, cut-length bytes header.line place.rest.now (cut-parts 10 bytes header.line place.rest.now header.cuts));
    }

last_ended-push : (ended : Bool) (lists : List (List Event)) (events : List Event) → last_ended ended (lists ++ (events ∷ [])) ≡ has_ended events
last_ended-push ended [] events = refl
last_ended-push ended (first ∷ lists) events = last_ended-push (has_ended first) lists events

-- one list more
pub lists-more : (bytes : List ℕ) (numbers : Numbering) (names : List (List ℕ)) (lists : List (List Event)) (place next : Place) (events : List Event) →
    AreRead bytes numbers names lists place → length lists < list_count numbers →
    IsNextList numbers (length lists) place events next → AreRead bytes numbers names (lists ++ (events ∷ [])) next
lists-more bytes numbers names lists place next events to more list =
    let total : listed (lists ++ (events ∷ [])) ≡ listed lists + length events = sum_by_push length lists events in
    let count : length (lists ++ (events ∷ [])) ≡ length lists + 1 = omega (arith, length-append lists (events ∷ [])) in
    record {
      at = record {
        text = to.at.text ∙ ap (λ t. ListText names numbers lists ++ t) list.text ∙ text-push names numbers lists events next.rest.now;
        count = omega (arith, count, more);
        each = All-push (IsListFit numbers) lists events to.at.each list.fit;
        few = omega (arith, total, list.few, to.count);
      };
      line = omega (arith, list.line, to.line, total, count);
      count = omega (arith, list.count, to.count, total);
      ended = list.ended ∙ sym (last_ended-push false lists events);
      room = omega (arith, list.room, to.room);
    }

-- all lists
pub lists-end : (bytes : List ℕ) (numbers : Numbering) (names : List (List ℕ)) (lists : List (List Event)) (place : Place) →
    AreRead bytes numbers names lists place → list_count numbers ≤ length lists → place.rest.now ≡ [] →
    ListReads bytes numbers names lists
lists-end bytes numbers names lists place to all none = record {
  text = to.at.text ∙ ap (λ t. ListText names numbers lists ++ t) none ∙ append-nil (ListText names numbers lists);
  fit = record {
    count = omega (arith, all, to.at.count);
    each = to.at.each;
    few = to.at.few;
  };
}

-- the fault of a list
pub lists-fault : (bytes : List ℕ) (numbers : Numbering) (names : List (List ℕ)) (lists : List (List Event)) (place : Place) (error : SeqError) →
    AreRead bytes numbers names lists place → length lists < list_count numbers →
    FailsAtList numbers (length lists) place error → HasFirstListFault bytes numbers names error
lists-fault bytes numbers names lists place error to more (inl fault) = inr (inl record {
  lists = lists;
  rest = place.rest.now;
  at = to.at;
  fault =
      ap (λ b. next_list_fault (list_count numbers) (length lists) b (line_behind lists) place.rest.now) (sym to.ended)
      ∙ ap (λ n. next_list_fault (list_count numbers) (length lists) place.ended n place.rest.now) (sym to.line)
      ∙ fault;
})
lists-fault bytes numbers names lists place error to more (inr inside) = inr (inr record {
  lists = lists;
  list = place.rest.now;
  asked = inside.asked;
  events = inside.events;
  rest = inside.rest;
  behind = to.at;
  next = more;
  at = subst (λ n. IsInList numbers (length lists) n place.rest.now inside.asked inside.events inside.rest) to.count inside.at;
  fault =
      ap (λ n. next_event_fault numbers (length lists) (has_ended inside.events) (n + length inside.events) (line_behind lists + length inside.events + 1) inside.rest) (sym to.count)
      ∙ ap (λ n. next_event_fault numbers (length lists) (has_ended inside.events) (place.events + length inside.events) (n + length inside.events + 1) inside.rest) (sym to.line)
      ∙ inside.fault;
})

-- a line behind the last list
pub lists-behind : (bytes : List ℕ) (numbers : Numbering) (names : List (List ℕ)) (lists : List (List Event)) (place : Place) →
    AreRead bytes numbers names lists place → list_count numbers ≤ length lists → (length place.rest.now == 0) ≡ false →
    HasFirstListFault bytes numbers names (AfterEnd place.line)
lists-behind bytes numbers names lists place to all some =
    let first : Bool → Option SeqError
    = λ ended. cond (begins_list (length lists) place.rest.now) None (cond (ended && not (length place.rest.now == 0)) (Some (AfterEnd (line_behind lists))) (Some (BadLine (line_behind lists)))) in
    inr (inl record {
      lists = lists;
      rest = place.rest.now;
      at = to.at;
      fault =
          ap (λ b. cond b (first (last_ended false lists)) (cond (length place.rest.now == 0) None (Some (AfterEnd (line_behind lists))))) (le-ltb (length lists) (list_count numbers) all)
          ∙ ap (λ b. cond b None (Some (AfterEnd (line_behind lists)))) some
          ∙ ap (λ n. Some (AfterEnd n)) (sym to.line);
    })

-- the fault of the next task's list
pub task-fault : (bytes : List ℕ) (numbers : Numbering) (names : List (List ℕ)) (lists : List (List Event)) (place : Place) (task : ℕ) (error : SeqError) →
    AreRead bytes numbers names lists place → length lists ≡ task → task < list_count numbers →
    FailsAtList numbers task place error → HasFirstListFault bytes numbers names error
task-fault bytes numbers names lists place task error to count next fails =
    lists-fault bytes numbers names lists place error to (omega (arith, count, next)) (subst (λ n. FailsAtList numbers n place error) (sym count) fails)

-- the next task's list
pub task-more : (bytes : List ℕ) (numbers : Numbering) (names : List (List ℕ)) (lists : List (List Event)) (place next : Place) (task : ℕ) (events : List Event) →
    AreRead bytes numbers names lists place → length lists ≡ task → task < list_count numbers →
    IsNextList numbers task place events next → AreRead bytes numbers names (lists ++ (events ∷ [])) next
task-more bytes numbers names lists place next task events to count more list =
    lists-more bytes numbers names lists place next events to (omega (arith, count, more)) (subst (λ n. IsNextList numbers n place events next) (sym count) list)

abbrev is_memory : SeqError → Bool
is_memory Memory = true
is_memory _ = false

-- memory is wanting or not
pub memory-cases : (error : SeqError) → (error ≡ Memory) ⊎ (error ≢ Memory)
memory-cases Memory = inl refl
memory-cases (BadLine n) = inr (λ e. clash (ap is_memory e))
memory-cases (OtherProgram n) = inr (λ e. clash (ap is_memory e))
memory-cases (BadNumber n) = inr (λ e. clash (ap is_memory e))
memory-cases (AfterEnd n) = inr (λ e. clash (ap is_memory e))
memory-cases (TooMany n) = inr (λ e. clash (ap is_memory e))
