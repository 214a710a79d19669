-- A sequence file read line by line, as against the whole file.
use Rattle.std.proofs.Common.{◌≡◌, ◌≢◌, ℕ, ◌+◌, ◌≤◌, ◌<◌, Bool, false, cond, List, [], ◌∷◌, length, Some, refl, ap, ◌∙◌, arith, length-append}
use Rattle.std.specs.Prelude.{option_and_then}
use Rattle.std.proofs.lemmas.Bool.{lt-ltb}
use Rattle.event_machine.specs.declared.Event.{Event}
use Rattle.syn_event.specs.Numbering.{Numbering}
use Rattle.seq_file.specs.text_lines.Lines.{first_line}
use Rattle.seq_file.proofs.text_lines.Marking.{cut-parts}
use Rattle.seq_file.specs.declared.errors.SeqError.{SeqError}
use Rattle.seq_file.specs.declared.errors.SeqError.TheVariants.{AfterEnd, TooMany}
use Rattle.seq_file.specs.Files.{most_events, IsReadBehind, has_ended, SeqReads, HasFirstFault, fault_of_event, line_fault, open_fault}
use Rattle.seq_file.specs.Lines.{event_of_line}
use Rattle.seq_file.specs.inner.NextEvents.{IsEventLine, IsBehindHeader}
use Rattle.seq_file.specs.Short.{IsShort}
use Rattle.seq_file.proofs.Filing.{IsReadTo, read-start, read-end, read-fault}

pub step-start : (bytes : List ℕ) (numbers : Numbering) (names : List (List ℕ)) (rest : List ℕ) → IsShort numbers → IsBehindHeader names numbers bytes rest → IsReadBehind bytes numbers names [] rest
step-start bytes numbers names rest short header =
    let to : IsReadTo bytes numbers names [] rest false = read-start bytes numbers names rest short header in
    record { text = to.text; known = to.fit.known; end = to.fit.end }

-- what stands behind a line is shorter
pub header-shorter : (names : List (List ℕ)) (numbers : Numbering) (bytes rest : List ℕ) → IsBehindHeader names numbers bytes rest → length rest < length bytes
header-shorter names numbers bytes rest header =
    omega (arith, ap length (cut-parts 10 bytes header.line rest header.cuts), length-append header.line (10 ∷ rest))

pub event-shorter : (numbers : Numbering) (rest behind : List ℕ) (event : Event) → IsEventLine numbers rest event behind → length behind < length rest
event-shorter numbers rest behind event next =
    omega (arith, ap length (cut-parts 10 rest next.line behind next.cuts), length-append next.line (10 ∷ behind))

-- few enough events of a file that is read behind them
few-read : (bytes : List ℕ) (numbers : Numbering) (names : List (List ℕ)) (events : List Event) (rest : List ℕ) → IsReadBehind bytes numbers names events rest → length events ≤ most_events → IsReadTo bytes numbers names events rest (has_ended events)
few-read bytes numbers names events rest read few = record {
  text = read.text;
  fit = record { known = read.known; end = read.end; few = few };
  ends = refl;
}

pub step-whole : (bytes : List ℕ) (numbers : Numbering) (names : List (List ℕ)) (events : List Event) (rest : List ℕ) → IsReadBehind bytes numbers names events rest → rest ≡ [] → length events ≤ most_events → SeqReads bytes numbers names events
step-whole bytes numbers names events rest read none few = read-end bytes numbers names events rest (has_ended events) (few-read bytes numbers names events rest read few) none

same-fault : (numbers : Numbering) (ended : Bool) (count : ℕ) (rest : List ℕ) → count < most_events → line_fault numbers ended count rest ≡ open_fault numbers ended count rest
same-fault numbers ended count rest few =
    ap (λ b. cond ended (Some (AfterEnd (count + 2))) (cond b (fault_of_event numbers (count + 2) (option_and_then event_of_line (first_line rest))) (Some (TooMany most_events)))) (lt-ltb count most_events few)

pub step-fault : (bytes : List ℕ) (numbers : Numbering) (names : List (List ℕ)) (events : List Event) (rest : List ℕ) (error : SeqError) → IsReadBehind bytes numbers names events rest → rest ≢ [] →
    open_fault numbers (has_ended events) (length events) rest ≡ Some error → length events < most_events → HasFirstFault bytes numbers names error
step-fault bytes numbers names events rest error read more fault few =
    read-fault bytes numbers names events rest (has_ended events) error (few-read bytes numbers names events rest read (omega (arith, few))) more
    (same-fault numbers (has_ended events) (length events) rest few ∙ fault)
