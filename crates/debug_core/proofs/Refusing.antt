-- What a stop says that the refusal of a text or of its program is told as.
use Rattle.std.proofs.Common.{ℕ, List, inl, inr}
use Rattle.ada_tree.specs.PlainProgram.{PProgram}
use Rattle.ada_check.specs.declared.errors.CheckError.{CheckError}
use Rattle.ada_check.specs.Verdicts.{TellsWhy}
use Rattle.ada_parser.specs.declared.errors.ReadError.{ReadError}
use Rattle.ada_parser.specs.Exactly.{IsRead}
use Rattle.ada_parser.specs.Refusals.{IsRefusedFor}
use Rattle.syn_event.specs.declared.numbering.Mode.{Mode}
use Rattle.debug_outcome.specs.Coming.{Stops, stop_by}
use Rattle.debug_outcome.specs.declared.stopping.Stop.{Stop}
use Rattle.debug_outcome.proofs.Comings.{stops_by, stops_more}
use Rattle.debug_core.specs.LegalTexts.{IsRefusedText}
use Rattle.debug_core.specs.RuleFaults.{refusal_of_error}
use Rattle.debug_core.specs.TextFaults.{IsUnreadableText, refusal_of_read}

-- a text that is refused calls for its refusal
pub stops_unreadable_text : (text : List ℕ) (e : ReadError) → IsRefusedFor text e → Stops (IsUnreadableText text) (stop_by (refusal_of_read text e))
stops_unreadable_text text e h = stops_by (IsUnreadableText text) (refusal_of_read text e) (λ o told. record { error = e; refused = h; told = told })

-- so it gives no program that meets the rules
pub stops_text : (text : List ℕ) (mode : Mode) (stop : Stop) → Stops (IsUnreadableText text) stop → Stops (IsRefusedText text mode) stop
stops_text text mode stop h = stops_more (IsUnreadableText text) (IsRefusedText text mode) stop (λ o unreadable. inl unreadable) h

-- nor does the text of a program that is refused
pub stops_illegal : (p : PProgram) (mode : Mode) (text : List ℕ) (e : CheckError) → IsRead text p → TellsWhy p mode e → Stops (IsRefusedText text mode) (stop_by (refusal_of_error text e))
stops_illegal p mode text e is_read h =
    stops_by (IsRefusedText text mode) (refusal_of_error text e)
    (λ o told. inr (record { program = p; is_read = is_read; illegal = record { error = e; refused = h; told = told } }))
