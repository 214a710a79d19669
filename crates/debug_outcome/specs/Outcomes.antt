-- What a call comes to by its words and the bytes of its files: a text with a status, or a refusal with its line and status (this project's rules).
use Rattle.std.specs.Prelude.{ℕ, List, []}
use Rattle.debug_outcome.specs.Refusals.{refusal_line, refusal_status}
use Rattle.debug_outcome.specs.declared.refusal.Refusal.{Refusal}

-- What is put on the output, what on the error output, and the status.
pub record Outcome : Type 0 where
  pub out : List ℕ
  pub err : List ℕ
  pub status : ℕ

-- a text, with a status
abbrev pub writes : List ℕ → ℕ → Outcome
writes text status = record { out = text; err = []; status = status }

-- a refusal, with its line and its status
abbrev pub refuses : Refusal → Outcome
refuses refusal = record { out = []; err = refusal_line refusal; status = refusal_status refusal }
