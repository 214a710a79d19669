-- A replay text that is answered is legal and well placed, so what is printed of it is read back.
use Rattle.std.proofs.Common.{◌≡◌, ℕ, true, false, Bool, nat_lt, if◌then◌else◌, length, Result, Ok, Err, sym, ap, subst, true≢false}
use Rattle.ada_tree.specs.PlainProgram.{PProgram}
use Rattle.ada_static_rules.specs.Refusals.{types_in}
use Rattle.replay_model.specs.ReplayTree.{most_events, replay_tree}
use Rattle.normal_laws.specs.runs.forms.Normalisable.{numbers_of}
use Rattle.text_laws.proofs.normal.Joined.{text_is_legal}
use Rattle.read_back.proofs.Whole.{read_back}
use Rattle.replay_model.specs.Promised.{IsReplayText}
use Rattle.replay_structure.proofs.legal.names.Legal.{replay_is_as_promised}
use Rattle.text_laws.specs.replay_read_back.Laws.{ReplayIsPromised, ReplayIsReadBack}

-- the text of an answer, or another one
abbrev told : Result PProgram ℕ → PProgram → PProgram
told (Ok text) other = text
told (Err limit) other = other

abbrev is_text : Result PProgram ℕ → Bool
is_text (Ok text) = true
is_text (Err limit) = false

-- what holds of the text that is defined holds of what is answered
of_answer : (P : PProgram → Type 0) (b : Bool) (text tree : PProgram) → (if b then Err most_events else Ok tree) ≡ Ok text → P tree → P text
of_answer P true text tree h holds = absurd (true≢false (sym (ap is_text h)))
of_answer P false text tree h holds = subst P (ap (λ (r : Result PProgram ℕ). told r text) h) holds

pub replay_is_promised : ReplayIsPromised
replay_is_promised bytes p lines events text h =
    of_answer (IsReplayText p (types_in p) (numbers_of p) events) (nat_lt most_events (length events)) text (replay_tree p (types_in p) (numbers_of p) events) h.is
    (replay_is_as_promised p events (text_is_legal bytes p h.legal) record { each = h.sequence.fit.known; few = h.sequence.fit.few })

pub replay_is_read_back : ReplayIsReadBack
replay_is_read_back bytes p lines events text h = read_back text (replay_is_promised bytes p lines events text h).placed
