-- The replay text of a program is that of its normal form.
use Rattle.std.proofs.Common.{◌≡◌, nat_lt, false, List, length, if◌then◌else◌, Result, Ok, Err, IfOk, sym, ap, ◌∙◌}
use Rattle.ada_tree.specs.declared.whole.Program.{Program}
use Rattle.ada_tree.specs.PlainProgram.{PProgram, plain_program}
use Rattle.ada_tree.specs.TypeTable.{TypeTable}
use Rattle.event_machine.specs.declared.Event.{Event}
use Rattle.syn_event.specs.Numbering.{Numbering}
use Rattle.control_script.specs.declared.Op.{Op}
use Rattle.task_model.specs.Setting.{Setting}
use Rattle.normal_model.specs.NormalTree.{normal_tree}
use Rattle.normal_model.specs.NormalNumbers.{normal_numbers}
use Rattle.replay_model.specs.ReplayTree.{most_events, normal_setting, replay_of, replay_tree, replayed}

-- the text of one setting is that of another that is the same
pub same-text :
    {E : Type 0} (g h : Setting) (ops : List Op) (done : Result Program E) →
    g ≡ h →
    IfOk done (λ text. plain_program text ≡ replay_of g ops) →
    IfOk done (λ text. plain_program text ≡ replay_of h ops)
same-text g h ops (Err e) same step = tt
same-text g h ops (Ok text) same step = step ∙ ap (λ s. replay_of s ops) same

abbrev pub setting : PProgram → TypeTable → Numbering → Setting
setting q types numbers = record { program = q; types = types; numbers = numbers }

-- a normal form that was made, with its numbers
pub setting-is :
    (p q : PProgram) (types : TypeTable) (numbers renumbered : Numbering) →
    q ≡ normal_tree p types numbers →
    renumbered ≡ normal_numbers q numbers →
    setting q types renumbered ≡ normal_setting p types numbers
setting-is p q types numbers renumbered made numbered =
    let all = numbered ∙ ap (λ x. normal_numbers x numbers) made in
    λ i. record { program = made i; types = types; numbers = all i }

pub text-is :
    (p : PProgram) (types : TypeTable) (numbers : Numbering) (events : List Event) (text : PProgram) →
    nat_lt most_events (length events) ≡ false →
    text ≡ replay_tree p types numbers events →
    replayed p types numbers events ≡ Ok text
text-is p types numbers events text short made =
    ap (λ b. if b then Err most_events else Ok (replay_tree p types numbers events)) short ∙ ap (λ t. Ok t) (sym made)
