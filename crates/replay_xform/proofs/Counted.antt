-- The numbers by ids are those of the definition.
use Rattle.std.proofs.Common.{◌≡◌, ℕ, zero, suc, ◌+◌, List, ◌++◌, pred, length, Result, Ok, Err, IfOk, refl, ap, ◌∙◌}
use Rattle.syn_event.specs.Numbering.{Numbering}
use Rattle.syn_event.specs.AddedNames.{with_origins}
use Rattle.task_model.specs.Setting.{Setting}
use Rattle.normal_model.specs.NormalTree.{main_unit}
use Rattle.replay_model.specs.Names.{replay_names}
use Rattle.replay_model.specs.ReplayNumbers.{all_infos, added_infos, more_infos, numbers_replayed}
use Rattle.replay_asking.specs.Voice.{Voice}
use Rattle.replay_statements.specs.rules.Meant.{voice_in}
use Rattle.replay_xform.specs.numbering.Replayed.{lists_from, infos_from, numbers_by}
use Rattle.replay_asking.specs.declared.speaker.Speaker.{Speaker}
use Rattle.replay_asking.specs.Looked.{voice_of}
use Rattle.replay_declarations.specs.ids.Looking.{AreTables}
use Rattle.replay_xform.proofs.Spoken.{main-voice}

infos-is : (g : Setting) (n t : ℕ) → infos_from (voice_in (main_unit g)) t (lists_from g.numbers.entries n t) ≡ all_infos g n t
infos-is g zero t = refl
infos-is g (suc n) t = ap (λ rest. more_infos g t ++ rest) (infos-is g n (t + 1))

-- of main's voice
numbered : (g : Setting) → numbers_by (voice_in (main_unit g)) (replay_names g.program) ≡ numbers_replayed g
numbered g = λ i. record {
  main = g.numbers.main;
  tasks = (numbers_replayed g).tasks;
  entries = with_origins (replay_names g.program) (infos-is g (pred (length g.numbers.tasks)) 1 i ++ added_infos g.program (pred (length g.numbers.tasks)));
}

pub numbers-is : (g : Setting) (v : Voice) (names : List (List ℕ)) → v ≡ voice_in (main_unit g) → names ≡ replay_names g.program → numbers_by v names ≡ numbers_replayed g
numbers-is g v names voice are = (λ i. numbers_by (voice i) (are i)) ∙ numbered g

pub counted :
    {E : Type 0} (g : Setting) (x : Speaker) (names : List (List ℕ)) (done : Result Numbering E) →
    names ≡ replay_names g.program →
    AreTables g names x.tables.now →
    x.numbers.now ≡ g.numbers →
    x.task ≡ 0 →
    IfOk done (λ made. made ≡ numbers_by (voice_of x) names) →
    IfOk done (λ made. made ≡ numbers_replayed g)
counted g x names (Err e) same tables numbers task step = tt
counted g x names (Ok made) same tables numbers task step = step ∙ numbers-is g (voice_of x) names (main-voice g x names same tables numbers task) same
