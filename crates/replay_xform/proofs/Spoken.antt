-- What tables of a text with these names tell main.
use Rattle.std.proofs.Common.{◌≡◌, ℕ, List, [], map, ap, ◌∙◌}
use Rattle.task_model.specs.Setting.{Setting}
use Rattle.normal_model.specs.Names.{id_of}
use Rattle.normal_model.specs.NormalTree.{main_unit}
use Rattle.replay_model.specs.Names.{double_text, replay_names}
use Rattle.replay_asking.specs.names.Added.{added_in}
use Rattle.replay_asking.specs.declared.speaker.Tables.{Tables}
use Rattle.replay_asking.specs.declared.speaker.Speaker.{Speaker}
use Rattle.replay_asking.specs.Looked.{voice_of}
use Rattle.replay_statements.specs.rules.Meant.{voice_in}
use Rattle.replay_declarations.specs.ids.Looking.{AreTables}
use Rattle.replay_declarations.proofs.ids.Told.{voice-is}

tables-are : (g : Setting) (names others : List (List ℕ)) (tables : Tables) → names ≡ others → AreTables g names tables → AreTables g others tables
tables-are g names others tables same are = record {
  added = are.added ∙ ap added_in same;
  doubles = are.doubles ∙ ap (λ ns. map (λ t. id_of ns (double_text t)) g.program.names) same;
  other = are.other ∙ ap (λ ns. id_of ns (double_text [])) same;
  marks = are.marks;
}

pub main-voice :
    (g : Setting) (x : Speaker) (names : List (List ℕ)) →
    names ≡ replay_names g.program →
    AreTables g names x.tables.now →
    x.numbers.now ≡ g.numbers →
    x.task ≡ 0 →
    voice_of x ≡ voice_in (main_unit g)
main-voice g x names same tables numbers task = voice-is (main_unit g) x (tables-are g names (replay_names g.program) x.tables.now same tables) numbers task
