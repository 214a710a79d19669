-- A copy of a normal form whose parts became those by ids is the replay text.
use Rattle.std.proofs.Common.{◌≡◌, ℕ, List, map, flat_map, Result, Ok, Err, OnOk, sym, ap, ◌∙◌}
use Rattle.std.specs.List.{fold}
use Rattle.ada_tree.specs.declared.declarations.Decl.{Decl}
use Rattle.ada_tree.specs.declared.shortage.Memory.{Memory}
use Rattle.ada_tree.specs.declared.whole.Program.{Program}
use Rattle.ada_tree.specs.NameList.{interned}
use Rattle.ada_tree.specs.PlainStmt.{plain_body}
use Rattle.ada_tree.specs.PlainDecl.{PDecl, plain_decl, decls_of}
use Rattle.ada_tree.specs.PlainProgram.{PProgram, plain_program}
use Rattle.syn_event.specs.DeclaredTasks.{decl_list, tasks_in}
use Rattle.control_script.specs.declared.Op.{Op}
use Rattle.task_model.specs.Setting.{Setting}
use Rattle.replay_model.specs.Names.{replay_names, double_texts}
use Rattle.normal_model.specs.NormalTree.{main_unit}
use Rattle.replay_model.specs.tables.ControlTexts.{ids_in}
use Rattle.replay_model.specs.Controlling as model
use Rattle.replay_model.specs.ReplayTree.{last_task, replay_of}
use Rattle.replay_asking.specs.names.Added.{with_added}
use Rattle.replay_asking.specs.declared.speaker.Speaker.{Speaker}
use Rattle.replay_asking.specs.Looked.{voice_of}
use Rattle.replay_statements.specs.rules.Replayed.{body_image}
use Rattle.replay_statements.specs.rules.Meant.{voice_in}
use Rattle.replay_declarations.specs.ids.Arranged.{decls_image}
use Rattle.replay_declarations.specs.control.Controlled.{control_body}
use Rattle.replay_declarations.specs.ids.Looking.{AreTables}
use Rattle.replay_declarations.proofs.ids.Composed.{composed, control-is, names-is}
use Rattle.replay_xform.proofs.Spoken.{main-voice}
use Rattle.syn_event.proofs.DeclLists.{listed_back}

-- the names of a program, with those that are added
pub named :
    (q : Program) (before after : List (List ℕ)) (decls : List Decl) (done : Result (Unit {0}) Memory) →
    before ≡ q.names →
    decls ≡ q.decls.items →
    OnOk done (after ≡ fold interned (with_added before) (flat_map (double_texts q.names) (tasks_in (map plain_decl decls)))) →
    OnOk done (after ≡ replay_names (plain_program q))
named q before after decls (Err e) begins lent step = tt
named q before after decls (Ok u) begins lent step =
    step
    ∙ ap (λ ns. fold interned (with_added ns) (flat_map (double_texts q.names) (tasks_in (map plain_decl decls)))) begins
    ∙ ap (λ (ds : List Decl). fold interned (with_added q.names) (flat_map (double_texts q.names) (tasks_in (map plain_decl ds)))) lent
    ∙ ap (λ (ds : List PDecl). fold interned (with_added q.names) (flat_map (double_texts q.names) (tasks_in ds))) (sym (listed_back (map plain_decl q.decls.items)))
    ∙ names-is (plain_program q)

-- what stands at the head of all units is that of the program
heads-are :
    (g : Setting) (x : Speaker) (q : Program) (last : ℕ) (control : PDecl) (ds : List PDecl) →
    plain_program q ≡ g.program →
    last ≡ last_task g.numbers →
    decls_image (voice_of x) q.names last q.name.span control ds ≡ decls_image (voice_of x) g.program.names (last_task g.numbers) g.program.name.span control ds
heads-are g x q last control ds program is_last =
    ap (λ n. decls_image (voice_of x) q.names n q.name.span control ds) is_last
    ∙ ap (λ (p : PProgram). decls_image (voice_of x) p.names (last_task g.numbers) p.name.span control ds) program

-- the body of the controller, where these are the names of the text
controlled :
    (g : Setting) (ops : List Op) (x : Speaker) (q : Program) (names : List (List ℕ)) (control : PDecl) →
    voice_of x ≡ voice_in (main_unit g) →
    names ≡ replay_names g.program →
    plain_program q ≡ g.program →
    control ≡ control_body x.tables.now.added (ids_in names) x.numbers.now.tasks q.name.span ops →
    control ≡ model.control_body g g.program.name.span ops
controlled g ops x q names control voice named program is =
    is
    ∙ ap (λ (p : PProgram). control_body x.tables.now.added (ids_in names) x.numbers.now.tasks p.name.span ops) program
    ∙ control-is g ops (voice_of x) names g.program.name.span voice named

-- `old` is the copy before it was changed, and `q` the program of which it is one
pub finished :
    (g : Setting) (ops : List Op) (x : Speaker) (q old new : Program) (names : List (List ℕ)) (control : PDecl) (last : ℕ) (done : Result (Unit {0}) Memory) →
    AreTables g names x.tables.now → x.numbers.now ≡ g.numbers → x.task ≡ 0 →
    plain_program q ≡ g.program →
    plain_program old ≡ g.program →
    names ≡ replay_names (plain_program q) →
    control ≡ control_body x.tables.now.added (ids_in names) x.numbers.now.tasks q.name.span ops →
    last ≡ last_task g.numbers →
    OnOk done (new.names ≡ names) →
    OnOk done (new.text_io ≡ old.text_io) →
    OnOk done (new.name ≡ old.name) →
    OnOk done (map plain_decl new.decls.items ≡ decls_image (voice_of x) q.names last q.name.span control (map plain_decl old.decls.items)) →
    OnOk done (plain_body new.body ≡ body_image (voice_of x) q.name.span (plain_body old.body)) →
    OnOk done (plain_program new ≡ replay_of g ops)
finished g ops x q old new names control last (Err e) tables numbers task program copied are is_control is_last is_names is_io is_name is_decls is_body = tt
finished g ops x q old new names control last (Ok u) tables numbers task program copied are is_control is_last is_names is_io is_name is_decls is_body =
    let named : names ≡ replay_names g.program = are ∙ ap replay_names program in
    let voice = main-voice g x names named tables numbers task in
    let declared = sym (listed_back (map plain_decl old.decls.items)) ∙ ap (λ (p : PProgram). decl_list p.decls) copied in
    composed g ops (voice_of x) control (plain_program new) voice
    (controlled g ops x q names control voice named program is_control)
    (is_names ∙ named)
    (is_io ∙ ap (λ (p : PProgram). p.text_io) copied)
    (is_name ∙ ap (λ (p : PProgram). p.name) copied)
    (ap decls_of (is_decls ∙ heads-are g x q last control (map plain_decl old.decls.items) program is_last ∙ ap (decls_image (voice_of x) g.program.names (last_task g.numbers) g.program.name.span control) declared))
    (is_body ∙ ap (λ (p : PProgram). body_image (voice_of x) p.name.span (plain_body old.body)) program ∙ ap (λ (p : PProgram). body_image (voice_of x) g.program.name.span p.body) copied)
