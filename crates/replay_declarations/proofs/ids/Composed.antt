-- The program by ids is the replay text of the definitions.
use Rattle.std.proofs.Common.{◌≡◌, ◌||◌, not, ℕ, List, [], ◌∷◌, ◌++◌, map, fold, flat_map, refl, sym, ap, ◌∙◌}
use Rattle.std.proofs.lemmas.List.Sums.{fold-append}
use Rattle.std.specs.List.{filter}
use Rattle.ada_tree.specs.declared.naming.Span.{Span}
use Rattle.ada_tree.specs.NameList.{interned}
use Rattle.ada_tree.specs.PlainDecl.{PDecl, DNumber, DObject, DEnumeration, DArray, DSubtype, DException, DIntIo, DPragma, DTask, DTaskBody, decls_of}
use Rattle.ada_tree.specs.PlainProgram.{PProgram}
use Rattle.syn_event.specs.DeclaredTasks.{decl_list, tasks_in}
use Rattle.control_script.specs.declared.Op.{Op}
use Rattle.task_model.specs.Setting.{Setting}
use Rattle.normal_model.specs.NormalTree.{main_unit, unit_for}
use Rattle.replay_model.specs.Names.{replay_names, added_texts, double_texts}
use Rattle.replay_model.specs.ReplayTree.{permit_declared, behind_own, replay_decl, replay_decls, replay_of, is_task, is_body, last_task}
use Rattle.replay_model.specs.ReplayStmts.{replay_body}
use Rattle.replay_model.specs.tables.ControlTexts.{ids_in}
use Rattle.replay_model.specs.Controlling as model
use Rattle.replay_asking.specs.names.Added.{with_added}
use Rattle.replay_asking.specs.Voice.{Voice}
use Rattle.replay_declarations.specs.control.Controlled.{control_body}
use Rattle.replay_statements.specs.rules.Replayed.{body_image}
use Rattle.replay_statements.specs.rules.Meant.{voice_in}
use Rattle.replay_statements.proofs.rules.Bodies.{body-is}
use Rattle.replay_declarations.specs.ids.Arranged.{decl_image, decls_image}
use Rattle.replay_declarations.specs.ids.Laws.{names_made, controller_by, text_by}

-- ---- names

-- the names are interned in two parts
pub names-is : (q : PProgram) → fold interned (with_added q.names) (flat_map (double_texts q.names) (tasks_in (decl_list q.decls))) ≡ replay_names q
unfolding with_added
names-is q = sym (fold-append interned q.names added_texts (flat_map (double_texts q.names) (tasks_in (decl_list q.decls))))

-- ---- the controller

-- the body of the controller, by what main is told, where these are the names of the text
pub control-is :
    (g : Setting) (ops : List Op) (v : Voice) (names : List (List ℕ)) (s : Span) → v ≡ voice_in (main_unit g) → names ≡ replay_names g.program →
    control_body v.added (ids_in names) v.numbers.tasks s ops ≡ model.control_body g s ops
control-is g ops v names s voice are = λ i. control_body (voice i).added (ids_in (are i)) (voice i).numbers.tasks s ops

-- ---- declarations

decl-is : (g : Setting) (d : PDecl) → decl_image (voice_in (main_unit g)) g.program.names d ≡ replay_decl g d
decl-is g (DTask t s) = refl
decl-is g (DTaskBody w objects its s) =
    ap (λ b. DTaskBody w (decls_of (behind_own g.program.names (permit_declared g.program w.span) (decl_list objects))) b s) (body-is (unit_for g w.name) w.span its)
decl-is g (DNumber w e s) = refl
decl-is g (DObject ws c x i s) = refl
decl-is g (DEnumeration w ws s) = refl
decl-is g (DArray w r x s) = refl
decl-is g (DSubtype w x s) = refl
decl-is g (DException ws s) = refl
decl-is g (DIntIo w s) = refl
decl-is g (DPragma e s) = refl

map-is : (g : Setting) (ds : List PDecl) → map (decl_image (voice_in (main_unit g)) g.program.names) ds ≡ map (replay_decl g) ds
map-is g [] = refl
map-is g (d ∷ ds) = λ i. decl-is g d i ∷ map-is g ds i

decls-is :
    (g : Setting) (s : Span) (ops : List Op) (control : PDecl) → control ≡ model.control_body g s ops →
    decls_image (voice_in (main_unit g)) g.program.names (last_task g.numbers) s control (decl_list g.program.decls) ≡ replay_decls g s ops
decls-is g s ops control is = λ i.
    behind_own g.program.names (permit_declared g.program s) (filter (λ d. not (is_task d || is_body d)) (decl_list g.program.decls))
    ++ map-is g (filter is_task (decl_list g.program.decls)) i
    ++ (model.control_declared g.program s (last_task g.numbers) ∷ model.idle_declared g.program s ∷ [])
    ++ map-is g (filter is_body (decl_list g.program.decls)) i
    ++ (is i ∷ model.idle_body g.program s ∷ [])

-- ---- the program

pub composed :
    (g : Setting) (ops : List Op) (v : Voice) (control : PDecl) (t : PProgram) →
    v ≡ voice_in (main_unit g) →
    control ≡ model.control_body g g.program.name.span ops →
    t.names ≡ replay_names g.program →
    t.text_io ≡ g.program.text_io →
    t.name ≡ g.program.name →
    t.decls ≡ decls_of (decls_image v g.program.names (last_task g.numbers) g.program.name.span control (decl_list g.program.decls)) →
    t.body ≡ body_image v g.program.name.span g.program.body →
    t ≡ replay_of g ops
composed g ops v control t voice controlled names io name decls its = λ i. record {
  names = names i;
  text_io = io i;
  name = name i;
  decls = all_decls i;
  body = whole_body i;
}
  where
    all_decls : t.decls ≡ decls_of (replay_decls g g.program.name.span ops)
    all_decls =
        decls ∙ ap (λ u. decls_of (decls_image u g.program.names (last_task g.numbers) g.program.name.span control (decl_list g.program.decls))) voice
        ∙ ap decls_of (decls-is g g.program.name.span ops control controlled)

    whole_body : t.body ≡ replay_body (main_unit g) g.program.name.span g.program.body
    whole_body = its ∙ ap (λ u. body_image u g.program.name.span g.program.body) voice ∙ body-is (main_unit g) g.program.name.span g.program.body

pub ids_agree : (g : Setting) (ops : List Op) → text_by (voice_in (main_unit g)) g ops ≡ replay_of g ops
ids_agree g ops =
    composed g ops (voice_in (main_unit g)) (controller_by (voice_in (main_unit g)) g ops) (text_by (voice_in (main_unit g)) g ops)
    refl (control-is g ops (voice_in (main_unit g)) (names_made g.program) g.program.name.span refl (names-is g.program)) (names-is g.program) refl refl refl refl
