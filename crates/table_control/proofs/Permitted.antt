-- A body that was made as it is defined lets tasks do the operations and nothing else.
use Rattle.std.proofs.Common.{◌≡◌, ℕ, List, map, Result, Ok, Err, IfOk, sym, subst}
use Rattle.ada_tree.specs.declared.naming.Span.{Span}
use Rattle.ada_tree.specs.declared.shortage.Memory.{Memory}
use Rattle.ada_tree.specs.PlainStmt.{PBody, plain_body}
use Rattle.ada_tree.specs.PlainDecl.{PDecl, plain_decl}
use Rattle.syn_event.specs.declared.numbering.TaskInfo.{TaskInfo}
use Rattle.control_script.specs.declared.Op.{Op}
use Rattle.replay_model.specs.declared.tables.names.ControlNames.{ControlNames}
use Rattle.replay_model.specs.tables.ControlTexts.{with_control_names, ids_in}
use Rattle.replay_model.specs.tables.Tables.{control_objects}
use Rattle.replay_model.specs.tables.ControlBodies.{control_block}
use Rattle.table_law.specs.runs.Bodies.{Permits}
use Rattle.table_law.proofs.runs.Bodies.{bodies_permit}
use Rattle.table_control.specs.declared.control_bodies.ControlBody.{ControlBody}

pub permitted :
    (before names : List (List ℕ)) (n : ControlNames) (ops : List Op) (infos : List TaskInfo) (s : Span) (r : Result ControlBody Memory) →
    names ≡ with_control_names before →
    n ≡ ids_in names →
    IfOk r (λ made. map plain_decl made.objects.items ≡ control_objects n s ops) →
    IfOk r (λ made. plain_body made.body ≡ control_block n infos s ops) →
    IfOk r (λ made. Permits (map plain_decl made.objects.items) (plain_body made.body) ops infos s names)
permitted before names n ops infos s (Err e) named ids objects its = tt
permitted before names n ops infos s (Ok made) named ids objects its =
    subst (λ (b : PBody). Permits (map plain_decl made.objects.items) b ops infos s names) (sym its)
    (subst (λ (ds : List PDecl). Permits ds (control_block n infos s ops) ops infos s names) (sym objects)
    (subst (λ (m : ControlNames). Permits (control_objects m s ops) (control_block m infos s ops) ops infos s names) (sym ids)
    (subst (λ (ns : List (List ℕ)). Permits (control_objects (ids_in ns) s ops) (control_block (ids_in ns) infos s ops) ops infos s ns) (sym named) (bodies_permit ops infos s before))))
