-- The parts of a declaration that change, one after the other, make that of the collecting text.
use Rattle.std.proofs.Common.{◌≡◌, ℕ, List, Some, None, Result, Ok, Err, OnOk, refl, ap, ◌∙◌}
use Rattle.std.proofs.lemmas.Option.{same_Some}
use Rattle.ada_tree.specs.declared.naming.Span.{Span}
use Rattle.ada_tree.specs.declared.naming.Word.{Word}
use Rattle.ada_tree.specs.declared.shortage.Memory.{Memory}
use Rattle.ada_tree.specs.PlainStmt.{PBody}
use Rattle.ada_tree.specs.PlainDecl.{PDecl, DNumber, DObject, DEnumeration, DArray, DSubtype, DException, DIntIo, DPragma, DTask, DTaskBody}
use Rattle.collect_model.specs.aborts.AbortTeller.{AbortTeller}
use Rattle.collect_model.specs.aborts.AbortStmts.{task_body}
use Rattle.collect_model.specs.aborts.AbortTree.{abort_decl}
use Rattle.collect_xform.specs.units.Steps.{body_name, with_entries}
use Rattle.collect_abort.specs.Steps.{with_objects, with_body}

named : (x : AbortTeller) (names : List (List ℕ)) (name : Word) (d : PDecl) → Some name ≡ body_name d → with_body x name (with_objects x names name.span d) ≡ abort_decl x names d
named x names name (DTaskBody w objects its s) is = ap (λ n. with_body x n (with_objects x names n.span (DTaskBody w objects its s))) (same_Some name w is)
named x names name (DTask t s) is = cc
named x names name (DNumber w e s) is = cc
named x names name (DObject ws c y i s) is = cc
named x names name (DEnumeration w ws s) is = cc
named x names name (DArray w r y s) is = cc
named x names name (DSubtype w y s) is = cc
named x names name (DException ws s) is = cc
named x names name (DIntIo w s) is = cc
named x names name (DPragma e s) is = cc

unnamed : (x : AbortTeller) (names : List (List ℕ)) (d : PDecl) → None ≡ body_name d → with_entries x.teller d ≡ abort_decl x names d
unnamed x names (DTaskBody w objects its s) is = cc
unnamed x names (DTask t s) is = refl
unnamed x names (DNumber w e s) is = refl
unnamed x names (DObject ws c y i s) is = refl
unnamed x names (DEnumeration w ws s) is = refl
unnamed x names (DArray w r y s) is = refl
unnamed x names (DSubtype w y s) is = refl
unnamed x names (DException ws s) is = refl
unnamed x names (DIntIo w s) is = refl
unnamed x names (DPragma e s) is = refl

pub body-step :
    (x : AbortTeller) (names : List (List ℕ)) (name : Word) (old mid new : PDecl) (done : Result (Unit {0}) Memory) →
    Some name ≡ body_name old → mid ≡ with_objects x names name.span old → OnOk done (new ≡ with_body x name mid) → OnOk done (new ≡ abort_decl x names old)
body-step x names name old mid new (Err e) is objects its = tt
body-step x names name old mid new (Ok u) is objects its = its ∙ ap (with_body x name) objects ∙ named x names name old is

pub task-step :
    (x : AbortTeller) (names : List (List ℕ)) (old new : PDecl) (done : Result (Unit {0}) Memory) →
    None ≡ body_name old → OnOk done (new ≡ with_entries x.teller old) → OnOk done (new ≡ abort_decl x names old)
task-step x names old new (Err e) is entries = tt
task-step x names old new (Ok u) is entries = entries ∙ unnamed x names old is

-- the body of a unit, by what it is told
pub told-body :
    (v w : AbortTeller) (s : Span) (old new : PBody) (done : Result (Unit {0}) Memory) →
    v ≡ w → OnOk done (new ≡ task_body v s old) → OnOk done (new ≡ task_body w s old)
told-body v w s old new (Err e) is put = tt
told-body v w s old new (Ok ok) is put = put ∙ ap (λ x. task_body x s old) is
