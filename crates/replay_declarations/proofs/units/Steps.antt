-- The parts of a declaration that change, one after the other, make that of the replay text.
use Rattle.std.proofs.Common.{◌≡◌, ℕ, List, Some, None, Result, Ok, Err, OnOk, refl, ap, ◌∙◌}
use Rattle.std.proofs.lemmas.Option.{same_Some}
use Rattle.ada_tree.specs.declared.naming.Word.{Word}
use Rattle.ada_tree.specs.declared.shortage.Memory.{Memory}
use Rattle.ada_tree.specs.PlainDecl.{PDecl, DNumber, DObject, DEnumeration, DArray, DSubtype, DException, DIntIo, DPragma, DTask, DTaskBody}
use Rattle.replay_asking.specs.Voice.{Voice}
use Rattle.replay_declarations.specs.ids.Arranged.{decl_image}
use Rattle.replay_declarations.specs.units.inner.Steps.{body_name, with_objects, with_body, with_entries}

named : (v : Voice) (names : List (List ℕ)) (name : Word) (d : PDecl) → Some name ≡ body_name d → with_body v name (with_objects v names name.span d) ≡ decl_image v names d
named v names name (DTaskBody w objects its s) is = ap (λ n. with_body v n (with_objects v names n.span (DTaskBody w objects its s))) (same_Some name w is)
named v names name (DTask t s) is = cc
named v names name (DNumber w e s) is = cc
named v names name (DObject ws c x i s) is = cc
named v names name (DEnumeration w ws s) is = cc
named v names name (DArray w r x s) is = cc
named v names name (DSubtype w x s) is = cc
named v names name (DException ws s) is = cc
named v names name (DIntIo w s) is = cc
named v names name (DPragma e s) is = cc

unnamed : (v : Voice) (names : List (List ℕ)) (d : PDecl) → None ≡ body_name d → with_entries v d ≡ decl_image v names d
unnamed v names (DTaskBody w objects its s) is = cc
unnamed v names (DTask t s) is = refl
unnamed v names (DNumber w e s) is = refl
unnamed v names (DObject ws c x i s) is = refl
unnamed v names (DEnumeration w ws s) is = refl
unnamed v names (DArray w r x s) is = refl
unnamed v names (DSubtype w x s) is = refl
unnamed v names (DException ws s) is = refl
unnamed v names (DIntIo w s) is = refl
unnamed v names (DPragma e s) is = refl

pub body-step :
    (v : Voice) (names : List (List ℕ)) (name : Word) (old mid new : PDecl) (done : Result (Unit {0}) Memory) →
    Some name ≡ body_name old → mid ≡ with_objects v names name.span old → OnOk done (new ≡ with_body v name mid) → OnOk done (new ≡ decl_image v names old)
body-step v names name old mid new (Err e) is objects its = tt
body-step v names name old mid new (Ok u) is objects its = its ∙ ap (with_body v name) objects ∙ named v names name old is

pub task-step :
    (v : Voice) (names : List (List ℕ)) (old new : PDecl) (done : Result (Unit {0}) Memory) →
    None ≡ body_name old → OnOk done (new ≡ with_entries v old) → OnOk done (new ≡ decl_image v names old)
task-step v names old new (Err e) is entries = tt
task-step v names old new (Ok u) is entries = entries ∙ unnamed v names old is
