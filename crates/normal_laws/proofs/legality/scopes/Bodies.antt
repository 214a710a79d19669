-- The scope of each copy of a body in the normal form of a legal program is alike that of the body in the program, and there each task has its own name.
use Rattle.std.proofs.Common.{◌≡◌, ℕ, Bool, true, false, List, [], Some, None, ⊎_elim, refl, sym, ap, ◌∙◌, subst}
use Rattle.common_lemmas.proofs.Lists.{not_empty}
use Rattle.ada_tree.specs.declared.naming.Word.{Word}
use Rattle.ada_tree.specs.PlainDecl.{PTask, PDecl, DNumber, DObject, DEnumeration, DArray, DSubtype, DException, DIntIo, DPragma, DTask, DTaskBody, PDecls, no_decl, decl_then}
use Rattle.ada_static_rules.specs.Scope.{Scope, EntryPart, meaning, entry_named}
use Rattle.ada_static_rules.specs.RuleUnknown.{no_body_of}
use Rattle.ada_static_rules.specs.Declaring.{task_thing, own_entries, in_body, inner_scope, after_own_object, after_objects}
use Rattle.normal_model.specs.NormalTree.{decls_front}
use Rattle.task_laws.specs.legal.rewritten_types.Rewriting.{AreAdded}
use Rattle.task_laws.proofs.legal.rewritten_types.Adding.{names-main}
use Rattle.task_laws.specs.legal.alike_scopes.Alike.{SameNames, Alike}
use Rattle.task_laws.specs.legal.alike_scopes.Old.{AreOldObjects}
use Rattle.task_laws.proofs.legal.alike_scopes.Naming.{inside-alike}
use Rattle.task_laws.proofs.legal.alike_scopes.Inner.{objects-alike, new-objects}
use Rattle.normal_laws.proofs.legality.scopes.Seeing.{entries_in}
use Rattle.normal_laws.proofs.legality.scopes.Units.{IsUnitOrNot}

-- ---- the entries around

-- the entries of a task or task type, by what its name means
thing-entries : (b : Bool) (es : List EntryPart) → own_entries (Some (task_thing b es)) ≡ es
thing-entries true es = refl
thing-entries false es = refl

-- where a body may stand, its task is seen
pub body-own : (S s : Scope) (w : Word) (u : PTask) → u.name.name.0 ≡ w.name.0 → IsUnitOrNot S s u → no_body_of (meaning s w.name) w ≡ [] → own_entries (meaning s w.name) ≡ entries_in S u
body-own S s w u same h known = ⊎_elim there absent h
  where
    named : meaning s u.name.name ≡ meaning s w.name
    named = ap (λ n. meaning s record { 0 = n }) same

    there : meaning s u.name.name ≡ Some (task_thing u.of_kind (entries_in S u)) → own_entries (meaning s w.name) ≡ entries_in S u
    there e = ap own_entries (sym named ∙ e) ∙ thing-entries u.of_kind (entries_in S u)

    absent : meaning s u.name.name ≡ None → own_entries (meaning s w.name) ≡ entries_in S u
    absent e = absurd (not_empty w.span [] (sym (ap (λ o. no_body_of o w) (sym named ∙ e)) ∙ known))

-- ---- objects and variables

pub objects-front : (ds rest : PDecls) (s : Scope) → after_objects s (decls_front ds rest) ≡ after_objects (after_objects s ds) rest
objects-front no_decl rest s = refl
objects-front (decl_then d ds) rest s = objects-front ds rest (after_own_object s d)

-- the scope where the statements of a body begin, and that of its copy
pub body-alike : (old : ℕ → Bool) (s t : Scope) (w v : Word) (objects vars : PDecls) → SameNames old s t → own_entries (meaning s w.name) ≡ own_entries (meaning t v.name) → AreOldObjects old objects → AreAdded old vars →
    Alike old (inner_scope (after_objects (in_body s w) objects)) (inner_scope (after_objects (in_body t v) (decls_front objects vars)))
body-alike old s t w v objects vars n own os new =
    inside-alike old (after_objects (in_body s w) objects) (after_objects (in_body t v) (decls_front objects vars))
    (subst (Alike old (after_objects (in_body s w) objects)) (sym (objects-front objects vars (in_body t v)))
    (new-objects old vars (after_objects (in_body s w) objects) (after_objects (in_body t v) objects) (objects-alike old objects (in_body s w) (in_body t v) begins refl os) (inner-main objects (in_body t v) refl) new))
  where
    begins : Alike old (in_body s w) (in_body t v)
    begins = record { names = record { types = n.types; things = n.things }; own = λ id o. ap (λ es. entry_named es id) own; main = refl }

    own-main : (d : PDecl) (q : Scope) → (after_own_object q d).in_main ≡ q.in_main
    own-main (DObject ws c x i sp) q = names-main _ ws _
    own-main (DNumber a e sp) q = refl
    own-main (DEnumeration a ws sp) q = refl
    own-main (DArray a i x sp) q = refl
    own-main (DSubtype a x sp) q = refl
    own-main (DException ws sp) q = refl
    own-main (DIntIo a sp) q = refl
    own-main (DPragma e sp) q = refl
    own-main (DTask u sp) q = refl
    own-main (DTaskBody a os its sp) q = refl

    inner-main : (ds : PDecls) (q : Scope) → q.in_main ≡ false → (after_objects q ds).in_main ≡ false
    inner-main no_decl q e = e
    inner-main (decl_then d rest) q e = inner-main rest (after_own_object q d) (own-main d q ∙ e)
