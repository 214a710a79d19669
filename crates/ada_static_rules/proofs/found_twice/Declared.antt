-- What declarations leave of what is seen: the entries of the own task, and what a name means.
use Rattle.std.proofs.Common.{◌≡◌, ◌==◌, Bool, true, List, [], ◌∷◌, ◌++◌, find, Option, Some, None, option_map, if◌then◌else◌, refl, ap, ◌∙◌}
use Rattle.std.proofs.lemmas.Option.{none-some}
use Rattle.ada_tree.specs.declared.naming.NameId.{NameId}
use Rattle.ada_tree.specs.declared.naming.Word.{Word}
use Rattle.ada_tree.specs.PlainStmt.{PFormal}
use Rattle.ada_tree.specs.PlainDecl.{PDecl, DNumber, DObject, DEnumeration, DArray, DSubtype, DException, DIntIo, DPragma, DTask, DTaskBody, PDecls, no_decl, decl_then, decls_of}
use Rattle.ada_static_rules.specs.Scope.{Scope, NameMeaning, Thing, meaning}
use Rattle.ada_static_rules.specs.Declaring.{with_name, with_names, seen_as, with_formals, after_own_object, after_objects, after_decl, after_decls}
use Rattle.common_lemmas.proofs.Options.{some_same}

-- ---- the entries of the own task

pub names_own : (thing : Thing) (ws : List Word) (s : Scope) → (with_names thing s ws).own ≡ s.own
names_own thing [] s = refl
names_own thing (w ∷ ws) s = names_own thing ws (with_name thing s w)

pub formals_own : (fs : List PFormal) (s : Scope) → (with_formals s fs).own ≡ s.own
formals_own [] s = refl
formals_own (f ∷ fs) s = formals_own fs _ ∙ names_own _ f.names s

pub object_own : (d : PDecl) (s : Scope) → (after_own_object s d).own ≡ s.own
object_own (DObject ws constant shape init sp) s = names_own _ ws _
object_own (DNumber w e sp) s = refl
object_own (DEnumeration w ws sp) s = refl
object_own (DArray w i x sp) s = refl
object_own (DSubtype w x sp) s = refl
object_own (DException ws sp) s = refl
object_own (DIntIo w sp) s = refl
object_own (DPragma e sp) s = refl
object_own (DTask t sp) s = refl
object_own (DTaskBody w objects its sp) s = refl

pub objects_own : (ds : PDecls) (s : Scope) → (after_objects s ds).own ≡ s.own
objects_own no_decl s = refl
objects_own (decl_then d ds) s = objects_own ds (after_own_object s d) ∙ object_own d s

pub decl_own : (d : PDecl) (s : Scope) → (after_decl s d).own ≡ s.own
decl_own (DNumber w e sp) s = refl
decl_own (DObject ws constant shape init sp) s = names_own _ ws _
decl_own (DEnumeration w ws sp) s = names_own _ ws _
decl_own (DArray w i x sp) s = refl
decl_own (DSubtype w x sp) s = refl
decl_own (DException ws sp) s = names_own _ ws s
decl_own (DIntIo w sp) s = refl
decl_own (DPragma e sp) s = refl
decl_own (DTask t sp) s = refl
decl_own (DTaskBody w objects its sp) s = refl

-- ---- what a name means

-- a name that is declared means that
pub name_means : (thing : Thing) (w : Word) (s : Scope) (id : NameId) → (w.name.0 == id.0) ≡ true → meaning (with_name thing s w) id ≡ Some thing
name_means thing w s id e = ap (λ (b : Bool). option_map (λ (x : NameMeaning). x.thing) (if b then Some (seen_as thing w.name.0) else find (λ (x : NameMeaning). x.name == id.0) s.names)) e

-- what a name means is what is found
pub thing_found : (o : Option NameMeaning) (x : Thing) → option_map (λ (y : NameMeaning). y.thing) o ≡ Some x → (y : NameMeaning) × (o ≡ Some y) × (y.thing ≡ x)
thing_found (Some y) x e = (y, refl, some_same e)
thing_found None x e = absurd (none-some x e)

-- declarations one behind the other
pub decls_joined : (xs ys : List PDecl) (s : Scope) → after_decls s (decls_of (xs ++ ys)) ≡ after_decls (after_decls s (decls_of xs)) (decls_of ys)
decls_joined [] ys s = refl
decls_joined (x ∷ xs) ys s = decls_joined xs ys (after_decl s x)
