-- Behind declarations of main no name is a formal of mode out.
use Rattle.std.proofs.Common.{◌≡◌, ℕ, Bool, true, false, ◌==◌, List, [], ◌∷◌, find, option_map, Option, Some, None, refl, subst}
use Rattle.std.specs.List.{AllByRecursion}
use Rattle.common_lemmas.proofs.Options.{some_same, not_missing}
use Rattle.ada_tree.specs.declared.naming.Word.{Word}
use Rattle.ada_tree.specs.declared.statements.ParMode.TheVariants.{Give}
use Rattle.ada_tree.specs.PlainExpr.{PSubind, PDrange}
use Rattle.ada_tree.specs.PlainDecl.{PShape, OPlain, OArray, PDecl, DNumber, DObject, DEnumeration, DArray, DSubtype, DException, DIntIo, DPragma, DTask, DTaskBody, PDecls, no_decl, decl_then}
use Rattle.ada_static_rules.specs.Scope.{Scope, NameMeaning, Range, EntryPart, Thing, Parameter, AnException, Marking, ScalarMark, ArrayMark, TaskMark, NoMark, UnknownMark, UnclearMark, marking}
use Rattle.ada_static_rules.specs.Declaring.{with_name, with_names, first_scope, object_meaning, task_object, task_array, plain_object, array_object, declared_object, type_of_mark, task_thing, after_own_object, after_objects, after_decl, after_decls}
use Rattle.task_laws.proofs.legal.rewritten_types.Lookups.{find-all}
use Rattle.normal_laws.proofs.structure.typed.StaticMet.{NoneIsOut}

abbrev pub IsNotOut : Thing → Type 0
IsNotOut (Parameter Give m) = ⊥
IsNotOut _ = Prim.Unit {0}

abbrev pub AreNotOut : Scope → Type 0
AreNotOut s = AllByRecursion (λ (x : NameMeaning). IsNotOut x.thing) s.names

object-in : (constant : Bool) (o : Option ℕ) → IsNotOut (object_meaning constant o)
object-in true (Some m) = tt
object-in false (Some m) = tt
object-in true None = tt
object-in false None = tt

task-in : (b : Bool) (es : List EntryPart) → IsNotOut (task_object b es)
task-in true es = tt
task-in false es = tt

row-in : (b : Bool) (o : Option Range) (es : List EntryPart) → IsNotOut (task_array b o es)
row-in true (Some range) es = tt
row-in true None es = tt
row-in false (Some range) es = tt
row-in false None es = tt

type-in : (o : Option ℕ) → IsNotOut (type_of_mark o)
type-in (Some m) = tt
type-in None = tt

thing-in : (b : Bool) (es : List EntryPart) → IsNotOut (task_thing b es)
thing-in true es = tt
thing-in false es = tt

plain-in : (s : Scope) (constant : Bool) (m : Marking) (x : PSubind) → IsNotOut (plain_object s constant m x).thing
plain-in s constant (ScalarMark m k) x = object-in constant _
plain-in s constant (ArrayMark m range part) x = object-in constant (Some m)
plain-in s constant (TaskMark es) x = task-in s.in_main es
plain-in s constant NoMark x = object-in constant _
plain-in s constant UnknownMark x = object-in constant _
plain-in s constant UnclearMark x = object-in constant _

array-in : (s : Scope) (constant : Bool) (m : Marking) (q : PDrange) (x : PSubind) → IsNotOut (array_object s constant m q x).thing
array-in s constant (ScalarMark m k) q x = object-in constant _
array-in s constant (ArrayMark m range part) q x = object-in constant _
array-in s constant (TaskMark es) q x = row-in s.in_main _ es
array-in s constant NoMark q x = object-in constant _
array-in s constant UnknownMark q x = object-in constant _
array-in s constant UnclearMark q x = object-in constant _

shape-in : (s : Scope) (constant : Bool) (x : PShape) → IsNotOut (declared_object s constant x).thing
shape-in s constant (OPlain x) = plain-in s constant (marking s x.mark.name) x
shape-in s constant (OArray q x) = array-in s constant (marking s x.mark.name) q x

names-in : (th : Thing) (ws : List Word) (s : Scope) → IsNotOut th → AreNotOut s → AreNotOut (with_names th s ws)
names-in th [] s t h = h
names-in th (w ∷ ws) s t h = names-in th ws (with_name th s w) t (t, h)

pub decl-in : (d : PDecl) (s : Scope) → AreNotOut s → AreNotOut (after_decl s d)
decl-in (DNumber w e sp) s h = (tt, h)
decl-in (DObject ws c x i sp) s h = names-in (declared_object s c x).thing ws _ (shape-in s c x) h
decl-in (DEnumeration w ws sp) s h = names-in _ ws _ tt (tt, h)
decl-in (DArray w q x sp) s h = (type-in _, h)
decl-in (DSubtype w x sp) s h = (type-in _, h)
decl-in (DException ws sp) s h = names-in AnException ws s tt h
decl-in (DIntIo w sp) s h = (tt, h)
decl-in (DPragma e sp) s h = h
decl-in (DTask t sp) s h = (thing-in t.of_kind _, h)
decl-in (DTaskBody w objects its sp) s h = h

decls-in : (ds : PDecls) (s : Scope) → AreNotOut s → AreNotOut (after_decls s ds)
decls-in no_decl s h = h
decls-in (decl_then d rest) s h = decls-in rest (after_decl s d) (decl-in d s h)

-- objects of a body
own-in : (d : PDecl) (s : Scope) → AreNotOut s → AreNotOut (after_own_object s d)
own-in (DObject ws c x i sp) s h = names-in (declared_object s c x).thing ws _ (shape-in s c x) h
own-in (DNumber w e sp) s h = h
own-in (DEnumeration w ws sp) s h = h
own-in (DArray w q x sp) s h = h
own-in (DSubtype w x sp) s h = h
own-in (DException ws sp) s h = h
own-in (DIntIo w sp) s h = h
own-in (DPragma e sp) s h = h
own-in (DTask t sp) s h = h
own-in (DTaskBody w objects its sp) s h = h

pub objects-in : (ds : PDecls) (s : Scope) → AreNotOut s → AreNotOut (after_objects s ds)
objects-in no_decl s h = h
objects-in (decl_then d rest) s h = objects-in rest (after_own_object s d) (own-in d s h)

-- before all declarations it is so
pub first-in : (name : Word) → AreNotOut (first_scope name)
first-in name = (tt, (tt, (tt, (tt, (tt, (tt, (tt, (tt, (tt, (tt, (tt, (tt, (tt, (tt, (tt, (tt, (tt, (tt, (tt, tt)))))))))))))))))))

-- then no name is such a formal
pub not-out : (s : Scope) → AreNotOut s → NoneIsOut s
not-out s all id m e = by_seen (find (λ (x : NameMeaning). x.name == id.0) s.names) refl e
  where
    by_seen : (o : Option NameMeaning) → find (λ (x : NameMeaning). x.name == id.0) s.names ≡ o → option_map (λ (x : NameMeaning). x.thing) o ≡ Some (Parameter Give m) → ⊥
    by_seen None f g = not_missing (Parameter Give m) g
    by_seen (Some x) f g = subst IsNotOut (some_same g) (find-all (λ (y : NameMeaning). IsNotOut y.thing) (λ (y : NameMeaning). y.name == id.0) s.names x all f)

-- So it is behind all declarations of main.
pub none-out : (name : Word) (ds : PDecls) → NoneIsOut (after_decls (first_scope name) ds)
none-out name ds = not-out (after_decls (first_scope name) ds) (decls-in ds (first_scope name) (first-in name))
