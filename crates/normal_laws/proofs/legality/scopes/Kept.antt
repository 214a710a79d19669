-- What names mean in a program and behind the first declarations of its normal form: the same, or no value in both.
use Rattle.std.proofs.Common.{◌≡◌, ℕ, Bool, true, false, ◌==◌, if◌then◌else◌, List, [], ◌∷◌, length, find, option_map, Option, Some, None, refl, sym, ap, ◌∙◌, subst, true≢false}
use Rattle.std.specs.List.{AllByRecursion}
use Rattle.std.proofs.lemmas.Bool.{or_left as or_front}
use Rattle.common_lemmas.proofs.Options.{some_same, not_missing}
use Rattle.common_lemmas.proofs.Numbers.{equal_is, equal_self}
use Rattle.ada_tree.specs.declared.naming.NameId.{NameId}
use Rattle.ada_tree.specs.declared.naming.Word.{Word}
use Rattle.ada_tree.specs.TypeTable.{TypeTable}
use Rattle.ada_tree.specs.PlainExpr.{PSubind, PDrange}
use Rattle.ada_tree.specs.PlainDecl.{PShape, OPlain, OArray, PDecl, DNumber, DObject, DEnumeration, DArray, DSubtype, DException, DIntIo, DPragma, DTask, DTaskBody}
use Rattle.ada_static_rules.specs.Scope.{Scope, NameMeaning, Thing, TypeMark, ConstantObject, Literal, AnException, AnotherUnit, Unclear, EntryPart, Range, Marking, ScalarMark, ArrayMark, TaskMark, NoMark, UnknownMark, UnclearMark, marking, meaning}
use Rattle.ada_static_rules.specs.Sites.{is_task_object}
use Rattle.ada_static_rules.specs.Declaring.{seen_as, with_name, with_names, with_types, made_named_array, made_subtype, object_meaning, type_of_mark, task_object, task_array, plain_object, array_object, declared_object, with_constants, after_decl}
use Rattle.task_laws.specs.legal.rewritten_types.Rewriting.{valued}
use Rattle.task_laws.proofs.legal.rewritten_types.Closing.{Close}
use Rattle.task_laws.proofs.legal.types.GoodScopes.{IsIn, names-new}
use Rattle.task_laws.specs.legal.alike_scopes.Alike.{IsNoValue, no_thing}

-- What a name means is the same in two scopes, or no value in both.
pub data IsKept (a b : Option Thing) : Type 0 where
  is_same : a ≡ b → IsKept a b
  is_none : IsNoValue a → IsNoValue b → IsKept a b

abbrev pub AreKept : Scope → Scope → Type 0
AreKept s r = (id : NameId) → IsKept (meaning s id) (meaning r id)

-- what is kept of nothing is no value
pub none-kept : (a b : Option Thing) → IsKept a b → a ≡ None → IsNoValue b
none-kept a b (is_same e) f = no_thing (sym e ∙ f)
none-kept a b (is_none h k) f = k

-- ---- one name more

abbrev behind_name : Bool → Thing → ℕ → Option NameMeaning → Option Thing
behind_name b thing n o = option_map (λ (x : NameMeaning). x.thing) (if b then Some (seen_as thing n) else o)

pub kept-name : (th th' : Thing) (w : Word) (s r : Scope) → th ≡ th' → AreKept s r → AreKept (with_name th s w) (with_name th' r w)
kept-name th th' w s r e h id = by_test (w.name.0 == id.0)
  where
    by_test : (b : Bool) → IsKept (behind_name b th w.name.0 (find (λ (x : NameMeaning). x.name == id.0) s.names)) (behind_name b th' w.name.0 (find (λ (x : NameMeaning). x.name == id.0) r.names))
    by_test true = is_same (ap Some e)
    by_test false = h id

pub kept-names : (th th' : Thing) (ws : List Word) (s r : Scope) → th ≡ th' → AreKept s r → AreKept (with_names th s ws) (with_names th' r ws)
kept-names th th' [] s r e h = h
kept-names th th' (w ∷ ws) s r e h = kept-names th th' ws (with_name th s w) (with_name th' r w) e (kept-name th th' w s r e h)

-- a name that is no value, in the program alone
pub kept-hidden : (th : Thing) (w : Word) (s r : Scope) → IsNoValue (Some th) → IsNoValue (meaning r w.name) → AreKept s r → AreKept (with_name th s w) r
kept-hidden th w s r n m h id = by_test (w.name.0 == id.0) refl
  where
    by_test : (b : Bool) → (w.name.0 == id.0) ≡ b → IsKept (behind_name b th w.name.0 (find (λ (x : NameMeaning). x.name == id.0) s.names)) (meaning r id)
    by_test true e = is_none n (subst (λ k. IsNoValue (meaning r record { 0 = k })) (equal_is w.name.0 id.0 e) m)
    by_test false e = h id

pub kept-all-hidden : (th : Thing) (ws : List Word) (s r : Scope) → IsNoValue (Some th) → AllByRecursion (λ (w : Word). IsNoValue (meaning r w.name)) ws → AreKept s r → AreKept (with_names th s ws) r
kept-all-hidden th [] s r n m h = h
kept-all-hidden th (w ∷ ws) s r n m h = kept-all-hidden th ws (with_name th s w) r n m.1 (kept-hidden th w s r n m.0 h)

-- ---- objects that are declared in both

-- a thing that an object is, if it is no task
record IsObjectForm (constant : Bool) (th : Thing) : Type 0 where
  mark : Option ℕ
  is : th ≡ object_meaning constant mark

form-of : (constant : Bool) (o : Option ℕ) → IsObjectForm constant (object_meaning constant o)
form-of constant o = record { mark = o; is = refl }

unclear-form : (constant : Bool) → IsObjectForm constant Unclear
unclear-form true = record { mark = None; is = refl }
unclear-form false = record { mark = None; is = refl }

task-form : (constant main : Bool) (es : List EntryPart) → is_task_object (task_object main es) ≡ false → IsObjectForm constant (task_object main es)
task-form constant true es e = absurd (true≢false e)
task-form constant false es e = unclear-form constant

row-form : (constant main : Bool) (o : Option Range) (es : List EntryPart) → is_task_object (task_array main o es) ≡ false → IsObjectForm constant (task_array main o es)
row-form constant true (Some r) es e = absurd (true≢false e)
row-form constant true None es e = unclear-form constant
row-form constant false (Some r) es e = unclear-form constant
row-form constant false None es e = unclear-form constant

plain-form : (s : Scope) (constant : Bool) (m : Marking) (x : PSubind) → is_task_object (plain_object s constant m x).thing ≡ false → IsObjectForm constant (plain_object s constant m x).thing
plain-form s constant (TaskMark es) x e = task-form constant s.in_main es e
plain-form s constant (ArrayMark m r p) x e = form-of constant (Some m)
plain-form s constant (ScalarMark m k) x e = form-of constant _
plain-form s constant NoMark x e = form-of constant _
plain-form s constant UnknownMark x e = form-of constant _
plain-form s constant UnclearMark x e = form-of constant _

array-form : (s : Scope) (constant : Bool) (m : Marking) (index : PDrange) (x : PSubind) → is_task_object (array_object s constant m index x).thing ≡ false → IsObjectForm constant (array_object s constant m index x).thing
array-form s constant (TaskMark es) index x e = row-form constant s.in_main _ es e
array-form s constant (ArrayMark m r p) index x e = form-of constant _
array-form s constant (ScalarMark m k) index x e = form-of constant _
array-form s constant NoMark index x e = form-of constant _
array-form s constant UnknownMark index x e = form-of constant _
array-form s constant UnclearMark index x e = form-of constant _

shape-form : (s : Scope) (constant : Bool) (x : PShape) → is_task_object (declared_object s constant x).thing ≡ false → IsObjectForm constant (declared_object s constant x).thing
shape-form s constant (OPlain x) e = plain-form s constant (marking s x.mark.name) x e
shape-form s constant (OArray index x) e = array-form s constant (marking s x.mark.name) index x e

-- two such are the same, where they are so as values
forms-same : (constant : Bool) (o q : Option ℕ) → valued (Some (object_meaning constant o)) ≡ valued (Some (object_meaning constant q)) → object_meaning constant o ≡ object_meaning constant q
forms-same true (Some m) (Some n) e = some_same e
forms-same true (Some m) None e = absurd (not_missing _ (sym e))
forms-same true None (Some n) e = absurd (not_missing _ e)
forms-same true None None e = refl
forms-same false (Some m) (Some n) e = some_same e
forms-same false (Some m) None e = absurd (not_missing _ (sym e))
forms-same false None (Some n) e = absurd (not_missing _ e)
forms-same false None None e = refl

things-same : (constant : Bool) (th th' : Thing) → IsObjectForm constant th → IsObjectForm constant th' → valued (Some th) ≡ valued (Some th') → th ≡ th'
things-same constant th th' f g e =
    f.is ∙ forms-same constant f.mark g.mark (sym (ap (λ x. valued (Some x)) f.is) ∙ e ∙ ap (λ x. valued (Some x)) g.is) ∙ sym g.is

types-same : (o q : Option ℕ) → valued (Some (type_of_mark o)) ≡ valued (Some (type_of_mark q)) → type_of_mark o ≡ type_of_mark q
types-same (Some m) (Some n) e = some_same e
types-same (Some m) None e = absurd (not_missing _ (sym e))
types-same None (Some n) e = absurd (not_missing _ e)
types-same None None e = refl

-- what the first of some names means behind them is as valued in both scopes
pub word-in : (w : Word) (ws : List Word) → IsIn (w ∷ ws) w.name
word-in w ws = or_front (w.name.0 == w.name.0) _ (equal_self w.name.0)

first-valued : (th th' : Thing) (w : Word) (ws : List Word) (s r : Scope) → Close (with_names th s (w ∷ ws)) (with_names th' r (w ∷ ws)) → valued (Some th) ≡ valued (Some th')
first-valued th th' w ws s r close =
    ap valued (sym (names-new th (w ∷ ws) s w.name (word-in w ws))) ∙ close.things w.name ∙ ap valued (names-new th' (w ∷ ws) r w.name (word-in w ws))

kept-objects : (constant : Bool) (th th' : Thing) (ws : List Word) (s r : Scope) → IsObjectForm constant th → IsObjectForm constant th' → Close (with_names th s ws) (with_names th' r ws) → AreKept s r →
    AreKept (with_names th s ws) (with_names th' r ws)
kept-objects constant th th' [] s r f g close h = h
kept-objects constant th th' (w ∷ ws) s r f g close h = kept-names th th' (w ∷ ws) s r (things-same constant th th' f g (first-valued th th' w ws s r close)) h

-- an object that the declaration declares is no task, in either scope; and the declaration is no task and no body
abbrev pub IsBoth : Scope → Scope → PDecl → Type 0
IsBoth s r (DObject names constant x init sp) = (is_task_object (declared_object s constant x).thing ≡ false) × (is_task_object (declared_object r constant x).thing ≡ false)
IsBoth s r (DTask t sp) = ⊥
IsBoth s r (DTaskBody w objects its sp) = ⊥
IsBoth s r _ = Unit {0}

-- A declaration that is no body, in both scopes, keeps what names mean, where an object that it declares is no task.
pub kept-decl : (d : PDecl) (s r : Scope) → IsBoth s r d → Close s r → Close (after_decl s d) (after_decl r d) → AreKept s r → AreKept (after_decl s d) (after_decl r d)
kept-decl (DNumber w e sp) s r nt close close' h = kept-name (ConstantObject 0) (ConstantObject 0) w s r refl h
kept-decl (DObject ws c x i sp) s r nt close close' h =
    kept-objects c (declared_object s c x).thing (declared_object r c x).thing ws (with_types (with_constants s ws i (declared_object s c x)) s) (with_types (with_constants r ws i (declared_object r c x)) r)
    (shape-form s c x nt.0) (shape-form r c x nt.1) close' h
kept-decl (DEnumeration w ws sp) s r nt close close' h =
    kept-names (Literal (length s.types.kinds)) (Literal (length r.types.kinds)) ws _ _ (ap (λ (T : TypeTable). Literal (length T.kinds)) close.types)
    (kept-name (TypeMark (length s.types.marks)) (TypeMark (length r.types.marks)) w s r (ap (λ (T : TypeTable). TypeMark (length T.marks)) close.types) h)
kept-decl (DArray w q x sp) s r nt close close' h =
    kept-name _ _ w s r
    (types-same (made_named_array s w q x).mark (made_named_array r w q x).mark (first-valued _ _ w [] (with_types (made_named_array s w q x).types s) (with_types (made_named_array r w q x).types r) close')) h
kept-decl (DSubtype w x sp) s r nt close close' h =
    kept-name _ _ w s r
    (types-same (made_subtype s w x).mark (made_subtype r w x).mark (first-valued _ _ w [] (with_types (made_subtype s w x).types s) (with_types (made_subtype r w x).types r) close')) h
kept-decl (DException ws sp) s r nt close close' h = kept-names AnException AnException ws s r refl h
kept-decl (DIntIo w sp) s r nt close close' h = kept-name AnotherUnit AnotherUnit w s r refl h
kept-decl (DPragma e sp) s r nt close close' h = h
kept-decl (DTask t sp) s r nt close close' h = absurd nt
kept-decl (DTaskBody w objects its sp) s r nt close close' h = absurd nt
