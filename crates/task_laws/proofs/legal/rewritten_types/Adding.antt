-- A declaration that gives no old name a meaning keeps the table, in whatever scope it stands.
use Rattle.std.proofs.Common.{◌≡◌, ℕ, ℤ, Bool, true, false, if◌then◌else◌, List, [], ◌∷◌, Option, Some, None, refl, sym, ◌∙◌, subst, true≢false}
use Rattle.std.specs.List.{AllByRecursion}
use Rattle.ada_tree.specs.declared.naming.NameId.{NameId}
use Rattle.ada_tree.specs.declared.naming.Word.{Word}
use Rattle.ada_tree.specs.TypeTable.{TypeTable}
use Rattle.ada_tree.specs.PlainExpr.{PBounds, PSubind, PDrange}
use Rattle.ada_tree.specs.PlainDecl.{PShape, OPlain, OArray, PInit, PDecl, DNumber, DObject, DEnumeration, DArray, DSubtype, DException, DIntIo, DPragma, DTask, DTaskBody, PDecls, no_decl, decl_then}
use Rattle.ada_static_rules.specs.Scope.{Scope, Range, Thing, Marking, ScalarMark, ArrayMark, TaskMark, NoMark, UnknownMark, UnclearMark, marking, range_of_mark, integer_kind, and_then}
use Rattle.ada_static_rules.specs.ExprTypes.{static_in, static_range}
use Rattle.ada_static_rules.specs.Declaring.{with_name, with_names, with_types, made_range, subind_made, made_subind, drange_range, made_array, plain_object, array_object, declared_object, add_constants, constant_mark, constant_value, with_constants, after_object, renamed, in_body, after_own_object, after_objects, after_decl, after_decls}
use Rattle.task_laws.specs.legal.rewritten_types.Agreement.{Keeps}
use Rattle.task_laws.specs.legal.rewritten_types.Rewriting.{IsNew, IsAdded, AreAdded}
use Rattle.task_laws.proofs.legal.rewritten_types.Keeping.{IsNoOldName, keeps-self, keeps-on, keeps-mark, unnamed, newly_named, keeps-array_kind, keeps-constants}

-- names change no table
pub names-types : (thing : Thing) (ws : List Word) (s : Scope) → (with_names thing s ws).types ≡ s.types
names-types thing [] s = refl
names-types thing (w ∷ ws) s = names-types thing ws (with_name thing s w)

pub names-main : (thing : Thing) (ws : List Word) (s : Scope) → (with_names thing s ws).in_main ≡ s.in_main
names-main thing [] s = refl
names-main thing (w ∷ ws) s = names-main thing ws (with_name thing s w)

own-main : (d : PDecl) (s : Scope) → (after_own_object s d).in_main ≡ s.in_main
own-main (DObject names constant shape init sp) s =
    names-main (declared_object s constant shape).thing names (with_types (with_constants s names init (declared_object s constant shape)) s)
own-main (DNumber name x sp) s = refl
own-main (DEnumeration name literals sp) s = refl
own-main (DArray name index x sp) s = refl
own-main (DSubtype name x sp) s = refl
own-main (DException names sp) s = refl
own-main (DIntIo name sp) s = refl
own-main (DPragma x sp) s = refl
own-main (DTask t sp) s = refl
own-main (DTaskBody name objects its sp) s = refl

module _ {old : ℕ → Bool} where
  keeps-range : (T : TypeTable) (r : Option Range) → Keeps old T (made_range T r).types
  keeps-range T (Some r) = keeps-mark T _ (unnamed old)
  keeps-range T None = keeps-self T

  keeps-marking : (s : Scope) (m : Marking) (b : Option PBounds) → Keeps old s.types (subind_made s m b).types
  keeps-marking s (ScalarMark m k) None = keeps-self s.types
  keeps-marking s (ScalarMark m k) (Some b) = keeps-range s.types (static_range s k b)
  keeps-marking s (ArrayMark m r part) b = keeps-self s.types
  keeps-marking s (TaskMark entries) b = keeps-self s.types
  keeps-marking s NoMark b = keeps-self s.types
  keeps-marking s UnknownMark b = keeps-self s.types
  keeps-marking s UnclearMark b = keeps-self s.types

  pub keeps-subind : (s : Scope) (x : PSubind) → Keeps old s.types (made_subind s x).types
  keeps-subind s x = keeps-marking s (marking s x.mark.name) x.bounds

  keeps-array : (name : Option NameId) (T : TypeTable) (r : Option Range) (part : Option ℕ) → IsNoOldName old name → Keeps old T (made_array name T r part).types
  keeps-array name T (Some r) (Some part) n = keeps-on (keeps-array_kind T r.kind r.first r.last part) (keeps-mark _ _ n)
  keeps-array name T (Some r) None n = keeps-self T
  keeps-array name T None part n = keeps-self T

  keeps-plain : (s : Scope) (constant : Bool) (m : Marking) (x : PSubind) → Keeps old s.types (plain_object s constant m x).types
  keeps-plain s constant (TaskMark entries) x = keeps-self s.types
  keeps-plain s constant (ArrayMark m r part) x = keeps-self s.types
  keeps-plain s constant (ScalarMark m k) x = keeps-subind s x
  keeps-plain s constant NoMark x = keeps-subind s x
  keeps-plain s constant UnknownMark x = keeps-subind s x
  keeps-plain s constant UnclearMark x = keeps-subind s x

  keeps-own_array : (s : Scope) (index : PDrange) (x : PSubind) → Keeps old s.types (made_array None (made_subind s x).types (drange_range s index) (made_subind s x).mark).types
  keeps-own_array s index x = keeps-on (keeps-subind s x) (keeps-array None (made_subind s x).types (drange_range s index) (made_subind s x).mark (unnamed old))

  keeps-row : (s : Scope) (constant : Bool) (m : Marking) (index : PDrange) (x : PSubind) → Keeps old s.types (array_object s constant m index x).types
  keeps-row s constant (TaskMark entries) index x = keeps-self s.types
  keeps-row s constant (ArrayMark m r part) index x = keeps-own_array s index x
  keeps-row s constant (ScalarMark m k) index x = keeps-own_array s index x
  keeps-row s constant NoMark index x = keeps-own_array s index x
  keeps-row s constant UnknownMark index x = keeps-own_array s index x
  keeps-row s constant UnclearMark index x = keeps-own_array s index x

  pub keeps-shape : (s : Scope) (constant : Bool) (shape : PShape) → Keeps old s.types (declared_object s constant shape).types
  keeps-shape s constant (OPlain x) = keeps-plain s constant (marking s x.mark.name) x
  keeps-shape s constant (OArray index x) = keeps-row s constant (marking s x.mark.name) index x

  keeps-add : (names : List Word) (m : Option ℕ) (z : Option ℤ) (T : TypeTable) → AllByRecursion (IsNew old) names → Keeps old T (add_constants names m z T)
  keeps-add names (Some m) (Some z) T n = keeps-constants T names m z n
  keeps-add names (Some m) None T n = keeps-self T
  keeps-add names None z T n = keeps-self T

  keeps-if : (b : Bool) (T U : TypeTable) → Keeps old T U → Keeps old T (if b then U else T)
  keeps-if true T U h = h
  keeps-if false T U h = keeps-self T

  keeps-unless : (b : Bool) (T U : TypeTable) → b ≡ false → Keeps old T (if b then U else T)
  keeps-unless true T U e = absurd (true≢false e)
  keeps-unless false T U e = keeps-self T

  -- names move nothing
  keeps-named : (T : TypeTable) (thing : Thing) (ws : List Word) (s : Scope) → Keeps old T s.types → Keeps old T (with_names thing s ws).types
  keeps-named T thing ws s h = subst (Keeps old T) (sym (names-types thing ws s)) h

  keeps-object : (s : Scope) (names : List Word) (constant : Bool) (shape : PShape) (init : Option PInit) → AllByRecursion (IsNew old) names →
      Keeps old s.types (after_object s names constant shape init).types
  keeps-object s names constant shape init n =
      let d = declared_object s constant shape in
      keeps-named s.types d.thing names (with_types (with_constants s names init d) s)
      (keeps-on (keeps-shape s constant shape) (keeps-if s.in_main d.types _ (keeps-add names (constant_mark d.thing) (constant_value s d.types (constant_mark d.thing) init) d.types n)))

  -- in a body no name matters
  keeps-inner : (s : Scope) (names : List Word) (constant : Bool) (shape : PShape) (init : Option PInit) → s.in_main ≡ false →
      Keeps old s.types (after_object s names constant shape init).types
  keeps-inner s names constant shape init e =
      let d = declared_object s constant shape in
      keeps-named s.types d.thing names (with_types (with_constants s names init d) s)
      (keeps-on (keeps-shape s constant shape) (keeps-unless s.in_main d.types _ e))

  keeps-own : (d : PDecl) (s : Scope) → s.in_main ≡ false → Keeps old s.types (after_own_object s d).types
  keeps-own (DObject names constant shape init sp) s e = keeps-inner s names constant shape init e
  keeps-own (DNumber name x sp) s e = keeps-self s.types
  keeps-own (DEnumeration name literals sp) s e = keeps-self s.types
  keeps-own (DArray name index x sp) s e = keeps-self s.types
  keeps-own (DSubtype name x sp) s e = keeps-self s.types
  keeps-own (DException names sp) s e = keeps-self s.types
  keeps-own (DIntIo name sp) s e = keeps-self s.types
  keeps-own (DPragma x sp) s e = keeps-self s.types
  keeps-own (DTask t sp) s e = keeps-self s.types
  keeps-own (DTaskBody name objects its sp) s e = keeps-self s.types

  -- what a body declares keeps the table, whatever it is
  pub keeps-objects : (ds : PDecls) (s : Scope) → s.in_main ≡ false → Keeps old s.types (after_objects s ds).types
  keeps-objects no_decl s e = keeps-self s.types
  keeps-objects (decl_then d rest) s e = keeps-on (keeps-own d s e) (keeps-objects rest (after_own_object s d) (own-main d s ∙ e))

  keeps-renamed : (w : Word) (T : TypeTable) (r : Option Range) → IsNew old w → Keeps old T (renamed w T r).types
  keeps-renamed w T (Some r) n = keeps-mark T _ (newly_named old w n)
  keeps-renamed w T None n = keeps-self T

  pub keeps-decl : (d : PDecl) (s : Scope) → IsAdded old d → Keeps old s.types (after_decl s d).types
  keeps-decl (DNumber name e sp) s n = keeps-add (name ∷ []) (Some 0) (static_in s integer_kind e) s.types (n, tt)
  keeps-decl (DObject names constant shape init sp) s n = keeps-object s names constant shape init n
  keeps-decl (DEnumeration name literals sp) s n = absurd n
  keeps-decl (DArray name index x sp) s n =
      keeps-on (keeps-subind s x) (keeps-array (Some name.name) (made_subind s x).types (drange_range s index) (made_subind s x).mark (newly_named old name n))
  keeps-decl (DSubtype name x sp) s n =
      keeps-on (keeps-subind s x) (keeps-renamed name (made_subind s x).types (and_then (range_of_mark (made_subind s x).types) (made_subind s x).mark) n)
  keeps-decl (DException names sp) s n = keeps-named s.types _ names s (keeps-self s.types)
  keeps-decl (DIntIo name sp) s n = keeps-self s.types
  keeps-decl (DPragma e sp) s n = keeps-self s.types
  keeps-decl (DTask t sp) s n = keeps-self s.types
  keeps-decl (DTaskBody name objects its sp) s n = keeps-objects objects (in_body s name) refl

  -- declarations that give no old name a meaning keep the table
  pub keeps-decls : (ds : PDecls) (s : Scope) → AreAdded old ds → Keeps old s.types (after_decls s ds).types
  keeps-decls no_decl s n = keeps-self s.types
  keeps-decls (decl_then d rest) s n = keeps-on (keeps-decl d s n.0) (keeps-decls rest (after_decl s d) n.1)
