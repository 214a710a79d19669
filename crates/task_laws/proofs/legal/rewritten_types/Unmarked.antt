-- Where main declares each name once, a name that means no value names no type in the table.
use Rattle.std.proofs.Common.{◌≡◌, ℕ, zero, suc, ◌<◌, ◌≤◌, ℤ, pos, ◌-ℤ◌, Bool, true, false, ◌==◌, if◌then◌else◌, List, [], ◌∷◌, ◌++◌, length, map, find, option_map, Option, Some, None, refl, sym, ap, ◌∙◌, subst, arith}
use Rattle.std.specs.List.{AllByRecursion}
use Rattle.std.proofs.lemmas.Bool.{eqb-true, ne_eqb, ltb-false}
use Rattle.std.proofs.lemmas.Option.{none-some}
use Rattle.ada_tree.specs.declared.naming.NameId.{NameId}
use Rattle.ada_tree.specs.declared.naming.Word.{Word}
use Rattle.ada_tree.specs.declared.static_types.Kind.TheVariants.{Enumeration}
use Rattle.ada_tree.specs.declared.static_types.Mark.{Mark}
use Rattle.ada_tree.specs.TypeTable.{TypeTable}
use Rattle.ada_tree.specs.PlainDecl.{PShape, PInit, PDecl, DNumber, DObject, DEnumeration, DArray, DSubtype, DException, DIntIo, DPragma, DTask, DTaskBody, PDecls, no_decl, decl_then}
use Rattle.ada_static_rules.specs.Scope.{Scope, Range, NameMeaning, Thing, TypeMark, MainProcedure, meaning, integer_kind, range_of_mark, and_then}
use Rattle.ada_static_rules.specs.StaticValue.{is_named, mark_named}
use Rattle.ada_static_rules.specs.ExprTypes.{static_in}
use Rattle.ada_static_rules.specs.Declaring.{predefined_types, predefined_names, before_all, seen_as, first_scope, with_name, with_names, with_types, add_kind, made, made_subind, drange_range, made_array, declared_object, add_constants, constant_mark, constant_value, with_constants, after_object, type_of_mark, renamed, in_body, after_decl, after_decls}
use Rattle.ada_static_rules.specs.RuleDuplicate.{is_predefined}
use Rattle.task_laws.specs.legal.rewritten_types.Rewriting.{valued, IsFree, names_declared, IsUnused, DeclareOnce}
use Rattle.task_laws.specs.legal.rewritten_types.Laws.{UnvaluedHasNoMark}
use Rattle.task_laws.proofs.legal.rewritten_types.Lookups.{find-more}
use Rattle.task_laws.proofs.legal.rewritten_types.Adding.{names-types, keeps-subind, keeps-shape, keeps-objects}
use Rattle.task_laws.proofs.legal.rewritten_types.Fresh.{InHere, first-here, here-decl, unused-free}
use Rattle.common_lemmas.proofs.Lists.{found_none}

-- ---- what is free was free

-- what a name means behind a new one, by the test whether it is that one
abbrev through : Bool → Thing → ℕ → Option NameMeaning → Option Thing
through b thing n o = valued (option_map (λ (x : NameMeaning). x.thing) (if b then Some (seen_as thing n) else o))

-- the table behind an enumeration
abbrev enumeration_types : Scope → Word → List Word → TypeTable
enumeration_types s name literals =
    (made (add_kind s.types (Enumeration (map (λ l. l.name) literals))) record { name = Some name.name; kind = length s.types.kinds; first = pos 0; last = pos (length literals) -ℤ pos 1 }).types

module _ (s0 : Scope) (here : InHere s0) where
  -- names that are free at a scope were free before
  abbrev WereFree : Scope → Type 0
  WereFree s = (id : NameId) → IsFree s id → IsFree s0 id

  name-before : (thing : Thing) (w : Word) (s : Scope) → IsUnused s0 w → WereFree s → WereFree (with_name thing s w)
  name-before thing w s u h id free = by_test (w.name.0 == id.0) refl free
    where
      by_test : (b : Bool) → (w.name.0 == id.0) ≡ b → through b thing w.name.0 (find (λ (x : NameMeaning). x.name == id.0) s.names) ≡ None → IsFree s0 id
      by_test true e f = subst (λ n. valued (meaning s0 record { 0 = n }) ≡ None) (eqb-true w.name.0 id.0 e) (unused-free s0 w here u)
      by_test false e f = h id f

  names-before : (thing : Thing) (ws : List Word) (s : Scope) → AllByRecursion (IsUnused s0) ws → WereFree s → WereFree (with_names thing s ws)
  names-before thing [] s u h = h
  names-before thing (w ∷ ws) s u h = names-before thing ws (with_name thing s w) u.1 (name-before thing w s u.0 h)

  pub decl-before : (d : PDecl) → AllByRecursion (IsUnused s0) (names_declared d) → WereFree (after_decl s0 d)
  decl-before (DNumber name e sp) u = name-before _ name s0 u.0 (λ id f. f)
  decl-before (DObject names constant shape init sp) u = names-before _ names _ u (λ id f. f)
  decl-before (DEnumeration name literals sp) u =
      names-before _ literals _ u.1 (name-before (TypeMark (length s0.types.marks)) name (with_types (enumeration_types s0 name literals) s0) u.0 (λ id f. f))
  decl-before (DArray name index x sp) u = name-before _ name s0 u.0 (λ id f. f)
  decl-before (DSubtype name x sp) u = name-before _ name s0 u.0 (λ id f. f)
  decl-before (DException names sp) u = names-before _ names s0 u (λ id f. f)
  decl-before (DIntIo name sp) u = name-before _ name s0 u.0 (λ id f. f)
  decl-before (DPragma e sp) u = λ id f. f
  decl-before (DTask t sp) u = name-before _ t.name s0 u.0 (λ id f. f)
  decl-before (DTaskBody name objects its sp) u = λ id f. f

-- ---- marks by name

-- all names are old
abbrev anybody : ℕ → Bool
anybody n = true

pub add-marks : (names : List Word) (m : Option ℕ) (z : Option ℤ) (T : TypeTable) (id : NameId) → mark_named (add_constants names m z T) id ≡ mark_named T id
add-marks names (Some m) (Some z) T id = refl
add-marks names (Some m) None T id = refl
add-marks names None z T id = refl

pub if-marks : (b : Bool) (T U : TypeTable) (id : NameId) → mark_named U id ≡ mark_named T id → mark_named (if b then U else T) id ≡ mark_named T id
if-marks true T U id e = e
if-marks false T U id e = refl

pub object-marks : (s : Scope) (names : List Word) (constant : Bool) (shape : PShape) (init : Option PInit) (id : NameId) →
    mark_named (after_object s names constant shape init).types id ≡ mark_named s.types id
object-marks s names constant shape init id =
    let d = declared_object s constant shape in
    ap (λ T. mark_named T id) (names-types d.thing names (with_types (with_constants s names init d) s))
    ∙ if-marks s.in_main d.types _ id (add-marks names (constant_mark d.thing) (constant_value s d.types (constant_mark d.thing) init) d.types id)
    ∙ (keeps-shape {old = anybody} s constant shape).marks id refl

-- a name that means no value is not that of a type
not-type : (b : Bool) (m n : ℕ) (o : Option NameMeaning) → through b (TypeMark m) n o ≡ None → b ≡ false
not-type true m n o e = absurd (none-some (TypeMark m) (sym e))
not-type false m n o e = refl

-- a mark of another name
pub other-mark : (marks : List Mark) (m : Mark) (id : NameId) → is_named id m.name ≡ false → find (λ (x : Mark). is_named id x.name) (marks ++ m ∷ []) ≡ find (λ (x : Mark). is_named id x.name) marks
other-mark marks m id e = find-more (λ x. is_named id x.name) marks (m ∷ []) (ap (λ b. if b then Some m else None) e)

array-marks : (w : Word) (T : TypeTable) (r : Option Range) (part : Option ℕ) (o : Option NameMeaning) (id : NameId) →
    through (w.name.0 == id.0) (type_of_mark (made_array (Some w.name) T r part).mark) w.name.0 o ≡ None → mark_named (made_array (Some w.name) T r part).types id ≡ mark_named T id
array-marks w T (Some r) (Some part) o id e = other-mark T.marks _ id (not-type (w.name.0 == id.0) (length T.marks) w.name.0 o e)
array-marks w T (Some r) None o id e = refl
array-marks w T None part o id e = refl

renamed-marks : (w : Word) (T : TypeTable) (r : Option Range) (o : Option NameMeaning) (id : NameId) →
    through (w.name.0 == id.0) (type_of_mark (renamed w T r).mark) w.name.0 o ≡ None → mark_named (renamed w T r).types id ≡ mark_named T id
renamed-marks w T (Some r) o id e = other-mark T.marks _ id (not-type (w.name.0 == id.0) (length T.marks) w.name.0 o e)
renamed-marks w T None o id e = refl

-- a literal's name is not free, so what is free behind literals is free before them
literals-before : (thing : Thing) (ws : List Word) (s : Scope) (id : NameId) → (valued (Some thing) ≡ None → ⊥) → IsFree (with_names thing s ws) id → IsFree s id
literals-before thing [] s id no_value e = e
literals-before thing (w ∷ ws) s id no_value e = by_test (w.name.0 == id.0) (literals-before thing ws (with_name thing s w) id no_value e)
  where
    by_test : (b : Bool) → through b thing w.name.0 (find (λ (x : NameMeaning). x.name == id.0) s.names) ≡ None → IsFree s id
    by_test true f = absurd (no_value f)
    by_test false f = f

-- no declaration gives a mark to a name that means no value behind it
pub decl-marks : (d : PDecl) (s : Scope) (id : NameId) → IsFree (after_decl s d) id → mark_named (after_decl s d).types id ≡ mark_named s.types id
decl-marks (DNumber name e sp) s id f = add-marks (name ∷ []) (Some 0) (static_in s integer_kind e) s.types id
decl-marks (DObject names constant shape init sp) s id f = object-marks s names constant shape init id
decl-marks (DEnumeration name literals sp) s id f =
    ap (λ T. mark_named T id) (names-types _ literals (with_name _ (with_types _ s) name))
    ∙ other-mark s.types.marks _ id (not-type (name.name.0 == id.0) (length s.types.marks) name.name.0 (find (λ (x : NameMeaning). x.name == id.0) s.names)
    (literals-before _ literals (with_name _ (with_types _ s) name) id (λ e. none-some _ (sym e)) f))
decl-marks (DArray name index x sp) s id f =
    array-marks name (made_subind s x).types (drange_range s index) (made_subind s x).mark (find (λ (x : NameMeaning). x.name == id.0) s.names) id f
    ∙ (keeps-subind {old = anybody} s x).marks id refl
decl-marks (DSubtype name x sp) s id f =
    renamed-marks name (made_subind s x).types (and_then (range_of_mark (made_subind s x).types) (made_subind s x).mark) (find (λ (x : NameMeaning). x.name == id.0) s.names) id f
    ∙ (keeps-subind {old = anybody} s x).marks id refl
decl-marks (DException names sp) s id f = ap (λ T. mark_named T id) (names-types _ names s)
decl-marks (DIntIo name sp) s id f = refl
decl-marks (DPragma e sp) s id f = refl
decl-marks (DTask t sp) s id f = refl
decl-marks (DTaskBody name objects its sp) s id f = (keeps-objects {old = anybody} objects (in_body s name) refl).marks id refl

-- ---- all declarations

-- at a scope no name that means no value is that of a mark
abbrev pub AreUnmarked : Scope → Type 0
AreUnmarked s = (id : NameId) → IsFree s id → mark_named s.types id ≡ None

decls-unmarked : (ds : PDecls) (s : Scope) → InHere s → DeclareOnce s ds → AreUnmarked s → AreUnmarked (after_decls s ds)
decls-unmarked no_decl s here once h = h
decls-unmarked (decl_then d rest) s here once h =
    decls-unmarked rest (after_decl s d) (here-decl d s here) once.1 (λ id f. decl-marks d s id f ∙ h id (decl-before s here d once.0 id f))

-- a name that is none of the first four
pub no-type : (n : ℕ) → 3 < n → mark_named predefined_types record { 0 = n } ≡ None
no-type n l = found_none (λ (x : Mark). is_named record { 0 = n } x.name) predefined_types.marks (less 0 (omega arith), (less 1 (omega arith), (less 2 (omega arith), (less 3 l, tt))))
  where
    less : (k : ℕ) → k < n → (k == n) ≡ false
    less k m = ne_eqb k n (λ same. let y : ⊥ = omega arith in y)

-- each name of a predefined type means that type
types-free : (n : ℕ) → IsFree before_all record { 0 = n } → mark_named predefined_types record { 0 = n } ≡ None
types-free zero f = absurd (none-some (TypeMark 0) (sym f))
types-free (suc zero) f = absurd (none-some (TypeMark 1) (sym f))
types-free (suc (suc zero)) f = absurd (none-some (TypeMark 2) (sym f))
types-free (suc (suc (suc zero))) f = absurd (none-some (TypeMark 3) (sym f))
types-free (suc (suc (suc (suc n)))) f = no-type (suc (suc (suc (suc n)))) (omega arith)

pub first-unmarked : (name : Word) → is_predefined name.name.0 ≡ false → AreUnmarked (first_scope name)
first-unmarked name u id f = by_test (name.name.0 == id.0) refl f
  where
    by_test : (b : Bool) → (name.name.0 == id.0) ≡ b → through b MainProcedure name.name.0 (find (λ (x : NameMeaning). x.name == id.0) predefined_names) ≡ None → mark_named predefined_types id ≡ None
    by_test true e g =
        let l : 18 ≤ name.name.0 = ltb-false name.name.0 18 u in
        let same : name.name.0 ≡ id.0 = eqb-true name.name.0 id.0 e in
        no-type id.0 (omega arith)
    by_test false e g = types-free id.0 g

pub unvalued_has_no_mark : UnvaluedHasNoMark
unvalued_has_no_mark name ds once = decls-unmarked ds (first_scope name) (first-here name) once.1 (first-unmarked name once.0.0)
