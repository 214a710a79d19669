-- What a place can use of the language it can use behind declarations of other names, inside of them, and in bodies.
use Rattle.std.proofs.Common.{List, Some, [], ap, false, if◌then◌else◌, length, lit<, map, negsuc, pos, refl, sym, ℕ, ◌-ℤ◌, ◌<◌, ◌==◌, ◌∙◌, ◌∷◌, ◌≡◌}
use Rattle.std.specs.List.{AllByRecursion}
use Rattle.common_lemmas.proofs.Lists.{all_weaker}
use Rattle.common_lemmas.proofs.Numbers.{lt_true, unequal}
use Rattle.common_lemmas.proofs.Truth.{clash}
use Rattle.ada_tree.specs.PlainDecl.{DArray, DEnumeration, DException, DIntIo, DNumber, DObject, DPragma, DSubtype, DTask, DTaskBody, PDecl, decls_of}
use Rattle.ada_tree.specs.TypeTable.{TypeTable}
use Rattle.ada_tree.specs.declared.naming.NameId.{NameId}
use Rattle.ada_tree.specs.declared.naming.Word.{Word}
use Rattle.ada_tree.specs.declared.static_types.Kind.TheVariants.{Enumeration}
use Rattle.ada_tree.specs.declared.static_types.Mark.{Mark}
use Rattle.ada_static_rules.specs.Declaring.{add_kind, add_mark, after_decl, after_decls, after_objects, after_own_object, declared_object, first_mark, in_body, inner_scope, predefined_types, with_constants, with_name, with_types}
use Rattle.ada_static_rules.specs.RuleDuplicate.{is_predefined}
use Rattle.ada_static_rules.specs.Scope.{AnException, AnotherUnit, Literal, Scope, Thing, TypeMark, integer_kind, marking, meaning, scalar_kind}
use Rattle.ada_static_rules.specs.StaticValue.{is_named, mark_named}
use Rattle.task_laws.proofs.legal.alike_scopes.Marks.{scalar-grown}
use Rattle.task_laws.proofs.legal.rewritten_types.Keeping.{grows-on, grows-self}
use Rattle.task_laws.proofs.legal.rewritten_types.Lookups.{find-grown}
use Rattle.task_laws.proofs.legal.types.GoodDeclarations.{grows-decl}
use Rattle.task_laws.proofs.legal.types.GoodScopes.{names-kept}
use Rattle.task_laws.specs.legal.rewritten_types.Agreement.{Grows}
use Rattle.task_laws.specs.legal.rewritten_types.Rewriting.{names_declared}
use Rattle.normal_laws.proofs.structure.typed.Literals.{integer-marked}
use Rattle.normal_laws.proofs.structure.typed.Scopes.{meaning-more}
use Rattle.collect_structure.specs.scopes.Form.{DeclaresNew, IsNewName}
use Rattle.collect_structure.specs.scopes.Language.{KnowsLanguage}
use Rattle.collect_structure.specs.typed.Recording.{ArePredefined}
use Rattle.ada_tree.specs.declared.static_types.Kind.TheVariants as kind

-- ---- what names mean behind declarations of other names

-- the name is another one
abbrev pub IsOther : NameId → Word → Type 0
IsOther id w = (w.name.0 == id.0) ≡ false

-- each name that is declared is another one
abbrev pub IsApart : NameId → PDecl → Type 0
IsApart id x = AllByRecursion (IsOther id) (names_declared x)

pub name-kept : (thing : Thing) (d : Scope) (w : Word) (id : NameId) → IsOther id w → meaning (with_name thing d w) id ≡ meaning d id
name-kept thing d w id h = meaning-more thing d w id ∙ ap (λ b. if b then Some thing else meaning d id) h

pub decl-means : (id : NameId) (x : PDecl) (d : Scope) → IsApart id x → meaning (after_decl d x) id ≡ meaning d id
decl-means id (DNumber w e s) d h = name-kept _ d w id h.0
decl-means id (DObject ws constant shape init s) d h = names-kept (declared_object d constant shape).thing ws (with_types (with_constants d ws init (declared_object d constant shape)) d) id h
decl-means id (DEnumeration w ws s) d h =
    let T : TypeTable = add_mark
    (add_kind d.types (Enumeration (map (λ (v : Word). v.name) ws))) record { name = Some w.name; kind = length d.types.kinds; first = pos 0; last = pos (length ws) -ℤ pos 1 } in
    names-kept (Literal (length d.types.kinds)) ws (with_name (TypeMark (length d.types.marks)) (with_types T d) w) id h.1 ∙ name-kept _ d w id h.0
decl-means id (DArray w r x s) d h = name-kept _ d w id h.0
decl-means id (DSubtype w x s) d h = name-kept _ d w id h.0
decl-means id (DException ws s) d h = names-kept AnException ws d id h
decl-means id (DIntIo w s) d h = name-kept AnotherUnit d w id h.0
decl-means id (DPragma e s) d h = refl
decl-means id (DTask t s) d h = name-kept _ d t.name id h.0
decl-means id (DTaskBody w objects its s) d h = refl

pub decls-means : (id : NameId) (xs : List PDecl) (d : Scope) → AllByRecursion (IsApart id) xs → meaning (after_decls d (decls_of xs)) id ≡ meaning d id
decls-means id [] d h = refl
decls-means id (x ∷ xs) d h = decls-means id xs (after_decl d x) h.1 ∙ decl-means id x d h.0

-- an object of other names in a body
pub own-means : (id : NameId) (x : PDecl) (d : Scope) → IsApart id x → meaning (after_own_object d x) id ≡ meaning d id
own-means id (DObject ws constant shape init s) d h = decl-means id (DObject ws constant shape init s) d h
own-means id (DNumber w e s) d h = refl
own-means id (DEnumeration w ws s) d h = refl
own-means id (DArray w r x s) d h = refl
own-means id (DSubtype w x s) d h = refl
own-means id (DException ws s) d h = refl
own-means id (DIntIo w s) d h = refl
own-means id (DPragma e s) d h = refl
own-means id (DTask t s) d h = refl
own-means id (DTaskBody w objects its s) d h = refl

pub objects-means : (id : NameId) (xs : List PDecl) (d : Scope) → AllByRecursion (IsApart id) xs → meaning (after_objects d (decls_of xs)) id ≡ meaning d id
objects-means id [] d h = refl
objects-means id (x ∷ xs) d h = objects-means id xs (after_own_object d x) h.1 ∙ own-means id x d h.0

-- ---- the language

new-apart : (k : ℕ) → k < 18 → (x : PDecl) → DeclaresNew x → IsApart (record { 0 = k }) x
new-apart k l x h = all_weaker IsNewName (IsOther (record { 0 = k })) (names_declared x) (λ w n. unequal w.name.0 k (λ e. clash (sym n ∙ ap is_predefined e ∙ lt_true k 18 l))) h

-- the same names mean the same, and the table grows
pub language-on : (d d' : Scope) → Grows d.types d'.types → ((k : ℕ) → k < 18 → meaning d' (record { 0 = k }) ≡ meaning d (record { 0 = k })) → KnowsLanguage d → KnowsLanguage d'
language-on d d' g e h = record { grows = grows-on h.grows g; means = λ k l. e k l ∙ h.means k l }

pub language-decl : (x : PDecl) (d : Scope) → DeclaresNew x → KnowsLanguage d → KnowsLanguage (after_decl d x)
language-decl x d n h = language-on d (after_decl d x) (grows-decl x d) (λ k l. decl-means (record { 0 = k }) x d (new-apart k l x n)) h

pub language-decls : (xs : List PDecl) (d : Scope) → AllByRecursion DeclaresNew xs → KnowsLanguage d → KnowsLanguage (after_decls d (decls_of xs))
language-decls [] d n h = h
language-decls (x ∷ xs) d n h = language-decls xs (after_decl d x) n.1 (language-decl x d n.0 h)

pub language-own : (x : PDecl) (d : Scope) → DeclaresNew x → KnowsLanguage d → KnowsLanguage (after_own_object d x)
language-own (DObject ws constant shape init s) d n h = language-decl (DObject ws constant shape init s) d n h
language-own (DNumber w e s) d n h = h
language-own (DEnumeration w ws s) d n h = h
language-own (DArray w r x s) d n h = h
language-own (DSubtype w x s) d n h = h
language-own (DException ws s) d n h = h
language-own (DIntIo w s) d n h = h
language-own (DPragma e s) d n h = h
language-own (DTask t s) d n h = h
language-own (DTaskBody w objects its s) d n h = h

pub language-objects : (xs : List PDecl) (d : Scope) → AllByRecursion DeclaresNew xs → KnowsLanguage d → KnowsLanguage (after_objects d (decls_of xs))
language-objects [] d n h = h
language-objects (x ∷ xs) d n h = language-objects xs (after_own_object d x) n.1 (language-own x d n.0 h)

pub language-body : (w : Word) (d : Scope) → KnowsLanguage d → KnowsLanguage (in_body d w)
language-body w d h = language-on d (in_body d w) (grows-self d.types) (λ k l. refl) h

pub language-inside : (d : Scope) → KnowsLanguage d → KnowsLanguage (inner_scope d)
language-inside d h = language-on d (inner_scope d) (grows-self d.types) (λ k l. refl) h

-- ---- what the predefined names mean

pub integer-named : (d : Scope) → KnowsLanguage d → mark_named d.types (record { 0 = 0 }) ≡ Some (first_mark 0 0 (negsuc 2147483647) (pos 2147483647))
integer-named d k = find-grown (λ (x : Mark). is_named (record { 0 = 0 }) x.name) predefined_types.marks d.types.marks k.grows.mark (first_mark 0 0 (negsuc 2147483647) (pos 2147483647)) refl

-- INTEGER, BOOLEAN, FALSE and TRUE are what they are before all declarations, and so is TASKING_ERROR
abbrev pub predefined-known : (d : Scope) → KnowsLanguage d → ArePredefined d
predefined-known d k = record {
  integer = record {
    its = record {
      place = 0;
      mark = first_mark 0 0 (negsuc 2147483647) (pos 2147483647);
      means = k.means 0 (lit< tt);
      there = k.grows.mark 0 (first_mark 0 0 (negsuc 2147483647) (pos 2147483647)) refl;
      kind = refl;
      scalar = scalar-grown predefined_types d.types k.grows 0 (kind.Integer, refl);
      named = integer-named d k;
      first = refl;
    };
    last = refl;
  };
  truth = record {
    place = 3;
    mark = first_mark 3 1 (pos 0) (pos 1);
    means = k.means 3 (lit< tt);
    there = k.grows.mark 3 (first_mark 3 1 (pos 0) (pos 1)) refl;
    kind = refl;
    scalar = scalar-grown predefined_types d.types k.grows 1 (kind.Truth, refl);
    first = refl;
    last = refl;
  };
  falses = k.means 4 (lit< tt);
  trues = k.means 5 (lit< tt);
}

pub integer-kind : (d : Scope) → KnowsLanguage d → scalar_kind (marking d (record { 0 = 0 })) ≡ Some integer_kind
integer-kind d h = ap scalar_kind (integer-marked d (predefined-known d h).integer.its)

pub tasking-known : (d : Scope) → KnowsLanguage d → meaning d (record { 0 = 9 }) ≡ Some AnException
tasking-known d h = h.means 9 (lit< tt)
