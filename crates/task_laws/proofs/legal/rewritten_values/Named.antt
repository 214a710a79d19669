-- The literals of a program whose names the source can hold have names of it.
use Rattle.std.proofs.Common.{◌≡◌, ℕ, zero, suc, ◌<◌, Bool, true, false, List, [], ◌∷◌, ◌++◌, length, map, slice_get, IsSomeAnd, Option, Some, None, ◌⊎◌, ⊎_elim, refl, sym, ap, ◌∙◌, subst, true≢false}
use Rattle.std.specs.List.{AllByRecursion}
use Rattle.std.proofs.lemmas.Option.{none-some, slice_get_within}
use Rattle.std.proofs.lemmas.List.Elements.{recursion_from_All}
use Rattle.ada_tree.specs.declared.naming.NameId.{NameId}
use Rattle.ada_tree.specs.declared.naming.Word.{Word}
use Rattle.ada_tree.specs.declared.static_types.Kind.{Kind}
use Rattle.ada_tree.specs.declared.static_types.Kind.TheVariants.{Integer, Truth, Enumeration, Array}
use Rattle.ada_tree.specs.TypeTable.{TypeTable}
use Rattle.ada_tree.specs.Lexical.{IsIdentifier}
use Rattle.ada_tree.specs.PlainDecl.{PDecl, DNumber, DObject, DEnumeration, DArray, DSubtype, DException, DIntIo, DPragma, DTask, DTaskBody, PDecls, no_decl, decl_then}
use Rattle.ada_tree.specs.Every.{EveryWord, EveryDecl, EveryDecls}
use Rattle.ada_tree.specs.WellPlaced.{tokens}
use Rattle.ada_static_rules.specs.Scope.{Scope, kind_at}
use Rattle.ada_static_rules.specs.Declaring.{first_scope, with_name, with_types, after_decl, after_decls}
use Rattle.task_laws.specs.legal.rewritten_types.Agreement.{scalar_only, Keeps}
use Rattle.task_laws.proofs.legal.rewritten_types.Lookups.{earlier-or-last}
use Rattle.task_laws.proofs.legal.rewritten_types.Adding.{names-types, keeps-decl}
use Rattle.task_laws.proofs.legal.rewritten_types.Owning.{nobody, all-new}
use Rattle.task_laws.specs.legal.rewritten_values.Values.{LiteralsWithin}
use Rattle.task_laws.specs.legal.rewritten_values.Laws.{LiteralsAreNamed}
use Rattle.common_lemmas.proofs.Lists.{last_at}
use Rattle.common_lemmas.proofs.Options.{some_same}

-- a name that the source can hold is one of the names
name-within : (names : List (List ℕ)) (n : ℕ) (o : Option (List ℕ)) → slice_get names n ≡ o → IsSomeAnd o IsIdentifier → n < length names
name-within names n (Some t) e h = slice_get_within names n t e
name-within names n None e h = absurd h

words-within : (names : List (List ℕ)) (ws : List Word) → AllByRecursion (EveryWord (tokens names)) ws → AllByRecursion (λ (id : NameId). id.0 < length names) (map (λ (w : Word). w.name) ws)
words-within names [] h = tt
words-within names (w ∷ ws) h = (name-within names w.name.0 (slice_get names w.name.0) refl h.0, words-within names ws h.1)

-- the same in a table that has no more kinds of values
within-kept : (n : ℕ) (T U : TypeTable) → Keeps nobody T U → LiteralsWithin n T → LiteralsWithin n U
within-kept n T U keeps h k ids e = by_kind (kind_at T k) refl (sym (keeps.kinds k) ∙ ap scalar_only e)
  where
    by_kind : (o : Option Kind) → kind_at T k ≡ o → scalar_only o ≡ Some (Enumeration ids) → AllByRecursion (λ (id : NameId). id.0 < n) ids
    by_kind (Some (Array index first last part)) f g = absurd (none-some _ g)
    by_kind (Some Integer) f g = h k ids (f ∙ g)
    by_kind (Some Truth) f g = h k ids (f ∙ g)
    by_kind (Some (Enumeration names)) f g = h k ids (f ∙ g)
    by_kind None f g = absurd (none-some _ g)

-- the literals of one more enumeration
ids_of : Kind → List NameId
ids_of (Enumeration ids) = ids
ids_of _ = []

within-more : (n : ℕ) (ks : List Kind) (new : List NameId) → ((k : ℕ) (ids : List NameId) → slice_get ks k ≡ Some (Enumeration ids) → AllByRecursion (λ (id : NameId). id.0 < n) ids) →
    AllByRecursion (λ (id : NameId). id.0 < n) new → (k : ℕ) (ids : List NameId) → slice_get (ks ++ Enumeration new ∷ []) k ≡ Some (Enumeration ids) → AllByRecursion (λ (id : NameId). id.0 < n) ids
unfolding ids_of
within-more n ks new h m k ids e =
    ⊎_elim
    (λ same. h k ids (sym same ∙ e))
    (λ last. subst (AllByRecursion (λ (id : NameId). id.0 < n)) (ap ids_of (some_same (sym (last_at ks (Enumeration new)) ∙ ap (slice_get (ks ++ Enumeration new ∷ [])) (sym last) ∙ e))) m)
    (earlier-or-last ks (Enumeration new) k)

module _ (names : List (List ℕ)) where
  within-decl : (d : PDecl) (s : Scope) → EveryDecl (tokens names) d → LiteralsWithin (length names) s.types → LiteralsWithin (length names) (after_decl s d).types
  within-decl (DEnumeration name literals sp) s t h =
      subst (LiteralsWithin (length names)) (sym (names-types _ literals (with_name _ (with_types _ s) name)))
      (within-more (length names) s.types.kinds (map (λ w. w.name) literals) h (words-within names literals (recursion_from_All _ literals t.2.1)))
  within-decl (DNumber name e sp) s t h = within-kept (length names) _ _ (keeps-decl (DNumber name e sp) s refl) h
  within-decl (DObject ws constant shape init sp) s t h = within-kept (length names) _ _ (keeps-decl (DObject ws constant shape init sp) s (all-new ws)) h
  within-decl (DArray name index x sp) s t h = within-kept (length names) _ _ (keeps-decl (DArray name index x sp) s refl) h
  within-decl (DSubtype name x sp) s t h = within-kept (length names) _ _ (keeps-decl (DSubtype name x sp) s refl) h
  within-decl (DException ws sp) s t h = within-kept (length names) _ _ (keeps-decl (DException ws sp) s tt) h
  within-decl (DIntIo name sp) s t h = h
  within-decl (DPragma e sp) s t h = h
  within-decl (DTask x sp) s t h = h
  within-decl (DTaskBody name objects its sp) s t h = within-kept (length names) _ _ (keeps-decl (DTaskBody name objects its sp) s tt) h

  within-decls : (ds : PDecls) (s : Scope) → EveryDecls (tokens names) ds → LiteralsWithin (length names) s.types → LiteralsWithin (length names) (after_decls s ds).types
  within-decls no_decl s t h = h
  within-decls (decl_then d rest) s t h = within-decls rest (after_decl s d) t.1 (within-decl d s t.0 h)

-- the predefined types are no enumerations
is_enumeration : Option Kind → Bool
is_enumeration (Some (Enumeration ids)) = true
is_enumeration _ = false

first-none : (k : ℕ) (ids : List NameId) → slice_get (Integer ∷ Truth ∷ []) k ≡ Some (Enumeration ids) → ⊥
unfolding is_enumeration
first-none zero ids e = true≢false (sym (ap is_enumeration e))
first-none (suc zero) ids e = true≢false (sym (ap is_enumeration e))
first-none (suc (suc k)) ids e = true≢false (sym (ap is_enumeration e))

first-within : (n : ℕ) (name : Word) → LiteralsWithin n (first_scope name).types
first-within n name k ids e = absurd (first-none k ids e)

pub literals_are_named : LiteralsAreNamed
literals_are_named p t = within-decls p.names p.decls (first_scope p.name) t.2 (first-within (length p.names) p.name)
