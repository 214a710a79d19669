-- Kept names mean the same behind the declarations of a normal form and of its collecting text, whichever these names are.
use Rattle.std.proofs.Common.{◌≡◌, ◌==◌, Bool, true, false, if◌then◌else◌, List, [], ◌∷◌, Option, Some, None, sym, subst, ◌∙◌, ℕ}
use Rattle.std.specs.List.{AllByRecursion}
use Rattle.ada_tree.specs.declared.naming.NameId.{NameId}
use Rattle.ada_tree.specs.declared.naming.Word.{Word}
use Rattle.ada_tree.specs.PlainDecl.{OPlain, OArray, PDecl, DNumber, DObject, DEnumeration, DArray, DSubtype, DException, DIntIo, DPragma, DTask, DTaskBody}
use Rattle.ada_tree.specs.Every.{EveryDecl}
use Rattle.syn_event.specs.declared.meanings.Meant.{Meant}
use Rattle.syn_event.specs.declared.meanings.Meant.TheVariants.{MainProcedure, TaskType, TaskOf, Shared, Inner}
use Rattle.syn_event.specs.CheckScope.{CheckScope, meaning}
use Rattle.syn_event.specs.CheckSites.{with_meant, with_declared_object, with_object, after_decl}
use Rattle.syn_event.specs.Extents.{is_array_type}
use Rattle.replay_structure.specs.checked.Checkable.{IsSameDecl}
use Rattle.replay_structure.proofs.checked.Scopes.{with_name, meant-under, meant-beside}
use Rattle.replay_structure.proofs.checkable.Kept.{rules_of}

-- kept names mean the same in two scopes
abbrev pub AreAlike : (ℕ → Bool) → CheckScope → CheckScope → Type 0
AreAlike kept c d = (id : NameId) → kept id.0 ≡ true → meaning d id ≡ meaning c id

-- the word is none of the kept names
abbrev pub IsNewWord : (ℕ → Bool) → Word → Type 0
IsNewWord kept w = (id : NameId) → kept id.0 ≡ true → (w.name.0 == id.0) ≡ false

module _ (kept : ℕ → Bool) where
  pub meant-alike : (m : Meant) (c d : CheckScope) (ws : List Word) → AreAlike kept c d → AreAlike kept (with_meant m c ws) (with_meant m d ws)
  meant-alike m c d [] h = h
  meant-alike m c d (w ∷ ws) h = meant-alike m (with_name c w.name.0 m) (with_name d w.name.0 m) ws (λ id o. meant-under c d w.name.0 m id (h id o))

  value-alike : (b : Bool) (c d : CheckScope) (ws : List Word) → AreAlike kept c d → AreAlike kept (with_declared_object b c ws) (with_declared_object b d ws)
  value-alike true c d ws h = meant-alike Shared c d ws h
  value-alike false c d ws h = h

  object-alike : (m : Option Meant) (c d : CheckScope) (mark : Word) (b : Bool) (ws : List Word) → AreAlike kept c d → AreAlike kept (with_object c m mark b ws) (with_object d m mark b ws)
  object-alike (Some TaskType) c d mark b ws h = meant-alike (TaskOf mark.name) c d ws h
  object-alike (Some MainProcedure) c d mark b ws h = value-alike b c d ws h
  object-alike (Some (TaskOf x)) c d mark b ws h = value-alike b c d ws h
  object-alike (Some Shared) c d mark b ws h = value-alike b c d ws h
  object-alike (Some Inner) c d mark b ws h = value-alike b c d ws h
  object-alike None c d mark b ws h = value-alike b c d ws h

  -- a declaration that both have
  pub decl-alike : (x : PDecl) (c d : CheckScope) → EveryDecl (rules_of kept) x → IsSameDecl c.types d.types x → AreAlike kept c d → AreAlike kept (after_decl c x) (after_decl d x)
  decl-alike (DObject ws true (OPlain x) i s) c d e t h =
      subst (λ b. AreAlike kept (after_decl c (DObject ws true (OPlain x) i s)) (with_object d (meaning d x.mark.name) x.mark b ws)) (sym t.1)
      (subst (λ m. AreAlike kept (after_decl c (DObject ws true (OPlain x) i s)) (with_object d m x.mark (is_array_type c.types x.mark.name) ws)) (sym (h x.mark.name e.2.0))
      (object-alike (meaning c x.mark.name) c d x.mark (is_array_type c.types x.mark.name) ws h))
  decl-alike (DObject ws false (OPlain x) i s) c d e t h =
      subst (λ m. AreAlike kept (after_decl c (DObject ws false (OPlain x) i s)) (with_object d m x.mark true ws)) (sym (h x.mark.name e.2.0))
      (object-alike (meaning c x.mark.name) c d x.mark true ws h)
  decl-alike (DObject ws constant (OArray r x) i s) c d e t h =
      subst (λ m. AreAlike kept (after_decl c (DObject ws constant (OArray r x) i s)) (with_object d m x.mark true ws)) (sym (h x.mark.name e.2.1.0))
      (object-alike (meaning c x.mark.name) c d x.mark true ws h)
  decl-alike (DTask x s) c d e t h = meant-alike (if x.of_kind then TaskType else TaskOf x.name.name) c d (x.name ∷ []) h
  decl-alike (DNumber w e' s) c d e t h = h
  decl-alike (DEnumeration w ws s) c d e t h = h
  decl-alike (DArray w r x s) c d e t h = h
  decl-alike (DSubtype w x s) c d e t h = h
  decl-alike (DException ws s) c d e t h = h
  decl-alike (DIntIo w s) c d e t h = h
  decl-alike (DPragma e' s) c d e t h = h
  decl-alike (DTaskBody w objects its s) c d e t h = h

  -- ---- new names

  -- new names get a meaning
  pub new-alike : (m : Meant) (c d : CheckScope) (ws : List Word) → AllByRecursion (IsNewWord kept) ws → AreAlike kept c d → AreAlike kept c (with_meant m d ws)
  new-alike m c d [] n h = h
  new-alike m c d (w ∷ ws) n h = new-alike m c (with_name d w.name.0 m) ws n.1 (λ id o. meant-beside d w.name.0 m id (n.0 id o) ∙ h id o)

  new-value : (b : Bool) (c d : CheckScope) (ws : List Word) → AllByRecursion (IsNewWord kept) ws → AreAlike kept c d → AreAlike kept c (with_declared_object b d ws)
  new-value true c d ws n h = new-alike Shared c d ws n h
  new-value false c d ws n h = h

  pub new-object : (m : Option Meant) (c d : CheckScope) (mark : Word) (b : Bool) (ws : List Word) → AllByRecursion (IsNewWord kept) ws → AreAlike kept c d → AreAlike kept c (with_object d m mark b ws)
  new-object (Some TaskType) c d mark b ws n h = new-alike (TaskOf mark.name) c d ws n h
  new-object (Some MainProcedure) c d mark b ws n h = new-value b c d ws n h
  new-object (Some (TaskOf x)) c d mark b ws n h = new-value b c d ws n h
  new-object (Some Shared) c d mark b ws n h = new-value b c d ws n h
  new-object (Some Inner) c d mark b ws n h = new-value b c d ws n h
  new-object None c d mark b ws n h = new-value b c d ws n h
