-- Declarations of old names, one by one: variables, tasks and bodies of a normal form.
use Rattle.std.proofs.Common.{◌≡◌, ℕ, Bool, true, List, [], ◌∷◌, Option, Some, None, IfSome}
use Rattle.std.specs.List.{AllByRecursion}
use Rattle.std.proofs.lemmas.List.Elements.{recursion_from_All}
use Rattle.ada_tree.specs.declared.naming.Span.{Span}
use Rattle.ada_tree.specs.PlainExpr.{PDrange, PSubind}
use Rattle.ada_tree.specs.PlainDecl.{PEntry, PDecl, DObject, DTask, DTaskBody, PDecls, no_decl, decl_then}
use Rattle.ada_tree.specs.PlainProgram.{PProgram}
use Rattle.ada_tree.specs.Every.{Rules, EveryWord, EveryDrange, EveryFormal, EveryEntry, EveryDecl, EveryDecls}
use Rattle.ada_tree.specs.WellPlaced.{AreObjects, well_placed}
use Rattle.syn_event.specs.DeclaredTasks.{decl_list}
use Rattle.task_model.specs.Setting.{Setting}
use Rattle.normal_model.specs.Names.{variable_name}
use Rattle.normal_model.specs.Ranges.{word_at}
use Rattle.normal_model.specs.Variables.{variable_declared}
use Rattle.normal_laws.proofs.structure.numbers.Listed.{IsOneTask, IsOneBody}
use Rattle.normal_laws.specs.structure.checked.Around.{own_rules}
use Rattle.task_laws.specs.legal.alike_scopes.Old.{IsOldDrange}
use Rattle.task_laws.specs.legal.alike_scopes.Laws.{IsMetBut}
use Rattle.normal_laws.proofs.structure.typed.Stays.{old-subind, old-drange, old-formals}
use Rattle.normal_laws.proofs.structure.typed.Declared.{old-shape, old-init}
use Rattle.replay_structure.proofs.checked.Along.{OnTask}
use Rattle.replay_structure.specs.scopes.More.{AreDoubled}
use Rattle.replay_structure.specs.scopes.Form.{IsOldEntry, HasOldInit, IsOwnObject, IsVariableOf, IsTaskOf, IsEveryTask}
use Rattle.replay_structure.specs.legal.names.form_names.Laws.{IsNamedBody}

module _ (old : ℕ → Bool) where
  abbrev r : Rules
  r = own_rules old

  -- a variable of the normal form
  pub variable-of : (g : Setting) (s : Span) (x : PSubind) (k : ℕ) → EveryDecl r (variable_declared g s x k) → IsVariableOf old (variable_declared g s x k)
  variable-of g s x k h = (recursion_from_All (EveryWord r) (word_at s (variable_name g k) ∷ []) h.1.1, old-subind old 2 x h.2)

  -- ---- tasks

  entry-old : (e : PEntry) → EveryEntry r e → IsOldEntry old e
  entry-old e h = record { family = go e.family h.2; formals = old-formals old e.formals (recursion_from_All (EveryFormal r) e.formals h.3) }
    where
      go : (o : Option PDrange) → IfSome o (EveryDrange r 2) → IfSome o (IsOldDrange old)
      go None i = tt
      go (Some x) i = old-drange old 2 x i

  entries-old : (es : List PEntry) → AllByRecursion (EveryEntry r) es → AllByRecursion (IsOldEntry old) es
  entries-old [] h = tt
  entries-old (e ∷ es) h = (entry-old e h.0, entries-old es h.1)

  abbrev HasOldName : PEntry → Type 0
  HasOldName e = old e.name.name.0 ≡ true

  entries-named : (es : List PEntry) → AllByRecursion (EveryEntry r) es → AllByRecursion HasOldName es
  entries-named [] h = tt
  entries-named (e ∷ es) h = (h.0.1, entries-named es h.1)

  -- the names of a task's entries are old
  pub task-named : (d : PDecl) → EveryDecl r d → OnTask (λ t. AllByRecursion HasOldName t.entries) d
  task-named (DTask t s) h = entries-named t.entries (recursion_from_All (EveryEntry r) t.entries h.1.1)
  task-named _ h = tt

  pub task-of : (q : PProgram) (d : PDecl) → IsOneTask d → EveryDecl r d → OnTask (λ t. AreDoubled q old t.entries) d → IsTaskOf q old d
  task-of q (DTask t s) one h k = (one, entries-old t.entries (recursion_from_All (EveryEntry r) t.entries h.1.1), k)
  task-of q _ one h k = absurd one

  pub every-of : (d : PDecl) → EveryDecl r d → IsEveryTask old d
  every-of (DTask t s) h = h.1
  every-of _ h = tt

  -- ---- bodies

  objects-own : (ds : PDecls) → AreObjects ds → EveryDecls r ds → AllByRecursion (IsOwnObject old) (decl_list ds)
  objects-own no_decl o h = tt
  objects-own (decl_then (DObject ws c x i s) ds) o h = ((recursion_from_All (EveryWord r) ws h.0.1.1, old-shape IsMetBut (λ s m. m) old x h.0.2), objects-own ds o h.1)
  objects-own (decl_then _ ds) o h = absurd o

  objects-begun : (ds : PDecls) → AreObjects ds → EveryDecls r ds → AllByRecursion (HasOldInit old) (decl_list ds)
  objects-begun no_decl o h = tt
  objects-begun (decl_then (DObject ws c x i s) ds) o h = (old-init IsMetBut (λ s m. m) old i h.0.4, objects-begun ds o h.1)
  objects-begun (decl_then _ ds) o h = absurd o

  pub body-of : (names : List (List ℕ)) (d : PDecl) → IsOneBody d → EveryDecl r d → EveryDecl (well_placed names) d → IsNamedBody old d
  body-of names (DTaskBody w objects its s) one h m = record { named = h.1; owns = objects-own objects m.2 h.3; inits = objects-begun objects m.2 h.3; every = h.4 }
  body-of names _ one h m = absurd one
