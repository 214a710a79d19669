-- How the statements of a normal form are formed (4.9, 9.1, 9.5, 9.7, 9.10; this project's rule). What a call, an accept and an abort statement name
-- is found by name in the numbers, and these numbers are ones of INTEGER. So the replay text, which finds by the same names, finds what stands for
-- it.
use Rattle.std.specs.Prelude.{◌≡◌, ℕ, ℤ, ◌≤◌, true, List, [], ◌∷◌, Option, Some, None, IfSome, Ok}
use Rattle.std.specs.List.{AllByRecursion}
use Rattle.event_machine.specs.declared.Event.{Event}
use Rattle.ada_tree.specs.declared.naming.NameId.{NameId}
use Rattle.ada_tree.specs.declared.naming.Span.{Span}
use Rattle.ada_tree.specs.Every.{alts_count}
use Rattle.ada_tree.specs.PlainExpr.{PExpr, PSubind}
use Rattle.ada_tree.specs.PlainStmt.{PCallee, PCall, PHead, PStmt, SAbort, SCall, SAccept, SWait, SConditional, STimed, alternative, AAccept, ADelay, ATerminate, PAlts, no_alt, alt_then}
use Rattle.ada_tree.specs.PlainProgram.{PProgram}
use Rattle.ada_static_rules.specs.Refusals.{types_in}
use Rattle.ada_static_rules.specs.StaticValue.{is_integer_value, is_static}
use Rattle.ada_value.specs.declared.values.Value.{Value}
use Rattle.ada_value.specs.Values.{position_of, lies_in}
use Rattle.ada_value.specs.Variables.{Variables}
use Rattle.ada_value.specs.Evaluating.{evaluated}
use Rattle.syn_event.specs.Numbering.{task_named, entry_at, entry_named}
use Rattle.task_model.specs.Setting.{family_limits, lists_of}
use Rattle.task_model.specs.Tasks.{Task}
use Rattle.task_model.specs.Starting.{unit_of, started}
use Rattle.task_laws.specs.statements.Each.{Loops, InBody, HoldsOf}
use Rattle.task_laws.specs.statements.Laws.{StaysSo}
use Rattle.task_laws.specs.translation.OldNames.{OldExpr}
use Rattle.task_laws.specs.translation.Scopes.{SeeAlike}
use Rattle.normal_model.specs.Making.{variable}
use Rattle.normal_model.specs.Ranges.{subtype_of_range, family_range}
use Rattle.normal_model.specs.Waits.{head_of}
use Rattle.normal_laws.specs.runs.forms.Normalisable.{setting_for, variables_of}
use Rattle.normal_laws.specs.structure.asked.Pieces.{IsVariable, IsGuard}
use Rattle.normal_laws.specs.existence.Laws.{IsLegalOriginal}
use Rattle.normal_laws.specs.existence.statements.Laws.{IsSimpleName}
use Rattle.replay_structure.specs.typed.ScopeOf.{has_accept}
use Rattle.replay_runs.specs.starts.Laws.{form_in}
use Rattle.replay_runs.specs.starts.Formals.{form_setting, text_setting}
use Rattle.replay_runs.specs.controls.translated.Laws.{form_and_text}
use Rattle.replay_runs.specs.controls.permits.Laws.{FitsInteger}

-- ---- names

-- The callee is a simple name, by which a task of the normal form is found, and INTEGER has its number (9.5, 9.10).
pub record NamesTask (p : PProgram) (x : PCallee) : Type 0 where
  pub simple : IsSimpleName x
  pub task : ℕ
  pub named : task_named (form_in p).numbers x.name.name ≡ Some task
  pub fits : FitsInteger task

-- The task has an entry of that name, and INTEGER has its number (9.5).
pub record NamesEntry (p : PProgram) (t : ℕ) (name : NameId) : Type 0 where
  pub entry : ℕ
  pub found : entry_named (form_in p).numbers t name ≡ Some entry
  pub fits : FitsInteger entry

-- ---- indices

-- What stands as the index of an entry in the unit of the task t: nothing, a variable that the normal form adds to the unit, with the family's range
-- as its subtype, or a static expression, which evaluates to a value in that range; INTEGER has its position (4.9, 9.5).
pub data IsIndex (p : PProgram) (t e : ℕ) : Option PExpr → Type 0 where
  no_index : IsIndex p t e None
  variable_index : (s : Span) (k : ℕ) → IsVariable (setting_for p) (variables_of p t) s (subtype_of_range (types_in p) s (family_range (setting_for p) e)) k → IsIndex p t e (Some (variable (setting_for p) s k))
  static_index : (x : PExpr) (v : Value) → is_static (form_setting p).types x ≡ true → evaluated (form_setting p).types [] x ≡ Ok v →
      lies_in (family_limits (entry_at (form_in p).numbers e)) (position_of v) ≡ true → is_integer_value (position_of v) ≡ true → IsIndex p t e (Some x)

-- ---- actuals and guards

-- The expression is a variable that the normal form adds to the unit of the task t (3.2.1).
abbrev pub IsAddedVariable : PProgram → ℕ → PExpr → Type 0
IsAddedVariable p t e = (s : Span) × (k : ℕ) × (x : PSubind) × (e ≡ variable (setting_for p) s k) × IsVariable (setting_for p) (variables_of p t) s x k

-- ---- calls, accepts, waits and aborts

-- A call in the unit of the task t: the task that it names has the entry that it names, and its actuals are added variables (9.5).
pub record IsCallFormed (p : PProgram) (t : ℕ) (c : PCall) : Type 0 where
  pub callee : NamesTask p c.task
  pub entry : NamesEntry p callee.task c.entry.name
  pub index : IsIndex p t entry.entry (lists_of (form_in p).numbers entry.entry c.args).index
  pub actuals : AllByRecursion (IsAddedVariable p t) (lists_of (form_in p).numbers entry.entry c.args).actuals

-- An accept in the unit of the task t: it is no accept of main, and the entry is the task's own (9.5).
pub record IsHeadFormed (p : PProgram) (t : ℕ) (h : PHead) : Type 0 where
  pub beside : 1 ≤ t
  pub entry : NamesEntry p t h.entry.name
  pub index : IsIndex p t entry.entry h.index

-- of the accepts among alternatives
abbrev pub AreHeadsFormed : PProgram → ℕ → PAlts → Type 0
AreHeadsFormed p t no_alt = Unit {0}
AreHeadsFormed p t (alt_then (alternative guard (AAccept accept stmts) s) rest) = IsHeadFormed p t (head_of accept) × AreHeadsFormed p t rest
AreHeadsFormed p t (alt_then (alternative guard (ADelay duration stmts) s) rest) = AreHeadsFormed p t rest
AreHeadsFormed p t (alt_then (alternative guard ATerminate s) rest) = AreHeadsFormed p t rest

-- a guard is an added variable of BOOLEAN (9.7.1)
abbrev pub AreGuardsFormed : PProgram → ℕ → PAlts → Type 0
AreGuardsFormed p t no_alt = Unit {0}
AreGuardsFormed p t (alt_then (alternative guard what s) rest) = IfSome guard (IsGuard (setting_for p) (variables_of p t)) × AreGuardsFormed p t rest

-- A selective wait in the unit of the task t: it is no wait of main, it has an accept alternative, its guards are added variables, and it has so few
-- alternatives that INTEGER has the number of each delay (9.7.1).
pub record IsWaitFormed (p : PProgram) (t : ℕ) (alts : PAlts) : Type 0 where
  pub beside : 1 ≤ t
  pub accepts : has_accept alts ≡ true
  pub heads : AreHeadsFormed p t alts
  pub guards : AreGuardsFormed p t alts
  pub few : FitsInteger (alts_count alts)

-- An abort statement names one task (9.10).
abbrev pub AbortsOne : PProgram → List PCallee → Type 0
AbortsOne p [] = ⊥
AbortsOne p (x ∷ []) = NamesTask p x
AbortsOne p (x ∷ y ∷ xs) = ⊥

-- ---- statements

-- The statement of the task t is formed so, itself and without the statements in it. Nothing is asked of statements that do not synchronize.
abbrev pub IsFormed : PProgram → ℕ → Loops → PStmt → Type 0
IsFormed p t loops (SAbort xs s) = AbortsOne p xs
IsFormed p t loops (SCall c s) = IsCallFormed p t c
IsFormed p t loops (SConditional c more otherwise s) = IsCallFormed p t c
IsFormed p t loops (STimed c more duration after s) = IsCallFormed p t c
IsFormed p t loops (SAccept accept s) = IsHeadFormed p t (head_of accept)
IsFormed p t loops (SWait alts otherwise s) = IsWaitFormed p t alts
IsFormed p t loops _ = Unit {0}

-- ---- the laws

-- So is each statement of main and of each task of a legal program's normal form.
abbrev pub LegalBodiesAreFormed : Type 0
LegalBodiesAreFormed = (p : PProgram) → IsLegalOriginal p → (t : ℕ) → InBody (IsFormed p t) [] (unit_of (form_in p).program (form_in p).numbers t).body

-- So it is as the task starts,
abbrev pub LegalTasksAreFormed : Type 0
LegalTasksAreFormed = (p : PProgram) → IsLegalOriginal p → (inputs : List (List ℤ)) (t : ℕ) → HoldsOf (IsFormed p t) (started (form_setting p) inputs t)

-- and after each step and each event.
abbrev pub FormedStays : Type 0
FormedStays = (p : PProgram) (t : ℕ) (l : Task) → HoldsOf (IsFormed p t) l → StaysSo (IsFormed p t) l

-- A static index is worth the same with all variables that a task of the normal form and its image in the replay text see alike (4.9).
abbrev pub LegalStaticIndicesStay : Type 0
LegalStaticIndicesStay =
    (p : PProgram) (events : List Event) → IsLegalOriginal p → (V V' : Variables) → SeeAlike (form_and_text p events) V V' → (x : PExpr) → OldExpr (form_and_text p events) x → is_static (form_setting p).types x ≡ true →
    (v : Value) → evaluated (form_setting p).types [] x ≡ Ok v → (evaluated (form_setting p).types V x ≡ Ok v) × (evaluated (text_setting p events).types V' x ≡ Ok v)
