-- What can be used at a place of a unit in a collecting text, beside what can be used there in its normal form, for the static rules 1 and 3 to 12 (this project's rule).
use Rattle.std.specs.Prelude.{◌≡◌, ℕ, pos, Bool, true, false, not, ◌&&◌, IfSome, List, [], ◌∷◌, map, unwrap_or, Some, None}
use Rattle.ada_tree.specs.declared.naming.NameId.{NameId}
use Rattle.ada_tree.specs.declared.static_types.Mark.{Mark}
use Rattle.ada_tree.specs.declared.statements.ParMode.TheVariants.{Take, Give}
use Rattle.ada_tree.specs.PlainProgram.{PProgram}
use Rattle.ada_static_rules.specs.Scope.{Scope, FormalPart, single, EntryPart, Variable, AnException, SingleTask, integer_kind, truth_kind, meaning, mark_at, entry_named}
use Rattle.ada_static_rules.specs.StaticValue.{value_named}
use Rattle.ada_static_rules.specs.RuleArgCount.{called_entry}
use Rattle.syn_event.specs.Numbering.{task_named}
use Rattle.task_model.specs.Setting.{entry_of}
use Rattle.task_laws.specs.legal.rewritten_types.Agreement.{IsScalar}
use Rattle.task_laws.specs.legal.asked.Asked.{Asks}
use Rattle.task_laws.specs.legal.alike_scopes.Alike.{SameNames}
use Rattle.task_laws.specs.legal.alike_scopes.Old.{IsOldExpr}
use Rattle.normal_model.specs.RewrittenUnit.{RewrittenUnit}
use Rattle.replay_structure.specs.typed.ScopeOf.{IsNumber, HasLists, IsEntryOf, form_asks}
use Rattle.replay_structure.specs.typed.Controller.{IsInteger}
use Rattle.collect_model.specs.Names.{caller_text, answer_text, part_text, recorder_text, note_text, kind_text, subject_text, argument_text, index_text, owner_text, reply_text}
use Rattle.collect_structure.specs.Names.{added_id}

-- ---- entries

-- a formal of mode in of INTEGER
abbrev pub in_number : PProgram → List ℕ → FormalPart
in_number q text = record { name = added_id q text; mode = Take; mark = record { 0 = 0 }; kind = Some integer_kind }

-- an entry with the formal of the caller in front of its others
abbrev pub told_entry : PProgram → EntryPart → EntryPart
told_entry q e = record { name = e.name; family = e.family; formals = in_number q caller_text ∷ e.formals }

-- the formals of the recorder's entry
abbrev pub note_parts : PProgram → List FormalPart
note_parts q =
    in_number q kind_text ∷ in_number q subject_text ∷ in_number q argument_text ∷ in_number q index_text ∷ in_number q owner_text
    ∷ record { name = added_id q reply_text; mode = Give; mark = record { 0 = 3 }; kind = Some truth_kind } ∷ []

-- the recorder, as units see it
pub record IsRecorder (q : PProgram) (d : Scope) : Type 0 where
  pub entries : List EntryPart
  pub means : meaning d (added_id q recorder_text) ≡ Some (SingleTask entries)
  pub note : HasLists (entry_named entries (added_id q note_text)) single (note_parts q)

-- ---- variables

-- The name means a variable of BOOLEAN (3.5.3), and it is the name of no constant and of no literal.
pub record IsTruth (d : Scope) (id : NameId) : Type 0 where
  pub place : ℕ
  pub mark : Mark
  pub means : meaning d id ≡ Some (Variable place)
  pub there : mark_at d.types place ≡ Some mark
  pub kind : mark.kind ≡ truth_kind
  pub scalar : IsScalar d.types mark.kind
  pub first : mark.first ≡ pos 0
  pub last : mark.last ≡ pos 1
  pub changes : value_named d.types id ≡ None

-- ---- what can be used

-- The names that accepts and loops declare are told by a test; these are none of them.
pub record AreOuter (q : PProgram) (inner : ℕ → Bool) : Type 0 where
  pub answer : inner (added_id q answer_text).0 ≡ false
  pub part : inner (added_id q part_text).0 ≡ false
  pub recorder : inner (added_id q recorder_text).0 ≡ false
  pub caller : inner (added_id q caller_text).0 ≡ false
  pub tasking : inner 9 ≡ false
  pub integer : inner 0 ≡ false

-- What can be used at a place of a unit in a collecting text (d), where c is what can be used there in the normal form.
pub record IsToldScope (u : RewrittenUnit) (old inner : ℕ → Bool) (c d : Scope) : Type 0 where
  -- old names mean the same
  pub names : SameNames old c d
  pub main : c.in_main ≡ d.in_main
  -- the two variables, the recorder, TASKING_ERROR and INTEGER
  pub answer : IsTruth d (added_id u.setting.program answer_text)
  pub part : IsNumber d (added_id u.setting.program part_text)
  pub recorder : IsRecorder u.setting.program d
  pub tasking : meaning d (record { 0 = 9 }) ≡ Some AnException
  pub integer : IsInteger d
  -- tasks, and the own one, have the same entries with the formal of the caller
  pub tasks : (id : NameId) (entries : List EntryPart) → old id.0 ≡ true → meaning c id ≡ Some (SingleTask entries) → meaning d id ≡ Some (SingleTask (map (told_entry u.setting.program) entries))
  pub own : d.own ≡ map (told_entry u.setting.program) c.own
  -- entries are those of their numbers
  pub called : (id name : NameId) (part : EntryPart) → called_entry (meaning c id) name ≡ Some part → IsEntryOf u.setting inner d (entry_of u.setting.numbers (unwrap_or (task_named u.setting.numbers id) 0) name) part.family
  pub accepted : (name : NameId) (part : EntryPart) → entry_named c.own name ≡ Some part → IsEntryOf u.setting inner d (entry_of u.setting.numbers u.task name) part.family

-- ---- what is asked of a normal form

-- an old name that no accept and no loop hides
abbrev pub unhidden : (ℕ → Bool) → (ℕ → Bool) → ℕ → Bool
unhidden old inner n = old n && not (inner n)

-- What a replay text asks of the statements of a normal form, and that no name in the index of an accept is hidden inside it.
abbrev pub told_asks : (ℕ → Bool) → (ℕ → Bool) → Asks (Prim.Unit {0} × Scope)
told_asks old inner = record (form_asks old inner) { head = λ c k h. (form_asks old inner).head c k h × IfSome h.index (IsOldExpr (unhidden old inner)) }
