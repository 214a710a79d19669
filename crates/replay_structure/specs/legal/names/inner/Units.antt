-- What is told of the units of a normal form: which entries are called and accepted in them, and that their statements are as asked for what can be
-- used at them.
use Rattle.std.specs.Prelude.{◌≡◌, ℕ, Bool, List, [], ◌∷◌, Some, unwrap_or}
use Rattle.ada_tree.specs.declared.naming.NameId.{NameId}
use Rattle.ada_tree.specs.PlainStmt.{PBody}
use Rattle.ada_tree.specs.PlainDecl.{PDecl, DTaskBody}
use Rattle.ada_static_rules.specs.Scope.{Scope, EntryPart, meaning, entry_named}
use Rattle.ada_static_rules.specs.Declaring.{in_body, inner_scope, after_objects, after_decl}
use Rattle.ada_static_rules.specs.RuleArgCount.{called_entry}
use Rattle.syn_event.specs.Numbering.{task_named}
use Rattle.task_model.specs.Setting.{Setting, entry_of}
use Rattle.normal_model.specs.RewrittenUnit.{RewrittenUnit}
use Rattle.normal_model.specs.NormalTree.{unit_for}
use Rattle.task_laws.specs.legal.asked.Asked.{AskedBody}
use Rattle.task_laws.specs.legal.asked.Kinds.{type_asks}
use Rattle.task_laws.specs.legal.alike_scopes.Laws.{IsMetBut}
use Rattle.replay_structure.specs.typed.ScopeOf.{IsEntryOf, with_scopes}

-- Where the statements of a unit begin, the entries that are called and accepted are those of their numbers.
pub record HasItsEntries (u : RewrittenUnit) (inner : ℕ → Bool) (c : Scope) : Type 0 where
  pub called : (id name : NameId) (part : EntryPart) → called_entry (meaning c id) name ≡ Some part → IsEntryOf u.setting inner c (entry_of u.setting.numbers (unwrap_or (task_named u.setting.numbers id) 0) name) part.family
  pub accepted : (name : NameId) (part : EntryPart) → entry_named c.own name ≡ Some part → IsEntryOf u.setting inner c (entry_of u.setting.numbers u.task name) part.family

-- None of the rules but rule 2 refuses anything in the statements; their callees are single tasks, their accepts are of own entries and their waits
-- have accepts; and accepts and loops declare inner names.
abbrev pub IsScopedBody : (ℕ → Bool) → Scope → PBody → Type 0
IsScopedBody inner c its = AskedBody (with_scopes inner (type_asks IsMetBut)) c 1 its

-- each is a body of which both is so
abbrev pub BodyUnits : Setting → (ℕ → Bool) → Scope → List PDecl → Type 0
BodyUnits g inner c [] = Prim.Unit {0}
BodyUnits g inner c (DTaskBody w objects its s ∷ xs) =
    HasItsEntries (unit_for g w.name) inner (inner_scope (after_objects (in_body c w) objects)) × IsScopedBody inner (inner_scope (after_objects (in_body c w) objects)) its
    × BodyUnits g inner (after_decl c (DTaskBody w objects its s)) xs
BodyUnits g inner c (x ∷ xs) = ⊥
