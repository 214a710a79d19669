-- What can be used at a place of a unit in a replay text, beside what can be used there in its normal form, for the static rules 1 and 3 to 12; and
-- what is asked of the statements of a normal form beside these rules (this project's rule).
use Rattle.std.specs.Prelude.{◌≡◌, ℕ, pos, negsuc, Bool, true, false, List, [], ◌∷◌, Option, Some, None, IfSome, is_some, slice_get, unwrap_or}
use Rattle.std.specs.List.{AllByRecursion}
use Rattle.ada_tree.specs.declared.naming.NameId.{NameId}
use Rattle.ada_tree.specs.declared.naming.Word.{Word}
use Rattle.ada_tree.specs.declared.statements.ParMode.TheVariants.{Give}
use Rattle.ada_tree.specs.declared.static_types.Kind.TheVariants.{Integer}
use Rattle.ada_tree.specs.declared.static_types.Mark.{Mark}
use Rattle.ada_tree.specs.Attributes.{false_name}
use Rattle.ada_static_rules.specs.StaticValue.{value_named}
use Rattle.ada_tree.specs.TypeTable.{TypeTable}
use Rattle.ada_tree.specs.PlainExpr.{PDrange}
use Rattle.ada_tree.specs.PlainStmt.{PScheme, LWhile, LFor, PAlts, no_alt, alt_then, alternative, AAccept, ADelay, ATerminate}
use Rattle.ada_tree.specs.PlainProgram.{PProgram}
use Rattle.ada_static_rules.specs.Scope.{Scope, truth_kind, integer_kind, Range, FormalPart, Family, single, family, unclear, EntryPart, Thing, SingleTask, Variable, Literal, mark_at, marking, scalar_kind, meaning, entry_named}
use Rattle.ada_static_rules.specs.Sites.{all_names}
use Rattle.ada_static_rules.specs.RuleArgCount.{called_entry}
use Rattle.syn_event.specs.Numbering.{task_named}
use Rattle.syn_event.specs.DeclaredTasks.{text_of}
use Rattle.task_model.specs.Setting.{Setting, entry_of, is_family}
use Rattle.task_laws.specs.legal.rewritten_types.Agreement.{IsScalar}
use Rattle.normal_model.specs.Ranges.{kind_of_range, kind_name, family_range}
use Rattle.normal_model.specs.RewrittenUnit.{RewrittenUnit}
use Rattle.task_laws.specs.legal.asked.Asked.{Asks}
use Rattle.task_laws.specs.legal.asked.Kinds.{place_asks, type_asks, both}
use Rattle.normal_laws.specs.structure.checked.Around.{own_rules}
use Rattle.task_laws.specs.legal.alike_scopes.Laws.{IsMetBut}
use Rattle.task_laws.specs.legal.alike_scopes.Alike.{Alike}
use Rattle.replay_model.specs.Names.{kind_text, argument_text, index_text, control_text, go_text, done_text, idle_text, stop_text, never_text, double_text, added_id}

-- ---- names

-- The names that accepts and loops declare are told by a test; these are none of them: the variables of the permit, the tasks that are added, and FALSE.
pub record AreOuter (q : PProgram) (inner : ℕ → Bool) : Type 0 where
  pub kind : inner (added_id q kind_text).0 ≡ false
  pub argument : inner (added_id q argument_text).0 ≡ false
  pub index : inner (added_id q index_text).0 ≡ false
  pub control : inner (added_id q control_text).0 ≡ false
  pub idle : inner (added_id q idle_text).0 ≡ false
  pub falses : inner false_name ≡ false

-- the name of an entry's double
abbrev pub double_id : PProgram → NameId → NameId
double_id q id = added_id q (double_text (text_of q.names id))

-- ---- variables

-- The name means a variable of INTEGER with all its values (3.5.4), and it is the name of no constant and of no literal.
pub record IsNumber (d : Scope) (id : NameId) : Type 0 where
  pub place : ℕ
  pub mark : Mark
  pub means : meaning d id ≡ Some (Variable place)
  pub there : mark_at d.types place ≡ Some mark
  pub kind : mark.kind ≡ integer_kind
  pub scalar : IsScalar d.types mark.kind
  pub first : mark.first ≡ negsuc 2147483647
  pub last : mark.last ≡ pos 2147483647
  pub changes : value_named d.types id ≡ None

-- ---- entries

-- an entry without members and formals
abbrev pub plain_entry : NameId → EntryPart
plain_entry id = record { name = id; family = single; formals = [] }

-- a formal of mode out of INTEGER
abbrev pub out_number : PProgram → List ℕ → FormalPart
out_number q text = record { name = added_id q text; mode = Give; mark = record { 0 = 0 }; kind = Some integer_kind }

-- the formals by which a permit is given
abbrev pub permit_parts : PProgram → List FormalPart
permit_parts q = out_number q kind_text ∷ out_number q argument_text ∷ out_number q index_text ∷ []

-- what is found has these members and formals
pub record HasLists (found : Option EntryPart) (members : Family) (formals : List FormalPart) : Type 0 where
  pub its : EntryPart
  pub is : found ≡ Some its
  pub members_are : its.family ≡ members
  pub formals_are : its.formals ≡ formals

-- ---- members of families as numbers

-- A value of the kind j of these types is counted in the scope d, where it is of the kind k: itself of INTEGER, and of another type by its own name (3.5.5).
pub data IsCountedBy (types : TypeTable) (inner : ℕ → Bool) (d : Scope) (j k : ℕ) : Type 0 where
  as_itself : slice_get types.kinds j ≡ Some Integer → k ≡ integer_kind → IsCountedBy types inner d j k
  by_position : (slice_get types.kinds j ≡ Some Integer → ⊥) → scalar_kind (marking d (kind_name types j)) ≡ Some k → inner (kind_name types j).0 ≡ false → IsCountedBy types inner d j k

-- the range of the family of that number has values of the kind k
pub record IsFamilyOf (g : Setting) (inner : ℕ → Bool) (d : Scope) (e k : ℕ) : Type 0 where
  pub written : PDrange
  pub flag : is_family g.numbers e ≡ true
  pub is : family_range g e ≡ Some written
  pub counted : IsCountedBy g.types inner d (kind_of_range g.types written) k

-- the entry with these members is that of the number
abbrev pub IsEntryOf : Setting → (ℕ → Bool) → Scope → ℕ → Family → Type 0
IsEntryOf g inner d e single = is_family g.numbers e ≡ false
IsEntryOf g inner d e (family range) = IsFamilyOf g inner d e range.kind
IsEntryOf g inner d e unclear = ⊥

-- ---- tasks

-- A single task with these entries is one in the replay text, with the same old entries, and each of them has a double.
pub record HasDoubles (q : PProgram) (old : ℕ → Bool) (entries : List EntryPart) (there : Option Thing) : Type 0 where
  pub more : List EntryPart
  pub means : there ≡ Some (SingleTask more)
  pub same : (id : NameId) → old id.0 ≡ true → entry_named entries id ≡ entry_named more id
  pub doubles : (id : NameId) (part : EntryPart) → entry_named entries id ≡ Some part → HasLists (entry_named more (double_id q id)) part.family part.formals

-- the controller, as units see it: GO for permits and DONE, both families over numbers
pub record IsControl (q : PProgram) (d : Scope) : Type 0 where
  pub entries : List EntryPart
  pub means : meaning d (added_id q control_text) ≡ Some (SingleTask entries)
  pub range : Range
  pub numbers : range.kind ≡ integer_kind
  pub go : HasLists (entry_named entries (added_id q go_text)) (family range) (permit_parts q)
  pub done : HasLists (entry_named entries (added_id q done_text)) (family range) []

-- the idle task
pub record IsIdle (q : PProgram) (d : Scope) : Type 0 where
  pub entries : List EntryPart
  pub means : meaning d (added_id q idle_text) ≡ Some (SingleTask entries)
  pub stop : HasLists (entry_named entries (added_id q stop_text)) single []

-- ---- what can be used

-- What can be used at a place of a unit in a replay text (d), where c is what can be used there in the normal form.
pub record IsScopeOf (u : RewrittenUnit) (old inner : ℕ → Bool) (c d : Scope) : Type 0 where
  -- old names mean the same
  pub alike : Alike old c d
  -- the variables of the permit, FALSE, and the tasks that are added
  pub kind : IsNumber d (added_id u.setting.program kind_text)
  pub argument : IsNumber d (added_id u.setting.program argument_text)
  pub index : IsNumber d (added_id u.setting.program index_text)
  pub falses : meaning d (record { 0 = false_name }) ≡ Some (Literal truth_kind)
  pub control : IsControl u.setting.program d
  pub idle : IsIdle u.setting.program d
  -- tasks have doubles of their entries, and the own one, where it has entries, has DED_NEVER
  pub tasks : (id : NameId) (entries : List EntryPart) → old id.0 ≡ true → meaning c id ≡ Some (SingleTask entries) → HasDoubles u.setting.program old entries (meaning d id)
  pub never : (id : NameId) → is_some (entry_named c.own id) ≡ true → HasLists (entry_named d.own (added_id u.setting.program never_text)) single []
  -- entries are those of their numbers
  pub called : (id name : NameId) (part : EntryPart) → called_entry (meaning c id) name ≡ Some part → IsEntryOf u.setting inner d (entry_of u.setting.numbers (unwrap_or (task_named u.setting.numbers id) 0) name) part.family
  pub accepted : (name : NameId) (part : EntryPart) → entry_named c.own name ≡ Some part → IsEntryOf u.setting inner d (entry_of u.setting.numbers u.task name) part.family

-- ---- what is asked of a normal form

-- a name means a single task
abbrev pub IsSingle : Option Thing → Type 0
IsSingle o = (entries : List EntryPart) × (o ≡ Some (SingleTask entries))

-- the names are such as accepts and loops declare
abbrev pub AreInner : (ℕ → Bool) → List Word → Type 0
AreInner inner ws = AllByRecursion (λ (w : Word). inner w.name.0 ≡ true) ws

abbrev pub IsInnerScheme : (ℕ → Bool) → PScheme → Type 0
IsInnerScheme inner (LWhile e) = Prim.Unit {0}
IsInnerScheme inner (LFor w backwards x) = inner w.name.0 ≡ true

-- an accept is among the alternatives (9.7.1)
abbrev pub has_accept : PAlts → Bool
has_accept no_alt = false
has_accept (alt_then (alternative g (AAccept a l) s) rest) = true
has_accept (alt_then (alternative g (ADelay n l) s) rest) = has_accept rest
has_accept (alt_then (alternative g ATerminate s) rest) = has_accept rest

-- What is asked, and besides that callees are single tasks, accepts are of own entries, waits have an accept, and accepts and loops declare such names.
abbrev pub with_scopes : (ℕ → Bool) → Asks Scope → Asks Scope
with_scopes inner a = record a {
  callee = λ c k x. a.callee c k x × IsSingle (meaning c x.name.name);
  loop = λ c k w x. a.loop c k w x × IfSome x (IsInnerScheme inner);
  head = λ c k h. a.head c k h × (is_some (entry_named c.own h.entry.name) ≡ true) × AreInner inner (all_names h.formals);
  wait = λ c k x others s. a.wait c k x others s × (has_accept x ≡ true);
}

-- All that is asked of the statements of a normal form: its names are old, none of the rules but rule 2 refuses anything, and what stands above.
abbrev pub form_asks : (ℕ → Bool) → (ℕ → Bool) → Asks (Prim.Unit {0} × Scope)
form_asks old inner = both (place_asks (own_rules old)) (with_scopes inner (type_asks IsMetBut))
