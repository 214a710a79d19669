-- The members of arrays of tasks, as they are kept by the arrays' names.
use Rattle.std.specs.Prelude.{◌≡◌, ℕ, ◌==◌, ◌&&◌, nat_eq, List, [], Vec, map, option_map, is_some, unwrap_or}
use Rattle.std.specs.declared.alloc.Global.{Global}
use Rattle.std.specs.HashMap.{HashMap, get}
use Rattle.std.specs.List.{filter}
use Rattle.ada_tree.specs.declared.naming.NameId.{NameId}
use Rattle.ada_tree.specs.declared.naming.Span.{Span}
use Rattle.syn_event.specs.declared.numbering.TaskInfo.{TaskInfo}
use Rattle.task_model.specs.Setting.{Setting}
use Rattle.normal_lookups.specs.declared.pieces.meanings.Member.{Member}
use Rattle.normal_lookups.specs.pieces.Seen.{member_meant, member_seen}

-- what is kept for a name
abbrev pub members_at : {S : Type 0} → HashMap ℕ (Vec Member Global) S → ℕ → List Member
members_at members q = unwrap_or (option_map (λ v. v.items) (get nat_eq members q)) []

-- the members of the array of a name among some tasks
abbrev pub members_among : List TaskInfo → NameId → List TaskInfo
members_among tasks name = filter (λ info. (info.name.0 == name.0) && is_some info.member) tasks

-- The members of all arrays are kept, of those of some tasks.
abbrev pub AreMembers : {S : Type 0} → Setting → List TaskInfo → HashMap ℕ (Vec Member Global) S → Type 0
AreMembers g tasks members = (array : NameId) (s : Span) → map (member_seen s) (members_at members array.0) ≡ map (member_meant g s array) (members_among tasks array)
