-- Rule Unknown: a name is used that is not declared before it, an entry is named that the task has not, a word behind a tick is no attribute, or a body is that of no task that is declared before (8.2, 8.3).
use Rattle.std.specs.Prelude.{◌||◌, if◌then◌else◌, List, [], ◌∷◌, ◌++◌, Option, Some, None, is_some}
use Rattle.ada_tree.specs.declared.naming.NameId.{NameId}
use Rattle.ada_tree.specs.declared.naming.Span.{Span}
use Rattle.ada_tree.specs.declared.naming.Word.{Word}
use Rattle.ada_tree.specs.PlainExpr.{PExpr, EName, EIndex, EAttribute, EAttributeOf}
use Rattle.ada_tree.specs.Attributes.{Attribute, NoAttribute, attribute_of}
use Rattle.ada_static_rules.specs.Scope.{Scope, Thing, SingleTask, TaskObject, TaskType, TaskArray, EntryPart, meaning, entry_named, is_entry_somewhere}
use Rattle.ada_static_rules.specs.Demand.{Demand, gives_body, stands_as_mark, node, writes, is_actual, addresses, calls, accepts, names_exception}

-- a name that is not declared before, where it stands
abbrev pub unseen : Scope → NameId → Span → List Span
unseen scope id s = if is_some (meaning scope id) then [] else s ∷ []

-- a word whose name is not declared before, where it stands (8.3)
abbrev pub unseen_word : Scope → Word → List Span
unseen_word scope w = unseen scope w.name w.span

-- a word that is no attribute
abbrev pub no_attribute : Attribute → Span → List Span
no_attribute NoAttribute s = s ∷ []
no_attribute _ s = []

-- an entry that is not there
abbrev pub missing : Option EntryPart → Word → List Span
missing (Some e) w = []
missing None w = w.span ∷ []

-- the entry of a call is looked up where the callee is a task, an object of a task type or an array of tasks
abbrev pub unknown_entry : Option Thing → Word → List Span
unknown_entry (Some (SingleTask entries)) w = missing (entry_named entries w.name) w
unknown_entry (Some (TaskObject entries)) w = missing (entry_named entries w.name) w
unknown_entry (Some (TaskArray range entries)) w = missing (entry_named entries w.name) w
unknown_entry _ w = []

-- a body is that of a task or a task type
abbrev pub no_body_of : Option Thing → Word → List Span
no_body_of (Some (SingleTask entries)) w = []
no_body_of (Some (TaskType entries)) w = []
no_body_of _ w = w.span ∷ []

-- a name or an attribute in an expression that is not known, apart from those within its parts (4.1.4, 8.3)
abbrev pub unknown_in_node : Scope → PExpr → List Span
unknown_in_node scope (EName id s) = unseen scope id s
unknown_in_node scope (EIndex w e s) = unseen_word scope w
unknown_in_node scope (EAttribute m w s) = unseen_word scope m ++ no_attribute (attribute_of w.name) w.span
unknown_in_node scope (EAttributeOf m w e s) = unseen_word scope m ++ no_attribute (attribute_of w.name) w.span
unknown_in_node scope _ = []

-- an actual that is a name alone
abbrev pub unknown_name : Scope → PExpr → List Span
unknown_name scope (EName id s) = unseen scope id s
unknown_name scope _ = []

-- The names that are not declared before, each where it stands. An accept of an entry that the own task has not is for another rule where a task that is declared before has one of that name.
abbrev pub unknown : Scope → Demand → List Span
unknown scope (gives_body w) = no_body_of (meaning scope w.name) w
unknown scope (stands_as_mark allowed w) = unseen_word scope w
unknown scope (node written e) = unknown_in_node scope e
unknown scope (writes t) = unseen_word scope t.name
unknown scope (is_actual mode e) = unknown_name scope e
unknown scope (addresses c) = unseen_word scope c.name
unknown scope (calls c) = unknown_entry (meaning scope c.task.name.name) c.entry
unknown scope (accepts h) = if is_some (entry_named scope.own h.entry.name) || is_entry_somewhere scope h.entry.name then [] else h.entry.span ∷ []
unknown scope (names_exception w) = unseen_word scope w
unknown scope _ = []
