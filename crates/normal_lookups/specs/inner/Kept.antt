-- What is kept beside the links of a program, so that what the normal form asks is found in one step.
use Rattle.std.specs.Prelude.{◌≡◌, ℕ, Bool, ◌||◌, List, map, Option, option_map, is_some}
use Rattle.std.specs.Borrow.{Bor}
use Rattle.ada_tree.specs.declared.naming.NameId.{NameId}
use Rattle.ada_tree.specs.declared.declarations.Drange.{Drange}
use Rattle.ada_tree.specs.TypeTable.{TypeTable}
use Rattle.ada_static_rules.specs.StaticValue.{constant_named, literal_position}
use Rattle.ada_tree.specs.PlainExpr.{PDrange, plain_drange}
use Rattle.ada_tree.specs.PlainDecl.{PEntry, PTask}
use Rattle.ada_tree.specs.PlainProgram.{PProgram}
use Rattle.syn_event.specs.DeclaredTasks.{tasks_of}
use Rattle.syn_event.specs.NamedTasks.{task_names_of}
use Rattle.scoped_names.specs.Meaning.{meaning_in}
use Rattle.task_model.specs.Setting.{Setting}
use Rattle.normal_lookups.specs.declared.entry_forms.EntryForm.{EntryForm}
use Rattle.normal_lookups.specs.inner.EntryForms.{Form, form_of}

-- ---- static names

-- the names are those of the named numbers, the constants and the literals
abbrev pub AreStatic : TypeTable → List (ℕ × Bool) → Type 0
AreStatic types known = (id : NameId) → is_some (meaning_in known id.0) ≡ (is_some (constant_named types id) || is_some (literal_position types.kinds id))

-- ---- kinds

-- the names of marks, each by its kind
abbrev pub kinds_named : TypeTable → List (ℕ × Option NameId)
kinds_named types = map (λ m. (m.kind, m.name)) types.marks

-- ---- arrays of tasks

abbrev pub seen_range : ℕ × Option (Bor Drange) → ℕ × Option PDrange
seen_range s = (s.0, option_map (λ r. plain_drange r.now) s.1)

-- the ranges of what stands for tasks, each by its name
abbrev pub ranges_named : PProgram → List (ℕ × Option PDrange)
ranges_named p = map (λ x. (x.name.name.0, x.index_range)) (task_names_of p)

-- ---- entries

abbrev pub seen_form : EntryForm → Form
seen_form x = record { family = option_map (λ r. plain_drange r.now) x.family; modes = x.modes.items; marks = x.marks.items }

abbrev pub seen_entry : ℕ × EntryForm → ℕ × Form
seen_entry s = (s.0, seen_form s.1)

abbrev pub seen_unit : ℕ × List (ℕ × EntryForm) → ℕ × List (ℕ × Form)
seen_unit s = (s.0, map seen_entry s.1)

-- the forms of entries, each by its name
abbrev pub entry_named : PEntry → ℕ × Form
entry_named e = (e.name.name.0, form_of e)

-- those of a task or task type, by its name
abbrev pub unit_forms : PTask → ℕ × List (ℕ × Form)
unit_forms t = (t.name.name.0, map entry_named t.entries)

abbrev pub units_named : List PTask → List (ℕ × List (ℕ × Form))
units_named tasks = map unit_forms tasks

-- ---- all of it

-- All that is kept for a setting.
pub record KeepsAll (g : Setting) (known : List (ℕ × Bool)) (kinds : List (ℕ × Option NameId)) (ranges : List (ℕ × Option (Bor Drange))) (forms : List (ℕ × List (ℕ × EntryForm))) : Type 0 where
  pub known_are : AreStatic g.types known
  pub kinds_are : kinds ≡ kinds_named g.types
  pub ranges_are : map seen_range ranges ≡ ranges_named g.program
  pub forms_are : map seen_unit forms ≡ units_named (tasks_of g.program)
