-- That variables are declared behind others.
use Rattle.std.specs.Prelude.{◌≡◌, ℕ, List, ◌++◌, length, map, max}
use Rattle.ada_tree.specs.declared.naming.Span.{Span}
use Rattle.ada_tree.specs.PlainExpr.{PSubind}
use Rattle.ada_tree.specs.PlainDecl.{plain_decl}
use Rattle.syn_event.specs.Numbering.{entry_at}
use Rattle.task_model.specs.Setting.{Setting, Lists, formals_of_info}
use Rattle.normal_lookups.specs.names.SoFar.{AreNamesOf}
use Rattle.normal_model.specs.Ranges.{family_range, subtype_of_range}
use Rattle.normal_model.specs.Making.{kept_if, kept_subtypes}
use Rattle.normal_model.specs.Calls.{actual_subtypes, slots_of}
use Rattle.normal_model.specs.Variables.{variables_declared}
use Rattle.normal_walk.specs.declared.variables.track.Track.{Track}

-- Variables of these subtypes stand behind the others, and there are names for all of them.
pub record Adds (g : Setting) (s : Span) (subtypes : List PSubind) (old new : Track) : Type 0 where
  pub names : AreNamesOf g new.names
  pub decls : map plain_decl new.decls.items ≡ map plain_decl old.decls.items ++ variables_declared g s subtypes (length old.decls.items)
  pub count : length new.names.variables.items ≡ max (length old.names.variables.items) (length new.decls.items)

-- the subtypes of the variables of a call's lists: of a family the index, and then the actuals
abbrev pub lists_subtypes : Setting → Span → ℕ → Lists → List PSubind
lists_subtypes g s e lists =
    kept_subtypes (kept_if (subtype_of_range g.types s (family_range g e)) lists.index)
    ++ actual_subtypes (slots_of (formals_of_info g (entry_at g.numbers e))) lists.actuals
