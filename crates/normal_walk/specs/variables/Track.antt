-- The variables of a unit as they are declared, beside the names that the normal form has so far.
use Rattle.std.specs.Prelude.{◌≡◌, ◌≤◌, List, length, map, max}
use Rattle.ada_tree.specs.PlainDecl.{PDecl, plain_decl}
use Rattle.task_model.specs.Setting.{Setting}
use Rattle.normal_lookups.specs.names.SoFar.{AreNamesOf}
use Rattle.normal_walk.specs.declared.variables.track.Track.{Track}

-- the variables so far
abbrev pub variables_of : Track → List PDecl
variables_of t = map plain_decl t.decls.items

-- The names are those of the program's normal form, and each variable has one.
pub record IsTrack (g : Setting) (t : Track) : Type 0 where
  pub names : AreNamesOf g t.names
  pub enough : length t.decls.items ≤ length t.names.variables.items

-- These are the variables behind a statement or an alternative; there are names for all of them, and for no more.
pub record Enters (g : Setting) (variables : List PDecl) (old new : Track) : Type 0 where
  pub variables_are : variables_of new ≡ variables
  pub longer : length old.decls.items ≤ length new.decls.items
  pub track : IsTrack g new
  pub count : length new.names.variables.items ≡ max (length old.names.variables.items) (length new.decls.items)
