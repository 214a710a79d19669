-- A unit that is about to be gone through.
use Rattle.std.specs.Prelude.{◌≡◌, []}
use Rattle.task_model.specs.Setting.{Setting}
use Rattle.normal_lookups.specs.names.SoFar.{AreNamesOf}
use Rattle.normal_lookups.specs.declared.meanings.array_members.Members.{Members}
use Rattle.normal_lookups.specs.meanings.Meant.{AreMembersOf}
use Rattle.normal_walk.specs.declared.variables.track.Track.{Track}

-- The names and members are those of the program, and the unit has no variables yet.
pub record Begins (g : Setting) (members : Members) (t : Track) : Type 0 where
  pub names_are : AreNamesOf g t.names
  pub members_are : AreMembersOf g members
  pub none : t.decls.items ≡ []
