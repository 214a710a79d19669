-- When names and members are those of the normal form of a program.
use Rattle.task_model.specs.Setting.{Setting}
use Rattle.normal_lookups.specs.declared.names.names.NormalNames.{NormalNames}
use Rattle.normal_lookups.specs.names.SoFar.{AreNamesOf}
use Rattle.normal_lookups.specs.declared.meanings.array_members.Members.{Members}
use Rattle.normal_lookups.specs.meanings.Kept.{AreMembers}

-- The members of all arrays of tasks are those of this program.
abbrev pub AreMembersOf : Setting → Members → Type 0
AreMembersOf g members = AreMembers g g.numbers.tasks members.lists

-- The names and the members are those of this program.
pub record AreMeanings (g : Setting) (names : NormalNames) (members : Members) : Type 0 where
  pub names_are : AreNamesOf g names
  pub members_are : AreMembersOf g members
