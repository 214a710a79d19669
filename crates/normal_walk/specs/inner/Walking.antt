-- The rewriter of a unit, as it says what it does, and what is true of its track on the way.
use Rattle.std.specs.Prelude.{◌≡◌, ℕ, List, length, max}
use Rattle.ada_tree.specs.PlainDecl.{PDecl}
use Rattle.task_model.specs.Setting.{Setting}
use Rattle.tree_rewriting.specs.walking.Rules.{Rule}
use Rattle.normal_model.specs.RewrittenUnit.{RewrittenUnit}
use Rattle.normal_model.specs.Waits.{alternative_before, alternative_left}
use Rattle.normal_model.specs.Variables.{statement_variables, alternative_variables}
use Rattle.normal_model.specs.NormalStmts.{normal_image}
use Rattle.normal_lookups.specs.declared.meanings.array_members.Members.{Members}
use Rattle.normal_lookups.specs.meanings.Meant.{AreMembersOf}
use Rattle.normal_walk.specs.declared.variables.track.Track.{Track}
use Rattle.normal_walk.specs.variables.Track.{IsTrack}

-- The rule of a unit: what is kept of the variables is how many there are.
abbrev pub normal_rule : RewrittenUnit → Rule (List PDecl)
normal_rule u = record {
  number = length;
  entered_stmt = statement_variables u;
  entered_alternative = alternative_variables u;
  lead = λ n x. alternative_before u x n;
  left_alternative = λ n x. alternative_left u x n;
  replaced_stmt = normal_image u;
}

-- The names and members are those of the program, and as many variables have names as this unit or one before it has, where so many had one at its start.
pub record FitsUnit (g : Setting) (members : Members) (begun : ℕ) (t : Track) : Type 0 where
  pub track : IsTrack g t
  pub members_are : AreMembersOf g members
  pub count : length t.names.variables.items ≡ max begun (length t.decls.items)
