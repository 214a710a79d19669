-- The replay text of each legal program and of known events is legal.
use Rattle.std.proofs.Common.{[]}
use Rattle.syn_event.specs.DeclaredTasks.{decl_list}
use Rattle.normal_model.specs.NormalTree.{first_decls, main_variables}
use Rattle.normal_laws.specs.runs.forms.Normalisable.{numbers_of, setting_for, made_for}
use Rattle.replay_model.specs.ReplayTree.{script_of}
use Rattle.replay_structure.specs.checkable.Prepared.{form_for}
use Rattle.replay_structure.specs.scopes.Names.{old_name}
use Rattle.replay_structure.proofs.scopes.Whole.{text-met}
use Rattle.replay_structure.proofs.legal.Legal.{replay_is_legal}
use Rattle.replay_structure.proofs.legal.names.kept_names.Known.{legal_is_kept, known_replay_is_as_promised}
use Rattle.replay_structure.proofs.legal.names.form_names.Whole.{legal_has_form_names}
use Rattle.replay_structure.specs.legal.names.form_units.Inner.{inner_name}
use Rattle.replay_structure.specs.legal.names.Laws.{KnownReplayMeetsAtPlaces, KnownReplayIsLegal, KnownReplayIsAsPromised}
use Rattle.replay_structure.proofs.legal.names.Form.{apart, legal_normal_is_form}

pub known_replay_meets_at_places : KnownReplayMeetsAtPlaces
known_replay_meets_at_places p events legal known =
    text-met (form_for p) (old_name (made_for p)) (inner_name p) (apart p legal) (legal_has_form_names p legal).added (script_of (numbers_of p) events) (decl_list (first_decls [] p.decls)) (main_variables (setting_for p)) (legal_normal_is_form p events legal known)

pub known_replay_is_legal : KnownReplayIsLegal
known_replay_is_legal p events legal known = replay_is_legal p events legal record { kept = legal_is_kept p events legal known; places = known_replay_meets_at_places p events legal known }

pub replay_is_as_promised : KnownReplayIsAsPromised
replay_is_as_promised p events legal known = known_replay_is_as_promised p events legal known (known_replay_meets_at_places p events legal known)
