-- The laws of tasks in the normal form between synchronizing statements.
use Rattle.std.proofs.Common.{zero, [], None}
use Rattle.task_laws.specs.translation.OldTexts.{old_body}
use Rattle.task_laws.specs.translation.Controls.{on_floor, are_inside}
use Rattle.task_laws.proofs.translation.Locals.{step-alike, raises-alike}
use Rattle.normal_model.specs.NormalStmts.{normal_rewriter}
use Rattle.normal_model.proofs.VariablesLemmas.{handlers-begin, normal-adds}
use Rattle.normal_laws.specs.runs.floors.Suited.{rewritten_unit}
use Rattle.normal_laws.specs.runs.floors.NormalLists.{normal_lists}
use Rattle.normal_laws.specs.runs.floors.NormalFloors.{own_body, normal}
use Rattle.normal_laws.specs.runs.floors.Laws.{NormalTranslates, NormalSteps, NormalStarts, NormalRaises, NormalOpens, NormalEnds, NormalEnters, NormalPreludes}
use Rattle.normal_laws.proofs.runs.floors.Rows.{part-begins, walked, walked-handlers, normal-images}
use Rattle.normal_laws.proofs.runs.floors.Floors.{normal-translates, normal-exits, are-there}
use Rattle.normal_laws.proofs.runs.floors.Preludes.{prelude}
use Rattle.normal_laws.proofs.runs.floors.Meetings.{accept-opens, part-entered, body-ends}

pub normal_translates : NormalTranslates
normal_translates w added types = normal-translates (normal_lists w) (normal-images w) types added

pub normal_steps : NormalSteps
normal_steps w added types σ κ both at = step-alike (normal (normal_lists w) added) (normal_translates w added types) (normal-exits (normal_lists w) (normal-images w) types added) σ κ both at

pub normal_starts : NormalStarts
normal_starts w added its V V' n input (old_body l hs h k) begins ext there =
    are_inside n input [] l _ (walked w h [] (part-begins w (handlers-begin (normal_rewriter (rewritten_unit w)) (normal-adds (rewritten_unit w)) hs _) begins)) (on_floor (zero, own_body hs _ None V V' (walked-handlers w k _ begins) ext there))

pub normal_raises : NormalRaises
normal_raises w added types σ κ both e = raises-alike (normal (normal_lists w) added) (normal_translates w added types) σ κ both e

pub normal_opens : NormalOpens
normal_opens w added types σ κ both caller e z h h' same old vs known l l' d d' iml imd =
    accept-opens (normal_lists w) (normal-images w) types added σ κ both caller e z h h' same old vs known l l' d d' iml imd

pub normal_ends : NormalEnds
normal_ends w added types σ κ both at = body-ends (normal_lists w) (normal-images w) types added σ κ both at

pub normal_enters : NormalEnters
normal_enters w added types σ κ both l l' im = part-entered (normal_lists w) (normal-images w) types added σ κ both l l' im

pub normal_preludes : NormalPreludes
normal_preludes w added types n input output p p' o o' V W s next r ds k old l v =
    prelude (normal (normal_lists w) added) (normal_translates w added types) w.programs.original added n input output p p' o o' V s next r old k W l v (are-there (normal_lists w) (normal-images w) types added v)
