-- The theorem, as it is told.
use Rattle.task_laws.specs.translation.Laws.{translation, StepsFollow, StepsFollowInLoops, RaisesFollow, ValuesFollow}
use Rattle.task_laws.proofs.translation.Locals.{step-alike, step-in-loops, raises-alike, values-alike}

pub steps_follow : {I F O : Type 0} → StepsFollow I F O
steps_follow t laws exits σ κ inside at = step-alike (translation t) laws exits σ κ inside at

pub steps_follow_in_loops : {I F O : Type 0} → StepsFollowInLoops I F O
steps_follow_in_loops t laws shut σ κ inside at stays = step-in-loops (translation t) laws shut σ κ inside at stays

pub raises_follow : {I F O : Type 0} → RaisesFollow I F O
raises_follow t laws σ κ inside e = raises-alike (translation t) laws σ κ inside e

pub values_follow : {I F O : Type 0} → ValuesFollow I F O
values_follow t laws σ κ inside e old = values-alike (translation t) laws σ κ inside e old
