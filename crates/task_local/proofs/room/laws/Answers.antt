use Rattle.task_local.proofs.room.Keeping.{is_kept}
use Rattle.task_local.proofs.room.Runs.{stays_within, never_wider}
use Rattle.task_local.proofs.room.Standing.{room_at_statement, started_has_room, more_has_room, same_frames_have_room}
use Rattle.task_local.proofs.room.laws.Goals as goal

pub returns : goal.returns
returns c = record {
  stands = room_at_statement;
  kept = is_kept;
  starts = started_has_room;
  grows = more_has_room;
  frames = same_frames_have_room;
  stays = stays_within;
  never_wider = never_wider;
}
