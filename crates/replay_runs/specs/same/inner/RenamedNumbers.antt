-- The tasks of a program, as they are numbered, with other ids in the place of their own (9.1).
use Rattle.std.specs.Prelude.{option_map, ℕ}
use Rattle.syn_event.specs.NamedTasks.{NamedTasks, NumberedTask}
use Rattle.replay_runs.specs.same.Renamed.{no_span, renamed_drange, renamed_id, renamed_task, renamed_word}

module _ (f : ℕ → ℕ) where
  abbrev pub renamed_named : NamedTasks → NamedTasks
  renamed_named x = record { name = renamed_word f x.name; place = no_span; unit = renamed_task f x.unit; index_range = option_map (renamed_drange f) x.index_range }

  abbrev pub renamed_numbered : NumberedTask → NumberedTask
  renamed_numbered x = record { name = renamed_id f x.name; unit = renamed_task f x.unit; member = x.member }
