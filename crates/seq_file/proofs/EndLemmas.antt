-- The end of a sequence is the last event of a program.
use Rattle.std.proofs.Common.{◌≡◌, true}
use Rattle.event_machine.specs.declared.Event.{Event}
use Rattle.event_machine.specs.declared.Event.TheVariants.{R, E, S, D, C, T, F, X, B, Z}
use Rattle.event_machine.specs.Worlds.{is_last}
use Rattle.seq_file.specs.Files.{is_end}

pub last_is_end : (e : Event) → is_last e ≡ true → is_end e ≡ true
last_is_end (R c e i) h = h
last_is_end (E a) h = h
last_is_end (S a) h = h
last_is_end (D a k) h = h
last_is_end (C c e i) h = h
last_is_end (T c e i) h = h
last_is_end (F c e i) h = h
last_is_end (X a) h = h
last_is_end (B t x) h = h
last_is_end Z h = h
