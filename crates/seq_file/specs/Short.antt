-- Programs whose numbers have 32 bits.
use Rattle.std.specs.Prelude.{◌^◌, ◌<◌, length}
use Rattle.syn_event.specs.Numbering.{Numbering}

-- a program's lists are short enough for numbers of 32 bits
pub record IsShort (numbers : Numbering) : Type 0 where
  pub tasks : length numbers.tasks < 2 ^ 32
  pub entries : length numbers.entries < 2 ^ 32
