use Rattle.std.proofs.Common.{◌≡◌, ◌<◌, ◌^◌, drop}
use Rattle.debug_outcome.specs.words.Words.{digits_value}
use Rattle.debug_outcome.proofs.words.command.value_of.Given as goal

-- the value is that of the digits gone by, and has no more digits than those
abbrev pub invariant-loop-digit : goal.invariant-loop-digit
invariant-loop-digit l =
    (digits_value 0 l.word ≡ digits_value l.value (drop l.digit-index l.word)) × (l.value < 10 ^ l.digit-index)
