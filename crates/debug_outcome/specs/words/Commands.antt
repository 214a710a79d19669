-- The words of a command, as what is asked for.
use Rattle.std.specs.Prelude.{ℕ, List, Option, option_map}
use Rattle.std.specs.Borrow.{Bor}
use Rattle.debug_outcome.specs.declared.words.command.Command.{Command}
use Rattle.debug_outcome.specs.declared.words.command.Command.TheVariants.{Print, Check, Run, Judge, Replay, Require, Migrate, Variants, Continue, Collect, CollectRun, Load}
use Rattle.debug_outcome.specs.declared.words.command.Choices.{Choices}
use Rattle.debug_outcome.specs.declared.words.command.Choices.TheVariants.{Empty, In, Seeded}
use Rattle.debug_outcome.specs.words.Words.{Asked, AsksPrint, AsksCheck, AsksRun, AsksJudge, AsksReplay, AsksRequire, AsksMigrate, AsksVariants, AsksContinue, AsksCollect, AsksCollectRun, AsksLoad, ChoiceSource, NoChoices, ChoicesIn, ChoicesBy}

-- the bytes of a name, if there is one
abbrev pub name_as : Option (Bor (List ℕ)) → Option (List ℕ)
name_as name = option_map (λ word. word.now) name

abbrev pub source_as : Choices → ChoiceSource
source_as Empty = NoChoices
source_as (In file) = ChoicesIn file.now
source_as (Seeded seed) = ChoicesBy seed

abbrev pub asked_as : Command → Asked
asked_as (Print file) = AsksPrint file.now
asked_as (Check file) = AsksCheck file.now
asked_as (Run words) = AsksRun words.file.now (name_as words.inputs) (source_as words.choices) words.turns
asked_as (Judge words) = AsksJudge words.file.now (name_as words.inputs) words.sequence.now words.bound
asked_as (Replay words) = AsksReplay words.file.now words.sequence.now
asked_as (Require words) = AsksRequire words.file.now words.sequence.now words.constraints.now
asked_as (Migrate words) = AsksMigrate words.file.now words.sequence.now
asked_as (Collect file) = AsksCollect file.now
asked_as (CollectRun words) = AsksCollectRun words.file.now (name_as words.inputs) (source_as words.choices) words.turns
asked_as (Load n) = AsksLoad n
asked_as (Variants words) = AsksVariants words.file.now (name_as words.inputs) words.sequence.now words.bound
asked_as (Continue words) =
    AsksContinue words.judged.file.now (name_as words.judged.inputs) words.judged.sequence.now (source_as words.choices) words.count words.judged.bound
