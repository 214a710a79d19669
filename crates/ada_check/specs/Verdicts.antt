-- What an error tells of a program, and what is known of one that was gone through.
use Rattle.std.specs.Prelude.{◌≡◌, Option, Some, None}
use Rattle.ada_tree.specs.PlainProgram.{PProgram}
use Rattle.ada_tree.specs.TypeTable.{TypeTable}
use Rattle.ada_static_rules.specs.Refusals.{MeetsTypeRules, types_in}
use Rattle.ada_static_rules.specs.declared.errors.TypeError.{TypeError}
use Rattle.ada_static_rules.specs.declared.errors.TypeError.TheVariants as type_error
use Rattle.ada_static_rules.specs.Telling.{TellsFirst}
use Rattle.syn_event.specs.declared.numbering.Mode.{Mode}
use Rattle.syn_event.specs.Numbering.{Numbering}
use Rattle.syn_event.specs.CheckRefusals.{CheckRefusal, IsFirstCheckRefusal}
use Rattle.syn_event.specs.CheckSites.{check_sites}
use Rattle.syn_event.specs.Legal.{Legal}
use Rattle.ada_check_rules.specs.rules.RefusedFirst.{refused_first}
use Rattle.ada_check.specs.Telling.{refusal_of}
use Rattle.ada_check.specs.declared.checking.WalkedProgram.{WalkedProgram}
use Rattle.ada_check.specs.declared.errors.CheckError.{CheckError}
use Rattle.ada_check.specs.declared.errors.CheckError.TheVariants.{Rule, Memory}

-- an error of the first twelve rules tells their first refusal, and is no want of memory
abbrev pub TellsTypes : PProgram → TypeError → Type 0
TellsTypes p type_error.Memory = ⊥
TellsTypes p e = TellsFirst p e

-- what refuses a program that meets those rules is the first refusal by the others
abbrev pub TellsCheck : PProgram → Mode → Option CheckRefusal → Type 0
TellsCheck p m (Some r) = MeetsTypeRules p × IsFirstCheckRefusal p m r
TellsCheck p m None = Unit {0}

-- An error but want of memory tells why the program is refused.
abbrev pub TellsWhy : PProgram → Mode → CheckError → Type 0
TellsWhy p m (Rule e) = TellsTypes p e
TellsWhy p m e = TellsCheck p m (refusal_of e)

-- The program breaks a static rule: with no types and no numbers it is legal.
abbrev pub BreaksRules : PProgram → Mode → Type 0
BreaksRules p m = (types : TypeTable) (numbers : Numbering) → Legal p types numbers m → ⊥

-- Each error but want of memory means that the program breaks a static rule.
abbrev pub MeansBroken : PProgram → Mode → CheckError → Type 0
MeansBroken p m Memory = Unit {0}
MeansBroken p m e = BreaksRules p m

-- a program that was gone through, with its types
pub record IsWalkedProgram (p : PProgram) (m : Mode) (walked : WalkedProgram) : Type 0 where
  pub types_are : walked.types ≡ types_in p
  pub refusal_is : walked.refusal ≡ refused_first record { mode = m; names = p.names } (check_sites p)
