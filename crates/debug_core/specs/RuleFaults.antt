-- Why a program that was read is refused, and as what that is told (this project's rules).
use Rattle.std.specs.Prelude.{ℕ, List, Option, Some, None}
use Rattle.ada_lexer.specs.Places.{line_at, column_at}
use Rattle.ada_tree.specs.PlainProgram.{PProgram}
use Rattle.ada_tree.specs.declared.naming.Span.{Span}
use Rattle.ada_static_rules.specs.declared.errors.TypeError.{TypeError}
use Rattle.ada_static_rules.specs.declared.errors.TypeError.TheVariants as types
use Rattle.ada_static_rules.specs.declared.refusals.Rule.TheVariants as typing
use Rattle.ada_check_rules.specs.declared.rules.refusals.Rule.TheVariants as checking
use Rattle.ada_check.specs.declared.errors.CheckError.{CheckError}
use Rattle.ada_check.specs.declared.errors.CheckError.TheVariants as check
use Rattle.ada_check.specs.Verdicts.{TellsWhy}
use Rattle.syn_event.specs.declared.numbering.Mode.{Mode}
use Rattle.debug_outcome.specs.Coming.{IsRefusal}
use Rattle.debug_outcome.specs.Outcomes.{Outcome}
use Rattle.debug_outcome.specs.declared.refusal.Refusal.{Refusal}
use Rattle.debug_outcome.specs.declared.refusal.Refusal.TheVariants.{BadProgram}
use Rattle.debug_outcome.specs.declared.refusal.Rule.{Rule}
use Rattle.debug_outcome.specs.declared.refusal.Rule.TheVariants.{OfTypes, OfCheck}
use Rattle.debug_outcome.specs.declared.refusal.RuleFault.TheVariants.{Broken, Passed}

-- the refusal of a program that breaks a rule at a place of the text
abbrev pub broken_at : List ℕ → Rule → Span → Option Refusal
broken_at text rule s = Some (BadProgram (Broken rule (line_at text s.start) (column_at text s.start)))

-- the refusal for each error of the check of a program of this text; none for want of memory
abbrev pub refusal_of_types : List ℕ → TypeError → Option Refusal
refusal_of_types text (types.Unknown s) = broken_at text (OfTypes typing.Unknown) s
refusal_of_types text (types.Duplicate s) = broken_at text (OfTypes typing.Duplicate) s
refusal_of_types text (types.Mismatch s) = broken_at text (OfTypes typing.Mismatch) s
refusal_of_types text (types.NotStatic s) = broken_at text (OfTypes typing.NotStatic) s
refusal_of_types text (types.RangeBad s) = broken_at text (OfTypes typing.RangeBad) s
refusal_of_types text (types.NotVariable s) = broken_at text (OfTypes typing.NotVariable) s
refusal_of_types text (types.ReadOut s) = broken_at text (OfTypes typing.ReadOut) s
refusal_of_types text (types.ArgCount s) = broken_at text (OfTypes typing.ArgCount) s
refusal_of_types text (types.ChoiceBad s) = broken_at text (OfTypes typing.ChoiceBad) s
refusal_of_types text (types.ArrayUse s) = broken_at text (OfTypes typing.ArrayUse) s
refusal_of_types text (types.TextUse s) = broken_at text (OfTypes typing.TextUse) s
refusal_of_types text (types.NotException s) = broken_at text (OfTypes typing.NotException) s
refusal_of_types text types.Memory = None

-- the refusal for each error of the checks of a program of this text; none for out of memory
abbrev pub refusal_of_error : List ℕ → CheckError → Option Refusal
refusal_of_error text (check.Rule e) = refusal_of_types text e
refusal_of_error text (check.SharedVariable s) = broken_at text (OfCheck checking.SharedVariable) s
refusal_of_error text (check.AcceptPlace s) = broken_at text (OfCheck checking.AcceptPlace) s
refusal_of_error text (check.SelectForm s) = broken_at text (OfCheck checking.SelectForm) s
refusal_of_error text (check.SameEntryTwice s) = broken_at text (OfCheck checking.SameEntryTwice) s
refusal_of_error text (check.ReservedName s) = broken_at text (OfCheck checking.ReservedName) s
refusal_of_error text (check.MainEntry s) = broken_at text (OfCheck checking.MainEntry) s
refusal_of_error text (check.AbortOrder s) = broken_at text (OfCheck checking.AbortOrder) s
refusal_of_error text (check.BodyMissing s) = broken_at text (OfCheck checking.BodyMissing) s
refusal_of_error text (check.ExitPlace s) = broken_at text (OfCheck checking.ExitPlace) s
refusal_of_error text (check.RaisePlace s) = broken_at text (OfCheck checking.RaisePlace) s
refusal_of_error text (check.Limit what limit s) = Some (BadProgram (Passed what limit))
refusal_of_error text check.Memory = None

-- The program of this text is refused: this is the one refusal that the check singles out, and the outcome tells it.
pub record IsIllegal (p : PProgram) (mode : Mode) (text : List ℕ) (o : Outcome) : Type 0 where
  pub error : CheckError
  pub refused : TellsWhy p mode error
  pub told : IsRefusal (refusal_of_error text error) o
