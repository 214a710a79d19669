-- Each wait of a legal program has few alternatives.
use Rattle.std.proofs.Common.{◌≡◌, ◌≤◌, ◌+◌, ℕ, List, [], length, Some, refl, arith}
use Rattle.std.specs.List.{AllByRecursion}
use Rattle.common_lemmas.proofs.Lists.{all_first, all_weaker}
use Rattle.ada_tree.specs.PlainStmt.{PStmt, SNull, SAssign, SDelay, SExit, SRaise, SAbort, SCall, SAccept, SWait, SConditional, STimed, SPut, SPutLine, SNewLine, SGet, SIf, SCase, SBlock, SLoop}
use Rattle.ada_tree.specs.PlainProgram.{PProgram}
use Rattle.syn_event.specs.declared.numbering.Mode.{Mode}
use Rattle.syn_event.specs.declared.numbering.Mode.TheVariants as mode
use Rattle.syn_event.specs.declared.limits.What.TheVariants.{Alternatives}
use Rattle.syn_event.specs.Limits.{limit_of}
use Rattle.syn_event.specs.Numbering.{Numbering}
use Rattle.syn_event.specs.CheckScope.{CheckSite}
use Rattle.syn_event.specs.CheckSites as check
use Rattle.syn_event.specs.CheckRefusals.{MeetsCheckRules}
use Rattle.syn_event.proofs.Kept.{Kept}
use Rattle.task_model.specs.Starting.{unit_of}
use Rattle.task_laws.specs.legal.sites.Met.{IsCheckMet}
use Rattle.task_laws.specs.statements.Each.{Loops, InBody}
use Rattle.task_laws.proofs.statements.Legal.{AtEach, of-unit}
use Rattle.task_laws.proofs.actions.Numbers.{all_counted}

-- a wait has at most so many alternatives
abbrev pub HasFewAlternatives : Loops → PStmt → Type 0
HasFewAlternatives loops (SWait x o s) = length (check.alt_places x) ≤ 33
HasFewAlternatives loops _ = Unit {0}

most : Mode → ℕ
most mode.Original = 32
most mode.Any = 33

most-is : (m : Mode) → limit_of m Alternatives ≡ Some (most m)
unfolding most
most-is mode.Original = refl
most-is mode.Any = refl

most-few : (m : Mode) → most m ≤ 33
unfolding most
most-few mode.Original = omega arith
most-few mode.Any = omega arith

module _ (m : Mode) (names : List (List ℕ)) where
  few-each : AtEach m names HasFewAlternatives
  few-each (SWait x o s) c n loops k h =
      let us : List CheckSite = check.numbered c Alternatives 0 (check.alt_places x) in
      let vs : List CheckSite = check.alts_sites c (n + 1) x in
      let ws : List CheckSite = check.maybe_sites c (n + 1) o in
      let kept : AllByRecursion (Kept m names) us =
      all_weaker (IsCheckMet m names) (Kept m names) us (λ y met. record { within = met.limits }) (all_first (IsCheckMet m names) us vs ws h.1.1) in
      let all : 0 + length (check.alt_places x) ≤ most m = all_counted m names c Alternatives (most m) 0 (check.alt_places x) (most-is m) (omega arith) kept in
      omega (arith, all, most-few m)
  few-each (SNull s) c n loops k h = tt
  few-each (SAssign t e s) c n loops k h = tt
  few-each (SDelay d s) c n loops k h = tt
  few-each (SExit w e s) c n loops k h = tt
  few-each (SRaise w s) c n loops k h = tt
  few-each (SAbort cs s) c n loops k h = tt
  few-each (SCall x s) c n loops k h = tt
  few-each (SAccept a s) c n loops k h = tt
  few-each (SConditional x l o s) c n loops k h = tt
  few-each (STimed x l d o s) c n loops k h = tt
  few-each (SPut ps s) c n loops k h = tt
  few-each (SPutLine ps s) c n loops k h = tt
  few-each (SNewLine s) c n loops k h = tt
  few-each (SGet t s) c n loops k h = tt
  few-each (SIf x o s) c n loops k h = tt
  few-each (SCase e x o s) c n loops k h = tt
  few-each (SBlock b s) c n loops k h = tt
  few-each (SLoop w x l s) c n loops k h = tt

-- So it is in each unit.
pub unit-few : (p : PProgram) (m : Mode) → MeetsCheckRules p m → (numbers : Numbering) (t : ℕ) → InBody HasFewAlternatives [] (unit_of p numbers t).body
unit-few p m meets numbers t = of-unit p m meets HasFewAlternatives (few-each m p.names) numbers t
