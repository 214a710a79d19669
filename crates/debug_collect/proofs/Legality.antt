-- A collecting text meets every rule, so nothing but want of memory stops its check.
use Rattle.std.proofs.Common.{◌≡◌, ◌≤◌, length, sym, refl, ap, ◌∙◌, subst}
use Rattle.ada_check.specs.Verdicts.{MeansBroken}
use Rattle.ada_check.specs.declared.errors.CheckError.{CheckError}
use Rattle.ada_check.specs.declared.errors.CheckError.TheVariants.{Rule, SharedVariable, AcceptPlace, SelectForm, SameEntryTwice, ReservedName, MainEntry, AbortOrder, BodyMissing, ExitPlace, RaisePlace, Limit, Memory}
use Rattle.ada_tree.specs.PlainProgram.{PProgram}
use Rattle.ada_tree.specs.TypeTable.{TypeTable}
use Rattle.syn_event.specs.AllNumbers.{all_numbers}
use Rattle.syn_event.specs.declared.numbering.Mode.{Mode}
use Rattle.syn_event.specs.declared.numbering.Mode.TheVariants.{Original}
use Rattle.syn_event.specs.Legal.{Legal}
use Rattle.syn_event.specs.Numbering.{Numbering}
use Rattle.replay_structure.proofs.legal.fits.Counted.{tasks-within}

-- a legal program has few tasks
pub few_tasks : (p : PProgram) (types : TypeTable) (numbers : Numbering) → Legal p types numbers Original → length numbers.tasks ≤ 201
few_tasks p types numbers own =
    subst (λ (n : Numbering). length n.tasks ≤ 201) (sym (own.its_numbers ∙ ap (λ (t : TypeTable). all_numbers t p) own.its_types)) (tasks-within p own.check_rules)

-- an error but want of memory is none of a legal program
pub never_refused : (q : PProgram) (m : Mode) (types : TypeTable) (numbers : Numbering) → Legal q types numbers m → (e : CheckError) → MeansBroken q m e → (e ≡ Memory → ⊥) → ⊥
never_refused q m types numbers legal (Rule e) broken other = broken types numbers legal
never_refused q m types numbers legal (SharedVariable s) broken other = broken types numbers legal
never_refused q m types numbers legal (AcceptPlace s) broken other = broken types numbers legal
never_refused q m types numbers legal (SelectForm s) broken other = broken types numbers legal
never_refused q m types numbers legal (SameEntryTwice s) broken other = broken types numbers legal
never_refused q m types numbers legal (ReservedName s) broken other = broken types numbers legal
never_refused q m types numbers legal (MainEntry s) broken other = broken types numbers legal
never_refused q m types numbers legal (AbortOrder s) broken other = broken types numbers legal
never_refused q m types numbers legal (BodyMissing s) broken other = broken types numbers legal
never_refused q m types numbers legal (ExitPlace s) broken other = broken types numbers legal
never_refused q m types numbers legal (RaisePlace s) broken other = broken types numbers legal
never_refused q m types numbers legal (Limit what limit s) broken other = broken types numbers legal
never_refused q m types numbers legal Memory broken other = other refl
