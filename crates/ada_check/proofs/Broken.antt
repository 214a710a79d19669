-- A program of which an error tells the first refusal breaks a rule, so that it is not legal.
use Rattle.std.specs.Prelude.{◌≡◌, List, [], Some, None, Contains, Result, Ok, Err, IfErr}
use Rattle.std.proofs.Common.{subst}
use Rattle.std.proofs.lemmas.List.Elements.{All-nil, All-contains}
use Rattle.ada_tree.specs.PlainProgram.{PProgram}
use Rattle.ada_tree.specs.TypeTable.{TypeTable}
use Rattle.ada_static_rules.specs.Refusals as typing
use Rattle.ada_static_rules.specs.Telling as telling
use Rattle.ada_static_rules.specs.declared.errors.TypeError.{TypeError}
use Rattle.ada_static_rules.specs.declared.errors.TypeError.TheVariants as types
use Rattle.syn_event.specs.declared.numbering.Mode.{Mode}
use Rattle.syn_event.specs.Numbering.{Numbering}
use Rattle.syn_event.specs.CheckRefusals.{CheckRefusal, IsFirstCheckRefusal, check_refusals}
use Rattle.syn_event.specs.Legal.{Legal}
use Rattle.ada_check.specs.Telling.{refusal, refusal_of}
use Rattle.ada_check.specs.Verdicts.{TellsTypes, TellsWhy, BreaksRules, MeansBroken}
use Rattle.ada_check.specs.declared.errors.CheckError.{CheckError}
use Rattle.ada_check.specs.declared.errors.CheckError.TheVariants.{Rule, SharedVariable, AcceptPlace, SelectForm, SameEntryTwice, ReservedName, MainEntry, AbortOrder, BodyMissing, ExitPlace, RaisePlace, Limit, Memory}

nothing_there : {A : Type 0} (xs : List A) (x : A) → xs ≡ [] → Contains xs x → ⊥
nothing_there xs x none h = All-contains (λ y. ⊥) [] x (All-nil (λ y. ⊥)) (subst (λ ys. Contains ys x) none h)

module _ (p : PProgram) (m : Mode) where
  by_types : (r : typing.Refusal) → typing.IsFirstRefusal p r → BreaksRules p m
  by_types r h table numbers legal = nothing_there (typing.refusals p) r legal.type_rules h.is_one

  by_checks : (r : CheckRefusal) → IsFirstCheckRefusal p m r → BreaksRules p m
  by_checks r h table numbers legal = nothing_there (check_refusals p m) r legal.check_rules h.is_one

  -- an error of the first twelve rules
  breaks_types : (e : TypeError) → TellsTypes p e → BreaksRules p m
  breaks_types (types.Unknown s) h = by_types (telling.refusal 1 s) h
  breaks_types (types.Duplicate s) h = by_types (telling.refusal 2 s) h
  breaks_types (types.Mismatch s) h = by_types (telling.refusal 3 s) h
  breaks_types (types.NotStatic s) h = by_types (telling.refusal 4 s) h
  breaks_types (types.RangeBad s) h = by_types (telling.refusal 5 s) h
  breaks_types (types.NotVariable s) h = by_types (telling.refusal 6 s) h
  breaks_types (types.ReadOut s) h = by_types (telling.refusal 7 s) h
  breaks_types (types.ArgCount s) h = by_types (telling.refusal 8 s) h
  breaks_types (types.ChoiceBad s) h = by_types (telling.refusal 9 s) h
  breaks_types (types.ArrayUse s) h = by_types (telling.refusal 10 s) h
  breaks_types (types.TextUse s) h = by_types (telling.refusal 11 s) h
  breaks_types (types.NotException s) h = by_types (telling.refusal 12 s) h
  breaks_types types.Memory h = absurd h

  -- any error
  means_broken : (e : CheckError) → TellsWhy p m e → MeansBroken p m e
  means_broken (Rule e) h = breaks_types e h
  means_broken (SharedVariable s) h = by_checks (refusal 13 None s) h.1
  means_broken (AcceptPlace s) h = by_checks (refusal 14 None s) h.1
  means_broken (SelectForm s) h = by_checks (refusal 15 None s) h.1
  means_broken (SameEntryTwice s) h = by_checks (refusal 16 None s) h.1
  means_broken (ReservedName s) h = by_checks (refusal 17 None s) h.1
  means_broken (MainEntry s) h = by_checks (refusal 18 None s) h.1
  means_broken (AbortOrder s) h = by_checks (refusal 19 None s) h.1
  means_broken (BodyMissing s) h = by_checks (refusal 20 None s) h.1
  means_broken (ExitPlace s) h = by_checks (refusal 21 None s) h.1
  means_broken (RaisePlace s) h = by_checks (refusal 22 None s) h.1
  means_broken (Limit what limit s) h = by_checks (refusal 23 (Some (record { what = what; limit = limit })) s) h.1
  means_broken Memory h = tt

  -- whatever was answered
  pub all_broken : {A : Type 0} (r : Result A CheckError) → IfErr r (TellsWhy p m) → IfErr r (MeansBroken p m)
  all_broken (Ok x) h = tt
  all_broken (Err e) h = means_broken e h
