-- What the law of normal forms asks of a program, of each legal program: the fields of IsNormalisable that speak of its names, tasks and accepts.
use Rattle.std.proofs.Common.{ℕ, zero, suc, Bool, true, if◌then◌else◌, ℤ, List, [], ◌∷◌, is_some, Option, Some, None, refl, sym, ap, subst, arith}
use Rattle.std.specs.List.{AllByRecursion}
use Rattle.std.proofs.lemmas.Bool.{ne_eqb}
use Rattle.ada_tree.specs.TypeTable.{TypeTable}
use Rattle.ada_tree.specs.PlainProgram.{PProgram}
use Rattle.ada_tree.specs.WellPlaced.{IsWellPlaced}
use Rattle.ada_static_rules.specs.Declaring.{first_scope, inner_scope, after_decls}
use Rattle.ada_static_rules.specs.Demand.{Site}
use Rattle.ada_static_rules.specs.Sites.{decls_sites, body_sites}
use Rattle.ada_static_rules.specs.Refusals.{types_in}
use Rattle.syn_event.specs.declared.numbering.Mode.TheVariants.{Original}
use Rattle.syn_event.specs.declared.numbering.TaskInfo.{TaskInfo}
use Rattle.syn_event.specs.Numbering.{Numbering, task_at}
use Rattle.syn_event.specs.Legal.{Legal}
use Rattle.syn_event.proofs.Weaker.{placed_tokens}
use Rattle.ada_value.specs.Variables.{Object, Variables}
use Rattle.task_model.specs.Starting.{unit_of_info, objects_of}
use Rattle.task_laws.specs.invariants.Worlds.{IsWellMade}
use Rattle.task_laws.specs.legal.rewritten_types.Rewriting.{staying}
use Rattle.task_laws.proofs.legal.rewritten_types.Refused.{declared_once}
use Rattle.task_laws.proofs.legal.rewritten_types.Staying.{staying_is_front}
use Rattle.task_laws.specs.legal.rewritten_values.Values.{AgreeOnValues}
use Rattle.task_laws.proofs.legal.rewritten_values.Staying.{objects_stay}
use Rattle.normal_laws.specs.structure.types.Own.{own_name}
use Rattle.normal_laws.specs.structure.types.Laws.{AreOwn}
use Rattle.normal_laws.proofs.structure.types.Normal.{normal_values}
use Rattle.normal_laws.specs.runs.runs.Premises.{programs_of, objects_before}
use Rattle.normal_laws.specs.runs.forms.Normalisable.{numbers_of, setting_for, made_for, normal_rewrite, IsPlain}
use Rattle.task_laws.specs.legal.types.Typed.{IsSmall}
use Rattle.task_laws.proofs.legal.types.MainScopes.{main-stands}
use Rattle.task_laws.proofs.legal.types.TaskTypes.{tasks-have-types}
use Rattle.normal_laws.specs.existence.units.Laws.{LegalIsOrdered, LegalHasTokens, LegalNamesTell, LegalConforms, LegalTypesAreFull, IsFreeLocal, LocalsAreFree, LegalIsOwn, LegalIsPlain, LegalIsWell, LightHasFew, FewNamesSmall}
use Rattle.normal_laws.proofs.existence.units.Apart.{all-addressed}
use Rattle.normal_laws.proofs.existence.units.Own.{program-own}
use Rattle.normal_laws.proofs.existence.units.TasksApart.{units-told}
use Rattle.normal_laws.proofs.existence.units.Conforms.{conforms}
use Rattle.normal_laws.proofs.existence.units.Lacking.{locals-free}
use Rattle.normal_laws.proofs.existence.units.Few.{light-has-few}
use Rattle.normal_laws.proofs.existence.units.Small.{few-names-small}
use Rattle.normal_laws.proofs.existence.units.Full.{types-full}
use Rattle.normal_laws.proofs.existence.units.Lowers.{AreWorth, lowers}
use Rattle.normal_laws.proofs.existence.units.ArrayConstants.{arrays-free}
use Rattle.normal_laws.proofs.existence.units.TypedNames.{stand-still, formals-worth}
use Rattle.normal_laws.proofs.existence.units.Plain.{IsPlainObject, ArraysFree, units-plain, main-plain}
use Rattle.common_lemmas.proofs.Lists.{all_front}

pub legal_is_ordered : LegalIsOrdered
legal_is_ordered p types numbers legal placed = record { rules = legal.type_rules; last = placed.1 }

pub legal_has_tokens : LegalHasTokens
legal_has_tokens p placed = placed_tokens p placed

pub legal_names_tell : LegalNamesTell
legal_names_tell p types numbers legal placed names = units-told p (types_in p) (legal_is_ordered p types numbers legal placed) legal.check_rules (placed_tokens p placed) names

pub legal_conforms : LegalConforms
legal_conforms p types numbers legal placed t = conforms Original p legal.type_rules legal.check_rules (placed_tokens p placed) t

pub legal_types_are_full : LegalTypesAreFull
legal_types_are_full p types numbers legal placed = types-full p legal.type_rules placed

pub locals_are_free : LocalsAreFree
locals_are_free p types numbers legal = locals-free p legal.type_rules

-- ---- with what is taken of types

pub legal_is_own : LegalIsOwn
legal_is_own p types numbers legal placed names small = (program-own p legal.type_rules legal.check_rules placed names (all-addressed p legal.type_rules placed small)).2

-- the program is well made, where the lower bounds of formals' subtypes are values
pub well-field : (p : PProgram) (types : TypeTable) (numbers : Numbering) → Legal p types numbers Original → IsWellPlaced p → AreWorth p → IsWellMade (setting_for p)
well-field p types numbers legal placed worth = record {
  conforms = legal_conforms p types numbers legal placed;
  lowers = lowers p (numbers_of p) legal.type_rules placed worth;
}

-- objects are plain, where names are own and array constants have names of their own
module _ (p : PProgram) (types : TypeTable) (numbers : Numbering) (legal : Legal p types numbers Original) (placed : IsWellPlaced p) (own : AreOwn p p.decls) where
  abbrev pub T : TypeTable
  T = types_in p

  abbrev pub U : TypeTable
  U = types_in (made_for p)

  pub agree : AgreeOnValues (own_name p) T U p.names (made_for p).names
  agree = normal_values p T (numbers_of p) (legal_is_ordered p types numbers legal placed) (placed_tokens p placed)

  abbrev Plain : Object → Type 0
  Plain o = IsPlainObject (own_name p) T U p.names (made_for p).names agree o

  is-plain : (inputs : List (List ℤ)) (vars : Variables) → AllByRecursion Plain vars → AllByRecursion (IsPlain (programs_of (normal_rewrite p inputs))) vars
  is-plain inputs [] h = tt
  is-plain inputs (o ∷ vars) h = ((h.0.old_name, (h.0.known, ap (λ (v : Option ℤ). is_some v) h.0.free)), is-plain inputs vars h.1)

  places : AllByRecursion (λ (x : Site). IsFreeLocal T x.demand) (decls_sites (first_scope p.name) p.decls)
  places = all_front (λ (x : Site). IsFreeLocal T x.demand) (decls_sites (first_scope p.name) p.decls) (body_sites (inner_scope (after_decls (first_scope p.name) p.decls)) p.body) (locals-free p legal.type_rules).1

  info-plain : (info : Option TaskInfo) → AllByRecursion Plain (objects_of T (unit_of_info p info).in_main (unit_of_info p info).decls [])
  info-plain None = tt
  info-plain (Some info) = units-plain (own_name p) T U p.names (made_for p).names agree p.decls (first_scope p.name) info.unit places own

  pub plain-field : ArraysFree (own_name p) T U p.names (made_for p).names agree p.decls → (inputs : List (List ℤ)) (t : ℕ) → AllByRecursion (IsPlain (programs_of (normal_rewrite p inputs))) (objects_before (normal_rewrite p inputs) t)
  plain-field arrays inputs zero =
      is-plain inputs (objects_of T true p.decls [])
      (subst (AllByRecursion Plain)
      (sym (objects_stay p.name p.decls (staying (first_scope p.name) p.decls) (declared_once p legal.type_rules) (staying_is_front p legal.type_rules placed.1) []))
      (main-plain (own_name p) T U p.names (made_for p).names agree p.decls (first_scope p.name) [] places own arrays tt))
  plain-field arrays inputs (suc t) =
      is-plain inputs _
      (subst (λ (b : Bool). AllByRecursion Plain (objects_of T (if b then record { in_main = true; decls = p.decls; body = p.body } else unit_of_info p (task_at (numbers_of p) (suc t))).in_main (if b then record { in_main = true; decls = p.decls; body = p.body } else unit_of_info p (task_at (numbers_of p) (suc t))).decls []))
      (sym (ne_eqb (suc t) 0 (λ e. omega (arith, e)))) (info-plain (task_at (numbers_of p) (suc t))))

  -- objects are plain, where enumerations are small
  pub plain-small : IsSmall (types_in p) → (inputs : List (List ℤ)) (t : ℕ) → AllByRecursion (IsPlain (programs_of (normal_rewrite p inputs))) (objects_before (normal_rewrite p inputs) t)
  plain-small small inputs t =
      plain-field (arrays-free (own_name p) T U p.names (made_for p).names agree p refl legal.type_rules (stand-still T p.decls (first_scope p.name) (main-stands p legal.type_rules placed small))) inputs t

pub legal_is_plain : LegalIsPlain
legal_is_plain p types numbers legal placed names small inputs t = plain-small p types numbers legal placed (legal_is_own p types numbers legal placed names small) small inputs t

pub light_has_few : LightHasFew
light_has_few p h t = light-has-few p h t

pub legal_is_well : LegalIsWell
legal_is_well p types numbers legal placed small = well-field p types numbers legal placed (formals-worth p (tasks-have-types p legal.type_rules placed small))

pub few_names_small : FewNamesSmall
few_names_small p types numbers legal placed few = few-names-small p legal.type_rules placed few
