-- What is known of a legal program and of its normal form, from the crates below.
use Rattle.std.proofs.Common.{◌≡◌, ℕ, Bool, true, false, ◌==◌, List, [], ◌∷◌, ◌++◌, map, ◌<◌, is_some, refl, sym, ap, ◌∙◌, true≢false}
use Rattle.std.specs.List.{AllByRecursion}
use Rattle.ada_tree.specs.declared.naming.NameId.{NameId}
use Rattle.ada_tree.specs.TypeTable.{TypeTable}
use Rattle.ada_tree.specs.PlainDecl.{PDecl}
use Rattle.ada_tree.specs.PlainProgram.{PProgram}
use Rattle.ada_tree.specs.Every.{EveryProgram}
use Rattle.ada_tree.specs.WellPlaced.{HasTokens, IsWellPlaced}
use Rattle.ada_static_rules.specs.StaticValue.{value_named}
use Rattle.ada_static_rules.specs.Declaring.{first_scope, inner_scope, after_decls}
use Rattle.ada_static_rules.specs.Sites.{decls_sites, body_sites}
use Rattle.ada_static_rules.specs.Refusals.{types_in}
use Rattle.syn_event.specs.declared.numbering.Mode.TheVariants.{Original}
use Rattle.syn_event.specs.declared.numbering.TaskInfo.{TaskInfo}
use Rattle.syn_event.specs.AddedNames.{task_info}
use Rattle.syn_event.specs.CheckScope.{CheckScope, CheckSite}
use Rattle.syn_event.specs.CheckSites as check
use Rattle.syn_event.specs.NamedTasks.{NumberedTask, numbered_tasks, task_names_of}
use Rattle.syn_event.specs.AllNumbers.{info_of_task}
use Rattle.syn_event.specs.RuleReservedName.{is_reserved}
use Rattle.syn_event.specs.DeclaredTasks.{text_of, decl_list, tasks_of}
use Rattle.syn_event.proofs.Nothing.{test_fails}
use Rattle.syn_event.proofs.Weaker.{placed_tokens}
use Rattle.task_laws.specs.legal.rewritten_types.Agreement.{Agrees}
use Rattle.task_laws.proofs.legal.rewritten_types.Refused.{declared_once}
use Rattle.task_laws.specs.legal.rewritten_values.Values.{old_names, AgreeOnValues}
use Rattle.normal_model.specs.Names.{task_name}
use Rattle.normal_model.specs.NormalTree.{tasks_beside, first_decls}
use Rattle.normal_laws.specs.structure.types.Own.{own_name}
use Rattle.normal_laws.specs.structure.types.Laws.{IsOrdered}
use Rattle.normal_laws.proofs.structure.types.Normal.{normal_agrees, normal_values}
use Rattle.normal_laws.proofs.structure.units.Declared.{parts-all, numbered-tasks-all}
use Rattle.normal_laws.specs.runs.forms.Normalisable.{numbers_of, setting_for, made_for, NamesTell}
use Rattle.normal_laws.proofs.structure.numbers.Named.{text-longer, own-within}
use Rattle.normal_laws.proofs.structure.numbers.TaskNames.{normal-begins}
use Rattle.task_laws.specs.legal.sites.Met.{IsMet, IsCheckMet}
use Rattle.task_laws.proofs.legal.sites.Meeting.{all_met, all_check_met}
use Rattle.task_laws.specs.legal.types.Typed.{IsFirstTask}
use Rattle.task_laws.proofs.legal.types.MainScopes.{StandsWhole, AllStand, main-stands, last-stands}
use Rattle.task_laws.proofs.legal.types.InnerScopes.{AreApart}
use Rattle.task_laws.proofs.legal.types.StaticWorth.{named-alike, keeps-agrees}
use Rattle.task_laws.proofs.legal.types.TypedValues.{anybody}
use Rattle.task_laws.proofs.legal.types.LaterScopes.{valued-means}
use Rattle.normal_laws.specs.existence.variable_types.Ready.{IsReady}
use Rattle.normal_laws.proofs.existence.variable_types.SubtypeForms.{predefined-own, meant-own}
use Rattle.normal_laws.proofs.existence.units.Own.{program-own}
use Rattle.normal_laws.proofs.existence.units.Apart.{all-apart, all-addressed}
use Rattle.normal_laws.proofs.existence.units.ArrayConstants.{arrays-free}
use Rattle.normal_laws.proofs.existence.units.TypedNames.{stand-still}
use Rattle.normal_laws.proofs.existence.units.DeclaredNames.{IsGood, tasks-good}
use Rattle.normal_laws.proofs.existence.units.TasksApart.{IsNamed, members-there, all-named, tasks-apart}
use Rattle.normal_laws.proofs.existence.units.Fields.{legal_is_ordered, legal_names_tell}
use Rattle.normal_laws.proofs.existence.seen_tasks.Units.{objects-apart}
use Rattle.normal_laws.proofs.existence.seen_tasks.Bodies.{first-seen}
use Rattle.normal_laws.proofs.existence.seen_tasks.Tasks.{PartsKnown, numbered-tasks-apart}
use Rattle.normal_laws.proofs.existence.body_forms.Fields.{legal-ready}
use Rattle.normal_laws.specs.existence.Laws.{IsLegalOriginal}
use Rattle.normal_laws.specs.structure.asked.Pieces.{IsAmong}
use Rattle.normal_laws.specs.structure.checked.Around.{own_rules}
use Rattle.normal_laws.proofs.structure.checked.Owned.{own-together}
use Rattle.common_lemmas.proofs.Lists.{all_front, all_back}
use Rattle.common_lemmas.proofs.Numbers.{equal_is, equal_self}
use Rattle.normal_laws.proofs.legality.asked.Tasks as asked
use Rattle.normal_laws.proofs.legality.placed.Placed.{normal_is_placed}
use Rattle.normal_laws.proofs.legality.checks.Bodies.{IsKnown, BodyPlace, walk, first-beside}
use Rattle.normal_laws.proofs.structure.placed.Made.{among}

module _ (p : PProgram) (h : IsLegalOriginal p) where
  abbrev pub T : TypeTable
  T = types_in p

  abbrev pub U : TypeTable
  U = types_in (made_for p)

  abbrev pub own : ℕ → Bool
  own = own_name p

  abbrev pub M : CheckSite → Type 0
  M = IsCheckMet Original p.names

  -- ---- names and types

  pub ordered : IsOrdered p
  ordered = legal_is_ordered p T (numbers_of p) h.legal h.placed

  pub has-tokens : HasTokens p
  has-tokens = placed_tokens p h.placed

  pub olds : EveryProgram (old_names own) p
  olds = program-own p h.legal.type_rules h.legal.check_rules h.placed h.names (all-addressed p h.legal.type_rules h.placed h.small)

  pub owns : EveryProgram (own_rules own) p
  owns = own-together own (old_names own) (λ id a. a) p.names p olds h.placed

  pub agree : AgreeOnValues own T U p.names (made_for p).names
  agree = normal_values p T (numbers_of p) ordered has-tokens

  pub alike : Agrees own T U
  alike = normal_agrees p T (numbers_of p) ordered

  pub ready : IsReady p
  ready = legal-ready p T (numbers_of p) h.legal h.placed h.names h.small []

  pub tell : NamesTell (setting_for p)
  tell = legal_names_tell p T (numbers_of p) h.legal h.placed h.names

  -- the normal form is well placed, and own names have the texts that they have
  pub placed : IsWellPlaced (made_for p)
  placed = normal_is_placed p h

  pub same-text : (id : NameId) → own id.0 ≡ true → text_of (made_for p).names id ≡ text_of p.names id
  same-text id o = text-longer p.names (made_for p).names id (normal-begins p T (numbers_of p)) (own-within p id.0 o)

  -- a name with a value is own
  pub valued-own : (id : NameId) → is_some (value_named T id) ≡ true → own id.0 ≡ true
  valued-own id e =
      let last : StandsWhole T (after_decls (first_scope p.name) p.decls) = last-stands p h.legal.type_rules h.placed h.small in
      let same = named-alike anybody last.stands.root T (keeps-agrees last.stands.root T last.stands.typed last.whole) id refl in
      let thing = valued-means last.stands.root (after_decls (first_scope p.name) p.decls) last.stands.over id (ap (λ o. is_some o) same ∙ e) in
      meant-own p h.names ordered olds id thing.0 thing.1

  pub first-own : (k : ℕ) → k < 18 → own k ≡ true
  first-own k l = predefined-own p h.names k l

  -- ---- places

  pub checks : AllByRecursion M (check.check_sites p)
  checks = all_check_met p Original h.legal.check_rules

  abbrev pub around : CheckScope
  around = check.around_program p

  abbrev pub decls_checks : List CheckSite
  decls_checks = check.decls_sites around (check.body_names p.decls) p.decls

  abbrev pub body_checks : List CheckSite
  body_checks = check.body_sites (check.after_decls around p.decls) 1 p.body

  pub decls-checked : AllByRecursion M decls_checks
  decls-checked = all_front M decls_checks body_checks (all_front M (decls_checks ++ body_checks) (check.counted_sites around p) checks.1)

  pub body-checked : AllByRecursion M body_checks
  body-checked = all_back M decls_checks body_checks (all_front M (decls_checks ++ body_checks) (check.counted_sites around p) checks.1)

  pub counts-checked : AllByRecursion M (check.counted_sites around p)
  counts-checked = all_back M (decls_checks ++ body_checks) (check.counted_sites around p) checks.1

  -- ---- tasks

  pub known : PartsKnown p T
  known = asked.known p T (numbers_of p) h.legal h.placed h.names h.small

  pub firsts : AllByRecursion (λ (y : NumberedTask). IsFirstTask (tasks_of p) y.unit) (numbered_tasks T p)
  firsts = numbered-tasks-all (IsFirstTask (tasks_of p)) T (task_names_of p) (parts-all (IsFirstTask (tasks_of p)) p.decls [] tt ready.tasks.found)

  abbrev main-info : TaskInfo
  main-info = task_info p.names p.name.name

  main-good : IsGood p.names p.name.name
  main-good = record { there = has-tokens.0; free = test_fails (is_reserved (text_of p.names p.name.name)) p.name.span checks.0.reserved }

  named : AllByRecursion (IsNamed (setting_for p)) (setting_for p).numbers.tasks
  named = all-named (setting_for p) (setting_for p).numbers.tasks (main-good, tasks-good p T h.legal.check_rules has-tokens) (members-there (setting_for p))

  infos-apart : (ys : List NumberedTask) → AllByRecursion (λ (y : NumberedTask). (p.name.name.0 == y.name.0) ≡ false) ys → AllByRecursion (λ (i : TaskInfo). (p.name.name.0 == i.name.0) ≡ false) (map (info_of_task p.names) ys)
  infos-apart [] k = tt
  infos-apart (y ∷ ys) k = (k.0, infos-apart ys k.1)

  -- no task has the name of the procedure in the normal form
  pub apart : (info : TaskInfo) → IsAmong info (tasks_beside (setting_for p)) → ((task_name (setting_for p) info).0 == p.name.name.0) ≡ false
  apart info i = by_test ((task_name (setting_for p) info).0 == p.name.name.0) refl
    where
      by_test : (b : Bool) → ((task_name (setting_for p) info).0 == p.name.name.0) ≡ b → b ≡ false
      by_test false e = refl
      by_test true e =
          let same = tasks-apart (setting_for p) h.names info main-info (among (IsNamed (setting_for p)) info (tasks_beside (setting_for p)) i named.1) named.0 (equal_is (task_name (setting_for p) info).0 p.name.name.0 e) in
          let other = among (λ (y : TaskInfo). (p.name.name.0 == y.name.0) ≡ false) info (tasks_beside (setting_for p)) i (infos-apart (numbered_tasks T p) (numbered-tasks-apart p T known)) in
          absurd (true≢false (sym (ap (λ n. n == info.name.0) (sym same.0) ∙ equal_self info.name.0) ∙ other))

  -- ---- bodies

  -- what stands around behind the first declarations of the normal form
  abbrev pub behind_firsts : CheckScope
  behind_firsts = check.after_decls (check.first_around U p.name) (first_decls [] p.decls)

  abbrev pub AtBody : PDecl → Type 0
  AtBody = BodyPlace p own T U (made_for p).names agree alike (check.body_names p.decls) behind_firsts

  types-met : AllByRecursion IsMet (decls_sites (first_scope p.name) p.decls)
  types-met = all_front IsMet (decls_sites (first_scope p.name) p.decls) (body_sites (inner_scope (after_decls (first_scope p.name) p.decls)) p.body) (all_met p h.legal.type_rules).1

  types-apart : AreApart T (decls_sites (first_scope p.name) p.decls)
  types-apart = all_front _ (decls_sites (first_scope p.name) p.decls) (body_sites (inner_scope (after_decls (first_scope p.name) p.decls)) p.body) (all-apart p h.legal.type_rules).1

  all-stand : AllStand T (first_scope p.name) p.decls
  all-stand = main-stands p h.legal.type_rules h.placed h.small

  pub first-known : IsKnown p own T U (made_for p).names agree alike (check.body_names p.decls) (first_scope p.name) around p.decls
  first-known = record {
    met = types-met;
    apart = types-apart;
    stands = all-stand;
    ranged = (asked.text p T (numbers_of p) h.legal h.placed h.names h.small).ranged;
    objects = objects-apart p T p.decls (first_scope p.name) types-met;
    once = (declared_once p h.legal.type_rules).1;
    last = h.placed.1;
    free = arrays-free own T U p.names (made_for p).names agree p refl h.legal.type_rules (stand-still T p.decls (first_scope p.name) all-stand);
    old = olds.2;
    every = owns.2;
    checked = decls-checked;
  }

  -- Each body of a task, with what is known there.
  pub bodies-known : AllByRecursion AtBody (decl_list p.decls)
  bodies-known =
      walk p own T U (made_for p).names agree alike (check.body_names p.decls) behind_firsts p.decls [] (first_scope p.name) around (check.first_around U p.name) first-known
      (record { types = refl; own = refl; accepting = refl; loops = refl; in_handler = refl })
      (first-seen p T (declared_once p h.legal.type_rules).0) (first-beside p own T U (made_for p).names agree alike (check.body_names p.decls)) refl
