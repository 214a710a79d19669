-- The callees of a legal program stand for tasks beside main, and so does each name that takes the place of one; accepts are of entries of the own task.
use Rattle.std.proofs.Common.{◌≡◌, ℕ, zero, suc, ◌==◌, ◌&&◌, Bool, true, false, cond, List, [], ◌∷◌, map, filter, slice_get, is_some, IfSome, Option, Some, None, unwrap_or, Result, Ok, Err, ◌⊎◌, inl, inr, refl, sym, ap, subst, ◌∙◌, true≢false, eqb-true}
use Rattle.std.specs.List.{AllByRecursion}
use Rattle.common_lemmas.proofs.Truth.{and_left, and_false}
use Rattle.common_lemmas.proofs.Options.{some_same}
use Rattle.ada_tree.specs.declared.naming.NameId.{NameId}
use Rattle.ada_tree.specs.declared.naming.Word.{Word}
use Rattle.ada_tree.specs.NameList.{AreNames}
use Rattle.ada_tree.specs.TypeTable.{TypeTable}
use Rattle.ada_tree.specs.PlainExpr.{PExpr}
use Rattle.ada_tree.specs.PlainStmt.{PCallee, PHead}
use Rattle.ada_tree.specs.PlainProgram.{PProgram}
use Rattle.ada_tree.specs.PlainDecl.{PTask}
use Rattle.ada_static_rules.specs.Refusals.{types_in}
use Rattle.ada_tree.specs.Every.{EveryExpr, EveryCallee}
use Rattle.ada_tree.specs.WellPlaced.{well_placed, IsWellPlaced}
use Rattle.ada_static_rules.specs.Scope.{Scope, entry_named}
use Rattle.ada_static_rules.specs.Sites.{callee_sites}
use Rattle.ada_value.specs.declared.values.Value.{Value}
use Rattle.ada_value.specs.declared.values.Raised.{Raised}
use Rattle.ada_value.specs.Values.{and_then, position_of}
use Rattle.ada_value.specs.Evaluating.{evaluated}
use Rattle.ada_value.specs.StaticLaw.{HasSmallLiterals}
use Rattle.syn_event.specs.declared.numbering.Mode.TheVariants.{Original}
use Rattle.syn_event.specs.declared.numbering.TaskInfo.{TaskInfo}
use Rattle.syn_event.specs.Legal.{Legal}
use Rattle.syn_event.specs.Numbering.{Numbering, task_named, task_at}
use Rattle.syn_event.specs.NamedTasks.{numbered_tasks}
use Rattle.syn_event.specs.AllNumbers.{info_of_task}
use Rattle.syn_event.specs.AddedNames.{task_info}
use Rattle.syn_event.specs.CheckScope.{CheckScope, accepts}
use Rattle.syn_event.specs.CheckSites as check
use Rattle.syn_event.specs.RuleAcceptPlace.{accept_place}
use Rattle.task_model.specs.Setting.{Setting, member_named, task_meant}
use Rattle.normal_model.specs.Names.{name_of_task, task_name_at}
use Rattle.normal_model.specs.Members.{known_task, members_of}
use Rattle.normal_model.specs.NormalTree.{tasks_beside}
use Rattle.normal_laws.specs.structure.asked.Pieces.{IsAmong, first_among, later_among, IsTarget, is_known as known_target, is_member as member_target}
use Rattle.task_laws.specs.legal.rewritten_values.Values.{is_known}
use Rattle.task_laws.specs.translation.Translations.{Programs}
use Rattle.normal_laws.specs.runs.floors.Suited.{IsCallee}
use Rattle.normal_laws.specs.runs.runs.Premises.{programs_of}
use Rattle.normal_laws.specs.runs.forms.Normalisable.{setting_for, normal_rewrite}
use Rattle.task_laws.specs.legal.sites.Met.{IsMet, IsCheckMet}
use Rattle.task_laws.specs.legal.types.Typed.{IsSmall}
use Rattle.task_laws.proofs.legal.types.MainScopes.{StandsWhole}
use Rattle.task_laws.proofs.legal.types.StaticWorth.{small-literals}
use Rattle.normal_laws.proofs.structure.entries.Entries.{mapped-at, task-there}
use Rattle.normal_laws.proofs.existence.seen_tasks.Bodies.{PlaceSeen}
use Rattle.normal_laws.proofs.existence.seen_tasks.Tasks.{PartsKnown, IsNumberedTask, part-apart, IsFirst, member-there}
use Rattle.normal_laws.proofs.existence.statement_forms.OwnEntries.{own-entry}
use Rattle.normal_laws.proofs.existence.statement_forms.Callees.{CalleeKnown, callee-known, callee-first}
use Rattle.normal_laws.proofs.existence.statement_forms.CalleesAsked.{callee-asked}
use Rattle.normal_laws.proofs.existence.statement_forms.Text.{TextPremises, parts-known}
use Rattle.normal_laws.proofs.existence.body_forms.Joined as joined
use Rattle.normal_laws.proofs.existence.body_forms.Fields as fields
use Rattle.normal_laws.specs.structure.typed.ScopeOf.{IsTaskOf, AreTasksOf}

at-among : {A : Type 0} (xs : List A) (k : ℕ) (x : A) → slice_get xs k ≡ Some x → IsAmong x xs
at-among [] k x e = cc
at-among (y ∷ xs) zero x e = subst (λ z. IsAmong z (y ∷ xs)) (some_same e) (first_among xs)
at-among (y ∷ xs) (suc k) x e = later_among y xs (at-among xs k x e)

-- what is among elements is the first or among the others
among-cases : {A : Type 0} (x : A) (zs : List A) → IsAmong x zs → (y : A) (xs : List A) → zs ≡ y ∷ xs → (x ≡ y) ⊎ IsAmong x xs
among-cases x zs (first_among ys) y xs e = inl cc
among-cases x zs (later_among w ys i) y xs e = let q : ys ≡ xs = cc in inr (subst (IsAmong x) q i)

-- what is among those that pass is among all, and passes
record IsKept {A : Type 0} (q : A → Bool) (x : A) (xs : List A) : Type 0 where
  among : IsAmong x xs
  passes : q x ≡ true

kept-among : {A : Type 0} (q : A → Bool) (x : A) (xs : List A) → IsAmong x (filter q xs) → IsKept q x xs
kept-among q x [] i = elim i [ ]
kept-among {A = A} q x (y ∷ xs) i = by_test (q y) refl i (kept-among q x xs)
  where
    later : IsKept q x xs → IsKept q x (y ∷ xs)
    later r = record { among = later_among y xs r.among; passes = r.passes }

    at-first : q y ≡ true → (x ≡ y) ⊎ IsAmong x (filter q xs) → (IsAmong x (filter q xs) → IsKept q x xs) → IsKept q x (y ∷ xs)
    at-first e (inl same) rest = record { among = subst (λ z. IsAmong z (y ∷ xs)) (sym same) (first_among xs); passes = ap q same ∙ e }
    at-first e (inr j) rest = later (rest j)

    by_test : (b : Bool) → q y ≡ b → IsAmong x (cond b (y ∷ filter q xs) (filter q xs)) → (IsAmong x (filter q xs) → IsKept q x xs) → IsKept q x (y ∷ xs)
    by_test true e j rest = at-first e (among-cases x (y ∷ filter q xs) j y (filter q xs) refl) rest
    by_test false e j rest = later (rest j)

module _ (p : PProgram) (types : TypeTable) (its_numbers : Numbering) (legal : Legal p types its_numbers Original) (placed : IsWellPlaced p) (names : AreNames p.names) (small : IsSmall (types_in p)) where
  abbrev T : TypeTable
  T = types_in p

  abbrev g : Setting
  g = setting_for p

  abbrev b : Programs
  b = programs_of (normal_rewrite p [])

  abbrev pub text : TextPremises p b.made b.is_old b.is_fixed (StandsWhole T)
  text = joined.premises p types its_numbers legal placed names [] (StandsWhole T) (fields.premises p types its_numbers legal placed names small [])

  abbrev pub known : PartsKnown p T
  known = parts-known p b.made b.is_old b.is_fixed (StandsWhole T) text

  -- ---- a task of the numbers

  -- the task of a number is one beside main, with that name
  record IsFound (t : ℕ) (id : NameId) : Type 0 where
    info : TaskInfo
    among : IsAmong info (tasks_beside g)
    at : task_at g.numbers t ≡ Some info
    named : info.name ≡ id

  numbered-found : (t : ℕ) (info : TaskInfo) (id : NameId) → IsNumberedTask p T known t info id → IsFound t id
  numbered-found t info id h = record {
    info = info;
    among = at-among (map (info_of_task p.names) (numbered_tasks T p)) h.is.place info (mapped-at p T (numbered_tasks T p) h.is.place h.numbered_task h.is.numbered_task ∙ ap Some (sym h.info));
    at = task-there p T t h.numbered_task h.is ∙ ap Some (sym h.info);
    named = ap (λ (i : TaskInfo). i.name) h.info ∙ ap (λ n. record { 0 = n }) h.name;
  }

  -- a member of an array is no main, and has the array's name
  member-beside : (id : NameId) (info : TaskInfo) → IsAmong info (members_of g id) → IsAmong info (tasks_beside g) × (info.name ≡ id)
  member-beside id info i =
      let r = kept-among (λ (y : TaskInfo). (y.name.0 == id.0) && is_some y.member) info g.numbers.tasks i in
      (beside (among-cases info g.numbers.tasks r.among (task_info p.names p.name.name) (map (info_of_task p.names) (numbered_tasks T p)) refl) r.passes, ap (λ n. record { 0 = n }) (eqb-true info.name.0 id.0 (and_left (info.name.0 == id.0) (is_some info.member) r.passes)))
    where
      beside : (info ≡ task_info p.names p.name.name) ⊎ IsAmong info (map (info_of_task p.names) (numbered_tasks T p)) → ((info.name.0 == id.0) && is_some info.member) ≡ true → IsAmong info (tasks_beside g)
      beside (inl same) e = absurd (true≢false (sym e ∙ ap (λ (i : TaskInfo). (i.name.0 == id.0) && is_some i.member) same ∙ and_false (p.name.name.0 == id.0)))
      beside (inr j) e = j

  -- ---- callees

  module _ (who : Option PTask) (s : Scope) (c : CheckScope) (n : ℕ) (x : PCallee) (seen : PlaceSeen p T who s c) (typed : StandsWhole T s) (every : EveryCallee (well_placed p.names) n x)
      (met : AllByRecursion IsMet (callee_sites s x)) (checked : AllByRecursion (IsCheckMet Original p.names) (check.callee_sites c n x)) where
    abbrev id : NameId
    id = x.name.name

    k : CalleeKnown p T s x
    k = callee-known p T (StandsWhole T) text.typed.typing who s c n x typed seen met checked

    literals : (e : PExpr) → x.index ≡ Some e → HasSmallLiterals e
    literals e q = small-literals p.names n e (subst (λ o. IfSome o (EveryExpr (well_placed p.names) n)) q every.1)

    asked : IsCallee b x
    asked =
        callee-asked p T (StandsWhole T) text.typed.typing b.made b.is_old b.is_fixed (is_known T) known (joined.facts p types its_numbers legal placed names [] (StandsWhole T) (fields.premises p types its_numbers legal placed names small []))
        s x k typed literals met

    first : IsFirst p T known id k.stands.part
    first = callee-first p T s x k known

    -- a task that is known without variables
    meant-found : (t : ℕ) (o : Option PExpr) → task_meant g [] id o ≡ Ok t → IsFound t id
    meant-found t None e =
        let there : unwrap_or (task_named g.numbers id) 0 ≡ first.number = ap (λ o. unwrap_or o 0) first.named in
        subst (λ m. IsFound m id) (sym there ∙ ok-same (unwrap_or (task_named g.numbers id) 0) e) (numbered-found first.number first.info id first.is)
      where
        ok-same : (m : ℕ) → and_then {A = ℕ} {B = ℕ} (Ok m) (λ i. Ok i) ≡ Ok t → m ≡ t
        ok-same m f = cc
    meant-found t (Some y) e = by_value (evaluated g.types [] y) e
      where
        by_value : (r : Result Value Raised) → and_then r (λ v. member_named g.numbers id (position_of v)) ≡ Ok t → IsFound t id
        by_value (Ok v) f = let m = member-there p T known id (position_of v) t (part-apart p T known id k.stands.part k.stands.found) f in numbered-found t m.0 id m.1
        by_value (Err z) f = cc

    first-found : IsFound first.number id
    first-found = numbered-found first.number first.info id first.is

    target-found : (w : Word) → IsTarget g x w → IsTaskOf g x w.name
    target-found w (known_target e f) =
        let told = asked.known e in
        let it = meant-found told.0 x.index told.1 in
        record { info = it.info; among = it.among; is = ap (λ (v : Word). v.name) f ∙ ap (λ r. task_name_at g (known_task r)) told.1 ∙ ap (name_of_task g) it.at; named = it.named }
    target-found w (member_target e info m i f) =
        let it = member-beside id info i in
        record { info = info; among = it.0; is = ap (λ (v : Word). v.name) f; named = it.1 }

    pub callee-tasks : AreTasksOf g x
    callee-tasks = record { info = first-found.info; among = first-found.among; named = first-found.named; targets = target-found }

  -- ---- accepts

  pub accept-own : (t : PTask) (s : Scope) (c : CheckScope) (h : PHead) → PlaceSeen p T (Some t) s c → accept_place c (accepts h) ≡ [] → is_some (entry_named s.own h.entry.name) ≡ true
  accept-own t s c h seen e = ap is_some (own-entry p T (StandsWhole T) text.typed.typing t s c h seen e).said
