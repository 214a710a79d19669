-- The statements of each unit of a legal program, with their calls, callees and accepts known.
use Rattle.std.proofs.Common.{◌≡◌, ◌<◌, ◌+◌, ℕ, zero, suc, Bool, true, false, ◌||◌, not, cond, nat_lt, if◌then◌else◌, ℤ, List, [], ◌∷◌, ◌++◌, Option, Some, None, refl, sym, ap, ◌∙◌, subst, true≢false, arith}
use Rattle.std.specs.Prelude.{◌==◌, count_by}
use Rattle.std.specs.List.{AllByRecursion}
use Rattle.std.proofs.lemmas.Bool.{or_left, ne_eqb}
use Rattle.std.proofs.lemmas.List.Sums.{sum_by-cons}
use Rattle.common_lemmas.proofs.Lists.{all_back, all_front, all_weaker}
use Rattle.ada_tree.specs.declared.naming.NameId.{NameId}
use Rattle.ada_tree.specs.declared.naming.Span.{Span}
use Rattle.ada_tree.specs.TypeTable.{TypeTable}
use Rattle.ada_tree.specs.PlainStmt.{PHead, PBody, body, no_stmt, PAltKind, AAccept, ADelay, ATerminate, PAlts, no_alt, alt_then, alternative, no_handler}
use Rattle.ada_tree.specs.PlainDecl.{PTask, no_decl}
use Rattle.ada_tree.specs.PlainProgram.{PProgram}
use Rattle.ada_static_rules.specs.Scope.{Scope}
use Rattle.ada_static_rules.specs.Demand.{Site}
use Rattle.ada_static_rules.specs.Sites.{names_sites, callee_sites, call_sites, body_sites, decls_sites, sites}
use Rattle.ada_static_rules.specs.Declaring.{before_all, first_scope, inner_scope, after_decls}
use Rattle.ada_static_rules.specs.Refusals.{types_in}
use Rattle.syn_event.specs.declared.numbering.Mode.TheVariants as mode
use Rattle.syn_event.specs.declared.numbering.TaskInfo.{TaskInfo}
use Rattle.syn_event.specs.CheckScope.{CheckScope, CheckSite}
use Rattle.syn_event.specs.CheckScope as check
use Rattle.syn_event.specs.CheckSites as checks
use Rattle.syn_event.specs.DeclaredTasks.{tasks_of}
use Rattle.syn_event.specs.Numbering.{task_at}
use Rattle.syn_event.specs.RuleAcceptPlace.{accept_place, is_own_entry, is_among}
use Rattle.syn_event.specs.RuleSelectForm.{alt_kinds, is_accept, is_terminate, kinds_count, is_malformed}
use Rattle.task_model.specs.Starting.{unit_of, unit_of_info, unit_among}
use Rattle.task_laws.specs.translation.Translations.{Programs}
use Rattle.task_laws.specs.translation.OldTexts.{Asked, OldBody, old_body, old_no_stmt, old_no_handler}
use Rattle.normal_laws.proofs.structure.entries.Entries.{g}
use Rattle.normal_laws.specs.runs.runs.Premises.{programs_of}
use Rattle.normal_laws.specs.runs.forms.Normalisable.{numbers_of, normal_rewrite}
use Rattle.task_laws.specs.legal.sites.Met.{IsMet, IsCheckMet}
use Rattle.task_laws.specs.legal.types.Typed.{IsTypedTask}
use Rattle.task_laws.proofs.legal.rewritten_types.Refused.{declared_once}
use Rattle.task_laws.proofs.legal.sites.Meeting.{all_met, all_check_met}
use Rattle.task_laws.proofs.legal.types.MainScopes.{StandsWhole}
use Rattle.normal_laws.specs.existence.Laws.{IsLegalOriginal}
use Rattle.normal_laws.specs.existence.inner.Gives.{Known, Gives}
use Rattle.normal_laws.proofs.existence.body_forms.Fields as fields
use Rattle.normal_laws.proofs.existence.body_forms.Joined as joined
use Rattle.normal_laws.proofs.existence.seen_tasks.Bodies.{PlaceSeen, first-seen, decls-step, main-seen, accept-seen, handling-seen, loop-seen}
use Rattle.normal_laws.proofs.existence.seen_tasks.Finding.{no-place}
use Rattle.normal_laws.proofs.existence.seen_tasks.Parts.{MainSeen}
use Rattle.normal_laws.proofs.existence.seen_tasks.Tasks.{PartsKnown}
use Rattle.normal_laws.proofs.existence.seen_tasks.Units.{objects-apart, BodyFound, nothing_found, body_found, bodies-found}
use Rattle.normal_laws.proofs.existence.statement_forms.Callees.{callee-known}
use Rattle.normal_laws.proofs.existence.statement_forms.Text.{IsKnownPlace, IsLocal, TextPremises, parts-known, text_rules}
use Rattle.normal_laws.proofs.existence.walked_statements.Walk.{body-as-asked}
use Rattle.progress_law.specs.offers.inner.Stated.{IsKnownCall, IsKnownCallee}
use Rattle.progress_law.proofs.offers.Places.{callee-is-known, call-is-known}

-- ---- waits

-- one of the alternatives accepts
abbrev pub HasAccept : PAlts → Type 0
HasAccept no_alt = ⊥
HasAccept (alt_then (alternative g (AAccept a l) s) rest) = Prim.Unit {0}
HasAccept (alt_then (alternative g (ADelay d l) s) rest) = HasAccept rest
HasAccept (alt_then (alternative g ATerminate s) rest) = HasAccept rest

abbrev one-if : Bool → ℕ
one-if b = cond b 1 0

accepts-counted : (x : PAltKind) (xs : List PAltKind) → is_accept x ≡ false → count_by is_accept (x ∷ xs) ≡ count_by is_accept xs
accepts-counted x xs e =
    let c : one-if (is_accept x) ≡ 0 = ap one-if e in
    let k : count_by is_accept (x ∷ xs) ≡ one-if (is_accept x) + count_by is_accept xs = sum_by-cons (λ (k : PAltKind). one-if (is_accept k)) x xs in
    omega (arith, c, k)

accept-there : (x : PAlts) → (count_by is_accept (alt_kinds x) == 0) ≡ false → HasAccept x
accept-there no_alt e = absurd (true≢false e)
accept-there (alt_then (alternative g (AAccept a l) s) rest) e = tt
accept-there (alt_then (alternative g (ADelay d l) s) rest) e = accept-there rest (ap (λ (n : ℕ). n == 0) (sym (accepts-counted (ADelay d l) (alt_kinds rest) refl)) ∙ e)
accept-there (alt_then (alternative g ATerminate s) rest) e = accept-there rest (ap (λ (n : ℕ). n == 0) (sym (accepts-counted ATerminate (alt_kinds rest) refl)) ∙ e)

-- a selective wait of a right form has an accept
has-accept : (x : PAlts) (others : Bool) (s : Span) → (if is_malformed (alt_kinds x) others then s ∷ [] else []) ≡ [] → HasAccept x
has-accept x others s e = accept-there x (by_test (count_by is_accept (alt_kinds x) == 0) refl)
  where
    by_test : (b : Bool) → (count_by is_accept (alt_kinds x) == 0) ≡ b → b ≡ false
    by_test false q = refl
    by_test true q =
        absurd
        (true≢false
        (ap (λ (b : Bool). b || nat_lt 1 (count_by is_terminate (alt_kinds x)) || nat_lt 1 (kinds_count (alt_kinds x) others)) (sym q) ∙ no-place (is_malformed (alt_kinds x) others) s e))

-- ---- the program

module _ (p : PProgram) (h : IsLegalOriginal p) (inputs : List (List ℤ)) where
  abbrev pub T : TypeTable
  T = types_in p

  abbrev b : Programs
  b = programs_of (normal_rewrite p inputs)

  abbrev Typed : Scope → Type 0
  Typed = StandsWhole T

  premises : TextPremises p b.made b.is_old b.is_fixed Typed
  premises = joined.premises p T (numbers_of p) h.legal h.placed h.names inputs Typed (fields.premises p T (numbers_of p) h.legal h.placed h.names h.small inputs)

  known : PartsKnown p T
  known = parts-known p b.made b.is_old b.is_fixed Typed premises

  typed-tasks : AllByRecursion (IsTypedTask T) (tasks_of p)
  typed-tasks = (fields.legal-ready p T (numbers_of p) h.legal h.placed h.names h.small inputs).tasks.tasks

  abbrev Place : Site → Type 0
  Place = IsKnownPlace T b.is_fixed

  abbrev Checked : CheckSite → Type 0
  Checked = IsCheckMet mode.Original p.names

  -- ---- the places of the program

  both-all : (xs : List Site) → AllByRecursion IsMet xs → AllByRecursion (IsLocal T b.is_fixed) xs → AllByRecursion Place xs
  both-all [] m l = tt
  both-all (x ∷ xs) m l = ((m.0, l.0), both-all xs m.1 l.1)

  met : (xs : List Site) → AllByRecursion Place xs → AllByRecursion IsMet xs
  met xs at = all_weaker Place IsMet xs (λ x m. m.0) at

  abbrev main_scope : Scope
  main_scope = inner_scope (after_decls (first_scope p.name) p.decls)

  abbrev main_around : CheckScope
  main_around = checks.after_decls (checks.around_program p) p.decls

  all-places : AllByRecursion Place (sites p)
  all-places = both-all (sites p) (all_met p h.legal.type_rules) premises.local

  decls-known : AllByRecursion Place (decls_sites (first_scope p.name) p.decls)
  decls-known =
      all_back Place (names_sites true before_all (p.name ∷ [])) (decls_sites (first_scope p.name) p.decls)
      (all_front Place (names_sites true before_all (p.name ∷ []) ++ decls_sites (first_scope p.name) p.decls) (body_sites main_scope p.body) all-places)

  body-known : AllByRecursion Place (body_sites main_scope p.body)
  body-known = all_back Place (names_sites true before_all (p.name ∷ []) ++ decls_sites (first_scope p.name) p.decls) (body_sites main_scope p.body) all-places

  abbrev decls_checks : List CheckSite
  decls_checks = checks.decls_sites (checks.around_program p) (checks.body_names p.decls) p.decls

  abbrev body_checks : List CheckSite
  body_checks = checks.body_sites main_around 1 p.body

  first-checked : AllByRecursion Checked (decls_checks ++ body_checks)
  first-checked = all_front Checked (decls_checks ++ body_checks) (checks.counted_sites (checks.around_program p) p) (all_check_met p mode.Original h.legal.check_rules).1

  -- ---- the tasks

  at-first : MainSeen p T [] p.decls (first_scope p.name) (checks.around_program p)
  at-first = first-seen p T (declared_once p h.legal.type_rules).0

  at-last : (kinds : List PTask) × MainSeen p T kinds no_decl (after_decls (first_scope p.name) p.decls) main_around
  at-last = (_, decls-step p T p.decls [] (first_scope p.name) (checks.around_program p) (objects-apart p T p.decls (first_scope p.name) (met _ decls-known)) premises.ranged (declared_once p h.legal.type_rules).1 at-first)

  -- ---- what is known

  -- an accept stands in no body of main
  no-accept : (s : Scope) (c : CheckScope) (x : PHead) → PlaceSeen p T None s c → accept_place c (check.accepts x) ≡ [] → ⊥
  no-accept s c x seen e =
      true≢false
      (sym (or_left (not (is_own_entry c.own x.entry.name)) (is_among c.accepting x.entry.name) (ap (λ o. not (is_own_entry o x.entry.name)) seen.own))
      ∙ no-place (not (is_own_entry c.own x.entry.name) || is_among c.accepting x.entry.name) x.span e)

  -- calls and callees are known, and the task of that number accepts only beside main
  abbrev pub asked : ℕ → Asked
  asked t = record { programs = b; call = IsKnownCall (g p T); callee = IsKnownCallee (g p T); head = λ x. 0 < t; wait = HasAccept }

  abbrev seen_by : Option PTask → Known
  seen_by who = record { place = Place; check_place = Checked; scopes = λ s c. PlaceSeen p T who s c × Typed s }

  gives : (who : Option PTask) (t : ℕ) → ((s : Scope) (c : CheckScope) (x : PHead) → PlaceSeen p T who s c → accept_place c (check.accepts x) ≡ [] → 0 < t) →
      Gives (asked t) (text_rules b.is_old) (seen_by who)
  gives who t heads = record {
    old = λ id m. m;
    free = λ s w m. (m.1 w refl).0;
    mark = λ s c w k m. premises.typed.typing.mark s w k.1 m.0;
    callee = λ s c n x k every at checked. callee-is-known p T Typed premises.typed.typing known typed-tasks s x (callee-known p T Typed premises.typed.typing who s c n x k.1 k.0 (met (callee_sites s x) at) checked);
    call = λ s c n x k every old at checked. call-is-known p T Typed premises.typed.typing known typed-tasks s x
        (callee-known p T Typed premises.typed.typing who s c n x.task k.1 k.0 (met (callee_sites s x.task) (all_front Place (callee_sites s x.task) _ at))
        (all_front Checked (checks.callee_sites c n x.task) (checks.if_there (checks.args_sites c n) x.args) checked))
        (met (call_sites s x) at);
    head = λ s c n x k every at checked. heads s c x k.0 checked.1.0.accepts;
    wait = λ c x others s checked. has-accept x others s checked.selects;
    in_accept = λ s c n x k at checked. (accept-seen p T who s c x k.0, premises.typed.accept s x k.1 at);
    handling = λ s c k. (handling-seen p T who s c k.0, k.1);
    looping = λ s c w x k at. (loop-seen p T who s c w x k.0, premises.typed.loop s x k.1 at);
  }

  main-text : OldBody (asked 0) p.body
  main-text =
      body-as-asked (asked 0) (text_rules b.is_old) (seen_by None) (gives None 0 (λ s c x seen e. absurd (no-accept s c x seen e))) p.body main_scope main_around 1
      (main-seen p T at-last.0 _ main_around at-last.1, premises.typed.main) premises.body_old body-known (all_back Checked decls_checks body_checks first-checked)

  task-text : (t : ℕ) (name : NameId) → 0 < t → OldBody (asked t) (unit_among p.decls name).body
  task-text t name more =
      by_body _
      (bodies-found p T Place Checked (text_rules b.is_old) Typed p.decls [] (first_scope p.name) (checks.around_program p) (checks.body_names p.decls) name (λ z m. m.0)
      (objects-apart p T p.decls (first_scope p.name) (met _ decls-known)) premises.ranged (declared_once p h.legal.type_rules).1 at-first premises.typed.bodies premises.decls_old decls-known
      (all_front Checked decls_checks body_checks first-checked))
    where
      by_body : (its : PBody) → BodyFound p T Place Checked (text_rules b.is_old) Typed name its → OldBody (asked t) its
      by_body its nothing_found = old_body no_stmt no_handler old_no_stmt old_no_handler
      by_body its (body_found _ at) =
          body-as-asked (asked t) (text_rules b.is_old) (seen_by (Some at.seen.task)) (gives (Some at.seen.task) t (λ s c x seen e. more)) its at.scope at.around 1 (at.seen.seen, at.typed) at.every at.places at.check_places

  by-info : (t : ℕ) (o : Option TaskInfo) → 0 < t → OldBody (asked t) (unit_of_info p o).body
  by-info t None more = old_body no_stmt no_handler old_no_stmt old_no_handler
  by-info t (Some info) more = task-text t info.unit more

  -- the unit of each task
  pub unit-text : (t : ℕ) → OldBody (asked t) (unit_of p (numbers_of p) t).body
  unit-text zero = main-text
  unit-text (suc k) =
      let more : 0 < suc k = omega arith in
      subst (λ (c : Bool). OldBody (asked (suc k)) (if c then record { in_main = true; decls = p.decls; body = p.body } else unit_of_info p (task_at (numbers_of p) (suc k))).body)
      (sym (ne_eqb (suc k) 0 (λ e. omega (arith, e)))) (by-info (suc k) (task_at (numbers_of p) (suc k)) more)

  -- ---- the places of each unit

  -- what the rules 13 to 23 ask holds at the places of the body
  pub record IsChecked (x : PBody) : Type 0 where
    pub around : CheckScope
    pub at : AllByRecursion Checked (checks.body_sites around 1 x)

  no-body : IsChecked (body no_stmt no_handler)
  no-body = record { around = main_around; at = tt }

  task-checked : (name : NameId) → IsChecked (unit_among p.decls name).body
  task-checked name =
      by_body _
      (bodies-found p T Place Checked (text_rules b.is_old) Typed p.decls [] (first_scope p.name) (checks.around_program p) (checks.body_names p.decls) name (λ z m. m.0)
      (objects-apart p T p.decls (first_scope p.name) (met _ decls-known)) premises.ranged (declared_once p h.legal.type_rules).1 at-first premises.typed.bodies premises.decls_old decls-known
      (all_front Checked decls_checks body_checks first-checked))
    where
      by_body : (its : PBody) → BodyFound p T Place Checked (text_rules b.is_old) Typed name its → IsChecked its
      by_body its nothing_found = no-body
      by_body its (body_found _ at) = record { around = at.around; at = at.check_places }

  info-checked : (o : Option TaskInfo) → IsChecked (unit_of_info p o).body
  info-checked None = no-body
  info-checked (Some info) = task-checked info.unit

  pub unit-checked : (t : ℕ) → IsChecked (unit_of p (numbers_of p) t).body
  unit-checked zero = record { around = main_around; at = all_back Checked decls_checks body_checks first-checked }
  unit-checked (suc k) =
      subst (λ (c : Bool). IsChecked (if c then record { in_main = true; decls = p.decls; body = p.body } else unit_of_info p (task_at (numbers_of p) (suc k))).body)
      (sym (ne_eqb (suc k) 0 (λ e. omega (arith, e)))) (info-checked (task_at (numbers_of p) (suc k)))
