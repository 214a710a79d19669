-- The statements of each unit of a legal program are as the law of normal forms asks.
use Rattle.std.proofs.Common.{◌+◌, IfSome, ◌≡◌, ℕ, zero, suc, ◌<◌, Bool, true, false, ◌==◌, ◌||◌, not, if◌then◌else◌, List, [], ◌∷◌, ◌++◌, length, map, slice_get, unwrap_or, Option, Some, None, refl, sym, ap, ◌∙◌, subst, true≢false, arith}
use Rattle.std.specs.List.{AllByRecursion}
use Rattle.std.proofs.lemmas.Bool.{or_left, eq-eqb, eqb-true}
use Rattle.std.proofs.lemmas.List.{append-nil}
use Rattle.ada_tree.specs.declared.naming.NameId.{NameId}
use Rattle.ada_tree.specs.declared.naming.Span.{Span}
use Rattle.ada_tree.specs.declared.naming.Word.{Word}
use Rattle.ada_tree.specs.TypeTable.{TypeTable}
use Rattle.ada_tree.specs.PlainStmt.{PCallee, PCall, PHead, PScheme, PBody, no_stmt, PAlts, no_alt, alt_then, no_handler}
use Rattle.ada_tree.specs.PlainDecl.{PTask, no_decl}
use Rattle.ada_tree.specs.PlainProgram.{PProgram}
use Rattle.ada_tree.specs.Every.{Rules, no_rules, EveryExpr, EveryCallee, EveryCall, EveryHead, EveryBody, EveryDecls}
use Rattle.ada_static_rules.specs.Scope.{Scope}
use Rattle.ada_static_rules.specs.StaticValue.{mark_named}
use Rattle.ada_static_rules.specs.Demand.{declares, Site}
use Rattle.ada_static_rules.specs.Sites.{if_there, names_sites, callee_sites, call_sites, head_sites, scheme_sites, loop_scope, body_sites, decls_sites, sites}
use Rattle.ada_static_rules.specs.Declaring.{before_all, first_scope, inner_scope, after_decls, with_formals}
use Rattle.ada_static_rules.specs.Refusals.{MeetsTypeRules, types_in}
use Rattle.syn_event.specs.declared.numbering.Mode.TheVariants as mode
use Rattle.syn_event.specs.declared.numbering.TaskInfo.{TaskInfo}
use Rattle.syn_event.specs.CheckScope.{CheckScope, CheckSite}
use Rattle.syn_event.specs.CheckScope as check
use Rattle.syn_event.specs.CheckSites as checks
use Rattle.syn_event.specs.CheckRefusals.{MeetsCheckRules}
use Rattle.syn_event.specs.RuleAcceptPlace.{accept_place, is_own_entry, is_among}
use Rattle.syn_event.specs.RuleSelectForm.{alt_kinds, is_malformed}
use Rattle.syn_event.specs.DeclaredTasks.{tasks_of}
use Rattle.syn_event.specs.NamedTasks.{NamedTasks, task_names_of, NumberedTask, numbered_tasks}
use Rattle.syn_event.specs.AllNumbers.{info_of_task}
use Rattle.task_model.specs.Setting.{Setting}
use Rattle.task_model.specs.Starting.{unit_among}
use Rattle.normal_model.specs.NormalTree.{first_running}
use Rattle.task_laws.proofs.legal.rewritten_types.Lookups.{find-all, place-all}
use Rattle.task_laws.proofs.legal.rewritten_types.Refused.{declared_once}
use Rattle.task_laws.specs.legal.rewritten_values.Values.{is_known}
use Rattle.ada_value.specs.StaticLaw.{HasSmallLiterals}
use Rattle.ada_tree.specs.Lexical.{IsInteger}
use Rattle.ada_tree.specs.PlainExpr.{PExpr, EInteger, EName, EIndex, EAttribute, EAttributeOf, EParen, EUnary, EBinary}
use Rattle.task_laws.specs.translation.Translations.{Programs}
use Rattle.task_laws.specs.translation.OldTexts.{Asked, OldCall, OldBody, old_body, old_no_stmt, old_no_handler}
use Rattle.normal_laws.specs.runs.floors.Suited.{IsCallee, IsCall, IsHead, HasAlternative, has_alternative}
use Rattle.task_laws.specs.legal.sites.Met.{IsMet, IsCheckMet}
use Rattle.task_laws.proofs.legal.sites.Meeting.{all_met, all_check_met}
use Rattle.normal_laws.specs.existence.inner.Gives.{Known, Gives}
use Rattle.normal_laws.proofs.existence.walked_statements.Walk.{body-as-asked}
use Rattle.normal_laws.proofs.structure.entries.Lists.{found-place}
use Rattle.normal_laws.proofs.existence.seen_tasks.Finding.{no-place}
use Rattle.normal_laws.proofs.structure.entries.Entries.{numbers, g, IsTaskOf}
use Rattle.normal_laws.proofs.existence.seen_tasks.Parts.{AreRanged, IsUnit, MainSeen, is_called, AtMostOnce}
use Rattle.normal_laws.proofs.existence.seen_tasks.Bodies.{PlaceSeen, first-seen, decls-step, main-seen, accept-seen, handling-seen, loop-seen}
use Rattle.normal_laws.proofs.existence.seen_tasks.Units.{objects-apart, BodiesTyped, BodyFound, nothing_found, body_found, bodies-found}
use Rattle.normal_laws.proofs.existence.seen_tasks.Tasks.{PartsKnown, mapped-place, numbered-tasks-units, one-unit}
use Rattle.normal_laws.proofs.existence.statement_forms.Typed.{Typing}
use Rattle.normal_laws.proofs.existence.statement_forms.AcceptsAsked.{head-asked}
use Rattle.normal_laws.proofs.existence.statement_forms.Callees.{callee-known}
use Rattle.normal_laws.proofs.existence.statement_forms.CalleesAsked.{CalleesKnown, callee-asked}
use Rattle.normal_laws.proofs.existence.statement_forms.Calls.{call-asked}
use Rattle.common_lemmas.proofs.Lists.{all_back, all_front, all_weaker, found_passes, found_some, not_empty}
use Rattle.common_lemmas.proofs.Options.{some_same}

-- a selective wait of a right form has an alternative
has-alternative : (x : PAlts) (others : Bool) (s : Span) → (if is_malformed (alt_kinds x) others then s ∷ [] else []) ≡ [] → HasAlternative x
has-alternative no_alt others s e = absurd (not_empty s [] e)
has-alternative (alt_then x rest) others s e = has_alternative x rest

-- each name is the original's, and each integer literal a number of INTEGER
abbrev pub text_rules : (ℕ → Bool) → Rules
text_rules is_old = record no_rules { name = λ id. is_old id.0 ≡ true; integer = IsInteger }

small-literals : (is_old : ℕ → Bool) (e : PExpr) (k : ℕ) → EveryExpr (text_rules is_old) k e → HasSmallLiterals e
small-literals is_old (EInteger n s) k h = h.1
small-literals is_old (EName id s) k h = tt
small-literals is_old (EIndex w e s) k h = small-literals is_old e (k + 1) h.2
small-literals is_old (EAttribute m w s) k h = tt
small-literals is_old (EAttributeOf m w e s) k h = small-literals is_old e (k + 1) h.3
small-literals is_old (EParen e s) k h = small-literals is_old e (k + 1) h.1
small-literals is_old (EUnary op e s) k h = small-literals is_old e (k + 1) h.2
small-literals is_old (EBinary op l r s) k h = (small-literals is_old l (k + 1) h.2, small-literals is_old r (k + 1) h.3)

-- an index that may stand there
small-index : (is_old : ℕ → Bool) (o : Option PExpr) (k : ℕ) → IfSome o (EveryExpr (text_rules is_old) k) → (e : PExpr) → o ≡ Some e → HasSmallLiterals e
small-index is_old o k h e q = small-literals is_old e k (subst (λ x. IfSome x (EveryExpr (text_rules is_old) k)) q h)

-- a name that an inner scope declares is that of no constant, of no literal and of no type
abbrev pub IsLocal : TypeTable → (ℕ → Bool) → Site → Type 0
IsLocal T is_fixed x = (w : Word) → x.demand ≡ declares false w → (is_fixed w.name.0 ≡ false) × (mark_named T w.name ≡ None)

-- what is known of each place
abbrev pub IsKnownPlace : TypeTable → (ℕ → Bool) → Site → Type 0
IsKnownPlace T is_fixed x = IsMet x × IsLocal T is_fixed x

module _ (p : PProgram) (made : Setting) (is_old is_fixed : ℕ → Bool) (Typed : Scope → Type 0) where
  abbrev T : TypeTable
  T = types_in p

  abbrev b : Programs
  b = record { original = g p T; made = made; is_old = is_old; is_fixed = is_fixed; is_known = is_known T }

  -- The scopes in bodies are typed: where a body begins, in accepts and in loops.
  pub record AreTyped : Type 0 where
    pub typing : Typing T Typed
    pub accept : (s : Scope) (h : PHead) → Typed s → AllByRecursion (IsKnownPlace T is_fixed) (head_sites s h) → Typed (with_formals (inner_scope s) h.formals)
    pub loop : (s : Scope) (x : Option PScheme) → Typed s → AllByRecursion (IsKnownPlace T is_fixed) (if_there (scheme_sites s) x) → Typed (loop_scope s x)
    pub main : Typed (inner_scope (after_decls (first_scope p.name) p.decls))
    pub bodies : BodiesTyped p T (IsKnownPlace T is_fixed) (IsCheckMet mode.Original p.names) (text_rules is_old) Typed (first_scope p.name) p.decls

  -- What is asked beside the static rules.
  pub record TextPremises : Type 0 where
    pub types : MeetsTypeRules p
    pub checks : MeetsCheckRules p mode.Original
    pub decls_old : EveryDecls (text_rules is_old) p.decls
    pub body_old : EveryBody (text_rules is_old) 1 p.body
    pub local : AllByRecursion (IsLocal T is_fixed) (sites p)
    pub typed : AreTyped
    pub ranged : AreRanged T (first_scope p.name) p.decls
    pub tell : AllByRecursion (λ (x : TaskInfo). AllByRecursion (λ (y : TaskInfo). x.name.0 ≡ y.name.0 → x.unit.0 ≡ y.unit.0) (map (info_of_task p.names) (numbered_tasks T p))) (map (info_of_task p.names) (numbered_tasks T p))

  module _ (h : TextPremises) where
    abbrev Place : Site → Type 0
    Place = IsKnownPlace T is_fixed

    abbrev Checked : CheckSite → Type 0
    Checked = IsCheckMet mode.Original p.names

    both-all : (xs : List Site) → AllByRecursion IsMet xs → AllByRecursion (IsLocal T is_fixed) xs → AllByRecursion Place xs
    both-all [] m l = tt
    both-all (x ∷ xs) m l = ((m.0, l.0), both-all xs m.1 l.1)

    met : (xs : List Site) → AllByRecursion Place xs → AllByRecursion IsMet xs
    met xs at = all_weaker Place IsMet xs (λ x m. m.0) at

    -- ---- the places of the program

    all-places-known : AllByRecursion Place (sites p)
    all-places-known = both-all (sites p) (all_met p h.types) h.local

    all-checked : AllByRecursion Checked (checks.check_sites p)
    all-checked = all_check_met p mode.Original h.checks

    abbrev main_scope : Scope
    main_scope = inner_scope (after_decls (first_scope p.name) p.decls)

    abbrev main_around : CheckScope
    main_around = checks.after_decls (checks.around_program p) p.decls

    decls-known : AllByRecursion Place (decls_sites (first_scope p.name) p.decls)
    decls-known =
        all_back Place (names_sites true before_all (p.name ∷ [])) (decls_sites (first_scope p.name) p.decls)
        (all_front Place (names_sites true before_all (p.name ∷ []) ++ decls_sites (first_scope p.name) p.decls) (body_sites main_scope p.body) all-places-known)

    body-known : AllByRecursion Place (body_sites main_scope p.body)
    body-known = all_back Place (names_sites true before_all (p.name ∷ []) ++ decls_sites (first_scope p.name) p.decls) (body_sites main_scope p.body) all-places-known

    abbrev decls_checks : List CheckSite
    decls_checks = checks.decls_sites (checks.around_program p) (checks.body_names p.decls) p.decls

    abbrev body_checks : List CheckSite
    body_checks = checks.body_sites main_around 1 p.body

    decls-checked : AllByRecursion Checked decls_checks
    decls-checked = all_front Checked decls_checks body_checks (all_front Checked (decls_checks ++ body_checks) (checks.counted_sites (checks.around_program p) p) all-checked.1)

    body-checked : AllByRecursion Checked body_checks
    body-checked = all_back Checked decls_checks body_checks (all_front Checked (decls_checks ++ body_checks) (checks.counted_sites (checks.around_program p) p) all-checked.1)

    -- ---- the tasks

    at-first : MainSeen p T [] p.decls (first_scope p.name) (checks.around_program p)
    at-first = first-seen p T (declared_once p h.types).0

    at-last : (kinds : List PTask) × MainSeen p T kinds no_decl (after_decls (first_scope p.name) p.decls) main_around
    at-last = (_, decls-step p T p.decls [] (first_scope p.name) (checks.around_program p) (objects-apart p T p.decls (first_scope p.name) (met _ decls-known)) h.ranged (declared_once p h.types).1 at-first)

    all-parts : task_names_of p ≡ at-last.1.done
    all-parts = at-last.1.parts ∙ append-nil at-last.1.done

    pub parts-known : PartsKnown p T
    parts-known = record {
      units = subst (AllByRecursion (λ (x : NamedTasks). IsUnit p T x.unit)) (sym all-parts) at-last.1.parts_units;
      apart = subst (AllByRecursion (λ (x : NamedTasks). (p.name.name.0 == x.name.name.0) ≡ false)) (sym all-parts) at-last.1.apart;
      once = λ id. subst (AtMostOnce (is_called id)) (sym all-parts) (at-last.1.once id);
      tell = h.tell;
    }

    tasks-apart : AllByRecursion (λ (t : PTask). (p.name.name.0 == t.name.name.0) ≡ false) (tasks_of p)
    tasks-apart = subst (AllByRecursion (λ (t : PTask). (p.name.name.0 == t.name.name.0) ≡ false)) (sym (at-last.1.tasks ∙ append-nil at-last.1.before)) at-last.1.tasks_apart

    -- ---- what is asked

    module _ (facts : CalleesKnown p T Typed h.typed.typing made is_old is_fixed (is_known T) parts-known) where
      callee-is : (who : Option PTask) (s : Scope) (c : CheckScope) (n : ℕ) (x : PCallee) → PlaceSeen p T who s c → Typed s → EveryCallee (text_rules is_old) n x → AllByRecursion Place (callee_sites s x) → AllByRecursion Checked (checks.callee_sites c n x) → IsCallee b x
      callee-is who s c n x seen typed every at checked =
          callee-asked p T Typed h.typed.typing made is_old is_fixed (is_known T) parts-known facts s x (callee-known p T Typed h.typed.typing who s c n x typed seen (met (callee_sites s x) at) checked) typed (small-index is_old x.index n every.1) (met (callee_sites s x) at)

      call-is : (who : Option PTask) (s : Scope) (c : CheckScope) (n : ℕ) (x : PCall) → PlaceSeen p T who s c → Typed s → EveryCall (text_rules is_old) n x → OldCall b x → AllByRecursion Place (call_sites s x) → AllByRecursion Checked (checks.call_sites c n x) → IsCall b x
      call-is who s c n x seen typed every old at checked =
          let callee_at = all_front Place (callee_sites s x.task) _ at in
          let callee_checked = all_front Checked (checks.callee_sites c n x.task) (checks.if_there (checks.args_sites c n) x.args) checked in
          call-asked p T Typed h.typed.typing made is_old is_fixed (is_known T) parts-known s x
          (callee-known p T Typed h.typed.typing who s c n x.task typed seen (met (callee_sites s x.task) callee_at) callee_checked) old (met (call_sites s x) at)
          (callee-is who s c n x.task seen typed every.0 callee_at callee_checked)

      -- an accept stands in no body of main
      no-accept : (s : Scope) (c : CheckScope) (x : PHead) → PlaceSeen p T None s c → accept_place c (check.accepts x) ≡ [] → ⊥
      no-accept s c x seen e =
          true≢false
          (sym (or_left (not (is_own_entry c.own x.entry.name)) (is_among c.accepting x.entry.name) (ap (λ o. not (is_own_entry o x.entry.name)) seen.own))
          ∙ no-place (not (is_own_entry c.own x.entry.name) || is_among c.accepting x.entry.name) x.span e)

      abbrev asked : ℕ → ℕ → Asked
      asked first number = record { programs = b; call = IsCall b; callee = IsCallee b; head = IsHead b first number; wait = HasAlternative }

      abbrev known : Option PTask → Known
      known who = record { place = Place; check_place = Checked; scopes = λ s c. PlaceSeen p T who s c × Typed s }

      gives : (who : Option PTask) (first number : ℕ) → ((s : Scope) (c : CheckScope) (n : ℕ) (x : PHead) → PlaceSeen p T who s c → Typed s → EveryHead (text_rules is_old) n x → AllByRecursion Place (head_sites s x) → AllByRecursion Checked (checks.head_sites c n x) → IsHead b first number x) →
          Gives (asked first number) (text_rules is_old) (known who)
      gives who first number heads = record {
        old = λ id m. m;
        free = λ s w m. (m.1 w refl).0;
        mark = λ s c w k m. h.typed.typing.mark s w k.1 m.0;
        callee = λ s c n x k every at checked. callee-is who s c n x k.0 k.1 every at checked;
        call = λ s c n x k every old at checked. call-is who s c n x k.0 k.1 every old at checked;
        head = λ s c n x k every at checked. heads s c n x k.0 k.1 every at checked;
        wait = λ c x others t checked. has-alternative x others t checked.selects;
        in_accept = λ s c n x k at checked. (accept-seen p T who s c x k.0, h.typed.accept s x k.1 at);
        handling = λ s c k. (handling-seen p T who s c k.0, k.1);
        looping = λ s c w x k at. (loop-seen p T who s c w x k.0, h.typed.loop s x k.1 at);
      }

      -- main
      pub main-text : (first number : ℕ) → OldBody (asked first number) p.body
      main-text first number =
          body-as-asked (asked first number) (text_rules is_old) (known None) (gives None first number (λ s c n x seen typed every at checked. absurd (no-accept s c x seen checked.1.0.accepts)))
          p.body main_scope main_around 1 (main-seen p T at-last.0 _ main_around at-last.1, h.typed.main) h.body_old body-known body-checked

      -- a task: the numbered task of its number, and that of the first task that runs its body
      pub task-text : (first number : ℕ) (x y : NumberedTask) → IsTaskOf p T first x → IsTaskOf p T number y → x.unit ≡ y.unit → OldBody (asked first number) (unit_among p.decls y.unit.name.name).body
      task-text first number x y is runs same =
          by_body _ (bodies-found p T Place Checked (text_rules is_old) Typed p.decls [] (first_scope p.name) (checks.around_program p) (checks.body_names p.decls) y.unit.name.name (λ z m. m.0)
          (objects-apart p T p.decls (first_scope p.name) (met _ decls-known)) h.ranged (declared_once p h.types).1 at-first h.typed.bodies h.decls_old decls-known decls-checked)
        where
          by_body : (its : PBody) → BodyFound p T Place Checked (text_rules is_old) Typed y.unit.name.name its → OldBody (asked first number) its
          by_body its nothing_found = old_body no_stmt no_handler old_no_stmt old_no_handler
          by_body its (body_found _ at) =
              let own : IsUnit p T at.seen.task = at.seen.seen.own.0.unit in
              let it : y.unit ≡ at.seen.task = one-unit p T parts-known y.unit at.seen.task runs.unit own (sym (at.seen.named ∙ at.called)) in
              body-as-asked (asked first number) (text_rules is_old) (known (Some at.seen.task))
              (gives (Some at.seen.task) first number (λ s c n z seen typed every places checked.
              head-asked p T Typed h.typed.typing made is_old is_fixed (is_known T) at.seen.task s c n z typed (small-index is_old z.index (n + 1) every.1) seen (met (head_sites s z) places) checked first number x y is (same ∙ it) runs it))
              its at.scope at.around 1 (at.seen.seen, at.typed) at.every at.places at.check_places

      -- ---- the first task that runs a body

      at-some : (xs : List TaskInfo) (k : ℕ) → k < length xs → (x : TaskInfo) × (slice_get xs k ≡ Some x)
      at-some [] k l = absurd (omega (arith, l))
      at-some (x ∷ xs) zero l = (x, refl)
      at-some (x ∷ xs) (suc k) l = at-some xs k (omega (arith, l))

      -- the first task of a unit is one beside main
      unit-there : (m : ℕ) (info : TaskInfo) (t : PTask) → IsUnit p T t → slice_get (numbers p T).tasks m ≡ Some info → (info.unit.0 == t.name.name.0) ≡ true → (x : NumberedTask) × IsTaskOf p T m x × (x.unit ≡ t)
      unit-there zero info t unit e f =
          absurd (true≢false (sym (ap (λ (i : TaskInfo). i.unit.0 == t.name.name.0) (some_same e) ∙ f) ∙ find-all (λ (u : PTask). (p.name.name.0 == u.name.name.0) ≡ false) (λ (u : PTask). u.name.name.0 == t.name.name.0) (tasks_of p) t tasks-apart unit))
      unit-there (suc k) info t unit e f =
          let x = mapped-place p T parts-known (numbered_tasks T p) k info e in
          let own : IsUnit p T x.0.unit = place-all (λ (y : NumberedTask). IsUnit p T y.unit) (numbered_tasks T p) k x.0 (numbered-tasks-units p T parts-known) x.1 in
          let named : x.0.unit.name.name.0 ≡ t.name.name.0 = ap (λ (i : TaskInfo). i.unit.0) (sym x.2) ∙ eqb-true info.unit.0 t.name.name.0 f in
          (x.0, record { place = k; number = refl; numbered_task = x.1; unit = own }, one-unit p T parts-known x.0.unit t own unit named)

      -- a task beside main, with the first that runs its body
      pub record IsBeside (k : ℕ) : Type 0 where
        pub info : TaskInfo
        pub at : slice_get (numbers p T).tasks (suc k) ≡ Some info
        pub numbered_task : NumberedTask
        pub unit : info.unit ≡ numbered_task.unit.name.name
        pub text : OldBody (asked (first_running (g p T) info.unit) (suc k)) (unit_among p.decls info.unit).body

      pub beside-text : (k : ℕ) → suc k < length (numbers p T).tasks → IsBeside k
      beside-text k l =
          let info = at-some (numbers p T).tasks (suc k) l in
          let x = mapped-place p T parts-known (numbered_tasks T p) k info.0 info.1 in
          let own : IsUnit p T x.0.unit = place-all (λ (y : NumberedTask). IsUnit p T y.unit) (numbered_tasks T p) k x.0 (numbered-tasks-units p T parts-known) x.1 in
          let runs : IsTaskOf p T (suc k) x.0 = record { place = k; number = refl; numbered_task = x.1; unit = own } in
          let runs_it : TaskInfo → Bool = λ i. i.unit.0 == info.0.unit.0 in
          let some = found_some runs_it (numbers p T).tasks (suc k) info.0 info.1 (eq-eqb info.0.unit.0 info.0.unit.0 refl) in
          let place = found-place runs_it (numbers p T).tasks some.0 some.1 in
          let unit : info.0.unit ≡ x.0.unit.name.name = ap (λ (i : TaskInfo). i.unit) x.2 in
          let passes : (some.0.unit.0 == x.0.unit.name.name.0) ≡ true = subst (λ (n : NameId). (some.0.unit.0 == n.0) ≡ true) unit (found_passes runs_it (numbers p T).tasks some.0 some.1) in
          let first = unit-there place.0 some.0 x.0.unit own place.1 passes in
          let number : first_running (g p T) info.0.unit ≡ place.0 = ap (λ o. unwrap_or o 0) place.2 in
          record {
            info = info.0;
            at = info.1;
            numbered_task = x.0;
            unit = unit;
            text = subst (λ (n : NameId). OldBody (asked (first_running (g p T) info.0.unit) (suc k)) (unit_among p.decls n).body) (sym unit)
                (subst (λ m. OldBody (asked m (suc k)) (unit_among p.decls x.0.unit.name.name).body) (sym number) (task-text place.0 (suc k) first.0 x.0 first.1 runs first.2));
          }
