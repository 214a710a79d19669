-- What is known of calls, accepts and waits of a legal program, of which its normal form makes formed ones: the entries that are named are in the
-- numbers, and an index that stays has a value.
use Rattle.std.proofs.Common.{◌≡◌, ℕ, ℤ, suc, ◌+◌, ◌≤◌, Bool, true, false, if◌then◌else◌, List, [], ◌∷◌, length, slice_get, option_map, unwrap_or, Option, Some, None, Ok, Err, IfSome, refl, sym, ap, subst, ◌∙◌, arith, true≢false}
use Rattle.std.specs.List.{AllByRecursion}
use Rattle.std.proofs.lemmas.Option.{none-some}
use Rattle.common_lemmas.proofs.Lists.{all_front, all_back, all_joined, all_weaker}
use Rattle.ada_tree.specs.declared.naming.NameId.{NameId}
use Rattle.ada_tree.specs.declared.naming.Span.{Span}
use Rattle.ada_tree.specs.declared.naming.Word.{Word}
use Rattle.ada_tree.specs.TypeTable.{TypeTable}
use Rattle.ada_tree.specs.Every.{EveryExpr, EveryCallee, EveryCall, EveryHead, alts_count}
use Rattle.ada_tree.specs.WellPlaced.{well_placed}
use Rattle.ada_tree.specs.PlainExpr.{PExpr}
use Rattle.ada_tree.specs.PlainStmt.{PCallee, PCall, PHead, PBody}
use Rattle.ada_tree.specs.PlainDecl.{PEntry, PTask}
use Rattle.ada_tree.specs.PlainProgram.{PProgram}
use Rattle.ada_static_rules.specs.Refusals.{types_in}
use Rattle.ada_static_rules.specs.Demand.{labels, calls, must_lie_in, Site}
use Rattle.ada_static_rules.specs.Scope.{Scope, Family, single, family, unclear, EntryPart, entry_named as part_named, meaning}
use Rattle.ada_static_rules.specs.Declaring.{entry_part}
use Rattle.ada_static_rules.specs.Sites.{site, if_there, expr_sites, expr_of, callee_sites, call_sites, args_sites, accept_index_sites, head_sites, formals_sites, scheme_sites}
use Rattle.ada_static_rules.specs.StaticValue.{is_integer_value, is_static}
use Rattle.ada_static_rules.specs.RuleUnknown.{missing}
use Rattle.ada_static_rules.specs.RuleArgCount.{called_entry}
use Rattle.ada_value.specs.declared.values.Value.{Value}
use Rattle.ada_value.specs.declared.values.Limits.{Limits}
use Rattle.ada_value.specs.declared.values.Raised.TheVariants as raised
use Rattle.ada_value.specs.Values.{and_then, position_of, lies_in}
use Rattle.ada_value.specs.Evaluating.{evaluated}
use Rattle.ada_value.specs.StaticLaw.{HasSmallLiterals}
use Rattle.syn_event.specs.declared.numbering.Mode.TheVariants.{Original}
use Rattle.syn_event.specs.declared.numbering.TaskInfo.{TaskInfo}
use Rattle.syn_event.specs.CheckScope.{CheckScope, CheckSite}
use Rattle.syn_event.specs.CheckSites as check
use Rattle.syn_event.specs.NamedTasks.{NumberedTask, numbered_tasks}
use Rattle.syn_event.specs.Numbering.{entry_at}
use Rattle.task_model.specs.Setting.{Setting, entry_of, family_limits, index_in, member_index}
use Rattle.task_laws.specs.legal.sites.Met.{IsMet, IsCheckMet}
use Rattle.task_laws.proofs.legal.types.MainScopes.{StandsWhole}
use Rattle.task_laws.proofs.legal.types.BodyScopes.{expr-worth}
use Rattle.task_laws.proofs.legal.types.StaticWorth.{small-literals}
use Rattle.normal_laws.proofs.structure.entries.Entries.{entry_in, IsTaskOf, HasEntry, entry-there}
use Rattle.task_laws.proofs.legal.rewritten_types.Lookups.{place-all}
use Rattle.task_laws.specs.legal.rewritten_values.Values.{is_known}
use Rattle.task_laws.specs.translation.Translations.{Programs}
use Rattle.task_laws.specs.translation.OldNames.{OldExpr}
use Rattle.task_laws.specs.legal.asked.Asked.{Asks, AskedBody}
use Rattle.task_laws.specs.legal.asked.Kinds.{no_asks, place_asks, type_asks, check_asks, both}
use Rattle.normal_model.specs.Making.{moving, variable}
use Rattle.normal_model.specs.Calls.{first_named}
use Rattle.normal_model.specs.NormalTree.{tasks_beside}
use Rattle.normal_laws.specs.runs.floors.Suited.{IsCallee, IsCall, IsHead}
use Rattle.normal_laws.specs.runs.runs.Premises.{programs_of}
use Rattle.normal_laws.specs.runs.forms.Normalisable.{numbers_of, setting_for, normal_rewrite}
use Rattle.normal_laws.proofs.structure.placed.Depth.{few-alternatives}
use Rattle.normal_laws.specs.structure.typed.ScopeOf.{AreTasksOf}
use Rattle.normal_laws.specs.existence.Laws.{IsLegalOriginal}
use Rattle.normal_laws.proofs.existence.seen_tasks.Parts.{IsUnit}
use Rattle.normal_laws.proofs.existence.seen_tasks.Bodies.{PlaceSeen, accept-seen, handling-seen, loop-seen}
use Rattle.normal_laws.proofs.existence.seen_tasks.Tasks.{PartsKnown, IsNumberedTask, mapped-place, numbered-tasks-units, same-units}
use Rattle.normal_laws.proofs.existence.statement_forms.Callees.{CalleeKnown, callee-known, callee-first, first-one, some-not}
use Rattle.normal_laws.proofs.existence.statement_forms.CalleesAsked.{CalleesKnown, callee-asked}
use Rattle.normal_laws.proofs.existence.statement_forms.Calls.{call-asked}
use Rattle.normal_laws.proofs.existence.statement_forms.OwnEntries.{entry-said, own-entry}
use Rattle.normal_laws.proofs.existence.statement_forms.AcceptsAsked.{unmoved-static, head-asked}
use Rattle.normal_laws.proofs.existence.statement_forms.Text.{text_rules, IsKnownPlace, TextPremises}
use Rattle.normal_laws.proofs.existence.walked_statements.Names.{expr-old, call-old}
use Rattle.normal_laws.proofs.existence.body_forms.Joined as joined
use Rattle.normal_laws.proofs.existence.body_forms.Fields as fields
use Rattle.normal_laws.proofs.legality.asked.Steps.{Steps, steps_asked}
use Rattle.normal_laws.proofs.legality.asked.Tasks as tasks
use Rattle.replay_structure.specs.typed.ScopeOf.{has_accept}
use Rattle.normal_laws.proofs.structure.types.Names.{added_names_are_new}
use Rattle.replay_structure.proofs.scopes.Waits.{wait-accepts}

module _ (p : PProgram) (h : IsLegalOriginal p) where
  abbrev T : TypeTable
  T = types_in p

  abbrev G : Setting
  G = setting_for p

  abbrev b : Programs
  b = programs_of (normal_rewrite p [])

  abbrev Place : Site → Type 0
  Place = IsKnownPlace T b.is_fixed

  abbrev Checked : CheckSite → Type 0
  Checked = IsCheckMet Original p.names

  abbrev pub text : TextPremises p b.made b.is_old b.is_fixed (StandsWhole T)
  text = tasks.text p (types_in p) (numbers_of p) h.legal h.placed h.names h.small

  abbrev pub parts : PartsKnown p T
  parts = tasks.known p (types_in p) (numbers_of p) h.legal h.placed h.names h.small

  facts : CalleesKnown p T (StandsWhole T) text.typed.typing b.made b.is_old b.is_fixed (is_known T) parts
  facts = joined.facts p (types_in p) (numbers_of p) h.legal h.placed h.names [] (StandsWhole T) (fields.premises p (types_in p) (numbers_of p) h.legal h.placed h.names h.small [])

  met : (xs : List Site) → AllByRecursion Place xs → AllByRecursion IsMet xs
  met xs m = all_weaker Place IsMet xs (λ x y. y.0) m

  -- the literals of an index that the source can hold are small
  small-index : (o : Option PExpr) (n : ℕ) → IfSome o (EveryExpr (well_placed p.names) n) → (e : PExpr) → o ≡ Some e → HasSmallLiterals e
  small-index o n every e q = small-literals p.names n e (subst (λ x. IfSome x (EveryExpr (well_placed p.names) n)) q every)

  -- ---- calls

  -- the places of a call behind those of its callee
  abbrev behind_callee : Scope → PCall → List Site
  behind_callee s x = site s (calls x) ∷ if_there (args_sites s (called_entry (meaning s x.task.name.name) x.entry.name)) x.args

  -- The call is as the law of normal forms asks, and each task that its callee's name stands for has an entry that is declared so.
  pub record IsCallKnown (x : PCall) : Type 0 where
    pub call : IsCall b x
    pub declared : PEntry
    pub first : HasEntry p T (first_named G x) x.entry.name declared
    pub each : (k : ℕ) (info : TaskInfo) → slice_get (tasks_beside G) k ≡ Some info → info.name ≡ x.task.name.name → HasEntry p T (suc k) x.entry.name declared

  module _ (who : Option PTask) (s : Scope) (c : CheckScope) (n : ℕ) (x : PCall) (seen : PlaceSeen p T who s c) (typed : StandsWhole T s) (placed : EveryCallee (well_placed p.names) n x.task) (every : EveryCall (text_rules b.is_old) n x) (at : AllByRecursion IsMet (call_sites s x))
      (checked : AllByRecursion Checked (check.callee_sites c n x.task)) where
    callee-at : AllByRecursion IsMet (callee_sites s x.task)
    callee-at = all_front IsMet (callee_sites s x.task) (behind_callee s x) at

    k : CalleeKnown p T s x.task
    k = callee-known p T (StandsWhole T) text.typed.typing who s c n x.task typed seen callee-at checked

    callee-is : IsCallee b x.task
    callee-is = callee-asked p T (StandsWhole T) text.typed.typing b.made b.is_old b.is_fixed (is_known T) parts facts s x.task k typed (small-index x.task.index n placed.1) callee-at

    -- the entry that is named is declared
    there : (o : Option EntryPart) → missing o x.entry ≡ [] → (e : EntryPart) × (o ≡ Some e)
    there (Some e) q = (e, refl)
    there None q = absurd (some-not _ _ q)

    mapped : (around : Scope) (o : Option PEntry) (e : EntryPart) → option_map (entry_part around) o ≡ Some e → (y : PEntry) × (o ≡ Some y)
    mapped around (Some y) e q = (y, refl)
    mapped around None e q = absurd (none-some e q)

    the-entry : (y : PEntry) × (entry_in k.stands.part.unit x.entry.name ≡ Some y)
    the-entry =
        let own = k.stands.own in
        let e = there (part_named k.entries x.entry.name) (sym (k.unknown x.entry) ∙ (all_back IsMet (callee_sites s x.task) (behind_callee s x) at).0.known) in
        mapped own.around (entry_in k.stands.part.unit x.entry.name) e.0
        (sym (entry-said p T (StandsWhole T) text.typed.typing own.around k.stands.part.unit k.entries x.entry.name own.entries) ∙ e.1)

    -- of each task of that unit
    of-unit : (t : ℕ) (y : NumberedTask) → IsTaskOf p T t y → y.unit ≡ k.stands.part.unit → HasEntry p T t x.entry.name the-entry.0
    of-unit t y is unit = entry-there p T t y x.entry.name the-entry.0 is (ap (λ u. entry_in u x.entry.name) unit ∙ the-entry.1)

    of-name : (j : ℕ) (info : TaskInfo) → slice_get (tasks_beside G) j ≡ Some info → info.name ≡ x.task.name.name → HasEntry p T (suc j) x.entry.name the-entry.0
    of-name j info q e =
        let first = callee-first p T s x.task k parts in
        let y = mapped-place p T parts (numbered_tasks T p) j info q in
        let is : IsTaskOf p T (suc j) y.0 = record { place = j; number = refl; numbered_task = y.1; unit = place-all (λ (z : NumberedTask). IsUnit p T z.unit) (numbered_tasks T p) j y.0 (numbered-tasks-units p T parts) y.1 } in
        let it : IsNumberedTask p T parts (suc j) info x.task.name.name = record { numbered_task = y.0; is = is; info = y.2; name = ap (λ (i : TaskInfo). i.name.0) (sym y.2) ∙ ap (λ (m : NameId). m.0) e } in
        of-unit (suc j) y.0 is (same-units p T parts (suc j) first.number info first.info x.task.name.name it first.is ∙ first.unit)

    call-known : IsCallKnown x
    call-known =
        let first = callee-first p T s x.task k parts in
        record {
          call = call-asked p T (StandsWhole T) text.typed.typing b.made b.is_old b.is_fixed (is_known T) parts s x k (call-old b (text_rules b.is_old) (λ id m. m) x n every) at callee-is;
          declared = the-entry.0;
          first = subst (λ m. HasEntry p T m x.entry.name the-entry.0) (sym (ap (λ o. unwrap_or o 0) first.named)) (let one = first-one p T s x.task k parts in of-unit first.number one.numbered_task one.is one.unit);
          each = of-name;
        }

  -- ---- accepts

  -- the range of the entry of a number
  abbrev limits_at : ℕ → Limits
  limits_at n = family_limits (entry_at (numbers_of p) n)

  -- An index that stays: it has a value in the range of the entry of that number.
  pub record IsStaticIndex (n : ℕ) (e : PExpr) : Type 0 where
    pub static : is_static T e ≡ true
    pub old : OldExpr b e
    pub value : Value
    pub worth : evaluated T [] e ≡ Ok value
    pub inside : lies_in (limits_at n) (position_of value) ≡ true
    pub fits : is_integer_value (position_of value) ≡ true

  -- The accept is as the law of normal forms asks, and its entry is one of the task of the number.
  pub record IsHeadKnown (first number : ℕ) (i : PHead) : Type 0 where
    pub beside : 1 ≤ number
    pub declared : PEntry
    pub has : HasEntry p T number i.entry.name declared
    pub head : IsHead b first number i
    pub static : (e : PExpr) → i.index ≡ Some e → moving T i.index ≡ None → IsStaticIndex (entry_of (numbers_of p) number i.entry.name) e

  -- the places of an index are those of its expression, and more
  index-sites : (s : Scope) (o : Option EntryPart) (e : PExpr) → AllByRecursion IsMet (accept_index_sites s o e) → AllByRecursion IsMet (expr_sites s e)
  index-sites s None e m = m
  index-sites s (Some part) e m = by_family part.family m
    where
      by_family : (f : Family) → AllByRecursion IsMet (accept_index_sites s (Some (record { name = part.name; family = f; formals = part.formals })) e) → AllByRecursion IsMet (expr_sites s e)
      by_family single n = n
      by_family unclear n = n
      by_family (family range) n = all_front IsMet (expr_sites s e) _ (all_front IsMet (expr_of s (Some range.kind) e) (site s (must_lie_in e (Some range)) ∷ []) n)

  inside-of : (limits : Limits) (y z : ℤ) → index_in limits y ≡ Ok z → lies_in limits y ≡ true
  inside-of limits y z q = by_test (lies_in limits y) refl q
    where
      by_test : (t : Bool) → lies_in limits y ≡ t → (if t then Ok y else Err raised.Constraint) ≡ Ok z → t ≡ true
      by_test true e f = refl
      by_test false e f = cc

  -- a static index that is in the range of an entry
  static-index : (s : Scope) (n k : ℕ) (i : PHead) (e : PExpr) → StandsWhole T s → EveryHead (well_placed p.names) k i → EveryHead (text_rules b.is_old) k i → AllByRecursion IsMet (head_sites s i) → i.index ≡ Some e → moving T i.index ≡ None →
      (z : ℤ) → member_index G [] n i.index ≡ Ok z → IsStaticIndex n e
  static-index s n k i e typed placed every at q m z member =
      let small : HasSmallLiterals e = small-index i.index (k + 1) placed.1 e q in
      let sites : AllByRecursion IsMet (expr_sites s e) = index-sites s (part_named s.own i.entry.name) e
      (subst (λ o. AllByRecursion IsMet (if_there (accept_index_sites s (part_named s.own i.entry.name)) o)) q (all_front IsMet (if_there (accept_index_sites s (part_named s.own i.entry.name)) i.index) (formals_sites s i.formals) at.1)) in
      let static : is_static T e ≡ true = unmoved-static T e (sym (ap (moving T) q) ∙ m) in
      let w = (expr-worth T s e typed small sites).static static in
      let inside : index_in (limits_at n) (position_of w.2.value) ≡ Ok z = sym (ap (λ r. and_then r (λ v. index_in (limits_at n) (position_of v))) w.2.worth) ∙ sym (ap (member_index G [] n) q) ∙ member in
      record {
        static = static;
        old = expr-old b (text_rules b.is_old) (λ id o. o) e (k + 1) (subst (λ o. IfSome o (EveryExpr (text_rules b.is_old) (k + 1))) q every.1);
        value = w.2.value;
        worth = w.2.worth;
        inside = inside-of (limits_at n) (position_of w.2.value) z inside;
        fits = ap is_integer_value w.2.position ∙ w.2.fits;
      }

  -- so it is with each accept in such a body
  abbrev pub AreHeadsKnown : Option PTask → ℕ → ℕ → Type 0
  AreHeadsKnown who first number =
      (s : Scope) (c : CheckScope) (n : ℕ) (i : PHead) → PlaceSeen p T who s c → StandsWhole T s → EveryHead (well_placed p.names) n i → EveryHead (text_rules b.is_old) n i → AllByRecursion IsMet (head_sites s i) →
      AllByRecursion Checked (check.head_sites c n i) → IsHeadKnown first number i

  pub head-known : (t : PTask) (first number : ℕ) (x y : NumberedTask) → IsTaskOf p T first x → x.unit ≡ t → IsTaskOf p T number y → y.unit ≡ t → AreHeadsKnown (Some t) first number
  head-known t first number x y is unit runs runs_unit s c n i seen typed placed every at checked =
      let known = own-entry p T (StandsWhole T) text.typed.typing t s c i seen checked.1.0.accepts in
      let head : IsHead b first number i = head-asked p T (StandsWhole T) text.typed.typing b.made b.is_old b.is_fixed (is_known T) t s c n i typed (small-index i.index (n + 1) placed.1) seen at checked first number x y is unit runs runs_unit in
      record {
        beside = subst (λ m. 1 ≤ m) (sym runs.number) (omega arith);
        declared = known.entry;
        has = entry-there p T number y i.entry.name known.entry runs (ap (λ u. entry_in u i.entry.name) runs_unit ∙ known.declared);
        head = head;
        static = λ e q m. let k = head.known m in static-index s (entry_of (numbers_of p) number i.entry.name) n i e typed placed every at q m k.0 k.1;
      }

  -- ---- statements

  -- the expression is no variable that the normal form adds
  abbrev pub IsNoAdded : PExpr → Type 0
  IsNoAdded e = (s : Span) (j : ℕ) → e ≡ variable G s j → ⊥

  -- What is asked of the statements of a unit of the program, which is rewritten by the number of one task and run by the task of another number.
  abbrev pub unit_asks : ℕ → ℕ → Asks (Unit {0})
  unit_asks first number = record no_asks {
    callee = λ c k x. AreTasksOf G x;
    call = λ c k x. IsCallKnown x;
    aborts = λ c k xs. 1 ≤ length xs;
    condition = λ c k e. IsNoAdded e;
    head = λ c k i. IsHeadKnown first number i;
    wait = λ c k x others s. (has_accept x ≡ true) × (alts_count x ≤ 32);
  }

  -- what is known of a body's statements
  abbrev C : Type 0
  C = ((Unit {0} × Unit {0}) × Scope) × CheckScope

  abbrev known : Asks C
  known = both (both (both (place_asks (well_placed p.names)) (place_asks (text_rules b.is_old))) (type_asks Place)) (check_asks Checked)

  abbrev R : Option PTask → C → Unit {0} → Type 0
  R who c d = PlaceSeen p T who c.0.1 c.1 × StandsWhole T c.0.1

  module _ (who : Option PTask) (first number : ℕ) (heads : AreHeadsKnown who first number) where
    tasks-of : (c : C) (k : ℕ) (x : PCallee) → R who c tt → known.callee c k x → AreTasksOf G x
    tasks-of c k x rel m = tasks.callee-tasks p (types_in p) (numbers_of p) h.legal h.placed h.names h.small who c.0.1 c.1 k x rel.0 rel.1 m.0.0.0 (met (callee_sites c.0.1 x) m.0.1) m.1

    all-tasks : (c : C) (k : ℕ) (xs : List PCallee) → R who c tt → AllByRecursion (known.callee c k) xs → AllByRecursion (AreTasksOf G) xs
    all-tasks c k [] rel m = tt
    all-tasks c k (x ∷ xs) rel m = (tasks-of c k x rel m.0, all-tasks c k xs rel m.1)

    call-of : (c : C) (k : ℕ) (x : PCall) → R who c tt → known.callee c k x.task → known.call c k x → IsCallKnown x
    call-of c k x rel m i =
        call-known who c.0.1 c.1 k x rel.0 rel.1 m.0.0.0 (m.0.0.1, i.0.0.1.0, i.0.0.1.1)
        (all_joined IsMet (callee_sites c.0.1 x.task) (behind_callee c.0.1 x) (met (callee_sites c.0.1 x.task) m.0.1) (met (behind_callee c.0.1 x) i.0.1)) m.1

    -- the names in a condition are the program's own
    own-is-none : (k : ℕ) (e : PExpr) → EveryExpr (text_rules b.is_old) k e → IsNoAdded e
    own-is-none k e m s j q =
        let own : EveryExpr (text_rules b.is_old) k (variable G s j) = subst (EveryExpr (text_rules b.is_old) k) q m in
        true≢false (sym own.1 ∙ added_names_are_new G j)

    steps : Steps known (unit_asks first number) (R who)
    steps = record {
      outer = λ c d k s rel m. tt;
      many = λ n m. tt;
      duration = λ n m. tt;
      plain = λ c d k x rel m. tt;
      callee = λ c d k x rel m. tasks-of c k x rel m;
      call = λ c d k x rel m i. call-of c k x rel m i;
      aborts = λ c d k xs rel m i. m.0.0.0;
      aborted = λ c d k xs rel m i. all-tasks c k xs rel i;
      condition = λ c d k e rel m. own-is-none k e m.0.0.1;
      selector = λ c d k e xs others s rel m. tt;
      choices = λ c d k e xs rel m. tt;
      loop = λ c d k w x rel m. tt;
      looping = λ c d k w x rel m. (
        loop-seen p T who c.0.1 c.1 w x rel.0,
        text.typed.loop c.0.1 x rel.1 (all_back Place (if_there (λ (y : Word). site c.0.1 (labels y) ∷ []) w) (if_there (scheme_sites c.0.1) x) m.0.1),
      );
      head = λ c d k i rel m. heads c.0.1 c.1 k i rel.0 rel.1 m.0.0.0.1 m.0.0.1.1 (met (head_sites c.0.1 i) m.0.1) m.1;
      accepting = λ c d k i rel m. (accept-seen p T who c.0.1 c.1 i rel.0, text.typed.accept c.0.1 i rel.1 m.0.1);
      wait = λ c d k x others s rel m. (wait-accepts c.1 x others s m.1.0.selects, let few : 0 + alts_count x ≤ 32 = few-alternatives p.names c.1 x 0 (omega arith) m.1.1 in omega (arith, few));
      delay = λ c d k e s rel m. tt;
      handlers = λ hs m. tt;
      handler = λ c d k ids ws rel m. tt;
      handling = λ c d rel. (handling-seen p T who c.0.1 c.1 rel.0, rel.1);
    }

    -- A body whose places are known is as asked.
    pub unit-asked : (c : C) (x : PBody) → R who c tt → AskedBody known c 1 x → AskedBody (unit_asks first number) tt 1 x
    unit-asked c x rel m = steps_asked known (unit_asks first number) (R who) steps c tt 1 x rel m
