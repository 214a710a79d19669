-- The scopes of accepts, loops and bodies stand over the same table, where the names that they declare are those of no type and no value.
use Rattle.std.proofs.Common.{◌≡◌, ℕ, Bool, true, false, ◌==◌, List, [], ◌∷◌, ◌++◌, is_some, None, refl, sym, ap, ap₂, ◌∙◌, subst, true≢false, eqb-true}
use Rattle.std.specs.List.{AllByRecursion}
use Rattle.ada_tree.specs.declared.naming.NameId.{NameId}
use Rattle.ada_tree.specs.declared.naming.Word.{Word}
use Rattle.ada_tree.specs.TypeTable.{TypeTable}
use Rattle.ada_tree.specs.PlainStmt.{PFormal, PHead}
use Rattle.ada_static_rules.specs.Scope.{Scope, Thing, TypeMark, Parameter, meaning, ScalarMark, marking_of, marking}
use Rattle.ada_static_rules.specs.StaticValue.{value_named, mark_named}
use Rattle.ada_static_rules.specs.Demand.{scalar_only, Demand, declares, Site}
use Rattle.ada_static_rules.specs.RuleMismatch.{is_allowed}
use Rattle.ada_static_rules.specs.Sites.{if_there, names_sites, mark_sites, formal_mark_sites, all_names, formals_sites, accept_index_sites, head_sites}
use Rattle.ada_tree.specs.declared.statements.ParMode.{ParMode}
use Rattle.ada_static_rules.specs.Scope.{entry_named, mark_at}
use Rattle.ada_static_rules.specs.Declaring.{with_name, with_names, inner_scope, formal_thing, with_formals}
use Rattle.task_laws.specs.legal.rewritten_types.Agreement.{Keeps, Sound}
use Rattle.task_laws.proofs.legal.rewritten_types.Keeping.{grows-self}
use Rattle.task_laws.proofs.legal.rewritten_types.Adding.{names-types}
use Rattle.task_laws.specs.legal.sites.Met.{IsMet}
use Rattle.task_laws.proofs.legal.types.ExprKinds.{LeadsOn, IsClearThing, IsScalarMark, scalar-mark}
use Rattle.task_laws.proofs.legal.types.TypedValues.{anybody, IsOver}
use Rattle.task_laws.proofs.legal.types.GoodScopes.{News, IsIn, names-told, names-kept}
use Rattle.task_laws.proofs.legal.types.LaterScopes.{over-more}
use Rattle.task_laws.proofs.legal.types.MainScopes.{StandsWhole}
use Rattle.task_laws.proofs.legal.types.TaskTypes.{name-here}
use Rattle.common_lemmas.proofs.Lists.{all_back, all_unflat, all_front}
use Rattle.task_laws.proofs.legal.sites.Around.{test-holds}

-- the name is that of no type and of no value
pub record IsApartName (T : TypeTable) (id : NameId) : Type 0 where
  pub value : value_named T id ≡ None
  pub mark : mark_named T id ≡ None

-- so it is with a name that is declared as no name of main, or as a variable of it
abbrev pub IsApartLocal : TypeTable → Demand → Type 0
IsApartLocal T (declares false w) = IsApartName T w.name
IsApartLocal T _ = Unit {0}

abbrev pub AreApart : TypeTable → List Site → Type 0
AreApart T xs = AllByRecursion (λ (x : Site). IsApartLocal T x.demand) xs

pub names-apart : (T : TypeTable) (ws : List Word) (s : Scope) → AreApart T (names_sites false s ws) → AllByRecursion (λ (w : Word). IsApartName T w.name) ws
names-apart T [] s h = tt
names-apart T (w ∷ ws) s h = (h.0, names-apart T ws _ h.1)

-- a scope with the same names and types
pub same-over : (R : TypeTable) (s s' : Scope) → s'.types ≡ s.types → ((id : NameId) → meaning s' id ≡ meaning s id) → IsOver R s → IsOver R s'
same-over R s s' types means over = record {
  keeps = subst (Keeps anybody R) (sym types) over.keeps;
  clear = record { sound = subst (λ T. Sound T) (sym types) over.clear.sound; things = λ id x e. subst (λ T. IsClearThing T x) (sym types) (over.clear.things id x (sym (means id) ∙ e)) };
  marks = λ id m e. subst (λ T. mark_named T id ≡ mark_at T m) (sym types) (over.marks id m (sym (means id) ∙ e));
  constants = λ id c e. means id ∙ over.constants id c e;
  literals = λ id v e. let l = over.literals id v e in (l.0, means id ∙ l.1, l.2);
  falses = λ id e. means id ∙ over.falses id e;
  trues = λ id e. means id ∙ over.trues id e;
}

pub same-stands : (T : TypeTable) (s s' : Scope) → s'.types ≡ s.types → ((id : NameId) → meaning s' id ≡ meaning s id) → StandsWhole T s → StandsWhole T s'
same-stands T s s' types means h = record { stands = record { root = h.stands.root; typed = h.stands.typed; over = same-over h.stands.root s s' types means h.stands.over; later = h.stands.later }; whole = h.whole }

-- ---- names

module _ (T : TypeTable) where
  -- a name with a value is another one
  value-apart : (s : Scope) (h : StandsWhole T s) (w : Word) → IsApartName T w.name → (id : NameId) → is_some (value_named h.stands.root id) ≡ true → (w.name.0 == id.0) ≡ false
  value-apart s h w apart id v = by_test (w.name.0 == id.0) refl
    where
      by_test : (b : Bool) → (w.name.0 == id.0) ≡ b → b ≡ false
      by_test false e = refl
      by_test true e =
          let same : w.name ≡ id = ap (λ n. record { 0 = n }) (eqb-true w.name.0 id.0 e) in
          absurd (true≢false (sym (ap is_some (h.stands.later.named id v) ∙ v) ∙ ap (λ i. is_some (value_named T i)) (sym same) ∙ ap is_some apart.value))

  -- and so is the name of a type
  mark-apart : (w : Word) → IsApartName T w.name → (id : NameId) → is_some (mark_named T id) ≡ true → (w.name.0 == id.0) ≡ false
  mark-apart w apart id v = by_test (w.name.0 == id.0) refl
    where
      by_test : (b : Bool) → (w.name.0 == id.0) ≡ b → b ≡ false
      by_test false e = refl
      by_test true e =
          let same : w.name ≡ id = ap (λ n. record { 0 = n }) (eqb-true w.name.0 id.0 e) in
          absurd (true≢false (sym v ∙ ap (λ i. is_some (mark_named T i)) (sym same) ∙ ap is_some apart.mark))

  -- one name more
  pub one-stands : (thing : Thing) (w : Word) (s : Scope) → IsApartName T w.name → IsClearThing s.types thing → ((m : ℕ) → thing ≡ TypeMark m → ⊥) → StandsWhole T s → StandsWhole T (with_name thing s w)
  one-stands thing w s apart clear other h = record {
    stands = record {
      root = h.stands.root;
      typed = h.stands.typed;
      over = over-more New h.stands.root s (with_name thing s w) h.stands.over.keeps (grows-self s.types) h.stands.over.clear.sound
          (λ id v. names-kept thing (w ∷ []) s id (value-apart s h w apart id v, tt))
          (λ id x e. names-told thing (w ∷ []) s id x e)
          (λ id x q. subst (IsClearThing s.types) (sym q.1) clear)
          (λ id m q. absurd (other m (sym q.1)))
          h.stands.over;
      later = h.stands.later;
    };
    whole = h.whole;
  }
    where
      New : News
      New id x = IsIn (w ∷ []) id × (x ≡ thing)

  pub names-stand : (thing : Thing) (ws : List Word) (s : Scope) → AllByRecursion (λ (w : Word). IsApartName T w.name) ws → IsClearThing s.types thing → ((m : ℕ) → thing ≡ TypeMark m → ⊥) → StandsWhole T s → StandsWhole T (with_names thing s ws)
  names-stand thing [] s apart clear other h = h
  names-stand thing (w ∷ ws) s apart clear other h = names-stand thing ws (with_name thing s w) apart.1 clear other (one-stands thing w s apart.0 clear other h)

  -- ---- formals

  parameter-other : (mode : ParMode) (m j : ℕ) → Parameter mode m ≡ TypeMark j → ⊥
  parameter-other mode m j e = cc

  names-others : (ws : List Word) → AllByRecursion (λ (w : Word). IsApartName T w.name) ws → (id : NameId) → is_some (mark_named T id) ≡ true → AllByRecursion (λ (w : Word). (w.name.0 == id.0) ≡ false) ws
  names-others [] h id v = tt
  names-others (w ∷ ws) h id v = (mark-apart w h.0 id v, names-others ws h.1 id v)

  -- formals behind a scope, of which no name hides a type
  formals-stand : (s : Scope) → StandsWhole T s → (fs : List PFormal) (t : Scope) → t.types ≡ s.types → ((id : NameId) → is_some (mark_named T id) ≡ true → meaning t id ≡ meaning s id) → StandsWhole T t →
      AllByRecursion (λ (f : PFormal). AllByRecursion (λ (w : Word). IsApartName T w.name) f.names) fs → AllByRecursion (λ (f : PFormal). IsScalarMark s f.mark.name) fs → StandsWhole T (with_formals t fs)
  formals-stand s base [] t types means h apart marks = h
  formals-stand s base (f ∷ fs) t types means h apart marks =
      let mark = marks.0 in
      let named = name-here T s base.stands f.mark.name mark in
      let same : marking t f.mark.name ≡ ScalarMark mark.place mark.leads.mark.kind =
      ap₂ marking_of types (means f.mark.name (ap is_some named.named)) ∙ mark.marks in
      let thing : Thing = Parameter f.mode mark.place in
      let leads : LeadsOn t.types mark.place = subst (λ U. LeadsOn U mark.place) (sym types) mark.leads in
      subst (λ m. StandsWhole T (with_formals (with_names (formal_thing f.mode m) t f.names) fs)) (sym same)
      (formals-stand s base fs (with_names thing t f.names) (names-types thing f.names t ∙ types)
      (λ id v. names-kept thing f.names t id (names-others f.names apart.0 id v) ∙ means id v)
      (names-stand thing f.names t apart.0 leads (λ j e. parameter-other f.mode mark.place j e) h) apart.1 marks.1)

  formal-marks : (s : Scope) → StandsWhole T s → (fs : List PFormal) → AllByRecursion (λ (f : PFormal). AllByRecursion IsMet (mark_sites scalar_only s f.mark)) fs → AllByRecursion (λ (f : PFormal). IsScalarMark s f.mark.name) fs
  formal-marks s h [] met = tt
  formal-marks s h (f ∷ fs) met =
      let m = met.0.0 in
      (scalar-mark s h.stands.over.clear f.mark.name (test-holds (is_some (meaning s f.mark.name)) f.mark.span m.known) (test-holds (is_allowed scalar_only (marking s f.mark.name)) f.mark.span m.matched), formal-marks s h fs met.1)

  all-split : (P : Word → Type 0) (fs : List PFormal) → AllByRecursion P (all_names fs) → AllByRecursion (λ (f : PFormal). AllByRecursion P f.names) fs
  all-split P fs h = all_unflat P (λ f. f.names) fs h

  pub inside-stands : (s : Scope) → StandsWhole T s → StandsWhole T (inner_scope s)
  inside-stands s h = same-stands T s (inner_scope s) refl (λ id. refl) h

  -- the statements of an accept
  pub accept-stands : (s : Scope) (h : PHead) → StandsWhole T s → AllByRecursion IsMet (head_sites s h) → AreApart T (head_sites s h) → StandsWhole T (with_formals (inner_scope s) h.formals)
  accept-stands s h stands met apart =
      let index = if_there (accept_index_sites s (entry_named s.own h.entry.name)) h.index in
      let names = names_sites false (inner_scope s) (all_names h.formals) in
      let marks = formal_mark_sites s h.formals in
      let met1 : AllByRecursion IsMet (index ++ formals_sites s h.formals) = met.1 in
      let met2 : AllByRecursion IsMet (names ++ marks) = all_back IsMet index (formals_sites s h.formals) met1 in
      let apart1 : AreApart T (index ++ formals_sites s h.formals) = apart.1 in
      let apart2 : AreApart T (names ++ marks) = all_back _ index (formals_sites s h.formals) apart1 in
      formals-stand s stands h.formals (inner_scope s) refl (λ id v. refl) (inside-stands s stands)
      (all-split _ h.formals (names-apart T (all_names h.formals) (inner_scope s) (all_front _ names marks apart2)))
      (formal-marks s stands h.formals (all_unflat IsMet (λ f. mark_sites scalar_only s f.mark) h.formals (all_back IsMet names marks met2)))
