-- The names around a place, for both lists of rules, and what holds of them: what holds of each name in scope holds of a name that means something there.
use Rattle.std.proofs.Common.{◌≡◌, ℕ, Bool, true, false, ◌||◌, ◌==◌, if◌then◌else◌, List, [], ◌∷◌, find, Option, Some, None, option_map, is_some, refl, sym, ap, subst, ◌∙◌, true≢false}
use Rattle.std.specs.List.{AllByRecursion, list_any}
use Rattle.std.proofs.lemmas.Bool.{eqb-true}
use Rattle.std.proofs.lemmas.Option.{none-some}
use Rattle.ada_tree.specs.declared.naming.NameId.{NameId}
use Rattle.ada_tree.specs.declared.naming.Span.{Span}
use Rattle.ada_tree.specs.declared.naming.Word.{Word}
use Rattle.ada_static_rules.specs.Scope.{Scope, NameMeaning, Thing, TaskType, MainProcedure, EntryPart, meaning, entries_of, entry_named, is_entry_somewhere}
use Rattle.ada_static_rules.specs.Declaring.{seen_as, with_name, with_names}
use Rattle.ada_static_rules.specs.RuleUnknown.{unseen}
use Rattle.syn_event.specs.declared.meanings.Meant.{Meant}
use Rattle.syn_event.specs.declared.meanings.Meant.TheVariants as meant
use Rattle.syn_event.specs.CheckScope.{CheckScope, meaning as check_meaning}
use Rattle.syn_event.specs.CheckSites.{with_meant}
use Rattle.common_lemmas.proofs.Lists.{not_empty}
use Rattle.common_lemmas.proofs.Options.{some_same}

-- a test that leaves nothing holds
pub test-holds : (b : Bool) (s : Span) → (if b then [] else s ∷ []) ≡ [] → b ≡ true
test-holds true s e = refl
test-holds false s e = absurd (not_empty s [] e)

-- a test that would give something fails
pub test-fails : (b : Bool) (s : Span) → (if b then s ∷ [] else []) ≡ [] → b ≡ false
test-fails true s e = absurd (not_empty s [] e)
test-fails false s e = refl

-- what means a task type or the main procedure
abbrev pub IsOther : Thing → Type 0
IsOther (TaskType es) = ⊥
IsOther MainProcedure = ⊥
IsOther _ = Unit {0}

other-type : (thing : Thing) (es : List EntryPart) → IsOther thing → thing ≡ TaskType es → ⊥
other-type thing es p e = subst IsOther e p

other-main : (thing : Thing) → IsOther thing → thing ≡ MainProcedure → ⊥
other-main thing p e = subst IsOther e p

module _ (Own : ℕ → Type 0) where
  abbrev pub OwnPart : EntryPart → Type 0
  OwnPart e = Own e.name.0

  abbrev pub OwnThing : Thing → Type 0
  OwnThing thing = AllByRecursion OwnPart (entries_of thing)

  abbrev pub OwnSeen : NameMeaning → Type 0
  OwnSeen x = Own x.name × OwnThing x.thing

  abbrev pub OwnLoop : Option NameId → Type 0
  OwnLoop None = Unit {0}
  OwnLoop (Some n) = Own n.0

  abbrev pub OwnWord : Word → Type 0
  OwnWord w = Own w.name.0

  -- What holds of the names around a place: of all names in scope, of the entries of tasks, and of loops; and what means a task type or main by the
  -- first rules means it by the others.
  pub record Around (s : Scope) (a : CheckScope) : Type 0 where
    pub names : AllByRecursion OwnSeen s.names
    pub own : AllByRecursion OwnPart s.own
    pub loops : AllByRecursion OwnLoop a.loops
    pub types : (id : NameId) (es : List EntryPart) → meaning s id ≡ Some (TaskType es) → check_meaning a id ≡ Some meant.TaskType
    pub main : (id : NameId) → meaning s id ≡ Some MainProcedure → check_meaning a id ≡ Some meant.MainProcedure

  -- ---- what a name means

  found : (xs : List NameMeaning) (n : ℕ) (x : NameMeaning) → AllByRecursion OwnSeen xs → find (λ y. y.name == n) xs ≡ Some x → Own n × OwnThing x.thing
  found [] n x h e = absurd (none-some x e)
  found (y ∷ ys) n x h e = by_test (y.name == n) refl e (found ys n x h.1)
    where
      by_test : (b : Bool) → (y.name == n) ≡ b → (if b then Some y else find (λ z. z.name == n) ys) ≡ Some x → (find (λ z. z.name == n) ys ≡ Some x → Own n × OwnThing x.thing) → Own n × OwnThing x.thing
      by_test true f g rest = (subst Own (eqb-true y.name n f) h.0.0, subst (λ (z : NameMeaning). OwnThing z.thing) (some_same g) h.0.1)
      by_test false f g rest = rest g

  pub means : (s : Scope) (id : NameId) (thing : Thing) → AllByRecursion OwnSeen s.names → meaning s id ≡ Some thing → Own id.0 × OwnThing thing
  means s id thing h e = by_find (find (λ x. x.name == id.0) s.names) refl e
    where
      by_find : (o : Option NameMeaning) → find (λ x. x.name == id.0) s.names ≡ o → option_map (λ (x : NameMeaning). x.thing) o ≡ Some thing → Own id.0 × OwnThing thing
      by_find None f g = absurd (none-some thing g)
      by_find (Some x) f g = let r = found s.names id.0 x h f in (r.0, subst OwnThing (some_same g) r.1)

  -- a name that is declared before
  pub seen : (s : Scope) (id : NameId) (sp : Span) → AllByRecursion OwnSeen s.names → unseen s id sp ≡ [] → Own id.0
  seen s id sp h e = by_meaning (meaning s id) refl (test-holds (is_some (meaning s id)) sp e)
    where
      by_meaning : (o : Option Thing) → meaning s id ≡ o → is_some o ≡ true → Own id.0
      by_meaning None f g = absurd (true≢false (sym g))
      by_meaning (Some thing) f g = (means s id thing h f).0

  -- an entry that is there
  pub entry-own : (es : List EntryPart) (id : NameId) → AllByRecursion OwnPart es → is_some (entry_named es id) ≡ true → Own id.0
  entry-own [] id h e = absurd (true≢false (sym e))
  entry-own (x ∷ es) id h e = by_test (x.name.0 == id.0) refl e (entry-own es id h.1)
    where
      by_test : (b : Bool) → (x.name.0 == id.0) ≡ b → is_some (if b then Some x else entry_named es id) ≡ true → (is_some (entry_named es id) ≡ true → Own id.0) → Own id.0
      by_test true f g rest = subst Own (eqb-true x.name.0 id.0 f) h.0
      by_test false f g rest = rest g

  somewhere : (xs : List NameMeaning) (id : NameId) → AllByRecursion OwnSeen xs → list_any (λ (x : NameMeaning). is_some (entry_named (entries_of x.thing) id)) xs ≡ true → Own id.0
  somewhere [] id h e = absurd (true≢false (sym e))
  somewhere (x ∷ xs) id h e = by_test (is_some (entry_named (entries_of x.thing) id)) refl e (somewhere xs id h.1)
    where
      by_test : (b : Bool) → is_some (entry_named (entries_of x.thing) id) ≡ b → (b || list_any (λ (y : NameMeaning). is_some (entry_named (entries_of y.thing) id)) xs) ≡ true →
          (list_any (λ (y : NameMeaning). is_some (entry_named (entries_of y.thing) id)) xs ≡ true → Own id.0) → Own id.0
      by_test true f g rest = entry-own (entries_of x.thing) id h.0.1 f
      by_test false f g rest = rest g

  pub entry-somewhere : (s : Scope) (id : NameId) → AllByRecursion OwnSeen s.names → AllByRecursion OwnPart s.own → (is_some (entry_named s.own id) || is_entry_somewhere s id) ≡ true → Own id.0
  entry-somewhere s id h o e = by_test (is_some (entry_named s.own id)) refl e
    where
      by_test : (b : Bool) → is_some (entry_named s.own id) ≡ b → (b || is_entry_somewhere s id) ≡ true → Own id.0
      by_test true f g = entry-own s.own id o f
      by_test false f g = somewhere s.names id h g

  -- ---- more names

  -- other parts of the scopes may change
  pub again : (s s' : Scope) (a a' : CheckScope) → s.names ≡ s'.names → s.own ≡ s'.own → a.names ≡ a'.names → a.loops ≡ a'.loops → Around s a → Around s' a'
  again s s' a a' e f g k h = record {
    names = subst (AllByRecursion OwnSeen) e h.names;
    own = subst (AllByRecursion OwnPart) f h.own;
    loops = subst (AllByRecursion OwnLoop) k h.loops;
    types = λ id es q. ap (λ (l : List (ℕ × Meant)). option_map (λ y. y.1) (find (λ y. y.0 == id.0) l)) (sym g)
        ∙ h.types id es (ap (λ (l : List NameMeaning). option_map (λ y. y.thing) (find (λ y. y.name == id.0) l)) e ∙ q);
    main = λ id q. ap (λ (l : List (ℕ × Meant)). option_map (λ y. y.1) (find (λ y. y.0 == id.0) l)) (sym g)
        ∙ h.main id (ap (λ (l : List NameMeaning). option_map (λ y. y.thing) (find (λ y. y.name == id.0) l)) e ∙ q);
  }

  -- a name for both
  pub name-both : (thing : Thing) (m : Meant) (w : Word) (s : Scope) (a : CheckScope) → Own w.name.0 → OwnThing thing → IsOther thing → Around s a → Around (with_name thing s w) (record a { names = (w.name.0, m) ∷ a.names })
  name-both thing m w s a o t p h = record {
    names = ((o, t), h.names);
    own = h.own;
    loops = h.loops;
    types = λ id es e. types id es (w.name.0 == id.0) e;
    main = λ id e. main id (w.name.0 == id.0) e;
  }
    where
      types : (id : NameId) (es : List EntryPart) (b : Bool) → option_map (λ (x : NameMeaning). x.thing) (if b then Some (seen_as thing w.name.0) else find (λ x. x.name == id.0) s.names) ≡ Some (TaskType es) →
          option_map (λ (y : ℕ × Meant). y.1) (if b then Some (w.name.0, m) else find (λ y. y.0 == id.0) a.names) ≡ Some meant.TaskType
      types id es true e = absurd (other-type thing es p (some_same e))
      types id es false e = h.types id es e

      main : (id : NameId) (b : Bool) → option_map (λ (x : NameMeaning). x.thing) (if b then Some (seen_as thing w.name.0) else find (λ x. x.name == id.0) s.names) ≡ Some MainProcedure →
          option_map (λ (y : ℕ × Meant). y.1) (if b then Some (w.name.0, m) else find (λ y. y.0 == id.0) a.names) ≡ Some meant.MainProcedure
      main id true e = absurd (other-main thing p (some_same e))
      main id false e = h.main id e

  pub names-both : (thing : Thing) (m : Meant) (ws : List Word) (s : Scope) (a : CheckScope) → AllByRecursion OwnWord ws → OwnThing thing → IsOther thing → Around s a → Around (with_names thing s ws) (with_meant m a ws)
  names-both thing m [] s a o t p h = h
  names-both thing m (w ∷ ws) s a o t p h = names-both thing m ws (with_name thing s w) (record a { names = (w.name.0, m) ∷ a.names }) o.1 t p (name-both thing m w s a o.0 t p h)

  -- a name for the first rules alone
  pub name-one : (thing : Thing) (w : Word) (s : Scope) (a : CheckScope) → Own w.name.0 → OwnThing thing → IsOther thing → Around s a → Around (with_name thing s w) a
  name-one thing w s a o t p h = record {
    names = ((o, t), h.names);
    own = h.own;
    loops = h.loops;
    types = λ id es e. types id es (w.name.0 == id.0) e;
    main = λ id e. main id (w.name.0 == id.0) e;
  }
    where
      types : (id : NameId) (es : List EntryPart) (b : Bool) → option_map (λ (x : NameMeaning). x.thing) (if b then Some (seen_as thing w.name.0) else find (λ x. x.name == id.0) s.names) ≡ Some (TaskType es) →
          check_meaning a id ≡ Some meant.TaskType
      types id es true e = absurd (other-type thing es p (some_same e))
      types id es false e = h.types id es e

      main : (id : NameId) (b : Bool) → option_map (λ (x : NameMeaning). x.thing) (if b then Some (seen_as thing w.name.0) else find (λ x. x.name == id.0) s.names) ≡ Some MainProcedure →
          check_meaning a id ≡ Some meant.MainProcedure
      main id true e = absurd (other-main thing p (some_same e))
      main id false e = h.main id e

  pub names-one : (thing : Thing) (ws : List Word) (s : Scope) (a : CheckScope) → AllByRecursion OwnWord ws → OwnThing thing → IsOther thing → Around s a → Around (with_names thing s ws) a
  names-one thing [] s a o t p h = h
  names-one thing (w ∷ ws) s a o t p h = names-one thing ws (with_name thing s w) a o.1 t p (name-one thing w s a o.0 t p h)
