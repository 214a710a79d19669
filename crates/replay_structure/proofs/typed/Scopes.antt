-- What can be used at a place of a unit in a replay text stays so in accepts and loops.
use Rattle.std.proofs.Common.{◌≡◌, ℕ, ◌==◌, Bool, true, false, if◌then◌else◌, List, [], ◌∷◌, Option, Some, None, is_some, IfSome, unwrap_or, ◌⊎◌, inl, inr, refl, sym, ap, ap₂, subst, ◌∙◌, true≢false}
use Rattle.std.proofs.lemmas.List.Elements.{recursion_from_All}
use Rattle.common_lemmas.proofs.Lists.{all_back, all_front}
use Rattle.ada_tree.specs.declared.naming.NameId.{NameId}
use Rattle.ada_tree.specs.declared.naming.Word.{Word}
use Rattle.ada_tree.specs.Attributes.{false_name}
use Rattle.ada_tree.specs.PlainStmt.{PFormal, PScheme, LWhile, LFor, PHead}
use Rattle.ada_tree.specs.PlainProgram.{PProgram}
use Rattle.ada_tree.specs.TypeTable.{TypeTable}
use Rattle.ada_tree.specs.Every.{EveryFormal, EveryHead, EveryScheme}
use Rattle.ada_static_rules.specs.Scope.{Scope, Family, single, family, unclear, EntryPart, Thing, SingleTask, meaning, marking, marking_of, scalar_kind, mark_at, and_then, entry_named}
use Rattle.ada_static_rules.specs.StaticValue.{value_named}
use Rattle.ada_static_rules.specs.Declaring.{with_name, with_names, inner_scope, formal_thing, with_formals, first_mark_of, drange_kind, with_loop_parameter}
use Rattle.ada_static_rules.specs.Sites.{all_names, loop_scope}
use Rattle.ada_static_rules.specs.RuleArgCount.{called_entry}
use Rattle.syn_event.specs.Numbering.{task_named}
use Rattle.task_model.specs.Setting.{Setting, entry_of}
use Rattle.task_laws.specs.legal.rewritten_types.Agreement.{IsScalar}
use Rattle.normal_model.specs.RewrittenUnit.{RewrittenUnit}
use Rattle.normal_model.specs.Ranges.{kind_name}
use Rattle.normal_laws.specs.structure.checked.Around.{own_rules}
use Rattle.task_laws.specs.legal.alike_scopes.Alike.{Alike}
use Rattle.task_laws.proofs.legal.alike_scopes.Inner.{inside_is_alike, formals_are_alike, loop_is_alike}
use Rattle.normal_laws.proofs.structure.typed.Stays.{old-formals, old-drange}
use Rattle.normal_laws.proofs.structure.typed.Scopes.{IsNoTask, differ, meaning-more, not-called, formal-no-task, loop-no-task}
use Rattle.replay_model.specs.Names.{control_text, idle_text, never_text, added_id}
use Rattle.replay_structure.specs.typed.ScopeOf.{AreOuter, IsNumber, HasLists, IsCountedBy, as_itself, by_position, IsEntryOf, HasDoubles, IsControl, IsIdle, IsScopeOf, AreInner, IsInnerScheme}

module _ (inner : ℕ → Bool) where
  -- what two scopes become where inner names are declared in both
  pub record IsStep (c d c' d' : Scope) : Type 0 where
    owned : c'.own ≡ c.own
    owned_there : d'.own ≡ d.own
    types : d'.types ≡ d.types
    means : (id : NameId) → ((meaning c' id ≡ meaning c id) × (meaning d' id ≡ meaning d id)) ⊎ IsNoTask (meaning c' id)
    outer : (id : NameId) → inner id.0 ≡ false → meaning d' id ≡ meaning d id

  no-step : (c d : Scope) → IsStep c d c d
  no-step c d = record { owned = refl; owned_there = refl; types = refl; means = λ id. inl (refl, refl); outer = λ id o. refl }

  inside-step : (c d : Scope) → IsStep c d (inner_scope c) (inner_scope d)
  inside-step c d = record { owned = refl; owned_there = refl; types = refl; means = λ id. inl (refl, refl); outer = λ id o. refl }

  two-steps : (c d c' d' c'' d'' : Scope) → IsStep c d c' d' → IsStep c' d' c'' d'' → IsStep c d c'' d''
  two-steps c d c' d' c'' d'' h i = record {
    owned = i.owned ∙ h.owned;
    owned_there = i.owned_there ∙ h.owned_there;
    types = i.types ∙ h.types;
    means = λ id. second id (i.means id);
    outer = λ id o. i.outer id o ∙ h.outer id o;
  }
    where
      first : (id : NameId) → (meaning c'' id ≡ meaning c' id) × (meaning d'' id ≡ meaning d' id) → ((meaning c' id ≡ meaning c id) × (meaning d' id ≡ meaning d id)) ⊎ IsNoTask (meaning c' id) →
          ((meaning c'' id ≡ meaning c id) × (meaning d'' id ≡ meaning d id)) ⊎ IsNoTask (meaning c'' id)
      first id e (inl f) = inl (e.0 ∙ f.0, e.1 ∙ f.1)
      first id e (inr n) = inr (subst IsNoTask (sym e.0) n)

      second : (id : NameId) → ((meaning c'' id ≡ meaning c' id) × (meaning d'' id ≡ meaning d' id)) ⊎ IsNoTask (meaning c'' id) →
          ((meaning c'' id ≡ meaning c id) × (meaning d'' id ≡ meaning d id)) ⊎ IsNoTask (meaning c'' id)
      second id (inl e) = first id e (h.means id)
      second id (inr n) = inr n

  one-step : (thing thing' : Thing) → IsNoTask (Some thing) → (w : Word) → inner w.name.0 ≡ true → (c d : Scope) → IsStep c d (with_name thing c w) (with_name thing' d w)
  one-step thing thing' free w i c d = record {
    owned = refl;
    owned_there = refl;
    types = refl;
    means = λ id. by_test id (w.name.0 == id.0) (meaning-more thing c w id) (meaning-more thing' d w id);
    outer = λ id o. meaning-more thing' d w id ∙ ap (λ b. if b then Some thing' else meaning d id) (differ inner w.name.0 id.0 true false i o true≢false);
  }
    where
      by_test : (id : NameId) (b : Bool) → meaning (with_name thing c w) id ≡ (if b then Some thing else meaning c id) → meaning (with_name thing' d w) id ≡ (if b then Some thing' else meaning d id) →
          ((meaning (with_name thing c w) id ≡ meaning c id) × (meaning (with_name thing' d w) id ≡ meaning d id)) ⊎ IsNoTask (meaning (with_name thing c w) id)
      by_test id true e f = inr (subst IsNoTask (sym e) free)
      by_test id false e f = inl (e, f)

  names-step : (thing thing' : Thing) → IsNoTask (Some thing) → (ws : List Word) → AreInner inner ws → (c d : Scope) → IsStep c d (with_names thing c ws) (with_names thing' d ws)
  names-step thing thing' free [] h c d = no-step c d
  names-step thing thing' free (w ∷ ws) h c d =
      two-steps c d (with_name thing c w) (with_name thing' d w) _ _ (one-step thing thing' free w h.0 c d) (names-step thing thing' free ws h.1 (with_name thing c w) (with_name thing' d w))

  formals-step : (fs : List PFormal) → AreInner inner (all_names fs) → (c d : Scope) → IsStep c d (with_formals c fs) (with_formals d fs)
  formals-step [] h c d = no-step c d
  formals-step (f ∷ fs) h c d =
      let thing = formal_thing f.mode (marking c f.mark.name) in
      let thing' = formal_thing f.mode (marking d f.mark.name) in
      two-steps c d (with_names thing c f.names) (with_names thing' d f.names) _ _
      (names-step thing thing' (formal-no-task f.mode (marking c f.mark.name)) f.names (all_front (λ (w : Word). inner w.name.0 ≡ true) f.names (all_names fs) h) c d)
      (formals-step fs (all_back (λ (w : Word). inner w.name.0 ≡ true) f.names (all_names fs) h) (with_names thing c f.names) (with_names thing' d f.names))

module _ (u : RewrittenUnit) (old inner : ℕ → Bool) (outer : AreOuter u.setting.program inner) where
  abbrev g : Setting
  g = u.setting

  abbrev q : PProgram
  q = u.setting.program

  module _ (c d c' d' : Scope) (step : IsStep inner c d c' d') where
    number-kept : (id : NameId) → inner id.0 ≡ false → IsNumber d id → IsNumber d' id
    number-kept id o v = record {
      place = v.place;
      mark = v.mark;
      means = step.outer id o ∙ v.means;
      there = subst (λ T. mark_at T v.place ≡ Some v.mark) (sym step.types) v.there;
      kind = v.kind;
      scalar = subst (λ T. IsScalar T v.mark.kind) (sym step.types) v.scalar;
      first = v.first;
      last = v.last;
      changes = subst (λ T. value_named T id ≡ None) (sym step.types) v.changes;
    }

    counted-kept : (types : TypeTable) (j k : ℕ) → IsCountedBy types inner d j k → IsCountedBy types inner d' j k
    counted-kept types j k (as_itself e f) = as_itself e f
    counted-kept types j k (by_position n m o) =
        by_position n (ap₂ (λ T x. scalar_kind (marking_of T x)) step.types (step.outer (kind_name types j) o) ∙ m) o

    entry-kept : (e : ℕ) (fam : Family) → IsEntryOf g inner d e fam → IsEntryOf g inner d' e fam
    entry-kept e single h = h
    entry-kept e (family range) h = record { written = h.written; flag = h.flag; is = h.is; counted = counted-kept g.types _ range.kind h.counted }
    entry-kept e unclear h = h

    control-kept : IsControl q d → IsControl q d'
    control-kept h = record { entries = h.entries; means = step.outer (added_id q control_text) outer.control ∙ h.means; range = h.range; numbers = h.numbers; go = h.go; done = h.done }

    idle-kept : IsIdle q d → IsIdle q d'
    idle-kept h = record { entries = h.entries; means = step.outer (added_id q idle_text) outer.idle ∙ h.means; stop = h.stop }

    inner-scope : Alike old c' d' → IsScopeOf u old inner c d → IsScopeOf u old inner c' d'
    inner-scope alike rel = record {
      alike = alike;
      kind = number-kept _ outer.kind rel.kind;
      argument = number-kept _ outer.argument rel.argument;
      index = number-kept _ outer.index rel.index;
      falses = step.outer (record { 0 = false_name }) outer.falses ∙ rel.falses;
      control = control-kept rel.control;
      idle = idle-kept rel.idle;
      tasks = λ id entries o e. by_task id entries o e (step.means id);
      never = λ id i. subst (λ l. HasLists (entry_named l (added_id q never_text)) single []) (sym step.owned_there) (rel.never id (ap (λ l. is_some (entry_named l id)) (sym step.owned) ∙ i));
      called = λ id name part e. entry-kept _ part.family (by_called id name part e (step.means id));
      accepted = λ name part e. entry-kept _ part.family (rel.accepted name part (ap (λ l. entry_named l name) (sym step.owned) ∙ e));
    }
      where
        by_task : (id : NameId) (entries : List EntryPart) → old id.0 ≡ true → meaning c' id ≡ Some (SingleTask entries) → ((meaning c' id ≡ meaning c id) × (meaning d' id ≡ meaning d id)) ⊎ IsNoTask (meaning c' id) → HasDoubles q old entries (meaning d' id)
        by_task id entries o e (inl f) = subst (HasDoubles q old entries) (sym f.1) (rel.tasks id entries o (sym f.0 ∙ e))
        by_task id entries o e (inr n) = absurd (subst IsNoTask e n)

        by_called : (id name : NameId) (part : EntryPart) → called_entry (meaning c' id) name ≡ Some part → ((meaning c' id ≡ meaning c id) × (meaning d' id ≡ meaning d id)) ⊎ IsNoTask (meaning c' id) →
            IsEntryOf g inner d (entry_of g.numbers (unwrap_or (task_named g.numbers id) 0) name) part.family
        by_called id name part e (inl f) = rel.called id name part (ap (λ o. called_entry o name) (sym f.0) ∙ e)
        by_called id name part e (inr n) = absurd (not-called (meaning c' id) name part n e)

  pub accept-scope : (c d : Scope) (k : ℕ) (h : PHead) → EveryHead (own_rules old) k h → AreInner inner (all_names h.formals) → IsScopeOf u old inner c d →
      IsScopeOf u old inner (with_formals (inner_scope c) h.formals) (with_formals (inner_scope d) h.formals)
  accept-scope c d k h every i rel =
      inner-scope c d (with_formals (inner_scope c) h.formals) (with_formals (inner_scope d) h.formals)
      (two-steps inner c d (inner_scope c) (inner_scope d) _ _ (inside-step inner c d) (formals-step inner h.formals i (inner_scope c) (inner_scope d)))
      (formals_are_alike old (inner_scope c) (inner_scope d) (inside_is_alike old c d rel.alike) h.formals (old-formals old h.formals (recursion_from_All (EveryFormal (own_rules old)) h.formals every.2))) rel

  pub scheme-scope : (c d : Scope) (k : ℕ) (x : Option PScheme) → IfSome x (EveryScheme (own_rules old) k) → IfSome x (IsInnerScheme inner) → IsScopeOf u old inner c d → IsScopeOf u old inner (loop_scope c x) (loop_scope d x)
  scheme-scope c d k None every i rel = rel
  scheme-scope c d k (Some (LWhile e)) every i rel = rel
  scheme-scope c d k (Some (LFor w backwards x)) every i rel =
      inner-scope c d (with_loop_parameter c w x) (with_loop_parameter d w x)
      (two-steps inner c d (inner_scope c) (inner_scope d) _ _ (inside-step inner c d) (one-step inner _ _ (loop-no-task (and_then (first_mark_of c.types) (drange_kind c x))) w i (inner_scope c) (inner_scope d)))
      (loop_is_alike old c d rel.alike w x (old-drange old k x every.1)) rel
