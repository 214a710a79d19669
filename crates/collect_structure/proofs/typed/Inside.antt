-- What can be used at a place of a unit in a collecting text can be used in an accept and in a loop there.
use Rattle.std.proofs.Common.{◌≡◌, ℕ, ◌==◌, Bool, true, false, ◌||◌, if◌then◌else◌, List, ◌∷◌, map, Option, Some, None, IfSome, unwrap_or, ◌⊎◌, inl, inr, refl, sym, ap, ap₂, subst, ◌∙◌, true≢false, eqb-true}
use Rattle.std.proofs.lemmas.Bool.{or_from, or_left, or_parts}
use Rattle.std.proofs.lemmas.List.Elements.{recursion_from_All}
use Rattle.common_lemmas.proofs.Lists.{all_weaker}
use Rattle.ada_tree.specs.declared.naming.NameId.{NameId}
use Rattle.ada_tree.specs.declared.naming.Word.{Word}
use Rattle.ada_tree.specs.declared.naming.Span.{Span}
use Rattle.ada_tree.specs.declared.statements.ParMode.TheVariants.{Take}
use Rattle.ada_tree.specs.TypeTable.{TypeTable}
use Rattle.ada_tree.specs.PlainStmt.{PScheme, LWhile, LFor, PHead}
use Rattle.ada_tree.specs.PlainProgram.{PProgram}
use Rattle.ada_tree.specs.Every.{EveryFormal, EveryHead, EveryScheme}
use Rattle.ada_static_rules.specs.Scope.{Scope, Family, single, family, unclear, EntryPart, Thing, SingleTask, meaning, marking, marking_of, scalar_kind, mark_at, and_then, entry_named}
use Rattle.ada_static_rules.specs.StaticValue.{value_named}
use Rattle.ada_static_rules.specs.Declaring.{with_name, inner_scope, formal_thing, with_formals, first_mark_of, drange_kind, loop_thing, with_loop_parameter}
use Rattle.ada_static_rules.specs.Sites.{all_names, loop_scope}
use Rattle.ada_static_rules.specs.RuleArgCount.{called_entry}
use Rattle.syn_event.specs.Numbering.{task_named}
use Rattle.task_model.specs.Setting.{Setting, entry_of}
use Rattle.task_laws.specs.legal.rewritten_types.Agreement.{IsScalar, Keeps}
use Rattle.task_laws.specs.legal.alike_scopes.Alike.{SameNames}
use Rattle.task_laws.proofs.legal.rewritten_types.Keeping.{keeps-self}
use Rattle.normal_model.specs.RewrittenUnit.{RewrittenUnit}
use Rattle.normal_model.specs.Ranges.{word_at, kind_name}
use Rattle.normal_laws.specs.structure.checked.Around.{own_rules}
use Rattle.normal_laws.proofs.structure.typed.Scopes.{IsNoTask, meaning-more, not-called, loop-no-task}
use Rattle.normal_laws.proofs.structure.typed.Stays.{old-formals, old-drange}
use Rattle.replay_structure.specs.typed.ScopeOf.{IsCountedBy, as_itself, by_position, IsEntryOf, AreInner, IsInnerScheme}
use Rattle.replay_structure.proofs.scopes.Permit.{number-step, integer-step}
use Rattle.collect_model.specs.Names.{caller_text, answer_text, part_text, recorder_text, collect_names, added_in}
use Rattle.collect_model.specs.Serving.{caller_formal}
use Rattle.collect_structure.specs.Names.{added_id}
use Rattle.collect_structure.specs.typed.Told.{told_entry, IsRecorder, IsTruth, AreOuter, IsToldScope}
use Rattle.collect_structure.proofs.typed.Scopes.{IsStep, two-steps, one-step, formals-step, inside-names, formals-names, loop-names, name-more}
use Rattle.ada_static_rules.proofs.found_twice.Declared.{formals_own}
use Rattle.task_laws.proofs.legal.alike_scopes.Inner.{formals-main}

-- ---- names that are declared inside

-- an inner name, or the formal of the caller
abbrev told_inner : PProgram → (ℕ → Bool) → ℕ → Bool
told_inner q inner n = inner n || ((added_id q caller_text).0 == n)

-- The formal of the caller is no old name and none of those that units use.
pub record IsCallerApart (g : Setting) (old : ℕ → Bool) : Type 0 where
  pub new : old (added_id g.program caller_text).0 ≡ false
  pub answer : ((added_id g.program caller_text).0 == (added_id g.program answer_text).0) ≡ false
  pub part : ((added_id g.program caller_text).0 == (added_id g.program part_text).0) ≡ false
  pub recorder : ((added_id g.program caller_text).0 == (added_id g.program recorder_text).0) ≡ false
  pub tasking : ((added_id g.program caller_text).0 == 9) ≡ false
  pub integer : ((added_id g.program caller_text).0 == 0) ≡ false
  pub kinds : (j : ℕ) → ((added_id g.program caller_text).0 == (kind_name g.types j).0) ≡ false

module _ (g : Setting) (task : ℕ) (old inner : ℕ → Bool) (outer : AreOuter g.program inner) (apart : IsCallerApart g old) where
  abbrev q : PProgram
  q = g.program

  abbrev u : RewrittenUnit
  u = record { setting = g; task = task }

  abbrev more : ℕ → Bool
  more = told_inner q inner

  outside : (n : ℕ) → inner n ≡ false → ((added_id q caller_text).0 == n) ≡ false → more n ≡ false
  outside n a b = or_from (inner n) ((added_id q caller_text).0 == n) a b

  module _ (c d c' d' : Scope) (step : IsStep old more c d c' d') where
    truth-kept : (id : NameId) → more id.0 ≡ false → IsTruth d id → IsTruth d' id
    truth-kept id o v = record {
      place = v.place;
      mark = v.mark;
      means = step.outer id o ∙ v.means;
      there = subst (λ (T : TypeTable). mark_at T v.place ≡ Some v.mark) (sym step.types) v.there;
      kind = v.kind;
      scalar = subst (λ (T : TypeTable). IsScalar T v.mark.kind) (sym step.types) v.scalar;
      first = v.first;
      last = v.last;
      changes = subst (λ (T : TypeTable). value_named T id ≡ None) (sym step.types) v.changes;
    }

    keeps : (old' : ℕ → Bool) → Keeps old' d.types d'.types
    keeps old' = subst (Keeps old' d.types) (sym step.types) (keeps-self d.types)

    counted-kept : (j j' k : ℕ) → j' ≡ j → IsCountedBy g.types inner d j k → IsCountedBy g.types inner d' j k
    counted-kept j j' k same (as_itself e f) = as_itself e f
    counted-kept j j' k same (by_position n m o) =
        by_position n (ap₂ (λ T x. scalar_kind (marking_of T x)) step.types (step.outer (kind_name g.types j) (outside (kind_name g.types j).0 o (apart.kinds j))) ∙ m) o

    entry-kept : (e : ℕ) (fam : Family) → IsEntryOf g inner d e fam → IsEntryOf g inner d' e fam
    entry-kept e single h = h
    entry-kept e (family range) h = record { written = h.written; flag = h.flag; is = h.is; counted = counted-kept _ _ range.kind refl h.counted }
    entry-kept e unclear h = h

    recorder-kept : IsRecorder q d → IsRecorder q d'
    recorder-kept h = record { entries = h.entries; means = step.outer (added_id q recorder_text) (outside (added_id q recorder_text).0 outer.recorder apart.recorder) ∙ h.means; note = h.note }

    pub scope-kept : SameNames old c' d' → c'.in_main ≡ d'.in_main → c'.own ≡ c.own → d'.own ≡ d.own → IsToldScope u old inner c d → IsToldScope u old inner c' d'
    scope-kept names main own own' rel = record {
      names = names;
      main = main;
      answer = truth-kept (added_id q answer_text) (outside (added_id q answer_text).0 outer.answer apart.answer) rel.answer;
      part = number-step d d' (added_id q part_text) (step.outer (added_id q part_text) (outside (added_id q part_text).0 outer.part apart.part)) (keeps _) rel.part;
      recorder = recorder-kept rel.recorder;
      tasking = step.outer (record { 0 = 9 }) (outside 9 outer.tasking apart.tasking) ∙ rel.tasking;
      integer = integer-step d d' (step.outer (record { 0 = 0 }) (outside 0 outer.integer apart.integer)) (keeps _) rel.integer;
      tasks = λ id entries o e. by_task id entries o e (step.means id o);
      own = own' ∙ rel.own ∙ ap (map (told_entry q)) (sym own);
      called = λ id name part e. entry-kept _ part.family (by_called id name part e (step.here id));
      accepted = λ name part e. entry-kept _ part.family (rel.accepted name part (ap (λ l. entry_named l name) (sym own) ∙ e));
    }
      where
        by_task : (id : NameId) (entries : List EntryPart) → old id.0 ≡ true → meaning c' id ≡ Some (SingleTask entries) → ((meaning c' id ≡ meaning c id) × (meaning d' id ≡ meaning d id)) ⊎ IsNoTask (meaning c' id) →
            meaning d' id ≡ Some (SingleTask (map (told_entry q) entries))
        by_task id entries o e (inl f) = f.1 ∙ rel.tasks id entries o (sym f.0 ∙ e)
        by_task id entries o e (inr n) = absurd (subst IsNoTask e n)

        by_called : (id name : NameId) (part : EntryPart) → called_entry (meaning c' id) name ≡ Some part → (meaning c' id ≡ meaning c id) ⊎ IsNoTask (meaning c' id) →
            IsEntryOf g inner d (entry_of g.numbers (unwrap_or (task_named g.numbers id) 0) name) part.family
        by_called id name part e (inl f) = rel.called id name part (ap (λ o. called_entry o name) (sym f) ∙ e)
        by_called id name part e (inr n) = absurd (not-called (meaning c' id) name part n e)

  -- ---- accepts and loops

  inside-step : (c d : Scope) → IsStep old more c d (inner_scope c) (inner_scope d)
  inside-step c d = record { means = λ id o. inl (refl, refl); here = λ id. inl refl; outer = λ id o. refl; types = refl }

  -- the formal of the caller is declared in the text alone
  caller-step : (c d : Scope) (thing : Thing) (w : Word) → w.name ≡ added_id q caller_text → IsStep old more c d (inner_scope c) (with_name thing (inner_scope d) w)
  caller-step c d thing w is = record {
    means = λ id o. inl (refl, meaning-more thing (inner_scope d) w id ∙ ap (λ b. if b then Some thing else meaning d id) (other id o));
    here = λ id. inl refl;
    outer = λ id o.
        meaning-more thing (inner_scope d) w id
        ∙ ap (λ b. if b then Some thing else meaning d id) (ap (λ (n : NameId). n.0 == id.0) is ∙ (or_parts (inner id.0) ((added_id q caller_text).0 == id.0) o).1);
    types = refl;
  }
    where
      other : (id : NameId) → old id.0 ≡ true → (w.name.0 == id.0) ≡ false
      other id o = by_test (w.name.0 == id.0) refl
        where
          by_test : (b : Bool) → (w.name.0 == id.0) ≡ b → b ≡ false
          by_test false e = refl
          by_test true e = absurd (true≢false (sym (ap old (sym (ap (λ (n : NameId). n.0) is) ∙ eqb-true w.name.0 id.0 e) ∙ o) ∙ apart.new))

  more-words : (ws : List Word) → AreInner inner ws → AreInner more ws
  more-words ws h = all_weaker (λ (w : Word). inner w.name.0 ≡ true) (λ (w : Word). more w.name.0 ≡ true) ws (λ w e. or_left (inner w.name.0) ((added_id q caller_text).0 == w.name.0) e) h

  pub accept-scope : (c d : Scope) (k : ℕ) (h : PHead) (s : Span) → EveryHead (own_rules old) k h → AreInner inner (all_names h.formals) → IsToldScope u old inner c d →
      IsToldScope u old inner (with_formals (inner_scope c) h.formals) (with_formals (inner_scope d) (caller_formal (added_in (collect_names q)) s ∷ h.formals))
  accept-scope c d k h s every i rel =
      let thing : Thing = formal_thing Take (marking (inner_scope d) (record { 0 = 0 })) in
      let w : Word = word_at s (added_id q caller_text) in
      let e : Scope = with_name thing (inner_scope d) w in
      let step : IsStep old more c d (with_formals (inner_scope c) h.formals) (with_formals e h.formals) =
      two-steps old more c d (inner_scope c) e (with_formals (inner_scope c) h.formals) (with_formals e h.formals) (caller-step c d thing w refl) (formals-step old more h.formals (more-words (all_names h.formals) i) (inner_scope c) e) in
      let same : SameNames old (inner_scope c) e = name-more old (inner_scope c) (inner_scope d) (inside-names old c d rel.names) thing w apart.new in
      scope-kept c d (with_formals (inner_scope c) h.formals) (with_formals e h.formals) step
      (formals-names old (inner_scope c) e same rel.main h.formals (old-formals old h.formals (recursion_from_All (EveryFormal (own_rules old)) h.formals every.2)))
      (formals-main h.formals (inner_scope c) ∙ rel.main ∙ sym (formals-main h.formals e)) (formals_own h.formals (inner_scope c)) (formals_own h.formals e) rel

  pub loop-scope-kept : (c d : Scope) (k : ℕ) (x : Option PScheme) → IfSome x (EveryScheme (own_rules old) k) → IfSome x (IsInnerScheme inner) → IsToldScope u old inner c d → IsToldScope u old inner (loop_scope c x) (loop_scope d x)
  loop-scope-kept c d k None every i rel = rel
  loop-scope-kept c d k (Some (LWhile e)) every i rel = rel
  loop-scope-kept c d k (Some (LFor w backwards x)) every i rel =
      scope-kept c d (with_loop_parameter c w x) (with_loop_parameter d w x)
      (two-steps old more c d (inner_scope c) (inner_scope d) (with_loop_parameter c w x) (with_loop_parameter d w x) (inside-step c d)
      (one-step old more (loop_thing (and_then (first_mark_of c.types) (drange_kind c x))) (loop_thing (and_then (first_mark_of d.types) (drange_kind d x))) (loop-no-task (and_then (first_mark_of c.types) (drange_kind c x))) w
      (or_left (inner w.name.0) ((added_id q caller_text).0 == w.name.0) i) (inner_scope c) (inner_scope d)))
      (loop-names old c d rel.names rel.main w x (old-drange old k x every.1)) rel.main refl refl rel
