-- Accepts in the body of a task have an entry of that task, with an index just where it is a family, and a static one in its range (9.5).
use Rattle.std.proofs.Common.{◌≡◌, ℕ, ℤ, Bool, true, false, ◌==◌, ◌&&◌, ◌||◌, not, if◌then◌else◌, List, [], ◌∷◌, ◌++◌, map, option_map, find, Option, Some, None, is_some, Ok, Err, refl, sym, ap, ◌∙◌, subst, true≢false, arith}
use Rattle.std.specs.Prelude.{int_le, int_lt}
use Rattle.std.specs.List.{AllByRecursion, list_any}
use Rattle.std.proofs.lemmas.Bool.{and_parts, or_parts, eqb-true, not-false}
use Rattle.std.proofs.lemmas.Int.{ints}
use Rattle.ada_tree.specs.declared.naming.NameId.{NameId}
use Rattle.ada_tree.specs.TypeTable.{TypeTable}
use Rattle.ada_tree.specs.PlainExpr.{PExpr, PDrange}
use Rattle.ada_tree.specs.PlainStmt.{PHead}
use Rattle.ada_tree.specs.PlainDecl.{PEntry, PTask}
use Rattle.ada_tree.specs.PlainProgram.{PProgram}
use Rattle.ada_static_rules.specs.StaticValue.{is_static}
use Rattle.ada_static_rules.specs.Scope.{Scope, Range, family, EntryPart, entry_named}
use Rattle.ada_static_rules.specs.ExprTypes.{expr_place, kind_of, static_in, is_other_kind}
use Rattle.ada_static_rules.specs.Demand.{must_be_of, must_lie_in, accepts}
use Rattle.ada_static_rules.specs.Sites.{site, expr_sites, expr_of, accept_index_sites}
use Rattle.ada_static_rules.specs.Declaring.{family_of, entry_family, entry_part}
use Rattle.ada_static_rules.specs.RuleRangeBad.{is_outside}
use Rattle.ada_static_rules.specs.RuleArgCount.{arg_count, wrong_accept, fits_accept, at_place, are_same, written_formals}
use Rattle.syn_event.specs.CheckScope.{CheckScope}
use Rattle.syn_event.specs.CheckScope as check
use Rattle.syn_event.specs.RuleAcceptPlace.{accept_place, is_own_entry, is_among}
use Rattle.ada_value.specs.declared.values.Raised.TheVariants as raised
use Rattle.ada_value.specs.declared.values.Limits.{Limits}
use Rattle.ada_value.specs.Values.{lies_in, position_of, and_then}
use Rattle.ada_value.specs.Evaluating.{evaluated}
use Rattle.ada_value.specs.StaticLaw.{HasSmallLiterals}
use Rattle.task_model.specs.Setting.{index_in}
use Rattle.task_laws.proofs.legal.rewritten_types.Lookups.{find-all}
use Rattle.task_laws.specs.legal.sites.Met.{IsMet}
use Rattle.normal_laws.proofs.structure.entries.Lists.{find-mapped}
use Rattle.normal_laws.proofs.existence.seen_tasks.Finding.{no-place}
use Rattle.normal_laws.proofs.structure.entries.Entries.{entry_in}
use Rattle.normal_laws.proofs.existence.seen_tasks.Parts.{IsRanged, FamilyRanged, EntryRanged, IsUnitOf}
use Rattle.normal_laws.proofs.existence.seen_tasks.Bodies.{PlaceSeen}
use Rattle.normal_laws.proofs.existence.statement_forms.Typed.{Typing}
use Rattle.common_lemmas.proofs.Lists.{all_back, all_front}

-- ---- tests

-- a kind that is not told to be another one is that kind
pub same-kind : (k : ℕ) (o : Option ℕ) (j : ℕ) → o ≡ Some j → is_other_kind (Some k) o ≡ false → k ≡ j
same-kind k o j e h = by_test (k == j) refl (ap (is_other_kind (Some k)) (sym e) ∙ h)
  where
    by_test : (b : Bool) → (k == j) ≡ b → (if b then false else true) ≡ false → k ≡ j
    by_test true f q = eqb-true k j f
    by_test false f q = absurd (true≢false q)

-- a value that is not outside a range lies in it
pub inside-range : (range : Range) (l : Limits) (z : ℤ) → l.first ≡ range.first → l.last ≡ range.last → is_outside range (Some z) ≡ false → lies_in l z ≡ true
inside-range range l z e f h =
    let p = or_parts (int_lt z range.first) (int_lt range.last z) h in
    let low : int_lt z range.first ≡ false = p.0 in
    let high : int_lt range.last z ≡ false = p.1 in
    let a : int_le range.first z ≡ true = grind (arith, ints) in
    let b : int_le z range.last ≡ true = grind (arith, ints) in
    ap (λ n. int_le n z && int_le z l.last) e ∙ ap (λ n. int_le range.first z && int_le z n) f ∙ ap (λ c. c && int_le z range.last) a ∙ b

module _ (p : PProgram) (T : TypeTable) (Typed : Scope → Type 0) (typing : Typing T Typed) where
  -- ---- the entry

  named-entry : (id : NameId) (es : List PEntry) → list_any (λ (n : NameId). n.0 == id.0) (map (λ (e : PEntry). e.name.name) es) ≡ true → (e : PEntry) × (find (λ (y : PEntry). y.name.name.0 == id.0) es ≡ Some e)
  named-entry id [] h = absurd (true≢false (sym h))
  named-entry id (e ∷ es) h = by_test (e.name.name.0 == id.0) h (named-entry id es)
    where
      by_test : (b : Bool) → (b || list_any (λ (n : NameId). n.0 == id.0) (map (λ (y : PEntry). y.name.name) es)) ≡ true →
          (list_any (λ (n : NameId). n.0 == id.0) (map (λ (y : PEntry). y.name.name) es) ≡ true → (y : PEntry) × (find (λ (x : PEntry). x.name.name.0 == id.0) es ≡ Some y)) →
          (y : PEntry) × ((if b then Some e else find (λ (x : PEntry). x.name.name.0 == id.0) es) ≡ Some y)
      by_test true f rest = (e, refl)
      by_test false f rest = rest f

  -- among the entries as a scope says them
  pub entry-said : (around : Scope) (t : PTask) (es : List EntryPart) (id : NameId) → es ≡ map (entry_part around) t.entries → entry_named es id ≡ option_map (entry_part around) (entry_in t id)
  entry-said around t es id e =
      ap (λ l. entry_named l id) e ∙ find-mapped (λ (y : EntryPart). y.name.0 == id.0) (λ (y : PEntry). y.name.name.0 == id.0) (entry_part around) (λ y. refl) t.entries

  -- what is known of an entry that is named: its declaration, as the scope there says it
  pub record EntryKnown (t : PTask) (es : List EntryPart) (id : NameId) : Type 0 where
    pub entry : PEntry
    pub around : Scope
    pub declared : entry_in t id ≡ Some entry
    pub said : entry_named es id ≡ Some (entry_part around entry)
    pub ranged : FamilyRanged T around entry.family

  pub entry-known : (t : PTask) (es : List EntryPart) (id : NameId) (e : PEntry) → IsUnitOf p T t es → entry_in t id ≡ Some e → EntryKnown t es id
  entry-known t es id e own f = record {
    entry = e;
    around = own.around;
    declared = f;
    said = entry-said own.around t es id own.entries ∙ ap (option_map (entry_part own.around)) f;
    ranged = find-all (EntryRanged T own.around) (λ (y : PEntry). y.name.name.0 == id.0) t.entries e own.ranged f;
  }

  -- the entry of an accept in a task's body
  pub own-entry : (t : PTask) (s : Scope) (c : CheckScope) (h : PHead) → PlaceSeen p T (Some t) s c → accept_place c (check.accepts h) ≡ [] → EntryKnown t s.own h.entry.name
  own-entry t s c h seen e =
      let both = or_parts (not (is_own_entry c.own h.entry.name)) (is_among c.accepting h.entry.name) (no-place _ h.span e) in
      let own : is_own_entry c.own h.entry.name ≡ true = not-false (is_own_entry c.own h.entry.name) both.0 in
      let found = named-entry h.entry.name t.entries (sym (ap (λ o. is_own_entry o h.entry.name) seen.own.1) ∙ own) in
      entry-known t s.own h.entry.name found.0 seen.own.0 found.1

  -- ---- the index

  -- what an accept has of an index, by the family of its entry
  fits : (s : Scope) (h : PHead) (t : PTask) (k : EntryKnown t s.own h.entry.name) → arg_count s (accepts h) ≡ [] → fits_accept (entry_family k.around k.entry.family) h.index ≡ true
  fits s h t k e =
      let test : Bool = fits_accept (entry_family k.around k.entry.family) h.index && are_same (written_formals h.formals) (entry_part k.around k.entry).formals in
      let none : at_place (not test) h.entry.span ≡ [] = sym (ap (λ o. wrong_accept o h) k.said) ∙ e in
      (and_parts (fits_accept (entry_family k.around k.entry.family) h.index) _ (not-false test (no-place (not test) h.entry.span none))).0

  -- an index stands at a family alone
  pub index-of-family : (s : Scope) (h : PHead) (t : PTask) (k : EntryKnown t s.own h.entry.name) → arg_count s (accepts h) ≡ [] → (e : PExpr) → h.index ≡ Some e → is_some k.entry.family ≡ true
  index-of-family s h t k e x q = by_family k.entry.family (ap (fits_accept (entry_family k.around k.entry.family)) (sym q) ∙ fits s h t k e)
    where
      by_family : (o : Option PDrange) → fits_accept (entry_family k.around o) (Some x) ≡ true → is_some o ≡ true
      by_family (Some r) f = refl
      by_family None f = absurd (true≢false (sym f))

  -- a static index lies in the family's range
  pub static-inside : (s : Scope) (h : PHead) (t : PTask) (k : EntryKnown t s.own h.entry.name) → Typed s → (r : PDrange) → k.entry.family ≡ Some r → (ranged : IsRanged T k.around r) → (e : PExpr) → HasSmallLiterals e →
      AllByRecursion IsMet (accept_index_sites s (entry_named s.own h.entry.name) e) → is_static T e ≡ true → (limits : Limits) → limits.first ≡ ranged.range.first → limits.last ≡ ranged.range.last →
      (z : ℤ) × (and_then (evaluated T [] e) (λ v. index_in limits (position_of v)) ≡ Ok z)
  static-inside s h t k typed r q ranged e small met static limits first last =
      let family-is : entry_family k.around k.entry.family ≡ family ranged.range = ap (entry_family k.around) q ∙ ap family_of ranged.known in
      let part : EntryPart = entry_part k.around k.entry in
      let at : AllByRecursion IsMet (expr_of s (Some ranged.range.kind) e ++ site s (must_lie_in e (Some ranged.range)) ∷ []) =
      subst (λ f. AllByRecursion IsMet (accept_index_sites s (Some (record { name = part.name; family = f; formals = part.formals })) e)) family-is
      (subst (λ o. AllByRecursion IsMet (accept_index_sites s o e)) k.said met) in
      let of_kind = all_front IsMet (expr_of s (Some ranged.range.kind) e) (site s (must_lie_in e (Some ranged.range)) ∷ []) at in
      let lies = (all_back IsMet (expr_of s (Some ranged.range.kind) e) (site s (must_lie_in e (Some ranged.range)) ∷ []) at).0 in
      let exprs = all_front IsMet (expr_sites s e) (site s (must_be_of e (Some ranged.range.kind)) ∷ []) of_kind in
      let kinded = (all_back IsMet (expr_sites s e) (site s (must_be_of e (Some ranged.range.kind)) ∷ []) of_kind).0 in
      let worth = typing.expr s e typed small exprs in
      let w = worth.static static in
      let same : ranged.range.kind ≡ worth.kind = same-kind ranged.range.kind (kind_of s e) worth.kind worth.is (no-place (is_other_kind (Some ranged.range.kind) (kind_of s e)) (expr_place e) kinded.matched) in
      let inside : is_outside ranged.range (static_in s ranged.range.kind e) ≡ false = no-place (is_outside ranged.range (static_in s ranged.range.kind e)) (expr_place e) lies.ranged in
      let there : is_outside ranged.range (Some w.number) ≡ false = sym (ap (is_outside ranged.range) (ap (λ n. static_in s n e) same ∙ w.static)) ∙ inside in
      let lies_there : lies_in limits w.number ≡ true = inside-range ranged.range limits w.number first last there in (
        w.number,
        ap (λ o. and_then o (λ v. index_in limits (position_of v))) w.worth
            ∙ ap (index_in limits) w.position
            ∙ ap (λ b. if b then Ok w.number else Err raised.Constraint) lies_there,
      )
