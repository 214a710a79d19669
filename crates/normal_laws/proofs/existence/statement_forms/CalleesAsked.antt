-- Callees are as the law of normal forms asks.
use Rattle.std.proofs.Common.{◌≡◌, ℕ, ℤ, Bool, true, false, ◌==◌, ◌&&◌, [], slice_get, find, unwrap_or, Option, Some, None, ok_or, is_some, is_ok, Ok, refl, sym, ap, ◌∙◌, subst, arith}
use Rattle.std.specs.Prelude.{int_le}
use Rattle.std.specs.List.{AllByRecursion}
use Rattle.std.specs.Ordering.{int_eq}
use Rattle.std.proofs.lemmas.Option.{none-some}
use Rattle.std.proofs.lemmas.Bool.{and_parts, and_from}
use Rattle.std.proofs.lemmas.Bool.Decides.{Decides-int_eq}
use Rattle.ada_tree.specs.declared.naming.NameId.{NameId}
use Rattle.ada_tree.specs.declared.naming.Span.{Span}
use Rattle.ada_tree.specs.TypeTable.{TypeTable}
use Rattle.ada_tree.specs.PlainExpr.{PExpr, PDrange}
use Rattle.ada_tree.specs.PlainStmt.{PCallee}
use Rattle.ada_tree.specs.PlainProgram.{PProgram}
use Rattle.ada_static_rules.specs.Scope.{Scope, Range, and_then as and_then_some}
use Rattle.ada_static_rules.specs.ExprTypes.{expr_place, kind_of, static_in, is_other_kind}
use Rattle.ada_static_rules.specs.Sites.{if_there, expr_sites, callee_sites}
use Rattle.ada_static_rules.specs.RuleRangeBad.{is_outside, out_of}
use Rattle.ada_static_rules.specs.RuleMismatch.{of_other_kind}
use Rattle.syn_event.specs.declared.numbering.TaskInfo.{TaskInfo}
use Rattle.syn_event.specs.Numbering.{task_named}
use Rattle.syn_event.specs.NamedTasks.{NamedTasks, task_names_of, NumberedTask}
use Rattle.ada_value.specs.Values.{lies_in, position_of, and_then}
use Rattle.ada_value.specs.declared.values.Raised.TheVariants as raised
use Rattle.task_model.specs.Setting.{Setting, is_member, member_named, task_meant}
use Rattle.normal_model.specs.Names.{task_name_at}
use Rattle.normal_model.specs.Ranges.{subtype_of_range, array_range}
use Rattle.normal_model.specs.Members.{kind_of_index}
use Rattle.normal_model.specs.Making.{moving}
use Rattle.ada_value.specs.StaticLaw.{HasSmallLiterals}
use Rattle.task_laws.specs.translation.Translations.{Programs}
use Rattle.normal_laws.specs.runs.floors.Suited.{declared_limits, IsMeant, is_named, is_member as member_meant, IsLiteral, HasLiteral, IsCallee}
use Rattle.task_laws.specs.legal.sites.Met.{IsMet}
use Rattle.normal_laws.proofs.structure.entries.Lists.{found-place}
use Rattle.normal_laws.proofs.existence.seen_tasks.Finding.{no-place, all-filtered}
use Rattle.normal_laws.proofs.structure.entries.Entries.{numbers, g, IsTaskOf}
use Rattle.normal_laws.proofs.existence.seen_tasks.Parts.{IsExtent, is_called}
use Rattle.normal_laws.proofs.existence.seen_tasks.Tasks.{PartsKnown}
use Rattle.normal_laws.proofs.existence.statement_forms.MemberNumbers.{member-in, member-is}
use Rattle.normal_laws.proofs.existence.statement_forms.Callees.{CalleeForm, one_task, one_member, CalleeKnown, IsOneOf, named-one, member-one}
use Rattle.normal_laws.proofs.existence.statement_forms.Typed.{Typing}
use Rattle.normal_laws.proofs.existence.statement_forms.OwnEntries.{same-kind, inside-range}
use Rattle.normal_laws.proofs.existence.statement_forms.AcceptsAsked.{unmoved-static}
use Rattle.common_lemmas.proofs.Lists.{all_by_place, found_some}

-- What is to be known of the range of an array of tasks: a variable of it has just the members' indices, and each index has a literal.
pub record RangeFacts (b : Programs) (T : TypeTable) (r : PDrange) (range : Range) : Type 0 where
  pub same : (sp : Span) (z : ℤ) → lies_in (declared_limits b.made.types (subtype_of_range T sp (Some r))) z ≡ (int_le range.first z && int_le z range.last)
  pub literal : (sp : Span) (i : ℤ) → (int_le range.first i && int_le i range.last) ≡ true → IsLiteral b (kind_of_index T (Some r)) sp i

module _ (p : PProgram) (T : TypeTable) (Typed : Scope → Type 0) (typing : Typing T Typed) (made : Setting) (is_old is_fixed is_known : ℕ → Bool) (known : PartsKnown p T) where
  abbrev b : Programs
  b = record { original = g p T; made = made; is_old = is_old; is_fixed = is_fixed; is_known = is_known }

  -- Each array of tasks has such a range; and each task is found by its own name in the program that is made.
  pub record CalleesKnown : Type 0 where
    pub rows : (id : NameId) (x : NamedTasks) (r : PDrange) (range : Range) → find (is_called id) (task_names_of p) ≡ Some x → x.index_range ≡ Some r → IsExtent T r range → RangeFacts b T r range
    pub named : (t : ℕ) (x : NumberedTask) → IsTaskOf p T t x → task_named made.numbers (task_name_at (g p T) t) ≡ Some t

  module _ (facts : CalleesKnown) (s : Scope) (x : PCallee) (k : CalleeKnown p T s x) (typed : Typed s) (small : (e : PExpr) → x.index ≡ Some e → HasSmallLiterals e) (met : AllByRecursion IsMet (callee_sites s x)) where
    id : NameId
    id = x.name.name

    its-row : array_range p x.name.name ≡ k.index_range
    its-row = ap (and_then_some (λ (y : NamedTasks). y.index_range)) k.stands.found ∙ k.stands.index_range

    index-met : (e : PExpr) → x.index ≡ Some e → AllByRecursion IsMet (expr_sites s e)
    index-met e q = subst (λ o. AllByRecursion IsMet (if_there (expr_sites s) o)) q met.1

    -- a static index is that of a member
    static-member : (r : PDrange) (range : Range) (e : PExpr) → k.stands.part.index_range ≡ Some r → IsExtent T r range → x.index ≡ Some e → of_other_kind s (Some range.kind) e ≡ [] → out_of s e (Some range) ≡ [] →
        moving T (Some e) ≡ None → (t : ℕ) × (task_meant (g p T) [] x.name.name (Some e) ≡ Ok t)
    static-member r range e row ext q kinded out unmoved =
        let worth = typing.expr s e typed (small e q) (index-met e q) in
        let w = worth.static (unmoved-static T e unmoved) in
        let same : range.kind ≡ worth.kind = same-kind range.kind (kind_of s e) worth.kind worth.is (no-place (is_other_kind (Some range.kind) (kind_of s e)) (expr_place e) kinded) in
        let inside : is_outside range (static_in s range.kind e) ≡ false = no-place (is_outside range (static_in s range.kind e)) (expr_place e) out in
        let there : is_outside range (Some w.number) ≡ false = sym (ap (is_outside range) (ap (λ n. static_in s n e) same ∙ w.static)) ∙ inside in
        let within : (int_le range.first w.number && int_le w.number range.last) ≡ true = inside-range range (record { kind = 0; first = range.first; last = range.last }) w.number refl refl there in
        let m = member-in p T known x.name.name k.stands.part r range k.stands.found row ext w.number within in
        (m.0, ap (λ o. and_then o (λ v. member_named (numbers p T) x.name.name (position_of v))) w.worth ∙ ap (member_named (numbers p T) x.name.name) w.position ∙ m.1)

    one-of : (t : ℕ) → IsMeant b x t → IsOneOf p T s x k known t
    one-of t (is_named e f) = named-one p T s x k known t f
    one-of t (member_meant e z f q) = member-one p T s x k known z t q

    -- the index of a member lies in the range
    member-within : (r : PDrange) (range : Range) → k.stands.part.index_range ≡ Some r → IsExtent T r range → (n : ℕ) (info : TaskInfo) (i : ℤ) → (info.name.0 == x.name.name.0) ≡ true → info.member ≡ Some i →
        slice_get (numbers p T).tasks n ≡ Some info → (int_le range.first i && int_le i range.last) ≡ true
    member-within r range row ext n info i named member at =
        let test : TaskInfo → Bool = λ y. (y.name.0 == x.name.name.0) && is_member i y.member in
        let same : int_eq i i ≡ true = grind (arith, Decides-int_eq) in
        let found = found_some test (numbers p T).tasks n info at (and_from (info.name.0 == x.name.name.0) (is_member i info.member) named (ap (is_member i) member ∙ same)) in
        let place = found-place test (numbers p T).tasks found.0 found.1 in
        sym (member-is p T known x.name.name k.stands.part r range k.stands.found row ext i) ∙ ap (λ o. is_ok (ok_or o raised.Constraint)) place.2

    pub callee-asked : IsCallee b x
    callee-asked = by_form k.index_range k.stands.index_range its-row k.form
      where
        by_form : (o : Option PDrange) → k.stands.part.index_range ≡ o → array_range p x.name.name ≡ o → CalleeForm p T s x o → IsCallee b x
        by_form None row its (one_task q) = record {
          known = λ m. (unwrap_or (task_named (numbers p T) x.name.name) 0, ap (task_meant (g p T) [] x.name.name) q);
          named = λ t m. let y = one-of t m in facts.named t y.numbered_task y.is;
          range = λ e m sp z. absurd (none-some e (sym (ap (moving T) q) ∙ m));
          literals = λ e m sp. absurd (none-some e (sym (ap (moving T) q) ∙ m));
        }
        by_form (Some _) row its (one_member r range y ext q kinded out) =
            let f = facts.rows x.name.name k.stands.part r range k.stands.found row ext in
            record {
              known = λ m. let h = static-member r range y row ext q kinded out (sym (ap (moving T) q) ∙ m) in (h.0, ap (task_meant (g p T) [] x.name.name) q ∙ h.1);
              named = λ t m. let z = one-of t m in facts.named t z.numbered_task z.is;
              range = λ e m sp z.
                  ap (λ o. lies_in (declared_limits made.types (subtype_of_range T sp o)) z) its ∙ f.same sp z ∙ sym (member-is p T known x.name.name k.stands.part r range k.stands.found row ext z);
              literals = λ e m sp.
                  all-filtered (HasLiteral b (kind_of_index T (array_range p x.name.name)) sp) _ (numbers p T).tasks
                  (all_by_place _ (numbers p T).tasks (λ n info at test i member.
                  subst (λ o. IsLiteral b (kind_of_index T o) sp i) (sym its) (f.literal sp i (member-within r range row ext n info i (and_parts (info.name.0 == x.name.name.0) (is_some info.member) test).0 member at))));
            }
