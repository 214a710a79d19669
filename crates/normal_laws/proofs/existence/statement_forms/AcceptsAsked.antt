-- The heads of accepts are as the law of normal forms asks.
use Rattle.std.proofs.Common.{◌≡◌, ℕ, ℤ, pos, Bool, true, false, if◌then◌else◌, [], Option, Some, None, is_some, Ok, refl, sym, ap, ◌∙◌, subst, true≢false}
use Rattle.std.specs.List.{AllByRecursion}
use Rattle.std.proofs.lemmas.Option.{none-some}
use Rattle.ada_tree.specs.TypeTable.{TypeTable}
use Rattle.ada_tree.specs.PlainExpr.{PExpr, PDrange}
use Rattle.ada_tree.specs.PlainStmt.{PHead}
use Rattle.ada_tree.specs.PlainDecl.{PTask}
use Rattle.ada_tree.specs.PlainProgram.{PProgram}
use Rattle.ada_static_rules.specs.StaticValue.{is_static}
use Rattle.ada_static_rules.specs.Scope.{Scope, entry_named}
use Rattle.ada_static_rules.specs.Sites.{if_there, accept_index_sites, head_sites, formals_sites}
use Rattle.syn_event.specs.declared.numbering.Mode.TheVariants as mode
use Rattle.syn_event.specs.CheckScope.{CheckScope}
use Rattle.syn_event.specs.CheckSites as sites
use Rattle.syn_event.specs.AllNumbers.{family_extent, first_of, last_index}
use Rattle.syn_event.specs.Numbering.{entry_at}
use Rattle.syn_event.specs.NamedTasks.{NumberedTask}
use Rattle.task_model.specs.Setting.{Setting, entry_of, family_limits, member_index}
use Rattle.normal_model.specs.Making.{moving}
use Rattle.ada_value.specs.StaticLaw.{HasSmallLiterals}
use Rattle.task_laws.specs.translation.Translations.{Programs}
use Rattle.normal_laws.specs.runs.floors.Suited.{IsHead}
use Rattle.task_laws.specs.legal.sites.Met.{IsMet, IsCheckMet}
use Rattle.normal_laws.proofs.structure.entries.Entries.{entry_in, numbers, g, IsTaskOf, HasEntry, entry-there}
use Rattle.normal_laws.proofs.existence.seen_tasks.Parts.{FamilyRanged}
use Rattle.normal_laws.proofs.existence.seen_tasks.Bodies.{PlaceSeen}
use Rattle.normal_laws.proofs.existence.statement_forms.Typed.{Typing}
use Rattle.normal_laws.proofs.existence.statement_forms.OwnEntries.{EntryKnown, own-entry, index-of-family, static-inside}
use Rattle.common_lemmas.proofs.Lists.{all_front}

-- an index that does not move is static
pub unmoved-static : (T : TypeTable) (e : PExpr) → moving T (Some e) ≡ None → is_static T e ≡ true
unmoved-static T e h = by_test (is_static T e) h
  where
    by_test : (b : Bool) → (if b then None else Some e) ≡ None → b ≡ true
    by_test true f = refl
    by_test false f = absurd (none-some e (sym f))

module _ (p : PProgram) (T : TypeTable) (Typed : Scope → Type 0) (typing : Typing T Typed) (made : Setting) (is_old is_fixed is_known : ℕ → Bool) where
  abbrev b : Programs
  b = record { original = g p T; made = made; is_old = is_old; is_fixed = is_fixed; is_known = is_known }

  -- what is known of an accept's head in the body of a task
  module _ (t : PTask) (s : Scope) (c : CheckScope) (n : ℕ) (h : PHead) (typed : Typed s) (small : (e : PExpr) → h.index ≡ Some e → HasSmallLiterals e) (seen : PlaceSeen p T (Some t) s c)
      (met : AllByRecursion IsMet (head_sites s h)) (checked : AllByRecursion (IsCheckMet mode.Original p.names) (sites.head_sites c n h)) where
    known-entry : EntryKnown p T Typed typing t s.own h.entry.name
    known-entry = own-entry p T Typed typing t s c h seen checked.1.0.accepts

    -- the entry of a task that runs the body
    entry-at-task : (k : ℕ) (x : NumberedTask) → IsTaskOf p T k x → x.unit ≡ t → HasEntry p T k h.entry.name known-entry.entry
    entry-at-task k x is unit = entry-there p T k x h.entry.name known-entry.entry is (ap (λ u. entry_in u h.entry.name) unit ∙ known-entry.declared)

    index-met : (e : PExpr) → h.index ≡ Some e → AllByRecursion IsMet (accept_index_sites s (entry_named s.own h.entry.name) e)
    index-met e q =
        subst (λ o. AllByRecursion IsMet (if_there (accept_index_sites s (entry_named s.own h.entry.name)) o)) q
        (all_front IsMet (if_there (accept_index_sites s (entry_named s.own h.entry.name)) h.index) (formals_sites s h.formals) met.1)

    known-index : (k : ℕ) (x : NumberedTask) (is : IsTaskOf p T k x) (unit : x.unit ≡ t) → (o : Option PExpr) → h.index ≡ o → moving T o ≡ None → (z : ℤ) × (member_index (g p T) [] (entry_of (numbers p T) k h.entry.name) o ≡ Ok z)
    known-index k x is unit None q m = (pos 0, refl)
    known-index k x is unit (Some e) q m = by_family known-entry.entry.family refl known-entry.ranged (index-of-family p T Typed typing s h t known-entry met.0.counted e q)
      where
        has : HasEntry p T k h.entry.name known-entry.entry
        has = entry-at-task k x is unit

        by_family : (o : Option PDrange) → known-entry.entry.family ≡ o → FamilyRanged T known-entry.around o → is_some o ≡ true → (z : ℤ) × (member_index (g p T) [] (entry_of (numbers p T) k h.entry.name) (Some e) ≡ Ok z)
        by_family None f ranged there = absurd (true≢false (sym there))
        by_family (Some r) f ranged there =
            static-inside p T Typed typing s h t known-entry typed r f ranged e (small e q) (index-met e q) (unmoved-static T e m) (family_limits (entry_at (numbers p T) (entry_of (numbers p T) k h.entry.name)))
            (ap (λ o. (family_limits o).first) has.at ∙ has.first ∙ ap (λ o. first_of (family_extent T o)) f ∙ ap first_of ranged.is.extent)
            (ap (λ o. (family_limits o).last) has.at ∙ has.last ∙ ap (λ o. last_index (family_extent T o)) f ∙ ap last_index ranged.is.extent)

    pub head-asked : (first number : ℕ) (x y : NumberedTask) → IsTaskOf p T first x → x.unit ≡ t → IsTaskOf p T number y → y.unit ≡ t → IsHead b first number h
    head-asked first number x y is unit runs runs_unit =
        let at-first = entry-at-task first x is unit in
        let at-number = entry-at-task number y runs runs_unit in
        record {
          family = λ e q. at-number.is_family ∙ index-of-family p T Typed typing s h t known-entry met.0.counted e q;
          range = at-first.range ∙ sym at-number.range;
          known = λ m. known-index number y runs runs_unit h.index refl m;
        }
