-- The formals of an entry by both programs, and the variables of the actuals.
use Rattle.std.proofs.Common.{◌≡◌, ℕ, List, [], ◌∷◌, ◌++◌, map, refl, sym, ap, ◌∙◌}
use Rattle.ada_tree.specs.declared.naming.Word.{Word}
use Rattle.ada_tree.specs.PlainExpr.{PExpr}
use Rattle.ada_tree.specs.PlainStmt.{PFormal}
use Rattle.ada_value.specs.Values.{limits_named}
use Rattle.task_model.specs.declared.parameters.FormalParameter.{FormalParameter}
use Rattle.task_model.specs.Setting.{parameters_in, parameters_of}
use Rattle.normal_model.specs.Ranges.{marked}
use Rattle.normal_model.specs.Calls.{Slot, slots_of, actual_subtypes}
use Rattle.task_laws.specs.translation.Translations.{Programs, types_before, types_after}
use Rattle.task_laws.specs.translation.Scopes.{AgreeOnTypes}
use Rattle.normal_laws.specs.runs.floors.Suited.{declared_limits, AreMarked, none_marked, marked_then, AreCopied, none_copied, copied_then}
use Rattle.normal_laws.specs.runs.floors.Preludes.{Added}
use Rattle.normal_laws.specs.runs.floors.inner.Actuals.{AreSlots, no_slots, slot_then}
use Rattle.normal_laws.specs.runs.floors.Declared.{HaveSubtypes, subtype_then}

module _ (b : Programs) where
  -- formals with their modes and marks, whose variables have their subtypes
  data ArePaired : List FormalParameter → List Slot → Type 0 where
    none_paired : ArePaired [] []
    paired_then : (f : FormalParameter) (x : Slot) (fs : List FormalParameter) (xs : List Slot) → f.mode ≡ x.mode → f.limits ≡ declared_limits (types_after b) (marked x.mark) → ArePaired fs xs →
        ArePaired (f ∷ fs) (x ∷ xs)

  words-paired : (f : PFormal) → limits_named (types_before b) f.mark.name ≡ declared_limits (types_after b) (marked f.mark) → (ws : List Word) {fs : List FormalParameter} {xs : List Slot} → ArePaired fs xs →
      ArePaired (map (λ w. record { name = w.name; mode = f.mode; limits = limits_named (types_before b) f.mark.name }) ws ++ fs) (map (λ w. record { mode = f.mode; mark = f.mark }) ws ++ xs)
  words-paired f e [] h = h
  words-paired f e (w ∷ ws) h = paired_then _ _ _ _ refl e (words-paired f e ws h)

  formals-paired : {fs : List PFormal} → AreMarked b fs → ArePaired (parameters_of (types_before b) fs) (slots_of fs)
  formals-paired none_marked = none_paired
  formals-paired (marked_then f rest old e h) = words-paired f e f.names (formals-paired h)

  slots-paired : (added : Added b b.original) {fs : List FormalParameter} {xs : List Slot} → ArePaired fs xs → {es : List PExpr} → AreCopied b xs es → {k : ℕ} → HaveSubtypes b added (actual_subtypes xs es) k →
      AreSlots added.bounds fs xs k
  slots-paired added none_paired none_copied {k} h = no_slots k
  slots-paired added (paired_then f x fs xs mode limits p) (copied_then x1 xs1 e es c more) (subtype_then y ys k l eq h) = slot_then f x fs xs k mode (limits ∙ sym eq) (slots-paired added p more h)

  -- the variables of the actuals have the subtypes of an entry's formals
  pub formals-slots : (added : Added b b.original) {fs : List PFormal} → AreMarked b fs → {es : List PExpr} → AreCopied b (slots_of fs) es → {k : ℕ} → HaveSubtypes b added (actual_subtypes (slots_of fs) es) k →
      AreSlots added.bounds (parameters_of (types_before b) fs) (slots_of fs) k
  formals-slots added marks copies h = slots-paired added (formals-paired marks) copies h

  -- they are the same by both tables
  pub marks-same : AgreeOnTypes b → {fs : List PFormal} → AreMarked b fs → parameters_of (types_before b) fs ≡ parameters_of (types_after b) fs
  marks-same types none_marked = refl
  marks-same types (marked_then f rest old e h) =
      ap (λ l. map (λ w. record { name = w.name; mode = f.mode; limits = l }) f.names ++ parameters_of (types_before b) rest) (types.marks f.mark.name old)
      ∙ ap (λ fs. parameters_in (types_after b) f ++ fs) (marks-same types h)
