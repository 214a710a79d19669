-- Formals that the rule ArgCount finds the same have the same names, modes and subtypes.
use Rattle.std.proofs.Common.{◌≡◌, ℕ, true, ◌&&◌, ◌==◌, List, [], ◌∷◌, ◌++◌, map, refl, sym, ap, ap₂, subst, ◌∙◌, true≢false}
use Rattle.std.proofs.lemmas.Bool.{eqb-true}
use Rattle.std.proofs.lemmas.List.{map-append}
use Rattle.ada_tree.specs.declared.naming.NameId.{NameId}
use Rattle.ada_tree.specs.declared.naming.Word.{Word}
use Rattle.ada_tree.specs.declared.statements.ParMode.{ParMode}
use Rattle.ada_tree.specs.declared.statements.ParMode.TheVariants.{Take, Give, Both}
use Rattle.ada_tree.specs.TypeTable.{TypeTable}
use Rattle.ada_tree.specs.PlainStmt.{PFormal}
use Rattle.ada_static_rules.specs.Scope.{Scope, FormalPart, scalar_kind, marking}
use Rattle.ada_static_rules.specs.Declaring.{formal_parts}
use Rattle.ada_static_rules.specs.RuleArgCount.{Written, written_formals, same_mode, are_same}
use Rattle.ada_value.specs.Values.{limits_named}
use Rattle.task_model.specs.declared.parameters.FormalParameter.{FormalParameter}
use Rattle.task_model.specs.Setting.{parameters_of}
use Rattle.task_laws.specs.invariants.Holding.{AreAlike}
use Rattle.common_lemmas.proofs.Truth.{and_both}

mode-same : (m n : ParMode) → same_mode m n ≡ true → n ≡ m
mode-same Take Take e = refl
mode-same Give Give e = refl
mode-same Both Both e = refl
mode-same Take Give e = absurd (true≢false (sym e))
mode-same Take Both e = absurd (true≢false (sym e))
mode-same Give Take e = absurd (true≢false (sym e))
mode-same Give Both e = absurd (true≢false (sym e))
mode-same Both Take e = absurd (true≢false (sym e))
mode-same Both Give e = absurd (true≢false (sym e))

module _ (T : TypeTable) where
  abbrev of_written : Written → FormalParameter
  of_written w = record { name = w.name; mode = w.mode; limits = limits_named T w.mark }

  abbrev of_part : FormalPart → FormalParameter
  of_part f = record { name = f.name; mode = f.mode; limits = limits_named T f.mark }

  written-row : (m : ParMode) (mark : NameId) (ws : List Word) →
      map (λ (w : Word). record { name = w.name; mode = m; limits = limits_named T mark }) ws ≡ map of_written (map (λ (w : Word). record { name = w.name; mode = m; mark = mark }) ws)
  written-row m mark [] = refl
  written-row m mark (w ∷ ws) = ap (λ l. of_written record { name = w.name; mode = m; mark = mark } ∷ l) (written-row m mark ws)

  written-parameters : (fs : List PFormal) → parameters_of T fs ≡ map of_written (written_formals fs)
  written-parameters [] = refl
  written-parameters (f ∷ fs) =
      ap₂ (λ (a b : List FormalParameter). a ++ b) (written-row f.mode f.mark.name f.names) (written-parameters fs)
      ∙ sym (map-append of_written (map (λ (w : Word). record { name = w.name; mode = f.mode; mark = f.mark.name }) f.names) (written_formals fs))

  module _ (around : Scope) where
    part-row : (m : ParMode) (mark : NameId) (ws : List Word) →
        map (λ (w : Word). record { name = w.name; mode = m; limits = limits_named T mark }) ws
        ≡ map of_part (map (λ (w : Word). record { name = w.name; mode = m; mark = mark; kind = scalar_kind (marking around mark) }) ws)
    part-row m mark [] = refl
    part-row m mark (w ∷ ws) = ap (λ l. of_part record { name = w.name; mode = m; mark = mark; kind = scalar_kind (marking around mark) } ∷ l) (part-row m mark ws)

    part-parameters : (fs : List PFormal) → parameters_of T fs ≡ map of_part (formal_parts around fs)
    part-parameters [] = refl
    part-parameters (f ∷ fs) =
        ap₂ (λ (a b : List FormalParameter). a ++ b) (part-row f.mode f.mark.name f.names) (part-parameters fs)
        ∙ sym (map-append of_part (map (λ (w : Word). record { name = w.name; mode = f.mode; mark = f.mark.name; kind = scalar_kind (marking around f.mark.name) }) f.names) (formal_parts around fs))

  -- formals that are the same have the same names, modes and subtypes
  rows-same : (ws : List Written) (fs : List FormalPart) → are_same ws fs ≡ true → map of_written ws ≡ map of_part fs
  rows-same [] [] e = refl
  rows-same [] (f ∷ fs) e = absurd (true≢false (sym e))
  rows-same (w ∷ ws) [] e = absurd (true≢false (sym e))
  rows-same (w ∷ ws) (f ∷ fs) e =
      let last = and_both ((w.name.0 == f.name.0) && same_mode w.mode f.mode && (w.mark.0 == f.mark.0)) (are_same ws fs) e in
      let third = and_both ((w.name.0 == f.name.0) && same_mode w.mode f.mode) (w.mark.0 == f.mark.0) last.0 in
      let second = and_both (w.name.0 == f.name.0) (same_mode w.mode f.mode) third.0 in
      let name : w.name.0 ≡ f.name.0 = eqb-true w.name.0 f.name.0 second.0 in
      let mode : w.mode ≡ f.mode = sym (mode-same w.mode f.mode second.1) in
      let mark : w.mark.0 ≡ f.mark.0 = eqb-true w.mark.0 f.mark.0 third.1 in
      let one : of_written w ≡ of_part f =
      (ap₂ (λ (n : ℕ) (m : ParMode). record { name = record { 0 = n }; mode = m; limits = limits_named T w.mark }) name mode
      ∙ ap (λ (n : ℕ). record { name = f.name; mode = f.mode; limits = limits_named T record { 0 = n } }) mark) in
      ap₂ (λ (x : FormalParameter) (xs : List FormalParameter). x ∷ xs) one (rows-same ws fs last.1)

  pub formals-same : (around : Scope) (its written : List PFormal) → are_same (written_formals written) (formal_parts around its) ≡ true → parameters_of T written ≡ parameters_of T its
  formals-same around its written e = written-parameters written ∙ rows-same (written_formals written) (formal_parts around its) e ∙ sym (part-parameters around its)

-- the same formals are alike
pub alike-same : (xs ys : List FormalParameter) → xs ≡ ys → AreAlike ys xs
alike-same xs ys e = subst (λ l. AreAlike l xs) e (alike xs)
  where
    alike : (fs : List FormalParameter) → AreAlike fs fs
    alike [] = tt
    alike (f ∷ fs) = ((refl, refl), alike fs)
