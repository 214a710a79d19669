-- The names of a scope that is left for an inner one are there again behind it.
use Rattle.std.specs.Prelude.{◌≡◌, ◌≤◌, ◌-◌, ◌+◌, ℕ, refl, List, [], ◌∷◌, ◌++◌, length, map, take, drop}
use Rattle.std.proofs.Common.{sym, ap, ◌∙◌, subst, arith, length-append}
use Rattle.std.proofs.lemmas.List.{take-map, drop-map, length-map}
use Rattle.std.proofs.lemmas.Simd.{map-map}
use Rattle.std.proofs.Math.Seq.{drop-append_seam}
use Rattle.ada_static_rules.specs.Scope.{Scope, NameMeaning}
use Rattle.ada_static_rules.specs.Scope as plain
use Rattle.ada_static_rules.specs.Scope.{marking}
use Rattle.ada_tree.specs.declared.naming.Word.{Word}
use Rattle.ada_tree.specs.PlainStmt.{PFormal}
use Rattle.ada_static_rules.specs.Declaring.{seen_as, with_name, with_names, inner_scope, with_formals, formal_thing}
use Rattle.ada_scopes.specs.declared.denotations.Thing.{Thing}
use Rattle.ada_scopes.specs.declared.scope.Outer.{Outer}
use Rattle.ada_scopes.specs.Denotations.{plain_thing, plain_names}
use Rattle.ada_scopes.specs.Nested.{IsOuter, IsWithin}
use Rattle.common_lemmas.proofs.Numbers.{seam_at}

-- the numbers of the innermost names
here_names : (names : List (ℕ × Thing)) (n : ℕ) → map (λ s. s.0) (take n names) ≡ map (λ s. s.name) (take n (plain_names names))
here_names names n =
    let f : ℕ × Thing → NameMeaning = λ s. record { name = s.0; thing = plain_thing s.1 } in
    sym (map-map (λ s. s.name) f (take n names)) ∙ ap (map (λ s. s.name)) (sym (take-map f n names))

pub outer_is : (s : Scope) (names : List (ℕ × Thing)) (base count : ℕ) → s.names ≡ plain_names names → s.here ≡ map (λ x. x.0) (take (length names - base) names) → count ≡ length names → base ≤ length names → IsOuter s record { base = base; count = count }
outer_is s names base count named here counted within = record {
  count_is = counted ∙ sym (length-map names _) ∙ ap length (sym named);
  here_is =
      here
      ∙ ap (λ n. map (λ x. x.0) (take (n - base) names)) (sym counted)
      ∙ here_names names (count - base)
      ∙ ap (λ l. map (λ x. x.name) (take (count - base) l)) (sym named);
  base_within = subst (λ n. base ≤ n) (sym counted) within;
}

-- what is behind the new names
behind_new : (s : Scope) (new : List NameMeaning) (names : List (ℕ × Thing)) (count : ℕ) → count ≡ length s.names → plain_names names ≡ new ++ s.names → plain_names (drop (length names - count) names) ≡ s.names
behind_new s new names count counted named =
    let many : length names ≡ length new + count = sym (length-map names _) ∙ ap length named ∙ length-append new s.names ∙ ap (λ n. length new + n) (sym counted) in
    sym (drop-map _ (length names - count) names)
    ∙ ap (drop (length names - count)) named
    ∙ ap (λ n. drop n (new ++ s.names)) (seam_at (length names) (length new) count many)
    ∙ drop-append_seam new s.names

pub left_names : (s inner : Scope) (outer : Outer) (names left : List (ℕ × Thing)) → IsOuter s outer → IsWithin inner s → plain_names names ≡ inner.names → left ≡ drop (length names - outer.count) names → plain_names left ≡ s.names
left_names s inner outer names left is within named leaves = ap plain_names leaves ∙ behind_new s within.0 names outer.count is.count_is (named ∙ within.1)

pub left_here : (s inner : Scope) (outer : Outer) (names left : List (ℕ × Thing)) → IsOuter s outer → IsWithin inner s → plain_names names ≡ inner.names → left ≡ drop (length names - outer.count) names → map (λ x. x.0) (take (length left - outer.base) left) ≡ s.here
left_here s inner outer names left is within named leaves =
    let same : plain_names left ≡ s.names = left_names s inner outer names left is within named leaves in
    let many : length left ≡ outer.count = sym (length-map left _) ∙ ap length same ∙ sym is.count_is in
    ap (λ n. map (λ x. x.0) (take (n - outer.base) left)) many
    ∙ here_names left (outer.count - outer.base)
    ∙ ap (λ l. map (λ x. x.name) (take (outer.count - outer.base) l)) same
    ∙ sym is.here_is

-- ---- what is within

pub outer_fits : (s inner : Scope) (outer : Outer) → IsOuter s outer → IsWithin inner s → outer.count ≤ length inner.names
outer_fits s inner outer is within =
    let many : length inner.names ≡ length within.0 + length s.names = ap length within.1 ∙ length-append within.0 s.names in
    omega (arith, many, is.count_is)

pub within_inside : (s : Scope) → IsWithin (inner_scope s) s
within_inside s = ([], refl)

pub within_name : (s inner : Scope) (thing : plain.Thing) (w : Word) → IsWithin inner s → IsWithin (with_name thing inner w) s
within_name s inner thing w within = (seen_as thing w.name.0 ∷ within.0, ap (λ l. seen_as thing w.name.0 ∷ l) within.1)

pub within_names : (s inner : Scope) (thing : plain.Thing) (ws : List Word) → IsWithin inner s → IsWithin (with_names thing inner ws) s
within_names s inner thing [] within = within
within_names s inner thing (w ∷ ws) within = within_names s (with_name thing inner w) thing ws (within_name s inner thing w within)

pub within_formals : (s inner : Scope) (formals : List PFormal) → IsWithin inner s → IsWithin (with_formals inner formals) s
within_formals s inner [] within = within
within_formals s inner (f ∷ fs) within = within_formals s (with_names (formal_thing f.mode (marking inner f.mark.name)) inner f.names) fs (within_names s inner (formal_thing f.mode (marking inner f.mark.name)) f.names within)
