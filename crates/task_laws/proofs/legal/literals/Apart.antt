-- Names that one declaration declares differ, and each of names that differ is found at its own place.
use Rattle.std.proofs.Common.{◌≡◌, ◌+◌, ℕ, zero, suc, Bool, true, false, not, ◌||◌, ◌&&◌, ◌==◌, cond, nat_lt, List, [], ◌∷◌, length, map, slice_get, Some, None, ap, ◌∙◌, arith}
use Rattle.std.specs.Prelude.{position}
use Rattle.std.specs.List.{AllByRecursion, list_any, position_or_len}
use Rattle.std.proofs.lemmas.Bool.{or_parts, eq-eqb}
use Rattle.std.proofs.lemmas.Option.{none-some, slice_get_within}
use Rattle.ada_tree.specs.declared.naming.NameId.{NameId}
use Rattle.ada_tree.specs.declared.naming.Word.{Word}
use Rattle.ada_static_rules.specs.Scope.{Scope}
use Rattle.ada_static_rules.specs.Demand.{declares, Site}
use Rattle.ada_static_rules.specs.Sites.{names_sites}
use Rattle.ada_static_rules.specs.RuleDuplicate.{is_predefined, is_among, fixes, introduces, duplicate}
use Rattle.task_laws.proofs.legal.rewritten_types.Lookups.{place-all}
use Rattle.task_laws.specs.legal.sites.Met.{IsMet}
use Rattle.task_laws.proofs.legal.types.TaskTypes.{no-word, among-apart, among-first, among-more}
use Rattle.common_lemmas.proofs.Numbers.{lt_true}
use Rattle.common_lemmas.proofs.Options.{some_same}

-- the name is none of these
abbrev pub IsNoneOf : ℕ → List NameId → Type 0
IsNoneOf n ids = AllByRecursion (λ (y : NameId). (n == y.0) ≡ false) ids

-- each name is none of those behind it
abbrev pub AreApart : List NameId → Type 0
AreApart [] = Unit {0}
AreApart (x ∷ xs) = IsNoneOf x.0 xs × AreApart xs

-- ---- the rule

-- a name that is declared is none of those that stand before it in its scope
not-among : (before : List Site) (s : Scope) (fixed : Bool) (w : Word) → duplicate before s (declares fixed w) ≡ [] → is_among s.here w.name.0 ≡ false
not-among before s fixed w e =
    let n = w.name.0 in
    let f = no-word (is_predefined n || is_among s.here n || list_any (fixes n) before || (fixed && list_any (introduces n) before)) w e in
    let g = or_parts (is_predefined n || is_among s.here n || list_any (fixes n) before) (fixed && list_any (introduces n) before) f in
    let h = or_parts (is_predefined n || is_among s.here n) (list_any (fixes n) before) g.0 in
    (or_parts (is_predefined n) (is_among s.here n) h.0).1

-- a name that stands there is none of those that are declared behind it
none-behind : (fixed : Bool) (ws : List Word) (s : Scope) (n : ℕ) → is_among s.here n ≡ true → AllByRecursion IsMet (names_sites fixed s ws) → IsNoneOf n (map (λ (w : Word). w.name) ws)
none-behind fixed [] s n e h = tt
none-behind fixed (w ∷ ws) s n e h = (
  among-apart s.here n w.name.0 e (not-among h.0.before s fixed w h.0.once),
  none-behind fixed ws (record s { here = w.name.0 ∷ s.here }) n (among-more s.here w.name.0 n e) h.1,
)

-- Names at which nothing is refused differ.
pub names-apart : (fixed : Bool) (ws : List Word) (s : Scope) → AllByRecursion IsMet (names_sites fixed s ws) → AreApart (map (λ (w : Word). w.name) ws)
names-apart fixed [] s h = tt
names-apart fixed (w ∷ ws) s h =
    let t : Scope = record s { here = w.name.0 ∷ s.here } in
    (none-behind fixed ws t w.name.0 (among-first s.here w.name.0) h.1, names-apart fixed ws t h.1)

-- ---- places

place-found : (ids : List NameId) → AreApart ids → (i : ℕ) (id : NameId) → slice_get ids i ≡ Some id → position_or_len (λ (y : NameId). y.0 == id.0) ids ≡ i
place-found [] h i id e = absurd (none-some id e)
place-found (x ∷ xs) h zero id e =
    ap (λ b. cond (not b) (1 + position_or_len (λ (y : NameId). y.0 == id.0) xs) 0) (eq-eqb x.0 id.0 (ap (λ (y : NameId). y.0) (some_same e)))
place-found (x ∷ xs) h (suc i) id e =
    let other : (x.0 == id.0) ≡ false = place-all (λ (y : NameId). (x.0 == y.0) ≡ false) xs i id h.0 e in
    let rest = place-found xs h.1 i id e in
    let more : 1 + i ≡ suc i = omega arith in
    ap (λ b. cond (not b) (1 + position_or_len (λ (y : NameId). y.0 == id.0) xs) 0) other ∙ ap (λ n. 1 + n) rest ∙ more

-- Each of names that differ is found at its own place.
pub found-first : (ids : List NameId) → AreApart ids → (i : ℕ) (id : NameId) → slice_get ids i ≡ Some id → position (λ (y : NameId). y.0 == id.0) ids ≡ Some i
found-first ids h i id e =
    ap (λ n. cond (nat_lt n (length ids)) (Some n) None) (place-found ids h i id e)
    ∙ ap (λ b. cond b (Some i) None) (lt_true i (length ids) (slice_get_within ids i id e))
