-- The names of a collecting text of a program with abort statements, for the rules 13 to 23: a kept name has the text that it had, and is no variable of a place; and what is met with the names of a text without aborts is met with these, since no name that comes behind is too long.
use Rattle.std.proofs.Common.{◌≡◌, ℕ, zero, suc, ◌+◌, ◌<◌, ◌≤◌, ◌==◌, not, nat_lt, nat_le, ◌&&◌, Bool, true, false, if◌then◌else◌, List, [], ◌∷◌, ◌++◌, length, refl, sym, ap, ◌∙◌, eqb-true, arith}
use Rattle.std.specs.List.{AllByRecursion, list_any}
use Rattle.std.specs.Str.{bytes_eq}
use Rattle.std.proofs.lemmas.Bool.{ltb-true}
use Rattle.common_lemmas.proofs.Lists.{all_weaker}
use Rattle.common_lemmas.proofs.Truth.{and_left, and_right, clash, not_true}
use Rattle.ada_tree.specs.NameList.{interned}
use Rattle.ada_tree.specs.declared.naming.NameId.{NameId}
use Rattle.ada_tree.specs.PlainProgram.{PProgram}
use Rattle.syn_event.specs.declared.numbering.Mode.TheVariants.{Any}
use Rattle.syn_event.specs.CheckScope.{CheckScope, CheckSite, CheckDemand, declares, uses, addresses, aborts_before, accepts, waits, exits, raises_again, needs_body, counts}
use Rattle.syn_event.specs.CheckSites.{site}
use Rattle.syn_event.specs.DeclaredTasks.{text_of}
use Rattle.syn_event.specs.RuleLimit.{over_limit}
use Rattle.syn_event.specs.RuleReservedName.{reserved_name}
use Rattle.syn_event.proofs.Nothing.{test_fails}
use Rattle.task_laws.specs.legal.sites.Met.{IsCheckMet}
use Rattle.normal_laws.proofs.structure.checked.Places.{met-name}
use Rattle.normal_laws.proofs.structure.numbers.Named.{Has, text-longer, text-there}
use Rattle.collect_model.specs.Names.{collect_names}
use Rattle.collect_structure.specs.Names as collect
use Rattle.normal_laws.proofs.structure.checked.Kept.{under-limit}
use Rattle.collect_model.specs.aborts.Names.{acceptors_text, each_text, taken_text, refused_text, with_places, with_recorded}
use Rattle.collect_model.specs.aborts.Places.{most_places}
use Rattle.collect_model.specs.aborts.AbortTeller.{names_told}
use Rattle.collect_structure.specs.aborts.Names.{added_id, is_further, kept_name}
use Rattle.collect_structure.proofs.aborts.placed.Texts.{taken-identifier, refused-identifier}
use Rattle.collect_structure.proofs.aborts.texts.Named.{abort-begins}

-- ---- kept names

module _ (q : PProgram) where
  -- it is kept in a text without aborts too
  pub still-kept : (n : ℕ) → kept_name q n ≡ true → collect.kept_name q n ≡ true
  still-kept n h = and_left (collect.kept_name q n) _ h

  kept-within : (id : NameId) → kept_name q id.0 ≡ true → id.0 < length q.names
  kept-within id h = ltb-true id.0 (length q.names) (and_left (nat_lt id.0 (length q.names)) _ (still-kept id.0 h))

  pub kept-text : (id : NameId) → kept_name q id.0 ≡ true → text_of (names_told q) id ≡ text_of q.names id
  kept-text id h = text-longer q.names (names_told q) id (abort-begins q) (kept-within id h)

  kept-no-further : (id : NameId) → kept_name q id.0 ≡ true → is_further (text_of q.names id) ≡ false
  kept-no-further id h = not_true (is_further (text_of q.names id)) (and_right (collect.kept_name q id.0) (not (is_further (text_of q.names id))) h)

  -- it is none of the recorder's further names, and no variable of a place
  pub further-other : (id : NameId) (t : List ℕ) → kept_name q id.0 ≡ true → Has (names_told q) t → is_further t ≡ true → ((added_id q t).0 == id.0) ≡ false
  further-other id t h there further = by_test ((added_id q t).0 == id.0) refl
    where
      by_test : (b : Bool) → ((added_id q t).0 == id.0) ≡ b → b ≡ false
      by_test false e = refl
      by_test true e =
          let n : (added_id q t).0 ≡ id.0 = eqb-true (added_id q t).0 id.0 e in
          let same : t ≡ text_of q.names id = sym (text-there (names_told q) t there) ∙ (λ i. text_of (names_told q) record { 0 = n i }) ∙ kept-text id h in
          clash (sym (kept-no-further id h) ∙ ap is_further (sym same) ∙ further)

-- ---- lengths

-- a name that is short enough in the first list is so in the second
abbrev StayShort : List (List ℕ) → List (List ℕ) → Type 0
StayShort ts us = (n : ℕ) → length (text_of ts record { 0 = n }) ≤ 150 → length (text_of us record { 0 = n }) ≤ 150

last-short : (ts : List (List ℕ)) (t : List ℕ) → length t ≤ 150 → StayShort ts (ts ++ t ∷ [])
last-short [] t l zero h = l
last-short [] t l (suc n) h = omega arith
last-short (u ∷ ts) t l zero h = h
last-short (u ∷ ts) t l (suc n) h = last-short ts t l n h

interned-short : (ts : List (List ℕ)) (t : List ℕ) → length t ≤ 150 → StayShort ts (interned ts t)
interned-short ts t l = by_test (list_any (bytes_eq t) ts)
  where
    by_test : (b : Bool) → StayShort ts (if b then ts else ts ++ t ∷ [])
    by_test true n h = h
    by_test false n h = last-short ts t l n h

places-short : (ts : List (List ℕ)) (m : ℕ) → StayShort ts (with_places ts m)
places-short ts zero n h = h
places-short ts (suc m) n h =
    let taken : length (taken_text (suc m)) ≤ 150 = (taken-identifier (suc m)).1 in
    let refused : length (refused_text (suc m)) ≤ 150 = (refused-identifier (suc m)).1 in
    interned-short (interned (with_places ts m) (taken_text (suc m))) (refused_text (suc m)) refused n
    (interned-short (with_places ts m) (taken_text (suc m)) taken n (places-short ts m n h))

recorded-short : (q : PProgram) → StayShort (collect_names q) (with_recorded q.names)
unfolding with_recorded
recorded-short q n h =
    interned-short (interned (collect_names q) acceptors_text) each_text (omega arith) n (interned-short (collect_names q) acceptors_text (omega arith) n h)

module _ (q : PProgram) where
  told-short : StayShort (collect_names q) (names_told q)
  told-short n h = places-short (with_recorded q.names) (most_places q) n (recorded-short q n h)

  -- what is met where the names are those of a text without aborts
  abbrev Before : CheckSite → Type 0
  Before y = IsCheckMet Any (collect_names q) y

  abbrev Now : CheckSite → Type 0
  Now y = IsCheckMet Any (names_told q) y

  same-met : (c : CheckScope) (x : CheckDemand) → reserved_name Any (names_told q) x ≡ [] → over_limit Any (names_told q) x ≡ [] → Before (site c x) →
      Now (site c x)
  same-met c x r l m = record {
    shared = m.shared;
    accepts = m.accepts;
    selects = m.selects;
    twice = m.twice;
    reserved = r;
    main = m.main;
    order = m.order;
    bodies = m.bodies;
    exits = m.exits;
    raises = m.raises;
    limits = l;
  }

  demand-met : (c : CheckScope) (x : CheckDemand) → Before (site c x) → Now (site c x)
  demand-met c (declares w) m =
      let n : ℕ = length (text_of (collect_names q) w.name) in
      let few : n ≤ 150 = under-limit 150 n (test_fails (nat_le 0 150 && nat_lt 150 (0 + n)) _ m.limits) in
      met-name (names_told q) c w (told-short w.name.0 few)
  demand-met c (uses id s) m = same-met c (uses id s) refl refl m
  demand-met c (addresses w) m = same-met c (addresses w) refl refl m
  demand-met c (aborts_before w) m = same-met c (aborts_before w) refl refl m
  demand-met c (accepts h) m = same-met c (accepts h) refl refl m
  demand-met c (waits xs others s) m = same-met c (waits xs others s) refl refl m
  demand-met c (exits w s) m = same-met c (exits w s) refl refl m
  demand-met c (raises_again s) m = same-met c (raises_again s) refl refl m
  demand-met c (needs_body ids w s) m = same-met c (needs_body ids w s) refl refl m
  demand-met c (counts what before here s) m = same-met c (counts what before here s) refl m.limits m

  -- It is met with the names of the text.
  pub longer-met : (y : CheckSite) → Before y → Now y
  longer-met y m = demand-met y.scope y.demand m

  pub longer : (ys : List CheckSite) → AllByRecursion Before ys → AllByRecursion Now ys
  longer ys m = all_weaker Before Now ys longer-met m
