-- A task of the normal form, with its entries and their doubles.
use Rattle.std.proofs.Common.{◌≡◌, ℕ, ◌==◌, Bool, true, false, if◌then◌else◌, List, [], ◌∷◌, ◌++◌, map, Option, Some, None, IfSome, refl, sym, ap, ap₂, subst, ◌∙◌, true≢false}
use Rattle.std.specs.List.{AllByRecursion}
use Rattle.std.proofs.lemmas.Bool.{eq-eqb}
use Rattle.common_lemmas.proofs.Numbers.{equal_is}
use Rattle.ada_tree.specs.declared.naming.NameId.{NameId}
use Rattle.ada_tree.specs.declared.naming.Span.{Span}
use Rattle.ada_tree.specs.PlainExpr.{PDrange}
use Rattle.ada_tree.specs.PlainStmt.{PFormal}
use Rattle.ada_tree.specs.PlainDecl.{PEntry, PTask, DTask}
use Rattle.ada_tree.specs.PlainProgram.{PProgram}
use Rattle.ada_static_rules.specs.StaticValue.{first_of_two}
use Rattle.ada_static_rules.specs.Scope.{Scope, Family, single, EntryPart, FormalPart, SingleTask, scalar_kind, entry_named}
use Rattle.ada_static_rules.specs.Declaring.{family_of, entry_family, formal_parts, entry_part, task_thing, after_decl}
use Rattle.normal_laws.specs.structure.asked.Pieces.{IsAmong, first_among, later_among}
use Rattle.task_laws.specs.legal.alike_scopes.Old.{IsOldDrange, AreOldFormals}
use Rattle.normal_laws.proofs.structure.typed.Scopes.{differ}
use Rattle.replay_model.specs.Names.{never_text, join_text, added_id}
use Rattle.replay_model.specs.ReplayTree.{double_entry, more_entries}
use Rattle.replay_model.specs.Controlling.{added_entry}
use Rattle.replay_structure.specs.typed.ScopeOf.{HasLists, double_id}
use Rattle.replay_structure.specs.scopes.More.{AreDoubled, AreEntriesNew, IsTaskMore, IsGrown, doubled, IsMore}
use Rattle.replay_structure.specs.scopes.Form.{IsOldEntry}
use Rattle.replay_structure.proofs.scopes.Same.{drange-same, marking-same}
use Rattle.replay_structure.proofs.scopes.More.{name-both}
use Rattle.ada_static_rules.proofs.found_twice.FirstOfTwo.{first_or_none}

-- ---- lists of entries

-- the first of two lists that has an entry of a name
named-joined : (d : Scope) (xs ys : List PEntry) (id : NameId) → entry_named (map (entry_part d) (xs ++ ys)) id ≡ first_of_two (entry_named (map (entry_part d) xs) id) (entry_named (map (entry_part d) ys) id)
named-joined d [] ys id = refl
named-joined d (x ∷ xs) ys id = by_test (x.name.name.0 == id.0) (named-joined d xs ys id)
  where
    by_test : (b : Bool) → entry_named (map (entry_part d) (xs ++ ys)) id ≡ first_of_two (entry_named (map (entry_part d) xs) id) (entry_named (map (entry_part d) ys) id) →
        (if b then Some (entry_part d x) else entry_named (map (entry_part d) (xs ++ ys)) id) ≡ first_of_two (if b then Some (entry_part d x) else entry_named (map (entry_part d) xs) id) (entry_named (map (entry_part d) ys) id)
    by_test true e = refl
    by_test false e = e

-- none of them has the name
not-named : (d : Scope) (xs : List PEntry) (id : NameId) → AllByRecursion (λ (e : PEntry). (e.name.name.0 == id.0) ≡ false) xs → entry_named (map (entry_part d) xs) id ≡ None
not-named d [] id h = refl
not-named d (x ∷ xs) id h = ap (λ b. if b then Some (entry_part d x) else entry_named (map (entry_part d) xs) id) h.0 ∙ not-named d xs id h.1

module _ (q : PProgram) (old : ℕ → Bool) (new : AreEntriesNew q old) where
  others : (f : PEntry → NameId) (id : NameId) (x : Bool) → old id.0 ≡ x → (xs : List PEntry) → AllByRecursion (λ (e : PEntry). old (f e).0 ≡ (if x then false else true)) xs → AllByRecursion (λ (e : PEntry). ((f e).0 == id.0) ≡ false) xs
  others f id x o [] h = tt
  others f id true o (e ∷ xs) h = (differ old (f e).0 id.0 false true h.0 o (λ p. true≢false (sym p)), others f id true o xs h.1)
  others f id false o (e ∷ xs) h = (differ old (f e).0 id.0 true false h.0 o (λ p. true≢false p), others f id false o xs h.1)

  doubles-other : (id : NameId) (xs : List PEntry) → AllByRecursion (λ (e : PEntry). ((double_id q e.name.name).0 == id.0) ≡ false) xs → AllByRecursion (λ (e : PEntry). (e.name.name.0 == id.0) ≡ false) (map (double_entry q) xs)
  doubles-other id [] h = tt
  doubles-other id (e ∷ xs) h = (h.0, doubles-other id xs h.1)

  module _ (c d : Scope) (more : IsMore q old c d) where
    -- ---- the same entries

    formals-same : (fs : List PFormal) → AreOldFormals old fs → formal_parts c fs ≡ formal_parts d fs
    formals-same [] o = refl
    formals-same (f ∷ fs) o =
        ap₂ (λ m (rest : List FormalPart). map (λ w. record { name = w.name; mode = f.mode; mark = f.mark.name; kind = scalar_kind m }) f.names ++ rest) (marking-same q old c d more f.mark.name o.0) (formals-same fs o.1)

    family-same : (o : Option PDrange) → IfSome o (IsOldDrange old) → entry_family c o ≡ entry_family d o
    family-same None i = refl
    family-same (Some x) i = ap family_of (drange-same q old c d more x i)

    pub part-same : (e : PEntry) → IsOldEntry old e → entry_part c e ≡ entry_part d e
    part-same e o = ap₂ (λ x y. record { name = e.name.name; family = x; formals = y }) (family-same e.family o.family) (formals-same e.formals o.formals)

    parts-same : (es : List PEntry) → AllByRecursion (IsOldEntry old) es → map (entry_part c) es ≡ map (entry_part d) es
    parts-same [] o = refl
    parts-same (e ∷ es) o = ap₂ (λ (x : EntryPart) xs. x ∷ xs) (part-same e o.0) (parts-same es o.1)

    module _ (s : Span) (es : List PEntry) (olds : AllByRecursion (IsOldEntry old) es) (names : AreDoubled q old es) where
      abbrev extra : List PEntry
      extra = added_entry q s never_text None [] ∷ added_entry q s join_text None [] ∷ []

      abbrev all : List EntryPart
      all = map (entry_part d) (es ++ map (double_entry q) es ++ extra)

      split : (id : NameId) → entry_named all id
          ≡ first_of_two (first_of_two (entry_named (map (entry_part d) es) id) (entry_named (map (entry_part d) (map (double_entry q) es)) id)) (entry_named (map (entry_part d) extra) id)
      split id =
          named-joined d (es ++ map (double_entry q) es) extra id
          ∙ ap (λ o. first_of_two o (entry_named (map (entry_part d) extra) id)) (named-joined d es (map (double_entry q) es) id)

      -- an old name
      old-named : (id : NameId) → old id.0 ≡ true → entry_named (map (entry_part c) es) id ≡ entry_named all id
      old-named id o =
          let first = entry_named (map (entry_part d) es) id in
          let no_double : entry_named (map (entry_part d) (map (double_entry q) es)) id ≡ None =
          not-named d (map (double_entry q) es) id (doubles-other id es (others (λ e. double_id q e.name.name) id true o es names.added)) in
          let no_extra : entry_named (map (entry_part d) extra) id ≡ None =
          not-named d extra id (differ old (added_id q never_text).0 id.0 false true new.never o (λ p. true≢false (sym p)), (differ old (added_id q join_text).0 id.0 false true new.join o (λ p. true≢false (sym p)), tt)) in
          ap (λ l. entry_named l id) (parts-same es olds)
          ∙ sym (split id ∙ ap₂ (λ x y. first_of_two (first_of_two first x) y) no_double no_extra ∙ first_or_none (first_of_two first None) ∙ first_or_none first)

      -- a name that is new
      new-named : (id : NameId) → old id.0 ≡ false → entry_named all id ≡ first_of_two (entry_named (map (entry_part d) (map (double_entry q) es)) id) (entry_named (map (entry_part d) extra) id)
      new-named id o =
          split id
          ∙ ap (λ x. first_of_two (first_of_two x (entry_named (map (entry_part d) (map (double_entry q) es)) id)) (entry_named (map (entry_part d) extra) id))
          (not-named d es id (others (λ e. e.name.name) id false o es names.named))

      extra-lists : (t : List ℕ) → HasLists (Some (entry_part d (added_entry q s t None []))) single []
      extra-lists t = record { its = entry_part d (added_entry q s t None []); is = refl; members_are = refl; formals_are = refl }

      never-there : HasLists (entry_named all (added_id q never_text)) single []
      never-there =
          subst (λ o. HasLists o single [])
          (sym
          (new-named (added_id q never_text) new.never
          ∙ ap (λ x. first_of_two x (entry_named (map (entry_part d) extra) (added_id q never_text))) (not-named d (map (double_entry q) es) (added_id q never_text) (doubles-other (added_id q never_text) es names.never))
          ∙ ap (λ b. if b then Some (entry_part d (added_entry q s never_text None [])) else entry_named (map (entry_part d) (added_entry q s join_text None [] ∷ [])) (added_id q never_text)) (eq-eqb (added_id q never_text).0 (added_id q never_text).0 refl)))
          (extra-lists never_text)

      join-there : HasLists (entry_named all (added_id q join_text)) single []
      join-there =
          subst (λ o. HasLists o single [])
          (sym
          (new-named (added_id q join_text) new.join
          ∙ ap (λ x. first_of_two x (entry_named (map (entry_part d) extra) (added_id q join_text))) (not-named d (map (double_entry q) es) (added_id q join_text) (doubles-other (added_id q join_text) es names.join))
          ∙ ap (λ b. if b then Some (entry_part d (added_entry q s never_text None [])) else entry_named (map (entry_part d) (added_entry q s join_text None [] ∷ [])) (added_id q join_text)) new.other
          ∙ ap (λ b. if b then Some (entry_part d (added_entry q s join_text None [])) else None) (eq-eqb (added_id q join_text).0 (added_id q join_text).0 refl)))
          (extra-lists join_text)

      -- ---- doubles

      -- an entry of that name
      record IsFound (xs : List PEntry) (id : NameId) : Type 0 where
        its : PEntry
        among : IsAmong its xs
        name : its.name.name.0 ≡ id.0
        new_name : old (double_id q its.name.name).0 ≡ false

      found : (xs : List PEntry) (id : NameId) (part : EntryPart) → AllByRecursion (λ (e : PEntry). old (double_id q e.name.name).0 ≡ false) xs → entry_named (map (entry_part c) xs) id ≡ Some part → IsFound xs id
      found [] id part n e = cc
      found (x ∷ xs) id part n e = by_test (x.name.name.0 == id.0) refl e (found xs id part n.1)
        where
          by_test : (b : Bool) → (x.name.name.0 == id.0) ≡ b → (if b then Some (entry_part c x) else entry_named (map (entry_part c) xs) id) ≡ Some part → (entry_named (map (entry_part c) xs) id ≡ Some part → IsFound xs id) → IsFound (x ∷ xs) id
          by_test true t f later = record { its = x; among = first_among xs; name = equal_is x.name.name.0 id.0 t; new_name = n.0 }
          by_test false t f later = let r : IsFound xs id = later f in record { its = r.its; among = later_among x xs r.among; name = r.name; new_name = r.new_name }

      -- two entries have the same name where their doubles have
      tests-agree : (id : NameId) (x : PEntry) → x.name.name.0 ≡ id.0 → IsAmong x es → (y : PEntry) → IsAmong y es → ((double_id q y.name.name).0 == (double_id q id).0) ≡ (y.name.name.0 == id.0)
      tests-agree id x e i y j = by_names (y.name.name.0 == id.0) refl
        where
          same-double : (a b : NameId) → a.0 ≡ b.0 → (double_id q a).0 ≡ (double_id q b).0
          same-double a b f = ap (λ n. (double_id q record { 0 = n }).0) f

          by_names : (b : Bool) → (y.name.name.0 == id.0) ≡ b → ((double_id q y.name.name).0 == (double_id q id).0) ≡ b
          by_names true t = eq-eqb (double_id q y.name.name).0 (double_id q id).0 (same-double y.name.name id (equal_is y.name.name.0 id.0 t))
          by_names false t = by_doubles ((double_id q y.name.name).0 == (double_id q id).0) refl
            where
              by_doubles : (b : Bool) → ((double_id q y.name.name).0 == (double_id q id).0) ≡ b → b ≡ false
              by_doubles false f = refl
              by_doubles true f =
                  let z : y.name.name.0 ≡ x.name.name.0 = names.apart y x j i (equal_is (double_id q y.name.name).0 (double_id q id).0 f ∙ sym (same-double x.name.name id e)) in
                  absurd (true≢false (sym (eq-eqb y.name.name.0 id.0 (z ∙ e)) ∙ t))

      find-double : (xs : List PEntry) (id : NameId) (part : EntryPart) → AllByRecursion (IsOldEntry old) xs → ((y : PEntry) → IsAmong y xs → ((double_id q y.name.name).0 == (double_id q id).0) ≡ (y.name.name.0 == id.0)) →
          entry_named (map (entry_part c) xs) id ≡ Some part → HasLists (entry_named (map (entry_part d) (map (double_entry q) xs)) (double_id q id)) part.family part.formals
      find-double [] id part o agree e = cc
      find-double (x ∷ xs) id part o agree e =
          subst (λ b. HasLists (if b then Some (entry_part d (double_entry q x)) else entry_named (map (entry_part d) (map (double_entry q) xs)) (double_id q id)) part.family part.formals) (sym (agree x (first_among xs)))
          (by_test (x.name.name.0 == id.0) e (find-double xs id part o.1 (λ y i. agree y (later_among x xs i))))
        where
          by_test : (b : Bool) → (if b then Some (entry_part c x) else entry_named (map (entry_part c) xs) id) ≡ Some part →
              (entry_named (map (entry_part c) xs) id ≡ Some part → HasLists (entry_named (map (entry_part d) (map (double_entry q) xs)) (double_id q id)) part.family part.formals) →
              HasLists (if b then Some (entry_part d (double_entry q x)) else entry_named (map (entry_part d) (map (double_entry q) xs)) (double_id q id)) part.family part.formals
          by_test true f later =
              let p : entry_part c x ≡ part = cc in
              let same : entry_part d x ≡ part = sym (part-same x o.0) ∙ p in
              record { its = entry_part d (double_entry q x); is = refl; members_are = ap (λ (y : EntryPart). y.family) same; formals_are = ap (λ (y : EntryPart). y.formals) same }
          by_test false f later = later f

      in-front : (a b : Option EntryPart) (members : Family) (formals : List FormalPart) → HasLists a members formals → HasLists (first_of_two a b) members formals
      in-front (Some x) b members formals h = h
      in-front None b members formals h = let e = h.is in cc

      doubles-there : (id : NameId) (part : EntryPart) → entry_named (map (entry_part c) es) id ≡ Some part → HasLists (entry_named all (double_id q id)) part.family part.formals
      doubles-there id part e =
          let x : IsFound es id = found es id part names.added e in
          let fresh : old (double_id q id).0 ≡ false = ap (λ n. old (double_id q record { 0 = n }).0) (sym x.name) ∙ x.new_name in
          subst (λ o. HasLists o part.family part.formals) (sym (new-named (double_id q id) fresh))
          (in-front (entry_named (map (entry_part d) (map (double_entry q) es)) (double_id q id)) (entry_named (map (entry_part d) extra) (double_id q id)) part.family part.formals
          (find-double es id part olds (tests-agree id x.its x.name x.among) e))

      -- the task with more entries
      pub task-more : IsTaskMore q old (map (entry_part c) es) (Some (SingleTask all))
      task-more = record {
        doubles = record { more = all; means = refl; same = old-named; doubles = doubles-there };
        never = never-there;
        join = join-there;
      }

    -- A single task on both sides.
    pub task-both : (t : PTask) (s : Span) → t.of_kind ≡ false → AllByRecursion (IsOldEntry old) t.entries → AreDoubled q old t.entries →
        IsMore q old (after_decl c (DTask t s)) (after_decl d (DTask (record { name = t.name; of_kind = t.of_kind; entries = more_entries q t; priorities = t.priorities }) s))
    task-both t s kind olds names =
        name-both q old (task_thing t.of_kind (map (entry_part c) t.entries)) (task_thing t.of_kind (map (entry_part d) (more_entries q t))) t.name c d
        (subst (λ b. IsGrown q old (Some (task_thing b (map (entry_part c) t.entries))) (Some (task_thing b (map (entry_part d) (more_entries q t))))) (sym kind)
        (doubled (map (entry_part c) t.entries) refl (task-more t.name.span t.entries olds names)))
        more
