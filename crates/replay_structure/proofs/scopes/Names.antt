-- The names that a replay text adds are new, and differ from one another.
use Rattle.std.proofs.Common.{◌≡◌, ℕ, ◌==◌, not, ◌&&◌, ◌||◌, ◌<◌, nat_lt, nat_eq, Bool, true, false, List, [], ◌∷◌, ◌++◌, length, map, flat_map, slice_get, unwrap_or, codes, Some, refl, sym, ap, ap₂, subst, ◌∙◌, true≢false}
use Rattle.std.specs.List.{list_any, starts_with, AllByRecursion}
use Rattle.std.specs.Str.{bytes_eq}
use Rattle.std.proofs.lemmas.Bool.{ltb-true, lt-ltb}
use Rattle.std.proofs.lemmas.Slice.Eq.{bytes_eq-Decides}
use Rattle.common_lemmas.proofs.Truth.{and_left}
use Rattle.common_lemmas.proofs.Numbers.{equal_is}
use Rattle.common_lemmas.proofs.Lists.{element_at, all_joined, all_weaker, texts_differ}
use Rattle.ada_tree.specs.declared.naming.NameId.{NameId}
use Rattle.ada_tree.specs.PlainDecl.{PEntry, PTask}
use Rattle.ada_tree.specs.PlainProgram.{PProgram}
use Rattle.syn_event.specs.DeclaredTasks.{text_of, tasks_of}
use Rattle.normal_laws.proofs.structure.numbers.Named.{Has, has-folded, has-back, text-there, text-longer}
use Rattle.replay_model.specs.declared.tables.columns.Column.{Column}
use Rattle.replay_model.specs.declared.tables.columns.Column.TheVariants.{Operation, Task, Kind, Argument, Index}
use Rattle.replay_model.specs.tables.Columns.{table_name}
use Rattle.replay_model.specs.Controlling.{control_ids}
use Rattle.replay_model.specs.Names.{kind_text, argument_text, index_text, control_text, go_text, done_text, hold_text, idle_text, stop_text, rest_text, never_text, join_text, operations_text, tasks_text, kinds_text, arguments_text, indices_text, counter_text, added_texts, double_text, double_texts, replay_names, added_id}
use Rattle.replay_structure.proofs.texts.Rooted.{replay-begins, replay-has, ids-apart}
use Rattle.replay_structure.proofs.checked.Names.{each-flat, IsDoubled, doubles-named}
use Rattle.replay_structure.specs.typed.ScopeOf.{double_id}
use Rattle.replay_structure.specs.scopes.More.{AreDoubled, AreEntriesNew, ArePermitsNew, AreTablesNew}
use Rattle.replay_structure.specs.scopes.Form.{IsOtherThanPermit, AreEntriesApart}
use Rattle.replay_structure.specs.declares_once.Names.{declared_texts}
use Rattle.replay_structure.specs.scopes.Names.{new_texts, old_name}
use Rattle.replay_structure.proofs.declares_once.Texts.{none-equal}
use Rattle.normal_laws.proofs.structure.placed.Made.{among}

module _ (q : PProgram) where
  -- a new text has a new id
  new-id : (t : List ℕ) → Has (new_texts q) t → Has (replay_names q) t → old_name q (added_id q t).0 ≡ false
  new-id t h r = by_test (nat_lt (added_id q t).0 (length q.names)) refl
    where
      by_test : (c : Bool) → nat_lt (added_id q t).0 (length q.names) ≡ c → (c && not (list_any (bytes_eq (text_of q.names (added_id q t))) (new_texts q))) ≡ false
      by_test false e = refl
      by_test true e =
          let same : text_of q.names (added_id q t) ≡ t = sym (text-longer q.names (replay_names q) (added_id q t) (replay-begins q) (ltb-true _ _ e)) ∙ text-there (replay_names q) t r in
          ap not (subst (λ v. list_any (bytes_eq v) (new_texts q) ≡ true) (sym same) h)

  pub entries-new : AreEntriesNew q (old_name q)
  entries-new = record {
    never = new-id never_text refl (replay-has q never_text refl);
    join = new-id join_text refl (replay-has q join_text refl);
    other = ids-apart q never_text join_text refl refl (texts_differ never_text join_text refl);
  }

  pub permits-new : ArePermitsNew q (old_name q)
  permits-new = record {
    kind = new-id kind_text refl (replay-has q kind_text refl);
    argument = new-id argument_text refl (replay-has q argument_text refl);
    index = new-id index_text refl (replay-has q index_text refl);
  }

  pub tables-new : AreTablesNew q (old_name q)
  tables-new = record { tables = by_column; counter = new-id counter_text refl (replay-has q counter_text refl) }
    where
      by_column : (column : Column) → old_name q (table_name (control_ids q) column).0 ≡ false
      by_column Operation = new-id operations_text refl (replay-has q operations_text refl)
      by_column Task = new-id tasks_text refl (replay-has q tasks_text refl)
      by_column Kind = new-id kinds_text refl (replay-has q kinds_text refl)
      by_column Argument = new-id arguments_text refl (replay-has q arguments_text refl)
      by_column Index = new-id indices_text refl (replay-has q indices_text refl)

  pub control-new : old_name q (added_id q control_text).0 ≡ false
  control-new = new-id control_text refl (replay-has q control_text refl)

  pub idle-new : old_name q (added_id q idle_text).0 ≡ false
  idle-new = new-id idle_text refl (replay-has q idle_text refl)

  pub control-other : IsOtherThanPermit q (added_id q control_text)
  control-other = record {
    kind = ids-apart q kind_text control_text refl refl (texts_differ kind_text control_text refl);
    argument = ids-apart q argument_text control_text refl refl (texts_differ argument_text control_text refl);
    index = ids-apart q index_text control_text refl refl (texts_differ index_text control_text refl);
  }

  pub idle-other : IsOtherThanPermit q (added_id q idle_text)
  idle-other = record {
    kind = ids-apart q kind_text idle_text refl refl (texts_differ kind_text idle_text refl);
    argument = ids-apart q argument_text idle_text refl refl (texts_differ argument_text idle_text refl);
    index = ids-apart q index_text idle_text refl refl (texts_differ index_text idle_text refl);
  }

  pub tasks-apart : ((added_id q control_text).0 == (added_id q idle_text).0) ≡ false
  tasks-apart = ids-apart q control_text idle_text refl refl (texts_differ control_text idle_text refl)

  pub entries-apart : AreEntriesApart q
  entries-apart = record {
    go_done = ids-apart q go_text done_text refl refl (texts_differ go_text done_text refl);
    go_hold = ids-apart q go_text hold_text refl refl (texts_differ go_text hold_text refl);
    done_hold = ids-apart q done_text hold_text refl refl (texts_differ done_text hold_text refl);
    stop_rest = ids-apart q stop_text rest_text refl refl (texts_differ stop_text rest_text refl);
  }

  -- ---- doubles

  -- the double of an entry has a new name
  abbrev IsDoubleNew : PEntry → Type 0
  IsDoubleNew e = old_name q (double_id q e.name.name).0 ≡ false

  doubles-new : AllByRecursion (λ (t : PTask). AllByRecursion IsDoubleNew t.entries) (tasks_of q)
  doubles-new =
      each-flat (λ (t : PTask). t.entries) (λ e. double_text (text_of q.names e.name.name)) (λ t. old_name q (added_id q t).0 ≡ false) (tasks_of q)
      (λ t h. new-id t (has-back declared_texts (flat_map (double_texts q.names) (tasks_of q)) t h)
      (has-folded (added_texts ++ flat_map (double_texts q.names) (tasks_of q)) q.names t (has-back added_texts (flat_map (double_texts q.names) (tasks_of q)) t h)))

  abbrev rest-of : List ℕ → List ℕ
  rest-of [] = []
  rest-of (x ∷ xs) = xs

  -- what is doubled is told by its double
  double-told : (a b : List ℕ) → double_text a ≡ double_text b → a ≡ b
  double-told a b e = ap (λ l. rest-of (rest-of (rest-of (rest-of (rest-of (rest-of l)))))) e

  same-text : (a b : NameId) → a.0 ≡ b.0 → text_of (replay_names q) a ≡ text_of (replay_names q) b
  same-text a b e = ap (λ n. text_of (replay_names q) record { 0 = n }) e

  module _ (distinct : (t : List ℕ) (i j : ℕ) → slice_get q.names i ≡ Some t → slice_get q.names j ≡ Some t → i ≡ j) where
    -- an old name is told by its text
    name-told : (a b : NameId) → old_name q a.0 ≡ true → old_name q b.0 ≡ true → text_of q.names a ≡ text_of q.names b → a.0 ≡ b.0
    name-told a b o p e =
        let x = element_at q.names a.0 (ltb-true _ _ (and_left (nat_lt a.0 (length q.names)) _ o)) in
        let y = element_at q.names b.0 (ltb-true _ _ (and_left (nat_lt b.0 (length q.names)) _ p)) in
        let same : x.0 ≡ y.0 = sym (ap (λ k. unwrap_or k []) x.1) ∙ e ∙ ap (λ k. unwrap_or k []) y.1 in
        distinct y.0 a.0 b.0 (x.1 ∙ ap (λ (v : List ℕ). Some v) same) y.1

    -- no double is an added name of another form
    other-double : (t : List ℕ) → Has added_texts t → ((a : List ℕ) → bytes_eq (double_text a) t ≡ false) → (x : PEntry) → IsDoubled q x → ((double_id q x.name.name).0 == (added_id q t).0) ≡ false
    other-double t h n x d = by_test ((double_id q x.name.name).0 == (added_id q t).0) refl
      where
        by_test : (c : Bool) → ((double_id q x.name.name).0 == (added_id q t).0) ≡ c → c ≡ false
        by_test false e = refl
        by_test true e =
            absurd
            (texts_differ (double_text (text_of q.names x.name.name)) t (n (text_of q.names x.name.name))
            (sym d ∙ same-text (double_id q x.name.name) (added_id q t) (equal_is _ _ e) ∙ text-there (replay_names q) t (replay-has q t h)))

    others : (t : List ℕ) → Has added_texts t → ((a : List ℕ) → bytes_eq (double_text a) t ≡ false) → (xs : List PEntry) → AllByRecursion (IsDoubled q) xs → AllByRecursion (λ (e : PEntry). ((double_id q e.name.name).0 == (added_id q t).0) ≡ false) xs
    others t h n [] d = tt
    others t h n (x ∷ xs) d = (other-double t h n x d.0, others t h n xs d.1)

    doubled-of : (es : List PEntry) → AllByRecursion (λ (e : PEntry). old_name q e.name.name.0 ≡ true) es → AllByRecursion IsDoubleNew es → AllByRecursion (IsDoubled q) es → AreDoubled q (old_name q) es
    doubled-of es named added texts = record {
      named = named;
      added = added;
      apart = λ x y i j e.
          name-told x.name.name y.name.name (among (λ (z : PEntry). old_name q z.name.name.0 ≡ true) x es i named) (among (λ (z : PEntry). old_name q z.name.name.0 ≡ true) y es j named)
          (double-told (text_of q.names x.name.name) (text_of q.names y.name.name)
          (sym (among (IsDoubled q) x es i texts) ∙ same-text (double_id q x.name.name) (double_id q y.name.name) e ∙ among (IsDoubled q) y es j texts));
      never = others never_text refl (λ a. refl) es texts;
      join = others join_text refl (λ a. refl) es texts;
    }

    -- each task's entries are as asked, where their names are old
    pub tasks-doubled : AllByRecursion (λ (t : PTask). AllByRecursion (λ (e : PEntry). old_name q e.name.name.0 ≡ true) t.entries) (tasks_of q) → AllByRecursion (λ (t : PTask). AreDoubled q (old_name q) t.entries) (tasks_of q)
    tasks-doubled named = go (tasks_of q) named doubles-new (doubles-named q)
      where
        go : (ts : List PTask) → AllByRecursion (λ (t : PTask). AllByRecursion (λ (e : PEntry). old_name q e.name.name.0 ≡ true) t.entries) ts → AllByRecursion (λ (t : PTask). AllByRecursion IsDoubleNew t.entries) ts →
            AllByRecursion (λ (t : PTask). AllByRecursion (IsDoubled q) t.entries) ts → AllByRecursion (λ (t : PTask). AreDoubled q (old_name q) t.entries) ts
        go [] a b d = tt
        go (t ∷ ts) a b d = (doubled-of t.entries a.0 b.0 d.0, go ts a.1 b.1 d.1)

-- ---- old names

module _ (q : PProgram) where
  -- what holds of each double holds of each text of them
  of-doubles : (P : List ℕ → Type 0) → ((a : List ℕ) → P (double_text a)) → (ts : List PTask) → AllByRecursion P (flat_map (double_texts q.names) ts)
  of-doubles P h [] = tt
  of-doubles P h (t ∷ ts) = all_joined P (double_texts q.names t) (flat_map (double_texts q.names) ts) (of-entries t.entries) (of-doubles P h ts)
    where
      of-entries : (es : List PEntry) → AllByRecursion P (map (λ e. double_text (text_of q.names e.name.name)) es)
      of-entries [] = tt
      of-entries (e ∷ es) = (h (text_of q.names e.name.name), of-entries es)

  is-old : (id : NameId) → id.0 < length q.names → AllByRecursion (λ u. bytes_eq (text_of q.names id) u ≡ false) (new_texts q) → old_name q id.0 ≡ true
  is-old id within h = ap₂ (λ a b. a && not b) (lt-ltb id.0 (length q.names) within) (none-equal (text_of q.names id) (new_texts q) h)

  -- a text that begins otherwise is another
  otherwise : (t u : List ℕ) → starts_with nat_eq t (codes "DED_") ≡ false → starts_with nat_eq u (codes "DED_") ≡ true → bytes_eq t u ≡ false
  otherwise t u e f = by_test (bytes_eq t u) refl
    where
      by_test : (b : Bool) → bytes_eq t u ≡ b → b ≡ false
      by_test false k = refl
      by_test true k = absurd (true≢false (sym f ∙ ap (λ v. starts_with nat_eq v (codes "DED_")) (sym ((bytes_eq-Decides t u).0 k)) ∙ e))

  -- a name is old whose text is none that P holds of, where it holds of each new text
  old-by : (id : NameId) → id.0 < length q.names → (P : List ℕ → Type 0) → ((u : List ℕ) → P u → bytes_eq (text_of q.names id) u ≡ false) →
      AllByRecursion P declared_texts → ((a : List ℕ) → P (double_text a)) → old_name q id.0 ≡ true
  old-by id within P o declared double =
      let differs : List ℕ → Type 0 = λ u. bytes_eq (text_of q.names id) u ≡ false in
      is-old id within
      (all_joined differs declared_texts (flat_map (double_texts q.names) (tasks_of q)) (all_weaker P differs declared_texts o declared) (of-doubles differs (λ a. o (double_text a) (double a)) (tasks_of q)))

  -- A name that does not begin with DED_ is old.
  pub plain-old : (id : NameId) → id.0 < length q.names → starts_with nat_eq (text_of q.names id) (codes "DED_") ≡ false → old_name q id.0 ≡ true
  plain-old id within e = old-by id within (λ u. starts_with nat_eq u (codes "DED_") ≡ true) (λ u f. otherwise (text_of q.names id) u e f) (refl, (refl, (refl, (refl, (refl, (refl, (refl, (refl, (refl, (refl, (refl, (refl, (refl, tt))))))))))))) (λ a. refl)

  -- So is that of a variable of the normal form, DED_V and a number.
  pub variable-old : (id : NameId) (x : List ℕ) → id.0 < length q.names → text_of q.names id ≡ codes "DED_V" ++ x → old_name q id.0 ≡ true
  variable-old id x within e = old-by id within (λ u. bytes_eq (codes "DED_V" ++ x) u ≡ false) (λ u f. ap (λ v. bytes_eq v u) e ∙ f) (refl, (refl, (refl, (refl, (refl, (refl, (refl, (refl, (refl, (refl, (refl, (refl, (refl, tt))))))))))))) (λ a. refl)
