-- What stands in the place of a call, a select or an abort is as asked, from its pieces.
use Rattle.std.proofs.Common.{◌≡◌, ℕ, ◌+◌, ◌≤◌, Bool, true, false, List, [], ◌∷◌, ◌++◌, length, map, Option, Some, None, is_some, refl, sym, ap, subst, arith}
use Rattle.std.specs.List.{AllByRecursion}
use Rattle.ada_tree.specs.declared.naming.NameId.{NameId}
use Rattle.ada_tree.specs.declared.naming.Span.{Span}
use Rattle.ada_tree.specs.declared.naming.Word.{Word}
use Rattle.ada_tree.specs.declared.statements.ParMode.{ParMode}
use Rattle.ada_tree.specs.declared.statements.ParMode.TheVariants.{Take, Give, Both}
use Rattle.ada_tree.specs.PlainExpr.{PExpr, PSubind}
use Rattle.ada_tree.specs.PlainStmt.{PCallee, PCall, PStmt, SNull, SCall, SConditional, STimed, PStmts, no_stmt, stmt_then, case_arms_of}
use Rattle.ada_tree.specs.PlainDecl.{PDecl}
use Rattle.ada_static_rules.specs.Sites.{arm_choices}
use Rattle.syn_event.specs.declared.numbering.TaskInfo.{TaskInfo}
use Rattle.task_model.specs.Setting.{Setting}
use Rattle.task_model.specs.Calls.{variable_of}
use Rattle.task_model.specs.Frames.{in_front}
use Rattle.normal_model.specs.Names.{task_name}
use Rattle.normal_model.specs.Ranges.{word_at, integer_subtype, subtype_of_range, array_range}
use Rattle.normal_model.specs.Making.{one, or_null, variable, Kept, kept_before, kept_subtypes, kept_if, moving}
use Rattle.normal_model.specs.Members.{known_callee, callee_kept, members_of, member_arm, by_member, chosen_if, chosen}
use Rattle.normal_model.specs.Calls.{lists_called, Slot, slots_called, actual_before, actuals_before, copied_to, actual_behind, actuals_behind, actual_subtypes, indices_kept, actual_number, call_before, call_behind, call_to, call_subtypes, plain_image, is_chosen, flag_number, flag_subtypes, select_subtypes, flagged, part_taken, select_if, select_image, conditional_image, timed_image}
use Rattle.normal_model.specs.Aborts.{abort_of, callee_aborted, callees_aborted, abort_image, abort_subtypes}
use Rattle.normal_model.specs.RewrittenUnit.{RewrittenUnit}
use Rattle.task_laws.specs.legal.asked.Asked.{Asks, AskedStmt, AskedStmts, AskedSome, AskedCaseArms}
use Rattle.normal_laws.specs.structure.asked.Pieces.{IsVariable, AreVariables, member_choice, IsAmong, first_among, later_among, IsTarget, is_known, is_member, named, IsPair, first_pair, later_pair, is_read, is_written, Pieces}
use Rattle.normal_laws.proofs.structure.asked.CallVariables.{family_subtype, family_kept, callee-there, family-there, actuals-there}
use Rattle.normal_laws.proofs.structure.asked.Lists.{HasStmt, some-front, some-back, asked-join, asked-some, variables-front, variables-back}
use Rattle.normal_model.proofs.Declared.{kept_length}

module _ {C D : Type 0} (u : RewrittenUnit) (vars : List PDecl) (b : Asks C) (a : Asks D) (R : C → D → Type 0) (P : Pieces u vars b a R) where
  abbrev g : Setting
  g = u.setting

  -- values that are kept in front of others
  pub kept-join : (d : D) (n : ℕ) (s : Span) (xs ys : List Kept) (j : ℕ) → AskedStmts a d n (kept_before g s xs j) → AskedStmts a d n (kept_before g s ys (j + length xs)) → AskedStmts a d n (kept_before g s (xs ++ ys) j)
  kept-join d n s [] ys j h i = let e : j + 0 ≡ j = omega arith in subst (λ k. AskedStmts a d n (kept_before g s ys k)) e i
  kept-join d n s (x ∷ xs) ys j h i =
      let e : j + length (x ∷ xs) ≡ (j + 1) + length xs = omega arith in
      (h.0, kept-join d n s xs ys (j + 1) h.1 (subst (λ k. AskedStmts a d n (kept_before g s ys k)) e i))

  -- ---- callees

  abbrev callee_subtype : Span → PCallee → PSubind
  callee_subtype s x = subtype_of_range g.types s (array_range g.program x.name.name)

  pub callee-before : (c : C) (d : D) (k n : ℕ) (s : Span) (x : PCallee) (j : ℕ) → R c d → b.callee c k x → AreVariables g vars s (kept_subtypes (callee_kept g s x)) j → n ≤ k + 4 → AskedStmts a d n (kept_before g s (callee_kept g s x) j)
  callee-before c d k n s x j r h v le = go (moving g.types x.index) refl v
    where
      go : (m : Option PExpr) → moving g.types x.index ≡ m → AreVariables g vars s (kept_subtypes (kept_if (callee_subtype s x) m)) j → AskedStmts a d n (kept_before g s (kept_if (callee_subtype s x) m) j)
      go None e w = tt
      go (Some y) e w = (P.callee_index c d k n s x y j r h e w.0 le, tt)

  choices-are : (s : Span) (x : PCallee) (what : Word → PStmts) (infos : List TaskInfo) → arm_choices (case_arms_of (map (member_arm g s x what) infos)) ≡ map (member_choice g s x) infos
  choices-are s x what [] = refl
  choices-are s x what (info ∷ rest) = ap (λ l. member_choice g s x info ∷ l) (choices-are s x what rest)

  -- what stands for a callee, where it is as asked for each name that takes the callee's place
  module _ (c : C) (d : D) (k n : ℕ) (s : Span) (x : PCallee) (what : Word → PStmts) (j : ℕ) (r : R c d) (o : b.outer c n s) (h : b.callee c k x) (v : AreVariables g vars s (kept_subtypes (callee_kept g s x)) j) (le : n ≤ k)
      (each : (w : Word) (m : ℕ) → IsTarget g x w → m ≤ n + 1 → AskedStmts a d m (what w)) (some : (w : Word) → HasStmt (what w)) where
    module _ (y : PExpr) (e : moving g.types x.index ≡ Some y) (i : IsVariable g vars s (callee_subtype s x) j) where
      arms : (infos : List TaskInfo) → ((info : TaskInfo) → IsAmong info infos → IsAmong info (members_of g x.name.name)) → AskedCaseArms a d (n + 1) (variable g s j) (case_arms_of (map (member_arm g s x what) infos))
      arms [] all = tt
      arms (info ∷ rest) all =
          let w : Word = word_at x.name.span (task_name g info) in
          let there : IsAmong info (members_of g x.name.name) = all info (first_among rest) in (
            P.chosen c d k (n + 1) s x y j info r h e i there (omega arith),
            asked-some a P.some d (n + 1) (what w) (some w) (each w (n + 1) (is_member y info e there refl) (omega arith)),
            arms rest (λ other among. all other (later_among info rest among)),
          )

      pub by-member : AskedStmt a d n (by_member g s x j what)
      by-member = (
        P.outer c d n n s r o (omega arith),
        subst (λ cs. a.selector d (n + 1) (variable g s j) cs true s) (sym (choices-are s x what (members_of g x.name.name))) (P.chooses c d k (n + 1) s x y j r h e i (omega arith)),
        arms (members_of g x.name.name) (λ info among. among),
        asked-some a P.some d (n + 1) (one (SNull s)) tt (P.null c d n (n + 1) s r o (omega arith), tt),
      )

    pub chosen-asked : AskedStmts a d n (chosen g s x j what)
    chosen-asked = go (moving g.types x.index) refl v
      where
        go : (m : Option PExpr) → moving g.types x.index ≡ m → AreVariables g vars s (kept_subtypes (kept_if (callee_subtype s x) m)) j → AskedStmts a d n (chosen_if m g s x j what)
        go None e w = each (known_callee g x) n (is_known e refl) (omega arith)
        go (Some y) e w = (by-member y e w.0, tt)

    pub chosen-some : HasStmt (chosen g s x j what)
    chosen-some = go (moving g.types x.index)
      where
        go : (m : Option PExpr) → HasStmt (chosen_if m g s x j what)
        go None = some (known_callee g x)
        go (Some y) = tt

  -- ---- calls

  module _ (c : C) (d : D) (k n : ℕ) (s : Span) (x : PCall) (j : ℕ) (r : R c d) (h : b.callee c k x.task) (i : b.call c k x) (v : AreVariables g vars s (call_subtypes g s x) j) (le : n ≤ k) where
    abbrev actuals : List PExpr
    actuals = (lists_called g x).actuals

    abbrev kept : List Kept
    kept = family_kept g vars s x j v

    family-before : AskedStmts a d n (kept_before g s kept (j + length (callee_kept g s x.task)))
    family-before = go (lists_called g x).index refl (family-there g vars s x j v)
      where
        go : (m : Option PExpr) → (lists_called g x).index ≡ m → AreVariables g vars s (kept_subtypes (kept_if (family_subtype g vars s x j v) m)) (j + length (callee_kept g s x.task)) →
            AskedStmts a d n (kept_before g s (kept_if (family_subtype g vars s x j v) m) (j + length (callee_kept g s x.task)))
        go None e w = tt
        go (Some y) e w = (P.family_index c d k n s x y _ r h i e w.0 (omega arith), tt)

    one-before : (slot : Slot) (e : PExpr) (m : ParMode) (z : ℕ) → IsPair slot e (slots_called g x) actuals → slot.mode ≡ m → IsVariable g vars s (record { mark = slot.mark; bounds = None }) z → AskedStmts a d n (actual_before g s m e z)
    one-before slot e Take z pair f w = (P.actual_before c d k n s x slot e z r h i pair (ap is_read f) w (omega arith), tt)
    one-before slot e Give z pair f w = tt
    one-before slot e Both z pair f w = (P.actual_before c d k n s x slot e z r h i pair (ap is_read f) w (omega arith), tt)

    some-before : (slots : List Slot) (es : List PExpr) (z : ℕ) → ((slot : Slot) (e : PExpr) → IsPair slot e slots es → IsPair slot e (slots_called g x) actuals) →
        AreVariables g vars s (actual_subtypes slots es) z → AskedStmts a d n (actuals_before g s slots es z)
    some-before [] es z all w = tt
    some-before (slot ∷ slots) [] z all w = tt
    some-before (slot ∷ slots) (e ∷ es) z all w =
        asked-join a d n (actual_before g s slot.mode e z) (actuals_before g s slots es (z + 1))
        (one-before slot e slot.mode z (all slot e (first_pair slots es)) refl w.0)
        (some-before slots es (z + 1) (λ other f pair. all other f (later_pair slot e slots es pair)) w.1)

    pub call-before : AskedStmts a d n (call_before g s x j)
    call-before =
        asked-join a d n (kept_before g s (indices_kept g s x) j) (actuals_before g s (slots_called g x) actuals (actual_number g s x j))
        (kept-join d n s (callee_kept g s x.task) kept j (callee-before c d k n s x.task j r h (callee-there g vars s x j v) (omega arith)) family-before)
        (some-before (slots_called g x) actuals (actual_number g s x j) (λ slot e pair. pair) (actuals-there g vars s x j v))

  -- the assignments behind a call, which may stand deeper
  module _ (c : C) (d : D) (k n : ℕ) (s : Span) (x : PCall) (j : ℕ) (r : R c d) (h : b.callee c k x.task) (i : b.call c k x) (v : AreVariables g vars s (call_subtypes g s x) j) (le : n ≤ k) where
    abbrev actuals' : List PExpr
    actuals' = (lists_called g x).actuals

    one-copied : (slot : Slot) (e : PExpr) (z : ℕ) → IsPair slot e (slots_called g x) actuals' → is_written slot.mode ≡ true → IsVariable g vars s (record { mark = slot.mark; bounds = None }) z → AskedStmts a d n (copied_to g s e (variable_of e) z)
    one-copied slot e z pair f w = go (variable_of e) refl
      where
        go : (m : Option NameId) → variable_of e ≡ m → AskedStmts a d n (copied_to g s e m z)
        go None q = tt
        go (Some id) q = (P.actual_behind c d k n s x slot e id z r h i pair f q w (omega arith), tt)

    one-behind : (slot : Slot) (e : PExpr) (m : ParMode) (z : ℕ) → IsPair slot e (slots_called g x) actuals' → slot.mode ≡ m → IsVariable g vars s (record { mark = slot.mark; bounds = None }) z → AskedStmts a d n (actual_behind g s m e z)
    one-behind slot e Take z pair f w = tt
    one-behind slot e Give z pair f w = one-copied slot e z pair (ap is_written f) w
    one-behind slot e Both z pair f w = one-copied slot e z pair (ap is_written f) w

    some-behind : (slots : List Slot) (es : List PExpr) (z : ℕ) → ((slot : Slot) (e : PExpr) → IsPair slot e slots es → IsPair slot e (slots_called g x) actuals') →
        AreVariables g vars s (actual_subtypes slots es) z → AskedStmts a d n (actuals_behind g s slots es z)
    some-behind [] es z all w = tt
    some-behind (slot ∷ slots) [] z all w = tt
    some-behind (slot ∷ slots) (e ∷ es) z all w =
        asked-join a d n (actual_behind g s slot.mode e z) (actuals_behind g s slots es (z + 1))
        (one-behind slot e slot.mode z (all slot e (first_pair slots es)) refl w.0)
        (some-behind slots es (z + 1) (λ other f pair. all other f (later_pair slot e slots es pair)) w.1)

    pub call-behind : AskedStmts a d n (call_behind g s x j)
    call-behind = some-behind (slots_called g x) actuals' (actual_number g s x j) (λ slot e pair. pair) (actuals-there g vars s x j v)

  -- ---- plain calls

  pub plain-asked : (c : C) (d : D) (k : ℕ) (s : Span) (x : PCall) (j : ℕ) → R c d → b.outer c k s → b.callee c (k + 1) x.task → b.call c (k + 1) x → AreVariables g vars s (call_subtypes g s x) j → AskedStmts a d k (plain_image g s x j)
  plain-asked c d k s x j r o h i v =
      let le : k ≤ k + 1 = omega arith in
      let what : Word → PStmts = λ w. one (SCall (call_to g s x j w) s) in
      let each : (w : Word) (m : ℕ) → IsTarget g x.task w → m ≤ k + 1 → AskedStmts a d m (what w) =
      λ w m target small. (
        (
          P.outer c d k m s r o (omega arith),
          P.target c d (k + 1) (m + 1) x.task w r h target (omega arith),
          P.called c d (k + 1) (m + 1) s x j w r h i target v (omega arith),
        ),
        tt,
      )
      in
      asked-join a d k (call_before g s x j) (in_front (chosen g s x.task j what) (call_behind g s x j)) (call-before c d (k + 1) k s x j r h i v le)
      (asked-join a d k (chosen g s x.task j what) (call_behind g s x j)
      (chosen-asked c d (k + 1) k s x.task what j r o h (callee-there g vars s x j v) le each (λ w. tt))
      (call-behind c d (k + 1) k s x j r h i v le))

  pub plain-some : (s : Span) (x : PCall) (j : ℕ) → HasStmt (plain_image g s x j)
  plain-some s x j = some-back (call_before g s x j) _ (some-front (chosen g s x.task j _) (call_behind g s x j) (go (moving g.types x.task.index)))
    where
      go : (m : Option PExpr) → HasStmt (chosen_if m g s x.task j (λ w. one (SCall (call_to g s x j w) s)))
      go None = tt
      go (Some y) = tt

  -- ---- conditional and timed calls

  or-null : (c : C) (d : D) (k n : ℕ) (s : Span) (xs : PStmts) → R c d → b.outer c k s → n ≤ k + 4 → AskedStmts a d n xs → AskedSome a d n (or_null s xs)
  or-null c d k n s no_stmt r o le h = asked-some a P.some d n (one (SNull s)) tt (P.null c d k n s r o le, tt)
  or-null c d k n s (stmt_then x l) r o le h = asked-some a P.some d n (stmt_then x l) tt h

  -- a select of a form: with which statements it is as asked
  module _ (c : C) (d : D) (k : ℕ) (s : Span) (x : PCall) (j : ℕ) (r : R c d) (o : b.outer c k s) (o' : b.outer c (k + 1) x.task.name.span) (h : b.callee c (k + 2) x.task) (i : b.call c (k + 2) x)
      (v : AreVariables g vars s (select_subtypes g s x) j) (form : PCall → PStmts → PStmts → PStmt) (met other : PStmts)
      (flags : (w : Word) (n : ℕ) → IsTarget g x.task w → n ≤ k + 1 → AskedStmts a d (n + 1) (flagged g s x j 1) → AskedStmts a d (n + 1) (flagged g s x j 2) → AskedStmt a d n (form (call_to g s x j w) (flagged g s x j 1) (flagged g s x j 2)))
      (plain : (w : Word) → IsTarget g x.task w → AskedStmts a d (k + 1) (in_front (call_behind g s x j) met) → AskedStmt a d k (form (call_to g s x j w) (in_front (call_behind g s x j) met) other))
      (hm : AskedStmts a d (k + 1) met) (ho : AskedStmts a d (k + 1) other) where
    le : k ≤ k + 2
    le = omega arith

    le' : k + 1 ≤ k + 2
    le' = omega arith

    call-there : AreVariables g vars s (call_subtypes g s x) j
    call-there = variables-front g vars s (call_subtypes g s x) (flag_subtypes (is_chosen g x) s) j v

    abbrev met' : PStmts
    met' = in_front (call_behind g s x j) met

    met-asked : AskedStmts a d (k + 1) met'
    met-asked = asked-join a d (k + 1) (call_behind g s x j) met (call-behind c d (k + 2) (k + 1) s x j r h i call-there le') hm

    abbrev what : Word → PStmts
    what w = one (form (call_to g s x j w) (flagged g s x j 1) (flagged g s x j 2))

    module _ (f : IsVariable g vars s (integer_subtype s) (flag_number g s x j)) where
      part-taken : AskedStmt a d k (part_taken g s x j met' other)
      part-taken = (
        P.outer c d k k s r o (omega arith),
        P.some 0,
        (P.flag_test c d k (k + 1) s (flag_number g s x j) r o f (omega arith), or-null c d k (k + 1) s met' r o (omega arith) met-asked, tt),
        or-null c d k (k + 1) s other r o (omega arith) ho,
      )

      flag-asked : (n part : ℕ) → n ≤ k + 2 → part ≤ 2 → AskedStmts a d n (flagged g s x j part)
      flag-asked n part small few = (P.flag c d k n s part (flag_number g s x j) r o few f (omega arith), tt)

      each : (w : Word) (m : ℕ) → IsTarget g x.task w → m ≤ k + 1 → AskedStmts a d m (what w)
      each w m target small = (flags w m target small (flag-asked (m + 1) 1 (omega arith) (omega arith)) (flag-asked (m + 1) 2 (omega arith) (omega arith)), tt)

    chosen-select : (y : PExpr) → moving g.types x.task.index ≡ Some y → AskedStmts a d k (select_if true form g s x j met' other)
    chosen-select y e =
        let f : AreVariables g vars s (integer_subtype s ∷ []) (flag_number g s x j) =
        subst (λ m. AreVariables g vars s (flag_subtypes m s) (flag_number g s x j)) (ap is_some e) (variables-back g vars s (call_subtypes g s x) (flag_subtypes (is_chosen g x) s) j v) in
        let w : IsVariable g vars s (callee_subtype s x.task) j = first-there y (moving g.types x.task.index) e (callee-there g vars s x j call-there) in (
          by-member c d (k + 2) k s x.task what j r o h (callee-there g vars s x j call-there) le (each f.0) (λ v'. tt) y e w,
          (part-taken f.0, tt),
        )
      where
        first-there : (z : PExpr) (m : Option PExpr) → m ≡ Some z → AreVariables g vars s (kept_subtypes (kept_if (callee_subtype s x.task) m)) j → IsVariable g vars s (callee_subtype s x.task) j
        first-there z None e' w = cc
        first-there z (Some z') e' w = w.0

    select-if : AskedStmts a d k (select_if (is_chosen g x) form g s x j met' other)
    select-if = go (moving g.types x.task.index) refl
      where
        go : (m : Option PExpr) → moving g.types x.task.index ≡ m → AskedStmts a d k (select_if (is_chosen g x) form g s x j met' other)
        go None e = subst (λ t. AskedStmts a d k (select_if t form g s x j met' other)) (sym (ap is_some e)) (plain (known_callee g x.task) (is_known e refl) met-asked, tt)
        go (Some y) e = subst (λ t. AskedStmts a d k (select_if t form g s x j met' other)) (sym (ap is_some e)) (chosen-select y e)

    pub select-asked : AskedStmts a d k (select_image form g s x j met other)
    select-asked = asked-join a d k (call_before g s x j) (select_if (is_chosen g x) form g s x j met' other) (call-before c d (k + 2) k s x j r h i call-there le) select-if

  pub select-some : (form : PCall → PStmts → PStmts → PStmt) (s : Span) (x : PCall) (j : ℕ) (met other : PStmts) → HasStmt (select_image form g s x j met other)
  select-some form s x j met other = some-back (call_before g s x j) _ (go (is_chosen g x))
    where
      go : (t : Bool) → HasStmt (select_if t form g s x j (in_front (call_behind g s x j) met) other)
      go true = tt
      go false = tt

  -- the call in a select stands one deeper than the select, at the callee's place
  target-span : (x : PCallee) (w : Word) → IsTarget g x w → w.span ≡ x.name.span
  target-span x w (is_known e f) = ap (λ v. v.span) f
  target-span x w (is_member y info e among f) = ap (λ v. v.span) f

  spot : (c : C) (d : D) (k n : ℕ) (x : PCallee) (w : Word) → R c d → b.outer c (k + 1) x.name.span → IsTarget g x w → n ≤ k + 1 → a.outer d (n + 1) w.span
  spot c d k n x w r o target small = subst (a.outer d (n + 1)) (sym (target-span x w target)) (P.outer c d (k + 1) (n + 1) x.name.span r o (omega arith))

  module _ (c : C) (d : D) (k : ℕ) (s : Span) (x : PCall) (j : ℕ) (r : R c d) (o : b.outer c k s) (o' : b.outer c (k + 1) x.task.name.span) (h : b.callee c (k + 2) x.task) (i : b.call c (k + 2) x)
      (v : AreVariables g vars s (select_subtypes g s x) j) (met other : PStmts) (hm : AskedStmts a d (k + 1) met) (ho : AskedStmts a d (k + 1) other) where
    there : AreVariables g vars s (call_subtypes g s x) j
    there = variables-front g vars s (call_subtypes g s x) (flag_subtypes (is_chosen g x) s) j v

    module _ (w : Word) (n : ℕ) (target : IsTarget g x.task w) (small : n ≤ k + 1) where
      at-place : a.outer d n s
      at-place = P.outer c d k n s r o (omega arith)

      at-call : a.outer d (n + 1) w.span
      at-call = spot c d k n x.task w r o' target small

      of-callee : a.callee d (n + 2) (named w)
      of-callee = P.target c d (k + 2) (n + 2) x.task w r h target (omega arith)

      of-call : a.call d (n + 2) (call_to g s x j w)
      of-call = P.called c d (k + 2) (n + 2) s x j w r h i target there (omega arith)

    pub conditional-asked : AskedSome a d (k + 1) other → AskedStmts a d k (conditional_image g s x j met other)
    conditional-asked some =
        let le : k ≤ k + 1 = omega arith in
        select-asked c d k s x j r o o' h i v (λ call l m. SConditional call l m s) met other
        (λ w n target small one two. (at-place w n target small, at-call w n target small, of-callee w n target small, of-call w n target small, one, asked-some a P.some d (n + 1) (flagged g s x j 2) tt two))
        (λ w target l. (at-place w k target le, at-call w k target le, of-callee w k target le, of-call w k target le, l, some))
        hm ho

    pub timed-asked : (duration : ℕ) → b.duration duration → AskedStmts a d k (timed_image g s x j met duration other)
    timed-asked duration few =
        let le : k ≤ k + 1 = omega arith in
        let length : a.duration duration = P.duration duration few in
        select-asked c d k s x j r o o' h i v (λ call l m. STimed call l duration m s) met other
        (λ w n target small one two. (at-place w n target small, at-call w n target small, of-callee w n target small, of-call w n target small, length, one, two))
        (λ w target l. (at-place w k target le, at-call w k target le, of-callee w k target le, of-call w k target le, length, l, ho))
        hm ho

  -- ---- aborts

  module _ (c : C) (d : D) (k : ℕ) (s : Span) (xs : List PCallee) (r : R c d) (o : b.outer c k s) (h : b.aborts c (k + 1) xs) where
    abort-one : (x : PCallee) (j : ℕ) → b.callee c (k + 1) x → AreVariables g vars s (kept_subtypes (callee_kept g s x)) j → AskedStmts a d k (callee_aborted g s x j)
    abort-one x j i v =
        let le : k ≤ k + 1 = omega arith in
        let each : (w : Word) (m : ℕ) → IsTarget g x w → m ≤ k + 1 → AskedStmts a d m (abort_of s w) =
        λ w m target small. (
          (
            P.outer c d k m s r o (omega arith),
            P.aborted c d (k + 1) (m + 1) xs w r h (omega arith),
            (P.target c d (k + 1) (m + 1) x w r i target (omega arith), tt),
          ),
          tt,
        )
        in
        asked-join a d k (kept_before g s (callee_kept g s x) j) (chosen g s x j (abort_of s))
        (callee-before c d (k + 1) k s x j r i v (omega arith))
        (chosen-asked c d (k + 1) k s x (abort_of s) j r o i v le each (λ w. tt))

    pub aborts-asked : (ys : List PCallee) (j : ℕ) → AllByRecursion (b.callee c (k + 1)) ys → AreVariables g vars s (abort_subtypes g s ys) j → AskedStmts a d k (callees_aborted g s ys j)
    aborts-asked [] j i v = tt
    aborts-asked (y ∷ ys) j i v =
        let first : List PSubind = kept_subtypes (callee_kept g s y) in
        asked-join a d k (callee_aborted g s y j) (callees_aborted g s ys (j + length (callee_kept g s y)))
        (abort-one y j i.0 (variables-front g vars s first (abort_subtypes g s ys) j v))
        (aborts-asked ys (j + length (callee_kept g s y)) i.1
        (subst (λ m. AreVariables g vars s (abort_subtypes g s ys) (j + m)) (kept_length (callee_kept g s y)) (variables-back g vars s first (abort_subtypes g s ys) j v)))

  pub abort-asked : (c : C) (d : D) (k : ℕ) (s : Span) (xs : List PCallee) (j : ℕ) → R c d → b.outer c k s → b.aborts c (k + 1) xs → AllByRecursion (b.callee c (k + 1)) xs →
      AreVariables g vars s (abort_subtypes g s xs) j → AskedStmts a d k (abort_image g s xs j)
  abort-asked c d k s [] j r o h i v = ((P.outer c d k k s r o (omega arith), P.no_abort c d (k + 1) r h, tt), tt)
  abort-asked c d k s (x ∷ xs) j r o h i v = aborts-asked c d k s (x ∷ xs) r o h (x ∷ xs) j i v

  pub abort-some : (s : Span) (xs : List PCallee) (j : ℕ) → HasStmt (abort_image g s xs j)
  abort-some s [] j = tt
  abort-some s (x ∷ xs) j = some-front (callee_aborted g s x j) _ (some-back (kept_before g s (callee_kept g s x) j) _ (go (moving g.types x.index)))
    where
      go : (m : Option PExpr) → HasStmt (chosen_if m g s x j (abort_of s))
      go None = tt
      go (Some y) = tt
