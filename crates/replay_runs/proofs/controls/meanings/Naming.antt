-- What a task calls and aborts is a task of its program: entries are owned by tasks, and an abort names one.
use Rattle.std.proofs.Common.{◌≡◌, ℕ, zero, suc, ◌+◌, ◌<◌, Bool, true, false, ◌==◌, cond, List, [], ◌∷◌, length, position, Option, Some, None, unwrap_or, ok_or, Result, Ok, Err, refl, sym, ◌∙◌, subst, true≢false, arith}
use Rattle.std.specs.List.{AllByRecursion, filter}
use Rattle.std.specs.Option.{option_map_or}
use Rattle.std.proofs.lemmas.Bool.{eqb-true}
use Rattle.event_machine.specs.declared.CallForm.{CallForm}
use Rattle.event_machine.specs.declared.Choice.{Choice}
use Rattle.event_machine.specs.Worlds.{aborts}
use Rattle.ada_tree.specs.PlainExpr.{PExpr}
use Rattle.ada_tree.specs.declared.naming.NameId.{NameId}
use Rattle.ada_tree.specs.PlainStmt.{PCallee, PStmt, SNull, SAssign, SDelay, SExit, SRaise, SAbort, SCall, SAccept, SWait, SConditional, STimed, SPut, SPutLine, SNewLine, SGet, SIf, SCase, SBlock, SLoop, PStmts, no_stmt, stmt_then}
use Rattle.ada_value.specs.Values.{position_of}
use Rattle.ada_value.specs.Evaluating.{evaluated}
use Rattle.ada_value.specs.declared.values.Raised.{Raised}
use Rattle.ada_value.specs.declared.values.Raised.TheVariants.{Constraint}
use Rattle.syn_event.specs.declared.numbering.EntryInfo.{EntryInfo}
use Rattle.syn_event.specs.Numbering.{Numbering, entry_at, owner_of, task_named}
use Rattle.task_model.specs.Setting.{member_named, task_meant}
use Rattle.task_model.specs.Frames.{Around, OwnBody, Block, Handling, Loop, Opened}
use Rattle.task_model.specs.Tasks.{Task, rest_of, place_of, vars_of}
use Rattle.task_model.specs.Calls.{Called}
use Rattle.task_model.specs.Waits.{Open, open_at, is_present, choices_of}
use Rattle.task_model.specs.Stands.{Stand, call_stand, choices_stand, wait_stand, name_stand, abort_stand, stand_at, stand_behind, stand_with, offered, offer_of}
use Rattle.task_laws.proofs.invariants.Variables.{chain, ok_path}
use Rattle.common_lemmas.proofs.Lists.{all_joined, all_weaker, holds_at}
use Rattle.replay_model.specs.ReplayTree.{last_task}
use Rattle.replay_model.specs.ReplayNumbers.{own_entries}
use Rattle.replay_structure.specs.spots.Places.{entries_from}
use Rattle.replay_structure.specs.spots.Laws.{IsInOrder}
use Rattle.replay_structure.proofs.spots.First.{found}
use Rattle.replay_structure.proofs.spots.Placed.{entry-suc}

-- ---- owners

-- these entries are the task's
abbrev Owned : ℕ → List EntryInfo → Type 0
Owned t = AllByRecursion (λ (x : EntryInfo). x.owner ≡ t)

all-own : (t : ℕ) (xs : List EntryInfo) → Owned t (filter (λ x. x.owner == t) xs)
all-own t [] = tt
all-own t (x ∷ xs) = go (all-own t xs) (x.owner == t) refl
  where
    go : Owned t (filter (λ x. x.owner == t) xs) → (b : Bool) → (x.owner == t) ≡ b → Owned t (cond b (x ∷ filter (λ x. x.owner == t) xs) (filter (λ x. x.owner == t) xs))
    go rest true e = (eqb-true x.owner t e, rest)
    go rest false e = rest

all-owned : (numbers : Numbering) (n t : ℕ) → AllByRecursion (λ (x : EntryInfo). x.owner < t + n) (entries_from numbers n t)
all-owned numbers zero t = tt
all-owned numbers (suc n) t =
    all_joined (λ (x : EntryInfo). x.owner < t + suc n) (own_entries numbers t) (entries_from numbers n (t + 1))
    (all_weaker (λ (x : EntryInfo). x.owner ≡ t) (λ (x : EntryInfo). x.owner < t + suc n) (own_entries numbers t) (λ x e. omega (arith, e)) (all-own t numbers.entries))
    (all_weaker (λ (x : EntryInfo). x.owner < (t + 1) + n) (λ (x : EntryInfo). x.owner < t + suc n) (entries_from numbers n (t + 1)) (λ x l. omega (arith, l)) (all-owned numbers n (t + 1)))

pub owner-below : (numbers : Numbering) → IsInOrder numbers → (e : ℕ) → owner_of numbers e < suc (last_task numbers)
owner-below numbers order zero = omega arith
owner-below numbers order (suc m) = go (entry_at numbers (suc m)) refl
  where
    go : (o : Option EntryInfo) → entry_at numbers (suc m) ≡ o → option_map_or (λ info. info.owner) o 0 < suc (last_task numbers)
    go None q = omega arith
    go (Some x) q =
        let l = holds_at (λ (x : EntryInfo). x.owner < 1 + last_task numbers) numbers.entries m x (sym (entry-suc numbers m) ∙ q)
        (subst (AllByRecursion (λ (x : EntryInfo). x.owner < 1 + last_task numbers)) order.order (all-owned numbers (last_task numbers) 1)) in
        omega (arith, l)

-- ---- aborts

module _ (l : Task) (v : ℕ) (some : 0 < length l.setting.numbers.tasks) where
  abbrev many : ℕ
  many = length l.setting.numbers.tasks

  abbrev Below : Stand → Type 0
  Below s = aborts v (offered s) ≡ true → v < many

  call-below : (form : CallForm) (r : Result Called Raised) → Below (call_stand form r)
  call-below form (Ok c) e = absurd (true≢false (sym e))
  call-below form (Err x) e = absurd (true≢false (sym e))

  choices-below : (cs : List Choice) → Below (choices_stand cs)
  choices-below [] e = absurd (true≢false (sym e))
  choices-below (c ∷ cs) e = absurd (true≢false (sym e))

  wait-below : (b : Bool) (r : Result (List Open) Raised) → Below (wait_stand b r)
  wait-below b (Ok all) e = choices-below (choices_of b all) e
  wait-below b (Err x) e = absurd (true≢false (sym e))

  named-below : (r : Result ℕ Raised) → ((x : ℕ) → r ≡ Ok x → x < many) → Below (name_stand r)
  named-below (Ok x) h e = subst (λ z. z < many) (sym (eqb-true v x e)) (h x refl)
  named-below (Err x) h e = absurd (true≢false (sym e))

  simply-below : (o : Option ℕ) → ((k : ℕ) → o ≡ Some k → k < many) → unwrap_or o 0 < many
  simply-below None h = some
  simply-below (Some k) h = h k refl

  member-below : (o : Option ℕ) → ((k : ℕ) → o ≡ Some k → k < many) → (x : ℕ) → ok_or o Constraint ≡ Ok x → x < many
  member-below None h x e = cc
  member-below (Some k) h x e = subst (λ z. z < many) (ok_path e) (h k refl)

  meant-below : (name : NameId) (i : Option PExpr) (x : ℕ) → task_meant l.setting (vars_of l) name i ≡ Ok x → x < many
  meant-below name None x e =
      subst (λ z. z < many) (ok_path e) (simply-below (task_named l.setting.numbers name)
      (λ k q. let f = found (λ info. info.name.0 == name.0) l.setting.numbers.tasks k q in subst (λ z. z < many) f.0 f.1))
  meant-below name (Some i) x e =
      let c = chain (evaluated l.setting.types (vars_of l) i) (λ w. member_named l.setting.numbers name (position_of w)) x e in
      member-below (position _ l.setting.numbers.tasks) (λ k q. let f = found _ l.setting.numbers.tasks k q in subst (λ z. z < many) f.0 f.1) x c.rest

  abort-below : (xs : List PCallee) → Below (abort_stand l xs)
  abort-below [] e = absurd (true≢false (sym e))
  abort-below (x ∷ xs) e = named-below (task_meant l.setting (vars_of l) x.name.name x.index) (meant-below x.name.name x.index) e

  at-below : (s : PStmt) → Below (stand_at l s)
  at-below (SCall c s) e = call-below _ _ e
  at-below (SConditional c m o s) e = call-below _ _ e
  at-below (STimed c m d o s) e = call-below _ _ e
  at-below (SAccept a s) e = wait-below false (open_at l (SAccept a s)) e
  at-below (SWait x m s) e = wait-below (is_present m) (open_at l (SWait x m s)) e
  at-below (SAbort xs s) e = abort-below xs e
  at-below (SNull s) e = absurd (true≢false (sym e))
  at-below (SAssign t x s) e = absurd (true≢false (sym e))
  at-below (SDelay d s) e = absurd (true≢false (sym e))
  at-below (SExit c x s) e = absurd (true≢false (sym e))
  at-below (SRaise c s) e = absurd (true≢false (sym e))
  at-below (SPut ps s) e = absurd (true≢false (sym e))
  at-below (SPutLine ps s) e = absurd (true≢false (sym e))
  at-below (SNewLine s) e = absurd (true≢false (sym e))
  at-below (SGet t s) e = absurd (true≢false (sym e))
  at-below (SIf x m s) e = absurd (true≢false (sym e))
  at-below (SCase x y m s) e = absurd (true≢false (sym e))
  at-below (SBlock b s) e = absurd (true≢false (sym e))
  at-below (SLoop c x b s) e = absurd (true≢false (sym e))

  behind-below : (p : Around) → Below (stand_behind p)
  behind-below (OwnBody handlers taken) e = absurd (true≢false (sym e))
  behind-below (Block handlers) e = absurd (true≢false (sym e))
  behind-below (Handling x) e = absurd (true≢false (sym e))
  behind-below (Loop name turns stmts) e = absurd (true≢false (sym e))
  behind-below (Opened caller formals pending) e = absurd (true≢false (sym e))

  with-below : (r : PStmts) (p : Around) → Below (stand_with l r p)
  with-below no_stmt p e = behind-below p e
  with-below (stmt_then s r) p e = at-below s e

  pub aborted-below : aborts v (offer_of l) ≡ true → v < many
  aborted-below e = with-below (rest_of l) (place_of l) e
