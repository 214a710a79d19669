-- The two more entries of each task are found by their names.
use Rattle.std.proofs.Common.{◌≡◌, ℕ, zero, suc, ◌+◌, ◌<◌, ◌==◌, ◌&&◌, nat_lt, not, cond, if◌then◌else◌, Bool, true, false, List, [], ◌∷◌, ◌++◌, length, Some, sym, ap, ap₂, ◌∙◌, subst, arith}
use Rattle.std.specs.List.{AllByRecursion}
use Rattle.std.proofs.lemmas.Bool.Decides.{nat_tests}
use Rattle.ada_tree.specs.declared.naming.NameId.{NameId}
use Rattle.syn_event.specs.declared.numbering.EntryInfo.{EntryInfo}
use Rattle.task_model.specs.Setting.{Setting}
use Rattle.replay_model.specs.Names.{never_text, join_text, added_id}
use Rattle.replay_model.specs.ReplayTree.{last_task}
use Rattle.replay_model.specs.ReplayNumbers.{plain_info, double_info, more_infos, all_infos}
use Rattle.run_laws.specs.replaying.Copies.{Spots}
use Rattle.replay_structure.specs.typed.ScopeOf.{double_id}
use Rattle.replay_structure.specs.spots.Places.{never_place, join_place, counts}
use Rattle.replay_structure.proofs.spots.Sorted.{never-within, join-within}
use Rattle.replay_structure.proofs.spots.Placed.{tasks-are}
use Rattle.common_lemmas.proofs.Lists.{all_joined, all_weaker}
use Rattle.common_lemmas.proofs.Numbers.{equal_self, lt_true}
use Rattle.common_lemmas.proofs.Truth.{if_true}
use Rattle.replay_runs.specs.found.Laws.{AreDoublesApart, HasNamesApart, FindsMore, MoreAreFound}
use Rattle.replay_structure.proofs.spots.First.{first, front, past, none, all-mapped}
use Rattle.replay_structure.proofs.spots.Placed.{own, two, block-length}
use Rattle.replay_structure.proofs.spots.Looked.{looks, other-name}
use Rattle.replay_runs.proofs.found.Blocks.{old-other, doubles, both-length, block-other, looked}

module _ (g : Setting) where
  -- one of the two is the first of its name in its task, where no entry and no double has that name
  block-added : (u : ℕ) (id : NameId) (d : ℕ) (after : List EntryInfo) → AllByRecursion (λ (x : EntryInfo). (x.name.0 == id.0) ≡ false) (own g u) → AllByRecursion (λ (x : EntryInfo). ((double_id g.program x.name).0 == id.0) ≡ false) (own g u) →
      first (looks u id) (two g u) ≡ d → d < 2 → first (looks u id) (more_infos g u ++ after) ≡ length (own g u) + length (own g u) + d
  block-added u id d after owns others at small =
      let Fails : EntryInfo → Type 0 = λ (x : EntryInfo). looks u id x ≡ false in
      let front-none = none (looks u id) (own g u ++ doubles g u)
      (all_joined Fails (own g u) (doubles g u) (all_weaker (λ (x : EntryInfo). (x.name.0 == id.0) ≡ false) Fails (own g u) (λ x e. other-name u id x e) owns)
      (all-mapped Fails (double_info g.program) (own g u)
      (all_weaker (λ (x : EntryInfo). ((double_id g.program x.name).0 == id.0) ≡ false) (λ x. Fails (double_info g.program x)) (own g u) (λ x e. other-name u id (double_info g.program x) e) others))) in
      let block : first (looks u id) (more_infos g u) ≡ length (own g u) + length (own g u) + d = past (looks u id) (own g u ++ doubles g u) (two g u) front-none ∙ ap₂ (λ a b. a + b) (both-length g u) at in
      front (looks u id) (more_infos g u) after (let len = block-length g u in omega (arith, block, len, small)) ∙ block

  unlike : (t j : ℕ) → (t == t + suc j) ≡ false
  unlike t j = grind (arith, nat_tests)

  -- nothing of an earlier task is found
  behind-found : (t u : ℕ) (id : NameId) (m : ℕ) (after : List EntryInfo) → (t == u) ≡ false → first (looks u id) after ≡ m → first (looks u id) (more_infos g t ++ after) ≡ (length (own g t) + length (own g t) + 2) + m
  behind-found t u id m after other e = past (looks u id) (more_infos g t) after (none (looks u id) (more_infos g t) (block-other g t u id other)) ∙ ap₂ (λ a b. a + b) (block-length g t) e

  module _ (old : ℕ → Bool) (apart : HasNamesApart g old) where
    abbrev never : NameId
    never = added_id g.program never_text

    abbrev join : NameId
    join = added_id g.program join_text

    -- the first of the two, and the second
    two-never : (u : ℕ) → first (looks u never) (two g u) ≡ 0
    two-never u = ap₂ (λ (a b : Bool). cond (not (a && b)) (1 + first (looks u never) (plain_info g.program u join_text ∷ [])) 0) (equal_self u) (equal_self never.0)

    two-join : (u : ℕ) → first (looks u join) (two g u) ≡ 1
    two-join u =
        ap₂ (λ (a : Bool) n. cond (not a) (1 + n) 0) (other-name u join (plain_info g.program u never_text) apart.new.other)
        (ap₂ (λ (a b : Bool). cond (not (a && b)) 1 0) (equal_self u) (equal_self join.0))

    -- no entry of a task has a name that is not old
    old-names : (u : ℕ) (id : NameId) → old id.0 ≡ false → AreDoublesApart g.program old (own g u) → AllByRecursion (λ (x : EntryInfo). (x.name.0 == id.0) ≡ false) (own g u)
    old-names u id new are = all_weaker (λ (x : EntryInfo). old x.name.0 ≡ true) (λ (x : EntryInfo). (x.name.0 == id.0) ≡ false) (own g u) (λ x o. old-other old x.name.0 id.0 o new) are.named

    never-placed : (n t j : ℕ) → j < n → AreDoublesApart g.program old (own g (t + j)) → first (looks (t + j) never) (all_infos g n t) ≡ never_place (counts g.numbers n t) j
    never-placed zero t j h are = absurd (omega (arith, h))
    never-placed (suc n) t zero h are =
        subst (λ v. AreDoublesApart g.program old (own g v) → first (looks v never) (more_infos g t ++ all_infos g n (t + 1)) ≡ length (own g t) + length (own g t)) (let e : t ≡ t + 0 = omega arith in e)
        (λ is. block-added t never 0 (all_infos g n (t + 1)) (old-names t never apart.new.never is) is.never (two-never t) (omega arith) ∙ (let e : length (own g t) + length (own g t) + 0 ≡ length (own g t) + length (own g t) = omega arith in e))
        are
    never-placed (suc n) t (suc j) h are =
        behind-found t (t + suc j) never (never_place (counts g.numbers n (t + 1)) j) (all_infos g n (t + 1)) (unlike t j)
        (subst (λ v. AreDoublesApart g.program old (own g v) → first (looks v never) (all_infos g n (t + 1)) ≡ never_place (counts g.numbers n (t + 1)) j) (let e : (t + 1) + j ≡ t + suc j = omega arith in e)
        (never-placed n (t + 1) j (omega (arith, h)))
        are)

    join-placed : (n t j : ℕ) → j < n → AreDoublesApart g.program old (own g (t + j)) → first (looks (t + j) join) (all_infos g n t) ≡ join_place (counts g.numbers n t) j
    join-placed zero t j h are = absurd (omega (arith, h))
    join-placed (suc n) t zero h are =
        subst (λ v. AreDoublesApart g.program old (own g v) → first (looks v join) (more_infos g t ++ all_infos g n (t + 1)) ≡ length (own g t) + length (own g t) + 1) (let e : t ≡ t + 0 = omega arith in e)
        (λ is. block-added t join 1 (all_infos g n (t + 1)) (old-names t join apart.new.join is) is.join (two-join t) (omega arith))
        are
    join-placed (suc n) t (suc j) h are =
        behind-found t (t + suc j) join (join_place (counts g.numbers n (t + 1)) j) (all_infos g n (t + 1)) (unlike t j)
        (subst (λ v. AreDoublesApart g.program old (own g v) → first (looks v join) (all_infos g n (t + 1)) ≡ join_place (counts g.numbers n (t + 1)) j) (let e : (t + 1) + j ≡ t + suc j = omega arith in e)
        (join-placed n (t + 1) j (omega (arith, h)))
        are)

    -- ---- the replay text

    abbrev last : ℕ
    last = last_task g.numbers

    abbrev ks : List ℕ
    ks = counts g.numbers (last_task g.numbers) 1

    one-more : (t : ℕ) → 1 + t ≡ suc t
    one-more t = omega arith

    within : (t : ℕ) → t < last → t < length ks
    within t l = subst (λ n. t < n) (sym (tasks-are g last 1)) l

    near : (t : ℕ) (f : ℕ → ℕ) (far : ℕ) → t < last → (if nat_lt t (length ks) then suc (f t) else far) ≡ suc (f t)
    near t f far l = if_true (nat_lt t (length ks)) _ _ (lt_true t (length ks) (within t l))

    pub finds-more : (far : Spots) → FindsMore far g
    finds-more far = record {
      never = λ t l.
          looked g (suc t) never (never_place ks t)
          (subst (λ v. AreDoublesApart g.program old (own g v) → first (looks v never) (all_infos g last 1) ≡ never_place ks t) (one-more t) (never-placed last 1 t l) (apart.tasks t l))
          (never-within ks t (within t l))
          ∙ ap Some (sym (near t (never_place ks) _ l));
      join = λ t l.
          looked g (suc t) join (join_place ks t)
          (subst (λ v. AreDoublesApart g.program old (own g v) → first (looks v join) (all_infos g last 1) ≡ join_place ks t) (one-more t) (join-placed last 1 t l) (apart.tasks t l))
          (join-within ks t (within t l))
          ∙ ap Some (sym (near t (join_place ks) _ l));
    }

pub more_are_found : MoreAreFound
more_are_found far g old apart = finds-more g old apart far
