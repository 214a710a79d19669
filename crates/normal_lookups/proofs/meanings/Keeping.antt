-- Members that are kept, one after the other.
use Rattle.std.proofs.Common.{◌≡◌, ◌==◌, ◌<◌, ◌+◌, ◌&&◌, ℕ, nat_eq, Bool, true, false, cond, List, [], ◌∷◌, ◌++◌, Vec, map, take, length, get_or, Some, None, option_map, is_some, unwrap_or, if◌then◌else◌, true≢false, refl, sym, ap, ◌∙◌, arith}
use Rattle.std.specs.declared.alloc.Global.{Global}
use Rattle.std.specs.HashMap.{HashMap, get}
use Rattle.std.proofs.lemmas.Bool.Decides.{nat_tests}
use Rattle.std.proofs.lemmas.List.{take_more, map-append, append-nil}
use Rattle.ada_tree.specs.declared.naming.NameId.{NameId}
use Rattle.ada_tree.specs.declared.naming.Span.{Span}
use Rattle.syn_event.specs.declared.numbering.TaskInfo.{TaskInfo}
use Rattle.task_model.specs.Setting.{Setting}
use Rattle.normal_lookups.specs.declared.pieces.meanings.Member.{Member}
use Rattle.ada_tree.specs.PlainExpr.{PExpr}
use Rattle.normal_model.specs.Names.{task_name}
use Rattle.normal_model.specs.Ranges.{array_range}
use Rattle.normal_model.specs.Members.{index_literal, kind_of_index}
use Rattle.normal_lookups.specs.pieces.Seen.{literal_seen, member_meant, member_seen}
use Rattle.normal_lookups.specs.meanings.Kept.{AreMembers, members_among, members_at}

-- what is found where something was taken away
pub taken_at : {S : Type 0} (old new : HashMap ℕ (Vec Member Global) S) (key q : ℕ) → get nat_eq new q ≡ cond (nat_eq key q) None (get nat_eq old q) → members_at new q ≡ (if key == q then [] else members_at old q)
taken_at old new key q h = ap (λ o. unwrap_or (option_map (λ v. v.items) o) []) h ∙ by (nat_eq key q)
  where
    by : (b : Bool) → unwrap_or (option_map (λ (v : Vec Member Global). v.items) (cond b None (get nat_eq old q))) [] ≡ (if b then [] else members_at old q)
    by true = refl
    by false = refl

same_key : (a b : ℕ) → nat_eq a b ≡ true → a ≡ b
same_key a b h = grind (arith, nat_tests)

-- what is found where one more was put to what was taken away
pub kept_more : {S : Type 0} (old mid new : HashMap ℕ (Vec Member Global) S) (key q : ℕ) (v : Vec Member Global) (m : Member) → get nat_eq new q ≡ cond (nat_eq key q) (Some v) (get nat_eq mid q) →
    v.items ≡ members_at old key ++ m ∷ [] → members_at mid q ≡ (if key == q then [] else members_at old q) →
    members_at new q ≡ members_at old q ++ (if key == q then m ∷ [] else [])
kept_more old mid new key q v m h grows left = ap (λ o. unwrap_or (option_map (λ (w : Vec Member Global). w.items) o) []) h ∙ by (nat_eq key q) refl left
  where
    by : (b : Bool) → nat_eq key q ≡ b → members_at mid q ≡ (if b then [] else members_at old q) → unwrap_or (option_map (λ (w : Vec Member Global). w.items) (cond b (Some v) (get nat_eq mid q))) [] ≡ members_at old q ++ (if b then m ∷ [] else [])
    by true e before = grows ∙ ap (λ k. members_at old k ++ m ∷ []) (same_key key q e)
    by false e before = before ∙ sym (append-nil (members_at old q))

-- ---- one turn

among_push : (tasks : List TaskInfo) (info : TaskInfo) (name : NameId) → members_among (tasks ++ info ∷ []) name ≡ members_among tasks name ++ members_among (info ∷ []) name
among_push [] info name = refl
among_push (x ∷ tasks) info name = by ((x.name.0 == name.0) && is_some x.member) (among_push tasks info name)
  where
    by : (b : Bool) → members_among (tasks ++ info ∷ []) name ≡ members_among tasks name ++ members_among (info ∷ []) name → cond b (x ∷ members_among (tasks ++ info ∷ []) name) (members_among (tasks ++ info ∷ []) name) ≡ cond b (x ∷ members_among tasks name) (members_among tasks name) ++ members_among (info ∷ []) name
    by true e = ap (λ l. x ∷ l) e
    by false e = e

pub task_step : {S : Type 0} (g : Setting) (tasks : List TaskInfo) (i : ℕ) (d : TaskInfo) (so_far grown : HashMap ℕ (Vec Member Global) S) → i < length tasks →
    AreMembers g (take i tasks) so_far →
    ((array : NameId) (s : Span) → map (member_seen s) (members_at grown array.0) ≡ map (member_seen s) (members_at so_far array.0) ++ map (member_meant g s array) (members_among (get_or tasks i d ∷ []) array)) →
    AreMembers g (take (i + 1) tasks) grown
task_step g tasks i d so_far grown lt before grows array s =
    grows array s
    ∙ ap (λ l. l ++ map (member_meant g s array) (members_among (get_or tasks i d ∷ []) array)) (before array s)
    ∙ sym (ap (λ l. map (member_meant g s array) (members_among l array)) (take_more tasks i d lt)
    ∙ ap (map (member_meant g s array)) (among_push (take i tasks) (get_or tasks i d) array)
    ∙ map-append (member_meant g s array) (members_among (take i tasks) array) (members_among (get_or tasks i d ∷ []) array))

-- a member that is kept is what it is in the normal form
pub kept_task : {S : Type 0} (g : Setting) (old new : HashMap ℕ (Vec Member Global) S) (info : TaskInfo) (member : Member) → is_some info.member ≡ true →
    ((q : ℕ) → members_at new q ≡ members_at old q ++ (if info.name.0 == q then member ∷ [] else [])) →
    ((s : Span) → literal_seen s member.index ≡ index_literal (kind_of_index g.types (array_range g.program info.name)) s info.member) →
    member.name ≡ task_name g info →
    (array : NameId) (s : Span) → map (member_seen s) (members_at new array.0) ≡ map (member_seen s) (members_at old array.0) ++ map (member_meant g s array) (members_among (info ∷ []) array)
kept_task g old new info member there grows literal called array s =
    ap (map (member_seen s)) (grows array.0)
    ∙ map-append (member_seen s) (members_at old array.0) (if info.name.0 == array.0 then member ∷ [] else [])
    ∙ ap (λ l. map (member_seen s) (members_at old array.0) ++ l) (by (info.name.0 == array.0) (is_some info.member) refl there)
  where
    same : info.name.0 ≡ array.0 → member_seen s member ≡ member_meant g s array info
    same e =
        ap (λ (x : PExpr). let pair : PExpr × NameId = (x, member.name) in pair) (literal s ∙ ap (λ k. index_literal (kind_of_index g.types (array_range g.program (record { 0 = k }))) s info.member) e)
        ∙ ap (λ (y : NameId). let pair : PExpr × NameId = (index_literal (kind_of_index g.types (array_range g.program array)) s info.member, y) in pair) called

    by : (b c : Bool) → (info.name.0 == array.0) ≡ b → c ≡ true → map (member_seen s) (if b then member ∷ [] else []) ≡ map (member_meant g s array) (cond (b && c) (info ∷ []) [])
    by b false e h = absurd (true≢false (sym h))
    by false true e h = refl
    by true true e h = ap (λ (x : PExpr × NameId). x ∷ []) (same (same_key info.name.0 array.0 e))
