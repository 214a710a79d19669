-- What is refused where the rewriters would copy too much.
use Rattle.std.specs.Prelude.{◌≡◌, ℕ, ◌+◌, ◌-◌, ◌*◌, ◌<◌, List, ◌∷◌, length, map, drop, Option, refl}
use Rattle.std.proofs.Common.{sym, ap, ◌∙◌, arith, get_or}
use Rattle.ada_tree.specs.TypeTable.{TypeTable}
use Rattle.ada_tree.specs.declared.declarations.Decl.{Decl}
use Rattle.ada_tree.specs.PlainDecl.{plain_decl, decls_of}
use Rattle.ada_tree.specs.PlainProgram.{PProgram}
use Rattle.syn_event.specs.declared.limits.What.TheVariants.{Copies}
use Rattle.syn_event.specs.CheckRefusals.{CheckRefusal}
use Rattle.syn_event.specs.CheckScope.{CheckScope, counts}
use Rattle.syn_event.specs.NamedTasks.{NamedTasks, task_count}
use Rattle.syn_event.specs.Callees.{body_callees}
use Rattle.syn_event.specs.Copying.{callees_share, part_share}
use Rattle.syn_event.specs.CheckSites.{copies_sites, all_copies_sites}
use Rattle.ada_check_rules.specs.declared.rules.counting.Counted.{Counted}
use Rattle.ada_check_rules.specs.rules.Amounts.{capped}
use Rattle.ada_check_rules.specs.rules.Sooner.{sooner}
use Rattle.ada_check_rules.specs.rules.RefusedFirst.{Standard, refused_first_at, refused_first}
use Rattle.ada_task_numbers.specs.task_counts.inner.Shares.{Rates, array_lengths, shared, with_share, body_shares, share_of}
use Rattle.ada_check_rules.proofs.rules.Capping.{capped_twice}
use Rattle.ada_check_rules.proofs.rules.CountLaws.{at_same}
use Rattle.ada_task_numbers.proofs.task_counts.TaskCounting.{shares_same}
use Rattle.ada_task_numbers.proofs.task_counts.Sharing.{shared_is, part_share_is}
use Rattle.ada_check_rules.proofs.rules.Meeting.{met_cons}
use Rattle.ada_check_rules.proofs.rules.FromBehind.{back_cut}

-- ---- lengths and shares, from behind

pub rows_back : {A : Type 0} (types : TypeTable) (see : A → NamedTasks) (xs : List A) (k : ℕ) (x : A) (rows more : List (ℕ × ℕ)) (count : ℕ) → k < length xs → x ≡ get_or xs (length xs - 1 - k) x
    → rows ≡ array_lengths types (map see (drop (length xs - k) xs)) → count ≡ capped (task_count types (see x)) → more ≡ ((see x).name.name.0, count) ∷ rows
    → more ≡ array_lengths types (map see (drop (length xs - (k + 1)) xs))
rows_back types see xs k x rows more count h is_x told is_count is_more =
    is_more
    ∙ ap (λ n. ((see x).name.name.0, n) ∷ rows) is_count
    ∙ ap (λ l. ((see x).name.name.0, capped (task_count types (see x))) ∷ l) told
    ∙ ap (λ ys. array_lengths types (map see ys)) (sym (back_cut xs k x h is_x))

pub shares_back : (rates : Rates) (xs : List Decl) (k : ℕ) (x : Decl) (shares more : List (ℕ × ℕ)) → k < length xs → x ≡ get_or xs (length xs - 1 - k) x
    → shares ≡ body_shares rates (decls_of (map plain_decl (drop (length xs - k) xs))) → more ≡ with_share rates (plain_decl x) shares
    → more ≡ body_shares rates (decls_of (map plain_decl (drop (length xs - (k + 1)) xs)))
shares_back rates xs k x shares more h is_x told is_more =
    is_more ∙ ap (with_share rates (plain_decl x)) told ∙ ap (λ (ys : List Decl). body_shares rates (decls_of (map plain_decl ys))) (sym (back_cut xs k x h is_x))

-- the share of each name, by the shares of the bodies
abbrev pub share_by : TypeTable → List (ℕ × ℕ) → NamedTasks → ℕ
share_by types shares x = capped (capped (task_count types x) * share_of shares x.unit.name.name)

abbrev rates_of : TypeTable → List NamedTasks → Rates
rates_of types parts = record { types = types; rows = array_lengths types parts }

with_types : (by : Standard) (around : CheckScope) (parts : List NamedTasks) (p : PProgram) (share : ℕ) (own : Counted) (r : Option CheckRefusal)
    → share ≡ shared (rates_of around.types parts) (body_callees p.body)
    → capped own.count ≡ capped (0 + share)
    → own.refusal ≡ refused_first_at by around (counts Copies 0 share p.name.span)
    → r ≡ sooner own.refusal (refused_first by (copies_sites around (share_by around.types (body_shares (rates_of around.types parts) p.decls)) own.count parts))
    → r ≡ refused_first by (all_copies_sites around parts p)
with_types by around parts p share own r is_share count refused is =
    let all : ℕ = callees_share around.types parts p.body in
    let same : capped share ≡ capped all = ap capped (is_share ∙ shared_is around.types parts (body_callees p.body)) ∙ capped_twice all in
    let start : capped own.count ≡ capped all = count ∙ ap capped (add_left share) ∙ same in
    is
    ∙ ap (λ o. sooner o (refused_first by (copies_sites around (share_by around.types (body_shares (rates_of around.types parts) p.decls)) own.count parts))) (refused ∙ at_same by around Copies 0 0 share all p.name.span refl same)
    ∙ ap (sooner (refused_first_at by around (counts Copies 0 all p.name.span))) (shares_same by around (share_by around.types (body_shares (rates_of around.types parts) p.decls)) (part_share around.types parts p.decls) (part_share_is around.types parts p.decls) own.count all parts start)
    ∙ sym (met_cons by around (counts Copies 0 all p.name.span) (copies_sites around (part_share around.types parts p.decls) all parts))
  where
    add_left : (n : ℕ) → 0 + n ≡ n
    add_left n = omega arith

pub copies_met : (by : Standard) (around : CheckScope) (types : TypeTable) (parts : List NamedTasks) (p : PProgram) (rates : Rates) (shares : List (ℕ × ℕ)) (share : ℕ) (own : Counted) (r : Option CheckRefusal)
    → around.types ≡ types
    → rates ≡ record { types = types; rows = array_lengths types parts }
    → shares ≡ body_shares rates p.decls
    → share ≡ shared rates (body_callees p.body)
    → capped own.count ≡ capped (0 + share)
    → own.refusal ≡ refused_first_at by around (counts Copies 0 share p.name.span)
    → r ≡ sooner own.refusal (refused_first by (copies_sites around (λ (x : NamedTasks). capped (capped (task_count types x) * share_of shares x.unit.name.name)) own.count parts))
    → r ≡ refused_first by (all_copies_sites around parts p)
copies_met by around types parts p rates shares share own r same is_rates is_shares is_share count refused is =
    let at : rates ≡ rates_of around.types parts = is_rates ∙ ap (λ t. rates_of t parts) (sym same) in
    with_types by around parts p share own r
    (is_share ∙ ap (λ t. shared t (body_callees p.body)) at)
    count
    refused
    (is
    ∙ ap (λ t. sooner own.refusal (refused_first by (copies_sites around (share_by t shares) own.count parts))) (sym same)
    ∙ ap (λ s. sooner own.refusal (refused_first by (copies_sites around (share_by around.types s) own.count parts))) (is_shares ∙ ap (λ t. body_shares t p.decls) at))
