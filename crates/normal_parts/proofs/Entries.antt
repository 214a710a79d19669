-- The marks of entries, one more.
use Rattle.std.proofs.Common.{◌≡◌, ℕ, ◌+◌, ◌-◌, ◌<◌, ◌≤◌, cond, List, [], ◌∷◌, ◌++◌, length, map, take, slice_get, Option, Some, None, ap, ◌∙◌, arith, ne_eqb}
use Rattle.std.proofs.lemmas.List.{take_all}
use Rattle.ada_tree.specs.declared.naming.NameId.{NameId}
use Rattle.syn_event.specs.declared.numbering.EntryInfo.{EntryInfo}
use Rattle.syn_event.specs.Numbering.{entry_at}
use Rattle.task_model.specs.Setting.{Setting}
use Rattle.normal_model.specs.Ranges.{range_of_info}
use Rattle.replay_asking.proofs.names.Places.{mapped_more}
use Rattle.normal_parts.specs.Marking.{mark_of_range, mark_at}
use Rattle.common_lemmas.proofs.Lists.{element_at}

next-entry : (g : Setting) (i : ℕ) → entry_at g.numbers (i + 1) ≡ slice_get g.numbers.entries i
next-entry g i =
    let e : (i + 1) - 1 ≡ i = omega arith in
    ap (λ b. cond b None (slice_get g.numbers.entries ((i + 1) - 1))) (ne_eqb (i + 1) 0 (λ z. omega (arith, z))) ∙ ap (slice_get g.numbers.entries) e

-- one entry more, where these are the entries of the program
pub marks-turn :
    (g : Setting) (entries : List EntryInfo) (i n : ℕ) (before behind : List (Option NameId)) →
    entries ≡ g.numbers.entries →
    i < length entries → n ≡ i + 1 →
    before ≡ map (λ info. mark_of_range g.types (range_of_info g (Some info))) (take i g.numbers.entries) →
    behind ≡ before ++ mark_at g n ∷ [] →
    behind ≡ map (λ info. mark_of_range g.types (range_of_info g (Some info))) (take (i + 1) g.numbers.entries)
marks-turn g entries i n before behind same within number so_far step =
    let long = ap length same in
    let x = element_at g.numbers.entries i (omega (arith, within, long)) in
    step
    ∙ ap (λ k. before ++ mark_at g k ∷ []) number
    ∙ ap (λ o. before ++ mark_of_range g.types (range_of_info g o) ∷ []) (next-entry g i ∙ x.1)
    ∙ mapped_more (λ info. mark_of_range g.types (range_of_info g (Some info))) g.numbers.entries i x.0 before x.1 so_far

-- all of them
pub marks-end :
    (g : Setting) (entries : List EntryInfo) (i : ℕ) (marks : List (Option NameId)) →
    entries ≡ g.numbers.entries →
    length entries ≤ i →
    marks ≡ map (λ info. mark_of_range g.types (range_of_info g (Some info))) (take i g.numbers.entries) →
    marks ≡ map (λ info. mark_of_range g.types (range_of_info g (Some info))) g.numbers.entries
marks-end g entries i marks same behind so_far =
    let long = ap length same in
    so_far ∙ ap (map (λ info. mark_of_range g.types (range_of_info g (Some info)))) (take_all i g.numbers.entries (omega (arith, behind, long)))
