-- Indices of any size, and the cap: what is beyond 32 bits is an index neither before nor behind it.
use Rattle.std.proofs.Common.{◌≡◌, ℕ, ℤ, pos, negsuc, neg_ℤ, suc, ◌-◌, ◌^◌, ◌<◌, true, false, cond, length, None, ap, ◌∙◌, sym, arith, inl, inr}
use Rattle.std.specs.Int.Signed.{mag}
use Rattle.std.proofs.lemmas.Bool.{cases_Bool, cases_lt, leb-true, and_parts}
use Rattle.std.proofs.lemmas.Option.{slice_get_past}
use Rattle.std.specs.Int.{w32}
use Rattle.std.specs.Option.{option_map_or}
use Rattle.std.specs.Prelude.{◌&&◌, ◌==◌, int_le, slice_get, FitsSigned}
use Rattle.syn_event.specs.declared.numbering.EntryInfo.{EntryInfo}
use Rattle.syn_event.specs.Numbering.{Numbering, entry_at}
use Rattle.seq_file.specs.text_lines.Capped.{capped_integer}
use Rattle.seq_file.specs.Known.{is_index, is_known_member, fits_entry}
use Rattle.seq_file.proofs.text_lines.Capping.{capped-small, capped-large}
use Rattle.seq_file.proofs.Knowing.{IsTest, test_by}

-- an index stands as it is
pub index-exact : (z : ℤ) → is_index z ≡ true → capped_integer z ≡ z
index-exact (pos n) h = ap pos (capped-small n (omega (arith, leb-true n 2147483647 h)))
index-exact (negsuc n) h =
    ap (λ t. neg_ℤ (pos t)) (capped-small (suc n) (omega (arith, leb-true n 2147483647 (and_parts (int_le (negsuc 2147483647) (negsuc n)) true h).0)))

index-none : (z : ℤ) → is_index z ≡ false → is_index (capped_integer z) ≡ false
index-none (pos n) h = elim (cases_lt n (2 ^ 32)) [
  | inl lt ↦ ap (λ t. is_index (pos t)) (capped-small n (omega (arith, lt))) ∙ h
  | inr ge ↦ ap (λ t. is_index (pos t)) (capped-large n ge)
]
index-none (negsuc n) h = elim (cases_lt n (2 ^ 32)) [
  | inl lt ↦ ap (λ t. is_index (neg_ℤ (pos t))) (capped-small (suc n) (omega (arith, lt))) ∙ h
  | inr ge ↦ ap (λ t. is_index (neg_ℤ (pos t))) (capped-large (suc n) (omega (arith, ge)))
]

pub index-same : (z : ℤ) → is_index (capped_integer z) ≡ is_index z
index-same z = elim (cases_Bool (is_index z)) [
  | inl e ↦ ap is_index (index-exact z e)
  | inr e ↦ index-none z e ∙ sym e
]

-- no entry sees the cap
pub fits-same : (z : ℤ) (info : EntryInfo) → fits_entry (capped_integer z) info ≡ fits_entry z info
fits-same z info = elim (cases_Bool (is_index z)) [
  | inl e ↦ ap (λ t. fits_entry t info) (index-exact z e)
  | inr e ↦
      ap (λ t. t && (cond info.family (int_le info.first (capped_integer z) && int_le (capped_integer z) info.last) (int_le (pos 0) (capped_integer z) && int_le (capped_integer z) (pos 0)))) (index-none z e)
      ∙ sym (ap (λ t. t && (cond info.family (int_le info.first z && int_le z info.last) (int_le (pos 0) z && int_le z (pos 0)))) e)
]

pub fits-index : (z : ℤ) (info : EntryInfo) → fits_entry z info ≡ true → is_index z ≡ true
fits-index z info h = (and_parts (is_index z) _ h).0

-- an index has 32 bits
pub index-fits : (z : ℤ) → is_index z ≡ true → FitsSigned w32 z
index-fits (pos n) h = record { sfits = omega (arith, leb-true n 2147483647 h) }
index-fits (negsuc n) h = record { sfits = omega (arith, leb-true n 2147483647 (and_parts (int_le (negsuc 2147483647) (negsuc n)) true h).0) }

pub index-small : (z : ℤ) → is_index z ≡ true → mag z < 2 ^ 63
index-small (pos n) h = omega (arith, leb-true n 2147483647 h)
index-small (negsuc n) h = omega (arith, leb-true n 2147483647 (and_parts (int_le (negsuc 2147483647) (negsuc n)) true h).0)

entry-none : (numbers : Numbering) (e : ℕ) → length numbers.entries < e → entry_at numbers e ≡ None
entry-none numbers e h = elim (cases_Bool (e == 0)) [
  | inl yes' ↦ ap (λ t. cond t None (slice_get numbers.entries (e - 1))) yes'
  | inr no' ↦ ap (λ t. cond t None (slice_get numbers.entries (e - 1))) no' ∙ slice_get_past numbers.entries (e - 1) (omega (arith, h))
]

-- the number of an entry does not see the cap either
pub member-test : (numbers : Numbering) (z : ℤ) → length numbers.entries < 2 ^ 32 → IsTest (λ e. is_known_member numbers e z)
member-test numbers z h =
    test_by (λ e. is_known_member numbers e z) (λ e ge. ap (λ o. option_map_or (fits_entry z) o false) (entry-none numbers e (omega (arith, h, ge))))

pub ruleset indexing = (fits-index, index-exact)
