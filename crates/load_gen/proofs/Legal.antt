-- The program is all that is promised.
use Rattle.std.proofs.Common.{◌≡◌, ℕ, ◌≤◌, Result, Ok, Err, IfOk, refl, sym, subst}
use Rattle.ada_tree.specs.declared.shortage.Memory.{Memory}
use Rattle.ada_tree.specs.declared.whole.Program.{Program}
use Rattle.ada_tree.specs.PlainProgram.{PProgram, plain_program}
use Rattle.ada_static_rules.specs.Declaring.{predefined_types}
use Rattle.syn_event.specs.declared.numbering.Mode.TheVariants as mode
use Rattle.syn_event.specs.Legal.{Legal}
use Rattle.load_gen.specs.LoadTree.{load_tree}
use Rattle.load_gen.specs.LoadNumbers.{load_numbers}
use Rattle.load_gen.specs.Promised.{IsLoad}
use Rattle.load_gen.proofs.TypeRules.{met, types}
use Rattle.load_gen.proofs.CheckRules.{checked}
use Rattle.load_gen.proofs.TaskNumbers.{numbered}
use Rattle.load_gen.proofs.Placed.{told, placed}

legal : (n : ℕ) → n ≤ 100 → Legal (load_tree n) predefined_types (load_numbers n) mode.Original
legal n le = record { type_rules = met n; check_rules = checked n le; its_types = sym (types n); its_numbers = numbered predefined_types n le }

promised : (n : ℕ) (q : PProgram) → q ≡ load_tree n → n ≤ 100 → IsLoad n q
promised n q e le = subst (IsLoad n) (sym e) (record { tree = refl; names = told n; placed = placed n le; legal = legal n le })

pub all_promised : (n : ℕ) (r : Result Program Memory) → n ≤ 100 → IfOk r (λ p. plain_program p ≡ load_tree n) → IfOk r (λ p. IsLoad n (plain_program p))
all_promised n (Ok p) le e = promised n (plain_program p) e le
all_promised n (Err e) le t = tt
