-- What is promised of the program (this project's rule).
use Rattle.std.specs.Prelude.{◌≡◌, ◌≤◌, ℕ, List, Some, codes, slice_get}
use Rattle.ada_tree.specs.PlainProgram.{PProgram}
use Rattle.ada_tree.specs.WellPlaced.{IsWellPlaced}
use Rattle.ada_static_rules.specs.Declaring.{predefined_types}
use Rattle.syn_event.specs.declared.numbering.Mode.TheVariants as mode
use Rattle.syn_event.specs.Legal.{Legal}
use Rattle.load_gen.specs.LoadTree.{producer_text, integer_id, put_id, image_id, load_id, buffer_id, given_id, sum_id, turn_id, producer_id, load_tree}
use Rattle.load_gen.specs.LoadNumbers.{load_numbers}

-- each id of the tree is that of its text among these names
pub record TellNames (n : ℕ) (names : List (List ℕ)) : Type 0 where
  pub integer : slice_get names integer_id ≡ Some (codes "INTEGER")
  pub put : slice_get names put_id ≡ Some (codes "PUT")
  pub image : slice_get names image_id ≡ Some (codes "IMAGE")
  pub load : slice_get names load_id ≡ Some (codes "LOAD")
  pub of_buffer : slice_get names buffer_id ≡ Some (codes "B")
  pub given : slice_get names given_id ≡ Some (codes "X")
  pub sum : slice_get names sum_id ≡ Some (codes "S")
  pub turn : slice_get names turn_id ≡ Some (codes "J")
  pub producer : (k : ℕ) → 1 ≤ k → k ≤ n → slice_get names (producer_id k) ≡ Some (producer_text k)

-- What is promised of the answer q: it is the tree of the definition, its ids stand for the texts that are meant, it can be printed and read back, and it is a legal original, with the predefined types and the numbers of the definition.
pub record IsLoad (n : ℕ) (q : PProgram) : Type 0 where
  pub tree : q ≡ load_tree n
  pub names : TellNames n q.names
  pub placed : IsWellPlaced q
  pub legal : Legal q predefined_types (load_numbers n) mode.Original
