-- How large a program that is read may be, by the bytes of its text (this project's rule).
use Rattle.std.specs.Prelude.{ℕ, ◌+◌, ◌<◌, ◌≤◌, ◌^◌, List, length}
use Rattle.ada_tree.specs.NameList.{predefined, AreNames}
use Rattle.ada_tree.specs.PlainProgram.{PProgram}
use Rattle.ada_parser.specs.Reads.{Reads}
use Rattle.normal_laws.specs.existence.units.Weights.{IsLight}
use Rattle.text_laws.specs.sizes.Weight.{program_weight}

-- A program that is read has at most as many names as its text has bytes, besides the predefined ones.
abbrev pub ReadHasFewNames : Type 0
ReadHasFewNames = (bytes : List ℕ) (p : PProgram) → Reads bytes p → length p.names ≤ length predefined + length bytes

-- Its names begin with the predefined ones, and no text of a name has two ids.
abbrev pub ReadHasNames : Type 0
ReadHasNames = (bytes : List ℕ) (p : PProgram) → Reads bytes p → length predefined + length bytes ≤ 2 ^ 32 → AreNames p.names

-- Its bodies together weigh no more than its text has bytes.
abbrev pub ReadWeighsLittle : Type 0
ReadWeighsLittle = (bytes : List ℕ) (p : PProgram) → Reads bytes p → program_weight p ≤ length bytes

-- So its bodies are light.
abbrev pub ReadIsLight : Type 0
ReadIsLight = (bytes : List ℕ) (p : PProgram) → Reads bytes p → length bytes < 2 ^ 64 → IsLight p
