-- Whether the first line of a text is the one that is wanted.
use Rattle.std.proofs.Common.{◌≡◌, ℕ, true, false, List, Option, None, Some, refl, ap, ◌∙◌, sym, take, drop, ◌+◌, option_map}
use Rattle.std.specs.Prelude.{bytes_eq, position, is_some}
use Rattle.std.specs.Option.{option_map_or}
use Rattle.std.proofs.lemmas.Slice.Eq.{bytes_eq-Decides}
use Rattle.seq_file.specs.text_lines.Lines.{is_line_end, cut}
use Rattle.seq_file.specs.text_lines.LineFiles.{begins_with_line}
use Rattle.seq_file.proofs.text_lines.Marking.{first-line_cut}
use Rattle.common_lemmas.proofs.Truth.{clash}

pub header-same : (text line header behind : List ℕ) → Some (line, behind) ≡ cut is_line_end text → bytes_eq line header ≡ true → cut is_line_end text ≡ Some (header, behind)
header-same text line header behind cuts same = sym cuts ∙ ap (λ t. Some (t, behind)) ((bytes_eq-Decides line header).0 same)

pub header-other : (text line header behind : List ℕ) → Some (line, behind) ≡ cut is_line_end text → bytes_eq line header ≡ false → begins_with_line header text ≡ false
header-other text line header behind cuts other =
    ap (λ o. option_map_or (λ first. bytes_eq first header) o false) (first-line_cut text line behind (sym cuts)) ∙ other

none-first : (text : List ℕ) (o : Option ℕ) → None ≡ option_map {U = List ℕ × List ℕ} (λ n. (take n text, drop (n + 1) text)) o → option_map (λ n. take n text) o ≡ None
none-first text None h = refl
none-first text (Some n) h = clash (ap is_some h)

pub header-missing : (text header : List ℕ) → None ≡ cut is_line_end text → begins_with_line header text ≡ false
header-missing text header cuts =
    ap (λ o. option_map_or (λ first. bytes_eq first header) o false) (none-first text (position is_line_end text) cuts)

pub ruleset headers = (header-same, header-other, header-missing)
