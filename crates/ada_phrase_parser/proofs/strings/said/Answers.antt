use Rattle.std.proofs.Common.{◌≡◌, true, drop, sym, ap, ◌∙◌}
use Rattle.std.proofs.lemmas.Str.{IsUtf8-from_ascii}
use Rattle.ada_lexer.specs.Strings.{content}
use Rattle.ada_phrase_parser.specs.Spelling.{said_at, is_graphic}
use Rattle.ada_phrase_parser.specs.Views.{told}
use Rattle.ada_phrase_parser.proofs.Texts.{ascii}
use Rattle.ada_phrase_parser.proofs.strings.said.Goals as goal

pub returns-clause-said : goal.returns-clause-said
returns-clause-said c =
    let read : c.deref-2.result.now ≡ said_at (told c.args.source.now) c.args.at = c.deref-2.ensures.value ∙ (c.in_ok-bytes.ensures ∙ (ap (content true) c.behind_first.ensures ∙ ap (λ l. content true (drop 1 l)) c.bytes_at.ensures)) in
    let graphic : is_graphic c.deref-2.result.now ≡ true = ap is_graphic (c.deref-2.ensures.value ∙ sym c.deref.ensures.value) ∙ (sym c.is_graphic.ensures ∙ c.if-not-is_graphic.false) in
    c.in_ok-text.ensures.ok (IsUtf8-from_ascii _ (ascii _ graphic)) ∙ read
