-- Reserved words and delimiters: their texts, and that each is the token that it should be before what may follow it (2.2, 2.9).
use Rattle.std.proofs.Common.{◌≡◌, ℕ, Bool, true, false, List, [], ◌∷◌, ◌++◌, codes, refl, arith}
use Rattle.std.proofs.lemmas.Bool.{and_parts, false≢true}
use Rattle.std.proofs.lemmas.Bool.Decides.{nat_tests}
use Rattle.std.specs.Prelude.{◌&&◌, ◌==◌}
use Rattle.ada_lexer.specs.declared.verdicts.Verdict.TheVariants.{Kind}
use Rattle.ada_lexer.specs.Bytes.{is_letter}
use Rattle.common_lemmas.specs.Following.{every}
use Rattle.ada_lexer.specs.Words.{two_letters, three_letters, four_letters, five_letters, six_letters, seven_letters, eight_letters, nine_letters, reserved_words, reserved_symbol, simple_delimiters, compound_delimiters, delimiter_symbol}
use Rattle.ada_lexer.specs.Pieces.{word_goes_on}
use Rattle.ada_lexer.specs.Lengths.{piece_len, mark_len}
use Rattle.ada_lexer.specs.Verdicts.{word_verdict, mark_verdict, verdict}
use Rattle.ada_lexer.specs.declared.symbols.Symbol.{Symbol}
use Rattle.ada_lexer.specs.declared.symbols.Symbol.TheVariants as key
use Rattle.ada_lexer.specs.declared.kinds.TokenKind.TheVariants as kinds
use Rattle.read_back.proofs.Classes.{Class, Anything, Plain, WordEnd, Stop, allows, Next}
use Rattle.read_back.proofs.Pieces.{Ends, longest_here, word_ends}

-- the text of a reserved word or delimiter
abbrev pub sign_bytes : Symbol → List ℕ
sign_bytes key.Abort = codes "abort"
sign_bytes key.Abs = codes "abs"
sign_bytes key.Accept = codes "accept"
sign_bytes key.Access = codes "access"
sign_bytes key.All = codes "all"
sign_bytes key.And = codes "and"
sign_bytes key.Array = codes "array"
sign_bytes key.At = codes "at"
sign_bytes key.Begin = codes "begin"
sign_bytes key.Body = codes "body"
sign_bytes key.Case = codes "case"
sign_bytes key.Constant = codes "constant"
sign_bytes key.Declare = codes "declare"
sign_bytes key.Delay = codes "delay"
sign_bytes key.Delta = codes "delta"
sign_bytes key.Digits = codes "digits"
sign_bytes key.Do = codes "do"
sign_bytes key.Else = codes "else"
sign_bytes key.Elsif = codes "elsif"
sign_bytes key.End = codes "end"
sign_bytes key.Entry = codes "entry"
sign_bytes key.Exception = codes "exception"
sign_bytes key.Exit = codes "exit"
sign_bytes key.For = codes "for"
sign_bytes key.Function = codes "function"
sign_bytes key.Generic = codes "generic"
sign_bytes key.Goto = codes "goto"
sign_bytes key.If = codes "if"
sign_bytes key.In = codes "in"
sign_bytes key.Is = codes "is"
sign_bytes key.Limited = codes "limited"
sign_bytes key.Loop = codes "loop"
sign_bytes key.Mod = codes "mod"
sign_bytes key.New = codes "new"
sign_bytes key.Not = codes "not"
sign_bytes key.Null = codes "null"
sign_bytes key.Of = codes "of"
sign_bytes key.Or = codes "or"
sign_bytes key.Others = codes "others"
sign_bytes key.Out = codes "out"
sign_bytes key.Package = codes "package"
sign_bytes key.Pragma = codes "pragma"
sign_bytes key.Private = codes "private"
sign_bytes key.Procedure = codes "procedure"
sign_bytes key.Raise = codes "raise"
sign_bytes key.Range = codes "range"
sign_bytes key.Record = codes "record"
sign_bytes key.Rem = codes "rem"
sign_bytes key.Renames = codes "renames"
sign_bytes key.Return = codes "return"
sign_bytes key.Reverse = codes "reverse"
sign_bytes key.Select = codes "select"
sign_bytes key.Separate = codes "separate"
sign_bytes key.Subtype = codes "subtype"
sign_bytes key.Task = codes "task"
sign_bytes key.Terminate = codes "terminate"
sign_bytes key.Then = codes "then"
sign_bytes key.Type = codes "type"
sign_bytes key.Use = codes "use"
sign_bytes key.When = codes "when"
sign_bytes key.While = codes "while"
sign_bytes key.With = codes "with"
sign_bytes key.Xor = codes "xor"
sign_bytes key.Semicolon = codes ";"
sign_bytes key.Comma = codes ","
sign_bytes key.LeftParen = codes "("
sign_bytes key.RightParen = codes ")"
sign_bytes key.Colon = codes ":"
sign_bytes key.Becomes = codes ":="
sign_bytes key.Arrow = codes "=>"
sign_bytes key.Dot = codes "."
sign_bytes key.DotDot = codes ".."
sign_bytes key.Bar = codes "|"
sign_bytes key.Ampersand = codes "&"
sign_bytes key.Tick = codes "'"
sign_bytes key.Equal = codes "="
sign_bytes key.NotEqual = codes "/="
sign_bytes key.Less = codes "<"
sign_bytes key.LessEqual = codes "<="
sign_bytes key.Greater = codes ">"
sign_bytes key.GreaterEqual = codes ">="
sign_bytes key.Plus = codes "+"
sign_bytes key.Minus = codes "-"
sign_bytes key.Star = codes "*"
sign_bytes key.Slash = codes "/"

-- what may stand behind it
abbrev pub sign_class : Symbol → Class
sign_class key.Semicolon = Anything
sign_class key.Comma = Anything
sign_class key.LeftParen = Anything
sign_class key.RightParen = Anything
sign_class key.Colon = Plain
sign_class key.Becomes = Anything
sign_class key.Arrow = Anything
sign_class key.Dot = Plain
sign_class key.DotDot = Anything
sign_class key.Bar = Anything
sign_class key.Ampersand = Anything
sign_class key.Tick = Anything
sign_class key.Equal = Plain
sign_class key.NotEqual = Anything
sign_class key.Less = Plain
sign_class key.LessEqual = Anything
sign_class key.Greater = Plain
sign_class key.GreaterEqual = Anything
sign_class key.Plus = Anything
sign_class key.Minus = Plain
sign_class key.Star = Anything
sign_class key.Slash = Plain
sign_class s = WordEnd

-- what it begins with
abbrev pub sign_opening : Symbol → Class
sign_opening key.Semicolon = Stop
sign_opening key.Comma = Stop
sign_opening key.LeftParen = Stop
sign_opening key.RightParen = Stop
sign_opening key.Colon = Anything
sign_opening key.Becomes = Anything
sign_opening key.Arrow = Anything
sign_opening key.Dot = WordEnd
sign_opening key.DotDot = Anything
sign_opening key.Bar = Anything
sign_opening key.Ampersand = Anything
sign_opening key.Tick = Stop
sign_opening key.Equal = Anything
sign_opening key.NotEqual = Anything
sign_opening key.Less = Anything
sign_opening key.LessEqual = Anything
sign_opening key.Greater = Anything
sign_opening key.GreaterEqual = Anything
sign_opening key.Plus = Anything
sign_opening key.Minus = Anything
sign_opening key.Star = Anything
sign_opening key.Slash = Anything
sign_opening s = Plain

pub sign_opens : (s : Symbol) (rest : List ℕ) → Next (sign_opening s) (sign_bytes s ++ rest)
sign_opens key.Semicolon rest = refl
sign_opens key.Comma rest = refl
sign_opens key.LeftParen rest = refl
sign_opens key.RightParen rest = refl
sign_opens key.Colon rest = tt
sign_opens key.Becomes rest = tt
sign_opens key.Arrow rest = tt
sign_opens key.Dot rest = refl
sign_opens key.DotDot rest = tt
sign_opens key.Bar rest = tt
sign_opens key.Ampersand rest = tt
sign_opens key.Tick rest = refl
sign_opens key.Equal rest = tt
sign_opens key.NotEqual rest = tt
sign_opens key.Less rest = tt
sign_opens key.LessEqual rest = tt
sign_opens key.Greater rest = tt
sign_opens key.GreaterEqual rest = tt
sign_opens key.Plus rest = tt
sign_opens key.Minus rest = tt
sign_opens key.Star rest = tt
sign_opens key.Slash rest = tt
sign_opens s rest = refl

abbrev is_word_text : List ℕ → Bool
is_word_text [] = false
is_word_text (b ∷ bs) = is_letter b && every word_goes_on bs

word_text_ends : (w : List ℕ) → is_word_text w ≡ true → Ends WordEnd w
word_text_ends [] h = absurd (false≢true h)
word_text_ends (b ∷ bs) h = let both = and_parts (is_letter b) (every word_goes_on bs) h in word_ends b bs both.0 both.1

-- a delimiter of one byte, and of two
one_ends : (c : Class) (b : ℕ) → piece_len (b ∷ []) ≡ 1 → ((d : ℕ) (rest : List ℕ) → Next c (d ∷ rest) → piece_len (b ∷ d ∷ rest) ≡ 1) → Ends c (b ∷ [])
one_ends c b alone before [] next = longest_here (b ∷ []) [] (omega arith) alone
one_ends c b alone before (d ∷ rest) next = longest_here (b ∷ []) (d ∷ rest) (omega arith) (before d rest next)

two_ends : (b c : ℕ) → ((rest : List ℕ) → piece_len (b ∷ c ∷ rest) ≡ 2) → Ends Anything (b ∷ c ∷ [])
two_ends b c whole rest next = longest_here (b ∷ c ∷ []) rest (omega arith) (whole rest)

-- no delimiter or comment goes on with what is plain
no_sign : (b : ℕ) → allows Plain b ≡ true → ((b == 61) ≡ false) × ((b == 62) ≡ false) × ((b == 46) ≡ false) × ((b == 45) ≡ false)
no_sign b h = (grind (arith, nat_tests), grind (arith, nat_tests), grind (arith, nat_tests), grind (arith, nat_tests))

pub sign_ends : (s : Symbol) → Ends (sign_class s) (sign_bytes s)
unfolding piece_len mark_len simple_delimiters compound_delimiters
sign_ends key.Semicolon = one_ends Anything 59 refl (λ d rest next. refl)
sign_ends key.Comma = one_ends Anything 44 refl (λ d rest next. refl)
sign_ends key.LeftParen = one_ends Anything 40 refl (λ d rest next. refl)
sign_ends key.RightParen = one_ends Anything 41 refl (λ d rest next. refl)
sign_ends key.Colon = one_ends Plain 58 refl (λ d rest next. rw (no_sign d next).0 refl)
sign_ends key.Becomes = two_ends 58 61 (λ rest. refl)
sign_ends key.Arrow = two_ends 61 62 (λ rest. refl)
sign_ends key.Dot = one_ends Plain 46 refl (λ d rest next. rw (no_sign d next).2 refl)
sign_ends key.DotDot = two_ends 46 46 (λ rest. refl)
sign_ends key.Bar = one_ends Anything 124 refl (λ d rest next. refl)
sign_ends key.Ampersand = one_ends Anything 38 refl (λ d rest next. refl)
sign_ends key.Tick = one_ends Anything 39 refl (λ d rest next. refl)
sign_ends key.Equal = one_ends Plain 61 refl (λ d rest next. rw (no_sign d next).1 refl)
sign_ends key.NotEqual = two_ends 47 61 (λ rest. refl)
sign_ends key.Less = one_ends Plain 60 refl (λ d rest next. rw (no_sign d next).0 refl)
sign_ends key.LessEqual = two_ends 60 61 (λ rest. refl)
sign_ends key.Greater = one_ends Plain 62 refl (λ d rest next. rw (no_sign d next).0 refl)
sign_ends key.GreaterEqual = two_ends 62 61 (λ rest. refl)
sign_ends key.Plus = one_ends Anything 43 refl (λ d rest next. refl)
sign_ends key.Minus = one_ends Plain 45 refl (λ d rest next. rw (no_sign d next).3 refl)
sign_ends key.Star = one_ends Anything 42 refl (λ d rest next. refl)
sign_ends key.Slash = one_ends Plain 47 refl (λ d rest next. rw (no_sign d next).0 refl)
sign_ends s = word_text_ends (sign_bytes s) refl

pub sign_verdict : (s : Symbol) (at : ℕ) → verdict at (sign_bytes s) ≡ Kind (kinds.Symbol s)
unfolding verdict word_verdict mark_verdict reserved_symbol delimiter_symbol reserved_words two_letters three_letters four_letters five_letters six_letters seven_letters eight_letters nine_letters simple_delimiters compound_delimiters
sign_verdict key.Abort at = refl
sign_verdict s at = refl
