-- The tables of reserved words and delimiters.
use Rattle.std.specs.Prelude.{ℕ, Bool, true, false, ◌&&◌, List, [], ◌∷◌, ◌++◌, map, Option, None, Some, ◌==◌, if◌then◌else◌, codes}
use Rattle.ada_lexer.specs.declared.symbols.Symbol.{Symbol}
use Rattle.ada_lexer.specs.declared.symbols.Symbol.TheVariants.{Abort, Abs, Accept, Access, All, And, Array, At, Begin, Body, Case, Constant, Declare, Delay, Delta, Digits, Do, Else, Elsif, End, Entry, Exception, Exit, For, Function, Generic, Goto, If, In, Is, Limited, Loop, Mod, New, Not, Null, Of, Or, Others, Out, Package, Pragma, Private, Procedure, Raise, Range, Record, Rem, Renames, Return, Reverse, Select, Separate, Subtype, Task, Terminate, Then, «Type», Use, When, While, With, Xor, Semicolon, Comma, LeftParen, RightParen, Colon, Dot, Bar, Ampersand, Tick, Equal, Less, Greater, Plus, Minus, Star, Slash, Becomes, Arrow, DotDot, NotEqual, LessEqual, GreaterEqual}
use Rattle.ada_lexer.specs.Bytes.{in_lower_case}

-- the two texts have the same bytes
abbrev pub same_text : List ℕ → List ℕ → Bool
same_text [] [] = true
same_text [] (c ∷ other) = false
same_text (b ∷ text) [] = false
same_text (b ∷ text) (c ∷ other) = b == c && same_text text other

-- the symbol that a table has for a text
abbrev pub symbol_in : List (List ℕ × Symbol) → List ℕ → Option Symbol
symbol_in [] text = None
symbol_in (entry ∷ table) text = if same_text text entry.0 then Some entry.1 else symbol_in table text

-- the reserved words of two letters (2.9)
unfoldable pub two_letters : List (List ℕ × Symbol)
two_letters =
    (codes "at", At) ∷
    (codes "do", Do) ∷
    (codes "if", If) ∷
    (codes "in", In) ∷
    (codes "is", Is) ∷
    (codes "of", Of) ∷
    (codes "or", Or) ∷ []

-- the reserved words of three letters (2.9)
unfoldable pub three_letters : List (List ℕ × Symbol)
three_letters =
    (codes "abs", Abs) ∷
    (codes "all", All) ∷
    (codes "and", And) ∷
    (codes "end", End) ∷
    (codes "for", For) ∷
    (codes "mod", Mod) ∷
    (codes "new", New) ∷
    (codes "not", Not) ∷
    (codes "out", Out) ∷
    (codes "rem", Rem) ∷
    (codes "use", Use) ∷
    (codes "xor", Xor) ∷ []

-- the reserved words of four letters (2.9)
unfoldable pub four_letters : List (List ℕ × Symbol)
four_letters =
    (codes "body", Body) ∷
    (codes "case", Case) ∷
    (codes "else", Else) ∷
    (codes "exit", Exit) ∷
    (codes "goto", Goto) ∷
    (codes "loop", Loop) ∷
    (codes "null", Null) ∷
    (codes "task", Task) ∷
    (codes "then", Then) ∷
    (codes "type", «Type») ∷
    (codes "when", When) ∷
    (codes "with", With) ∷ []

-- the reserved words of five letters (2.9)
unfoldable pub five_letters : List (List ℕ × Symbol)
five_letters =
    (codes "abort", Abort) ∷
    (codes "array", Array) ∷
    (codes "begin", Begin) ∷
    (codes "delay", Delay) ∷
    (codes "delta", Delta) ∷
    (codes "elsif", Elsif) ∷
    (codes "entry", Entry) ∷
    (codes "raise", Raise) ∷
    (codes "range", Range) ∷
    (codes "while", While) ∷ []

-- the reserved words of six letters (2.9)
unfoldable pub six_letters : List (List ℕ × Symbol)
six_letters =
    (codes "accept", Accept) ∷
    (codes "access", Access) ∷
    (codes "digits", Digits) ∷
    (codes "others", Others) ∷
    (codes "pragma", Pragma) ∷
    (codes "record", Record) ∷
    (codes "return", Return) ∷
    (codes "select", Select) ∷ []

-- the reserved words of seven letters (2.9)
unfoldable pub seven_letters : List (List ℕ × Symbol)
seven_letters =
    (codes "declare", Declare) ∷
    (codes "generic", Generic) ∷
    (codes "limited", Limited) ∷
    (codes "package", Package) ∷
    (codes "private", Private) ∷
    (codes "renames", Renames) ∷
    (codes "reverse", Reverse) ∷
    (codes "subtype", Subtype) ∷ []

-- the reserved words of eight letters (2.9)
unfoldable pub eight_letters : List (List ℕ × Symbol)
eight_letters =
    (codes "constant", Constant) ∷
    (codes "function", Function) ∷
    (codes "separate", Separate) ∷ []

-- the reserved words of nine letters (2.9)
unfoldable pub nine_letters : List (List ℕ × Symbol)
nine_letters =
    (codes "exception", Exception) ∷
    (codes "procedure", Procedure) ∷
    (codes "terminate", Terminate) ∷ []

-- the 63 reserved words, in lower case (2.9)
unfoldable pub reserved_words : List (List ℕ × Symbol)
reserved_words = two_letters ++ (three_letters ++ (four_letters ++ (five_letters ++ (six_letters ++ (seven_letters ++ (eight_letters ++ nine_letters))))))

-- the reserved word that a text is, in any case (2.9)
unfoldable pub reserved_symbol : List ℕ → Option Symbol
reserved_symbol text = symbol_in reserved_words (map in_lower_case text)

-- the delimiters of one character (2.2)
unfoldable pub simple_delimiters : List (List ℕ × Symbol)
simple_delimiters =
    (codes ";", Semicolon) ∷
    (codes ",", Comma) ∷
    (codes "(", LeftParen) ∷
    (codes ")", RightParen) ∷
    (codes ":", Colon) ∷
    (codes ".", Dot) ∷
    (codes "|", Bar) ∷
    (codes "&", Ampersand) ∷
    (codes "'", Tick) ∷
    (codes "=", Equal) ∷
    (codes "<", Less) ∷
    (codes ">", Greater) ∷
    (codes "+", Plus) ∷
    (codes "-", Minus) ∷
    (codes "*", Star) ∷
    (codes "/", Slash) ∷ []

-- the compound delimiters that this project's language uses (2.2)
unfoldable pub compound_delimiters : List (List ℕ × Symbol)
compound_delimiters =
    (codes ":=", Becomes) ∷
    (codes "=>", Arrow) ∷
    (codes "..", DotDot) ∷
    (codes "/=", NotEqual) ∷
    (codes "<=", LessEqual) ∷
    (codes ">=", GreaterEqual) ∷ []

-- the delimiter that a text is (2.2)
unfoldable pub delimiter_symbol : List ℕ → Option Symbol
delimiter_symbol (b ∷ []) = symbol_in simple_delimiters (b ∷ [])
delimiter_symbol (b ∷ c ∷ []) = symbol_in compound_delimiters (b ∷ c ∷ [])
delimiter_symbol _ = None
