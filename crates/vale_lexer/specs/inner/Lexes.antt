-- What the scan answers.
use Rattle.std.specs.Prelude.{◌≡◌, ℕ, ◌+◌, ◌≤◌, List, ◌++◌, length, drop, Result, Ok, Err, Vec}
use Rattle.std.specs.declared.alloc.Global.{Global}
use Rattle.vale_syntax.specs.declared.token.Token.{Token}
use Rattle.vale_syntax.specs.declared.token.NotAToken.{NotAToken}
use Rattle.vale_syntax.specs.declared.token.NotAToken.TheVariants as cause
use Rattle.vale_syntax.specs.declared.token.Front.{Front}
use Rattle.vale_syntax.specs.declared.token.Front.TheVariants.{Skipped, Taken, Stopped}
use Rattle.vale_syntax.specs.Tokens.{LexResult, All, Nothing, tokens_from}
use Rattle.vale_lexer.specs.declared.scan.LexFault.{LexFault}
use Rattle.vale_lexer.specs.declared.scan.LexFault.TheVariants.{BadByte, NumberTooLarge, OpenComment, NoMemory}

abbrev pub fault_of : NotAToken → ℕ → LexFault
fault_of cause.BadByte at = BadByte at
fault_of cause.NumberTooLarge at = NumberTooLarge at
fault_of cause.OpenComment at = OpenComment at

abbrev pub FaultOf : LexResult → LexFault → Type 0
FaultOf l (BadByte at) = l ≡ Nothing cause.BadByte at
FaultOf l (NumberTooLarge at) = l ≡ Nothing cause.NumberTooLarge at
FaultOf l (OpenComment at) = l ≡ Nothing cause.OpenComment at
FaultOf l NoMemory = Unit {0}

-- the tokens, or the first place without one and its kind, unless memory ran out
abbrev pub Lexes : LexResult → Result (Vec Token Global) LexFault → Type 0
Lexes l (Ok v) = l ≡ All v.items
Lexes l (Err e) = FaultOf l e

-- tokens in front of what is lexed behind them
abbrev pub in_front : List Token → LexResult → LexResult
in_front ts (All us) = All (ts ++ us)
in_front ts (Nothing why at) = Nothing why at

-- one step of the scan took some bytes, and what they are went to the tokens
pub record Stepped (file at : ℕ) (bytes : List ℕ) (old new : List Token) (n : ℕ) : Type 0 where
  pub some : 1 ≤ n
  pub short : n ≤ length bytes
  pub same : in_front new (tokens_from file 0 (at + n) (drop n bytes)) ≡ in_front old (tokens_from file 0 at bytes)

abbrev pub Steps : ℕ → ℕ → List ℕ → List Token → List Token → Result ℕ LexFault → Type 0
Steps file at bytes old new (Ok n) = Stepped file at bytes old new n
Steps file at bytes old new (Err e) = FaultOf (tokens_from file 0 at bytes) e

-- at least one byte, and no more than there are
abbrev pub Fits : ℕ → Front → Type 0
Fits len (Skipped n) = (1 ≤ n) × (n ≤ len)
Fits len (Taken kind n) = (1 ≤ n) × (n ≤ len)
Fits len (Stopped why) = Unit {0}
