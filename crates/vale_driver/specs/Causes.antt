-- Why an input is refused, and the refusal that is told of each cause.
use Rattle.std.specs.Prelude.{ℕ, List, ◌++◌, Option, Some, None, codes}
use Rattle.vale_syntax.specs.declared.token.NotAToken.{NotAToken}
use Rattle.vale_syntax.specs.declared.token.NotAToken.TheVariants.{BadByte, NumberTooLarge, OpenComment}
use Rattle.vale_driver.specs.declared.status.Refusal.{Refusal}

-- A cause, with what it names: a file, an offset or a line in it, an entry, or the procedure of a condition.
pub data Cause : Type 0 where
  -- a file is longer than its limit
  TooLong : List ℕ → Cause
  -- there is no token at an offset of a source
  NoToken : List ℕ → ℕ → NotAToken → Cause
  -- no declaration begins at an offset of a source
  NoDeclaration : List ℕ → ℕ → Cause
  -- the sources are of no form that is built; the first of them is named
  NoForm : Option (List ℕ) → Cause
  -- a certificate is of no form that is read
  NoCertificate : List ℕ → Cause
  -- the step of a certificate doesn't apply to the condition of the procedure
  NoStep : List ℕ → List ℕ → Cause
  -- a line of an assembler text is none
  NoLine : List ℕ → ℕ → Cause
  -- a jump on a line goes to a label that isn't in its piece
  NoLabel : List ℕ → ℕ → Cause
  -- a line of a state file sets nothing which may follow
  NoSetting : List ℕ → ℕ → Cause
  -- an assembler text has no entry of a name
  NoEntry : List ℕ → List ℕ → Cause

abbrev pub token_words : NotAToken → List ℕ
token_words BadByte = codes "BadByte"
token_words NumberTooLarge = codes "NumberTooLarge"
token_words OpenComment = codes "OpenComment"

-- a refusal that names a file, a place in it, and nobody
abbrev pub in_file : ℕ → Option (List ℕ) → Option ℕ → List ℕ → Refusal
in_file number file at words = record { number = number; file = file; at = at; who = None; cause = words }

-- the number, the file, the place, who, and the words that are told of each cause
abbrev pub refusal_of : Cause → Refusal
refusal_of (TooLong file) = in_file 8 (Some file) None (codes "TooLong")
refusal_of (NoToken file at why) = in_file 1 (Some file) (Some at) (token_words why)
refusal_of (NoDeclaration file at) = in_file 2 (Some file) (Some at) (codes "NotADecl")
refusal_of (NoForm file) = in_file 2 file (Some 0) (codes "NotBuilt")
refusal_of (NoCertificate cert) = in_file 9 (Some cert) (Some 1) (codes "NotBuilt")
refusal_of (NoStep cert name) =
    record { number = 11; file = Some cert; at = Some 2; who = Some (name ++ codes "()#0"); cause = codes "step 0" }
refusal_of (NoLine file line) = in_file 12 (Some file) (Some line) (codes "Line")
refusal_of (NoLabel file line) = in_file 12 (Some file) (Some line) (codes "Label")
refusal_of (NoSetting file line) = in_file 13 (Some file) (Some line) (codes "State")
refusal_of (NoEntry file entry) =
    record { number = 14; file = Some file; at = None; who = Some entry; cause = codes "NoEntry" }
