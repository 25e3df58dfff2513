-- The limits of the program: each stands here once.
use Rattle.std.specs.Prelude.{ℕ}

-- the most bytes of a source file, of a certificate, of an assembler text and of a state file
abbrev pub source_limit : ℕ
source_limit = 1048576

abbrev pub certificate_limit : ℕ
certificate_limit = 67108864

abbrev pub text_limit : ℕ
text_limit = 67108864

abbrev pub state_limit : ℕ
state_limit = 16777216

-- the room for observations
abbrev pub trace_room : ℕ
trace_room = 1048576

-- the most source files, the most steps, and the most digits of a number
abbrev pub file_limit : ℕ
file_limit = 16

abbrev pub step_limit : ℕ
step_limit = 10000000

abbrev pub digit_limit : ℕ
digit_limit = 20
