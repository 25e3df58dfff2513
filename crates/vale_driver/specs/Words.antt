-- The words of the command line, and what they ask for.
use Rattle.std.specs.Prelude.{ℕ, Bool, true, false, not, ◌&&◌, ◌==◌, nat_le, nat_lt, List, [], ◌∷◌, length, Option, Some, None, is_none, option_map, option_and_then, codes, map, String, string_bytes, if◌then◌else◌}
use Rattle.std.specs.declared.alloc.Global.{Global}
use Rattle.std.specs.List.{list_all, position_or_len, before_first, after_first}
use Rattle.std.specs.Str.{bytes_eq}
use Rattle.std.specs.Str.Parse.{digits_value}
use Rattle.x64_syntax.specs.Words.{is_digit_byte}
use Rattle.vale_driver.specs.Limits.{file_limit, step_limit, digit_limit}

-- a value, where a test holds
abbrev pub value_if : {A : Type 0} → Bool → A → Option A
value_if true x = Some x
value_if false x = None

-- words as texts
abbrev pub texts : List (String Global) → List (List ℕ)
texts words = map string_bytes words

-- what `build` names: its certificate and its sources
pub record BuildWords : Type 0 where
  pub cert : List ℕ
  pub files : List (List ℕ)

-- what `eval` names: the file of the text, the name of its entry, the file of the state, and the most steps
pub record EvalWords : Type 0 where
  pub text : List ℕ
  pub entry : List ℕ
  pub state : List ℕ
  pub steps : ℕ

pub data Command : Type 0 where
  Build : BuildWords → Command
  Read : List ℕ → Command
  Eval : EvalWords → Command

-- the files that a command names
abbrev pub files_of : Command → List (List ℕ)
files_of (Build b) = b.cert ∷ b.files
files_of (Read text) = text ∷ []
files_of (Eval e) = e.text ∷ e.state ∷ []

-- a value of an option, or a file's name
abbrev pub is_value : List ℕ → Bool
is_value [] = false
is_value (b ∷ bs) = not (b == 45)

abbrev pub are_files : List (List ℕ) → Bool
are_files files = (nat_le 1 (length files) && nat_le (length files) file_limit) && list_all is_value files

-- a number of at least one digit and no more than the limit
abbrev pub is_number : List ℕ → Bool
is_number word = (nat_le 1 (length word) && nat_le (length word) digit_limit) && list_all is_digit_byte word

abbrev pub step_count : List ℕ → Option ℕ
step_count word = value_if (is_number word && nat_le (digits_value 10 word) step_limit) (digits_value 10 word)

-- the values of options
pub record Options : Type 0 where
  pub syntax : Option (List ℕ)
  pub cert : Option (List ℕ)
  pub entry : Option (List ℕ)
  pub state : Option (List ℕ)
  pub steps : Option (List ℕ)

abbrev pub no_options : Options
no_options = record { syntax = None; cert = None; entry = None; state = None; steps = None }

-- a value, which an option is given once
abbrev pub once : Option (List ℕ) → List ℕ → Option (List ℕ)
once (Some old) value = None
once None value = value_if (is_value value) value

abbrev pub with_option : Options → List ℕ → List ℕ → Option Options
with_option o name value =
    if bytes_eq name (codes "--syntax") then option_map (λ v. record o { syntax = Some v }) (once o.syntax value)
    else if bytes_eq name (codes "--cert") then option_map (λ v. record o { cert = Some v }) (once o.cert value)
    else if bytes_eq name (codes "--entry") then option_map (λ v. record o { entry = Some v }) (once o.entry value)
    else if bytes_eq name (codes "--state") then option_map (λ v. record o { state = Some v }) (once o.state value)
    else if bytes_eq name (codes "--steps") then option_map (λ v. record o { steps = Some v }) (once o.steps value)
    else None

-- a word that begins with `-` is an option's
abbrev pub is_option : List ℕ → Bool
is_option [] = false
is_option (b ∷ bs) = b == 45

-- `--name=value`, cut at the first `=`
abbrev pub is_equals : ℕ → Bool
is_equals b = b == 61

abbrev pub has_equals : List ℕ → Bool
has_equals word = nat_lt (position_or_len is_equals word) (length word)

abbrev pub name_of : List ℕ → List ℕ
name_of word = before_first is_equals word

abbrev pub value_of : List ℕ → List ℕ
value_of word = after_first is_equals word

-- the options that stand first, and the words behind them
abbrev pub read_options : Options → List (List ℕ) → Option (Options × List (List ℕ))
read_options o [] = Some (o, [])
read_options o (w ∷ []) =
    if is_option w then (if has_equals w then option_map (λ p. (p, [])) (with_option o (name_of w) (value_of w)) else None)
    else Some (o, w ∷ [])
read_options o (w ∷ (v ∷ ws)) =
    if is_option w then (if has_equals w then option_and_then (λ p. read_options p (v ∷ ws)) (with_option o (name_of w) (value_of w))
    else option_and_then (λ p. read_options p ws) (with_option o w v))
    else Some (o, w ∷ (v ∷ ws))

abbrev pub is_gas : Option (List ℕ) → Bool
is_gas None = false
is_gas (Some syntax) = bytes_eq syntax (codes "gas")

abbrev pub one_file : List (List ℕ) → Option (List ℕ)
one_file (file ∷ []) = value_if (is_value file) file
one_file _ = None

-- `build --syntax gas --cert CERT FILE..`
abbrev pub is_build_command : Options → Bool
is_build_command o = is_gas o.syntax && (is_none o.entry && (is_none o.state && is_none o.steps))

abbrev pub build_files : Option (List ℕ) → List (List ℕ) → Option Command
build_files None files = None
build_files (Some cert) files = value_if (are_files files) (Build record { cert = cert; files = files })

abbrev pub build_form : Options → List (List ℕ) → Option Command
build_form o files = if is_build_command o then build_files o.cert files else None

-- `read --syntax gas FILE`
abbrev pub is_read_command : Options → Bool
is_read_command o = is_gas o.syntax && (is_none o.cert && (is_none o.entry && (is_none o.state && is_none o.steps)))

abbrev pub read_form : Options → List (List ℕ) → Option Command
read_form o files = if is_read_command o then option_map Read (one_file files) else None

-- `eval --syntax gas --entry NAME --state FILE --steps N FILE`
abbrev pub is_eval_command : Options → Bool
is_eval_command o = is_gas o.syntax && is_none o.cert

abbrev pub eval_file : Option (List ℕ) → Option (List ℕ) → Option (List ℕ) → List ℕ → Option Command
eval_file (Some entry) (Some state) (Some steps) file = option_map (λ n. Eval record { text = file; entry = entry; state = state; steps = n }) (step_count steps)
eval_file _ _ _ file = None

abbrev pub eval_form : Options → List (List ℕ) → Option Command
eval_form o files = if is_eval_command o then option_and_then (λ file. eval_file o.entry o.state o.steps file) (one_file files) else None

abbrev pub command_form : List ℕ → Options → List (List ℕ) → Option Command
command_form command o files =
    if bytes_eq command (codes "build") then build_form o files
    else if bytes_eq command (codes "read") then read_form o files
    else if bytes_eq command (codes "eval") then eval_form o files
    else None

-- The first word is the command. Options stand before the first other word, in any order, each once.
abbrev pub form : List (List ℕ) → Option Command
form [] = None
form (command ∷ words) = option_and_then (λ p. command_form command p.0 p.1) (read_options no_options words)
