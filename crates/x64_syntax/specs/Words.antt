-- Which texts are names, and which names a source may not declare.
use Rattle.std.specs.Prelude.{ℕ, List, length, take, drop, Bool, not, ◌&&◌, ◌||◌, ◌==◌, nat_lt, nat_le, codes, slice_index, Option}
use Rattle.std.specs.List.{list_any, list_all}
use Rattle.x64_syntax.specs.declared.words.Case.{Case}
use Rattle.x64_syntax.specs.declared.words.Case.TheVariants.{Exact, Ignored}
use Rattle.x64_syntax.specs.declared.keywords.Keyword.{Keyword}
use Rattle.x64_syntax.specs.declared.type_words.TypeWord.{TypeWord}
use Rattle.x64_syntax.specs.declared.built_in.BuiltIn.{BuiltIn}
use Rattle.x64_syntax.specs.declared.operations.Operation.{Operation}
use Rattle.x64_syntax.specs.Names.{first_of_name, table_value, same_text, some_has_name}
use Rattle.x64_syntax.specs.Tables.{keywords, type_words, built_in, other_mnemonics, assembler_words}
use Rattle.x64_syntax.specs.Operations.{operations, operation_name, gas_mnemonic, masm_mnemonic}
use Rattle.x64_syntax.specs.Places.{reg_name, xmm_name, flag_name, all_regs, all_xmms, all_flags}

abbrev pub is_digit_byte : ℕ → Bool
is_digit_byte b = nat_le 48 b && nat_le b 57

-- a letter or an underscore
abbrev pub is_letter_byte : ℕ → Bool
is_letter_byte b = (nat_le 97 b && nat_le b 122) || (nat_le 65 b && nat_le b 90) || (b == 95)

abbrev pub is_name_byte : ℕ → Bool
is_name_byte b = is_letter_byte b || is_digit_byte b

-- a letter or an underscore, then letters, digits and underscores
abbrev pub is_name_text : List ℕ → Bool
is_name_text text = nat_lt 0 (length text) && is_letter_byte (slice_index text 0) && list_all is_name_byte text

-- the prefix, and then one or more digits
abbrev pub is_numbered_word : Case → List ℕ → List ℕ → Bool
is_numbered_word case prefix word = nat_lt (length prefix) (length word) && same_text case (take (length prefix) word) prefix && list_all is_digit_byte (drop (length prefix) word)

-- the keyword that is written so
abbrev pub keyword_of : List ℕ → Option Keyword
keyword_of name = table_value keywords name

abbrev pub type_word_of : List ℕ → Option TypeWord
type_word_of name = table_value type_words name

abbrev pub built_in_of : List ℕ → Option BuiltIn
built_in_of name = table_value built_in name

abbrev pub operation_of : List ℕ → Option Operation
operation_of name = first_of_name operation_name operations name

abbrev pub is_word_among : Case → List (List ℕ) → List ℕ → Bool
is_word_among case words name = some_has_name case (λ w. w) words name

-- a row of a table has the name
abbrev pub is_in_table : {A : Type 0} → Case → List (List ℕ × A) → List ℕ → Bool
is_in_table case rows name = some_has_name case (λ r. r.0) rows name

-- a register, an xmm register, a flag, or all flags
abbrev pub is_place_word : Case → List ℕ → Bool
is_place_word case name =
    (some_has_name case reg_name all_regs name || some_has_name case xmm_name all_xmms name)
    || (some_has_name case flag_name all_flags name || same_text case (codes "flags") name)

-- a mnemonic in GAS or in MASM syntax
abbrev pub is_mnemonic_word : Case → List ℕ → Bool
is_mnemonic_word case name =
    list_any (λ o. same_text case (gas_mnemonic o) name || same_text case (masm_mnemonic o) name) operations
    || is_word_among case other_mnemonics name

-- what nothing may be declared under
unfoldable pub is_reserved_word : Case → List ℕ → Bool
is_reserved_word case name =
    is_in_table case keywords name || is_in_table case type_words name || is_place_word case name || is_in_table case built_in name
    || some_has_name case operation_name operations name || is_numbered_word case (codes "slot") name

abbrev pub is_reserved_name : List ℕ → Bool
is_reserved_name name = is_reserved_word Exact name

-- what an export may not be called, whatever the case of its letters
unfoldable pub is_refused_export : List ℕ → Bool
is_refused_export name =
    is_reserved_word Ignored name || is_mnemonic_word Ignored name || is_word_among Ignored assembler_words name
    || is_numbered_word Ignored (codes "l") name

-- how many bytes an export's name may have
abbrev pub export_name_limit : ℕ
export_name_limit = 63

unfoldable pub is_export_text : List ℕ → Bool
is_export_text text = nat_le (length text) export_name_limit && is_name_text text && not (is_refused_export text)
