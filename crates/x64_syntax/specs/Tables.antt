-- The tables of words: what is written, and what it is.
use Rattle.std.specs.Prelude.{ℕ, List, [], ◌∷◌, codes}
use Rattle.x64_syntax.specs.declared.keywords.Keyword.{Keyword}
use Rattle.x64_syntax.specs.declared.keywords.Keyword.TheVariants as word
use Rattle.x64_syntax.specs.declared.type_words.TypeWord.{TypeWord}
use Rattle.x64_syntax.specs.declared.type_words.TypeWord.TheVariants.{Sort, Kind, Abi}
use Rattle.x64_syntax.specs.declared.type_words.Sort.TheVariants as sort
use Rattle.x64_syntax.specs.declared.type_words.Kind.TheVariants as kind
use Rattle.x64_syntax.specs.declared.type_words.Abi.TheVariants as abi
use Rattle.x64_syntax.specs.declared.built_in.BuiltIn.{BuiltIn}
use Rattle.x64_syntax.specs.declared.built_in.BuiltIn.TheVariants as call

-- the words with a meaning in the grammar
unfoldable pub keywords : List (List ℕ × Keyword)
keywords =
    (codes "procedure", word.Procedure)
    ∷ (codes "lemma", word.Lemma)
    ∷ (codes "function", word.Function)
    ∷ (codes "export", word.Export)
    ∷ (codes "reads", word.Reads)
    ∷ (codes "modifies", word.Modifies)
    ∷ (codes "requires", word.Requires)
    ∷ (codes "ensures", word.Ensures)
    ∷ (codes "stack", word.Stack)
    ∷ (codes "abi", word.Abi)
    ∷ (codes "assert", word.Assert)
    ∷ (codes "ghost", word.Ghost)
    ∷ (codes "if", word.If)
    ∷ (codes "else", word.Else)
    ∷ (codes "while", word.While)
    ∷ (codes "invariant", word.Invariant)
    ∷ (codes "decreases", word.Decreases)
    ∷ (codes "inline", word.Inline)
    ∷ (codes "secret", word.Secret)
    ∷ (codes "block", word.Block)
    ∷ (codes "in", word.In)
    ∷ (codes "out", word.Out)
    ∷ (codes "inout", word.InOut)
    ∷ (codes "true", word.True)
    ∷ (codes "false", word.False)
    ∷ (codes "prev", word.Prev)
    ∷ (codes "zero", word.Zero)
    ∷ (codes "step", word.Step)
    ∷ []

-- the sorts of values, the kinds of operands, and the calling conventions
unfoldable pub type_words : List (List ℕ × TypeWord)
type_words =
    (codes "int", Sort sort.Int)
    ∷ (codes "bool", Sort sort.Bool)
    ∷ (codes "w64", Sort sort.W64)
    ∷ (codes "w128", Sort sort.W128)
    ∷ (codes "arr", Sort sort.Arr)
    ∷ (codes "reg", Kind kind.Reg)
    ∷ (codes "opr", Kind kind.Opr)
    ∷ (codes "xmm", Kind kind.Xmm)
    ∷ (codes "sysv", Abi abi.Sysv)
    ∷ (codes "win", Abi abi.Win)
    ∷ []

-- the operators that are written as calls
unfoldable pub built_in : List (List ℕ × BuiltIn)
built_in =
    (codes "div", call.Div)
    ∷ (codes "mod", call.Mod)
    ∷ (codes "int", call.Int)
    ∷ (codes "word", call.Word)
    ∷ (codes "ite", call.Ite)
    ∷ (codes "and", call.And)
    ∷ (codes "or", call.Or)
    ∷ (codes "xor", call.Xor)
    ∷ (codes "not", call.Not)
    ∷ (codes "shl", call.Shl)
    ∷ (codes "shr", call.Shr)
    ∷ (codes "rol", call.Rol)
    ∷ (codes "ror", call.Ror)
    ∷ (codes "mulhi", call.Mulhi)
    ∷ (codes "pair", call.Pair)
    ∷ (codes "hi", call.Hi)
    ∷ (codes "lo", call.Lo)
    ∷ (codes "paddd", call.Paddd)
    ∷ (codes "pshufb", call.Pshufb)
    ∷ (codes "pshufd", call.Pshufd)
    ∷ (codes "pslld", call.Pslld)
    ∷ (codes "psrld", call.Psrld)
    ∷ (codes "pslldq", call.Pslldq)
    ∷ (codes "psrldq", call.Psrldq)
    ∷ (codes "aesenc", call.Aesenc)
    ∷ (codes "aesenclast", call.Aesenclast)
    ∷ (codes "clmul", call.Clmul)
    ∷ (codes "len", call.Len)
    ∷ (codes "put", call.Put)
    ∷ (codes "byteat", call.ByteAt)
    ∷ (codes "dwordat", call.DwordAt)
    ∷ (codes "putdword", call.PutDword)
    ∷ (codes "forall", call.ForAll)
    ∷ (codes "old", call.Old)
    ∷ (codes "defined", call.Defined)
    ∷ (codes "slot", call.Slot)
    ∷ (codes "base", call.Base)
    ∷ []

-- the mnemonics that no instruction of the table has: of a move of a constant, jumps, and the end
unfoldable pub other_mnemonics : List (List ℕ)
other_mnemonics =
    codes "movabsq" ∷ codes "jmp" ∷ codes "je" ∷ codes "jne" ∷ codes "jb" ∷ codes "jbe" ∷ codes "ja" ∷ codes "jae"
    ∷ codes "ret"
    ∷ []

-- further words that an assembler may read otherwise
unfoldable pub assembler_words : List (List ℕ)
assembler_words =
    codes "al" ∷ codes "ah" ∷ codes "ax" ∷ codes "eax" ∷ codes "bl" ∷ codes "bh" ∷ codes "bx" ∷ codes "ebx"
    ∷ codes "cl" ∷ codes "ch" ∷ codes "cx" ∷ codes "ecx" ∷ codes "dl" ∷ codes "dh" ∷ codes "dx" ∷ codes "edx"
    ∷ codes "si" ∷ codes "esi" ∷ codes "di" ∷ codes "edi" ∷ codes "bp" ∷ codes "ebp" ∷ codes "sp" ∷ codes "esp"
    ∷ codes "byte" ∷ codes "word" ∷ codes "dword" ∷ codes "qword" ∷ codes "xmmword" ∷ codes "ptr" ∷ codes "offset" ∷ codes "proc"
    ∷ codes "endp" ∷ codes "end" ∷ codes "public" ∷ codes "extern" ∷ codes "include" ∷ codes "segment" ∷ codes "ends" ∷ codes "assume"
    ∷ codes "macro" ∷ codes "endm" ∷ codes "equ" ∷ codes "dup" ∷ codes "db" ∷ codes "dw" ∷ codes "dd" ∷ codes "dq"
    ∷ codes "mod" ∷ codes "eq" ∷ codes "ne" ∷ codes "lt" ∷ codes "le" ∷ codes "gt" ∷ codes "ge" ∷ codes "high"
    ∷ codes "low" ∷ codes "type" ∷ codes "this" ∷ codes "length" ∷ codes "size" ∷ codes "name" ∷ codes "title" ∷ codes "page"
    ∷ codes "org" ∷ codes "while" ∷ codes "for" ∷ codes "repeat" ∷ codes "option" ∷ codes "r8d" ∷ codes "r9d" ∷ codes "r10d"
    ∷ codes "r11d" ∷ codes "r12d" ∷ codes "r13d" ∷ codes "r14d" ∷ codes "r15d"
    ∷ []
