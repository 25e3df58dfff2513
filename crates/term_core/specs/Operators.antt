-- The operators of terms: the sorts that each takes, and the sort that it gives.
use Rattle.std.specs.Prelude.{ℕ, nat_le, Bool, true, false, ◌&&◌, ◌||◌, Option, Some, None, if◌then◌else◌}
use Rattle.x64_syntax.specs.declared.built_in.BuiltIn.{BuiltIn}
use Rattle.x64_syntax.specs.declared.built_in.BuiltIn.TheVariants as built_in
use Rattle.term_core.specs.declared.operator.Operator.{Operator}
use Rattle.term_core.specs.declared.operator.Operator.TheVariants as operator
use Rattle.x64_syntax.specs.declared.type_words.Sort.{Sort}
use Rattle.x64_syntax.specs.declared.type_words.Sort.TheVariants as sort
use Rattle.term_core.specs.declared.operator.UnOp.{UnOp}
use Rattle.term_core.specs.declared.operator.UnOp.TheVariants as un
use Rattle.term_core.specs.declared.operator.BinOp.{BinOp}
use Rattle.term_core.specs.declared.operator.BinOp.TheVariants as bin
use Rattle.term_core.specs.declared.operator.CountedOp.{CountedOp}
use Rattle.term_core.specs.declared.operator.CountedOp.TheVariants as counted

abbrev pub sort_eq : Sort → Sort → Bool
sort_eq sort.Int sort.Int = true
sort_eq sort.Bool sort.Bool = true
sort_eq sort.W64 sort.W64 = true
sort_eq sort.W128 sort.W128 = true
sort_eq sort.Arr sort.Arr = true
sort_eq _ _ = false

-- where sums and products are: whole numbers and words of 64 bits
abbrev pub is_number : Sort → Bool
is_number s = sort_eq s sort.Int || sort_eq s sort.W64

-- where bits are
abbrev pub is_word : Sort → Bool
is_word s = sort_eq s sort.W64 || sort_eq s sort.W128

abbrev pub both_are : Sort → Sort → Sort → Bool
both_are want s t = sort_eq s want && sort_eq t want

abbrev pub un_takes : UnOp → Sort → Bool
un_takes un.Neg s = sort_eq s sort.Int
un_takes un.Int s = sort_eq s sort.W64
un_takes un.Word s = sort_eq s sort.Int
un_takes un.LogicNot s = sort_eq s sort.Bool
un_takes un.Not s = is_word s
un_takes un.Hi s = sort_eq s sort.W128
un_takes un.Lo s = sort_eq s sort.W128
un_takes un.Len s = sort_eq s sort.Arr

abbrev pub bin_takes : BinOp → Sort → Sort → Bool
bin_takes bin.Add s t = is_number s && sort_eq t s
bin_takes bin.Sub s t = is_number s && sort_eq t s
bin_takes bin.Mul s t = is_number s && sort_eq t s
bin_takes bin.Div s t = both_are sort.Int s t
bin_takes bin.Mod s t = both_are sort.Int s t
bin_takes bin.Eq s t = sort_eq t s
bin_takes bin.Lt s t = both_are sort.Int s t
bin_takes bin.Le s t = both_are sort.Int s t
bin_takes bin.LogicAnd s t = both_are sort.Bool s t
bin_takes bin.LogicOr s t = both_are sort.Bool s t
bin_takes bin.Implies s t = both_are sort.Bool s t
bin_takes bin.And s t = is_word s && sort_eq t s
bin_takes bin.Or s t = is_word s && sort_eq t s
bin_takes bin.Xor s t = is_word s && sort_eq t s
bin_takes bin.Mulhi s t = both_are sort.W64 s t
bin_takes bin.Pair s t = both_are sort.W64 s t
bin_takes bin.Paddd s t = both_are sort.W128 s t
bin_takes bin.Pshufb s t = both_are sort.W128 s t
bin_takes bin.Aesenc s t = both_are sort.W128 s t
bin_takes bin.Aesenclast s t = both_are sort.W128 s t
bin_takes bin.Index s t = sort_eq s sort.Arr && sort_eq t sort.Int
bin_takes bin.ByteAt s t = sort_eq s sort.Arr && sort_eq t sort.Int
bin_takes bin.DwordAt s t = sort_eq s sort.Arr && sort_eq t sort.Int

-- the operator's sort, and its greatest constant
abbrev pub counted_sort : CountedOp → Sort
counted_sort counted.Shl = sort.W64
counted_sort counted.Shr = sort.W64
counted_sort counted.Rol = sort.W64
counted_sort counted.Ror = sort.W64
counted_sort _ = sort.W128

abbrev pub counted_limit : CountedOp → ℕ
counted_limit counted.Shl = 63
counted_limit counted.Shr = 63
counted_limit counted.Rol = 63
counted_limit counted.Ror = 63
counted_limit _ = 255

abbrev pub counted_takes : CountedOp → ℕ → Sort → Bool
counted_takes op n s = nat_le n (counted_limit op) && sort_eq s (counted_sort op)

-- of words where the first part is one, else of whole numbers
abbrev pub sum_sort : Sort → Sort
sum_sort sort.W64 = sort.W64
sum_sort _ = sort.Int

-- of 128 bits where the first part has so many, else of 64
abbrev pub bits_sort : Sort → Sort
bits_sort sort.W128 = sort.W128
bits_sort _ = sort.W64

-- the sort that an operator gives, by the sort of its first argument
abbrev pub un_sort : UnOp → Sort → Sort
un_sort un.Neg s = sort.Int
un_sort un.Int s = sort.Int
un_sort un.Word s = sort.W64
un_sort un.LogicNot s = sort.Bool
un_sort un.Not s = bits_sort s
un_sort un.Hi s = sort.W64
un_sort un.Lo s = sort.W64
un_sort un.Len s = sort.Int

abbrev pub bin_sort : BinOp → Sort → Sort
bin_sort bin.Add s = sum_sort s
bin_sort bin.Sub s = sum_sort s
bin_sort bin.Mul s = sum_sort s
bin_sort bin.Div s = sort.Int
bin_sort bin.Mod s = sort.Int
bin_sort bin.Eq s = sort.Bool
bin_sort bin.Lt s = sort.Bool
bin_sort bin.Le s = sort.Bool
bin_sort bin.LogicAnd s = sort.Bool
bin_sort bin.LogicOr s = sort.Bool
bin_sort bin.Implies s = sort.Bool
bin_sort bin.And s = bits_sort s
bin_sort bin.Or s = bits_sort s
bin_sort bin.Xor s = bits_sort s
bin_sort bin.Mulhi s = sort.W64
bin_sort bin.Pair s = sort.W128
bin_sort bin.Paddd s = sort.W128
bin_sort bin.Pshufb s = sort.W128
bin_sort bin.Aesenc s = sort.W128
bin_sort bin.Aesenclast s = sort.W128
bin_sort bin.Index s = sort.W64
bin_sort bin.ByteAt s = sort.W64
bin_sort bin.DwordAt s = sort.W64

abbrev pub given_if : Bool → Sort → Option Sort
given_if takes s = if takes then Some s else None

-- the sort that an operator gives where it takes the arguments
abbrev pub un_result : UnOp → Sort → Option Sort
un_result op s = given_if (un_takes op s) (un_sort op s)

abbrev pub bin_result : BinOp → Sort → Sort → Option Sort
bin_result op s t = given_if (bin_takes op s t) (bin_sort op s)

abbrev pub counted_result : CountedOp → ℕ → Sort → Option Sort
counted_result op n s = given_if (counted_takes op n s) (counted_sort op)

-- what an operator that is written as a call is in a term; the last four stand in sources alone
abbrev pub operator_of : BuiltIn → Option Operator
operator_of built_in.Div = Some (operator.Bin bin.Div)
operator_of built_in.Mod = Some (operator.Bin bin.Mod)
operator_of built_in.Int = Some (operator.Un un.Int)
operator_of built_in.Word = Some (operator.Un un.Word)
operator_of built_in.Ite = Some operator.Ite
operator_of built_in.And = Some (operator.Bin bin.And)
operator_of built_in.Or = Some (operator.Bin bin.Or)
operator_of built_in.Xor = Some (operator.Bin bin.Xor)
operator_of built_in.Not = Some (operator.Un un.Not)
operator_of built_in.Shl = Some (operator.Counted counted.Shl)
operator_of built_in.Shr = Some (operator.Counted counted.Shr)
operator_of built_in.Rol = Some (operator.Counted counted.Rol)
operator_of built_in.Ror = Some (operator.Counted counted.Ror)
operator_of built_in.Mulhi = Some (operator.Bin bin.Mulhi)
operator_of built_in.Pair = Some (operator.Bin bin.Pair)
operator_of built_in.Hi = Some (operator.Un un.Hi)
operator_of built_in.Lo = Some (operator.Un un.Lo)
operator_of built_in.Paddd = Some (operator.Bin bin.Paddd)
operator_of built_in.Pshufb = Some (operator.Bin bin.Pshufb)
operator_of built_in.Pshufd = Some (operator.Counted counted.Pshufd)
operator_of built_in.Pslld = Some (operator.Counted counted.Pslld)
operator_of built_in.Psrld = Some (operator.Counted counted.Psrld)
operator_of built_in.Pslldq = Some (operator.Counted counted.Pslldq)
operator_of built_in.Psrldq = Some (operator.Counted counted.Psrldq)
operator_of built_in.Aesenc = Some (operator.Bin bin.Aesenc)
operator_of built_in.Aesenclast = Some (operator.Bin bin.Aesenclast)
operator_of built_in.Clmul = Some operator.Clmul
operator_of built_in.Len = Some (operator.Un un.Len)
operator_of built_in.Put = Some operator.Put
operator_of built_in.ByteAt = Some (operator.Bin bin.ByteAt)
operator_of built_in.DwordAt = Some (operator.Bin bin.DwordAt)
operator_of built_in.PutDword = Some operator.PutDword
operator_of built_in.ForAll = Some operator.All
operator_of built_in.Old = None
operator_of built_in.Defined = None
operator_of built_in.Slot = None
operator_of built_in.Base = None
