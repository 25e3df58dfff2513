-- Terms without where they lie in memory, and their sorts.
use Rattle.std.specs.Prelude.{ℕ, ℤ, List, [], ◌∷◌, Bool, true, false, ◌&&◌, ◌==◌, map}
use Rattle.std.specs.Ordering.{int_eq}
use Rattle.std.specs.Str.{bytes_eq}
use Rattle.x64_syntax.specs.declared.type_words.Sort.{Sort}
use Rattle.x64_syntax.specs.declared.type_words.Sort.TheVariants as sort
use Rattle.term_core.specs.declared.operator.UnOp.{UnOp}
use Rattle.term_core.specs.declared.operator.UnOp.TheVariants as un
use Rattle.term_core.specs.declared.operator.BinOp.{BinOp}
use Rattle.term_core.specs.declared.operator.BinOp.TheVariants as bin
use Rattle.term_core.specs.declared.operator.CountedOp.{CountedOp}
use Rattle.term_core.specs.declared.operator.CountedOp.TheVariants as counted
use Rattle.term_core.specs.declared.term.Term.{Term}
use Rattle.term_core.specs.declared.term.Term.TheOpen.{Term-F}
use Rattle.term_core.specs.declared.term.Term.TheFolds.{fold-Term}
use Rattle.term_core.specs.Operators.{sort_eq, un_sort, bin_sort, counted_sort}

mutual
  pub data Tm : Type 0 where
    Name : List ℕ → Sort → Tm
    Int : ℤ → Tm
    W64 : ℕ → Tm
    W128 : ℕ → Tm
    TruthTerm : Bool → Tm
    Un : UnOp → Tm → Tm
    Bin : BinOp → Tm → Tm → Tm
    Ite : Tm → Tm → Tm → Tm
    Put : Tm → Tm → Tm → Tm
    PutDword : Tm → Tm → Tm → Tm
    Clmul : Tm → Tm → ℕ → Tm
    Shift : CountedOp → ℕ → Tm → Tm
    Call : ℕ → Sort → Tms → Tm
    All : List ℕ → Tm → Tm → Tm → Tm

  -- the arguments of a call
  pub data Tms : Type 0 where
    no_tms : Tms
    more_tms : Tm → Tms → Tms

abbrev pub tms : List Tm → Tms
tms [] = no_tms
tms (t ∷ ts) = more_tms t (tms ts)

abbrev pub layer : Term-F Tm → Tm
layer (Term-F.Name text s) = Name text s
layer (Term-F.Int z) = Int z
layer (Term-F.W64 n) = W64 n
layer (Term-F.W128 n) = W128 n
layer (Term-F.Bool b) = TruthTerm b
layer (Term-F.Un op a) = Un op a
layer (Term-F.Bin op a b) = Bin op a b
layer (Term-F.Ite c a b) = Ite c a b
layer (Term-F.Put x i w) = Put x i w
layer (Term-F.PutDword x j w) = PutDword x j w
layer (Term-F.Clmul a b n) = Clmul a b n
layer (Term-F.Shift op n a) = Shift op n a
layer (Term-F.Call f s args) = Call f s (tms args)
layer (Term-F.All text low high body) = All text low high body

abbrev pub tree : Term → Tm
tree = fold-Term Tm layer

abbrev pub trees : List Term → List Tm
trees = map tree

-- operators are told apart by their numbers
abbrev pub un_number : UnOp → ℕ
un_number un.Neg = 0
un_number un.Int = 1
un_number un.Word = 2
un_number un.LogicNot = 3
un_number un.Not = 4
un_number un.Hi = 5
un_number un.Lo = 6
un_number un.Len = 7

unfoldable pub un_eq : UnOp → UnOp → Bool
un_eq o p = un_number o == un_number p

abbrev pub bin_number : BinOp → ℕ
bin_number bin.Add = 0
bin_number bin.Sub = 1
bin_number bin.Mul = 2
bin_number bin.Div = 3
bin_number bin.Mod = 4
bin_number bin.Eq = 5
bin_number bin.Lt = 6
bin_number bin.Le = 7
bin_number bin.LogicAnd = 8
bin_number bin.LogicOr = 9
bin_number bin.Implies = 10
bin_number bin.And = 11
bin_number bin.Or = 12
bin_number bin.Xor = 13
bin_number bin.Mulhi = 14
bin_number bin.Pair = 15
bin_number bin.Paddd = 16
bin_number bin.Pshufb = 17
bin_number bin.Aesenc = 18
bin_number bin.Aesenclast = 19
bin_number bin.Index = 20
bin_number bin.ByteAt = 21
bin_number bin.DwordAt = 22

unfoldable pub bin_eq : BinOp → BinOp → Bool
bin_eq o p = bin_number o == bin_number p

abbrev pub counted_number : CountedOp → ℕ
counted_number counted.Shl = 0
counted_number counted.Shr = 1
counted_number counted.Rol = 2
counted_number counted.Ror = 3
counted_number counted.Pshufd = 4
counted_number counted.Pslld = 5
counted_number counted.Psrld = 6
counted_number counted.Pslldq = 7
counted_number counted.Psrldq = 8

unfoldable pub counted_eq : CountedOp → CountedOp → Bool
counted_eq o p = counted_number o == counted_number p

abbrev pub truth_eq : Bool → Bool → Bool
truth_eq true true = true
truth_eq false false = true
truth_eq _ _ = false

abbrev mutual
  -- whether two terms are the same
  pub tm_eq : Tm → Tm → Bool
  tm_eq (Name a s) (Name b t) = bytes_eq a b && sort_eq s t
  tm_eq (Int a) (Int b) = int_eq a b
  tm_eq (W64 a) (W64 b) = a == b
  tm_eq (W128 a) (W128 b) = a == b
  tm_eq (TruthTerm a) (TruthTerm b) = truth_eq a b
  tm_eq (Un o a) (Un p b) = un_eq o p && tm_eq a b
  tm_eq (Bin o a b) (Bin p c d) = bin_eq o p && (tm_eq a c && tm_eq b d)
  tm_eq (Ite a b c) (Ite d e f) = tm_eq a d && (tm_eq b e && tm_eq c f)
  tm_eq (Put a b c) (Put d e f) = tm_eq a d && (tm_eq b e && tm_eq c f)
  tm_eq (PutDword a b c) (PutDword d e f) = tm_eq a d && (tm_eq b e && tm_eq c f)
  tm_eq (Clmul a b m) (Clmul c d n) = (m == n) && (tm_eq a c && tm_eq b d)
  tm_eq (Shift o m a) (Shift p n b) = counted_eq o p && ((m == n) && tm_eq a b)
  tm_eq (Call f s a) (Call g t b) = (f == g) && (sort_eq s t && tms_eq a b)
  tm_eq (All m a b c) (All n d e f) = bytes_eq m n && (tm_eq a d && (tm_eq b e && tm_eq c f))
  tm_eq _ _ = false

  pub tms_eq : Tms → Tms → Bool
  tms_eq no_tms no_tms = true
  tms_eq (more_tms a as_) (more_tms b bs) = tm_eq a b && tms_eq as_ bs
  tms_eq _ _ = false

abbrev pub tm_sort : Tm → Sort
tm_sort (Name text s) = s
tm_sort (Int z) = sort.Int
tm_sort (W64 n) = sort.W64
tm_sort (W128 n) = sort.W128
tm_sort (TruthTerm b) = sort.Bool
tm_sort (Un op a) = un_sort op (tm_sort a)
tm_sort (Bin op a b) = bin_sort op (tm_sort a)
tm_sort (Ite c a b) = tm_sort a
tm_sort (Put x i w) = sort.Arr
tm_sort (PutDword x j w) = sort.Arr
tm_sort (Clmul a b n) = sort.W128
tm_sort (Shift op n a) = counted_sort op
tm_sort (Call f s args) = s
tm_sort (All text low high body) = sort.Bool
