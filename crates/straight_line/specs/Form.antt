-- The sources that are built so far, as trees: one procedure without branches, and its export.
use Rattle.std.specs.Prelude.{ℕ, ◌^◌, ◌-◌, ℤ, pos, negsuc, Bool, false, not, ◌&&◌, int_le, int_lt, ◌-ℤ◌, nat_le, ◌==◌, List, [], ◌∷◌, ◌++◌, length, codes, Option, Some, None, is_some, if◌then◌else◌}
use Rattle.std.specs.List.{find}
use Rattle.std.specs.Str.{bytes_eq}
use Rattle.x64_syntax.specs.declared.places.Reg.{Reg as GeneralReg}
use Rattle.x64_syntax.specs.declared.places.Reg.TheVariants.{Rsp}
use Rattle.x64_syntax.specs.declared.operands.Opr.{Opr}
use Rattle.x64_syntax.specs.declared.operands.Opr.TheVariants.{R, Imm}
use Rattle.x64_syntax.specs.declared.instructions.AluOp.TheVariants as alu
use Rattle.x64_syntax.specs.declared.instructions.Ins.{Ins}
use Rattle.x64_syntax.specs.declared.instructions.Ins.TheVariants.{Mov, Alu}
use Rattle.x64_syntax.specs.Places.{reg_of, reg_name, reg_eq}
use Rattle.x64_syntax.specs.Words.{is_reserved_name, is_export_text}
use Rattle.vale_syntax.specs.declared.mark.BinaryOp.TheVariants as op
use Rattle.vale_syntax.specs.declared.expr.Name.{Name as AName}
use Rattle.vale_syntax.specs.declared.declaration.ReadPlace.{ReadPlace}
use Rattle.vale_syntax.specs.Options.{◌>>=◌}
use Rattle.vale_syntax.specs.Trees.{Ex, Exs, Int, Word, Name, Call as CallOf, Binary, none, more}
use Rattle.vale_syntax.specs.Programs.{Ar, Value, Cl, St, Sts, CallStatement, no_sts, more_sts, Reads, Modifies, Ensures, De, Procedure, Export}
use Rattle.straight_line.specs.declared.form.Promise.{Promise}
use Rattle.straight_line.specs.declared.form.Promise.TheVariants.{Constant, Old, Sum}
use Rattle.straight_line.specs.declared.form.StraightLine.{StraightLine}

-- a general register but the stack pointer
abbrev pub but_rsp : Option GeneralReg → Option GeneralReg
but_rsp (Some Rsp) = None
but_rsp o = o

abbrev pub register : AName → Option GeneralReg
register n = but_rsp (reg_of n.text)

abbrev pub among : List GeneralReg → GeneralReg → Option GeneralReg
among rs r = find (λ q. reg_eq q r) rs

-- a register of the list
abbrev pub listed_register : List GeneralReg → AName → Option GeneralReg
listed_register rs n = register n >>= among rs

abbrev pub unless : Option GeneralReg → GeneralReg → Option GeneralReg
unless (Some q) r = None
unless None r = Some r

-- a register that is read, not secret, and none of those before it
abbrev pub readable_register : List GeneralReg → ReadPlace → Option GeneralReg
readable_register before p = if p.is_secret then None else (register p.name >>= λ r. unless (among before r) r)

unfoldable pub reads_from : List GeneralReg → List ReadPlace → Option (List GeneralReg)
reads_from before [] = Some before
reads_from before (p ∷ ps) = readable_register before p >>= λ r. reads_from (before ++ r ∷ []) ps

-- the names are those of the registers, in their order, and then `flags`
unfoldable pub are_modified : List GeneralReg → List AName → Bool
are_modified [] [] = false
are_modified [] (n ∷ []) = bytes_eq n.text (codes "flags")
are_modified [] (n ∷ m ∷ ns) = false
are_modified (r ∷ rs) [] = false
are_modified (r ∷ rs) (n ∷ ns) = bytes_eq n.text (reg_name r) && are_modified rs ns

-- a register of the list, as an expression
abbrev pub named_register : List GeneralReg → Ex → Option GeneralReg
named_register rs (Name n) = listed_register rs n
named_register rs _ = None

abbrev pub only_register : List GeneralReg → Exs → Option GeneralReg
only_register rs none = None
only_register rs (more x none) = named_register rs x
only_register rs (more x (more y ys)) = None

-- `old(Q)`
abbrev pub old_of : List GeneralReg → Ex → Option GeneralReg
old_of rs (CallOf f xs) = if bytes_eq f.text (codes "old") then only_register rs xs else None
old_of rs _ = None

-- `Kw`, `old(Q)`, `old(Q) + Kw`
abbrev pub value : List GeneralReg → GeneralReg → Ex → Option Promise
value rs r (Word s k) = Some (Constant r k)
value rs r (Binary s op.Add x (Word t k)) = old_of rs x >>= λ q. Some (Sum r q k)
value rs r x = old_of rs x >>= λ q. Some (Old r q)

-- `R == ..`
abbrev pub promise : List GeneralReg → Ex → Option Promise
promise rs (Binary s op.Eq x y) = named_register rs x >>= λ r. value rs r y
promise rs _ = None

-- a constant from a range, as the number with a sign that is the same word
abbrev pub signed_word : ℤ → ℤ
signed_word z = if int_lt z (pos (2 ^ 63)) then z else z -ℤ pos (2 ^ 64)

abbrev pub constant : ℤ → ℤ → ℤ → Option ℤ
constant lowest end z = if int_le lowest z && int_lt z end then Some (signed_word z) else None

-- the source of an instruction that takes the constants of a range
abbrev pub source : List GeneralReg → ℤ → ℤ → Ex → Option Opr
source rs lowest end (Int s z) = constant lowest end z >>= λ i. Some (Imm i)
source rs lowest end x = named_register rs x >>= λ r. Some (R r)

-- `Mov64(A, B)`, `Add64(A, B)`
abbrev pub instruction : List GeneralReg → List ℕ → GeneralReg → Ex → Option Ins
instruction rs name d x =
    if bytes_eq name (codes "Mov64") then (source rs (negsuc (2 ^ 63 - 1)) (pos (2 ^ 64)) x >>= λ s. Some (Mov d s))
    else if bytes_eq name (codes "Add64") then (source rs (negsuc (2 ^ 31 - 1)) (pos (2 ^ 31)) x >>= λ s. Some (Alu alu.Add d s))
    else None

abbrev pub operands : List GeneralReg → List ℕ → List Ar → Option Ins
operands rs name (Value a ∷ Value b ∷ []) = named_register rs a >>= λ d. instruction rs name d b
operands rs name _ = None

abbrev pub statement : List GeneralReg → St → Option Ins
statement rs (CallStatement f xs) = operands rs f.text xs
statement rs _ = None

abbrev pub statement_list : Sts → List St
statement_list no_sts = []
statement_list (more_sts x xs) = x ∷ statement_list xs

unfoldable pub statements_from : List GeneralReg → List Ins → List St → Option (List Ins)
statements_from rs before [] = Some before
statements_from rs before (x ∷ xs) = statement rs x >>= λ i. statements_from rs (before ++ i ∷ []) xs

-- the most statements
abbrev pub statement_limit : ℕ
statement_limit = 4096

abbrev pub body : List GeneralReg → List St → Option (List Ins)
body rs xs = statements_from rs [] xs >>= λ is. if nat_le 1 (length is) && nat_le (length is) statement_limit then Some is else None

-- a procedure without parameters that reads registers, changes them and the flags, and promises what one of them holds
abbrev pub clauses_of : List Cl → Option (List GeneralReg × Promise)
clauses_of (Reads s ps ∷ Modifies t ns ∷ Ensures u x ∷ []) =
    reads_from [] ps >>= λ rs. if are_modified rs ns then (promise rs x >>= λ e. Some (rs, e)) else None
clauses_of _ = None

-- the procedure's name may be given and the export's exported, and it is the procedure that is exported
abbrev pub are_names : List ℕ → List ℕ → List ℕ → Bool
are_names name export procedure = not (is_reserved_name name) && is_export_text export && bytes_eq procedure name

abbrev pub procedure_ : List ℕ → List Cl → List St → List ℕ → Option StraightLine
procedure_ name cs xs export = clauses_of cs >>= λ c. body c.0 xs >>= λ is. Some record { name = name; registers = c.0; instructions = is; promise = c.1; export = export }

-- a procedure without parameters, and its export
abbrev pub pair_of : De → De → Option StraightLine
pair_of (Procedure s n ps cs xs) (Export t x p args) = if (length ps == 0) && (length args == 0) && are_names n.text x.text p.text then procedure_ n.text cs (statement_list xs) x.text else None
pair_of d e = None

abbrev pub straight_line : List De → Option StraightLine
straight_line [] = None
straight_line (d ∷ []) = None
straight_line (d ∷ e ∷ []) = pair_of d e
straight_line (d ∷ e ∷ f ∷ ds) = None

abbrev pub has : List GeneralReg → GeneralReg → Bool
has rs r = is_some (among rs r)
