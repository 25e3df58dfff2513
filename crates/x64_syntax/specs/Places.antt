-- The names and numbers of registers, xmm registers and flags.
use Rattle.std.specs.Prelude.{ℕ, List, [], ◌∷◌, Bool, false, ◌==◌, codes, Option}
use Rattle.x64_syntax.specs.declared.places.Reg.{Reg as GeneralReg}
use Rattle.x64_syntax.specs.declared.places.Reg.TheVariants.{Rax, Rbx, Rcx, Rdx, Rsi, Rdi, Rbp, Rsp, R8, R9, R10, R11, R12, R13, R14, R15}
use Rattle.x64_syntax.specs.declared.places.Xmm.{Xmm as XmmReg}
use Rattle.x64_syntax.specs.declared.places.Xmm.TheVariants.{Xmm0, Xmm1, Xmm2, Xmm3, Xmm4, Xmm5, Xmm6, Xmm7, Xmm8, Xmm9, Xmm10, Xmm11, Xmm12, Xmm13, Xmm14, Xmm15}
use Rattle.x64_syntax.specs.declared.places.FlagName.{FlagName}
use Rattle.x64_syntax.specs.declared.places.FlagName.TheVariants.{Cf, Zf, Sf, Of}
use Rattle.x64_syntax.specs.declared.places.MachinePlace.{MachinePlace}
use Rattle.x64_syntax.specs.declared.places.MachinePlace.TheVariants.{Reg, Xmm, Flag}
use Rattle.x64_syntax.specs.declared.places.Place.{Place}
use Rattle.x64_syntax.specs.declared.places.Place.TheVariants as place
use Rattle.x64_syntax.specs.Names.{first_of_name}

abbrev pub reg_name : GeneralReg → List ℕ
reg_name Rax = codes "rax"
reg_name Rbx = codes "rbx"
reg_name Rcx = codes "rcx"
reg_name Rdx = codes "rdx"
reg_name Rsi = codes "rsi"
reg_name Rdi = codes "rdi"
reg_name Rbp = codes "rbp"
reg_name Rsp = codes "rsp"
reg_name R8 = codes "r8"
reg_name R9 = codes "r9"
reg_name R10 = codes "r10"
reg_name R11 = codes "r11"
reg_name R12 = codes "r12"
reg_name R13 = codes "r13"
reg_name R14 = codes "r14"
reg_name R15 = codes "r15"

-- the name of its lower half, of 32 bits
abbrev pub low_name : GeneralReg → List ℕ
low_name Rax = codes "eax"
low_name Rbx = codes "ebx"
low_name Rcx = codes "ecx"
low_name Rdx = codes "edx"
low_name Rsi = codes "esi"
low_name Rdi = codes "edi"
low_name Rbp = codes "ebp"
low_name Rsp = codes "esp"
low_name R8 = codes "r8d"
low_name R9 = codes "r9d"
low_name R10 = codes "r10d"
low_name R11 = codes "r11d"
low_name R12 = codes "r12d"
low_name R13 = codes "r13d"
low_name R14 = codes "r14d"
low_name R15 = codes "r15d"

abbrev pub xmm_name : XmmReg → List ℕ
xmm_name Xmm0 = codes "xmm0"
xmm_name Xmm1 = codes "xmm1"
xmm_name Xmm2 = codes "xmm2"
xmm_name Xmm3 = codes "xmm3"
xmm_name Xmm4 = codes "xmm4"
xmm_name Xmm5 = codes "xmm5"
xmm_name Xmm6 = codes "xmm6"
xmm_name Xmm7 = codes "xmm7"
xmm_name Xmm8 = codes "xmm8"
xmm_name Xmm9 = codes "xmm9"
xmm_name Xmm10 = codes "xmm10"
xmm_name Xmm11 = codes "xmm11"
xmm_name Xmm12 = codes "xmm12"
xmm_name Xmm13 = codes "xmm13"
xmm_name Xmm14 = codes "xmm14"
xmm_name Xmm15 = codes "xmm15"

abbrev pub flag_name : FlagName → List ℕ
flag_name Cf = codes "cf"
flag_name Zf = codes "zf"
flag_name Sf = codes "sf"
flag_name Of = codes "of"

abbrev pub place_name : MachinePlace → List ℕ
place_name (Reg r) = reg_name r
place_name (Xmm x) = xmm_name x
place_name (Flag f) = flag_name f

-- a place of the machine among all places
abbrev pub of_machine : MachinePlace → Place
of_machine (Reg r) = place.Reg r
of_machine (Xmm x) = place.Xmm x
of_machine (Flag f) = place.Flag f

abbrev pub reg_number : GeneralReg → ℕ
reg_number Rax = 0
reg_number Rbx = 1
reg_number Rcx = 2
reg_number Rdx = 3
reg_number Rsi = 4
reg_number Rdi = 5
reg_number Rbp = 6
reg_number Rsp = 7
reg_number R8 = 8
reg_number R9 = 9
reg_number R10 = 10
reg_number R11 = 11
reg_number R12 = 12
reg_number R13 = 13
reg_number R14 = 14
reg_number R15 = 15

abbrev pub xmm_number : XmmReg → ℕ
xmm_number Xmm0 = 0
xmm_number Xmm1 = 1
xmm_number Xmm2 = 2
xmm_number Xmm3 = 3
xmm_number Xmm4 = 4
xmm_number Xmm5 = 5
xmm_number Xmm6 = 6
xmm_number Xmm7 = 7
xmm_number Xmm8 = 8
xmm_number Xmm9 = 9
xmm_number Xmm10 = 10
xmm_number Xmm11 = 11
xmm_number Xmm12 = 12
xmm_number Xmm13 = 13
xmm_number Xmm14 = 14
xmm_number Xmm15 = 15

abbrev pub flag_number : FlagName → ℕ
flag_number Cf = 0
flag_number Zf = 1
flag_number Sf = 2
flag_number Of = 3

-- whether two places are one
abbrev pub reg_eq : GeneralReg → GeneralReg → Bool
reg_eq a b = reg_number a == reg_number b

abbrev pub xmm_eq : XmmReg → XmmReg → Bool
xmm_eq a b = xmm_number a == xmm_number b

abbrev pub flag_eq : FlagName → FlagName → Bool
flag_eq a b = flag_number a == flag_number b

abbrev pub place_eq : MachinePlace → MachinePlace → Bool
place_eq (Reg a) (Reg b) = reg_eq a b
place_eq (Xmm a) (Xmm b) = xmm_eq a b
place_eq (Flag a) (Flag b) = flag_eq a b
place_eq _ _ = false

-- every register, xmm register and flag, in order
abbrev pub all_regs : List GeneralReg
all_regs = Rax ∷ Rbx ∷ Rcx ∷ Rdx ∷ Rsi ∷ Rdi ∷ Rbp ∷ Rsp ∷ R8 ∷ R9 ∷ R10 ∷ R11 ∷ R12 ∷ R13 ∷ R14 ∷ R15 ∷ []

abbrev pub all_xmms : List XmmReg
all_xmms =
    Xmm0 ∷ Xmm1 ∷ Xmm2 ∷ Xmm3 ∷ Xmm4 ∷ Xmm5 ∷ Xmm6 ∷ Xmm7 ∷ Xmm8 ∷ Xmm9 ∷ Xmm10 ∷ Xmm11 ∷ Xmm12 ∷ Xmm13 ∷ Xmm14 ∷ Xmm15 ∷ []

abbrev pub all_flags : List FlagName
all_flags = Cf ∷ Zf ∷ Sf ∷ Of ∷ []

-- the one of a name
abbrev pub reg_of : List ℕ → Option GeneralReg
reg_of name = first_of_name reg_name all_regs name

abbrev pub low_of : List ℕ → Option GeneralReg
low_of name = first_of_name low_name all_regs name

abbrev pub xmm_of : List ℕ → Option XmmReg
xmm_of name = first_of_name xmm_name all_xmms name

abbrev pub flag_of : List ℕ → Option FlagName
flag_of name = first_of_name flag_name all_flags name
