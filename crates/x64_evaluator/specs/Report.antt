-- What is told of a run: its end, the machine's state as in a state file, and what was seen.
use Rattle.std.specs.Prelude.{ℕ, Bool, true, false, List, [], ◌∷◌, ◌++◌, map, codes, decimal, slice_index}
use Rattle.x64_syntax.specs.declared.places.Reg.{Reg as GeneralReg}
use Rattle.x64_syntax.specs.declared.places.Xmm.{Xmm as XmmReg}
use Rattle.x64_syntax.specs.declared.places.FlagName.{FlagName}
use Rattle.x64_syntax.specs.declared.places.MachinePlace.TheVariants.{Reg, Xmm}
use Rattle.x64_syntax.specs.Places.{flag_name, xmm_number, all_regs, all_xmms, all_flags}
use Rattle.x64_meaning.specs.declared.machine.Flag.{Flag}
use Rattle.x64_meaning.specs.declared.machine.Flag.TheVariants.{Zero, One, Undefined}
use Rattle.x64_meaning.specs.declared.machine.Obs.{Obs}
use Rattle.x64_meaning.specs.declared.machine.Obs.TheVariants.{Access, Branch}
use Rattle.x64_meaning.specs.declared.machine.Fault.TheVariants.{Outside, UndefinedFlag}
use Rattle.x64_meaning.specs.State.{State, reg, flag}
use Rattle.x64_evaluator.specs.declared.end.End.{End}
use Rattle.x64_evaluator.specs.declared.end.End.TheVariants.{Ended, Faulted, OffCode, Paused, TraceFull}
use Rattle.x64_evaluator.specs.Evaluated.{Halt}
use Rattle.x64_evaluator.specs.StateFile.{value_text, block_text}

-- why the run ended, and how many steps it made
abbrev pub end_text : End → ℕ → List ℕ
end_text Ended n = codes "ended " ++ decimal n
end_text (Faulted (Outside a)) n = codes "outside " ++ (decimal n ++ (codes " " ++ decimal a))
end_text (Faulted (UndefinedFlag f)) n = codes "undefined " ++ (decimal n ++ (codes " " ++ flag_name f))
end_text OffCode n = codes "offcode " ++ decimal n
end_text Paused n = codes "paused " ++ decimal n
end_text TraceFull n = codes "tracefull " ++ decimal n

abbrev pub mark : Flag → List ℕ
mark Zero = codes "0"
mark One = codes "1"
mark Undefined = codes "-"

abbrev pub reg_line : State → GeneralReg → List ℕ
reg_line s r = value_text (Reg r) (reg s r)

abbrev pub xmm_line : State → XmmReg → List ℕ
xmm_line s x = value_text (Xmm x) (slice_index s.xmms (xmm_number x))

abbrev pub flag_line : State → FlagName → List ℕ
flag_line s f = flag_name f ++ (codes " " ++ mark (flag s f))

abbrev pub direction : Bool → List ℕ
direction true = codes "write "
direction false = codes "read "

-- `read 8 4096`, `taken`
abbrev pub seen_text : Obs → List ℕ
seen_text (Access a size write) = direction write ++ (decimal size ++ (codes " " ++ decimal a))
seen_text (Branch true) = codes "taken"
seen_text (Branch false) = codes "not"

unfoldable pub text_of : List (List ℕ) → List ℕ
text_of [] = []
text_of (l ∷ ls) = l ++ (codes "\n" ++ text_of ls)

abbrev pub state_text : State → List ℕ
state_text s =
    text_of (map (reg_line s) all_regs)
    ++ (text_of (map (xmm_line s) all_xmms) ++ (text_of (map (flag_line s) all_flags) ++ text_of (map block_text s.blocks)))

abbrev pub report_text : Halt → List ℕ
report_text h = end_text h.end h.way.steps ++ (codes "\n" ++ (state_text h.way.state ++ text_of (map seen_text h.way.seen)))
