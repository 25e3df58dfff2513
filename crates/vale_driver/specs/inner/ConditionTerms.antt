-- The condition's terms, as the checker builds them over the present versions of places.
use Rattle.std.specs.Prelude.{ℕ, Bool, true, false, List, [], ◌∷◌, get_or}
use Rattle.x64_syntax.specs.declared.places.Reg.{Reg as GeneralReg}
use Rattle.x64_syntax.specs.declared.places.FlagName.TheVariants.{Cf, Zf, Sf, Of}
use Rattle.x64_syntax.specs.declared.places.MachinePlace.TheVariants.{Reg, Xmm, Flag}
use Rattle.x64_syntax.specs.declared.operands.Opr.{Opr}
use Rattle.x64_syntax.specs.declared.instructions.AluOp.TheVariants.{Add}
use Rattle.x64_syntax.specs.declared.instructions.Ins.{Ins}
use Rattle.x64_syntax.specs.declared.instructions.Ins.TheVariants.{Mov, Alu}
use Rattle.x64_syntax.specs.Places.{reg_number}
use Rattle.term_core.specs.declared.operator.BinOp.TheVariants as bin
use Rattle.term_core.specs.Terms.{Tm}
use Rattle.term_core.specs.Value.{T}
use Rattle.x64_meaning.specs.Exp.{Exp, Before, After, Bin, exp_term}
use Rattle.x64_meaning.specs.Table.{source, sum, int_of, xor_of, reaches, sets, zero_of, sign_of}
use Rattle.x64_meaning.specs.Condition.{Versions, no_terms, version, hypothesis}
use Rattle.std.specs.Prelude.{◌+◌, ◌^◌}
use Rattle.straight_line.specs.declared.form.Promise.{Promise}
use Rattle.vale_driver.specs.declared.versions.Versions.{Versions as AVersions}
use Rattle.vale_driver.specs.Build.{promise_exp}

-- the versions of the registers, by their numbers, and that of the flags
abbrev pub versions_of : List ℕ → ℕ → Versions
versions_of registers flags (Reg r) = get_or registers (reg_number r) 0
versions_of registers flags (Xmm x) = 0
versions_of registers flags (Flag f) = flags

abbrev pub present_versions : AVersions → Versions
present_versions v = versions_of v.registers v.flags

-- the instructions that have conditions so far: moves and sums
abbrev pub is_built : Ins → Bool
is_built (Mov d s) = true
is_built (Alu Add d s) = true
is_built _ = false

-- an expression over the present versions and the next ones
abbrev pub term : Versions → Exp → Tm
term v e = exp_term (λ p. version p (v p)) (λ p. version p (v p + 1)) no_terms e

unfoldable pub move_term : Versions → GeneralReg → Opr → Tm
move_term v d s = hypothesis v (record { place = Reg d; right = source s })

-- the equations of an addition, in order
unfoldable pub sum_term : Versions → GeneralReg → Opr → Tm
sum_term v d s = hypothesis v (record { place = Reg d; right = sum (Before (Reg d)) (source s) })

unfoldable pub carry_term : Versions → GeneralReg → Opr → Tm
carry_term v d s = hypothesis v (sets Cf (reaches T (sum (int_of (Before (Reg d))) (int_of (source s)))))

unfoldable pub zero_term : Versions → GeneralReg → Tm
zero_term v d = hypothesis v (sets Zf (zero_of (After (Reg d))))

unfoldable pub sign_term : Versions → GeneralReg → Tm
sign_term v d = hypothesis v (sets Sf (sign_of (After (Reg d))))

-- the bits in which a sum differs from both of its parts
abbrev pub changed_bits : GeneralReg → Opr → Exp
changed_bits d s = Bin bin.And (xor_of (Before (Reg d)) (After (Reg d))) (xor_of (source s) (After (Reg d)))

unfoldable pub overflow_term : Versions → GeneralReg → Opr → Tm
overflow_term v d s = hypothesis v (sets Of (reaches (2 ^ 63) (int_of (changed_bits d s))))

abbrev pub addition_terms : Versions → GeneralReg → Opr → List Tm
addition_terms v d s = sum_term v d s ∷ carry_term v d s ∷ zero_term v d ∷ sign_term v d ∷ overflow_term v d s ∷ []

-- the promise over the first and the last versions
unfoldable pub promise_term : Versions → Promise → Tm
promise_term last p = exp_term (λ p. version p 0) (λ p. version p (last p)) no_terms (promise_exp p)
