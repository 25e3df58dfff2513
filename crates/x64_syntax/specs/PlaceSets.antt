-- Sets of places.
use Rattle.std.specs.Prelude.{ℕ, ◌/◌, ◌^◌, bit_and, Bool, ◌==◌}
use Rattle.x64_syntax.specs.declared.places.MachinePlace.{MachinePlace}
use Rattle.x64_syntax.specs.declared.places.MachinePlace.TheVariants.{Reg, Xmm, Flag}
use Rattle.x64_syntax.specs.declared.place_set.PlaceSet.{PlaceSet}
use Rattle.x64_syntax.specs.Places.{reg_number, xmm_number, flag_number}

-- bit k is 1
abbrev pub has_bit : ℕ → ℕ → Bool
has_bit n k = bit_and (n / 2 ^ k) 1 == 1

abbrev pub in_set : PlaceSet → MachinePlace → Bool
in_set s (Reg r) = has_bit s.regs (reg_number r)
in_set s (Xmm x) = has_bit s.xmms (xmm_number x)
in_set s (Flag f) = has_bit s.flags (flag_number f)
