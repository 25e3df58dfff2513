-- Sets with one more place.
use Rattle.std.proofs.Common.{◌≡◌, ℕ, ◌<◌, ◌*◌, ◌%◌, ◌^◌, ◌/◌, Bool, true, false, refl, sym, ap, ◌∙◌, ◌||◌, w8, w16, arith}
use Rattle.std.specs.Prelude.{bit_or, ◌==◌}
use Rattle.std.specs.Int.{bit_at}
use Rattle.std.proofs.lemmas.Bool.{eqb-true, eqb-false}
use Rattle.std.proofs.lemmas.Nat.{and_mask}
use Rattle.std.proofs.lemmas.Nat.Bits.{bit_at_set_same, bit_at_set_other}
use Rattle.x64_syntax.specs.declared.places.Reg.{Reg as GeneralReg}
use Rattle.x64_syntax.specs.declared.places.Xmm.{Xmm as XmmReg}
use Rattle.x64_syntax.specs.declared.places.FlagName.{FlagName}
use Rattle.x64_syntax.specs.declared.places.MachinePlace.{MachinePlace}
use Rattle.x64_syntax.specs.declared.places.MachinePlace.TheVariants.{Reg, Xmm, Flag}
use Rattle.x64_syntax.specs.declared.place_set.PlaceSet.{PlaceSet}
use Rattle.x64_syntax.specs.Places.{reg_number, xmm_number, flag_number, place_eq}
use Rattle.x64_syntax.specs.PlaceSets.{has_bit, in_set}
use Rattle.x64_syntax.proofs.PlaceLemmas.{reg_number_lt, xmm_number_lt, flag_number_lt}

bit_is : (n k : ℕ) → has_bit n k ≡ (bit_at n k == 1)
bit_is n k = ap (λ x. x == 1) (and_mask (n / 2 ^ k) 1)

set_16 : (n k i : ℕ) → k < 16 → has_bit (bit_or n (1 * 2 ^ k % 65536)) i ≡ ((i == k) || has_bit n i)
set_16 n k i within = by_test (i == k) refl where
  by_test : (b : Bool) → (i == k) ≡ b → has_bit (bit_or n (1 * 2 ^ k % 65536)) i ≡ (b || has_bit n i)
  by_test true e = let same = eqb-true i k e in ap (λ j. has_bit (bit_or n (1 * 2 ^ k % 65536)) j) same ∙ bit_is (bit_or n (1 * 2 ^ k % 65536)) k ∙ ap (λ x. x == 1) (bit_at_set_same w16 n k within)
  by_test false e = bit_is (bit_or n (1 * 2 ^ k % 65536)) i ∙ ap (λ x. x == 1) (bit_at_set_other w16 n k within i (eqb-false i k e)) ∙ sym (bit_is n i)

set_8 : (n k i : ℕ) → k < 8 → has_bit (bit_or n (1 * 2 ^ k % 256)) i ≡ ((i == k) || has_bit n i)
set_8 n k i within = by_test (i == k) refl where
  by_test : (b : Bool) → (i == k) ≡ b → has_bit (bit_or n (1 * 2 ^ k % 256)) i ≡ (b || has_bit n i)
  by_test true e = let same = eqb-true i k e in ap (λ j. has_bit (bit_or n (1 * 2 ^ k % 256)) j) same ∙ bit_is (bit_or n (1 * 2 ^ k % 256)) k ∙ ap (λ x. x == 1) (bit_at_set_same w8 n k within)
  by_test false e = bit_is (bit_or n (1 * 2 ^ k % 256)) i ∙ ap (λ x. x == 1) (bit_at_set_other w8 n k within i (eqb-false i k e)) ∙ sym (bit_is n i)

pub with_reg : (s : PlaceSet) (r : GeneralReg) (p : MachinePlace) → in_set (record s { regs = bit_or s.regs (1 * 2 ^ reg_number r % 65536) }) p ≡ (place_eq p (Reg r) || in_set s p)
with_reg s r (Reg q) = set_16 s.regs (reg_number r) (reg_number q) (reg_number_lt r)
with_reg s r (Xmm x) = refl
with_reg s r (Flag f) = refl

pub with_xmm : (s : PlaceSet) (x : XmmReg) (p : MachinePlace) → in_set (record s { xmms = bit_or s.xmms (1 * 2 ^ xmm_number x % 65536) }) p ≡ (place_eq p (Xmm x) || in_set s p)
with_xmm s x (Reg q) = refl
with_xmm s x (Xmm y) = set_16 s.xmms (xmm_number x) (xmm_number y) (xmm_number_lt x)
with_xmm s x (Flag f) = refl

pub with_flag : (s : PlaceSet) (f : FlagName) (p : MachinePlace) → in_set (record s { flags = bit_or s.flags (1 * 2 ^ flag_number f % 256) }) p ≡ (place_eq p (Flag f) || in_set s p)
with_flag s f (Reg q) = refl
with_flag s f (Xmm x) = refl
with_flag s f (Flag g) = set_8 s.flags (flag_number f) (flag_number g) (below (flag_number_lt f)) where
  below : {n : ℕ} → n < 4 → n < 8
  below h = omega (arith, h)
