-- What is read after a write.
use Rattle.std.proofs.Common.{◌≡◌, ℕ, ◌<◌, pos, false, List, length, refl, sym, ap, ◌∙◌, subst, set, arith, mod-eq_of_lt, inl, inr}
use Rattle.std.specs.Prelude.{slice_index}
use Rattle.std.proofs.lemmas.Bool.{eqb-false, cases_eq}
use Rattle.std.proofs.lemmas.List.{get_or-set_same, get_or-set_other, length-set}
use Rattle.x64_syntax.specs.declared.places.MachinePlace.{MachinePlace}
use Rattle.x64_syntax.specs.declared.places.MachinePlace.TheVariants.{Reg, Xmm, Flag}
use Rattle.x64_syntax.specs.Places.{reg_number, xmm_number, flag_number, place_eq}
use Rattle.x64_syntax.proofs.PlaceLemmas.{reg_number_lt, xmm_number_lt, flag_number_lt}
use Rattle.term_core.specs.Value.{T, T128, Val, Whole, Word, Wide, whole, word, wide, cast}
use Rattle.term_core.proofs.Values.{word-lt, wide-lt}
use Rattle.x64_meaning.specs.declared.machine.Flag.TheVariants.{Undefined}
use Rattle.x64_meaning.specs.State.{State, IsState, flag_number_of, flag_from, place_sort, read, write}

-- a place can hold the value
abbrev pub Storable : MachinePlace → Val → Type 0
Storable (Reg r) v = v ≡ Word (word v)
Storable (Xmm x) v = v ≡ Wide (wide v)
Storable (Flag f) v = v ≡ Whole (pos (flag_number_of (flag_from (whole v))))

pub read_written : (s : State) (p : MachinePlace) (v : Val) → IsState s → Storable p v → read (write s p v) p ≡ v
read_written s (Reg r) v ok h =
    let lt : reg_number r < length s.regs = omega (arith, ok.regs, reg_number_lt r) in
    ap Word (get_or-set_same s.regs (reg_number r) (word v) 0 lt) ∙ sym h
read_written s (Xmm x) v ok h =
    let lt : xmm_number x < length s.xmms = omega (arith, ok.xmms, xmm_number_lt x) in
    ap Wide (get_or-set_same s.xmms (xmm_number x) (wide v) 0 lt) ∙ sym h
read_written s (Flag f) v ok h =
    let lt : flag_number f < length s.flags = omega (arith, ok.flags, flag_number_lt f) in
    ap (λ x. Whole (pos (flag_number_of x))) (get_or-set_same s.flags (flag_number f) (flag_from (whole v)) Undefined lt) ∙ sym h

pub read_other : (s : State) (p q : MachinePlace) (v : Val) → place_eq p q ≡ false → read (write s q v) p ≡ read s p
read_other s (Reg a) (Reg b) v h =
    ap Word (get_or-set_other s.regs (reg_number b) (reg_number a) (word v) 0 (eqb-false _ _ h))
read_other s (Xmm a) (Xmm b) v h =
    ap Wide (get_or-set_other s.xmms (xmm_number b) (xmm_number a) (wide v) 0 (eqb-false _ _ h))
read_other s (Flag a) (Flag b) v h =
    ap (λ x. Whole (pos (flag_number_of x))) (get_or-set_other s.flags (flag_number b) (flag_number a) (flag_from (whole v)) Undefined (eqb-false _ _ h))
read_other s (Reg a) (Xmm b) v h = refl
read_other s (Reg a) (Flag b) v h = refl
read_other s (Xmm a) (Reg b) v h = refl
read_other s (Xmm a) (Flag b) v h = refl
read_other s (Flag a) (Reg b) v h = refl
read_other s (Flag a) (Xmm b) v h = refl

-- a number that fits, put into a list of numbers that fit
set-lt : (xs : List ℕ) (i x bound : ℕ) → i < length xs → x < bound → ((k : ℕ) → slice_index xs k < bound) → (k : ℕ) → slice_index (set xs i x) k < bound
set-lt xs i x bound within fits all k = elim (cases_eq k i) [
  | inl e ↦ subst (λ j. slice_index (set xs i x) j < bound) (sym e) (subst (λ n. n < bound) (sym (get_or-set_same xs i x 0 within)) fits)
  | inr ne ↦ subst (λ n. n < bound) (sym (get_or-set_other xs i k x 0 ne)) (all k)
]

pub write-IsState : (s : State) (p : MachinePlace) (v : Val) → IsState s → IsState (write s p v)
write-IsState s (Reg r) v ok = record {
  regs = length-set s.regs _ _ ∙ ok.regs;
  regs_fit = set-lt s.regs _ _ T (omega (arith, ok.regs, reg_number_lt r)) (word-lt v) ok.regs_fit;
  xmms = ok.xmms;
  xmms_fit = ok.xmms_fit;
  flags = ok.flags;
  blocks = ok.blocks;
}
write-IsState s (Xmm x) v ok = record {
  regs = ok.regs;
  regs_fit = ok.regs_fit;
  xmms = length-set s.xmms _ _ ∙ ok.xmms;
  xmms_fit = set-lt s.xmms _ _ T128 (omega (arith, ok.xmms, xmm_number_lt x)) (wide-lt v) ok.xmms_fit;
  flags = ok.flags;
  blocks = ok.blocks;
}
write-IsState s (Flag f) v ok = record {
  regs = ok.regs;
  regs_fit = ok.regs_fit;
  xmms = ok.xmms;
  xmms_fit = ok.xmms_fit;
  flags = length-set s.flags _ _ ∙ ok.flags;
  blocks = ok.blocks;
}

-- what is read has the sort of its place
pub read-sorted : (s : State) (p : MachinePlace) → IsState s → cast (place_sort p) (read s p) ≡ read s p
read-sorted s (Reg r) ok = ap Word (mod-eq_of_lt (ok.regs_fit (reg_number r)))
read-sorted s (Xmm x) ok = ap Wide (mod-eq_of_lt (ok.xmms_fit (xmm_number x)))
read-sorted s (Flag f) ok = refl
