-- In a contract's terms the names of machine places are worth what the places hold at the entry and now.
use Rattle.std.proofs.Common.{◌≡◌, ℕ, length, refl, ap, ◌∙◌}
use Rattle.x64_syntax.specs.declared.places.Reg.TheVariants.{Rax, Rbx, Rcx, Rdx, Rsi, Rdi, Rbp, Rsp, R8, R9, R10, R11, R12, R13, R14, R15}
use Rattle.x64_syntax.specs.declared.places.Xmm.TheVariants.{Xmm0, Xmm1, Xmm2, Xmm3, Xmm4, Xmm5, Xmm6, Xmm7, Xmm8, Xmm9, Xmm10, Xmm11, Xmm12, Xmm13, Xmm14, Xmm15}
use Rattle.x64_syntax.specs.declared.places.FlagName.TheVariants.{Cf, Zf, Sf, Of}
use Rattle.x64_syntax.specs.declared.places.MachinePlace.{MachinePlace}
use Rattle.x64_syntax.specs.declared.places.MachinePlace.TheVariants.{Reg, Xmm, Flag}
use Rattle.x64_syntax.specs.Places.{place_name}
use Rattle.term_core.specs.Terms.{Name}
use Rattle.term_core.specs.Value.{Val, Functions, Assignment, cast, value}
use Rattle.x64_meaning.specs.State.{State, IsState, place_sort, read}
use Rattle.x64_meaning.specs.Spots.{Spot, machine_spot, look}
use Rattle.x64_meaning.specs.Contract.{Contract, entry_name, named_values, value_named, seen}
use Rattle.x64_meaning.proofs.Reading.{read-sorted}

-- the names of a machine place, now and at the entry
found : (c : Contract) (entry now : Spot → Val) (p : MachinePlace) → (value_named (named_values c entry now) (place_name p) ≡ now (machine_spot p)) × (value_named (named_values c entry now) (entry_name (place_name p)) ≡ entry (machine_spot p))
found c entry now (Reg Rax) = (refl, refl)
found c entry now (Reg Rbx) = (refl, refl)
found c entry now (Reg Rcx) = (refl, refl)
found c entry now (Reg Rdx) = (refl, refl)
found c entry now (Reg Rsi) = (refl, refl)
found c entry now (Reg Rdi) = (refl, refl)
found c entry now (Reg Rbp) = (refl, refl)
found c entry now (Reg Rsp) = (refl, refl)
found c entry now (Reg R8) = (refl, refl)
found c entry now (Reg R9) = (refl, refl)
found c entry now (Reg R10) = (refl, refl)
found c entry now (Reg R11) = (refl, refl)
found c entry now (Reg R12) = (refl, refl)
found c entry now (Reg R13) = (refl, refl)
found c entry now (Reg R14) = (refl, refl)
found c entry now (Reg R15) = (refl, refl)
found c entry now (Xmm Xmm0) = (refl, refl)
found c entry now (Xmm Xmm1) = (refl, refl)
found c entry now (Xmm Xmm2) = (refl, refl)
found c entry now (Xmm Xmm3) = (refl, refl)
found c entry now (Xmm Xmm4) = (refl, refl)
found c entry now (Xmm Xmm5) = (refl, refl)
found c entry now (Xmm Xmm6) = (refl, refl)
found c entry now (Xmm Xmm7) = (refl, refl)
found c entry now (Xmm Xmm8) = (refl, refl)
found c entry now (Xmm Xmm9) = (refl, refl)
found c entry now (Xmm Xmm10) = (refl, refl)
found c entry now (Xmm Xmm11) = (refl, refl)
found c entry now (Xmm Xmm12) = (refl, refl)
found c entry now (Xmm Xmm13) = (refl, refl)
found c entry now (Xmm Xmm14) = (refl, refl)
found c entry now (Xmm Xmm15) = (refl, refl)
found c entry now (Flag Cf) = (refl, refl)
found c entry now (Flag Zf) = (refl, refl)
found c entry now (Flag Sf) = (refl, refl)
found c entry now (Flag Of) = (refl, refl)

-- a machine place is worth what it holds
look_is_read : (stack : ℕ) (ghosts : Assignment) (s : State) (p : MachinePlace) → look stack ghosts s (machine_spot p) ≡ read s p
look_is_read stack ghosts s (Reg r) = refl
look_is_read stack ghosts s (Xmm x) = refl
look_is_read stack ghosts s (Flag f) = refl

pub read_now : (m : Functions) (c : Contract) (ghosts : Assignment) (s t : State) (p : MachinePlace) → IsState t → value m (seen c ghosts s t) (Name (place_name p) (place_sort p)) ≡ read t p
read_now m c ghosts s t p ok =
    ap (cast (place_sort p)) ((found c (look (length c.blocks) ghosts s) (look (length c.blocks) ghosts t) p).0 ∙ look_is_read (length c.blocks) ghosts t p) ∙ read-sorted t p ok

pub read_at_entry : (m : Functions) (c : Contract) (ghosts : Assignment) (s t : State) (p : MachinePlace) → IsState s → value m (seen c ghosts s t) (Name (entry_name (place_name p)) (place_sort p)) ≡ read s p
read_at_entry m c ghosts s t p ok =
    ap (cast (place_sort p)) ((found c (look (length c.blocks) ghosts s) (look (length c.blocks) ghosts t) p).1 ∙ look_is_read (length c.blocks) ghosts s p) ∙ read-sorted s p ok
