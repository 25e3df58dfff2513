-- There are four flags, whatever instructions do.
use Rattle.std.proofs.Common.{◌≡◌, ℕ, List, [], ◌∷◌, length, ◌∙◌}
use Rattle.std.specs.Prelude.{Option, Some, None}
use Rattle.std.proofs.lemmas.List.{length-set}
use Rattle.x64_syntax.specs.declared.places.MachinePlace.{MachinePlace}
use Rattle.x64_syntax.specs.declared.places.MachinePlace.TheVariants.{Reg, Xmm, Flag}
use Rattle.x64_syntax.specs.declared.places.FlagName.{FlagName}
use Rattle.x64_syntax.specs.Places.{flag_number}
use Rattle.x64_syntax.specs.declared.instructions.Ins.{Ins}
use Rattle.x64_syntax.specs.declared.instructions.Ins.TheVariants.{Push, Pop}
use Rattle.x64_blocks.specs.Memory.{Range, store}
use Rattle.term_core.specs.Value.{Val, whole}
use Rattle.x64_meaning.specs.State.{State, write, load, flag_from}
use Rattle.x64_meaning.specs.Exp.{no_words}
use Rattle.x64_meaning.specs.Table.{Equation, apply, equations, reads, store_size}
use Rattle.x64_meaning.specs.Run.{Outcome, Done, Faulted, Access, No, Loads, Stores, does, with_flags, with_access, with_loaded, with_stored, after_stack, access, first_undefined, word_in, stored_bytes}

abbrev pub Four : State → Type 0
Four s = length s.flags ≡ 4

write_four : (s : State) (p : MachinePlace) (v : Val) → Four s → Four (write s p v)
write_four s (Reg r) v h = h
write_four s (Xmm x) v h = h
write_four s (Flag f) v h = length-set s.flags (flag_number f) (flag_from (whole v)) ∙ h

apply_four : (before : State) (loaded : ℕ → Val) (es : List Equation) (now : State) → Four now → Four (apply before loaded es now)
apply_four before loaded [] now h = h
apply_four before loaded (e ∷ es) now h = apply_four before loaded es _ (write_four now e.place _ h)

moved_four : (i : Ins) (s : State) → Four s → Four (after_stack i s)
moved_four (Push r) s h = h
moved_four (Pop d) s h = h
moved_four _ s h = h

abbrev pub LeavesFour : Outcome → Type 0
LeavesFour (Done s seen) = Four s
LeavesFour (Faulted f) = Unit {0}

module _ (i : Ins) (s : State) (h : Four s) where
  after_four : (loaded : ℕ → Val) → Four (after_stack i (apply s loaded (equations i) s))
  after_four loaded = moved_four i _ (apply_four s loaded (equations i) s h)

  by_load : (a size : ℕ) (o : Option ℕ) → LeavesFour (with_loaded s i a size o)
  by_load a size None = tt
  by_load a size (Some n) = after_four (word_in n)

  by_store : (a size : ℕ) (o : Option (List Range)) → LeavesFour (with_stored s i a size o)
  by_store a size None = tt
  by_store a size (Some bs) = after_four no_words

  by_access : (x : Access) → LeavesFour (with_access s i x)
  by_access No = after_four no_words
  by_access (Loads a size) = by_load a size (load s a size)
  by_access (Stores a) = by_store a (store_size i) (store s.blocks a (stored_bytes s i))

  by_flag : (o : Option FlagName) → LeavesFour (with_flags s i o)
  by_flag None = by_access (access s i)
  by_flag (Some f) = tt

  pub does_four : LeavesFour (does i s)
  does_four = by_flag (first_undefined (λ f. reads i (Flag f)) s)
