-- What an instruction leaves beside what was seen so far: at most one observation more.
use Rattle.std.proofs.Common.{◌≡◌, ℕ, ◌<◌, ◌≤◌, true, false, List, [], ◌∷◌, ◌++◌, length, Option, Some, None, refl, sym, ap, ◌∙◌, arith, append-nil}
use Rattle.std.specs.Prelude.{Result, Ok, Err, nat_le, if◌then◌else◌}
use Rattle.std.proofs.lemmas.Bool.{le-leb, lt-leb}
use Rattle.std.proofs.lemmas.List.{length_push}
use Rattle.x64_syntax.specs.declared.places.FlagName.{FlagName}
use Rattle.x64_syntax.specs.declared.places.MachinePlace.TheVariants.{Flag}
use Rattle.x64_syntax.specs.declared.instructions.Ins.{Ins}
use Rattle.x64_blocks.specs.Memory.{Range, store}
use Rattle.x64_meaning.specs.declared.machine.Obs.{Obs}
use Rattle.x64_meaning.specs.declared.machine.Fault.{Fault}
use Rattle.x64_meaning.specs.State.{State, load}
use Rattle.x64_meaning.specs.Table.{store_size, reads}
use Rattle.x64_meaning.specs.Run.{Outcome, Done, Faulted, Access, No, Loads, Stores, access, with_access, with_loaded, with_stored, with_flags, does, stored_bytes, first_undefined}
use Rattle.x64_meaning.specs.inner.Steps.{Steps, Foresees, last_of}
use Rattle.x64_evaluator.specs.declared.end.End.{End}
use Rattle.x64_evaluator.specs.declared.end.End.TheVariants as end
use Rattle.x64_evaluator.specs.inner.Moves.{stands, done, shown}

abbrev list_of : Option Obs → List Obs
list_of None = []
list_of (Some o) = o ∷ []

abbrev pub Once : Outcome → Type 0
Once (Done t os) = os ≡ list_of (last_of os)
Once (Faulted f) = Unit {0}

-- an instruction is seen once or not at all
does_once : (i : Ins) (s : State) (o : Option FlagName) → Once (with_flags s i o)
does_once i s (Some f) = tt
does_once i s None = by_access (access s i) where
  by_load : (a size : ℕ) (l : Option ℕ) → Once (with_loaded s i a size l)
  by_load a size None = tt
  by_load a size (Some n) = refl

  by_store : (a size : ℕ) (bs : Option (List Range)) → Once (with_stored s i a size bs)
  by_store a size None = tt
  by_store a size (Some bs) = refl

  by_access : (x : Access) → Once (with_access s i x)
  by_access No = refl
  by_access (Loads a size) = by_load a size (load s a size)
  by_access (Stores a) = by_store a (store_size i) (store s.blocks a (stored_bytes s i))

pub once : (i : Ins) (s : State) → Once (does i s)
once i s = does_once i s (first_undefined (λ f. reads i (Flag f)) s)

same_fault : {f g : Fault} → ◌≡◌ {A = Result (Unit {0}) Fault} (Err f) (Err g) → f ≡ g
same_fault {f = f} e = ap part e where
  part : Result (Unit {0}) Fault → Fault
  part (Ok x) = f
  part (Err g) = g

foreseen_fault : {f g : Fault} → ◌≡◌ {A = Result (Option Obs) Fault} (Err f) (Err g) → f ≡ g
foreseen_fault {f = f} e = ap part e where
  part : Result (Option Obs) Fault → Fault
  part (Ok x) = f
  part (Err g) = g

same_last : {o q : Option Obs} → ◌≡◌ {A = Result (Option Obs) Fault} (Ok o) (Ok q) → o ≡ q
same_last {o = o} e = ap part e where
  part : Result (Option Obs) Fault → Option Obs
  part (Ok x) = x
  part (Err f) = o

faulted : {f g : Fault} {new s : State} (seen : List Obs) → f ≡ g → new ≡ s → stands {A = Unit {0}} (Err (end.Faulted f)) new seen ≡ stands (Err (end.Faulted g)) s seen
faulted {f = f} {s = s} seen e same = ap (λ t. stands (Err (end.Faulted f)) t seen) same ∙ ap (λ g. stands (Err (end.Faulted g)) s seen) e

pub fault : (x : Outcome) (s new : State) (last : Option Obs) (f : Fault) (room : ℕ) (seen : List Obs) → Steps x s new last (Err f) → stands (Err (end.Faulted f)) new seen ≡ done room s seen x
fault (Done t os) s new last f room seen h = absurd cc
fault (Faulted g) s new last f room seen h = faulted seen (same_fault h.0) h.1

pub fault_foreseen : (x : Outcome) (s : State) (f : Fault) (room : ℕ) (seen : List Obs) → Foresees x (Err f) → stands (Err (end.Faulted f)) s seen ≡ done room s seen x
fault_foreseen (Done t os) s f room seen h = absurd cc
fault_foreseen (Faulted g) s f room seen h = faulted seen (foreseen_fault h) refl

-- a step that left this, with or without an observation
kept : (t s : State) (room : ℕ) (seen os : List Obs) → os ≡ [] → length seen ≤ room → stands (Ok tt) t seen ≡ done room s seen (Done t os)
kept t s room seen os e le =
    let same : seen ++ os ≡ seen = ap (λ l. seen ++ l) e ∙ append-nil seen in
    let fits : nat_le (length (seen ++ os)) room ≡ true = ap (λ l. nat_le (length l) room) same ∙ le-leb _ _ le in
    sym (ap (λ b. if b then stands (Ok tt) t (seen ++ os) else stands (Err end.TraceFull) s seen) fits ∙ ap (λ l. stands (Ok tt) t l) same)

added : (r : Result (Unit {0}) End) (l : List Obs) (t s : State) (room : ℕ) (seen os : List Obs) (o : Obs) → os ≡ o ∷ [] → length seen < room → (r, l) ≡ shown room seen o → stands r t l ≡ done room s seen (Done t os)
added r l t s room seen os o e lt h =
    let fits : nat_le (length (seen ++ o ∷ [])) room ≡ true = le-leb _ _ (let n = length_push seen o in omega (arith, n, lt)) in
    let is : (r, l) ≡ (Ok tt, seen ++ o ∷ []) = h ∙ ap (λ b. if b then (Ok tt, seen ++ o ∷ []) else (Err end.TraceFull, seen)) fits in
    let new : done room s seen (Done t (o ∷ [])) ≡ stands (Ok tt) t (seen ++ o ∷ []) = ap (λ b. if b then stands (Ok tt) t (seen ++ o ∷ []) else stands (Err end.TraceFull) s seen) fits in
    ap (λ p. stands p.0 t p.1) is ∙ sym (ap (λ os. done room s seen (Done t os)) e ∙ new)

pub done_seen : (x : Outcome) (s new : State) (r : Result (Unit {0}) End) (l : List Obs) (room : ℕ) (seen : List Obs) (o : Obs) → Once x → Steps x s new (Some o) (Ok tt) → length seen < room → (r, l) ≡ shown room seen o → stands r new l ≡ done room s seen x
done_seen (Done t os) s new r l room seen o one h lt is =
    ap (λ t. stands r t l) h.1 ∙ added r l t s room seen os o (one ∙ ap list_of (sym h.2)) lt is
done_seen (Faulted g) s new r l room seen o one h lt is = absurd cc

pub done_kept : (x : Outcome) (s new : State) (room : ℕ) (seen : List Obs) → Once x → Steps x s new None (Ok tt) → length seen ≤ room → stands (Ok tt) new seen ≡ done room s seen x
done_kept (Done t os) s new room seen one h le = ap (λ t. stands (Ok tt) t seen) h.1 ∙ kept t s room seen os (one ∙ ap list_of (sym h.2)) le
done_kept (Faulted g) s new room seen one h le = absurd cc

pub not_seen : (x : Outcome) (s new : State) (last : Option Obs) (seen : List Obs) → Once x → Foresees x (Ok None) → Steps x s new last (Ok tt) → stands (Ok tt) new seen ≡ done (length seen) s seen x
not_seen (Done t os) s new last seen one f h = ap (λ t. stands (Ok tt) t seen) h.1 ∙ kept t s (length seen) seen os (one ∙ ap list_of (sym (same_last f))) (omega arith)
not_seen (Faulted g) s new last seen one f h = absurd cc

-- an observation more has no room
pub full : (x : Outcome) (s : State) (o : Obs) (seen : List Obs) → Once x → Foresees x (Ok (Some o)) → stands (Err end.TraceFull) s seen ≡ done (length seen) s seen x
full (Done t os) s o seen one f =
    let e : os ≡ o ∷ [] = one ∙ ap list_of (sym (same_last f)) in
    let none : nat_le (length (seen ++ os)) (length seen) ≡ false =
    ap (λ l. nat_le (length (seen ++ l)) (length seen)) e ∙ lt-leb _ _ (let n = length_push seen o in omega (arith, n)) in
    sym (ap (λ b. if b then stands (Ok tt) t (seen ++ os) else stands (Err end.TraceFull) s seen) none)
full (Faulted g) s o seen one f = absurd cc
