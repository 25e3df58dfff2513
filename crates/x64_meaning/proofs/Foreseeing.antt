-- What a step would show is told without the step.
use Rattle.std.proofs.Common.{◌≡◌, ℕ, Bool, true, false, List, [], ◌∷◌, length, not, ◌||◌, Option, Some, None, refl, ap, ◌∙◌}
use Rattle.std.specs.Prelude.{Result, Ok, Err, is_none, option_map, if◌then◌else◌}
use Rattle.std.specs.List.{find, list_any}
use Rattle.x64_blocks.specs.Memory.{Range, holds, load, store, put_at}
use Rattle.x64_meaning.specs.declared.machine.Obs.{Obs}
use Rattle.x64_meaning.specs.declared.machine.Fault.{Fault}
use Rattle.x64_meaning.specs.State.{State}
use Rattle.x64_meaning.specs.Run.{Outcome, Done, Faulted}
use Rattle.x64_meaning.specs.inner.Steps.{would_result, Steps, Foresees, WouldGet, WouldPut}

none_mapped : {A B : Type 0} (f : A → B) (o : Option A) → is_none (option_map f o) ≡ is_none o
none_mapped f None = refl
none_mapped f (Some x) = refl

-- bytes can be stored where as many can be loaded
stored_where_held : (bs : List Range) (a : ℕ) (new : List ℕ) → is_none (store bs a new) ≡ is_none (find (holds a (length new)) bs)
stored_where_held [] a new = refl
stored_where_held (b ∷ bs) a new = by (stored_where_held bs a new) (holds a (length new) b) where
  by : is_none (store bs a new) ≡ is_none (find (holds a (length new)) bs) → (h : Bool) → is_none (if h then Some (put_at a new b ∷ bs) else option_map (λ cs. b ∷ cs) (store bs a new)) ≡ is_none (if h then Some b else find (holds a (length new)) bs)
  by rest true = refl
  by rest false = none_mapped (λ cs. b ∷ cs) (store bs a new) ∙ rest

-- what is found is there
found_where_any : {A : Type 0} (p : A → Bool) (xs : List A) → is_none (find p xs) ≡ not (list_any p xs)
found_where_any p [] = refl
found_where_any p (x ∷ xs) = by (found_where_any p xs) (p x) where
  by : is_none (find p xs) ≡ not (list_any p xs) → (h : Bool) → is_none (if h then Some x else find p xs) ≡ not (h || list_any p xs)
  by rest true = refl
  by rest false = rest

-- what an access would show, by whether a block holds its bytes
pub would_get : (bs : List Range) (a size : ℕ) → WouldGet (load bs a size) a size (would_result (list_any (holds a size) bs) a size false)
would_get bs a size = by (load bs a size) (list_any (holds a size) bs) (none_mapped _ _ ∙ none_mapped _ (find (holds a size) bs) ∙ found_where_any (holds a size) bs) where
  by : (o : Option ℕ) (h : Bool) → is_none o ≡ not h → WouldGet o a size (would_result h a size false)
  by None true e = absurd cc
  by None false e = refl
  by (Some n) true e = refl
  by (Some n) false e = absurd cc

pub would_put : (bs : List Range) (a size : ℕ) (new : List ℕ) → length new ≡ size → WouldPut (store bs a new) a size (would_result (list_any (holds a size) bs) a size true)
would_put bs a size new same = by (store bs a new) (list_any (holds a size) bs) (stored_where_held bs a new ∙ ap (λ n. is_none (find (holds a n) bs)) same ∙ found_where_any (holds a size) bs) where
  by : (o : Option (List Range)) (h : Bool) → is_none o ≡ not h → WouldPut o a size (would_result h a size true)
  by None true e = absurd cc
  by None false e = refl
  by (Some cs) true e = refl
  by (Some cs) false e = absurd cc

pub foreseen_fault : (x : Outcome) (s : State) (f : Fault) → Steps x s s None (Err f) → Foresees x (Err f)
foreseen_fault (Done t os) s f h = absurd cc
foreseen_fault (Faulted g) s f h = same h.0 where
  same : ◌≡◌ {A = Result (Unit {0}) Fault} (Err f) (Err g) → ◌≡◌ {A = Result (Option Obs) Fault} (Err f) (Err g)
  same e = ap part e where
    part : Result (Unit {0}) Fault → Result (Option Obs) Fault
    part (Ok x) = Err f
    part (Err g) = Err g
