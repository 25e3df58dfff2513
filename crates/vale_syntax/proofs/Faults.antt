-- Faults that are passed on.
use Rattle.std.proofs.Common.{◌≡◌, Option, None}
use Rattle.std.specs.Prelude.{Result, IsErrAnd}
use Rattle.std.proofs.lemmas.Result.{err_from_is_err_and}
use Rattle.vale_syntax.specs.declared.fault.MatchFault.{MatchFault}
use Rattle.vale_syntax.specs.declared.fault.MatchFault.TheVariants.{NoMatch, NoMemory}
use Rattle.vale_syntax.specs.inner.Matches.{Fails, Gives}

-- where a part isn't there, the whole isn't
pub passed_on : {X Y Z : Type 0} (view : X → Y) (r : Result X MatchFault) (e : MatchFault) (part : Option Z) (o : Option Y) → IsErrAnd r (λ f. f ≡ e) → Fails e part → (part ≡ None → o ≡ None) → Gives view r o
passed_on view r e part o h fails go = let (f, p, q) = err_from_is_err_and r h in rw (p, q) (by_fault e fails)
  where
    by_fault : (e : MatchFault) → Fails e part → Fails e o
    by_fault NoMatch h = go h
    by_fault NoMemory h = tt
