-- The names that are bound around a place.
use Rattle.std.proofs.Common.{◌≡◌, ℕ, List, [], ◌∷◌, sym, ap, ◌∙◌}
use Rattle.std.specs.Borrow.{Bor}
use Rattle.name_scopes.specs.Names.{Texts}
use Rattle.operand_types.specs.declared.bound.Bound.{Bound, Bound-F, fold-roll-Bound}
use Rattle.operand_types.specs.declared.bound.Bound.TheVariants as bound
use Rattle.operand_types.specs.inner.Walks.{texts, bound_layer}

pub texts_name : (name : Bor (List ℕ)) (outer : Bor Bound) → texts (bound.Name name outer) ≡ name.now ∷ texts outer.now
texts_name name outer = ap texts (sym (bound.rolls-Name name outer)) ∙ fold-roll-Bound Texts bound_layer (Bound-F.Name name outer)
