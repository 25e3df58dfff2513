-- What is read is what the tokens spell, and they spell nothing else.
use Rattle.std.proofs.Common.{◌≡◌, ℕ, ◌≤◌, max, List, [], ◌∷◌, Some, refl, sym, ◌∙◌, ap, subst, arith}
use Rattle.std.proofs.lemmas.Option.{same_Some}
use Rattle.vale_syntax.specs.declared.token.Token.{Token}
use Rattle.vale_syntax.specs.Operators.{any}
use Rattle.vale_syntax.specs.Peek.{peek}
use Rattle.vale_syntax.specs.Trees.{Ex}
use Rattle.vale_syntax.specs.Expressions.{Spells, depth_limit, IsExpr}
use Rattle.vale_syntax.specs.Options.{◌>>=◌}
use Rattle.vale_syntax.specs.inner.Parse.{Got, got, parse, whole_by, whole_parse}
use Rattle.vale_syntax.proofs.Complete.{loose, found}
use Rattle.vale_syntax.proofs.Sound.{bind_some, sound}

end_found : {d : ℕ} {ts : List Token} {x : Ex} → Spells any d ts x [] → (b : ℕ) → d ≤ b → parse b any ts ≡ Some (got x d [])
unfolding loose peek
end_found h b k = found h b k (omega arith)

whole_is : (x y : Ex) (ts : List Token) → whole_by x ts ≡ Some y → (ts ≡ []) × (x ≡ y)
whole_is x y [] h = (refl, same_Some x y h)
whole_is x y (t ∷ ts) h = absurd cc

pub read_is : (ts : List Token) (x : Ex) → whole_parse ts ≡ Some x → IsExpr ts x
unfolding whole_parse
read_is ts x h =
    let (g, p, q) = bind_some (parse depth_limit any ts) (λ g. whole_by g.tree g.rest) x h in
    let s = sound depth_limit any ts g p in
    let w = whole_is g.tree x g.rest q in
    record { depth = g.height; shallow = s.0; spelled = subst (λ y. Spells any g.height ts y []) w.1 (subst (λ r. Spells any g.height ts g.tree r) w.0 s.1) }

pub is_read : (ts : List Token) (x : Ex) → IsExpr ts x → whole_parse ts ≡ Some x
unfolding whole_parse
is_read ts x h = ap (λ o. o >>= λ g. whole_by g.tree g.rest) (end_found h.spelled depth_limit h.shallow)

pub one_tree : (d e : ℕ) (ts : List Token) (x y : Ex) → Spells any d ts x [] → Spells any e ts y [] → (x ≡ y) × (d ≡ e)
one_tree d e ts x y h k =
    let p = end_found h (max d e) (omega arith) in
    let q = end_found k (max d e) (omega arith) in
    let r = same_Some (got x d []) (got y e []) (sym p ∙ q) in
    (ap (λ (g : Got). g.tree) r, ap (λ (g : Got). g.height) r)
