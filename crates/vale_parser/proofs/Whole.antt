-- Whole sources.
use Rattle.std.specs.Bool.{◌==◌}
use Rattle.std.proofs.Common.{◌≡◌, false, length, List, [], ◌∷◌, ◌++◌, None, refl, sym, ◌∙◌, ap, subst, arith}
use Rattle.vale_syntax.specs.declared.spot.Spot.{Spot}
use Rattle.vale_syntax.specs.declared.token.Token.{Token}
use Rattle.vale_syntax.specs.Peek.{spot_of}
use Rattle.vale_syntax.specs.Programs.{De}
use Rattle.vale_syntax.specs.Declarations.{Declaration, AreDecls, no_decls, more_decls}
use Rattle.vale_parser.specs.inner.Productions.{declaration}
use Rattle.vale_parser.specs.Sources.{Front, no_more, one_more, StopsAt}
use Rattle.vale_parser.proofs.Sound.{pair_of}
use Rattle.vale_parser.proofs.FoundDeclarations.{declaration_found, declaration_shorter}

pub front_last : {ts mid rest : List Token} {xs : List De} {x : De} → Front ts xs mid → Declaration mid x rest → Front ts (xs ++ x ∷ []) rest
front_last no_more d = one_more d no_more
front_last (one_more e f) d = one_more e (front_last f d)

pub front_all : {ts : List Token} {xs : List De} (rest : List Token) → Front ts xs rest → rest ≡ [] → AreDecls ts xs
front_all rest no_more e = subst (λ l. AreDecls l []) (sym e) no_decls
front_all rest (one_more d f) e = more_decls d (front_all rest f e)

pub one : (ts : List Token) (x y : De) (r q : List Token) → Declaration ts x r → Declaration ts y q → (x ≡ y) × (r ≡ q)
one ts x y r q h k = pair_of (x, r) (y, q) (sym (declaration_found ts x r h) ∙ declaration_found ts y q k)

nothing : (x : De) (rest : List Token) → Declaration [] x rest → ⊥
nothing x rest d = let s = declaration_shorter [] x rest d in omega (arith, s)

pub all : (ts : List Token) (xs ys : List De) → AreDecls ts xs → AreDecls ts ys → xs ≡ ys
all ts xs ys no_decls no_decls = refl
all ts xs ys no_decls (more_decls {rest = r} {x = y} d f) = absurd (nothing y r d)
all ts xs ys (more_decls {rest = r} {x = x} d f) no_decls = absurd (nothing x r d)
all ts xs ys (more_decls {rest = r} {x = x} {xs = us} d f) (more_decls {rest = q} {x = y} {xs = vs} e g) =
    let p = one ts x y r q d e in
    ap (λ z. z ∷ us) p.0 ∙ ap (λ l. y ∷ l) (all q us vs (subst (λ l. AreDecls l us) p.1 f) g)

pub none_here : (ts : List Token) → declaration ts ≡ None → (x : De) (rest : List Token) → Declaration ts x rest → ⊥
none_here ts e x rest d = cc (sym e ∙ declaration_found ts x rest d)

pub not_empty : (ts : List Token) → (length ts == 0) ≡ false → ts ≡ [] → ⊥
not_empty [] e n = cc e
not_empty (x ∷ ts) e n = omega (arith, ap length n)

-- no front of the tokens is a declaration
abbrev Barren : List Token → Type 0
Barren ts = (x : De) (rest : List Token) → Declaration ts x rest → ⊥

same_rest : {ts r q : List Token} {xs ys : List De} → Front ts xs r → Front ts ys q → Barren r → Barren q → r ≡ q
same_rest no_more no_more h k = refl
same_rest no_more (one_more {mid = b} {x = y} e g) h k = absurd (h y b e)
same_rest (one_more {mid = a} {x = x} d f) no_more h k = absurd (k x a d)
same_rest (one_more {ts = ts} {mid = a} {rest = r} {x = x} {xs = us} d f) (one_more {mid = b} {x = y} e g) h k =
    let p = one ts x y a b d e in
    same_rest (subst (λ l. Front l us r) p.1 f) g h k

pub place : (ts : List Token) (s t : Spot) → StopsAt ts s → StopsAt ts t → s ≡ t
place ts s t h k = sym h.here ∙ ap spot_of (same_rest h.front k.front h.none k.none) ∙ k.here

none_left : {ts q : List Token} {xs ys : List De} → AreDecls ts xs → Front ts ys q → Barren q → q ≡ []
none_left no_decls no_more k = refl
none_left no_decls (one_more {mid = b} {x = y} e g) k = absurd (nothing y b e)
none_left (more_decls {rest = a} {x = x} d f) no_more k = absurd (k x a d)
none_left (more_decls {ts = ts} {rest = a} {x = x} {xs = us} d f) (one_more {mid = b} {x = y} e g) k =
    let p = one ts x y a b d e in
    none_left (subst (λ l. AreDecls l us) p.1 f) g k

pub either : (ts : List Token) (xs : List De) (s : Spot) → AreDecls ts xs → StopsAt ts s → ⊥
either ts xs s h k = k.some (none_left h k.front k.none)
