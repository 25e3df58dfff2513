-- Names that are borrowed, as texts.
use Rattle.std.proofs.Common.{◌≡◌, ℕ, zero, suc, false, List, [], ◌∷◌, ◌++◌, map, take, refl, ap}
use Rattle.std.specs.Prelude.{◌||◌}
use Rattle.std.specs.List.{list_any}
use Rattle.std.specs.Str.{bytes_eq}
use Rattle.std.specs.Borrow.{Bor}
use Rattle.indexmap.specs.IndexSet.{insert_key}
use Rattle.name_scopes.specs.Names.{has}

abbrev pub now : List (Bor (List ℕ)) → List (List ℕ)
now keys = map (λ key. key.now) keys

pub any_name : (name : List ℕ) (keys : List (Bor (List ℕ))) → list_any (λ key. bytes_eq name key.now) keys ≡ has (now keys) name
any_name name [] = refl
any_name name (key ∷ keys) = ap (λ b. bytes_eq name key.now || b) (any_name name keys)

pub now_append : (xs ys : List (Bor (List ℕ))) → now (xs ++ ys) ≡ now xs ++ now ys
now_append [] ys = refl
now_append (x ∷ xs) ys = ap (λ l. x.now ∷ l) (now_append xs ys)

-- a new name goes last
pub inserted : (name : Bor (List ℕ)) (keys : List (Bor (List ℕ))) → has (now keys) name.now ≡ false → now (insert_key (λ k key. bytes_eq k.now key.now) keys name) ≡ now keys ++ name.now ∷ []
inserted name keys h = rw (any_name name.now keys, h) (now_append keys (name ∷ []))

pub now_take : (n : ℕ) (keys : List (Bor (List ℕ))) → now (take n keys) ≡ take n (now keys)
now_take zero keys = refl
now_take (suc n) [] = refl
now_take (suc n) (key ∷ keys) = ap (λ l. key.now ∷ l) (now_take n keys)
