-- Which block a store changes: the first that holds all its bytes.
use Rattle.std.proofs.Common.{◌≡◌, ℕ, zero, suc, ◌+◌, ◌≤◌, ◌<◌, ◌^◌, Bool, true, false, cond, ◌||◌, List, [], ◌∷◌, length, take, get_or, set, take_all, Some, None, refl, sym, ap, ◌∙◌, subst, arith, option_map, lit<, ◌-◌, drop, length-take}
use native.Mathlib.Numerals.{unary_clauses}
use Rattle.std.specs.List.{list_any}
use Rattle.std.proofs.lemmas.Bool.{or_parts}
use Rattle.std.proofs.Math.Nat.{pow-le-pow_right}
use Rattle.x64_blocks.specs.Memory.{Range, holds, put_at, store}

neither : (s t : Bool) → s ≡ false → t ≡ false → (s || t) ≡ false
neither true t h k = absurd cc
neither false t h k = k

-- no block among the first k holds the access
abbrev pub NoneHolds : ℕ → List Range → ℕ → ℕ → Type 0
NoneHolds k bs a size = list_any (holds a size) (take k bs) ≡ false

none_more : (k : ℕ) (bs : List Range) (a size : ℕ) (d : Range) → k < length bs → NoneHolds k bs a size → holds a size (get_or bs k d) ≡ false → NoneHolds (suc k) bs a size
none_more k [] a size d h none e = refl
none_more zero (b ∷ bs) a size d h none e = neither (holds a size b) false e refl
none_more (suc k) (b ∷ bs) a size d h none e =
    let both = or_parts (holds a size b) (list_any (holds a size) (take k bs)) none in
    neither (holds a size b) (list_any (holds a size) (take (suc k) bs)) both.0 (none_more k bs a size d (omega arith) both.1 e)

pub none_next : (k : ℕ) (bs : List Range) (a size : ℕ) (b : Range) → k < length bs → NoneHolds k bs a size → b ≡ get_or bs k b → holds a size b ≡ false → NoneHolds (k + 1) bs a size
none_next k bs a size b h none e f = simp unary_clauses (none_more k bs a size b h none (subst (λ x. holds a size x ≡ false) e f))

store_at : (k : ℕ) (bs : List Range) (a : ℕ) (new : List ℕ) (d : Range) → k < length bs → NoneHolds k bs a (length new) → holds a (length new) (get_or bs k d) ≡ true → store bs a new ≡ Some (set bs k (put_at a new (get_or bs k d)))
store_at k [] a new d h none e = absurd (over h)
  where
    over : k < 0 → ⊥
    over h = omega arith
store_at zero (b ∷ bs) a new d h none e = ap (λ t. cond t (Some (put_at a new b ∷ bs)) (option_map (λ cs. b ∷ cs) (store bs a new))) e
store_at (suc k) (b ∷ bs) a new d h none e =
    let both = or_parts (holds a (length new) b) (list_any (holds a (length new)) (take k bs)) none in
    ap (λ t. cond t (Some (put_at a new b ∷ bs)) (option_map (λ cs. b ∷ cs) (store bs a new))) both.0
    ∙ ap (option_map (λ cs. b ∷ cs)) (store_at k bs a new d (omega arith) both.1 e)

-- what stands at an index that is there needs no default
pub same_at : (k : ℕ) (bs : List Range) (d e : Range) → k < length bs → get_or bs k d ≡ get_or bs k e
same_at k [] d e h = absurd (over h)
  where
    over : k < 0 → ⊥
    over h = omega arith
same_at zero (b ∷ bs) d e h = refl
same_at (suc k) (b ∷ bs) d e h = same_at k bs d e (omega arith)

pub store_here : (k : ℕ) (bs : List Range) (a : ℕ) (new : List ℕ) (b c : Range) → k < length bs → NoneHolds k bs a (length new) → b ≡ get_or bs k b → c ≡ get_or bs k c → holds a (length new) b ≡ true → store bs a new ≡ Some (set bs k (put_at a new c))
store_here k bs a new b c h none e f t =
    let here = subst (λ x. holds a (length new) x ≡ true) (e ∙ same_at k bs b c h) t in
    store_at k bs a new c h none here ∙ ap (λ x. Some (set bs k (put_at a new x))) (sym f)

store_none : (bs : List Range) (a : ℕ) (new : List ℕ) → list_any (holds a (length new)) bs ≡ false → store bs a new ≡ None
store_none [] a new h = refl
store_none (b ∷ bs) a new h =
    let both = or_parts (holds a (length new) b) (list_any (holds a (length new)) bs) h in
    ap (λ t. cond t (Some (put_at a new b ∷ bs)) (option_map (λ cs. b ∷ cs) (store bs a new))) both.0
    ∙ ap (option_map (λ cs. b ∷ cs)) (store_none bs a new both.1)

pub store_outside : (k : ℕ) (bs : List Range) (a : ℕ) (new : List ℕ) → length bs ≤ k → NoneHolds k bs a (length new) → store bs a new ≡ None
store_outside k bs a new h none = store_none bs a new (sym (ap (list_any (holds a (length new))) (take_all k bs h)) ∙ none)

-- numbers of fewer than 16 bytes leave room for one more
pub room : (n x : ℕ) → suc n ≤ 16 → x < 256 ^ n → x < 256 ^ 15
room n x h k = let few : n ≤ 15 = omega arith in let most = pow-le-pow_right {n = 256} (lit< tt) few in omega (arith, most, k)

pub rest_short : (bytes : List ℕ) → length bytes ≤ 16 → 1 ≤ length bytes → suc (length (take (length bytes - 1) (drop 1 bytes))) ≤ 16
rest_short bytes h k =
    let taken = length-take (length bytes - 1) (drop 1 bytes) in
    omega (arith, taken)
