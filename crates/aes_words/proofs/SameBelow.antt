-- Two functions whose first n values are listed as the same list agree below n. With `refl` for the lists, they are computed.
use Rattle.std.proofs.Common.{◌≡◌, ℕ, ◌<◌, map, get_or, sym, ap, ◌∙◌, arith}
use Rattle.std.specs.List.{range_with_len}
use Rattle.std.proofs.lemmas.List.FromFn.{get_or-map-range_with_len}

pub same_below : {X : Type 0} (d : X) (f g : ℕ → X) (n : ℕ) → map f (range_with_len 0 n) ≡ map g (range_with_len 0 n) → (k : ℕ) → k < n → f k ≡ g k
same_below d f g n e k h =
    sym (get_or-map-range_with_len f 0 n k k d h (omega arith)) ∙ ap (λ xs. get_or xs k d) e ∙ get_or-map-range_with_len g 0 n k k d h (omega arith)
