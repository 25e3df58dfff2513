-- What the texts of settings are cut into.
use Rattle.std.proofs.Common.{◌≡◌, ℕ, zero, suc, ◌^◌, ◌<◌, true, false, List, [], ◌∷◌, ◌++◌, length, decimal, Option, Some, None, refl, sym, ap, ◌∙◌, arith}
use Rattle.std.specs.Prelude.{nat_lt, codes, bytes_eq, Result, Ok, Err, slice_index}
use Rattle.std.specs.List.{list_all}
use Rattle.std.proofs.lemmas.Bool.{and_parts, and_from, ltb-true, lt-ltb, false≢true}
use Rattle.std.proofs.lemmas.Slice.Eq.{bytes_eq-Decides}
use Rattle.std.proofs.lemmas.Option.{same_Some}
use Rattle.hex.specs.Hex.{IsBytes, encode_lower, lower_digits, decode_of}
use Rattle.hex.specs.declared.error.FromHexError.{FromHexError}
use Rattle.hex.proofs.HexLemmas.{length-encode_with, decode_of-encode_lower}
use Rattle.x64_syntax.specs.declared.places.MachinePlace.{MachinePlace}
use Rattle.x64_syntax.specs.declared.places.MachinePlace.TheVariants.{Reg, Xmm, Flag}
use Rattle.x64_syntax.specs.Places.{place_name}
use Rattle.x64_blocks.specs.Memory.{Range}
use Rattle.x64_evaluator.specs.StateFile.{value_text, bytes_text, limit, are_bytes}
use Rattle.x64_evaluator.specs.inner.Setting.{Blankless}
use Rattle.x64_evaluator.proofs.PlaceNames.{name_graphic}
use Rattle.x64_evaluator.proofs.Texts.{blankless, cut_same, number_blankless}

pub small : (p : MachinePlace) (n : ℕ) → n < limit p → n < 2 ^ 128
small (Reg r) n lt = omega (arith, lt)
small (Xmm x) n lt = lt
small (Flag f) n lt = omega (arith, lt)

pub same_bytes : (xs ys : List ℕ) → true ≡ bytes_eq xs ys → xs ≡ ys
same_bytes xs ys e = (bytes_eq-Decides xs ys).0 (sym e)

pub other_bytes : (xs ys : List ℕ) → false ≡ bytes_eq xs ys → xs ≡ ys → ⊥
other_bytes xs ys e same = false≢true (e ∙ (bytes_eq-Decides xs ys).1 same)

pub none_is : {X : Type 0} (x : X) → ◌≡◌ {A = Option X} None (Some x) → ⊥
none_is x e = cc

pub pair_first : {X Y : Type 0} {a b : X} {x y : Y} → ◌≡◌ {A = Option (X × Y)} (Some (a, x)) (Some (b, y)) → (a ≡ b) × (x ≡ y)
pair_first e = let p = same_Some _ _ e in (ap (λ q. q.0) p, ap (λ q. q.1) p)

-- the two words of a value
pub value_cut : (p : MachinePlace) (n : ℕ) (word rest : List ℕ) → Blankless word → value_text p n ≡ word ++ (codes " " ++ rest) → (word ≡ place_name p) × (rest ≡ decimal n)
value_cut p n word rest h e = cut_same word rest (place_name p) (decimal n) h (blankless (place_name p) (name_graphic p)) (sym e)

pub some_items : (bytes : List ℕ) → bytes_text bytes ≡ codes "-" → bytes ≡ []
some_items [] h = refl
some_items (b ∷ bs) h =
    let two = length-encode_with lower_digits (b ∷ bs) in
    let one : length (encode_lower (b ∷ bs)) ≡ 1 = ap length h in
    absurd (omega (arith, two, one))

pub same_ok : {xs ys : List ℕ} → ◌≡◌ {A = Result (List ℕ) FromHexError} (Ok xs) (Ok ys) → xs ≡ ys
same_ok {xs = xs} e = ap part e where
  part : Result (List ℕ) FromHexError → List ℕ
  part (Ok x) = x
  part (Err f) = xs

dash_is : (digits : List ℕ) → codes "-" ≡ digits → bytes_eq digits (codes "-") ≡ false → ⊥
dash_is digits is other = true_false (ap (λ d. bytes_eq d (codes "-")) is ∙ other) where
  true_false : true ≡ false → ⊥
  true_false e = cc

-- what is no dash is decoded
pub decoded : (bytes digits found : List ℕ) → IsBytes bytes → bytes_text bytes ≡ digits → bytes_eq digits (codes "-") ≡ false → decode_of digits ≡ Ok found → found ≡ bytes
decoded [] digits found are is other h = absurd (dash_is digits is other)
decoded (b ∷ bs) digits found are is other h = same_ok (sym h ∙ ap decode_of (sym is) ∙ decode_of-encode_lower (b ∷ bs) are)

pub not_refused : (bytes digits : List ℕ) (e : FromHexError) → IsBytes bytes → bytes_text bytes ≡ digits → bytes_eq digits (codes "-") ≡ false → decode_of digits ≡ Err e → ⊥
not_refused [] digits f are is other h = dash_is digits is other
not_refused (b ∷ bs) digits f are is other h = no_ok (sym (decode_of-encode_lower (b ∷ bs) are) ∙ ap decode_of is ∙ h)
  where
    no_ok : ◌≡◌ {A = Result (List ℕ) FromHexError} (Ok (b ∷ bs)) (Err f) → ⊥
    no_ok e = cc

all_bytes : (bs : List ℕ) → list_all (λ x. nat_lt x 256) bs ≡ true → IsBytes bs
all_bytes [] h i = omega arith
all_bytes (b ∷ bs) h zero = ltb-true b 256 (and_parts (nat_lt b 256) _ h).0
all_bytes (b ∷ bs) h (suc i) = all_bytes bs (and_parts (nat_lt b 256) _ h).1 i

pub range_bytes : (b : Range) → are_bytes b ≡ true → IsBytes b.bytes
range_bytes b h = all_bytes b.bytes (and_parts (nat_lt b.base (2 ^ 64)) _ h).1

pub range_base : (b : Range) → are_bytes b ≡ true → b.base < 2 ^ 64
range_base b h = ltb-true b.base (2 ^ 64) (and_parts (nat_lt b.base (2 ^ 64)) _ h).0

pub base_blankless : (b : Range) → are_bytes b ≡ true → Blankless (decimal b.base)
base_blankless b h = number_blankless b.base (let lt = range_base b h in omega (arith, lt))

pub bytes_fit : (bs : List ℕ) → ((i : ℕ) → slice_index bs i < 256) → list_all (λ x. nat_lt x 256) bs ≡ true
bytes_fit [] h = refl
bytes_fit (b ∷ bs) h = and_from _ _ (lt-ltb b 256 (h 0)) (bytes_fit bs (λ i. h (suc i)))
