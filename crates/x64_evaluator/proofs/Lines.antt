-- What a line of two words can set.
use Rattle.std.proofs.Common.{◌≡◌, ℕ, ◌^◌, ◌<◌, Bool, true, false, List, [], ◌∷◌, ◌++◌, refl, sym, ap, ◌∙◌, arith, decimal, codes}
use Rattle.std.specs.Prelude.{Result, Ok, Err, IfOk}
use Rattle.std.specs.Str.{IsAscii, IsUtf8}
use Rattle.std.proofs.lemmas.Bool.{and_parts, ltb-true}
use Rattle.std.proofs.lemmas.Str.{IsUtf8-from_ascii, IsAscii-append}
use Rattle.std.proofs.lemmas.Str.Ascii.{IsAscii-cons}
use Rattle.hex.specs.Hex.{lower_digits}
use Rattle.hex.proofs.HexLemmas.{IsAscii-encode_with}
use Rattle.x64_syntax.specs.declared.places.MachinePlace.{MachinePlace}
use Rattle.x64_syntax.specs.Places.{place_name}
use Rattle.x64_blocks.specs.Memory.{Range}
use Rattle.x64_evaluator.specs.declared.state.StateReader.{StateReader}
use Rattle.x64_evaluator.specs.StateFile.{Setting, Value, Block, setting_text, value_text, range_text, bytes_text, limit, are_bytes, fits, may_follow}
use Rattle.x64_evaluator.specs.inner.Setting.{Blankless, Takes}
use Rattle.x64_evaluator.proofs.PlaceNames.{name_graphic, no_block}
use Rattle.x64_evaluator.proofs.Texts.{blankless, ascii, cut_same, decimal_graphic, few_digits}
use Rattle.x64_evaluator.proofs.Taken.{small, range_base}

number_ascii : (n : ℕ) → n < 2 ^ 128 → IsAscii (decimal n)
number_ascii n lt = ascii (decimal n) (decimal_graphic n (few_digits n lt))

bytes_ascii : (bs : List ℕ) → IsAscii (bytes_text bs)
bytes_ascii [] = ascii (codes "-") refl
bytes_ascii (b ∷ bs) = IsAscii-encode_with lower_digits (b ∷ bs) (ascii lower_digits refl)

behind_blank : (xs ys : List ℕ) → IsAscii xs → IsAscii ys → IsAscii (xs ++ 32 ∷ ys)
behind_blank xs ys a b = IsAscii-append xs (32 ∷ ys) a (IsAscii-cons 32 ys (omega arith) b)

pub value_fits : (p : MachinePlace) (n : ℕ) → fits (Value p n) ≡ true → n < limit p
value_fits p n h = ltb-true n (limit p) h

pub range_fits : (b : Range) → fits (Block b) ≡ true → are_bytes b ≡ true
range_fits b h = (and_parts (are_bytes b) _ h).0

text_ascii : (s : Setting) → fits s ≡ true → IsAscii (setting_text s)
text_ascii (Value p n) h = behind_blank (place_name p) (decimal n) (ascii (place_name p) (name_graphic p)) (number_ascii n (small p n (value_fits p n h)))
text_ascii (Block b) h =
    behind_blank (codes "block") (range_text b) (ascii (codes "block") refl)
    (behind_blank (decimal b.base) (bytes_text b.bytes) (number_ascii b.base (let lt = range_base b (range_fits b h) in omega (arith, lt))) (bytes_ascii b.bytes))

pub text_utf8 : (ss : List Setting) (s : Setting) → may_follow ss s ≡ true → IsUtf8 (setting_text s)
text_utf8 ss s h = IsUtf8-from_ascii (setting_text s) (text_ascii s (and_parts (fits s) _ h).0)

-- the word in front of the first blank
abbrev pub word_in : Setting → List ℕ
word_in (Value p n) = place_name p
word_in (Block b) = codes "block"

abbrev pub rest_in : Setting → List ℕ
rest_in (Value p n) = decimal n
rest_in (Block b) = range_text b

pub word_blankless : (s : Setting) → Blankless (word_in s)
word_blankless (Value p n) = blankless (place_name p) (name_graphic p)
word_blankless (Block b) = blankless (codes "block") refl

pub has_blank : (s : Setting) → setting_text s ≡ word_in s ++ 32 ∷ rest_in s
has_blank (Value p n) = refl
has_blank (Block b) = refl

module _ (ss : List Setting) (line word rest : List ℕ) (cut : line ≡ word ++ 32 ∷ rest) (none : Blankless word) where
  parts : (s : Setting) → setting_text s ≡ line → (word ≡ word_in s) × (rest ≡ rest_in s)
  parts s h = cut_same word rest (word_in s) (rest_in s) none (word_blankless s) (sym cut ∙ sym h ∙ has_blank s)

  -- a line of a block sets only that block
  pub sets_block : (new : StateReader) (b : Range) (yes : Bool) → word ≡ codes "block" → range_text b ≡ rest → ((c : Range) → are_bytes c ≡ true → range_text c ≡ rest → b ≡ c) → Takes ss (λ s. s ≡ Block b) yes new → Takes ss (λ s. setting_text s ≡ line) yes new
  sets_block new b true is text only takes =
      (takes.0, ap setting_text takes.1 ∙ ap (λ t. codes "block" ++ 32 ∷ t) text ∙ ap (λ w. w ++ 32 ∷ rest) (sym is) ∙ sym cut, takes.2, takes.3)
  sets_block new b false is text only takes = no_other
    where
      no_other : (s : Setting) → setting_text s ≡ line → may_follow ss s ≡ true → ⊥
      no_other (Value p n) h k = no_block p (sym is ∙ (parts (Value p n) h).0)
      no_other (Block c) h k =
          let same = only c (range_fits c (and_parts (fits (Block c)) _ k).0) (sym (parts (Block c) h).1) in
          takes (Block c) (ap Block (sym same)) k

  pub adds_block : {E : Type 0} (r : Result Bool E) (new : StateReader) (b : Range) → word ≡ codes "block" → range_text b ≡ rest → ((c : Range) → are_bytes c ≡ true → range_text c ≡ rest → b ≡ c) → IfOk r (λ yes. Takes ss (λ s. s ≡ Block b) yes new) → IfOk r (λ yes. Takes ss (λ s. setting_text s ≡ line) yes new)
  adds_block (Ok t) new b is text only takes = sets_block new b t is text only takes
  adds_block (Err e) new b is text only takes = tt

  pub sets_no_block : (new : StateReader) → word ≡ codes "block" → ((c : Range) → are_bytes c ≡ true → range_text c ≡ rest → ⊥) → Takes ss (λ s. setting_text s ≡ line) false new
  sets_no_block new is only (Value p n) h k = no_block p (sym is ∙ (parts (Value p n) h).0)
  sets_no_block new is only (Block c) h k = only c (range_fits c (and_parts (fits (Block c)) _ k).0) (sym (parts (Block c) h).1)

  -- a line of a value sets only that value
  pub sets_value : (new : StateReader) (p : MachinePlace) (n : ℕ) (yes : Bool) → (word ≡ codes "block" → ⊥) → value_text p n ≡ line → ((q : MachinePlace) (m : ℕ) → m < limit q → value_text q m ≡ line → (p ≡ q) × (n ≡ m)) → Takes ss (λ s. s ≡ Value p n) yes new → Takes ss (λ s. setting_text s ≡ line) yes new
  sets_value new p n true other text only takes = (takes.0, ap setting_text takes.1 ∙ text, takes.2, takes.3)
  sets_value new p n false other text only takes = no_other
    where
      no_other : (s : Setting) → setting_text s ≡ line → may_follow ss s ≡ true → ⊥
      no_other (Value q m) h k =
          let same = only q m (value_fits q m (and_parts (fits (Value q m)) _ k).0) h in
          takes (Value q m) (ap (λ r. Value r m) (sym same.0) ∙ ap (Value p) (sym same.1)) k
      no_other (Block c) h k = other (parts (Block c) h).0

  pub sets_no_value : (new : StateReader) → (word ≡ codes "block" → ⊥) → ((q : MachinePlace) (m : ℕ) → m < limit q → value_text q m ≡ line → ⊥) → Takes ss (λ s. setting_text s ≡ line) false new
  sets_no_value new other only (Value q m) h k = only q m (value_fits q m (and_parts (fits (Value q m)) _ k).0) h
  sets_no_value new other only (Block c) h k = other (parts (Block c) h).0
