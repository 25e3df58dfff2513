-- Lines that are put, one after another.
use Rattle.std.proofs.Common.{◌≡◌, ℕ, ◌+◌, ◌-◌, ◌≤◌, min, List, [], ◌++◌, length, take, drop, Option, Some, None, refl, sym, ap, ◌∙◌, subst, arith, append_assoc, length-append, length-take}
use Rattle.std.proofs.lemmas.List.{append-nil, take-append-drop}
use Rattle.std.proofs.Math.Seq.{take-append-add}
use Rattle.std.proofs.lemmas.List.{take-append-le}
use Rattle.vale_outside.specs.Outside.{Appends, AppendsFront}

pub appends_none : (told : Option (List ℕ)) → Appends told told []
appends_none None = refl
appends_none (Some told) = ap Some (sym (append-nil told))

pub appends_next : (old mid new : Option (List ℕ)) (x y : List ℕ) → Appends old mid x → Appends mid new y → Appends old new (x ++ y)
appends_next None mid new x y h k = rw h at k
appends_next (Some told) mid new x y h k = (rw h at k) ∙ ap Some (append_assoc told x y)

-- the bytes of a front: those of the lines before, and some of one line
front_bytes : (told now x y z : List ℕ) → now ≡ (told ++ x) ++ take (length now - length (told ++ x)) y → now ≡ told ++ take (length now - length told) (x ++ (y ++ z))
front_bytes told now x y z h =
    let k = length now - length (told ++ x) in
    let len : length now ≡ (length told + length x) + min k (length y) = ap length h ∙ length-append (told ++ x) (take k y) ∙ ap (λ n. n + length (take k y)) (length-append told x) ∙ ap (λ n. (length told + length x) + n) (length-take k y) in
    let lens : length (told ++ x) ≡ length told + length x = length-append told x in
    let few : k ≤ length y = omega arith in
    let total : length now - length told ≡ length x + k = omega arith in
    let taken : take (length now - length told) (x ++ (y ++ z)) ≡ x ++ take k y =
    ap (λ n. take n (x ++ (y ++ z))) total ∙ take-append-add x (y ++ z) k ∙ ap (λ l. x ++ l) (take-append-le k y z few) in
    h ∙ append_assoc told x (take k y) ∙ ap (λ l. told ++ l) (sym taken)

pub front_next : (old mid new : Option (List ℕ)) (x y z : List ℕ) → Appends old mid x → AppendsFront mid new y → AppendsFront old new (x ++ (y ++ z))
front_next None mid new x y z h k = rw h at k
front_next (Some told) mid None x y z h k = rw h at k
front_next (Some told) mid (Some now) x y z h k = let front = rw h at k in front_bytes told now x y z front

-- a front of the text is written, and this is the rest
pub record Written (old now : Option (List ℕ)) (text rest : List ℕ) : Type 0 where
  pub front : List ℕ
  pub whole : text ≡ front ++ rest
  pub appends : Appends old now front

pub written_none : (told : Option (List ℕ)) (text : List ℕ) → Written told told text text
written_none told text = record { front = []; whole = refl; appends = appends_none told }

-- another piece
pub written_next : (old mid new : Option (List ℕ)) (text rest line behind : List ℕ) → Written old mid text rest → rest ≡ line ++ behind → Appends mid new line → Written old new text behind
written_next old mid new text rest line behind w split a = record {
  front = w.front ++ line;
  whole = w.whole ∙ ap (λ r. w.front ++ r) split ∙ sym (append_assoc w.front line behind);
  appends = appends_next old mid new w.front line w.appends a;
}

-- and a front of a piece
pub written_front : (old mid new : Option (List ℕ)) (text rest line behind : List ℕ) → Written old mid text rest → rest ≡ line ++ behind → AppendsFront mid new line → AppendsFront old new text
written_front old mid new text rest line behind w split a =
    subst (AppendsFront old new) (sym (w.whole ∙ ap (λ r. w.front ++ r) split)) (front_next old mid new w.front line behind w.appends a)

pub written_whole : (old now : Option (List ℕ)) (text rest : List ℕ) → Written old now text rest → rest ≡ [] → Appends old now text
written_whole old now text rest w empty = subst (Appends old now) (sym (w.whole ∙ ap (λ r. w.front ++ r) empty ∙ append-nil w.front)) w.appends

pub taken_apart : (k : ℕ) (rest line behind : List ℕ) → line ≡ take k rest → behind ≡ drop k rest → rest ≡ line ++ behind
taken_apart k rest line behind e f = sym (take-append-drop k rest) ∙ ap (λ l. l ++ drop k rest) (sym e) ∙ ap (λ b. line ++ b) (sym f)
