-- Terms are compared as the same exactly where they are the same.
use Rattle.std.proofs.Common.{◌≡◌, ℤ, Bool, true, false, List, [], ◌∷◌, length, map, suc, refl, sym, ap, ◌∙◌, ◌&&◌}
use Rattle.std.specs.Ordering.{int_eq}
use Rattle.std.specs.Prelude.{slice_index_or, ◌==◌}
use Rattle.std.specs.Cmp.{signed_Decides}
use Rattle.std.specs.Str.{bytes_eq}
use Rattle.std.proofs.lemmas.Bool.{and_parts, and_from, false≢true, eqb-true, eq-eqb}
use Rattle.std.proofs.lemmas.Slice.Eq.{bytes_eq-Decides}
use Rattle.term_core.specs.declared.term.Term.{Term}
use Rattle.x64_syntax.specs.declared.type_words.Sort.{Sort}
use Rattle.x64_syntax.specs.declared.type_words.Sort.TheVariants as sort
use Rattle.term_core.specs.declared.operator.UnOp.{UnOp}
use Rattle.term_core.specs.declared.operator.UnOp.TheVariants as un
use Rattle.term_core.specs.declared.operator.BinOp.{BinOp}
use Rattle.term_core.specs.declared.operator.BinOp.TheVariants as bin
use Rattle.term_core.specs.declared.operator.CountedOp.{CountedOp}
use Rattle.term_core.specs.declared.operator.CountedOp.TheVariants as counted
use Rattle.term_core.specs.Operators.{sort_eq}
use Rattle.term_core.specs.Terms.{Tm, Tms, Name, Int, W64, W128, TruthTerm, Un, Bin, Ite, Put, PutDword, Clmul, Shift, Call, All, no_tms, more_tms, tree, tms, un_eq, bin_eq, counted_eq, un_number, bin_number, counted_number, truth_eq, tm_eq, tms_eq}

pub lengths_differ : (as_ bs : List Term) → (length as_ ≡ length bs → ⊥) → false ≡ tms_eq (tms (map tree as_)) (tms (map tree bs))
lengths_differ [] [] differ = absurd (differ refl)
lengths_differ [] (b ∷ bs) differ = refl
lengths_differ (a ∷ as_) [] differ = refl
lengths_differ (a ∷ as_) (b ∷ bs) differ = either (tm_eq (tree a) (tree b)) (lengths_differ as_ bs (λ e. differ (ap suc e)))
  where
    either : (c : Bool) {d : Bool} → false ≡ d → false ≡ (c && d)
    either true h = h
    either false h = refl

pub sort_eq_is : (s t : Sort) → sort_eq s t ≡ true → s ≡ t
sort_eq_is sort.Int sort.Int h = refl
sort_eq_is sort.Bool sort.Bool h = refl
sort_eq_is sort.W64 sort.W64 h = refl
sort_eq_is sort.W128 sort.W128 h = refl
sort_eq_is sort.Arr sort.Arr h = refl
sort_eq_is _ _ h = absurd (false≢true h)

sort_eq_same : (s : Sort) → sort_eq s s ≡ true
sort_eq_same sort.Int = refl
sort_eq_same sort.Bool = refl
sort_eq_same sort.W64 = refl
sort_eq_same sort.W128 = refl
sort_eq_same sort.Arr = refl

-- the operator of a number
all_un : List UnOp
all_un = un.Neg ∷ un.Int ∷ un.Word ∷ un.LogicNot ∷ un.Not ∷ un.Hi ∷ un.Lo ∷ un.Len ∷ []

un_back : (o : UnOp) → slice_index_or all_un (un_number o) un.Neg ≡ o
unfolding all_un
un_back un.Neg = refl
un_back un.Int = refl
un_back un.Word = refl
un_back un.LogicNot = refl
un_back un.Not = refl
un_back un.Hi = refl
un_back un.Lo = refl
un_back un.Len = refl

all_bin : List BinOp
all_bin = bin.Add ∷ bin.Sub ∷ bin.Mul ∷ bin.Div ∷ bin.Mod ∷ bin.Eq ∷ bin.Lt ∷ bin.Le ∷ bin.LogicAnd ∷ bin.LogicOr ∷ bin.Implies ∷ bin.And ∷ bin.Or ∷ bin.Xor ∷ bin.Mulhi ∷ bin.Pair ∷ bin.Paddd ∷ bin.Pshufb ∷ bin.Aesenc ∷ bin.Aesenclast ∷ bin.Index ∷ bin.ByteAt ∷ bin.DwordAt ∷ []

bin_back : (o : BinOp) → slice_index_or all_bin (bin_number o) bin.Add ≡ o
unfolding all_bin
bin_back bin.Add = refl
bin_back bin.Sub = refl
bin_back bin.Mul = refl
bin_back bin.Div = refl
bin_back bin.Mod = refl
bin_back bin.Eq = refl
bin_back bin.Lt = refl
bin_back bin.Le = refl
bin_back bin.LogicAnd = refl
bin_back bin.LogicOr = refl
bin_back bin.Implies = refl
bin_back bin.And = refl
bin_back bin.Or = refl
bin_back bin.Xor = refl
bin_back bin.Mulhi = refl
bin_back bin.Pair = refl
bin_back bin.Paddd = refl
bin_back bin.Pshufb = refl
bin_back bin.Aesenc = refl
bin_back bin.Aesenclast = refl
bin_back bin.Index = refl
bin_back bin.ByteAt = refl
bin_back bin.DwordAt = refl

all_counted : List CountedOp
all_counted = counted.Shl ∷ counted.Shr ∷ counted.Rol ∷ counted.Ror ∷ counted.Pshufd ∷ counted.Pslld ∷ counted.Psrld ∷ counted.Pslldq ∷ counted.Psrldq ∷ []

counted_back : (o : CountedOp) → slice_index_or all_counted (counted_number o) counted.Shl ≡ o
unfolding all_counted
counted_back counted.Shl = refl
counted_back counted.Shr = refl
counted_back counted.Rol = refl
counted_back counted.Ror = refl
counted_back counted.Pshufd = refl
counted_back counted.Pslld = refl
counted_back counted.Psrld = refl
counted_back counted.Pslldq = refl
counted_back counted.Psrldq = refl

un_eq_is : (o p : UnOp) → un_eq o p ≡ true → o ≡ p
unfolding un_eq
un_eq_is o p h = sym (un_back o) ∙ ap (λ n. slice_index_or all_un n un.Neg) (eqb-true _ _ h) ∙ un_back p

un_eq_same : (o : UnOp) → un_eq o o ≡ true
unfolding un_eq
un_eq_same o = eq-eqb (un_number o) (un_number o) refl

bin_eq_is : (o p : BinOp) → bin_eq o p ≡ true → o ≡ p
unfolding bin_eq
bin_eq_is o p h = sym (bin_back o) ∙ ap (λ n. slice_index_or all_bin n bin.Add) (eqb-true _ _ h) ∙ bin_back p

bin_eq_same : (o : BinOp) → bin_eq o o ≡ true
unfolding bin_eq
bin_eq_same o = eq-eqb (bin_number o) (bin_number o) refl

counted_eq_is : (o p : CountedOp) → counted_eq o p ≡ true → o ≡ p
unfolding counted_eq
counted_eq_is o p h = sym (counted_back o) ∙ ap (λ n. slice_index_or all_counted n counted.Shl) (eqb-true _ _ h) ∙ counted_back p

counted_eq_same : (o : CountedOp) → counted_eq o o ≡ true
unfolding counted_eq
counted_eq_same o = eq-eqb (counted_number o) (counted_number o) refl

truth_eq_is : (a b : Bool) → truth_eq a b ≡ true → a ≡ b
truth_eq_is true true h = refl
truth_eq_is false false h = refl
truth_eq_is true false h = absurd (false≢true h)
truth_eq_is false true h = absurd (false≢true h)

truth_eq_same : (a : Bool) → truth_eq a a ≡ true
truth_eq_same true = refl
truth_eq_same false = refl

pub int_eq_same : (z : ℤ) → int_eq z z ≡ true
int_eq_same z = (signed_Decides z z).1 refl

mutual
  -- terms that are compared as the same are the same
  pub tm_eq_is : (t u : Tm) → tm_eq t u ≡ true → t ≡ u
  tm_eq_is (Name a s) (Name b t) h =
      let p = and_parts (bytes_eq a b) _ h in
      ap (λ x. Name x s) ((bytes_eq-Decides a b).0 p.0) ∙ ap (Name b) (sort_eq_is s t p.1)
  tm_eq_is (Int a) (Int b) h = ap Int ((signed_Decides a b).0 h)
  tm_eq_is (W64 a) (W64 b) h = ap W64 (eqb-true a b h)
  tm_eq_is (W128 a) (W128 b) h = ap W128 (eqb-true a b h)
  tm_eq_is (TruthTerm a) (TruthTerm b) h = ap TruthTerm (truth_eq_is a b h)
  tm_eq_is (Un o a) (Un p b) h =
      let q = and_parts (un_eq o p) _ h in
      ap (λ x. Un x a) (un_eq_is o p q.0) ∙ ap (Un p) (tm_eq_is a b q.1)
  tm_eq_is (Bin o a b) (Bin p c d) h =
      let q = and_parts (bin_eq o p) _ h in
      let r = and_parts (tm_eq a c) _ q.1 in
      ap (λ x. Bin x a b) (bin_eq_is o p q.0) ∙ ap (λ x. Bin p x b) (tm_eq_is a c r.0) ∙ ap (Bin p c) (tm_eq_is b d r.1)
  tm_eq_is (Ite a b c) (Ite d e f) h =
      let q = and_parts (tm_eq a d) _ h in
      let r = and_parts (tm_eq b e) _ q.1 in
      ap (λ x. Ite x b c) (tm_eq_is a d q.0) ∙ ap (λ x. Ite d x c) (tm_eq_is b e r.0) ∙ ap (Ite d e) (tm_eq_is c f r.1)
  tm_eq_is (Put a b c) (Put d e f) h =
      let q = and_parts (tm_eq a d) _ h in
      let r = and_parts (tm_eq b e) _ q.1 in
      ap (λ x. Put x b c) (tm_eq_is a d q.0) ∙ ap (λ x. Put d x c) (tm_eq_is b e r.0) ∙ ap (Put d e) (tm_eq_is c f r.1)
  tm_eq_is (PutDword a b c) (PutDword d e f) h =
      let q = and_parts (tm_eq a d) _ h in
      let r = and_parts (tm_eq b e) _ q.1 in
      ap (λ x. PutDword x b c) (tm_eq_is a d q.0) ∙ ap (λ x. PutDword d x c) (tm_eq_is b e r.0) ∙ ap (PutDword d e) (tm_eq_is c f r.1)
  tm_eq_is (Clmul a b m) (Clmul c d n) h =
      let q = and_parts (m == n) _ h in
      let r = and_parts (tm_eq a c) _ q.1 in
      ap (Clmul a b) (eqb-true m n q.0) ∙ ap (λ x. Clmul x b n) (tm_eq_is a c r.0) ∙ ap (λ x. Clmul c x n) (tm_eq_is b d r.1)
  tm_eq_is (Shift o m a) (Shift p n b) h =
      let q = and_parts (counted_eq o p) _ h in
      let r = and_parts (m == n) _ q.1 in
      ap (λ x. Shift x m a) (counted_eq_is o p q.0) ∙ ap (λ x. Shift p x a) (eqb-true m n r.0) ∙ ap (Shift p n) (tm_eq_is a b r.1)
  tm_eq_is (Call f s a) (Call g t b) h =
      let q = and_parts (f == g) _ h in
      let r = and_parts (sort_eq s t) _ q.1 in
      ap (λ x. Call x s a) (eqb-true f g q.0) ∙ ap (λ x. Call g x a) (sort_eq_is s t r.0) ∙ ap (Call g t) (tms_eq_is a b r.1)
  tm_eq_is (All m a b c) (All n d e f) h =
      let q = and_parts (bytes_eq m n) _ h in
      let r = and_parts (tm_eq a d) _ q.1 in
      let s = and_parts (tm_eq b e) _ r.1 in
      ap (λ x. All x a b c) ((bytes_eq-Decides m n).0 q.0) ∙ ap (λ x. All n x b c) (tm_eq_is a d r.0) ∙ ap (λ x. All n d x c) (tm_eq_is b e s.0) ∙ ap (All n d e) (tm_eq_is c f s.1)
  tm_eq_is _ _ h = absurd (false≢true h)

  tms_eq_is : (a b : Tms) → tms_eq a b ≡ true → a ≡ b
  tms_eq_is no_tms no_tms h = refl
  tms_eq_is (more_tms a as_) (more_tms b bs) h =
      let q = and_parts (tm_eq a b) _ h in
      ap (λ x. more_tms x as_) (tm_eq_is a b q.0) ∙ ap (more_tms b) (tms_eq_is as_ bs q.1)
  tms_eq_is _ _ h = absurd (false≢true h)

mutual
  pub tm_eq_same : (t : Tm) → tm_eq t t ≡ true
  tm_eq_same (Name a s) = and_from _ _ ((bytes_eq-Decides a a).1 refl) (sort_eq_same s)
  tm_eq_same (Int a) = int_eq_same a
  tm_eq_same (W64 a) = eq-eqb a a refl
  tm_eq_same (W128 a) = eq-eqb a a refl
  tm_eq_same (TruthTerm a) = truth_eq_same a
  tm_eq_same (Un o a) = and_from _ _ (un_eq_same o) (tm_eq_same a)
  tm_eq_same (Bin o a b) = and_from _ _ (bin_eq_same o) (and_from _ _ (tm_eq_same a) (tm_eq_same b))
  tm_eq_same (Ite a b c) = and_from _ _ (tm_eq_same a) (and_from _ _ (tm_eq_same b) (tm_eq_same c))
  tm_eq_same (Put a b c) = and_from _ _ (tm_eq_same a) (and_from _ _ (tm_eq_same b) (tm_eq_same c))
  tm_eq_same (PutDword a b c) = and_from _ _ (tm_eq_same a) (and_from _ _ (tm_eq_same b) (tm_eq_same c))
  tm_eq_same (Clmul a b n) = and_from _ _ (eq-eqb n n refl) (and_from _ _ (tm_eq_same a) (tm_eq_same b))
  tm_eq_same (Shift o n a) = and_from _ _ (counted_eq_same o) (and_from _ _ (eq-eqb n n refl) (tm_eq_same a))
  tm_eq_same (Call f s a) = and_from _ _ (eq-eqb f f refl) (and_from _ _ (sort_eq_same s) (tms_eq_same a))
  tm_eq_same (All n a b c) = and_from _ _ ((bytes_eq-Decides n n).1 refl) (and_from _ _ (tm_eq_same a) (and_from _ _ (tm_eq_same b) (tm_eq_same c)))

  tms_eq_same : (a : Tms) → tms_eq a a ≡ true
  tms_eq_same no_tms = refl
  tms_eq_same (more_tms a as_) = and_from _ _ (tm_eq_same a) (tms_eq_same as_)
