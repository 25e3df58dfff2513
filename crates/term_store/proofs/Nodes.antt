-- Nodes are compared as the same exactly where they are the same.
use Rattle.std.proofs.Common.{◌≡◌, ℕ, true, false, refl, ap, ◌&&◌}
use Rattle.std.specs.Prelude.{◌==◌}
use Rattle.std.specs.Cmp.{signed_Decides}
use Rattle.std.proofs.lemmas.Bool.{and_parts, and_from, false≢true, eqb-true, eq-eqb}
use Rattle.std.proofs.lemmas.Slice.Eq.{bytes_eq-Decides}
use Rattle.x64_syntax.specs.declared.type_words.Sort.{Sort}
use Rattle.x64_syntax.specs.declared.type_words.Sort.TheVariants as sort
use Rattle.x64_syntax.specs.contracts.type_words.SortPartialEq.TheImpl.{eq-value as sort_same}
use Rattle.term_core.specs.declared.operator.UnOp.{UnOp}
use Rattle.term_core.specs.declared.operator.UnOp.TheVariants as un
use Rattle.term_core.specs.contracts.operator.UnOpPartialEq.TheImpl.{eq-value as un_same}
use Rattle.term_core.specs.declared.operator.BinOp.{BinOp}
use Rattle.term_core.specs.declared.operator.BinOp.TheVariants as bin
use Rattle.term_core.specs.contracts.operator.BinOpPartialEq.TheImpl.{eq-value as bin_same}
use Rattle.term_core.specs.declared.operator.CountedOp.{CountedOp}
use Rattle.term_core.specs.declared.operator.CountedOp.TheVariants as counted
use Rattle.term_core.specs.contracts.operator.CountedOpPartialEq.TheImpl.{eq-value as counted_same}
use Rattle.term_store.specs.declared.node.Node.{Node}
use Rattle.term_store.specs.declared.node.Node.TheVariants as node
use Rattle.term_store.specs.contracts.node.NodePartialEq.TheImpl.{eq-value as node_same}

sort_is : (o p : Sort) → sort_same.it o p ≡ true → o ≡ p
sort_is sort.Int sort.Int h = refl
sort_is sort.Bool sort.Bool h = refl
sort_is sort.W64 sort.W64 h = refl
sort_is sort.W128 sort.W128 h = refl
sort_is sort.Arr sort.Arr h = refl
sort_is _ _ h = absurd (false≢true h)

sort_itself : (o : Sort) → sort_same.it o o ≡ true
sort_itself sort.Int = refl
sort_itself sort.Bool = refl
sort_itself sort.W64 = refl
sort_itself sort.W128 = refl
sort_itself sort.Arr = refl

un_is : (o p : UnOp) → un_same.it o p ≡ true → o ≡ p
un_is un.Neg un.Neg h = refl
un_is un.Int un.Int h = refl
un_is un.Word un.Word h = refl
un_is un.LogicNot un.LogicNot h = refl
un_is un.Not un.Not h = refl
un_is un.Hi un.Hi h = refl
un_is un.Lo un.Lo h = refl
un_is un.Len un.Len h = refl
un_is _ _ h = absurd (false≢true h)

un_itself : (o : UnOp) → un_same.it o o ≡ true
un_itself un.Neg = refl
un_itself un.Int = refl
un_itself un.Word = refl
un_itself un.LogicNot = refl
un_itself un.Not = refl
un_itself un.Hi = refl
un_itself un.Lo = refl
un_itself un.Len = refl

bin_is : (o p : BinOp) → bin_same.it o p ≡ true → o ≡ p
bin_is bin.Add bin.Add h = refl
bin_is bin.Sub bin.Sub h = refl
bin_is bin.Mul bin.Mul h = refl
bin_is bin.Div bin.Div h = refl
bin_is bin.Mod bin.Mod h = refl
bin_is bin.Eq bin.Eq h = refl
bin_is bin.Lt bin.Lt h = refl
bin_is bin.Le bin.Le h = refl
bin_is bin.LogicAnd bin.LogicAnd h = refl
bin_is bin.LogicOr bin.LogicOr h = refl
bin_is bin.Implies bin.Implies h = refl
bin_is bin.And bin.And h = refl
bin_is bin.Or bin.Or h = refl
bin_is bin.Xor bin.Xor h = refl
bin_is bin.Mulhi bin.Mulhi h = refl
bin_is bin.Pair bin.Pair h = refl
bin_is bin.Paddd bin.Paddd h = refl
bin_is bin.Pshufb bin.Pshufb h = refl
bin_is bin.Aesenc bin.Aesenc h = refl
bin_is bin.Aesenclast bin.Aesenclast h = refl
bin_is bin.Index bin.Index h = refl
bin_is bin.ByteAt bin.ByteAt h = refl
bin_is bin.DwordAt bin.DwordAt h = refl
bin_is _ _ h = absurd (false≢true h)

bin_itself : (o : BinOp) → bin_same.it o o ≡ true
bin_itself bin.Add = refl
bin_itself bin.Sub = refl
bin_itself bin.Mul = refl
bin_itself bin.Div = refl
bin_itself bin.Mod = refl
bin_itself bin.Eq = refl
bin_itself bin.Lt = refl
bin_itself bin.Le = refl
bin_itself bin.LogicAnd = refl
bin_itself bin.LogicOr = refl
bin_itself bin.Implies = refl
bin_itself bin.And = refl
bin_itself bin.Or = refl
bin_itself bin.Xor = refl
bin_itself bin.Mulhi = refl
bin_itself bin.Pair = refl
bin_itself bin.Paddd = refl
bin_itself bin.Pshufb = refl
bin_itself bin.Aesenc = refl
bin_itself bin.Aesenclast = refl
bin_itself bin.Index = refl
bin_itself bin.ByteAt = refl
bin_itself bin.DwordAt = refl

counted_is : (o p : CountedOp) → counted_same.it o p ≡ true → o ≡ p
counted_is counted.Shl counted.Shl h = refl
counted_is counted.Shr counted.Shr h = refl
counted_is counted.Rol counted.Rol h = refl
counted_is counted.Ror counted.Ror h = refl
counted_is counted.Pshufd counted.Pshufd h = refl
counted_is counted.Pslld counted.Pslld h = refl
counted_is counted.Psrld counted.Psrld h = refl
counted_is counted.Pslldq counted.Pslldq h = refl
counted_is counted.Psrldq counted.Psrldq h = refl
counted_is _ _ h = absurd (false≢true h)

counted_itself : (o : CountedOp) → counted_same.it o o ≡ true
counted_itself counted.Shl = refl
counted_itself counted.Shr = refl
counted_itself counted.Rol = refl
counted_itself counted.Ror = refl
counted_itself counted.Pshufd = refl
counted_itself counted.Pslld = refl
counted_itself counted.Psrld = refl
counted_itself counted.Pslldq = refl
counted_itself counted.Psrldq = refl

two : (a b c d : ℕ) → ((a == c) && (b == d)) ≡ true → (a ≡ c) × (b ≡ d)
two a b c d h = let p = and_parts (a == c) _ h in (eqb-true a c p.0, eqb-true b d p.1)

three : (a b c d e f : ℕ) → ((a == d) && ((b == e) && (c == f))) ≡ true → (a ≡ d) × (b ≡ e) × (c ≡ f)
three a b c d e f h = let p = and_parts (a == d) _ h in let q = two b c e f p.1 in (eqb-true a d p.0, q.0, q.1)

pub node_is : (m n : Node) → node_same.it m n ≡ true → m ≡ n
node_is (node.Name a s) (node.Name b t) h =
    let p = and_parts _ _ h in λ i. node.Name ((bytes_eq-Decides a b).0 p.0 i) (sort_is s t p.1 i)
node_is (node.Int a) (node.Int b) h = ap node.Int ((signed_Decides a b).0 h)
node_is (node.W64 a) (node.W64 b) h = ap node.W64 (eqb-true a b h)
node_is (node.W128 a) (node.W128 b) h = ap node.W128 (eqb-true a b h)
node_is (node.Bool true) (node.Bool true) h = refl
node_is (node.Bool false) (node.Bool false) h = refl
node_is (node.Un o a) (node.Un p b) h =
    let q = and_parts (un_same.it o p) _ h in λ i. node.Un (un_is o p q.0 i) (eqb-true a b q.1 i)
node_is (node.Bin o a b) (node.Bin p c d) h =
    let q = and_parts (bin_same.it o p) _ h in
    let r = two a b c d q.1 in
    λ i. node.Bin (bin_is o p q.0 i) (r.0 i) (r.1 i)
node_is (node.Ite a b c) (node.Ite d e f) h = let r = three a b c d e f h in λ i. node.Ite (r.0 i) (r.1 i) (r.2 i)
node_is (node.Put a b c) (node.Put d e f) h = let r = three a b c d e f h in λ i. node.Put (r.0 i) (r.1 i) (r.2 i)
node_is (node.PutDword a b c) (node.PutDword d e f) h = let r = three a b c d e f h in λ i. node.PutDword (r.0 i) (r.1 i) (r.2 i)
node_is (node.Clmul a b c) (node.Clmul d e f) h = let r = three a b c d e f h in λ i. node.Clmul (r.0 i) (r.1 i) (r.2 i)
node_is (node.Shift o m a) (node.Shift p n b) h =
    let q = and_parts (counted_same.it o p) _ h in
    let r = two m a n b q.1 in
    λ i. node.Shift (counted_is o p q.0 i) (r.0 i) (r.1 i)
node_is (node.Call f s a) (node.Call g t b) h =
    let q = and_parts (f == g) _ h in
    let r = and_parts (sort_same.it s t) _ q.1 in
    λ i. node.Call (eqb-true f g q.0 i) (sort_is s t r.0 i) ((bytes_eq-Decides a b).0 r.1 i)
node_is (node.All x a b c) (node.All y d e f) h =
    let q = and_parts _ _ h in
    let r = three a b c d e f q.1 in
    λ i. node.All ((bytes_eq-Decides x y).0 q.0 i) (r.0 i) (r.1 i) (r.2 i)
node_is _ _ h = absurd (false≢true h)

same : (a : ℕ) → (a == a) ≡ true
same a = eq-eqb a a refl

three_same : (a b c : ℕ) → ((a == a) && ((b == b) && (c == c))) ≡ true
three_same a b c = and_from _ _ (same a) (and_from _ _ (same b) (same c))

pub node_itself : (m : Node) → node_same.it m m ≡ true
node_itself (node.Name a s) = and_from _ _ ((bytes_eq-Decides a a).1 refl) (sort_itself s)
node_itself (node.Int a) = (signed_Decides a a).1 refl
node_itself (node.W64 a) = same a
node_itself (node.W128 a) = same a
node_itself (node.Bool true) = refl
node_itself (node.Bool false) = refl
node_itself (node.Un o a) = and_from _ _ (un_itself o) (same a)
node_itself (node.Bin o a b) = and_from _ _ (bin_itself o) (and_from _ _ (same a) (same b))
node_itself (node.Ite a b c) = three_same a b c
node_itself (node.Put a b c) = three_same a b c
node_itself (node.PutDword a b c) = three_same a b c
node_itself (node.Clmul a b c) = three_same a b c
node_itself (node.Shift o m a) = and_from _ _ (counted_itself o) (and_from _ _ (same m) (same a))
node_itself (node.Call f s a) = and_from _ _ (same f) (and_from _ _ (sort_itself s) ((bytes_eq-Decides a a).1 refl))
node_itself (node.All x a b c) = and_from _ _ ((bytes_eq-Decides x x).1 refl) (three_same a b c)
