-- The items that lowering pushes, jumps being put in their places once their labels are known.
use Rattle.std.proofs.Common.{◌≡◌, ℕ, ◌+◌, List, [], ◌∷◌, ◌++◌, length, sym, ap, ◌∙◌, arith, append_assoc, length-append}
use Rattle.std.specs.Prelude.{slice_set}
use Rattle.std.proofs.Math.Seq.{set-append_seam}
use Rattle.std.proofs.lemmas.List.{length-set}
use Rattle.x64_syntax.specs.declared.places.Reg.{Reg as GeneralReg}
use Rattle.x64_syntax.specs.declared.operands.Opr.{Opr}
use Rattle.x64_syntax.specs.declared.conditions.Cmp.{Cmp}
use Rattle.x64_syntax.specs.declared.conditions.Cond.{Cond}
use Rattle.x64_syntax.specs.declared.instructions.Ins.{Ins}
use Rattle.x64_syntax.specs.declared.items.Item.{Item}
use Rattle.x64_syntax.specs.declared.items.Item.TheVariants as item
use Rattle.x64_syntax.specs.declared.code.Node.{Node, Node-F, fold-roll-Node}
use Rattle.x64_syntax.specs.declared.code.Node.TheVariants as node
use Rattle.x64_syntax.specs.Code.{Prog, Done, If, Loop}
use Rattle.x64_syntax.specs.inner.Nodes.{node_tree, node_layer, prog}
use Rattle.code_lower.specs.Lowered.{compare, when, unless, labels, code_items}

-- an element is put where it was kept a place
put_seam : (xs : List Item) (y : Item) (zs : List Item) (at : ℕ) (x : Item) → at ≡ length xs → slice_set (xs ++ y ∷ zs) at x ≡ xs ++ x ∷ zs
put_seam xs y zs at x e = ap (λ n. slice_set (xs ++ y ∷ zs) n x) e ∙ set-append_seam xs y zs x

-- the second of two elements, with others behind them
put_second : (xs : List Item) (a y : Item) (zs : List Item) (at : ℕ) (x : Item) → at ≡ length xs + 1 → slice_set ((xs ++ a ∷ y ∷ []) ++ zs) at x ≡ xs ++ a ∷ x ∷ zs
put_second xs a y zs at x e =
    let n : at ≡ length (xs ++ a ∷ []) = omega (arith, e, length-append xs (a ∷ [])) in
    ap (λ l. slice_set l at x) (append_assoc xs (a ∷ y ∷ []) zs ∙ sym (append_assoc xs (a ∷ []) (y ∷ zs)))
    ∙ put_seam (xs ++ a ∷ []) y zs at x n ∙ append_assoc xs (a ∷ []) (x ∷ zs)

-- the first of two elements, with others behind them
put_first : (xs : List Item) (y a : Item) (zs : List Item) (at : ℕ) (x : Item) → at ≡ length xs → slice_set ((xs ++ y ∷ a ∷ []) ++ zs) at x ≡ xs ++ x ∷ a ∷ zs
put_first xs y a zs at x e = ap (λ l. slice_set l at x) (append_assoc xs (y ∷ a ∷ []) zs) ∙ put_seam xs y (a ∷ zs) at x e

-- an `if` as it is pushed
module _ (old x1 x2 x3 x4 x5 a b : List Item) (c j0 j m0 m l1 l2 : Item) (p q : ℕ) (h1 : x1 ≡ old ++ c ∷ j0 ∷ []) (hp : p ≡ length old + 1) (h2 : x2 ≡ x1 ++ a) (h3 : x3 ≡ slice_set x2 p j ++ m0 ∷ l1 ∷ []) (hq : q ≡ length x2) (h4 : x4 ≡ x3 ++ b) (h5 : x5 ≡ slice_set x4 q m ++ l2 ∷ []) where
  first_put : slice_set x2 p j ≡ old ++ c ∷ j ∷ a
  first_put = ap (λ l. slice_set l p j) (h2 ∙ ap (λ l. l ++ a) h1) ∙ put_second old c j0 a p j hp

  size : q ≡ length (old ++ c ∷ j ∷ a)
  size = hq ∙ sym (length-set x2 p j) ∙ ap length first_put

  second_put : slice_set x4 q m ≡ (old ++ c ∷ j ∷ a) ++ m ∷ l1 ∷ b
  second_put =
      ap (λ l. slice_set l q m) (h4 ∙ ap (λ l. l ++ b) (h3 ∙ ap (λ l. l ++ m0 ∷ l1 ∷ []) first_put))
      ∙ put_first (old ++ c ∷ j ∷ a) m0 l1 b q m size

  if_pushed : x5 ≡ old ++ c ∷ j ∷ (a ++ m ∷ l1 ∷ (b ++ l2 ∷ []))
  if_pushed =
      h5 ∙ ap (λ l. l ++ l2 ∷ []) second_put
      ∙ append_assoc (old ++ c ∷ j ∷ a) (m ∷ l1 ∷ b) (l2 ∷ [])
      ∙ append_assoc old (c ∷ j ∷ a) (m ∷ l1 ∷ (b ++ l2 ∷ []))

pub if_items : (old x1 x2 x3 x4 x5 : List Item) (c : Cmp) (l : GeneralReg) (r : Opr) (first second : Prog) (k one two n1 n2 p q : ℕ) → x1 ≡ old ++ item.Ins (compare l r) ∷ item.Jcc (unless c) 0 ∷ [] → p ≡ length old + 1 → x2 ≡ x1 ++ code_items k first → one ≡ k + labels first → n1 ≡ one → x3 ≡ slice_set x2 p (item.Jcc (unless c) n1) ++ item.Jmp 0 ∷ item.Label n1 ∷ [] → q ≡ length x2 → x4 ≡ x3 ++ code_items (one + 1) second → two ≡ one + 1 + labels second → n2 ≡ two → x5 ≡ slice_set x4 q (item.Jmp n2) ++ item.Label n2 ∷ [] → x5 ≡ old ++ code_items k (If c l r first second Done)
if_items old x1 x2 x3 x4 x5 c l r first second k one two n1 n2 p q h1 hp h2 e1 f1 h3 hq h4 e2 f2 h5 =
    if_pushed old x1 x2 x3 x4 x5 (code_items k first) (code_items (one + 1) second) _ _ (item.Jcc (unless c) n1) _ (item.Jmp n2) (item.Label n1) (item.Label n2) p q h1 hp h2 h3 hq h4 h5
    ∙ ap (λ n. shape n n2 one) (f1 ∙ e1) ∙ ap (λ n. shape (k + labels first) n2 n) e1
    ∙ ap (λ n. shape (k + labels first) n (k + labels first)) (f2 ∙ e2 ∙ ap (λ n. n + 1 + labels second) e1)
  where
    shape : ℕ → ℕ → ℕ → List Item
    shape n m o = old ++ item.Ins (compare l r) ∷ item.Jcc (unless c) n ∷ (code_items k first ++ item.Jmp m ∷ item.Label n ∷ (code_items (o + 1) second ++ item.Label m ∷ []))

-- a loop as it is pushed
pub loop_items : (old x1 x2 x3 : List Item) (c : Cmp) (l : GeneralReg) (r : Opr) (body : Prog) (k test n m o p : ℕ) (i : Ins) (w : Cond) → n ≡ k → x1 ≡ old ++ item.Jmp 0 ∷ item.Label n ∷ [] → p ≡ length old → x2 ≡ x1 ++ code_items (k + 1) body → test ≡ k + 1 + labels body → m ≡ test → i ≡ compare l r → w ≡ when c → o ≡ k → x3 ≡ slice_set x2 p (item.Jmp m) ++ item.Label m ∷ item.Ins i ∷ item.Jcc w o ∷ [] → x3 ≡ old ++ code_items k (Loop c l r body Done)
loop_items old x1 x2 x3 c l r body k test n m o p i w e h1 hp h2 e2 f2 ei ew eo h3 =
    let put = ap (λ t. slice_set t p (item.Jmp m)) (h2 ∙ ap (λ t. t ++ code_items (k + 1) body) h1) ∙ put_first old (item.Jmp 0) (item.Label n) (code_items (k + 1) body) p (item.Jmp m) hp in
    let last = item.Label m ∷ item.Ins i ∷ item.Jcc w o ∷ [] in
    h3 ∙ ap (λ t. t ++ last) put ∙ append_assoc old (item.Jmp m ∷ item.Label n ∷ code_items (k + 1) body) last
    ∙ ap (λ a. shape a m i w o) e ∙ ap (λ b. shape k b i w o) (f2 ∙ e2)
    ∙ ap (λ j. shape k (k + 1 + labels body) j w o) ei
    ∙ ap (λ v. shape k (k + 1 + labels body) (compare l r) v o) ew
    ∙ ap (λ a. shape k (k + 1 + labels body) (compare l r) (when c) a) eo
  where
    shape : ℕ → ℕ → Ins → Cond → ℕ → List Item
    shape a b j v d = old ++ item.Jmp b ∷ item.Label a ∷ (code_items (k + 1) body ++ item.Label b ∷ item.Ins j ∷ item.Jcc v d ∷ [])

-- the code of an `if` and of a loop
pub if_tree : (c : Cmp) (l : GeneralReg) (r : Opr) (yes_ no_ : List Node) (rest : Prog) → node_tree (node.If c l r yes_ no_) rest ≡ If c l r (prog yes_) (prog no_) rest
if_tree c l r yes_ no_ rest =
    ap (λ n. node_tree n rest) (sym (node.rolls-If c l r yes_ no_))
    ∙ ap (λ f. f rest) (fold-roll-Node (Prog → Prog) node_layer (Node-F.If c l r yes_ no_))

pub loop_tree : (c : Cmp) (l : GeneralReg) (r : Opr) (body : List Node) (rest : Prog) → node_tree (node.Loop c l r body) rest ≡ Loop c l r (prog body) rest
loop_tree c l r body rest =
    ap (λ n. node_tree n rest) (sym (node.rolls-Loop c l r body))
    ∙ ap (λ f. f rest) (fold-roll-Node (Prog → Prog) node_layer (Node-F.Loop c l r body))
