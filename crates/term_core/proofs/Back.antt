-- The term that a form is the text of, where each name has a sort and each function a name.
use Rattle.std.proofs.Common.{◌≡◌, ℕ, List, ◌∷◌, ◌++◌, refl, ap}
use Rattle.x64_syntax.specs.declared.type_words.Sort.{Sort}
use Rattle.term_core.specs.declared.operator.UnOp.TheVariants as un
use Rattle.term_core.specs.declared.operator.BinOp.TheVariants as bin
use Rattle.term_core.specs.Terms.{Tm, Tms, Un, Bin, no_tms, more_tms}
use Rattle.term_core.specs.Functions.{Function}
use Rattle.term_core.proofs.Forms.{Form, atom, between, bang, Posts, done, round, square, Forms, no_forms, more_forms, text_on, posts_on, list_on, Good, GoodPosts}
use Rattle.term_core.proofs.Words.{word_term}
use Rattle.term_core.proofs.Operations.{call_term, mark_operator}

abbrev mutual
  pub back : List Function → (List ℕ → Sort) → Form → Tm
  back fs sorts (atom w done) = word_term sorts w
  back fs sorts (atom w (round xs p)) = indexed fs sorts (call_term fs w (backs fs sorts xs)) p
  back fs sorts (atom w (square i p)) = indexed fs sorts (Bin bin.Index (word_term sorts w) (back fs sorts i)) p
  back fs sorts (between o a b) = Bin (mark_operator o) (back fs sorts a) (back fs sorts b)
  back fs sorts (bang a) = Un un.LogicNot (back fs sorts a)

  pub indexed : List Function → (List ℕ → Sort) → Tm → Posts → Tm
  indexed fs sorts t done = t
  indexed fs sorts t (round xs p) = indexed fs sorts t p
  indexed fs sorts t (square i p) = indexed fs sorts (Bin bin.Index t (back fs sorts i)) p

  pub backs : List Function → (List ℕ → Sort) → Forms → Tms
  backs fs sorts no_forms = no_tms
  backs fs sorts (more_forms x xs) = more_tms (back fs sorts x) (backs fs sorts xs)

-- an index behind the others
abbrev pub with_last : Posts → Form → Posts
with_last done i = square i done
with_last (round xs p) i = round xs (with_last p i)
with_last (square j p) i = square j (with_last p i)

abbrev pub IsAtom : Form → Type 0
IsAtom (atom w p) = Unit {0}
IsAtom (between o a b) = ⊥
IsAtom (bang a) = ⊥

abbrev pub with_index : Form → Form → Form
with_index (atom w p) i = atom w (with_last p i)
with_index (between o a b) i = between o a b
with_index (bang a) i = bang a

indexed_last : (fs : List Function) (sorts : List ℕ → Sort) (t : Tm) (p : Posts) (i : Form) → indexed fs sorts t (with_last p i) ≡ Bin bin.Index (indexed fs sorts t p) (back fs sorts i)
indexed_last fs sorts t done i = refl
indexed_last fs sorts t (round xs p) i = indexed_last fs sorts t p i
indexed_last fs sorts t (square j p) i = indexed_last fs sorts (Bin bin.Index t (back fs sorts j)) p i

pub back-with_index : (fs : List Function) (sorts : List ℕ → Sort) (x i : Form) → IsAtom x → back fs sorts (with_index x i) ≡ Bin bin.Index (back fs sorts x) (back fs sorts i)
back-with_index fs sorts (atom w done) i h = refl
back-with_index fs sorts (atom w (round xs p)) i h = indexed_last fs sorts (call_term fs w (backs fs sorts xs)) p i
back-with_index fs sorts (atom w (square j p)) i h = indexed_last fs sorts (Bin bin.Index (word_term sorts w) (back fs sorts j)) p i
back-with_index fs sorts (between o a b) i h = absurd h
back-with_index fs sorts (bang a) i h = absurd h

posts-with_last : (p : Posts) (i : Form) (r : List ℕ) → posts_on (with_last p i) r ≡ posts_on p (91 ∷ text_on i (93 ∷ r))
posts-with_last done i r = refl
posts-with_last (round xs p) i r = ap (λ l. 40 ∷ list_on xs (41 ∷ l)) (posts-with_last p i r)
posts-with_last (square j p) i r = ap (λ l. 91 ∷ text_on j (93 ∷ l)) (posts-with_last p i r)

pub text-with_index : (x i : Form) (r : List ℕ) → IsAtom x → text_on (with_index x i) r ≡ text_on x (91 ∷ text_on i (93 ∷ r))
text-with_index (atom w p) i r h = ap (λ l. w ++ l) (posts-with_last p i r)
text-with_index (between o a b) i r h = absurd h
text-with_index (bang a) i r h = absurd h

good-with_last : (p : Posts) (i : Form) → GoodPosts p → Good i → GoodPosts (with_last p i)
good-with_last done i g h = (h, tt)
good-with_last (round xs p) i g h = (g.0, good-with_last p i g.1 h)
good-with_last (square j p) i g h = (g.0, good-with_last p i g.1 h)

pub good-with_index : (x i : Form) → Good x → Good i → Good (with_index x i)
good-with_index (atom w p) i g h = (g.0, good-with_last p i g.1 h)
good-with_index (between o a b) i g h = g
good-with_index (bang a) i g h = g
