-- What a walk puts for variables is what is put for them by definition.
use Rattle.std.proofs.Common.{◌≡◌, ℕ, List, [], ◌∷◌, ◌++◌, map, refl, sym, ap, ◌∙◌, Option, None, Some}
use Rattle.std.specs.Prelude.{◌&&◌, option_map, if◌then◌else◌}
use Rattle.std.specs.Str.{bytes_eq}
use Rattle.std.proofs.Math.Path.{fun_ext}
use Rattle.x64_syntax.specs.declared.type_words.Sort.{Sort}
use Rattle.x64_syntax.specs.declared.type_words.Sort.TheVariants as sort
use Rattle.x64_syntax.specs.declared.text.Text.{Text}
use Rattle.term_core.specs.declared.term.Term.{Term, Term-F, fold-roll-Term}
use Rattle.term_core.specs.declared.term.Term.TheVariants as term
use Rattle.term_core.specs.declared.functions.Variable.{Variable}
use Rattle.term_core.specs.Operators.{sort_eq}
use Rattle.term_core.specs.Terms.{Tm, All, layer, tree, tms, more_tms}
use Rattle.term_subst.specs.declared.images.Image.{Image}
use Rattle.term_subst.specs.Substituted.{Images, without, with_images, all_with_images}
use Rattle.term_core.specs.Rules.{prev}
use Rattle.term_subst.specs.Unfolded.{argument_of, or_previous}
use Rattle.term_subst.specs.inner.Walks.{image_among, images_of}

-- a further image: what that one puts, and else what the others put
abbrev pub image_or : Image → Images → Images
image_or i f text s = if bytes_eq i.name.now text && sort_eq i.sort s then option_map (λ t. tree t.now) i.term else f text s

among_last : (found : Option Tm) (is : List Image) (i : Image) (text : List ℕ) (s : Sort) → image_among found (is ++ i ∷ []) text s ≡ image_or i (image_among found is) text s
among_last found [] i text s = refl
among_last found (j ∷ is) i text s = among_last (if bytes_eq j.name.now text && sort_eq j.sort s then option_map (λ t. tree t.now) j.term else found) is i text s

pub images_last : (is : List Image) (i : Image) → images_of (is ++ i ∷ []) ≡ image_or i (images_of is)
images_last is i = fun_ext (λ text. fun_ext (λ s. among_last None is i text s))

-- an image that keeps what a quantifier over the name binds
pub hides : (is : List Image) (i : Image) (name : List ℕ) → i.name.now ≡ name → i.sort ≡ sort.Int → i.term ≡ None → images_of (is ++ i ∷ []) ≡ without name (images_of is)
hides is i name n s t =
    images_last is i
    ∙ ap (λ text other r. if bytes_eq text other && sort_eq i.sort r then option_map (λ t. tree t.now) i.term else images_of is other r) n
    ∙ ap (λ q other r. if bytes_eq name other && sort_eq q r then option_map (λ t. tree t.now) i.term else images_of is other r) s
    ∙ ap (λ u other r. if bytes_eq name other && sort_eq sort.Int r then option_map (λ t. tree t.now) u else images_of is other r) t

pub all_as_list : (f : Images) (ts : List Term) → all_with_images f (tms (map tree ts)) ≡ tms (map (λ t. with_images f (tree t)) ts)
all_as_list f [] = refl
all_as_list f (t ∷ ts) = ap (λ us. more_tms (with_images f (tree t)) us) (all_as_list f ts)

pub tree_all : (name : Text) (low high body : Term) → tree (term.All name low high body) ≡ All name (tree low) (tree high) (tree body)
tree_all name low high body = ap tree (sym (term.rolls-All name low high body)) ∙ fold-roll-Term Tm layer (Term-F.All name low high body)

-- one more parameter with its argument
pub argument_more : (is : List Image) (i : Image) (p : Variable) (t : Term) (ps : List Variable) (ts : List Term) → i.name.now ≡ p.name → i.sort ≡ p.sort → option_map (λ u. tree u.now) i.term ≡ Some (tree t) → images_of is ≡ argument_of ps (tms (map tree ts)) → images_of (is ++ i ∷ []) ≡ argument_of (p ∷ ps) (tms (map tree (t ∷ ts)))
argument_more is i p t ps ts n s e h =
    images_last is i
    ∙ ap (λ text other r. if bytes_eq text other && sort_eq i.sort r then option_map (λ u. tree u.now) i.term else images_of is other r) n
    ∙ ap (λ q other r. if bytes_eq p.name other && sort_eq q r then option_map (λ u. tree u.now) i.term else images_of is other r) s
    ∙ ap (λ u other r. if bytes_eq p.name other && sort_eq p.sort r then u else images_of is other r) e
    ∙ ap (λ f other r. if bytes_eq p.name other && sort_eq p.sort r then Some (tree t) else f other r) h

-- the call for `prev`
pub previous_more : (is : List Image) (i : Image) (s : Sort) (call : Tm) (f : Images) → i.name.now ≡ prev → i.sort ≡ s → option_map (λ u. tree u.now) i.term ≡ Some call → images_of is ≡ f → images_of (is ++ i ∷ []) ≡ or_previous s call f
previous_more is i s call f n q e h =
    images_last is i
    ∙ ap (λ text other r. if bytes_eq text other && sort_eq i.sort r then option_map (λ u. tree u.now) i.term else images_of is other r) n
    ∙ ap (λ p other r. if bytes_eq prev other && sort_eq p r then option_map (λ u. tree u.now) i.term else images_of is other r) q
    ∙ ap (λ u other r. if bytes_eq prev other && sort_eq s r then u else images_of is other r) e
    ∙ ap (λ g other r. if bytes_eq prev other && sort_eq s r then Some call else g other r) h
