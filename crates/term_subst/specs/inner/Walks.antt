-- What walks through terms hold.
use Rattle.std.specs.Prelude.{ℕ, List, [], ◌∷◌, map, ◌&&◌, Option, None, option_map, if◌then◌else◌}
use Rattle.std.specs.Str.{bytes_eq}
use Rattle.indexmap.specs.IndexSet.{insert_all}
use Rattle.term_core.specs.Operators.{sort_eq}
use Rattle.term_core.specs.Terms.{Tm, tree}
use Rattle.term_subst.specs.declared.free.Finder.{Finder}
use Rattle.term_subst.specs.declared.images.Image.{Image}
use Rattle.term_subst.specs.Substituted.{Images}

abbrev pub names_around : Finder → List (List ℕ)
names_around w = map (λ name. name.now) w.around.items

abbrev pub names_found : Finder → List (List ℕ)
names_found w = map (λ name. name.now) w.found.keys

-- names behind those that were found, each once
abbrev pub with_names : List (List ℕ) → List (List ℕ) → List (List ℕ)
with_names found names = insert_all bytes_eq found names

-- what the last of the images that are for a variable puts for it, and what was found before where none is
abbrev pub image_among : Option Tm → List Image → Images
image_among found [] text s = found
image_among found (i ∷ is) text s =
    image_among (if bytes_eq i.name.now text && sort_eq i.sort s then option_map (λ t. tree t.now) i.term else found) is text s

abbrev pub images_of : List Image → Images
images_of is text s = image_among None is text s
