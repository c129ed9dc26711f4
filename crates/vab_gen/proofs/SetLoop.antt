-- Images made one after another, as a loop does.
use Rattle.std.proofs.Common.{◌≡◌, ◌∙◌, ℕ, ◌+◌, ◌<◌, ◌≤◌, List, [], ◌∷◌, ◌++◌, length, get_or, drop}
use Rattle.std.proofs.Common.{sym, ap, append_assoc, append-nil, add-one, drop-cons}
use Rattle.std.proofs.lemmas.List.{drop_all}
use Rattle.vab_set.specs.declared.set.SetImage.{SetImage}
use Rattle.vab_gen.specs.Images.{fresh_image, fresh_end, next_image, next_end}
use Rattle.vab_gen.specs.Sets.{base_names, fresh_images, fresh_set, next_set}

first : {X : Type 0} (xs : List X) (i : ℕ) (x : X)
    → i < length xs
    → x ≡ get_or xs i x
    → drop i xs ≡ x ∷ drop (i + 1) xs
first xs i x lt is =
    (let e : drop i xs ≡ get_or xs i x ∷ drop (i + 1) xs = rw add-one (drop-cons xs i x lt) in e)
    ∙ ap (λ y. y ∷ drop (i + 1) xs) (sym is)

-- ---- images of numbers alone

pub fresh_more : (scale seed i : ℕ) (names : List (List ℕ)) (name : List ℕ)
    (done total : List SetImage)
    → i < length names
    → name ≡ get_or names i name
    → done ++ fresh_images scale seed (drop i names) ≡ total
    → (done ++ fresh_image scale seed name ∷ [])
    ++ fresh_images scale (fresh_end scale seed) (drop (i + 1) names)
    ≡ total
unfolding fresh_images
fresh_more scale seed i names name done total lt is so_far =
    let rest : List SetImage =
    fresh_images scale (fresh_end scale seed) (drop (i + 1) names) in
    append_assoc done (fresh_image scale seed name ∷ []) rest
    ∙ ap (λ (l : List (List ℕ)). done ++ fresh_images scale seed l)
    (sym (first names i name lt is))
    ∙ so_far

pub fresh_done : (scale seed i : ℕ) (names : List (List ℕ)) (done total : List SetImage)
    → length names ≤ i
    → done ++ fresh_images scale seed (drop i names) ≡ total
    → done ≡ total
unfolding fresh_images
fresh_done scale seed i names done total le so_far =
    sym (append-nil done)
    ∙ ap (λ (l : List (List ℕ)). done ++ fresh_images scale seed l)
    (sym (drop_all i names le))
    ∙ so_far

pub fresh_all : (scale seed last i : ℕ) (names : List (List ℕ)) (made done : List SetImage)
    → made ≡ done
    → names ≡ base_names
    → length names ≤ i
    → done ++ fresh_images scale last (drop i names) ≡ fresh_images scale seed names
    → made ≡ fresh_set scale seed
unfolding fresh_set
fresh_all scale seed last i names made done same are le so_far =
    same
    ∙ fresh_done scale last i names done (fresh_images scale seed names) le so_far
    ∙ ap (fresh_images scale seed) are

-- ---- images after old ones

pub next_more : (scale seed i : ℕ) (set : List SetImage) (old : SetImage)
    (done total : List SetImage)
    → i < length set
    → old ≡ get_or set i old
    → done ++ next_set scale seed (drop i set) ≡ total
    → (done ++ next_image scale seed old ∷ [])
    ++ next_set scale (next_end scale seed old) (drop (i + 1) set)
    ≡ total
unfolding next_set
next_more scale seed i set old done total lt is so_far =
    let rest : List SetImage = next_set scale (next_end scale seed old) (drop (i + 1) set) in
    append_assoc done (next_image scale seed old ∷ []) rest
    ∙ ap (λ (l : List SetImage). done ++ next_set scale seed l) (sym (first set i old lt is))
    ∙ so_far

pub next_done : (scale seed i : ℕ) (set done total : List SetImage)
    → length set ≤ i
    → done ++ next_set scale seed (drop i set) ≡ total
    → done ≡ total
unfolding next_set
next_done scale seed i set done total le so_far =
    sym (append-nil done)
    ∙ ap (λ (l : List SetImage). done ++ next_set scale seed l) (sym (drop_all i set le))
    ∙ so_far
