-- Reading and writing images one after the other, as a loop does.
use Rattle.std.proofs.Common.{◌≡◌, ℕ, suc, ◌+◌, ◌-◌, ◌<◌, ◌≤◌, true, false, eqb, List, [], ◌∷◌}
use Rattle.std.proofs.Common.{◌++◌, length, take, get_or, Result, Ok, Err, refl, sym, ap, ◌∙◌}
use Rattle.std.proofs.Common.{add-one, append_assoc, append-nil, arith}
use Rattle.std.proofs.Math.Seq.{take-suc}
use Rattle.vab_set.specs.declared.set.SetImage.{SetImage}
use Rattle.vab_set.specs.declared.fault.SetFault.{SetFault}
use Rattle.vab_set.specs.declared.fault.SetFault.TheVariants as faults
use Rattle.vab_set.specs.Spelling.{image_text, images_text}
use Rattle.vab_set.specs.Reading.{Fails, image_at, images_at}

pub goes_on : (images : List SetImage) (n i : ℕ) (bytes : List ℕ) (image : SetImage)
    (after : List ℕ) (total : Result (List SetImage) SetFault)
    → i < n
    → image_at images bytes ≡ Ok (image, after)
    → images_at (n - i) images bytes ≡ total
    → images_at (n - (i + 1)) (images ++ image ∷ []) after ≡ total
unfolding images_at
goes_on images n i bytes image after total lt h so_far =
    let k : n - i ≡ suc (n - (i + 1)) = omega arith in
    let one : images_at (n - i) images bytes ≡ images_at (n - (i + 1)) (images ++ image ∷ [])
    after = rw (k, h) refl in
    sym one ∙ so_far

pub ends : (fault : SetFault) (images : List SetImage) (n i : ℕ) (bytes : List ℕ)
    (total : Result (List SetImage) SetFault)
    → i < n
    → Fails fault (image_at images bytes)
    → images_at (n - i) images bytes ≡ total → Fails fault total
unfolding images_at
ends faults.NoMemory images n i bytes total lt h so_far = tt
ends fault images n i bytes total lt h so_far =
    let k : n - i ≡ suc (n - (i + 1)) = omega arith in
    let one : images_at (n - i) images bytes ≡ Err fault = rw (k, h) refl in
    sym so_far ∙ one

pub is_done : (images : List SetImage) (n i : ℕ) (bytes : List ℕ)
    (total : Result (List SetImage) SetFault)
    → n ≤ i
    → images_at (n - i) images bytes ≡ total
    → images_at 0 images bytes ≡ total
is_done images n i bytes total le so_far = let k : n - i ≡ 0 = omega arith in
    ap (λ (j : ℕ). images_at j images bytes) (sym k) ∙ so_far

pub images_text-push : (images : List SetImage) (image : SetImage)
    → images_text (images ++ image ∷ []) ≡ images_text images ++ image_text image
unfolding images_text
images_text-push [] image = append-nil (image_text image)
images_text-push (x ∷ images) image = ap (λ (l : List ℕ). image_text x ++ l)
    (images_text-push images image) ∙ sym
    (append_assoc (image_text x) (images_text images) (image_text image))

pub images_text-more : (images : List SetImage) (i : ℕ) (d : SetImage)
    → i < length images
    → images_text (take (i + 1) images) ≡ images_text (take i images)
    ++ image_text (get_or images i d)
images_text-more images i d below =
    let more : take (i + 1) images ≡ take i images ++ (get_or images i d ∷ []) =
    rw add-one (take-suc images i d below) in
    ap images_text more ∙ images_text-push (take i images) (get_or images i d)

pub some_left : (images : List SetImage) (bytes : List ℕ)
    → eqb (length bytes) 0 ≡ false
    → images_at 0 images bytes ≡ Err faults.Trailing
unfolding images_at
some_left images bytes some = rw some refl

pub all_read : (images : List SetImage) (bytes : List ℕ)
    → eqb (length bytes) 0 ≡ true
    → images_at 0 images bytes ≡ Ok images
unfolding images_at
all_read images bytes none = rw none refl
