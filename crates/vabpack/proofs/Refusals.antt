-- What a refusal of the entries says of the words.
use Rattle.std.proofs.Common.{◌≡◌, ℕ, ◌<◌, ◌≤◌, ◌^◌, ◌∙◌, List, [], ◌∷◌, ◌++◌, length, Option, Some}
use Rattle.std.proofs.Common.{None, IfSome, Result, Ok, Err, IfOk, IfErr, sym, ap, subst, arith}
use Rattle.std.specs.Prelude.{IsErrAnd}
use Rattle.vab_set.specs.declared.set.SetImage.{SetImage}
use Rattle.vab_set.specs.Spelling.{IsSet, set_text, images_text}
use Rattle.vab_pack.specs.Asked.{Asked, Ask, AreWordsOf}
use Rattle.vab_pack.specs.Images.{image_of}
use Rattle.vabpack.specs.Packed.{
  Contents,
  Failing,
  AreImagesOf,
  IsSetOf,
  IsLong,
  IsOverfull,
  IsFaulty,
  Stands,
  meant,
  IsOfSet,
  AreKnownAs,
  HasUnfit,
  IsAboutFiles,
  IsAboutSet,
}
use Rattle.vab_sparse.specs.declared.fault.SparseFault.{SparseFault}
use Rattle.vabpack.proofs.Images.{none_long, known_same, known_at, ok_of, ok_or_err}
use Rattle.vabpack.specs.declared.refusal.Refusal.{Refusal}
use Rattle.vabpack.specs.declared.refusal.Refusal.TheVariants as refusals

about_files : (files : Contents) (fails : Failing) (asked : List Asked) (e : Refusal)
    → HasUnfit files asked
    → IsOfSet files fails asked e
    → IsAboutFiles e
about_files files fails asked refusals.NoMemory long h = tt
about_files files fails asked refusals.SetTooLarge long h =
    absurd (none_long files asked h.0 h.1 long)
about_files files fails asked refusals.NoWords long h = absurd h.reason
about_files files fails asked (refusals.Words fault) long h = absurd h.reason
about_files files fails asked (refusals.TooLarge path) long h = tt
about_files files fails asked (refusals.Sparse path fault) long h = tt
about_files files fails asked (refusals.TooSmall path) long h = tt
about_files files fails asked (refusals.File path fault) long h = tt

pub long_is_refused : {V : Type 0} (view : V → List ℕ) (files : Contents) (fails : Failing)
    (asked : List Asked) (r : Result V Refusal)
    → IfOk r (λ v. IsSetOf files asked (view v))
    → IfErr r (IsOfSet files fails asked)
    → HasUnfit files asked
    → IsErrAnd r IsAboutFiles
long_is_refused view files fails asked (Ok v) is refused long =
    absurd (none_long files asked is.images is.each long)
long_is_refused view files fails asked (Err e) is refused long =
    about_files files fails asked e long refused

not_long : (files : Contents) (asked : List Asked) (images : List SetImage) (path : List ℕ) (s :
    (before : List Asked)
    × (behind : List Asked)
    × (at : Asked)
    × (asked ≡ before ++ at ∷ behind)
    × (at.path ≡ path))
    → AreKnownAs files asked images
    → ¬ IsLong files path
not_long files asked images path s known long =
    let there =
    known_at files s.0 s.1 s.2 images
    (subst (λ (l : List Asked). AreKnownAs files l images) s.3 known) in
    let P : Option (List ℕ) → Type 0 = λ o. IfSome o (λ b. 2 ^ 32 < length b) in
    let Q : List ℕ → Type 0 = λ p. IfSome (files p) (λ b. 2 ^ 32 < length b) in
    let over : 2 ^ 32 < length there.1 = subst P there.2 (subst Q (sym s.4) long) in
    absurd (omega (arith, over, there.3.short))

not_overfull : (files : Contents) (asked : List Asked) (images : List SetImage) (path : List ℕ)
    (a : Asked)
    (before behind : List Asked)
    → asked ≡ before ++ a ∷ behind
    → a.path ≡ path
    → AreKnownAs files asked images
    → ¬ IsOverfull files a path
not_overfull files asked images path a before behind whole at known over =
    let there =
    known_at files before behind a images
    (subst (λ (l : List Asked). AreKnownAs files l images) whole known) in
    let P : Option (List ℕ) → Type 0 = λ o. IfSome o
    (λ file. (image : List ℕ) × Stands file image × (image_of a image ≡ None)) in
    let Q : List ℕ → Type 0 = λ p. IsOverfull files a p in
    let none = subst P there.2 (subst Q (sym at) over) in
    let same : none.0 ≡ there.0.bytes =
    ok_of none.0 there.0.bytes (sym none.1.means ∙ there.3.means) in
    let both : None ≡ Some there.0 = sym none.2 ∙ ap (image_of a) same ∙ there.4 in
    absurd cc

not_faulty : (files : Contents) (asked : List Asked) (images : List SetImage) (path : List ℕ)
    (fault : SparseFault) (a : Asked)
    (before behind : List Asked)
    → asked ≡ before ++ a ∷ behind
    → a.path ≡ path
    → AreKnownAs files asked images
    → ¬ IsFaulty files path fault
not_faulty files asked images path fault a before behind whole at known bad =
    let there =
    known_at files before behind a images
    (subst (λ (l : List Asked). AreKnownAs files l images) whole known) in
    let P : Option (List ℕ) → Type 0 = λ o. IfSome o
    (λ file. (length file ≤ 2 ^ 32) × (meant file ≡ Err fault)) in
    let Q : List ℕ → Type 0 = λ p. IsFaulty files p fault in
    let is = subst P there.2 (subst Q (sym at) bad) in
    absurd (ok_or_err there.0.bytes fault (sym there.3.means ∙ is.1))

about_set : (files : Contents) (fails : Failing) (asked : List Asked) (images : List SetImage)
    (e : Refusal)
    → AreKnownAs files asked images
    → IsOfSet files fails asked e
    → IsAboutSet e
about_set files fails asked images refusals.NoMemory known h = tt
about_set files fails asked images refusals.SetTooLarge known h = tt
about_set files fails asked images refusals.NoWords known h = absurd h.reason
about_set files fails asked images (refusals.Words fault) known h = absurd h.reason
about_set files fails asked images (refusals.TooLarge path) known h =
    absurd (not_long files asked images path.now (h.before, h.behind, h.at, h.whole, h.reason.0)
    known h.reason.1)
about_set files fails asked images (refusals.Sparse path fault) known h =
    absurd (not_faulty files asked images path.now fault h.at h.before h.behind h.whole h.reason.0
    known h.reason.1)
about_set files fails asked images (refusals.TooSmall path) known h =
    absurd (not_overfull files asked images path.now h.at h.before h.behind h.whole h.reason.0 known
    h.reason.1)
about_set files fails asked images (refusals.File path fault) known h = tt

pub large_is_refused : {V : Type 0} (view : V → List ℕ) (files : Contents) (fails : Failing)
    (asked : List Asked) (images : List SetImage) (r : Result V Refusal)
    → IfOk r (λ v. IsSetOf files asked (view v))
    → IfErr r (IsOfSet files fails asked)
    → AreKnownAs files asked images
    → 2 ^ 32 < length (set_text images)
    → IsErrAnd r IsAboutSet
large_is_refused view files fails asked images (Ok v) is refused known long =
    let same : is.images ≡ images = known_same files asked images is.images known is.each in
    let text : length (set_text is.images) ≡ length (set_text images) =
    ap (λ (l : List SetImage). length (set_text l)) same in
    absurd (omega (arith, text, long, is.short, ap length is.spelled))
large_is_refused view files fails asked images (Err e) is refused known long =
    about_set files fails asked images e known refused

-- ---- the set

pub set_of : {V : Type 0} (view : V → List ℕ) (files : Contents) (asked : List Asked)
    (images : List SetImage) (r : Result V Refusal)
    → AreImagesOf files asked images
    → IsSet images
    → IfOk r (λ v. view v ≡ set_text images)
    → IfOk r (λ v. length (view v) ≤ 2 ^ 32)
    → IfOk r (λ v. IsSetOf files asked (view v))
set_of view files asked images (Ok v) are set spelled short =
    record { images = images; each = are; set = set; spelled = spelled; short = short }
set_of view files asked images (Err e) are set spelled short = tt

-- no words ask for no images, whose text is short
pub none_large : (files : Contents) (words : List (List ℕ)) (asked : List Asked)
    (images : List SetImage)
    → words ≡ []
    → Ask words asked
    → AreKnownAs files asked images
    → ¬ (2 ^ 32 < length (set_text images))
unfolding set_text images_text
none_large files words [] [] none asks known long = absurd (omega (arith, long))
none_large files words [] (i ∷ images) none asks known long = absurd known
none_large files words (a ∷ asked) images none asks known long =
    absurd (subst (λ (l : List (List ℕ)). AreWordsOf l (a ∷ asked)) none asks.spelled)
