-- What the program's answer is, of its words and of what is known of the files that they name.
use Rattle.std.specs.Prelude.{◌≡◌, ◌≢◌, ◌⊎◌, ℕ, ◌<◌, ◌≤◌, ◌^◌, List, [], ◌∷◌, ◌++◌, length, Option}
use Rattle.std.specs.Prelude.{Some, None, IfSome, IsErrAnd, IsTrue, Bool, Result, Ok, Err}
use Rattle.std.specs.Prelude.{if◌then◌else◌}
use Rattle.vab_set.specs.declared.set.SetImage.{SetImage}
use Rattle.vab_set.specs.Spelling.{IsImage, IsSet, set_text}
use Rattle.vab_pack.specs.Asked.{Asked, Ask}
use Rattle.vab_pack.specs.Images.{image_of}
use Rattle.vab_pack.specs.declared.fault.WordFault.{WordFault}
use Rattle.vab_pack.specs.declared.fault.WordFault.TheVariants as faults
use Rattle.vab_pack.specs.Faults.{IsFaultOf}
use Rattle.vab_sparse.specs.declared.fault.SparseFault.{SparseFault}
use Rattle.vab_sparse.specs.Reading.{is_sparse}
use Rattle.vab_sparse.specs.Reading.{image_of as sparse_image}
use Rattle.vabpack.specs.declared.source.Unread.{Unread}
use Rattle.vabpack.specs.declared.source.Unread.TheVariants as unread
use Rattle.vabpack.specs.declared.refusal.Refusal.{Refusal}
use Rattle.vabpack.specs.declared.refusal.Refusal.TheVariants as refusals

-- the bytes of the file at a path, where they are known
abbrev pub Contents : Type 0
Contents = List ℕ → Option (List ℕ)

-- whether the file at a path may fail to be opened or read
abbrev pub Failing : Type 0
Failing = List ℕ → Bool

-- why a file isn't read, where it may fail or not
abbrev pub IsUnread : Bool → Unread → Type 0
IsUnread fails unread.NoMemory = Unit {0}
IsUnread fails (unread.File fault) = IsTrue fails

-- ---- what a file stands for

-- the image of a file, where it is a sparse one, of at most 2^32 bytes, or else its bytes
abbrev pub meant : List ℕ → Result (List ℕ) SparseFault
meant file = if is_sparse file then sparse_image (2 ^ 32) file else Ok file

-- a file of no more bytes than a set may have, with what it stands for
pub record Stands (file image : List ℕ) : Type 0 where
  pub short : length file ≤ 2 ^ 32
  pub means : meant file ≡ Ok image

-- why a file at a path stands for nothing: the first fault of a sparse image, or want of memory
abbrev pub IsMalformed : List ℕ → List ℕ → Refusal → Type 0
IsMalformed at file (refusals.Sparse path fault) = (at ≡ path.now) × (meant file ≡ Err fault)
IsMalformed at file refusals.NoMemory = Unit {0}
IsMalformed at file _ = ⊥

-- ---- the set

-- the image that is asked for, with all bytes that its file stands for, which can stand in a set
pub record IsImageOf (files : Contents) (asked : Asked) (image : SetImage) : Type 0 where
  pub whole : image_of asked image.bytes ≡ Some image
  pub bytes : IfSome (files asked.path) (λ file. Stands file image.bytes)
  pub fits : IsImage image

-- an image for each, in their order
abbrev pub AreImagesOf : Contents → List Asked → List SetImage → Type 0
AreImagesOf files [] [] = Unit {0}
AreImagesOf files (asked ∷ rest) (image ∷ images) =
    IsImageOf files asked image × AreImagesOf files rest images
AreImagesOf files _ _ = ⊥

-- the one spelling of the set of their images, which is no longer than a set may be
pub record IsSetOf (files : Contents) (asked : List Asked) (bytes : List ℕ) : Type 0 where
  pub images : List SetImage
  pub each : AreImagesOf files asked images
  pub set : IsSet images
  pub spelled : bytes ≡ set_text images
  pub short : length bytes ≤ 2 ^ 32

-- the set that the words ask for, and there are words
pub record IsPacked (files : Contents) (words : List (List ℕ)) (bytes : List ℕ) : Type 0 where
  pub some : words ≢ []
  pub asked : List Asked
  pub asks : Ask words asked
  pub set : IsSetOf files asked bytes

-- ---- why there is none

-- why there is no set where words have a fault
abbrev pub refusal_of : WordFault → Refusal
refusal_of faults.NoMemory = refusals.NoMemory
refusal_of fault = refusals.Words fault

-- the file at a path is longer than a set may be, where its bytes are known
abbrev pub IsLong : Contents → List ℕ → Type 0
IsLong files path = IfSome (files path) (λ bytes. 2 ^ 32 < length bytes)

-- the file at a path is a malformed sparse image with this fault, where its bytes are known
abbrev pub IsFaulty : Contents → List ℕ → SparseFault → Type 0
IsFaulty files path fault =
    IfSome (files path) (λ file. (length file ≤ 2 ^ 32) × (meant file ≡ Err fault))

-- the partition that is asked for doesn't hold what the file at a path stands for, where its bytes
-- are known
abbrev pub IsOverfull : Contents → Asked → List ℕ → Type 0
IsOverfull files asked path =
    IfSome (files path) (λ file.
    (image : List ℕ) × Stands file image × (image_of asked image ≡ None))

-- why there is no image of this one: its file is too long, also for its partition, or a malformed
-- sparse image, or failed, or want of memory
abbrev pub IsOfFile : Contents → Failing → Asked → Refusal → Type 0
IsOfFile files fails asked (refusals.TooLarge path) =
    (asked.path ≡ path.now) × IsLong files path.now
IsOfFile files fails asked (refusals.Sparse path fault) =
    (asked.path ≡ path.now) × IsFaulty files path.now fault
IsOfFile files fails asked (refusals.TooSmall path) =
    (asked.path ≡ path.now) × IsOverfull files asked path.now
IsOfFile files fails asked (refusals.File path fault) =
    (asked.path ≡ path.now) × IsTrue (fails path.now)
IsOfFile files fails asked refusals.NoMemory = Unit {0}
IsOfFile files fails asked _ = ⊥

-- the first of these without an image has none for this reason
pub record StopsAt
    (files : Contents) (fails : Failing) (asked : List Asked) (refusal : Refusal)
    : Type 0 where
  pub before : List Asked
  pub images : List SetImage
  pub at : Asked
  pub behind : List Asked
  pub whole : asked ≡ before ++ at ∷ behind
  pub each : AreImagesOf files before images
  pub reason : IsOfFile files fails at refusal

-- why there is no set where these are asked for: a file, a set that is too long, or want of memory
abbrev pub IsOfSet : Contents → Failing → List Asked → Refusal → Type 0
IsOfSet files fails asked refusals.SetTooLarge =
    (images : List SetImage) × AreImagesOf files asked images × (2 ^ 32 < length (set_text images))
IsOfSet files fails asked refusals.NoMemory = Unit {0}
IsOfSet files fails asked refusal = StopsAt files fails asked refusal

-- why there is no set where these are the words
abbrev pub IsCause : Contents → Failing → List (List ℕ) → Refusal → Type 0
IsCause files fails words refusals.NoWords = words ≡ []
IsCause files fails words (refusals.Words fault) = IsFaultOf words fault
IsCause files fails words refusals.NoMemory = words ≢ []
IsCause files fails words refusal =
    (asked : List Asked) × Ask words asked × IsOfSet files fails asked refusal

-- ---- where each reason holds, it comes

-- refused so, unless memory was refused
abbrev pub RefusesWith : {V : Type 0} → Result V Refusal → Refusal → Type 0
RefusesWith result refusal = IsErrAnd result (λ e. (e ≡ refusals.NoMemory) ⊎ (e ≡ refusal))

-- a file is too long, also for its partition, or a malformed sparse image, or can't be read, or
-- memory was refused
abbrev pub IsAboutFiles : Refusal → Type 0
IsAboutFiles (refusals.TooLarge path) = Unit {0}
IsAboutFiles (refusals.Sparse path fault) = Unit {0}
IsAboutFiles (refusals.TooSmall path) = Unit {0}
IsAboutFiles (refusals.File path fault) = Unit {0}
IsAboutFiles refusals.NoMemory = Unit {0}
IsAboutFiles _ = ⊥

-- the set is too long, a file can't be read, or memory was refused
abbrev pub IsAboutSet : Refusal → Type 0
IsAboutSet refusals.SetTooLarge = Unit {0}
IsAboutSet (refusals.File path fault) = Unit {0}
IsAboutSet refusals.NoMemory = Unit {0}
IsAboutSet _ = ⊥

-- images of files whose bytes are known
abbrev pub AreKnownAs : Contents → List Asked → List SetImage → Type 0
AreKnownAs files [] [] = Unit {0}
AreKnownAs files (asked ∷ rest) (image ∷ images) =
    ((file : List ℕ) × (files asked.path ≡ Some file) × Stands file image.bytes)
    × (image_of asked image.bytes ≡ Some image)
    × AreKnownAs files rest images
AreKnownAs files _ _ = ⊥

-- a file is longer than a set may be, or a malformed sparse image, or its image is longer than the
-- partition that is asked for
abbrev pub IsUnfit : Asked → List ℕ → Type 0
IsUnfit asked file =
    (2 ^ 32 < length file)
    ⊎ (((fault : SparseFault) × (meant file ≡ Err fault))
    ⊎ ((image : List ℕ) × (meant file ≡ Ok image) × (image_of asked image ≡ None)))

-- one of these has a file that is known to be so
abbrev pub HasUnfit : Contents → List Asked → Type 0
HasUnfit files [] = ⊥
HasUnfit files (asked ∷ rest) =
    ((file : List ℕ) × (files asked.path ≡ Some file) × IsUnfit asked file)
    ⊎ HasUnfit files rest

-- the program's status: the words aren't taken, a file can't be read, or memory was refused
abbrev pub status_of : Refusal → ℕ
status_of (refusals.File path fault) = 9
status_of refusals.NoMemory = 8
status_of _ = 2
