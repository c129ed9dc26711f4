-- Why words ask for no images.
use Rattle.std.specs.Prelude.{◌≡◌, ◌≢◌, ℕ, ◌<◌, ◌≤◌, List, [], length, take, slice_index_or, IsTrue}
use Rattle.std.specs.Prelude.{All, Option, Some, None}
use Rattle.vab_names.specs.Names.{is_base, most_partitions}
use Rattle.vab_pack.specs.declared.fault.WordFault.{WordFault}
use Rattle.vab_pack.specs.declared.fault.WordFault.TheVariants as faults
use Rattle.vab_pack.specs.Front.{Front, size_of, store_of}
use Rattle.vab_pack.specs.Asked.{Asked, Parts, HasParts, IsWord, Ask}

-- of no more words than a set has images those before this one ask for images, and it is bad behind
-- these
pub record IsFirstBad (words : List (List ℕ)) (word : ℕ) (IsBad : List Asked → List ℕ → Type 0) :
    Type 0 where
  pub few : length words ≤ most_partitions
  pub inside : word < length words
  pub before : List Asked
  pub asks : Ask (take word words) before
  pub bad : IsBad before (slice_index_or words word [])

-- a word with texts of which this is true
abbrev pub HasWord : List ℕ → (Front → Type 0) → Type 0
HasWord word P = (front : Front) × (path : List ℕ) × IsWord word front path × P front

-- the image before this one has the name
abbrev pub IsNamed : List Asked → ℕ → List ℕ → Type 0
IsNamed before i name =
    (i < length before) × ((d : Asked) → (slice_index_or before i d).name ≡ name)

-- a base name that no image before has
pub record IsNew (before : List Asked) (name : List ℕ) : Type 0 where
  pub base : IsTrue (is_base name)
  pub first : All (λ a. a.name ≢ name) before

-- a word's faults, from left to right: no name and path, a bad name, one that is there, a bad size,
-- a bad store
abbrev pub IsFaultOf : List (List ℕ) → WordFault → Type 0
IsFaultOf words (faults.TooMany count) = (count ≡ length words) × (most_partitions < count)
IsFaultOf words (faults.BadWord i) =
    IsFirstBad words i (λ before word. (p : Parts) → ¬ HasParts word p)
IsFaultOf words (faults.BadName i) =
    IsFirstBad words i (λ before word. HasWord word (λ f. ¬ IsTrue (is_base f.name)))
IsFaultOf words (faults.Repeated i j) =
    IsFirstBad words j (λ before word. HasWord word
    (λ f. IsTrue (is_base f.name) × IsNamed before i f.name))
IsFaultOf words (faults.BadSize i) =
    IsFirstBad words i (λ before word. HasWord word
    (λ f. IsNew before f.name × (size_of f ≡ None)))
IsFaultOf words (faults.BadStore i) =
    IsFirstBad words i (λ before word. HasWord word
    (λ f. IsNew before f.name
    × ((size : Option ℕ) × (size_of f ≡ Some size))
    × (store_of f ≡ None)))
IsFaultOf words faults.NoMemory = ⊥
