-- What words ask for: images of these names and sizes, with the bytes of the files at these paths.
use Rattle.std.specs.Prelude.{◌≡◌, ◌≢◌, ℕ, ◌<◌, ◌≤◌, ◌^◌, List, [], ◌∷◌, ◌++◌, length, IsTrue, All}
use Rattle.std.specs.Prelude.{AllPairs, Option, Some, IfSome}
use Rattle.vab_names.specs.Names.{is_base, most_partitions}
use Rattle.vab_pack.specs.Front.{Front, HasFront, size_of, store_of}

-- an image: its name, the bytes of its partition where they are asked for, those of its store, and
-- the path of its file
pub record Asked : Type 0 where
  pub name : List ℕ
  pub size : Option ℕ
  pub store : ℕ
  pub path : List ℕ

-- ---- a word

-- what stands before the word's first `=`, and the path behind it
pub record Parts : Type 0 where
  pub front : List ℕ
  pub path : List ℕ

abbrev pub word_of : Parts → List ℕ
word_of parts = parts.front ++ 61 ∷ parts.path

pub record HasParts (word : List ℕ) (parts : Parts) : Type 0 where
  pub whole : word ≡ word_of parts
  pub first : All (λ b. b ≢ 61) parts.front
  pub path : 0 < length parts.path

-- `NAME=FILE`, `NAME:SIZE=FILE`, `NAME:SIZE:STORE=FILE` or `NAME::STORE=FILE`
pub record IsWord (word : List ℕ) (front : Front) (path : List ℕ) : Type 0 where
  pub text : List ℕ
  pub parts : HasParts word (record { front = text; path = path })
  pub texts : HasFront text front

-- a word that asks for this image
pub record IsWordOf (word : List ℕ) (asked : Asked) : Type 0 where
  pub front : Front
  pub is_word : IsWord word front asked.path
  pub name : front.name ≡ asked.name
  pub size : size_of front ≡ Some asked.size
  pub store : store_of front ≡ Some asked.store

-- ---- all words

-- each of them asks for one image, in their order
abbrev pub AreWordsOf : List (List ℕ) → List Asked → Type 0
AreWordsOf [] [] = Unit {0}
AreWordsOf (word ∷ words) (a ∷ asked) = IsWordOf word a × AreWordsOf words asked
AreWordsOf _ _ = ⊥

-- an image that a word can ask for
pub record IsAsked (asked : Asked) : Type 0 where
  pub name : IsTrue (is_base asked.name)
  pub size : IfSome asked.size (λ n. n ≤ 2 ^ 40)
  pub store : asked.store < 2 ^ 64

-- these words ask for these images: at most so many, word by word, and no two have one name
pub record Ask (words : List (List ℕ)) (asked : List Asked) : Type 0 where
  pub count : length words ≤ most_partitions
  pub spelled : AreWordsOf words asked
  pub each : All IsAsked asked
  pub names : AllPairs (λ a b. a.name ≢ b.name) asked
