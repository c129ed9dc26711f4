-- An index of a list of exceptions.
use Rattle.std.specs.Prelude.{◌≡◌, ◌≢◌, ◌⊎◌, ℕ, ◌≤◌, ◌<◌, ◌+◌, List, length, slice_index_or, Option}
use Rattle.std.specs.Prelude.{Some, None, nat_lt, ◌==◌, ◌||◌, ◌&&◌, if◌then◌else◌}
use Rattle.vab_exceptions.specs.declared.area.Exception.{Exception}
use Rattle.vab_store.specs.declared.index.Key.{Key}
use Rattle.vab_store.specs.declared.index.Key.TheVariants.{Old, New}
use Rattle.vab_store.specs.declared.index.Place.{Place}
use Rattle.vab_store.specs.View.{exception_at}

abbrev pub place_at : List Place → ℕ → Place
place_at ps i = slice_index_or ps i (record { key = 0; at = 0 })

-- each key is below all later ones
abbrev pub Ascends : List Place → Type 0
Ascends ps = (i j : ℕ) → i < j → j < length ps → (place_at ps i).key < (place_at ps j).key

-- the index has this key at this place of the list
pub record HasPlace (ps : List Place) (key at : ℕ) : Type 0 where
  pub index : ℕ
  pub within : index < length ps
  pub key_is : (place_at ps index).key ≡ key
  pub at_is : (place_at ps index).at ≡ at

-- it has this key at no place
abbrev pub LacksKey : List Place → ℕ → Type 0
LacksKey ps key = (i : ℕ) → i < length ps → (place_at ps i).key ≢ key

-- it has this place of the list
pub record HoldsPlace (ps : List Place) (at : ℕ) : Type 0 where
  pub index : ℕ
  pub within : index < length ps
  pub at_is : (place_at ps index).at ≡ at

-- it points to an exception with this key
pub record Points (key_of : Exception → ℕ) (es : List Exception) (p : Place) : Type 0 where
  pub within : p.at < length es
  pub key_is : p.key ≡ key_of (exception_at es p.at)

-- what an index is sorted by
abbrev pub key_of : Key → Exception → ℕ
key_of Old e = e.old_chunk
key_of New e = e.new_chunk

-- the index of a list by a key that no two exceptions share: each exception once, ascending
pub record IsIndexed (key : Key) (es : List Exception) (ps : List Place) : Type 0 where
  pub counted : length ps ≡ length es
  pub ascends : Ascends ps
  pub points : (i : ℕ) → i < length ps → Points (key_of key) es (place_at ps i)
  pub complete : (k : ℕ) → k < length es → HoldsPlace ps k

-- before the other by its key, or by its place where the keys are one
abbrev pub IsBefore : Place → Place → Type 0
IsBefore a b = (a.key < b.key) ⊎ ((a.key ≡ b.key) × (a.at < b.at))

-- the list sorted by a key: each exception once
pub record IsSortedBy (key : Key) (es : List Exception) (ps : List Place) : Type 0 where
  pub counted : length ps ≡ length es
  pub sorted : (i j : ℕ) → i < j → j < length ps → IsBefore (place_at ps i) (place_at ps j)
  pub points : (i : ℕ) → i < length ps → Points (key_of key) es (place_at ps i)
  pub complete : (k : ℕ) → k < length es → HoldsPlace ps k

-- no two exceptions have this key in common
abbrev pub IsOnceBy : Key → List Exception → Type 0
IsOnceBy key es = (a b : ℕ)
    → a < b
    → b < length es
    → key_of key (exception_at es a) ≢ key_of key (exception_at es b)

-- two that have it, and no second one before this one
pub record IsRepeatBy (key : Key) (es : List Exception) (j k : ℕ) : Type 0 where
  pub order : j < k
  pub within : k < length es
  pub same : key_of key (exception_at es j) ≡ key_of key (exception_at es k)
  pub least : (a b : ℕ)
      → a < b
      → b < length es
      → key_of key (exception_at es a) ≡ key_of key (exception_at es b)
      → k ≤ b

-- no two neighbours among the first n of an index have one key
abbrev pub HasNoTie : List Place → ℕ → Type 0
HasNoTie ps n = (m : ℕ) → m + 1 < n → (place_at ps m).key ≢ (place_at ps (m + 1)).key

-- neighbours with one key, of which no second one stands before this one in the list
pub record IsFirstTie (ps : List Place) (n j k : ℕ) : Type 0 where
  pub index : ℕ
  pub within : index + 1 < n
  pub tie : (place_at ps index).key ≡ (place_at ps (index + 1)).key
  pub first : (place_at ps index).at ≡ j
  pub second : (place_at ps (index + 1)).at ≡ k
  pub least : (m : ℕ)
      → m + 1 < n
      → (place_at ps m).key ≡ (place_at ps (m + 1)).key
      → k ≤ (place_at ps (m + 1)).at

abbrev pub TellsTie : List Place → ℕ → Option (ℕ × ℕ) → Type 0
TellsTie ps n None = HasNoTie ps n
TellsTie ps n (Some (j, k)) = IsFirstTie ps n j k

abbrev pub TellsRepeat : Key → List Exception → Option (ℕ × ℕ) → Type 0
TellsRepeat key es None = IsOnceBy key es
TellsRepeat key es (Some (j, k)) = IsRepeatBy key es j k

-- the one whose second stands before the other's, or whose first does
abbrev pub earlier_of : Option (ℕ × ℕ) → Option (ℕ × ℕ) → Option (ℕ × ℕ)
earlier_of None b = b
earlier_of (Some a) None = Some a
earlier_of (Some (j, k)) (Some (j', k')) =
    if nat_lt k' k || ((k' == k) && nat_lt j' j) then Some (j', k') else Some (j, k)

-- this place of the list stands before the second of these
abbrev pub IsSooner : ℕ → Option (ℕ × ℕ) → Type 0
IsSooner at None = Unit {0}
IsSooner at (Some (j, k)) = at < k

-- so many keys are below this one
pub record IsRank (ps : List Place) (key n : ℕ) : Type 0 where
  pub within : n ≤ length ps
  pub below : (i : ℕ) → i < n → (place_at ps i).key < key
  pub rest : (i : ℕ) → n ≤ i → i < length ps → key ≤ (place_at ps i).key
