-- What words ask for: the images, or the first fault from left to right.
use Rattle.std.specs.Prelude.{◌≡◌, ℕ, Bool, ◌==◌, nat_lt, if◌then◌else◌, List, [], ◌∷◌, ◌++◌}
use Rattle.std.specs.Prelude.{length, position, Option, Some, None, Result, Ok, Err}
use Rattle.std.specs.List.{before_first, after_first}
use Rattle.std.specs.Str.{bytes_eq}
use Rattle.vab_names.specs.Names.{is_base, most_partitions}
use Rattle.vab_pack.specs.declared.fault.WordFault.{WordFault}
use Rattle.vab_pack.specs.declared.fault.WordFault.TheVariants as faults
use Rattle.vab_pack.specs.Front.{Front, front_of, size_of, store_of}
use Rattle.vab_pack.specs.Asked.{Asked, Parts}

infixl 10 ◌>>=◌
abbrev pub ◌>>=◌ : {A B : Type 0}
    → Result A WordFault
    → (A → Result B WordFault)
    → Result B WordFault
(Ok x) >>= f = f x
(Err e) >>= f = Err e

-- What a function returned, seen by view, is what the words say, unless memory was refused.
abbrev pub Fails : {Y : Type 0} → WordFault → Result Y WordFault → Type 0
Fails faults.NoMemory said = Unit {0}
Fails e said = said ≡ Err e

abbrev pub Gives : {X Y : Type 0} → (X → Y) → Result X WordFault → Result Y WordFault → Type 0
Gives view (Ok x) said = said ≡ Ok (view x)
Gives view (Err e) said = Fails e said

-- a value that is there, or else a fault
abbrev pub or_fault : {A : Type 0} → WordFault → Option A → Result A WordFault
or_fault fault None = Err fault
or_fault fault (Some x) = Ok x

-- ---- a word

-- `=`
abbrev pub is_equals : ℕ → Bool
is_equals b = b == 61

-- what stands before the first `=` and what stands behind it, where something does
unfoldable pub parts_of : List ℕ → Option Parts
parts_of word =
    if length (after_first is_equals word) == 0 then None
    else Some (record { front = before_first is_equals word; path = after_first is_equals word })

-- the first of these that has this name
unfoldable pub first_named : List Asked → List ℕ → Option ℕ
first_named asked name = position (λ a. bytes_eq a.name name) asked

abbrev pub unless_first : ℕ → List ℕ → Option ℕ → Result (List ℕ) WordFault
unless_first word name None = Ok name
unless_first word name (Some first) = Err (faults.Repeated first word)

-- a base name that none of these has
unfoldable pub new_name : List Asked → List ℕ → Result (List ℕ) WordFault
new_name asked name =
    if is_base name then unless_first (length asked) name (first_named asked name)
    else Err (faults.BadName (length asked))

-- what a word with these texts asks for behind these
unfoldable pub asked_with : List Asked → Front → List ℕ → Result Asked WordFault
asked_with asked front path = do
  name ← new_name asked front.name
  size ← or_fault (faults.BadSize (length asked)) (size_of front)
  store ← or_fault (faults.BadStore (length asked)) (store_of front)
  Ok (record { name = name; size = size; store = store; path = path })

abbrev pub judged : List Asked → Option Parts → Result Asked WordFault
judged asked None = Err (faults.BadWord (length asked))
judged asked (Some p) = asked_with asked (front_of p.front) p.path

-- what the word behind those that ask for these asks for
unfoldable pub asked_by : List Asked → List ℕ → Result Asked WordFault
asked_by asked word = judged asked (parts_of word)

-- ---- all words

-- these, and what the words behind them ask for
unfoldable pub asked_behind : List Asked → List (List ℕ) → Result (List Asked) WordFault
asked_behind asked [] = Ok asked
asked_behind asked (word ∷ words) = do
  a ← asked_by asked word
  asked_behind (asked ++ a ∷ []) words

unfoldable pub asked_of : List (List ℕ) → Result (List Asked) WordFault
asked_of words =
    if nat_lt most_partitions (length words)
    then Err (faults.TooMany (length words))
    else asked_behind [] words
