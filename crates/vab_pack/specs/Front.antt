-- What stands before a word's `=`: a name, and a size and a store behind colons.
use Rattle.std.specs.Prelude.{◌≡◌, ◌≢◌, ℕ, ◌^◌, Bool, ◌&&◌, ◌==◌, nat_lt, if◌then◌else◌, List, []}
use Rattle.std.specs.Prelude.{◌∷◌, ◌++◌, length, Option, Some, None, option_map, is_some, IfSome}
use Rattle.std.specs.Prelude.{All}
use Rattle.std.specs.List.{before_first, after_first, position_or_len}
use Rattle.vab_pack.specs.Amounts.{amount_up_to}

-- the texts of a name, and of a size and a store where they are given
pub record Front : Type 0 where
  pub name : List ℕ
  pub size : Option (List ℕ)
  pub store : Option (List ℕ)

abbrev pub option_text : Option (List ℕ) → List ℕ
option_text None = []
option_text (Some text) = 58 ∷ text

abbrev pub front_text : Front → List ℕ
front_text f = f.name ++ option_text f.size ++ option_text f.store

-- `NAME`, `NAME:SIZE` or `NAME:SIZE:STORE`, up to the first two colons
pub record HasFront (text : List ℕ) (f : Front) : Type 0 where
  pub whole : text ≡ front_text f
  pub name : All (λ b. b ≢ 58) f.name
  pub size : IfSome f.size (All (λ b. b ≢ 58))
  pub order : f.size ≡ None → f.store ≡ None

-- ---- the texts, by the first two colons

-- `:`
abbrev pub is_colon : ℕ → Bool
is_colon b = b == 58

unfoldable pub has_colon : List ℕ → Bool
has_colon text = nat_lt (position_or_len is_colon text) (length text)

unfoldable pub with_options : List ℕ → List ℕ → Front
with_options name options =
    if has_colon options then record {
      name = name;
      size = Some (before_first is_colon options);
      store = Some (after_first is_colon options);
    }
    else record { name = name; size = Some options; store = None }

unfoldable pub front_of : List ℕ → Front
front_of text =
    if has_colon text then with_options (before_first is_colon text) (after_first is_colon text)
    else record { name = text; size = None; store = None }

-- ---- what they mean

-- nothing stands in the place of the size, and a store behind it
abbrev pub is_left_out : Front → List ℕ → Bool
is_left_out f text = length text == 0 && is_some f.store

abbrev pub size_meant : Front → Option (List ℕ) → Option (Option ℕ)
size_meant f None = Some None
size_meant f (Some text) =
    if is_left_out f text then Some None else option_map Some (amount_up_to (2 ^ 40) text)

-- the bytes of the partition, up to 2^40, where they are given
unfoldable pub size_of : Front → Option (Option ℕ)
size_of f = size_meant f f.size

abbrev pub store_meant : Option (List ℕ) → Option ℕ
store_meant None = Some 0
store_meant (Some text) = amount_up_to 0xffff_ffff_ffff_ffff text

-- the bytes of the store, below 2^64, and 0 where they aren't given
unfoldable pub store_of : Front → Option ℕ
store_of f = store_meant f.store
