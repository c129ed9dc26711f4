-- Names of partitions, groups and block devices.
use Rattle.std.specs.Prelude.{◌≡◌, ℕ, ◌-◌, Bool, ◌&&◌, ◌||◌, ◌==◌, nat_le, if◌then◌else◌, List}
use Rattle.std.specs.Prelude.{◌++◌, length, take, drop, replicate, Option, Some, None, IsTrue}
use Rattle.std.specs.List.{list_all, before_first}

-- one of A-Z a-z 0-9 _ . -
abbrev pub is_name_byte : ℕ → Bool
is_name_byte b =
    (nat_le 65 b && nat_le b 90)
    || (nat_le 97 b && nat_le b 122)
    || (nat_le 48 b && nat_le b 57)
    || b == 95
    || b == 46
    || b == 45

-- 1 to 36 such bytes
unfoldable pub is_name : List ℕ → Bool
is_name text = nat_le 1 (length text) && nat_le (length text) 36 && list_all is_name_byte text

abbrev pub IsName : List ℕ → Type 0
IsName text = IsTrue (is_name text)

-- the 36 bytes of the field that spells a name: the text, and zeros behind it
abbrev pub name_field : List ℕ → List ℕ
name_field text = text ++ replicate (36 - length text) 0

-- the name that a field of 36 bytes spells, where it spells one: the text before the first zero,
-- with zeros alone behind it
unfoldable pub name_of_field : List ℕ → Option (List ℕ)
name_of_field bytes =
    let text = before_first (λ b. b == 0) bytes in
    if is_name text && list_all (λ b. b == 0) (drop (length text) bytes) then Some text else None

-- how a struct holds a name: its bytes are the name's field, and len is the length of the text
pub record HoldsName (bytes : List ℕ) (len : ℕ) : Type 0 where
  pub name : IsName (take len bytes)
  pub text_len : length (take len bytes) ≡ len
  pub spelled : bytes ≡ name_field (take len bytes)
