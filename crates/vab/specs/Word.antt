-- Which device the first word names.
use Rattle.std.specs.Prelude.{◌≡◌, ℕ, ◌<◌, ◌≤◌, List, ◌++◌, length, codes, IsTrue}
use Rattle.std.specs.Char.{is_ascii_digit}
use Rattle.std.specs.List.{list_all}
use Rattle.std.specs.Str.Parse.{digits_value}
use Rattle.vab.specs.declared.word.Device.{Device}
use Rattle.vab.specs.declared.word.Device.TheVariants as devices

-- 1 to 9 decimal digits
pub record IsCount (digits : List ℕ) : Type 0 where
  pub some : 0 < length digits
  pub few : length digits ≤ 9
  pub decimal : IsTrue (list_all is_ascii_digit digits)

-- `mem:` with these digits behind it, which are a count of sectors
pub record AsksMemory (word digits : List ℕ) : Type 0 where
  pub spelled : word ≡ codes "mem:" ++ digits
  pub count : IsCount digits

-- the device that a word names: in memory, of as many sectors as its digits say, or the file at the
-- path that is the word itself, where the word asks for no memory
abbrev pub IsDeviceOf : List ℕ → Device → Type 0
IsDeviceOf word (devices.Memory sectors) =
    (digits : List ℕ) × AsksMemory word digits × (sectors ≡ digits_value 10 digits)
IsDeviceOf word (devices.File path) =
    (path.now ≡ word) × ((digits : List ℕ) → ¬ AsksMemory word digits)
