-- What the bytes of an area stand for.
use Rattle.std.specs.Prelude.{◌≢◌, ℕ, zero, suc, ◌+◌, ◌-◌, ◌*◌, ◌<◌, ◌^◌, List, [], ◌∷◌, ◌++◌}
use Rattle.std.specs.Prelude.{length, replicate, All, if◌then◌else◌, ◌==◌}
use Rattle.std.specs.Int.{w64, to_le_bytes}
use Rattle.vab_bytes.specs.Number.{le_at, put_at}
use Rattle.vab_exceptions.specs.declared.area.Exception.{Exception}

-- how many exceptions an area holds
abbrev pub area_entries : ℕ
area_entries = 256

-- the values of a function at the numbers below n
unfoldable pub firsts : {X : Type 0} → (ℕ → X) → ℕ → List X
firsts f zero = []
firsts f (suc n) = firsts f n ++ f n ∷ []

-- the entry at a place of an area
unfoldable pub entry_at : List ℕ → ℕ → Exception
entry_at bytes i = record {
  old_chunk = le_at w64 bytes (16 * i);
  new_chunk = le_at w64 bytes (16 * i + 8);
}

-- an entry that is an exception, and doesn't end the list
abbrev pub IsListed : Exception → Type 0
IsListed e = e.new_chunk ≢ 0

-- both numbers fit eight bytes
pub record FitsEntry (e : Exception) : Type 0 where
  pub old_chunk : e.old_chunk < 2 ^ 64
  pub new_chunk : e.new_chunk < 2 ^ 64

abbrev pub AllListed : List Exception → Type 0
AllListed es = All IsListed es

-- the exceptions before the first entry that ends the list
unfoldable pub listed : List Exception → List Exception
listed [] = []
listed (e ∷ es) = if e.new_chunk == 0 then [] else e ∷ listed es

-- all entries of an area, so many
abbrev pub entries_of : ℕ → List ℕ → List Exception
entries_of count bytes = firsts (entry_at bytes) count

-- the exceptions of an area of so many entries
abbrev pub area_of : ℕ → List ℕ → List Exception
area_of count bytes = listed (entries_of count bytes)

-- the bytes of an entry
abbrev pub entry_bytes : Exception → List ℕ
entry_bytes e = to_le_bytes w64 e.old_chunk ++ to_le_bytes w64 e.new_chunk

-- those of entries, one after another
unfoldable pub bytes_of : List Exception → List ℕ
bytes_of [] = []
bytes_of (e ∷ es) = entry_bytes e ++ bytes_of es

-- an area of so many bytes: the entries, and zeros behind them
abbrev pub area_bytes : ℕ → List Exception → List ℕ
area_bytes size es = bytes_of es ++ replicate (size - 16 * length es) 0

-- both numbers of an entry are written
abbrev pub put_entry : List ℕ → ℕ → Exception → List ℕ
put_entry bytes i e =
    put_at (put_at bytes (16 * i) (to_le_bytes w64 e.old_chunk)) (16 * i + 8)
    (to_le_bytes w64 e.new_chunk)
