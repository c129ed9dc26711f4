-- The boot control sector: what spells a boot control, and what the bytes of a sector mean.
use Rattle.std.specs.Prelude.{◌≡◌, ◌≢◌, ℕ, ◌+◌, ◌*◌, ◌/◌, ◌%◌, ◌<◌, ◌≤◌, not, ◌==◌, nat_le}
use Rattle.std.specs.Prelude.{if◌then◌else◌, List, [], ◌∷◌, take, slice_index, slice_set, Option}
use Rattle.std.specs.Prelude.{Some, None, option_map, ok_or, Result, Err, ◌⊎◌}
use Rattle.std.specs.Int.{w32, to_le_bytes}
use Rattle.std.specs.Str.{bytes_eq}
use Rattle.vab_bytes.specs.Number.{field, le_at, put_at}
use Rattle.vab_bytes.specs.Crc.{crc_of}
use Rattle.vab_bootctl.specs.declared.slots.Info.{Info}
use Rattle.vab_bootctl.specs.declared.slots.Control.{Control}
use Rattle.vab_bootctl.specs.declared.sector.ControlFault.{ControlFault}
use Rattle.vab_bootctl.specs.declared.sector.ControlFault.TheVariants.{BadMagic, BadVersion, BadSum}
use Rattle.vab_bootctl.specs.declared.sector.ControlFault.TheVariants.{BadSlots}

-- ---- what has a spelling

pub record FitsInfo (i : Info) : Type 0 where
  pub priority : i.priority ≤ 15
  pub tries : i.tries ≤ 7

pub record Fits (c : Control) : Type 0 where
  pub current : c.current < 2
  pub a : FitsInfo c.a
  pub b : FitsInfo c.b

-- ---- the spelling

-- _a or _b, and two zeros
abbrev pub suffix : ℕ → List ℕ
suffix slot = 95 ∷ (97 + slot) ∷ 0 ∷ 0 ∷ []

-- bits 0 to 3 priority, 4 to 6 tries, 7 successful
abbrev pub info_byte : Info → ℕ
info_byte i = i.priority + 16 * i.tries + (if i.successful then 128 else 0)

-- the sector has the fields of this boot control; the bits that no field has are free
pub record Represents (bytes : List ℕ) (c : Control) : Type 0 where
  pub suffix : field bytes 0 4 ≡ suffix c.current
  pub magic : field bytes 4 4 ≡ to_le_bytes w32 0x42414342
  pub version : slice_index bytes 8 ≡ 1
  pub slots : slice_index bytes 9 % 8 ≡ 2
  pub a : slice_index bytes 12 ≡ info_byte c.a
  pub b : slice_index bytes 14 ≡ info_byte c.b
  pub sum : field bytes 28 4 ≡ to_le_bytes w32 (crc_of (take 28 bytes))

-- the new sector has the old one's bits wherever no field of a boot control stands
pub record KeepsRest (old new : List ℕ) : Type 0 where
  pub bits : slice_index new 9 / 8 ≡ slice_index old 9 / 8
  pub bytes : (k : ℕ)
      → 10 ≤ k
      → k ≢ 12
      → k ≢ 14
      → (k < 28) ⊎ (32 ≤ k)
      → slice_index new k ≡ slice_index old k

-- ---- the reading

abbrev pub info_of : ℕ → Info
info_of byte = record { priority = byte % 16; tries = byte / 16 % 8; successful = nat_le 128 byte }

abbrev pub slot_of : List ℕ → Option ℕ
slot_of text =
    if bytes_eq text (suffix 0) then Some 0 else (if bytes_eq text (suffix 1) then Some 1 else None)

abbrev pub with_infos : List ℕ → ℕ → Control
with_infos bytes slot =
    record {
      current = slot;
      a = info_of (slice_index bytes 12);
      b = info_of (slice_index bytes 14);
    }

-- the boot control in the bytes of a sector, or the first fault
unfoldable pub control_of : List ℕ → Result Control ControlFault
control_of bytes =
    if not (le_at w32 bytes 4 == 0x42414342) then Err BadMagic
    else (if not (slice_index bytes 8 == 1) then Err BadVersion
    else (if not (le_at w32 bytes 28 == crc_of (take 28 bytes)) then Err BadSum
    else (if not (slice_index bytes 9 % 8 == 2) then Err BadSlots
    else ok_or (option_map (with_infos bytes) (slot_of (take 4 bytes))) BadSlots)))

-- ---- the writing

-- the sector with the fields of this boot control, and the sum as it was
unfoldable pub with_fields : Control → List ℕ → List ℕ
with_fields c bytes =
    let named = put_at (put_at bytes 0 (suffix c.current)) 4 (to_le_bytes w32 0x42414342) in
    let counted = slice_set (slice_set named 8 1) 9 (slice_index bytes 9 / 8 * 8 + 2) in
    slice_set (slice_set counted 12 (info_byte c.a)) 14 (info_byte c.b)
