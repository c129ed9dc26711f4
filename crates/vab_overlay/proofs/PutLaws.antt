-- An entry that is put into a sector.
use Rattle.std.proofs.Common.{◌≡◌, ◌≢◌, ◌⊎◌, inl, inr, ⊎_elim, ℕ, ◌+◌, ◌*◌, ◌≤◌, ◌<◌, List, length}
use Rattle.std.proofs.Common.{refl, ◌∙◌, ap, arith}
use Rattle.std.specs.Int.{w64, to_le_bytes, from_le_bytes}
use Rattle.std.proofs.lemmas.Bool.{cases_lt}
use Rattle.std.proofs.lemmas.Nat.{from_le_bytes-to_le_bytes_8}
use Rattle.vab_bytes.specs.Number.{field, le_at, put_at}
use Rattle.vab_bytes.proofs.NumberLaws.{length-put_at, field-put_at_same, field-put_at_below}
use Rattle.vab_bytes.proofs.NumberLaws.{field-put_at_above}
use Rattle.vab_exceptions.specs.declared.area.Exception.{Exception}
use Rattle.vab_exceptions.specs.Entries.{FitsEntry, entry_at, put_entry}
use Rattle.vab_overlay.specs.Entry.{IsPut}

length-put_entry : (bytes : List ℕ) (i : ℕ) (e : Exception)
    → 16 * i + 16 ≤ length bytes
    → length (put_entry bytes i e) ≡ length bytes
length-put_entry bytes i e room =
    let old = to_le_bytes w64 e.old_chunk in
    let new = to_le_bytes w64 e.new_chunk in
    let mid : List ℕ = put_at bytes (16 * i) old in
    let same : length mid ≡ length bytes = length-put_at bytes (16 * i) old (omega (arith, room)) in
    length-put_at mid (16 * i + 8) new (omega (arith, room, same)) ∙ same

-- an eight byte number elsewhere
number_there : (bytes : List ℕ) (i from : ℕ) (e : Exception)
    → 16 * i + 16 ≤ length bytes
    → (from + 8 ≤ 16 * i) ⊎ (16 * i + 16 ≤ from)
    → le_at w64 (put_entry bytes i e) from ≡ le_at w64 bytes from
number_there bytes i from e room out =
    let old = to_le_bytes w64 e.old_chunk in
    let new = to_le_bytes w64 e.new_chunk in
    let mid : List ℕ = put_at bytes (16 * i) old in
    let same : length mid ≡ length bytes = length-put_at bytes (16 * i) old (omega (arith, room)) in
    let room_old : 16 * i + 8 ≤ length bytes = omega (arith, room) in
    let room_new : 16 * i + 8 + 8 ≤ length mid = omega (arith, room, same) in
    ap (from_le_bytes w64)
    (⊎_elim
    (λ before.
    field-put_at_below mid (16 * i + 8) new from 8 room_new (omega (arith, before))
    ∙ field-put_at_below bytes (16 * i) old from 8 room_old before)
    (λ behind.
    field-put_at_above mid (16 * i + 8) new from 8 room_new (omega (arith, behind))
    ∙ field-put_at_above bytes (16 * i) old from 8 room_old (omega (arith, behind)))
    out)

-- another entry
entry_there : (bytes : List ℕ) (i j : ℕ) (e : Exception)
    → 16 * i + 16 ≤ length bytes
    → j ≢ i
    → entry_at (put_entry bytes i e) j ≡ entry_at bytes j
unfolding entry_at
entry_there bytes i j e room other =
    let out : (16 * j + 16 ≤ 16 * i) ⊎ (16 * i + 16 ≤ 16 * j) = elim (cases_lt j i) [
      | inl before ↦ inl (omega (arith, before))
      | inr behind ↦ inr (omega (arith, behind, other))
    ] in
    let old = number_there bytes i (16 * j) e room
    (⊎_elim (λ before. inl (omega (arith, before))) (λ behind. inr behind) out) in
    let new = number_there bytes i (16 * j + 8) e room
    (⊎_elim (λ before. inl (omega (arith, before))) (λ behind. inr (omega (arith, behind))) out) in
    (λ k. record { old_chunk = old k; new_chunk = new k })

-- that entry
entry_here : (bytes : List ℕ) (i : ℕ) (e : Exception)
    → 16 * i + 16 ≤ length bytes
    → FitsEntry e
    → entry_at (put_entry bytes i e) i ≡ e
unfolding entry_at
entry_here bytes i e room fits =
    let first = to_le_bytes w64 e.old_chunk in
    let second = to_le_bytes w64 e.new_chunk in
    let mid : List ℕ = put_at bytes (16 * i) first in
    let same : length mid ≡ length bytes =
    length-put_at bytes (16 * i) first (omega (arith, room)) in
    let old : field (put_entry bytes i e) (16 * i) 8 ≡ first =
    field-put_at_below mid (16 * i + 8) second (16 * i) 8 (omega (arith, room, same)) (omega arith)
    ∙ field-put_at_same bytes (16 * i) 8 first (omega (arith, room)) refl in
    let new : field (put_entry bytes i e) (16 * i + 8) 8 ≡ second =
    field-put_at_same mid (16 * i + 8) 8 second (omega (arith, room, same)) refl in
    let is_old = ap (from_le_bytes w64) old
    ∙ from_le_bytes-to_le_bytes_8 e.old_chunk fits.old_chunk in
    let is_new = ap (from_le_bytes w64) new
    ∙ from_le_bytes-to_le_bytes_8 e.new_chunk fits.new_chunk in
    (λ k. record { old_chunk = is_old k; new_chunk = is_new k })

pub put_is : (i : ℕ) (e : Exception) (old new : List ℕ)
    → length old ≡ 512
    → i < 32
    → FitsEntry e
    → new ≡ put_entry old i e
    → IsPut i e old new
put_is i e old new long below fits is =
    let room : 16 * i + 16 ≤ length old = omega (arith, long, below) in
    record {
      long = ap length is ∙ length-put_entry old i e room;
      here = ap (λ (b : List ℕ). entry_at b i) is ∙ entry_here old i e room fits;
      others = λ j other.
          ap (λ (b : List ℕ). entry_at b j) is ∙ entry_there old i j e room other;
    }
