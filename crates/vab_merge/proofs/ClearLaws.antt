-- Entries that are zeroed.
use Rattle.std.proofs.Common.{◌≡◌, ◌≢◌, ◌⊎◌, inl, inr, ⊎_elim, ℕ, ◌+◌, ◌-◌, ◌*◌, ◌≤◌, ◌<◌, min}
use Rattle.std.proofs.Common.{List, length, get_or, refl, sym, ◌∙◌, ap, subst, arith}
use Rattle.std.specs.Int.{w64, to_le_bytes, from_le_bytes}
use Rattle.std.proofs.lemmas.Bool.{cases_lt}
use Rattle.std.proofs.lemmas.List.{ext_get_or, get_or-replicate}
use Rattle.std.proofs.lemmas.Nat.{from_le_bytes-to_le_bytes_8}
use Rattle.vab_bytes.specs.Number.{field, le_at, put_at}
use Rattle.vab_bytes.proofs.NumberLaws.{length-put_at, get_or-put_at_same, get_or-put_at_below}
use Rattle.vab_bytes.proofs.NumberLaws.{get_or-put_at_above, get_or-field, length-field, same_field}
use Rattle.vab_disk.specs.Disk.{Image}
use Rattle.vab_exceptions.specs.declared.area.Exception.{Exception}
use Rattle.vab_exceptions.specs.Entries.{entry_at, put_entry}
use Rattle.vab_store.specs.View.{no_exception}
use Rattle.vab_disk.specs.declared.disk.Disk.{Ghosts}
use Rattle.vab_disk.specs.Disk.{set_sector, IsAt}
use Rattle.vab_disk.specs.Calls.{Touches}
use Rattle.vab_disk.proofs.CallLaws.{wrote_here, wrote_there, quiet_then, same_then, touches_wider}
use Rattle.vab_disk.proofs.CallLaws.{touches_then}
use Rattle.vab_space.specs.declared.Chunk.{Chunk}
use Rattle.vab_store.specs.Sectors.{page_sector, sector_entries}
use Rattle.vab_merge.specs.Cleared.{IsCleared, IsClearedAt, IsOfThem, IsClearing}

-- ---- one entry that is put

length-put_entry : (bytes : List ℕ) (i : ℕ) (e : Exception)
    → 16 * i + 16 ≤ length bytes
    → length (put_entry bytes i e) ≡ length bytes
length-put_entry bytes i e room =
    let old = to_le_bytes w64 e.old_chunk in
    let new = to_le_bytes w64 e.new_chunk in
    let mid : List ℕ = put_at bytes (16 * i) old in
    let same : length mid ≡ length bytes = length-put_at bytes (16 * i) old (omega (arith, room)) in
    length-put_at mid (16 * i + 8) new (omega (arith, room, same)) ∙ same

-- each byte of a zero
zero_byte : (i : ℕ) → i < 8 → get_or (to_le_bytes w64 0) i 0 ≡ 0
zero_byte i below = get_or-replicate 8 i 0 0 below

-- the bytes of an entry that is put without an exception
byte_here : (bytes : List ℕ) (i n : ℕ)
    → 16 * i + 16 ≤ length bytes
    → 16 * i ≤ n
    → n < 16 * i + 16
    → get_or (put_entry bytes i no_exception) n 0 ≡ 0
byte_here bytes i n room over below =
    let zeros = to_le_bytes w64 0 in
    let mid : List ℕ = put_at bytes (16 * i) zeros in
    let same : length mid ≡ length bytes =
    length-put_at bytes (16 * i) zeros (omega (arith, room)) in
    let room_new : 16 * i + 8 + 8 ≤ length mid = omega (arith, room, same) in
    elim (cases_lt n (16 * i + 8)) [
      | inl first ↦
          let at : 16 * i + (n - 16 * i) ≡ n = omega (arith, over) in
          get_or-put_at_below mid (16 * i + 8) zeros n room_new first
          ∙ ap (λ (k : ℕ). get_or mid k 0) (sym at)
          ∙ get_or-put_at_same bytes (16 * i) zeros (n - 16 * i) (omega (arith, room))
          (omega (arith, over, first))
          ∙ zero_byte (n - 16 * i) (omega (arith, over, first))
      | inr second ↦
          let at : 16 * i + 8 + (n - (16 * i + 8)) ≡ n = omega (arith, second) in
          ap (λ (k : ℕ). get_or (put_entry bytes i no_exception) k 0) (sym at)
          ∙ get_or-put_at_same mid (16 * i + 8) zeros (n - (16 * i + 8)) room_new
          (omega (arith, second, below))
          ∙ zero_byte (n - (16 * i + 8)) (omega (arith, second, below))
    ]

-- all others are kept
byte_there : (bytes : List ℕ) (i n : ℕ)
    → 16 * i + 16 ≤ length bytes
    → (n < 16 * i) ⊎ (16 * i + 16 ≤ n)
    → get_or (put_entry bytes i no_exception) n 0 ≡ get_or bytes n 0
byte_there bytes i n room out =
    let zeros = to_le_bytes w64 0 in
    let mid : List ℕ = put_at bytes (16 * i) zeros in
    let same : length mid ≡ length bytes =
    length-put_at bytes (16 * i) zeros (omega (arith, room)) in
    let room_old : 16 * i + 8 ≤ length bytes = omega (arith, room) in
    let room_new : 16 * i + 8 + 8 ≤ length mid = omega (arith, room, same) in
    ⊎_elim
    (λ before.
    get_or-put_at_below mid (16 * i + 8) zeros n room_new (omega (arith, before))
    ∙ get_or-put_at_below bytes (16 * i) zeros n room_old before)
    (λ behind.
    get_or-put_at_above mid (16 * i + 8) zeros n room_new (omega (arith, behind))
    ∙ get_or-put_at_above bytes (16 * i) zeros n room_old (omega (arith, behind)))
    out

-- ---- entries that are zeroed one after another

pub cleared_none : (from : ℕ) (bytes : List ℕ) → IsCleared from from bytes bytes
cleared_none from bytes = record {
  long = refl;
  kept = λ n out. refl;
  gone = λ n over below. absurd (omega (arith, over, below));
}

pub cleared_more : (from i : ℕ) (old mid new : List ℕ)
    → length old ≡ 512
    → i < 32
    → from ≤ i
    → IsCleared from i old mid
    → new ≡ put_entry mid i no_exception
    → IsCleared from (i + 1) old new
cleared_more from i old mid new long below over is written =
    let room : 16 * i + 16 ≤ length mid = omega (arith, below, long, is.long) in
    record {
      long = ap length written ∙ length-put_entry mid i no_exception room ∙ is.long;
      kept = λ n out.
          ap (λ (b : List ℕ). get_or b n 0) written
          ∙ byte_there mid i n room (⊎_elim (λ before. inl (omega (arith, before, over)))
          (λ behind. inr (omega (arith, behind))) out)
          ∙ is.kept n (⊎_elim (λ before. inl before) (λ behind. inr (omega (arith, behind))) out);
      gone = λ n from_n to_n.
          ap (λ (b : List ℕ). get_or b n 0) written
          ∙ elim (cases_lt n (16 * i)) [
            | inl before ↦ byte_there mid i n room (inl before) ∙ is.gone n from_n before
            | inr here ↦ byte_here mid i n room here (omega (arith, to_n))
          ];
    }

-- ---- what that says of whole entries

-- an entry all of whose bytes are kept
pub entry_kept : (from to j : ℕ) (old new : List ℕ)
    → IsCleared from to old new
    → (j < from) ⊎ (to ≤ j)
    → entry_at new j ≡ entry_at old j
unfolding entry_at
entry_kept from to j old new is out =
    let number : (at : ℕ) → 16 * j ≤ at → at + 8 ≤ 16 * j + 16
    → le_at w64 new at ≡ le_at w64 old at =
    λ at over below. ap (from_le_bytes w64) (same_field new old at 8 is.long
    (λ n n_over n_below.
    is.kept n (⊎_elim (λ before. inl (omega (arith, before, below, n_below)))
    (λ behind. inr (omega (arith, behind, over, n_over))) out))) in
    let old_same = number (16 * j) (omega arith) (omega arith) in
    let new_same = number (16 * j + 8) (omega arith) (omega arith) in
    (λ k. record { old_chunk = old_same k; new_chunk = new_same k })

-- one all of whose bytes are zeros
pub entry_gone : (from to j : ℕ) (old new : List ℕ)
    → IsCleared from to old new
    → from ≤ j
    → j < to
    → 16 * j + 16 ≤ length new
    → entry_at new j ≡ no_exception
unfolding entry_at
entry_gone from to j old new is over below room =
    let number : (at : ℕ) → 16 * j ≤ at → at + 8 ≤ 16 * j + 16 → le_at w64 new at ≡ 0 =
    λ at at_over at_below.
    let long : length (field new at 8) ≡ 8 =
    length-field new at 8 (omega (arith, at_below, room)) in
    let zeros : field new at 8 ≡ to_le_bytes w64 0 =
    ext_get_or 0 (field new at 8) (to_le_bytes w64 0) long
    (λ n n_below.
    let n_in : n < 8 = omega (arith, n_below, long) in
    get_or-field new at 8 n n_in
    ∙ is.gone (at + n) (omega (arith, at_over, over)) (omega (arith, at_below, n_in, below))
    ∙ sym (zero_byte n n_in)) in
    ap (from_le_bytes w64) zeros ∙ from_le_bytes-to_le_bytes_8 0 (omega arith) in
    let old_gone = number (16 * j) (omega arith) (omega arith) in
    let new_gone = number (16 * j + 8) (omega arith) (omega arith) in
    (λ k. record { old_chunk = old_gone k; new_chunk = new_gone k })

-- ---- one sector more

pub cleared_at : (first end n from to : ℕ) (old new : List ℕ)
    → from ≡ first - sector_entries * n
    → to ≡ min (end - sector_entries * n) sector_entries
    → IsCleared from to old new
    → IsClearedAt first end n old new
cleared_at first end n from to old new from_is to_is is =
    subst (λ (k : ℕ). IsCleared k (min (end - sector_entries * n) sector_entries) old new) from_is
    (subst (λ (k : ℕ). IsCleared from k old new) to_is is)

pub here_is : (old new : Image) (at s : ℕ) (bytes : List ℕ)
    → at ≡ s
    → new ≡ set_sector old at bytes
    → new s ≡ bytes
here_is old new at s bytes is written = wrote_here old new at bytes written s (sym is)

pub there_is : (old new : Image) (at s : ℕ) (bytes : List ℕ)
    → s ≢ at
    → new ≡ set_sector old at bytes
    → new s ≡ old s
there_is old new at s bytes other written = wrote_there old new at bytes written s other

pub touches_clearing : {D : Type 0} (g : Ghosts D) (k : Chunk) (store : List ℕ)
    (first end n at : ℕ) (was bytes : List ℕ) (start before mid new : D)
    → Touches g (IsClearing k store first end (g.seen start)) start mid
    → (g.is_modelled → was ≡ g.seen before at)
    → (g.is_modelled
    → g.seen before (page_sector k store n) ≡ g.seen start (page_sector k store n))
    → Touches g (IsAt at bytes) mid new
    → at ≡ page_sector k store n
    → IsOfThem first end n
    → IsClearedAt first end n was bytes
    → Touches g (IsClearing k store first end (g.seen start)) start new
touches_clearing {D} g k store first end n at was bytes start before mid new so_far read same more
    at_is them cleared =
    record {
      quiet = quiet_then g start mid new so_far.quiet more.quiet;
      seen = λ t. same_then W (g.seen start) (g.seen mid) (g.seen new) (so_far.seen t)
          ((wide t).seen t);
      crash = λ t. (joined t).crash t;
      time = λ t. (joined t).time t;
    }
  where
    W : ℕ → List ℕ → Type 0
    W = IsClearing k store first end (g.seen start)

    one : g.is_modelled → (s : ℕ) (b : List ℕ) → IsAt at bytes s b
        → IsClearing k store first end (g.seen start) s b
    one t s b is =
        let here : s ≡ page_sector k store n = is.0 ∙ at_is in
        let old : was ≡ g.seen start s =
        read t ∙ ap (g.seen before) at_is ∙ same t ∙ ap (g.seen start) (sym here) in
        record {
          sector = n;
          within = them;
          here = here;
          cleared =
              subst (λ (x : List ℕ). IsClearedAt first end n x b) old
              (subst (IsClearedAt first end n was) (sym is.1) cleared);
        }

    wide : g.is_modelled → Touches g (IsClearing k store first end (g.seen start)) mid new
    wide t = touches_wider g (IsClearing k store first end (g.seen start))
        (IsAt at bytes) mid new more (one t)

    joined : g.is_modelled → Touches g (IsClearing k store first end (g.seen start)) start new
    joined t = touches_then g (IsClearing k store first end (g.seen start)) start mid new so_far
        (wide t)
