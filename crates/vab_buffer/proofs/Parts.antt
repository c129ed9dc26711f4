-- Sectors in a buffer, and an image with some of them.
use Rattle.std.proofs.Common.{◌≡◌, ◌⊎◌, inl, inr, ⊎_elim, ℕ, zero, suc, ◌+◌, ◌-◌, ◌*◌, ◌≤◌, ◌<◌}
use Rattle.std.proofs.Common.{List, ◌++◌, length, take, drop, refl, sym, ◌∙◌, ap, arith}
use Rattle.std.proofs.Common.{length-append, length-take-le}
use Rattle.std.proofs.lemmas.Bool.{cases_lt}
use Rattle.std.proofs.lemmas.List.{take_all, take-append-le, take-take, drop-take}
use Rattle.std.proofs.lemmas.Slice.{take-put_mid, take-put_mid_below}
use Rattle.std.proofs.Math.Seq.{drop-append_seam, take-append_seam}
use borrow.Rule.Slice.PartMut.{put_mid}
use Rattle.vab_disk.specs.Disk.{Image, IsAt, Writes, set_sector}
use Rattle.vab_disk.specs.Written.{same_image}
use Rattle.vab_buffer.specs.DiskLaws.{set_inside, set_outside, cases_among}
use Rattle.vab_gate.specs.Gate.{part, set_sectors, sectors_at, IsAmong}
use Rattle.vab_gate.proofs.Blocks.{set_more, set_none}

-- a sector is what stands behind those before it
part_of_front : (k : ℕ) (bytes : List ℕ)
    → part k bytes ≡ drop (512 * k) (take (512 * k + 512) bytes)
part_of_front k bytes = sym (drop-take (512 * k) 512 bytes)

pub part_same_front : (k n : ℕ) (a b : List ℕ)
    → 512 * k + 512 ≤ n
    → take n a ≡ take n b
    → part k a ≡ part k b
part_same_front k n a b le same =
    let front : take (512 * k + 512) a ≡ take (512 * k + 512) b =
    sym (take-take (512 * k + 512) n a le)
    ∙ ap (λ (l : List ℕ). take (512 * k + 512) l) same
    ∙ take-take (512 * k + 512) n b le in
    part_of_front k a
    ∙ ap (λ (l : List ℕ). drop (512 * k) l) front
    ∙ sym (part_of_front k b)

pub part_take : (k n : ℕ) (bytes : List ℕ)
    → 512 * k + 512 ≤ n
    → part k (take n bytes) ≡ part k bytes
part_take k n bytes le =
    part_same_front k n (take n bytes) bytes le (take-take n n bytes (omega arith))

pub part_put_before : (k a n : ℕ) (bytes from : List ℕ)
    → 512 * k + 512 ≤ a
    → a ≤ length bytes
    → part k (put_mid a n bytes from) ≡ part k bytes
part_put_before k a n bytes from le fits =
    part_same_front k a (put_mid a n bytes from) bytes le
    (take-put_mid_below a n bytes from a (omega arith) fits)

pub part_put_here : (k n : ℕ) (bytes from : List ℕ)
    → length from ≡ 512
    → 512 * k ≤ length bytes
    → part k (put_mid (512 * k) n bytes from) ≡ from
part_put_here k n bytes from long fits =
    let front : take (512 * k + 512) (put_mid (512 * k) n bytes from)
    ≡ take (512 * k) bytes ++ from =
    take-put_mid (512 * k) n bytes from (512 * k + 512) (omega (arith, long)) fits in
    let before : length (take (512 * k) bytes) ≡ 512 * k = length-take-le (512 * k) bytes fits in
    part_of_front k (put_mid (512 * k) n bytes from)
    ∙ ap (λ (l : List ℕ). drop (512 * k) l) front
    ∙ ap (λ (m : ℕ). drop m (take (512 * k) bytes ++ from)) (sym before)
    ∙ drop-append_seam (take (512 * k) bytes) from

pub set_same_parts : (n : ℕ) (image : Image) (at : ℕ) (a b : List ℕ)
    → ((k : ℕ) → k < n → part k a ≡ part k b)
    → set_sectors n image at a ≡ set_sectors n image at b
set_same_parts n image at a b same =
    same_image (set_sectors n image at a) (set_sectors n image at b) (λ s.
    elim (cases_among at n s) [
      | inl here ↦
          set_inside n image at a s here.0 here.1
          ∙ same (s - at) (omega (arith, here.0, here.1))
          ∙ sym (set_inside n image at b s here.0 here.1)
      | inr out ↦ set_outside n image at a s out ∙ sym (set_outside n image at b s out)
    ])

-- One sector more behind n of them, or the first where there is none.
module _
    (n first first' at : ℕ)
    (bytes from bytes' : List ℕ)
    (takes : (n ≡ 0) ⊎ (at ≡ first + n))
    (begins : first' ≡ at - n)
    (fits : n ≤ at)
    (front : (k : ℕ) → k < n → part k bytes' ≡ part k bytes)
    (last : part n bytes' ≡ from) where
  pub more_over : (image : Image)
      → set_sectors (n + 1) image first' bytes'
      ≡ set_sector (set_sectors n image first bytes) at from
  more_over image =
      let ends : first' + n ≡ at = omega (arith, begins, fits) in
      let same : set_sectors n image first' bytes' ≡ set_sectors n image first bytes =
      ⊎_elim
      (λ none.
      ap (λ (m : ℕ). set_sectors m image first' bytes') none
      ∙ sym (set_none image first' bytes')
      ∙ set_none image first bytes
      ∙ ap (λ (m : ℕ). set_sectors m image first bytes) (sym none))
      (λ next.
      let begin : first' ≡ first = omega (arith, next, begins) in
      ap (λ (m : ℕ). set_sectors n image m bytes') begin
      ∙ set_same_parts n image first bytes' bytes front)
      takes in
      sym (set_more n image first' bytes')
      ∙ (λ i. set_sector (same i) (ends i) (last i))

  pub more_kept : Writes (IsAt at from) (IsAmong n first bytes) (IsAmong (n + 1) first' bytes')
  more_kept = record {
    keeps = λ s b was.
        let next : at ≡ first + n =
        ⊎_elim (λ none. absurd (omega (arith, none, was.first, was.last))) (λ next. next) takes in
        let begin : first' ≡ first = omega (arith, next, begins) in
        record {
          first = omega (arith, begin, was.first);
          last = omega (arith, begin, was.last);
          here =
              was.here
              ∙ sym (front (s - first) (omega (arith, was.first, was.last)))
              ∙ ap (λ (m : ℕ). part (s - m) bytes') (sym begin);
        };
    adds = λ s b now.
        elim (cases_lt s at) [
          | inl before ↦
              let next : at ≡ first + n =
              ⊎_elim (λ none. absurd (omega (arith, none, before, begins, now.first)))
              (λ next. next) takes in
              let begin : first' ≡ first = omega (arith, next, begins) in
              inl (record {
                first = omega (arith, begin, now.first);
                last = omega (arith, next, before);
                here =
                    now.here
                    ∙ ap (λ (m : ℕ). part (s - m) bytes') begin
                    ∙ front (s - first) (omega (arith, begin, now.first, next, before));
              })
          | inr after ↦
              let here : s ≡ at = omega (arith, after, now.last, begins, fits) in
              let k : s - first' ≡ n = omega (arith, here, begins, fits) in
              inr (here, now.here ∙ ap (λ (m : ℕ). part m bytes') k ∙ last)
        ];
  }

-- a vector that is written over whole
pub refilled : (n : ℕ) (bytes rest : List ℕ) → length bytes ≡ n → take n (bytes ++ rest) ≡ bytes
refilled n bytes rest long =
    ap (λ (m : ℕ). take m (bytes ++ rest)) (sym long) ∙ take-append_seam bytes rest

sectors_long : (n : ℕ) (image : Image) (at : ℕ)
    → ((s : ℕ) → at ≤ s → s < at + n → length (image s) ≡ 512)
    → length (sectors_at n image at) ≡ 512 * n
unfolding sectors_at
sectors_long zero image at long = refl
sectors_long (suc n) image at long =
    let front : length (sectors_at n image at) ≡ 512 * n =
    sectors_long n image at (λ s from below. long s from (omega arith)) in
    let last : length (image (at + n)) ≡ 512 = long (at + n) (omega arith) (omega arith) in
    omega (arith, length-append (sectors_at n image at) (image (at + n)), front, last)

sectors_part : (n : ℕ) (image : Image) (at : ℕ)
    → ((s : ℕ) → at ≤ s → s < at + n → length (image s) ≡ 512)
    → (k : ℕ)
    → k < n
    → part k (sectors_at n image at) ≡ image (at + k)
unfolding sectors_at
sectors_part zero image at long k lt = absurd (omega arith)
sectors_part (suc n) image at long k lt =
    let within = λ (s : ℕ) (from : at ≤ s) (below : s < at + n). long s from (omega arith) in
    let front = sectors_at n image at in
    let last = image (at + n) in
    let front_long : length front ≡ 512 * n = sectors_long n image at within in
    let last_long : length last ≡ 512 = long (at + n) (omega arith) (omega arith) in
    elim (cases_lt k n) [
      | inl before ↦
          part_same_front k (512 * n) (front ++ last) front (omega (arith, before))
          (take-append-le (512 * n) front last (omega (arith, front_long)))
          ∙ sectors_part n image at within k before
      | inr after ↦
          let here : k ≡ n = omega (arith, lt, after) in
          let rest : drop (512 * k) (front ++ last) ≡ last =
          ap (λ (m : ℕ). drop m (front ++ last)) (omega (arith, here, front_long))
          ∙ drop-append_seam front last in
          ap (λ (l : List ℕ). take 512 l) rest
          ∙ take_all 512 last (omega (arith, last_long))
          ∙ ap (λ (m : ℕ). image (at + m)) (sym here)
    ]

-- the sectors that stand in front of a buffer
pub front_parts : (n : ℕ) (image : Image) (at : ℕ) (bytes : List ℕ)
    → take (512 * n) bytes ≡ sectors_at n image at
    → ((s : ℕ) → at ≤ s → s < at + n → length (image s) ≡ 512)
    → (k : ℕ)
    → k < n
    → part k bytes ≡ image (at + k)
front_parts n image at bytes is long k lt =
    sym (part_take k (512 * n) bytes (omega (arith, lt)))
    ∙ ap (λ (l : List ℕ). part k l) is
    ∙ sectors_part n image at long k lt

-- the front of a buffer has the buffer's sectors
module _
    (n m : ℕ)
    (bytes front : List ℕ)
    (is : front ≡ take (512 * n) bytes)
    (count : m ≡ n) where
  part_front : (k : ℕ) → k < n → part k front ≡ part k bytes
  part_front k lt =
      ap (λ (l : List ℕ). part k l) is ∙ part_take k (512 * n) bytes (omega (arith, lt))

  pub set_front : (image : Image) (at : ℕ)
      → set_sectors m image at front ≡ set_sectors n image at bytes
  set_front image at =
      ap (λ (j : ℕ). set_sectors j image at front) count
      ∙ set_same_parts n image at front bytes part_front

  pub among_front : (at s : ℕ) (b : List ℕ) → IsAmong m at front s b → IsAmong n at bytes s b
  among_front at s b among = record {
    first = among.first;
    last = omega (arith, among.last, count);
    here = among.here ∙ part_front (s - at) (omega (arith, among.first, among.last, count));
  }

-- the sectors of a run that was filled from an image
pub filled_is : (first count : ℕ) (image : Image) (bytes : List ℕ)
    → take (512 * count) bytes ≡ sectors_at count image first
    → ((s : ℕ) → first ≤ s → s < first + count → length (image s) ≡ 512)
    → (s : ℕ) (b : List ℕ)
    → IsAmong count first bytes s b
    → b ≡ image s
filled_is first count image bytes is long s b among =
    let back : first + (s - first) ≡ s = omega (arith, among.first) in
    among.here
    ∙ front_parts count image first bytes is long (s - first)
    (omega (arith, among.first, among.last))
    ∙ ap image back
