-- What is written over a partition is read in its place: a block as it was written last, and each
-- other block as it is below.
use Rattle.std.proofs.Common.{◌≡◌, ◌≢◌, ◌∙◌, ℕ, ◌+◌, ◌*◌, ◌<◌, ◌≤◌, Bool, true, false, eqb}
use Rattle.std.proofs.Common.{List, [], ◌∷◌, ◌++◌, length, inl, inr, refl, sym, ap, subst, arith}
use Rattle.std.specs.Prelude.{◌==◌, ◌||◌, if◌then◌else◌, All}
use Rattle.std.specs.List.{list_any}
use Rattle.std.proofs.lemmas.Bool.{cases_Bool, cases_lt, eqb-true, eq-eqb}
use Rattle.std.proofs.lemmas.List.Elements.{All-head, All-tail}
use Rattle.vab_bytes.proofs.NumberLaws.{length-put_at, field-put_at_same, field-put_at_below}
use Rattle.vab_bytes.proofs.NumberLaws.{field-put_at_above}
use Rattle.vab_model.specs.declared.state.Overlay.{Overlay}
use Rattle.vab_model.specs.Over.{with_block, put_block, written_over, blank_overlay}
use Rattle.vab_model.specs.Plans.{blocks_in}
use Rattle.vab_model.specs.Staged.{block_at}
use Rattle.vab_model.specs.Writes.{BlockWrite, IsWholeWrite, written_all, last_written}
use Rattle.vab_model.specs.Writes.{LastWriteIsRead}

-- ---- one write

pub put_long : (bytes : List ℕ) (block : ℕ) (from : List ℕ)
    → length from ≡ 4096
    → block < blocks_in bytes
    → length (put_block bytes block from) ≡ length bytes
put_long bytes block from long low =
    length-put_at bytes (4096 * block) from (omega (arith, long, low))

-- it is read in its block
pub put_reads : (bytes : List ℕ) (block : ℕ) (from : List ℕ)
    → length from ≡ 4096
    → block < blocks_in bytes
    → block_at (put_block bytes block from) block ≡ from
put_reads bytes block from long low =
    field-put_at_same bytes (4096 * block) 4096 from (omega (arith, low)) long

-- and changes no other
pub put_keeps : (bytes : List ℕ) (block other : ℕ) (from : List ℕ)
    → length from ≡ 4096
    → block < blocks_in bytes
    → block ≢ other
    → block_at (put_block bytes block from) other ≡ block_at bytes other
put_keeps bytes block other from long low apart =
    let fits : 4096 * block + length from ≤ length bytes = omega (arith, long, low) in
    elim (cases_lt other block) [
      | inl below ↦
          field-put_at_below bytes (4096 * block) from (4096 * other) 4096 fits
          (omega (arith, below))
      | inr above ↦
          field-put_at_above bytes (4096 * block) from (4096 * other) 4096 fits
          (omega (arith, above, apart, long))
    ]

-- one or the other
pub put_at_block : (bytes : List ℕ) (w : BlockWrite) (block : ℕ)
    → IsWholeWrite (blocks_in bytes) w
    → block_at (put_block bytes w.block w.bytes) block
    ≡ (if w.block == block then w.bytes else block_at bytes block)
put_at_block bytes w block is = elim (cases_Bool (eqb w.block block)) [
  | inl t ↦
      let same : w.block ≡ block = eqb-true w.block block t in
      rw t
      (ap (block_at (put_block bytes w.block w.bytes)) (sym same)
      ∙ put_reads bytes w.block w.bytes is.long is.low)
  | inr f ↦
      rw f
      (put_keeps bytes w.block block w.bytes is.long is.low
      (λ same. let no : true ≡ false = sym (eq-eqb w.block block same) ∙ f in cc))
]

-- ---- a list of writes, one after another

reads_all : (ws : List BlockWrite) (o : Overlay) (blocks block : ℕ)
    → blocks ≡ blocks_in o.bytes
    → All (IsWholeWrite blocks) ws
    → block_at (written_all ws o).bytes block ≡ last_written ws block (block_at o.bytes block)
reads_all [] o blocks block same all = refl
reads_all (w ∷ ws) o blocks block same all =
    let first : IsWholeWrite (blocks_in o.bytes) w =
    subst (λ (n : ℕ). IsWholeWrite n w) same (All-head (IsWholeWrite blocks) w ws all) in
    let next : Overlay = written_over w.block w.bytes o in
    let long = put_long o.bytes w.block w.bytes first.long first.low in
    let stays : blocks ≡ blocks_in next.bytes = omega (arith, long, same) in
    reads_all ws next blocks block stays (All-tail (IsWholeWrite blocks) w ws all)
    ∙ ap (last_written ws block) (put_at_block o.bytes w block first)

stays_all : (ws : List BlockWrite) (o : Overlay) (blocks : ℕ)
    → blocks ≡ blocks_in o.bytes
    → All (IsWholeWrite blocks) ws
    → length (written_all ws o).bytes ≡ length o.bytes
stays_all [] o blocks same all = refl
stays_all (w ∷ ws) o blocks same all =
    let first : IsWholeWrite (blocks_in o.bytes) w =
    subst (λ (n : ℕ). IsWholeWrite n w) same (All-head (IsWholeWrite blocks) w ws all) in
    let next : Overlay = written_over w.block w.bytes o in
    let long = put_long o.bytes w.block w.bytes first.long first.low in
    let stays : blocks ≡ blocks_in next.bytes = omega (arith, long, same) in
    stays_all ws next blocks stays (All-tail (IsWholeWrite blocks) w ws all) ∙ long

-- ---- which blocks are written

any_push : (xs : List ℕ) (x block : ℕ)
    → list_any (λ b. b == block) (xs ++ x ∷ []) ≡ (list_any (λ b. b == block) xs || x == block)
any_push [] x block = elim (cases_Bool (eqb x block)) [
  | inl t ↦ rw t refl
  | inr f ↦ rw f refl
]
any_push (y ∷ ys) x block = elim (cases_Bool (eqb y block)) [
  | inl t ↦ rw t refl
  | inr f ↦ rw f (any_push ys x block)
]

or_true : (a : Bool) → (a || true) ≡ true
or_true true = refl
or_true false = refl

or_false : (a : Bool) → (a || false) ≡ a
or_false true = refl
or_false false = refl

with_any : (x block : ℕ) (xs : List ℕ)
    → list_any (λ b. b == block) (with_block x xs)
    ≡ (list_any (λ b. b == block) xs || x == block)
with_any x block xs = elim (cases_Bool (list_any (λ b. b == x) xs)) [
  | inl t ↦ elim (cases_Bool (eqb x block)) [
    | inl same ↦
        let is : x ≡ block = eqb-true x block same in
        rw (t, same)
        (ap (λ (n : ℕ). list_any (λ b. b == n) xs) (sym is)
        ∙ t
        ∙ sym (or_true (list_any (λ b. b == block) xs)))
    | inr f ↦ rw (t, f) (sym (or_false (list_any (λ b. b == block) xs)))
  ]
  | inr f ↦ rw f (any_push xs x block)
]

or_assoc : (a b c : Bool) → ((a || b) || c) ≡ (a || (b || c))
or_assoc true b c = refl
or_assoc false b c = refl

written_any : (ws : List BlockWrite) (o : Overlay) (block : ℕ)
    → list_any (λ b. b == block) (written_all ws o).blocks
    ≡ (list_any (λ b. b == block) o.blocks
    || list_any (λ (w : BlockWrite). w.block == block) ws)
written_any [] o block = sym (or_false (list_any (λ b. b == block) o.blocks))
written_any (w ∷ ws) o block =
    let rest : Bool = list_any (λ (x : BlockWrite). x.block == block) ws in
    written_any ws (written_over w.block w.bytes o) block
    ∙ ap (λ (b : Bool). b || rest) (with_any w.block block o.blocks)
    ∙ or_assoc (list_any (λ b. b == block) o.blocks) (w.block == block) rest

-- Over any list of writes a block reads as the last write of it in the list, and else as below.
pub last_write_is_read : LastWriteIsRead
last_write_is_read image store writes all =
    let o : Overlay = blank_overlay image store in
    record {
      reads = λ block low. reads_all writes o (blocks_in image.bytes) block refl all;
      stays = stays_all writes o (blocks_in image.bytes) refl all;
      written = written_any writes o;
    }
