-- The blocks that a read of a partition takes, each as its first sector: those of its store, or its
-- own.
use Rattle.std.proofs.Common.{◌≡◌, ◌∙◌, ℕ, zero, suc, ◌+◌, ◌<◌, ◌≤◌, inl, inr, List, [], ◌∷◌}
use Rattle.std.proofs.Common.{length, get_or, Option, Some, None, refl, sym, ap, subst, arith}
use Rattle.std.specs.Prelude.{All}
use Rattle.std.proofs.lemmas.Bool.{cases_lt}
use Rattle.std.proofs.lemmas.List.{get_or_default, get_or_past}
use Rattle.std.proofs.lemmas.List.Elements.{All-nil, All-get_or, All-from_get_or}
use Rattle.vab_disk.specs.Disk.{Image}
use Rattle.vab_gate.specs.Gate.{sectors_at}
use Rattle.vab_exceptions.specs.declared.area.Exception.{Exception}
use Rattle.vab_space.specs.declared.Chunk.{Chunk}
use Rattle.vab_store.specs.Seen.{chosen_bytes, view_block}
use Rattle.vab_store.specs.View.{stored_at}
use Rattle.vab_store.proofs.StoredLaws.{stored_inside}
use Rattle.vab_device.specs.declared.device.Part.{Part}
use Rattle.vab_device.specs.declared.device.PartImage.{PartImage}
use Rattle.vab_device.specs.declared.device.PartImage.TheVariants.{Kept, Declared, Written}
use Rattle.vab_device.specs.Kept.{IsPart, IsStored}
use Rattle.vab_device.specs.Mounted.{blocks_there, sectors_by, sectors_read}
use Rattle.vab_device.specs.Stores.{sector_seen, sectors_seen}

-- ---- each block of the partition

seen_long : (k : Chunk) (store : List ℕ) (es : List Exception) (n : ℕ) (owns : List ℕ)
    → length (sectors_seen k store es n owns) ≡ length owns
seen_long k store es n [] = refl
seen_long k store es n (own ∷ owns) = ap suc (seen_long k store es (n + 1) owns)

seen_at : (k : Chunk) (store : List ℕ) (es : List Exception) (n : ℕ) (owns : List ℕ) (i : ℕ)
    → i < length owns
    → get_or (sectors_seen k store es n owns) i 0
    ≡ sector_seen store (get_or owns i 0) (stored_at k es (n + i))
seen_at k store es n [] i below = absurd (omega (arith, below))
seen_at k store es n (own ∷ owns) zero below =
    ap (λ (b : ℕ). sector_seen store own (stored_at k es b)) (omega arith)
seen_at k store es n (own ∷ owns) (suc i) below =
    seen_at k store es (n + 1) owns i (omega (arith, below))
    ∙ ap (λ (b : ℕ). sector_seen store (get_or owns i 0) (stored_at k es b)) (omega arith)

long_by : (p : Part) (image : PartImage) → length (sectors_by p image) ≡ length p.map
long_by p Kept = refl
long_by p Declared = refl
long_by p (Written k es) = seen_long k (blocks_there p.store) es 0 p.map

-- as many as the partition has blocks
pub read_long : (p : Part) → length (sectors_read p) ≡ length p.map
read_long p = long_by p p.image

-- ---- on the disk

chosen_on_disk : (size : ℕ) (store : List ℕ) (own : ℕ) (chosen : Option ℕ)
    → All (λ s. s + 8 ≤ size) store
    → own + 8 ≤ size
    → sector_seen store own chosen + 8 ≤ size
chosen_on_disk size store own None stored owned = owned
chosen_on_disk size store own (Some block) stored owned = elim (cases_lt block (length store)) [
  | inl inside ↦ All-get_or (λ (s : ℕ). s + 8 ≤ size) store block own inside stored
  | inr past ↦ subst (λ (s : ℕ). s + 8 ≤ size) (sym (get_or_past store block own past)) owned
]

seen_on_disk : (size : ℕ) (k : Chunk) (store : List ℕ) (es : List Exception) (owns : List ℕ)
    → All (λ s. s + 8 ≤ size) store
    → All (λ s. s + 8 ≤ size) owns
    → All (λ s. s + 8 ≤ size) (sectors_seen k store es 0 owns)
seen_on_disk size k store es owns stored owned =
    All-from_get_or (λ (s : ℕ). s + 8 ≤ size) (sectors_seen k store es 0 owns) 0
    (λ i below.
    let inside : i < length owns = omega (arith, below, seen_long k store es 0 owns) in
    subst (λ (s : ℕ). s + 8 ≤ size) (sym (seen_at k store es 0 owns i inside))
    (chosen_on_disk size store (get_or owns i 0) (stored_at k es (0 + i)) stored
    (All-get_or (λ (s : ℕ). s + 8 ≤ size) owns i 0 inside owned)))

store_on_disk : (size : ℕ) (base : List ℕ) (store : Option (List ℕ)) (k : Chunk)
    (es : List Exception)
    → IsStored size base store (Written k es)
    → All (λ s. s + 8 ≤ size) (blocks_there store)
store_on_disk size base None k es kept = All-nil (λ (s : ℕ). s + 8 ≤ size)
store_on_disk size base (Some store) k es kept = kept.0.on_disk

on_disk_by : (size : ℕ) (p : Part) (image : PartImage)
    → All (λ s. s + 8 ≤ size) p.map
    → IsStored size p.map p.store image
    → All (λ s. s + 8 ≤ size) (sectors_by p image)
on_disk_by size p Kept owned kept = owned
on_disk_by size p Declared owned kept = owned
on_disk_by size p (Written k es) owned kept =
    seen_on_disk size k (blocks_there p.store) es p.map
    (store_on_disk size p.map p.store k es kept)
    owned

pub read_on_disk : (size : ℕ) (p : Part)
    → IsPart size p
    → All (λ s. s + 8 ≤ size) (sectors_read p)
read_on_disk size p kept = on_disk_by size p p.image kept.on_disk kept.store

-- ---- a written partition

-- its store, with the rules of its exceptions
pub record IsWritten (size : ℕ) (p : Part) (store : List ℕ) (k : Chunk) (es : List Exception)
    : Type 0 where
  pub store_is : p.store ≡ Some store
  pub image_is : p.image ≡ Written k es
  pub kept : IsPart size p

module _ (size : ℕ) (p : Part) (store : List ℕ) (k : Chunk) (es : List Exception)
    (is : IsWritten size p store k es) where
  stored : IsStored size p.map (Some store) (Written k es)
  stored =
      subst (λ (x : PartImage). IsStored size p.map (Some store) x) is.image_is
      (subst (λ (o : Option (List ℕ)). IsStored size p.map o p.image) is.store_is is.kept.store)

  chosen_block : (image : Image) (block : ℕ) (chosen : Option ℕ)
      → stored_at k es block ≡ chosen
      → chosen_bytes p.map store image block chosen
      ≡ sectors_at 8 image (sector_seen store (get_or p.map block 0) chosen)
  chosen_block image block None view = refl
  chosen_block image block (Some there) view =
      ap (λ (s : ℕ). sectors_at 8 image s)
      (get_or_default store there 0 (get_or p.map block 0)
      (stored_inside k (length p.map) store es block there stored.1 view))

  sectors_are : sectors_seen k store es 0 p.map ≡ sectors_read p
  sectors_are = (λ i. sectors_by (record p { store = sym is.store_is i }) (sym is.image_is i))

  -- a block that is read through the store is that which a read of the partition takes
  pub seen_block : (image : Image) (block : ℕ)
      → block < length p.map
      → view_block k p.map store es image block
      ≡ sectors_at 8 image (get_or (sectors_read p) block 0)
  seen_block image block below =
      chosen_block image block (stored_at k es block) refl
      ∙ ap (λ (s : ℕ). sectors_at 8 image s)
      (ap (λ (b : ℕ). sector_seen store (get_or p.map block 0) (stored_at k es b)) (omega arith)
      ∙ sym (seen_at k store es 0 p.map block below)
      ∙ ap (λ (l : List ℕ). get_or l block 0) sectors_are)
