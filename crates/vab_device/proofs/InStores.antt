-- What is read of the stores lies in their blocks.
use Rattle.std.proofs.Common.{◌≡◌, inl, inr, ◌⊎◌, ⊎_elim, ℕ, zero, suc, ◌+◌, ◌/◌, ◌<◌, List}
use Rattle.std.proofs.Common.{[], ◌∷◌, length, slice_index, Result, Ok, Err, refl, sym}
use Rattle.std.proofs.Common.{subst, arith}
use Rattle.std.specs.Prelude.{◌&&◌, Option, Some, None}
use Rattle.vab_disk.specs.Disk.{Image}
use Rattle.vab_disk.specs.Calls.{IsBetween}
use Rattle.vab_exceptions.specs.declared.area.Exception.{Exception}
use Rattle.vab_space.specs.declared.Chunk.{Chunk}
use Rattle.vab_space.specs.Chunks.{page_block, page_entries}
use Rattle.vab_space.proofs.ChunkLaws.{page_inside, chunks_fewer}
use Rattle.vab_store.specs.Reached.{IsReached}
use Rattle.vab_store.specs.Scan.{scan_of}
use Rattle.vab_store.specs.View.{Fits}
use Rattle.vab_store.proofs.ReachedLaws.{scan_kept}
use Rattle.vab_store.proofs.ScanLaws.{scan_of_ok}
use Rattle.vab_device.specs.declared.fault.StartFault.{StartFault}
use Rattle.vab_device.specs.Checks.{◌>>=◌}
use Rattle.vab_device.specs.Mounted.{blocks_there}
use Rattle.vab_device.specs.Reading.{IsOfBlocks, IsOfScan, IsOfStores}
use Rattle.vab_device.specs.Stores.{Wanted, Scanned, scan_by, scan_at, scans_in, scan_read, is_one}
use Rattle.vab_device.proofs.CheckLaws.{bound}
use Rattle.vab_device.proofs.StoreLaws.{scan_taken, clean_taken}

-- a sector of one of these stores
abbrev pub IsInStores : List (Result Wanted StartFault) → ℕ → Type 0
IsInStores [] s = ⊥
IsInStores (Err fault ∷ ws) s = IsInStores ws s
IsInStores (Ok w ∷ ws) s = IsOfBlocks (blocks_there w.store) s ⊎ IsInStores ws s

-- a sector of a block at an index
pub in_blocks : (blocks : List ℕ) (c s : ℕ)
    → c < length blocks
    → IsBetween (slice_index blocks c) (slice_index blocks c + 8) s
    → IsOfBlocks blocks s
in_blocks [] c s below is = absurd (omega (arith, below))
in_blocks (b ∷ bs) zero s below is = inl is
in_blocks (b ∷ bs) (suc c) s below is = inr (in_blocks bs c s (omega (arith, below)) is)

-- what a list that keeps its rules rests on lies in the store
reached_in : (k : Chunk) (store : List ℕ) (bound : ℕ) (es : List Exception) (s : ℕ)
    → Fits k bound store es
    → IsReached k store (length es) s
    → IsOfBlocks store s
reached_in k store bound es s fits (inl is) =
    in_blocks store 0 s (omega (arith, chunks_fewer k (length store) 2 fits.chunks)) is
reached_in k store bound es s fits (inr is) =
    in_blocks store (page_block k (is.entry / page_entries)) s
    (page_inside k (length store) (is.entry / page_entries)
    (omega (arith, is.within, fits.room)))
    is.here

-- a store whose blocks stay has the same list
pub scan_stays : (k : Chunk) (store : List ℕ) (old new : Image)
    → ((s : ℕ) → IsOfBlocks store s → new s ≡ old s)
    → (bound : ℕ) (es : List Exception)
    → scan_of k store bound old ≡ Ok es
    → scan_of k store bound new ≡ Ok es
scan_stays k store old new same bound es is =
    let was = scan_of_ok store bound old es is in
    scan_kept k store (length es) old new
    (λ s here. same s (reached_in k store bound es s was.fits here))
    bound es refl is

scan_in : (w : Wanted) (store : Option (List ℕ)) (image : Image) (x : Scanned) (s : ℕ)
    → scan_by w store image ≡ Ok x
    → IsOfScan w.chunk store (length x.exceptions) s
    → IsOfBlocks (blocks_there store) s
scan_in w None image x s is here = here
scan_in w (Some store) image x s is here =
    let read = scan_read w (scan_of w.chunk store (length w.base) image) in
    let whole = clean_taken (w.clean && is_one w.chunk) w.name store image read x is in
    let taken = scan_taken w (scan_of w.chunk store (length w.base) image) x whole in
    let was = scan_of_ok store (length w.base) image taken.0 taken.1 in
    reached_in w.chunk store (length w.base) taken.0 s was.fits
    (subst (λ (n : ℕ). IsReached w.chunk store n s) (sym taken.2) here)

wanted_in : (w : Wanted) (image : Image) (x : Scanned) (s : ℕ)
    → scan_at w image ≡ Ok x
    → IsOfScan w.chunk w.store (length x.exceptions) s
    → IsOfBlocks (blocks_there w.store) s
unfolding scan_at
wanted_in w image x s is here = scan_in w w.store image x s is here

pub in_stores : (ws : List (Result Wanted StartFault)) (xs : List Scanned) (image : Image) (s : ℕ)
    → scans_in ws image ≡ Ok xs
    → IsOfStores ws xs s
    → IsInStores ws s
in_stores [] xs image s is here = here
in_stores (w ∷ ws) [] image s is here = absurd here
in_stores (Err fault ∷ ws) (x ∷ xs) image s is here = absurd here
in_stores (Ok w ∷ ws) (x ∷ xs) image s is here =
    let first = bound (scan_at w image)
    (λ y. scans_in ws image >>= λ rest. Ok (y ∷ rest)) (x ∷ xs) is in
    let rest = bound (scans_in ws image) (λ rest. Ok (first.0 ∷ rest)) (x ∷ xs) first.2 in
    let whole : Ok (first.0 ∷ rest.0) ≡ Ok (x ∷ xs) = rest.2 in
    let head : first.0 ≡ x = cc in
    let tail : rest.0 ≡ xs = cc in
    ⊎_elim
    (λ there. inl (wanted_in w image x s
    (subst (λ (y : Scanned). scan_at w image ≡ Ok y) head first.1) there))
    (λ there. inr (in_stores ws xs image s
    (subst (λ (ys : List Scanned). scans_in ws image ≡ Ok ys) tail rest.1) there))
    here
