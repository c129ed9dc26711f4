-- A store that is written without exceptions: its list is empty, and ends clean.
use Rattle.std.proofs.Common.{◌≡◌, ◌∙◌, ℕ, ◌+◌, ◌<◌, List, [], Result, Ok, Err, true, refl, sym, ap}
use Rattle.std.proofs.Common.{arith}
use Rattle.std.specs.Prelude.{OnOk, All, replicate, take, ◌-◌, ◌*◌}
use Rattle.std.specs.Int.{w64, from_le_bytes}
use Rattle.std.proofs.lemmas.List.{drop-replicate, take-replicate}
use Rattle.vab_bytes.specs.Number.{field}
use Rattle.vab_disk.specs.Disk.{Image}
use Rattle.vab_space.specs.declared.Chunk.TheVariants.{One}
use Rattle.vab_space.specs.Chunks.{chunks_for}
use Rattle.vab_exceptions.specs.Entries.{area_bytes, entry_at, firsts}
use Rattle.vab_exceptions.proofs.EntryLaws.{put_none}
use Rattle.vab_store.specs.Clean.{ends_clean}
use Rattle.vab_store.specs.Layout.{chunk_bytes}
use Rattle.vab_store.specs.Scan.{scan_of}
use Rattle.vab_store.specs.Writing.{planned_of, page_entries_of, HoldsStore}
use Rattle.vab_store.proofs.CleanLaws.{clear_of}
use Rattle.vab_store.proofs.WrittenLaws.{store_block-page}

pub always : {A E : Type 0} (r : Result A E) (P : Type 0) → P → OnOk r P
always (Ok x) P is = is
always (Err e) P is = tt

-- an entry of a page of zeros
zeros_entry : (i : ℕ) → i < 256 → (entry_at (replicate 4096 0) i).new_chunk ≡ 0
unfolding entry_at
zeros_entry i below =
    let at : ℕ = 16 * i + 8 in
    let zeros : field (replicate 4096 0) at 8 ≡ replicate 8 0 =
    ap (take 8) (drop-replicate at 4096 0)
    ∙ take-replicate 8 (4096 - at) 0 (omega (arith, below)) in
    ap (from_le_bytes w64) zeros

no_planned : planned_of One [] ≡ []
unfolding firsts
no_planned = refl

no_entries : page_entries_of One [] 0 ≡ []
unfolding firsts
no_entries = refl

pub blank_list : (store : List ℕ) (image : Image)
    → ((bound : ℕ)
    → All (λ old. old < chunks_for One bound) []
    → scan_of One store bound image ≡ Ok (planned_of One []))
    → (bound : ℕ)
    → scan_of One store bound image ≡ Ok []
blank_list store image scanned bound =
    scanned bound (λ k d lt. absurd (omega (arith, lt))) ∙ ap Ok no_planned

pub blank_clean : (store : List ℕ) (image : Image)
    → HoldsStore One store [] [] image 2
    → ends_clean store 0 image ≡ true
unfolding ends_clean
blank_clean store image holds =
    let page : chunk_bytes store image 1 ≡ replicate 4096 0 =
    holds 1 (omega arith)
    ∙ store_block-page One [] [] 0
    ∙ ap (area_bytes 4096) no_entries
    ∙ sym (put_none 4096) in
    clear_of (chunk_bytes store image 1) 0
    (λ i from below.
    ap (λ (b : List ℕ). (entry_at b i).new_chunk) page ∙ zeros_entry i below)
