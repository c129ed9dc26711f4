-- Words and chunks one after another, as loops add them.
use Rattle.std.proofs.Common.{◌≡◌, ℕ, suc, ◌+◌, ◌-◌, ◌<◌, ◌≤◌, List, ◌++◌, Result, Ok, Err, refl}
use Rattle.std.proofs.Common.{sym, ap, ◌∙◌, append_assoc, append-nil, arith}
use Rattle.vab_sparse.specs.declared.head.Head.{Head}
use Rattle.vab_sparse.specs.declared.chunk.Chunk.{Chunk}
use Rattle.vab_sparse.specs.declared.fault.SparseFault.{SparseFault}
use Rattle.vab_sparse.specs.declared.fault.SparseFault.TheVariants as faults
use Rattle.vab_sparse.specs.Reading.{Fails, words_of, chunk_of, image_behind, chunks_of, ended}

pub one_more : (image word : List ℕ) (n i : ℕ)
    → i < n
    → (image ++ word) ++ words_of (n - (i + 1)) word ≡ image ++ words_of (n - i) word
unfolding words_of
one_more image word n i lt =
    let k : n - i ≡ suc (n - (i + 1)) = omega arith in
    rw k (append_assoc image word (words_of (n - (i + 1)) word))

pub no_more : (image word : List ℕ) (n i : ℕ) → n ≤ i → image ++ words_of (n - i) word ≡ image
unfolding words_of
no_more image word n i le = let k : n - i ≡ 0 = omega arith in rw k (append-nil image)

pub goes_on : (head : Head) (file image next : List ℕ) (n i left at : ℕ) (chunk : Chunk)
    (total : Result (List ℕ) SparseFault)
    → i < n
    → chunk_of head file left at ≡ Ok chunk
    → image_behind head file at chunk image ≡ Ok next
    → chunks_of (n - i) head file image left at ≡ total
    → chunks_of (n - (i + 1)) head file next (left - chunk.blocks) (at + chunk.size) ≡ total
unfolding chunks_of
goes_on head file image next n i left at chunk total lt is gives so_far =
    let k : n - i ≡ suc (n - (i + 1)) = omega arith in
    let one : chunks_of (n - i) head file image left at ≡ chunks_of (n - (i + 1)) head file next
    (left - chunk.blocks) (at + chunk.size) = rw (k, is) (rw gives refl) in
    sym one ∙ so_far

pub bad_chunk : (fault : SparseFault) (head : Head) (file image : List ℕ) (n i left at : ℕ)
    (total : Result (List ℕ) SparseFault)
    → i < n
    → Fails fault (chunk_of head file left at)
    → chunks_of (n - i) head file image left at ≡ total → Fails fault total
unfolding chunks_of
bad_chunk faults.NoMemory head file image n i left at total lt failed so_far = tt
bad_chunk fault head file image n i left at total lt failed so_far =
    let k : n - i ≡ suc (n - (i + 1)) = omega arith in
    let one : chunks_of (n - i) head file image left at ≡ Err fault = rw (k, failed) refl in
    sym so_far ∙ one

pub bad_image : (fault : SparseFault) (head : Head) (file image : List ℕ) (n i left at : ℕ)
    (chunk : Chunk) (total : Result (List ℕ) SparseFault)
    → i < n
    → chunk_of head file left at ≡ Ok chunk
    → Fails fault (image_behind head file at chunk image)
    → chunks_of (n - i) head file image left at ≡ total → Fails fault total
unfolding chunks_of
bad_image faults.NoMemory head file image n i left at chunk total lt is failed so_far = tt
bad_image fault head file image n i left at chunk total lt is failed so_far =
    let k : n - i ≡ suc (n - (i + 1)) = omega arith in
    let one : chunks_of (n - i) head file image left at ≡ Err fault = rw (k, is) (rw failed refl) in
    sym so_far ∙ one

pub is_done : (head : Head) (file image : List ℕ) (n i left at : ℕ)
    (total : Result (List ℕ) SparseFault)
    → n ≤ i
    → chunks_of (n - i) head file image left at ≡ total
    → ended head file image left at ≡ total
unfolding chunks_of
is_done head file image n i left at total le so_far = let k : n - i ≡ 0 = omega arith in
    ap (λ (j : ℕ). chunks_of j head file image left at) (sym k) ∙ so_far
