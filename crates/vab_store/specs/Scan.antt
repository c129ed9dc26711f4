-- What the bytes of a store mean: a list of exceptions, or the first fault.
use Rattle.std.specs.Prelude.{◌≡◌, ℕ, zero, suc, ◌<◌, List, length, take, take_while, Bool, ◌&&◌}
use Rattle.std.specs.Prelude.{◌||◌, ◌==◌, nat_lt, Option, Some, None, Result, Ok, Err}
use Rattle.std.specs.Prelude.{if◌then◌else◌}
use Rattle.vab_disk.specs.Disk.{Image}
use Rattle.vab_exceptions.specs.declared.area.Exception.{Exception}
use Rattle.vab_exceptions.specs.declared.header.HeaderFault.{HeaderFault}
use Rattle.vab_exceptions.specs.declared.header.HeaderFault.TheVariants.{BadChunk}
use Rattle.vab_space.specs.declared.Chunk.{Chunk}
use Rattle.vab_space.specs.Chunks.{blocks_in, chunks_for, is_data}
use Rattle.vab_exceptions.specs.Entries.{firsts, listed}
use Rattle.vab_exceptions.specs.Header.{header_of}
use Rattle.vab_store.specs.declared.fault.StoreFault.{StoreFault}
use Rattle.vab_store.specs.declared.fault.StoreFault.TheVariants as faults
use Rattle.vab_store.specs.Layout.{chunks_of, chunk_bytes, slot_at, slots_of}
use Rattle.vab_store.specs.View.{exception_at, Fits}

-- the one, or else the other
abbrev pub or_else : {X : Type 0} → Option X → Option X → Option X
or_else None other = other
or_else (Some x) other = Some x

-- what a function gives at the first number below n at which it gives something
unfoldable pub first_some : {X : Type 0} → (ℕ → Option X) → ℕ → Option X
first_some f zero = None
first_some f (suc n) = or_else (first_some f n) (f n)

-- two exceptions have a chunk in common
abbrev pub share : Exception → Exception → Bool
share a b = a.old_chunk == b.old_chunk || a.new_chunk == b.new_chunk

-- the first exception with which the k-th has a chunk in common
unfoldable pub repeat_at : List Exception → ℕ → Option (ℕ × ℕ)
repeat_at es k =
    first_some (λ j. if share (exception_at es j) (exception_at es k) then Some (j, k) else None) k

-- two exceptions that have a chunk in common: the least second one, with the least first one
unfoldable pub repeat_of : List Exception → Option (ℕ × ℕ)
repeat_of es = first_some (repeat_at es) (length es)

-- its old chunk is below the bound, and its new chunk is a data chunk inside the store
abbrev pub lies : Chunk → ℕ → ℕ → Exception → Bool
lies k chunks bound e =
    nat_lt e.old_chunk bound && (nat_lt e.new_chunk chunks && is_data k e.new_chunk)

-- the exceptions of a store's pages, up to the entry that ends them
unfoldable pub list_of : Chunk → List ℕ → Image → List Exception
list_of k map image = listed (firsts (slot_at k map image) (slots_of k map))

-- those before the first that doesn't lie there
unfoldable pub good_of : Chunk → ℕ → ℕ → List Exception → List Exception
good_of k chunks bound es = take_while (lies k chunks bound) es

abbrev pub unless_repeated : {X : Type 0}
    → Option (ℕ × ℕ)
    → Result X StoreFault
    → Result X StoreFault
unless_repeated None means = means
unless_repeated (Some (j, k)) means = Err (faults.Repeated j k)

-- a header has to say that the chunks are of this size
abbrev pub after_header : {X : Type 0}
    → Chunk
    → Result Chunk HeaderFault
    → Result X StoreFault
    → Result X StoreFault
after_header k (Ok other) means =
    if blocks_in other == blocks_in k then means else Err (faults.Header BadChunk)
after_header k (Err fault) means = Err (faults.Header fault)

-- The first exception at fault decides, where it is bad before it is a repeated one. A list that
-- goes on to the last entry of the last page has no end.
unfoldable pub judged : Chunk → ℕ → ℕ → ℕ → List Exception → Result (List Exception) StoreFault
judged k chunks bound slots es =
    unless_repeated (repeat_of (good_of k chunks bound es))
    (if nat_lt (length (good_of k chunks bound es)) (length es)
    then Err (faults.BadChunk (length (good_of k chunks bound es)))
    else (if nat_lt (length es) slots then Ok es else Err faults.Unended))

-- the exceptions of the store on these blocks, for a partition of so many blocks, or the fault
unfoldable pub scan_of : Chunk → List ℕ → ℕ → Image → Result (List Exception) StoreFault
scan_of k map bound image =
    if nat_lt (length map) 2
    then Err faults.Unended
    else
    after_header k (header_of (take 512 (chunk_bytes map image 0)))
    (judged k (chunks_of k map) (chunks_for k bound) (slots_of k map) (list_of k map image))

-- These exceptions are the store's: the same said of each entry.
pub record IsScan
    (k : Chunk)
    (map : List ℕ)
    (bound : ℕ)
    (image : Image)
    (es : List Exception) : Type 0 where
  pub fits : Fits k bound map es
  pub header : header_of (take 512 (chunk_bytes map image 0)) ≡ Ok k
  pub reads : (t : ℕ) → t < length es → slot_at k map image t ≡ exception_at es t
  pub stops : (slot_at k map image (length es)).new_chunk ≡ 0
