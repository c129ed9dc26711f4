-- What is read of a store's list.
use Rattle.std.specs.Prelude.{◌≡◌, ℕ, ◌≤◌, ◌<◌, List, ◌++◌, length, take, Bool, true, false, Option}
use Rattle.std.specs.Prelude.{Some, None, Result, Ok, Err}
use Rattle.vab_disk.specs.Disk.{Image}
use Rattle.vab_exceptions.specs.declared.area.Exception.{Exception}
use Rattle.vab_space.specs.declared.Chunk.{Chunk}
use Rattle.vab_space.specs.Chunks.{chunks_for, page_entries, page_block}
use Rattle.vab_exceptions.specs.Entries.{area_of}
use Rattle.vab_store.specs.declared.fault.StoreFault.{StoreFault}
use Rattle.vab_store.specs.declared.fault.StoreFault.TheVariants as faults
use Rattle.vab_store.specs.Layout.{chunks_of, chunk_bytes, slots_of}
use Rattle.vab_store.specs.View.{exception_at, Lies}
use Rattle.vab_store.specs.Scan.{lies, list_of, good_of, repeat_of, unless_repeated}
use Rattle.vab_scan.specs.declared.list.End.{End}
use Rattle.vab_scan.specs.declared.list.End.TheVariants.{Ended, Unended, Bad}

-- each of these exceptions lies in the partition and in the store
abbrev pub AllLie : Chunk → ℕ → ℕ → List Exception → Type 0
AllLie k chunks bound es = (j : ℕ) → j < length es
    → Lies k chunks bound (exception_at es j)

-- the exceptions before the first that doesn't lie there are added
pub record TakesTo (k : Chunk) (chunks bound : ℕ) (page old new : List Exception) (n : ℕ) : Type 0
  where
    pub within : n ≤ length page
    pub new_is : new ≡ old ++ take n page
    pub lie : (j : ℕ) → j < n → Lies k chunks bound (exception_at page j)

abbrev pub Takes : Chunk → ℕ → ℕ → List Exception → List Exception → List Exception → Bool → Type 0
Takes k chunks bound page old new true = TakesTo k chunks bound page old new (length page)
Takes k chunks bound page old new false = (n : ℕ)
    × TakesTo k chunks bound page old new n
    × (n < length page)
    × (lies k chunks bound (exception_at page n) ≡ false)

-- a page is read to its end, to the end of the list, or to the first that doesn't lie there
abbrev pub StepSo : Chunk
    → ℕ
    → ℕ
    → List Exception
    → List Exception
    → List Exception
    → Option End
    → Type 0
StepSo k chunks bound page old new None =
    TakesTo k chunks bound page old new (length page) × (page_entries ≤ length page)
StepSo k chunks bound page old new (Some Ended) =
    TakesTo k chunks bound page old new (length page) × (length page < page_entries)
StepSo k chunks bound page old new (Some Bad) = Takes k chunks bound page old new false
StepSo k chunks bound page old new (Some Unended) = ⊥

-- the exceptions of a page are added
pub record StepsOver
    (is_modelled : Type 0)
    (k : Chunk)
    (map : List ℕ)
    (bound : ℕ)
    (image : Image)
    (p : ℕ)
    (old new : List Exception)
    (end : Option End) : Type 0 where
  pub page : List Exception
  pub page_is : is_modelled
      → page ≡ area_of page_entries (chunk_bytes map image (page_block k p))
  pub few : length page ≤ page_entries
  pub step : StepSo k (chunks_of k map) (chunks_for k bound) page old new end

-- memory was refused, or the disk has failed
abbrev pub IsOutside : StoreFault → Type 0
IsOutside faults.NoMemory = Unit {0}
IsOutside faults.DiskFault = Unit {0}
IsOutside (faults.Header fault) = ⊥
IsOutside (faults.BadChunk j) = ⊥
IsOutside (faults.Repeated j k) = ⊥
IsOutside faults.Unended = ⊥

-- why no more was read than these of all exceptions of so many entries
abbrev pub EndsSo : ℕ → List Exception → List Exception → End → Type 0
EndsSo slots good es Bad = length good < length es
EndsSo slots good es Ended = (length es ≤ length good) × (length es < slots)
EndsSo slots good es Unended = (length es ≤ length good) × (slots ≤ length es)

-- what is read of a store's list
pub record IsFound (k : Chunk) (map : List ℕ) (bound : ℕ) (image : Image) (es : List Exception)
    (end : End)
    : Type 0 where
  pub good : es ≡ good_of k (chunks_of k map) (chunks_for k bound) (list_of k map image)
  pub ending : EndsSo (slots_of k map) es (list_of k map image) end

-- there is room behind a list that has ended
abbrev pub HasRoom : Chunk → List ℕ → List Exception → End → Type 0
HasRoom k map es Ended = length es < slots_of k map
HasRoom k map es Unended = Unit {0}
HasRoom k map es Bad = Unit {0}

-- what is read, over every disk
pub record IsKept (k : Chunk) (map : List ℕ) (bound : ℕ) (es : List Exception) (end : End) : Type 0
  where
    pub lie : AllLie k (chunks_of k map) (chunks_for k bound) es
    pub room : HasRoom k map es end

-- what the store means, by what was read of its list
abbrev pub answer_of : List Exception → End → Result (List Exception) StoreFault
answer_of es Ended = Ok es
answer_of es Unended = Err faults.Unended
answer_of es Bad = Err (faults.BadChunk (length es))

abbrev pub finished_of : List Exception → End → Result (List Exception) StoreFault
finished_of es end = unless_repeated (repeat_of es) (answer_of es end)

-- an answer with these exceptions, none of which shares a chunk with another
pub record IsFinished (es : List Exception) (end : End) (view : List Exception) : Type 0 where
  pub same : view ≡ es
  pub ended : end ≡ Ended
  pub once : repeat_of es ≡ None
