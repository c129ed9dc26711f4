-- What a sparse file means: the image, or the first fault from left to right (AOSP libsparse's
-- `sparse_format.h`). Numbers have the low byte first.
use Rattle.std.specs.Prelude.{ℕ, zero, suc, ◌+◌, ◌-◌, ◌*◌, ◌/◌, ◌%◌, Bool, not, ◌&&◌, ◌||◌, ◌==◌}
use Rattle.std.specs.Prelude.{◌≡◌, nat_lt, nat_le, if◌then◌else◌, List, [], ◌∷◌, ◌++◌, length, take}
use Rattle.std.specs.Prelude.{Option, Some, None, Result, Ok, Err}
use Rattle.std.specs.Int.{w16, w32}
use Rattle.std.specs.Str.{bytes_eq}
use Rattle.vab_bytes.specs.Number.{field, le_at}
use Rattle.vab_bytes.specs.Crc.{crc_of}
use Rattle.vab_sparse.specs.declared.head.Head.{Head}
use Rattle.vab_sparse.specs.declared.chunk.Kind.{Kind}
use Rattle.vab_sparse.specs.declared.chunk.Kind.TheVariants as kinds
use Rattle.vab_sparse.specs.declared.chunk.Chunk.{Chunk}
use Rattle.vab_sparse.specs.declared.fault.SparseFault.{SparseFault}
use Rattle.vab_sparse.specs.declared.fault.SparseFault.TheVariants as faults

infixl 10 ◌>>=◌
abbrev pub ◌>>=◌ : {A B : Type 0}
    → Result A SparseFault
    → (A → Result B SparseFault)
    → Result B SparseFault
(Ok x) >>= f = f x
(Err e) >>= f = Err e

-- What a function returned, seen by view, is what reading gives, unless memory was refused.
abbrev pub Fails : {Y : Type 0} → SparseFault → Result Y SparseFault → Type 0
Fails faults.NoMemory read = Unit {0}
Fails e read = read ≡ Err e

abbrev pub Gives : {X Y : Type 0} → (X → Y) → Result X SparseFault → Result Y SparseFault → Type 0
Gives view (Ok x) read = read ≡ Ok (view x)
Gives view (Err e) read = Fails e read

-- ---- the header

-- 0xED26FF3A
abbrev pub magic : List ℕ
magic = 58 ∷ 255 ∷ 38 ∷ 237 ∷ []

unfoldable pub is_sparse : List ℕ → Bool
is_sparse file = nat_le 4 (length file) && bytes_eq (take 4 file) magic

-- bytes: 4 the major version, 8 and 10 the sizes of this header and of a chunk's, 12 a block's,
-- 16 blocks of the image, 20 chunks of the file, 24 the image's checksum
abbrev pub head_at : List ℕ → Head
head_at file = record {
  size = le_at w16 file 8;
  chunk_header = le_at w16 file 10;
  block = le_at w32 file 12;
  blocks = le_at w32 file 16;
  chunks = le_at w32 file 20;
  checksum = le_at w32 file 24;
}

-- the bytes of the whole image
abbrev pub bytes_of : Head → ℕ
bytes_of head = head.blocks * head.block

unfoldable pub head_of : ℕ → List ℕ → Result Head SparseFault
head_of most file =
    if not (is_sparse file) then Err faults.NotSparse else
    if nat_lt (length file) 28 then Err (faults.Cut 0) else
    if not (le_at w16 file 4 == 1) then Err (faults.BadVersion (le_at w16 file 4)) else
    if nat_lt (head_at file).size 28 then Err (faults.BadHeader (head_at file).size) else
    if nat_lt (head_at file).chunk_header 12
    then Err (faults.BadChunkHeader (head_at file).chunk_header) else
    if nat_lt (head_at file).block 4 || not ((head_at file).block % 4 == 0)
    then Err (faults.BadBlock (head_at file).block) else
    if nat_lt most (bytes_of (head_at file))
    then Err (faults.TooLarge (bytes_of (head_at file))) else
    if nat_lt (length file) (head_at file).size then Err (faults.Cut 0)
    else Ok (head_at file)

-- ---- a chunk

unfoldable pub kind_of : ℕ → Option Kind
kind_of code =
    if code == 0xCAC1 then Some kinds.Raw
    else if code == 0xCAC2 then Some kinds.Fill
    else if code == 0xCAC3 then Some kinds.DontCare
    else if code == 0xCAC4 then Some kinds.Sum
    else None

-- the bytes behind a chunk's header: its blocks, a word, nothing, a sum
abbrev pub data_size : ℕ → Kind → ℕ → ℕ
data_size block kinds.Raw blocks = blocks * block
data_size block kinds.Fill blocks = 4
data_size block kinds.DontCare blocks = 0
data_size block kinds.Sum blocks = 4

-- the blocks of the image that it stands for
abbrev pub blocks_of : Kind → ℕ → ℕ
blocks_of kinds.Sum blocks = 0
blocks_of kind blocks = blocks

abbrev pub chunk_at : List ℕ → ℕ → Kind → Chunk
chunk_at file at kind = record {
  kind = kind;
  blocks = blocks_of kind (le_at w32 file (at + 4));
  size = le_at w32 file (at + 8);
}

abbrev pub judged : Head → List ℕ → ℕ → ℕ → Chunk → Result Chunk SparseFault
judged head file left at chunk =
    if nat_lt left chunk.blocks then Err (faults.TooManyBlocks at) else
    if not (chunk.size == head.chunk_header + data_size head.block chunk.kind chunk.blocks)
    then Err (faults.BadSize at) else
    if nat_lt (length file - at) chunk.size then Err (faults.Cut at)
    else Ok chunk

abbrev pub chunk_of_kind : Head → List ℕ → ℕ → ℕ → Option Kind → Result Chunk SparseFault
chunk_of_kind head file left at None = Err (faults.BadType at)
chunk_of_kind head file left at (Some kind) = judged head file left at (chunk_at file at kind)

-- the chunk whose header begins at a place, where so many blocks of the image are left
unfoldable pub chunk_of : Head → List ℕ → ℕ → ℕ → Result Chunk SparseFault
chunk_of head file left at =
    if nat_lt (length file - at) head.chunk_header then Err (faults.Cut at)
    else chunk_of_kind head file left at (kind_of (le_at w16 file at))

-- ---- what it stands for

-- a word so many times
unfoldable pub words_of : ℕ → List ℕ → List ℕ
words_of zero word = []
words_of (suc n) word = word ++ words_of n word

abbrev pub zero_word : List ℕ
zero_word = 0 ∷ 0 ∷ 0 ∷ 0 ∷ []

-- the words of four bytes of its blocks
abbrev pub words_in : Head → Chunk → ℕ
words_in head chunk = chunk.blocks * head.block / 4

-- what stands behind its header
abbrev pub data_of : Head → List ℕ → ℕ → Chunk → List ℕ
data_of head file at chunk = field file (at + head.chunk_header) (chunk.size - head.chunk_header)

abbrev pub image_with : Head → Chunk → ℕ → List ℕ → List ℕ → Kind → Result (List ℕ) SparseFault
image_with head chunk at body image kinds.Raw = Ok (image ++ body)
image_with head chunk at body image kinds.Fill = Ok (image ++ words_of (words_in head chunk) body)
image_with head chunk at body image kinds.DontCare =
    Ok (image ++ words_of (words_in head chunk) zero_word)
image_with head chunk at body image kinds.Sum =
    if le_at w32 body 0 == crc_of image then Ok image else Err (faults.BadSum at)

-- the image up to this chunk's end, of the image before it
unfoldable pub image_behind :
    Head
    → List ℕ
    → ℕ
    → Chunk
    → List ℕ
    → Result (List ℕ) SparseFault
image_behind head file at chunk image =
    image_with head chunk at (data_of head file at chunk) image chunk.kind

-- ---- the whole

-- behind the last chunk no block and no byte is left, and the checksum is none or the image's
unfoldable pub ended : Head → List ℕ → List ℕ → ℕ → ℕ → Result (List ℕ) SparseFault
ended head file image left at =
    if nat_lt 0 left then Err (faults.TooFewBlocks left) else
    if nat_lt at (length file) then Err (faults.Trailing at) else
    if not (head.checksum == 0) && not (head.checksum == crc_of image)
    then Err faults.BadChecksum
    else Ok image

-- this image and so many chunks more, from a place of the file on
unfoldable pub chunks_of :
    ℕ
    → Head
    → List ℕ
    → List ℕ
    → ℕ
    → ℕ
    → Result (List ℕ) SparseFault
chunks_of zero head file image left at = ended head file image left at
chunks_of (suc n) head file image left at = do
  chunk ← chunk_of head file left at
  next ← image_behind head file at chunk image
  chunks_of n head file next (left - chunk.blocks) (at + chunk.size)

-- an image of at most so many bytes, as one is whose header passed
unfoldable pub within : ℕ → List ℕ → Result (List ℕ) SparseFault
within most image =
    if nat_lt most (length image) then Err (faults.TooLarge (length image)) else Ok image

-- the image of a file, which has at most so many bytes
unfoldable pub image_of : ℕ → List ℕ → Result (List ℕ) SparseFault
image_of most file = do
  head ← head_of most file
  image ← chunks_of head.chunks head file [] head.blocks head.size
  within most image
