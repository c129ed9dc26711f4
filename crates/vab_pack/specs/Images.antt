-- The images of files.
use Rattle.std.specs.Prelude.{◌≡◌, ℕ, ◌+◌, ◌*◌, ◌/◌, nat_le, if◌then◌else◌, List, length, map, All}
use Rattle.std.specs.Prelude.{Option, Some, None, unwrap_or}
use Rattle.vab_set.specs.declared.set.SetImage.{SetImage}
use Rattle.vab_set.specs.Spelling.{IsImage, IsSet}
use Rattle.vab_pack.specs.Asked.{Asked}

-- bytes of the fewest blocks of 4096 bytes that hold so many
abbrev pub whole_blocks : ℕ → ℕ
whole_blocks len = (len + 4095) / 4096 * 4096

-- the bytes of the partition for a file of this length
abbrev pub size_for : Asked → ℕ → ℕ
size_for asked len = whole_blocks (unwrap_or asked.size len)

-- the image with the bytes of a file, where its partition holds them
unfoldable pub image_of : Asked → List ℕ → Option SetImage
image_of asked bytes =
    if nat_le (length bytes) (size_for asked (length bytes)) then Some (record {
      name = asked.name;
      size = size_for asked (length bytes);
      store = asked.store;
      bytes = bytes;
    })
    else None

-- images of the names that are asked for are a set, where each of them can stand in one
abbrev pub NamesOfSet : List Asked → Type 0
NamesOfSet asked =
    (images : List SetImage)
    → map (λ i. i.name) images ≡ map (λ a. a.name) asked
    → All IsImage images
    → IsSet images
