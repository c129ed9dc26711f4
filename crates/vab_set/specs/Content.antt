-- The bytes that an image has.
use Rattle.std.specs.Prelude.{ℕ, List}
use Rattle.vab_set.specs.declared.content.Held.{Held}
use Rattle.vab_set.specs.declared.content.Held.TheVariants as held

abbrev pub bytes_of : Held → List ℕ
bytes_of (held.Own bytes) = bytes.items
bytes_of (held.Part bytes) = bytes.now
