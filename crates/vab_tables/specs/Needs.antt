-- How many of the first bytes of a text decide what it means.
use Rattle.std.specs.Prelude.{ℕ, Bool, ◌&&◌, nat_le, if◌then◌else◌, List}
use Rattle.vab_tables.specs.Text.{text_size_of}
use Rattle.vab_tables.specs.Reading.{has_header, has_version, has_header_sum}

-- the header is there, of a version that is read, and has its sum
unfoldable pub has_whole_header : List ℕ → Bool
has_whole_header text = has_header text && has_version text && has_header_sum text

-- where the header is whole, those of header and tables, if they are at most the maximum; else none
-- behind the 256 of the longest header
unfoldable pub need_of : ℕ → List ℕ → ℕ
need_of max text =
    if has_whole_header text && nat_le (text_size_of text) max then text_size_of text else 0
