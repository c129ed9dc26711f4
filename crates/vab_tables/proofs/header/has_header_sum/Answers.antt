use Rattle.std.proofs.Common.{◌≡◌, ℕ, List, Bool, take, drop, ◌++◌, refl, ◌∙◌}
use Rattle.std.proofs.lemmas.List.{take_rest}
use Rattle.std.specs.Str.{bytes_eq}
use Rattle.vab_tables.specs.Reading.{has_header_sum}
use Rattle.vab_tables.specs.Text.{header_sum_at, blank_header, sum_of, no_sum, header_size_at}
use Rattle.vab_tables.proofs.header.has_header_sum.Goals as goal

judged : (r : Bool) (text s back : List ℕ) (size : ℕ) → size ≡ header_size_at text
    → back ≡ drop 44 (take size text) → s ≡ sum_of (take 12 text ++ no_sum ++ back)
    → r ≡ bytes_eq (take 32 (drop 12 text)) s → r ≡ has_header_sum text
unfolding has_header_sum header_sum_at blank_header
judged r text s back size e1 e2 e3 e4 = rw (e4, e3, e2, e1) refl

pub returns : goal.returns
returns c =
    judged c.eq.result c.args.text.now c.as_slice.result.now _ c.header_size.result
    c.header_size.ensures (take_rest (take c.header_size.result c.args.text.now) 44)
    (c.as_slice.ensures ∙ c.sum_around-sum.ensures) c.eq.ensures
