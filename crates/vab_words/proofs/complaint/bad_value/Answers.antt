use Rattle.std.proofs.Common.{◌≡◌, ◌∙◌, List, ℕ, false, length, map, string_bytes, refl, sym, ap}
use Rattle.std.proofs.Common.{rules}
use Rattle.std.specs.Prelude.{option_map}
use Rattle.std.proofs.lemmas.Option.{slice_get-map, slice_get_read}
use Rattle.vab_words.specs.Complaints.{is_value}
use Rattle.vab_words.proofs.complaint.bad_value.Goals as goal

pub loop-index-init : goal.loop-index-init
loop-index-init c = tt

pub returns-then-not-takes : goal.returns-then-not-takes
returns-then-not-takes c =
    let word = c.index-words-index.result in
    let bad : is_value c.in-Some.value c.as_str.result.now ≡ false = search rules in (
      string_bytes word,
      slice_get-map string_bytes c.args.words.now c.loop-index.index
          ∙ ap (option_map string_bytes)
          (slice_get_read c.args.words.now (length c.args.words.now) c.loop-index.index word refl
          c.loop-index-test.true c.index-words-index.is),
      ap (is_value c.in-Some.value) (sym c.as_str.ensures.value) ∙ bad,
    )

pub loop-index-preserved : goal.loop-index-preserved
loop-index-preserved c = tt
