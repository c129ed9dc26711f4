use Rattle.std.proofs.Common.{◌≡◌, [], drop, map, string_bytes}
use Rattle.vab_pack.specs.Words.{asked_behind}
use Rattle.vab_pack.proofs.words.parse_all.Given as goal

abbrev pub invariant-loop-word : goal.invariant-loop-word
invariant-loop-word l = asked_behind l.entries.items (map string_bytes (drop l.word-index l.words))
    ≡ asked_behind [] (map string_bytes l.words)
