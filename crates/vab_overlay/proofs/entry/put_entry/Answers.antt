use Rattle.std.proofs.Common.{◌≡◌, ◌∙◌, ◌+◌, ◌*◌, ap, List, ℕ, length, rules}
use Rattle.std.specs.Int.{w64, to_le_bytes}
use Rattle.vab_bytes.specs.Number.{put_at}
use Rattle.vab_overlay.proofs.PutLaws.{put_is}
use Rattle.vab_overlay.proofs.entry.put_entry.Goals as goal

pub returns : goal.returns
returns c =
    let i : ℕ = c.args.i in
    let long : length c.args.sector.now ≡ 512 = search rules in
    put_is i c.args.exception c.args.sector.now c.put_le64-2.new.b long c.requires (search rules)
    (c.put_le64-2.ensures
    ∙ ap (λ (b : List ℕ). put_at b (16 * i + 8) (to_le_bytes w64 c.args.exception.new_chunk))
    c.put_le64.ensures)
