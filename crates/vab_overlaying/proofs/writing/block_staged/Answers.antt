use Rattle.std.proofs.Common.{◌≡◌, ◌∙◌, ℕ, List, Some, None, length, sym, ap, Option, Bor}
use Rattle.std.proofs.Common.{arith, option_map}
use Rattle.std.proofs.lemmas.Bool.{ne_eqb}
use Rattle.vab_disk.specs.Disk.{Image}
use Rattle.vab_model.specs.declared.command.Refusal.{Refusal}
use Rattle.vab_model.specs.declared.command.Refusal.TheVariants as refusals
use Rattle.vab_model.specs.Commands.{OverlayWrite}
use Rattle.vab_model.specs.Effects.{refuses}
use Rattle.vab_device.specs.declared.device.Device.{Device}
use Rattle.vab_device.specs.Mounted.{mounted_on}
use Rattle.vab_device.specs.Updates.{effect_on}
use Rattle.vab_overlaying.proofs.WriteRowLaws.{not_overlaid, nothing_staged, bad_length, bad_block}
use Rattle.vab_overlaying.proofs.WriteRowLaws.{overlaid_on, over_long}
use Rattle.vab_overlaying.proofs.writing.block_staged.Goals as goal

pub returns-in-None-clause-refused : goal.returns-in-None-clause-refused
returns-in-None-clause-refused c = λ size image dev whole.
    not_overlaid c.args.device.now image c.args.block _ c.in-None.is

-- with what was staged
with_staged : (d : Device) (image : Image) (block : ℕ) (staged : Option (Bor (List ℕ)))
    (given : Option (List ℕ)) (refusal : Refusal)
    → option_map (λ (s : Bor (List ℕ)). s.now) staged ≡ given
    → effect_on (mounted_on d image) given (OverlayWrite block) ≡ refuses refusal
    → effect_on (mounted_on d image) (option_map (λ (s : Bor (List ℕ)). s.now) staged)
    (OverlayWrite block)
    ≡ refuses refusal
with_staged d image block staged given refusal is row =
    ap (λ (x : Option (List ℕ)). effect_on (mounted_on d image) x (OverlayWrite block)) is ∙ row

pub returns-in-None-staged-clause-refused : goal.returns-in-None-staged-clause-refused
returns-in-None-staged-clause-refused c = λ size image dev whole.
    let d = c.args.device.now in
    with_staged d image c.args.block c.args.staged None refusals.NothingStaged
    (ap (option_map (λ (s : Bor (List ℕ)). s.now)) c.in-None-staged.is)
    (nothing_staged d image c.args.block c.in-Some.part c.in-Some.is)

pub returns-then-bytes-ne-BLOCK-clause-refused : goal.returns-then-bytes-ne-BLOCK-clause-refused
returns-then-bytes-ne-BLOCK-clause-refused c = λ size image dev whole.
    let d = c.args.device.now in
    let bytes : List ℕ = c.in-Some-staged.bytes.now in
    with_staged d image c.args.block c.args.staged (Some bytes)
    (refusals.BadLength (length bytes))
    (ap (option_map (λ (s : Bor (List ℕ)). s.now)) c.in-Some-staged.is)
    (bad_length d image c.args.block c.in-Some.part c.in-Some.is bytes
    (ne_eqb (length bytes) 4096 c.if-bytes-ne-BLOCK.true))

pub returns-then-block-blocks-clause-refused : goal.returns-then-block-blocks-clause-refused
returns-then-block-blocks-clause-refused c = λ size image dev whole.
    let d = c.args.device.now in
    let p = c.in-Some.part in
    let bytes : List ℕ = c.in-Some-staged.bytes.now in
    let count = c.len-blocks.ensures.count in
    let on = overlaid_on d size p dev c.in-Some.is in
    let long : length bytes ≡ 4096 = c.if-bytes-ne-BLOCK.false in
    with_staged d image c.args.block c.args.staged (Some bytes)
    (refusals.BadBlock c.args.block c.len-blocks.result)
    (ap (option_map (λ (s : Bor (List ℕ)). s.now)) c.in-Some-staged.is)
    (bad_block d image c.args.block p c.in-Some.is bytes long
    (over_long d.tail.super_end on.0 p on.2 size dev.ends image whole)
    (omega (arith, c.if-block-blocks.true, count))
    ∙ ap (λ (n : ℕ). refuses (refusals.BadBlock c.args.block n)) (sym count))
