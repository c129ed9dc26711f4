use Rattle.std.proofs.Common.{◌≡◌, ◌∙◌, ℕ, ◌+◌, List, length, Some, sym, ap, arith}
use Rattle.std.specs.Prelude.{option_map}
use Rattle.vab_model.specs.Overlay.{store_of_size}
use Rattle.vab_model.proofs.Names.{full_long}
use Rattle.vab_names.specs.Names.{base_of}
use Rattle.vab_device.specs.declared.device.Part.{Part}
use Rattle.vab_device.specs.Kept.{part_named, parts_at}
use Rattle.vab_overlaying.proofs.CountLaws.{parts_present, parts_small, store_small}
use Rattle.vab_overlaying.proofs.JudgedLaws.{refuses_unknown, refuses_room}
use Rattle.vab_overlaying.proofs.prepared.measured.Goals as goal

pub base_of-requires : goal.base_of-requires
base_of-requires c =
    omega (
      arith,
      full_long c.args.device.now.mark.slot c.args.name.now c.requires.asked.full,
      ap length c.text.ensures.value,
    )

pub blocks_in-held-requires : goal.blocks_in-held-requires
blocks_in-held-requires c =
    let d = c.args.device.now in
    let parts : parts_at d d.mark.slot ≡ Some c.as_slice-parts.result.now =
    sym c.images.ensures ∙ ap (option_map (λ p. p.now)) c.in-Some.is
    ∙ ap (λ (l : List Part). Some l) (sym c.as_slice-parts.ensures) in
    omega (
      arith,
      parts_small d.tail.super_end c.as_slice-parts.result.now
          (parts_present d c.requires.kept.0 c.as_slice-parts.result.now c.requires.kept.1 parts),
    )

pub overflow_add-used : goal.overflow_add-used
overflow_add-used c =
    let d = c.args.device.now in
    let parts : parts_at d d.mark.slot ≡ Some c.as_slice-parts.result.now =
    sym c.images.ensures ∙ ap (option_map (λ p. p.now)) c.in-Some.is
    ∙ ap (λ (l : List Part). Some l) (sym c.as_slice-parts.ensures) in
    omega (
      arith,
      parts_small d.tail.super_end c.as_slice-parts.result.now
          (parts_present d c.requires.kept.0 c.as_slice-parts.result.now c.requires.kept.1 parts),
      store_small c.len.result c.args.size c.len.ensures.small c.ranges.size.fits,
      c.blocks_in-held.ensures,
      c.store_size-store.ensures,
    )

pub returns-in-None-place_of-clause-refused : goal.returns-in-None-place_of-clause-refused
returns-in-None-place_of-clause-refused c =
    let d = c.args.device.now in
    let parts : parts_at d d.mark.slot ≡ Some c.as_slice-parts.result.now =
    sym c.images.ensures ∙ ap (option_map (λ p. p.now)) c.in-Some.is
    ∙ ap (λ (l : List Part). Some l) (sym c.as_slice-parts.ensures) in
    let base : c.base_of.result.now ≡ base_of c.args.name.now =
    c.base_of.ensures ∙ ap base_of c.text.ensures.value in
    refuses_unknown d c.args.name.now c.args.size c.as_slice-parts.result.now c.requires.asked parts
    (ap (λ (b : List ℕ). part_named b c.as_slice-parts.result.now) (sym base)
    ∙ c.in-None-place_of.ensures.none)

pub returns-then-used-device-clause-refused : goal.returns-then-used-device-clause-refused
returns-then-used-device-clause-refused c =
    let d = c.args.device.now in
    let ps = c.as_slice-parts.result.now in
    let p = c.index-parts-at.result in
    let parts : parts_at d d.mark.slot ≡ Some ps =
    sym c.images.ensures ∙ ap (option_map (λ p. p.now)) c.in-Some.is
    ∙ ap (λ (l : List Part). Some l) (sym c.as_slice-parts.ensures) in
    let base : c.base_of.result.now ≡ base_of c.args.name.now =
    c.base_of.ensures ∙ ap base_of c.text.ensures.value in
    let named : part_named (base_of c.args.name.now) ps ≡ Some p =
    ap (λ (b : List ℕ). part_named b ps) (sym base)
    ∙ c.in-Some-place_of.ensures.some p
    ∙ ap (λ (q : Part). Some q) (sym c.index-parts-at.is) in
    refuses_room d c.args.name.now c.args.size (c.blocks_in-held.result + c.store_size-store.result)
    c.store_size-store.result ps p c.requires.asked parts named
    (c.store_size-store.ensures
    ∙ ap (λ (k : ℕ). store_of_size k c.args.size)
    (c.len.ensures.count ∙ ap (λ (q : Part). length q.map) (sym c.index-parts-at.is)))
    (ap (λ (k : ℕ). k + c.store_size-store.result) c.blocks_in-held.ensures)
    (omega (arith, c.if-used-device.true))
