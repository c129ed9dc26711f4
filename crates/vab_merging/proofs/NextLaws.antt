-- Behind a run, the next is in the same store until it has no exception any more.
use Rattle.std.proofs.Common.{◌≡◌, ◌∙◌, ℕ, ◌-◌, ◌<◌, true, ap, arith}
use Rattle.std.specs.Prelude.{Some}
use Rattle.std.proofs.lemmas.Bool.{ltb-true}
use Rattle.vab_marks.specs.declared.mark.MarkPhase.TheVariants as marks
use Rattle.vab_device.specs.declared.device.Device.{Device}
use Rattle.vab_device.specs.declared.device.Part.{Part}
use Rattle.vab_device.specs.Kept.{IsDevice}
use Rattle.vab_device.specs.Mounted.{count_of}
use Rattle.vab_merging.specs.Turns.{next_of, part_at, cut_part, cut_at, has_exceptions}
use Rattle.vab_merging.proofs.TurnLaws.{count_cut, next_cut, part_cut_at}
use Rattle.vab_merging.proofs.RunLaws.{below}

pub next_behind : (d behind : Device) (size place n : ℕ)
    → IsDevice d size
    → d.mark.phase ≡ marks.Merging
    → next_of d ≡ Some place
    → behind ≡ cut_at place n d
    → has_exceptions (part_at behind place) ≡ true
    → next_of behind ≡ Some place
next_behind d behind size place n kept merging next is more =
    let p : Part = part_at d place in
    let then : part_at behind place ≡ cut_part n p =
    ap (λ (x : Device). part_at x place) is
    ∙ part_cut_at d place n (below d size place kept merging next) in
    let some : 0 < count_of (part_at behind place).image =
    ltb-true 0 (count_of (part_at behind place).image) more in
    let left : count_of (part_at behind place).image ≡ count_of p.image - n =
    ap (λ (x : Part). count_of x.image) then ∙ count_cut n p in
    ap next_of is ∙ next_cut d place n next (omega (arith, some, left))
